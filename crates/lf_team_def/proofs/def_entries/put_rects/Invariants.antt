use Rattle.std.proofs.Common.{take}
use Rattle.std.specs.List.{flat_map}
use Rattle.lf_lex.specs.Splices.{spaced}
use Rattle.lf_io.specs.Output.{PutsText}
use Rattle.lf_team_def.specs.TeamText.{team_rect_words}
use Rattle.lf_team_def.proofs.def_entries.put_rects.Given as goal

abbrev pub invariant-loop-rect : goal.invariant-loop-rect
invariant-loop-rect g l = PutsText g.O.Output.took l.fn.out l.out (flat_map (λ r. spaced (team_rect_words r)) (take l.rect-index l.rects))
