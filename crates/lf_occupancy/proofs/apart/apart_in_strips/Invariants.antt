use Rattle.std.proofs.Common.{[], get_or}
use Rattle.std.specs.Prelude.{All}
use Rattle.lf_occupancy.specs.Views.{OverlapsNoBox}
use Rattle.lf_occupancy.proofs.apart.apart_in_strips.Given as goal

-- the cells found in the strips visited overlap no other
abbrev pub invariant-loop-n : goal.invariant-loop-n
invariant-loop-n l = All (OverlapsNoBox (get_or l.marked.boxes.now l.team []) l.padding.length) l.apart.items
