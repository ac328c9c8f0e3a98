use Rattle.std.proofs.Common.{take}
use Rattle.std.specs.List.{flat_map}
use Rattle.lf_cells.specs.Cells.{cell_at}
use Rattle.lf_team_def.specs.Entries.{component_line}
use Rattle.lf_io.specs.Output.{PutsText}
use Rattle.lf_team_def.proofs.def_entries.put_components.Given as goal

abbrev pub invariant-loop-id : goal.invariant-loop-id
invariant-loop-id g l = PutsText g.O.Output.took l.fn.out l.out (flat_map (λ id. component_line l.fn.frame (cell_at l.fn.cells id)) (take l.id-index l.id-items))
