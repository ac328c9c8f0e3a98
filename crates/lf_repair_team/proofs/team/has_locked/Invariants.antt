use Rattle.std.proofs.Common.{take}
use Rattle.lf_repair_team.specs.CellEdits.{NoneIsFlagged}
use Rattle.lf_repair_team.proofs.team.has_locked.Given as goal

abbrev pub invariant-loop-own : goal.invariant-loop-own
invariant-loop-own l = NoneIsFlagged l.input.pass.locked.items (take l.own-index l.cells)
