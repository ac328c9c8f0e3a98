use Rattle.std.proofs.Common.{ℕ, ◌<◌}
use Rattle.lf_repair_team.specs.CellEdits.{IsAtTargetOrOffSoft}
use Rattle.lf_repair_team.proofs.misplaced_pass.are_off_soft.Given as goal

abbrev pub invariant-loop-own : goal.invariant-loop-own
invariant-loop-own g l = (own : ℕ) → own < l.own → IsAtTargetOrOffSoft l.session.team.now l.targets l.floor own
