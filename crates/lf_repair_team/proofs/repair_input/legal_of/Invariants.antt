use Rattle.std.proofs.Common.{◌≡◌, List, ℕ, Some}
use Rattle.lf_floor_model.specs.Teams.{team_number}
use Rattle.lf_repair_team.proofs.Marking.{AreMarkedTo}
use Rattle.lf_repair_team.proofs.repair_input.legal_of.Given as goal

abbrev pub invariant-loop-id : goal.invariant-loop-id
invariant-loop-id g l = (team : List ℕ) → team_number l.floor.frame team ≡ Some l.number → AreMarkedTo team l.floor l.id-index l.legal.items
