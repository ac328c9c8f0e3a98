use Rattle.lf_repair_team.proofs.Finding.{IsLegalIfKnown}
use Rattle.std.proofs.Common.{ℕ, ◌<◌}
use Rattle.lf_repair_team.proofs.repair_input.is_team_legal.Given as goal

abbrev pub invariant-loop-id : goal.invariant-loop-id
invariant-loop-id g l = (own : ℕ) → own < l.id-index → IsLegalIfKnown l.team l.floor own
