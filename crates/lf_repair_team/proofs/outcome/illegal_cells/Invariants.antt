use Rattle.std.proofs.Common.{ℕ}
use Rattle.std.specs.Prelude.{All}
use Rattle.lf_repair_team.specs.TeamRepairs.{IsIllegalIn}
use Rattle.lf_repair_team.proofs.Finding.{IsLegalIfKnown}
use Rattle.lf_repair_team.proofs.Lists.{AreNamedTo, RisesTo}
use Rattle.lf_repair_team.proofs.outcome.illegal_cells.Given as goal

abbrev pub invariant-loop-id : goal.invariant-loop-id
invariant-loop-id g l = record {
  named : AreNamedTo (IsLegalIfKnown l.session.team.now l.floor) l.id-index l.left.items;
  illegal : All (λ (own : ℕ). IsIllegalIn l.floor l.session.team.now own) l.left.items;
  rise : RisesTo l.id-index l.left.items;
}
