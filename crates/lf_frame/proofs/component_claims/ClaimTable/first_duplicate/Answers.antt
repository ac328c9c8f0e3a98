use Rattle.std.proofs.Common.{ap, subst, sym}
use Rattle.lf_frame.specs.Entries.{FirstIs}
use Rattle.lf_frame.specs.ClaimTables.{ClaimFacts}
use Rattle.lf_frame.specs.ClaimRefusals.{HasEarlierName}
use Rattle.lf_frame.proofs.component_claims.ClaimTable.first_duplicate.Goals as goal

pub returns : goal.returns
returns c = λ regions groups components table. subst (FirstIs HasEarlierName components) (sym (ap (λ (t : ClaimFacts). t.second) c.self.view_is)) table.second
