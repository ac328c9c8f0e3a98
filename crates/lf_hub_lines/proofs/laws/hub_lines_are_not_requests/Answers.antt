use Rattle.lf_hub_lines.proofs.OwnWords.{not_requests}
use Rattle.lf_hub_lines.proofs.laws.hub_lines_are_not_requests.Goals as goal

pub returns : goal.returns
returns c = not_requests
