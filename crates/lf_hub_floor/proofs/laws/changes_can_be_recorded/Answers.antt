use Rattle.lf_hub_floor.proofs.Runs.{changes_are_lines}
use Rattle.lf_hub_floor.proofs.laws.changes_can_be_recorded.Goals as goal

pub returns : goal.returns
returns c = changes_are_lines
