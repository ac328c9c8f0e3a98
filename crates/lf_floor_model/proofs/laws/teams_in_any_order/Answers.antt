use Rattle.lf_floor_model.proofs.TeamOrder.{any_order}
use Rattle.lf_floor_model.proofs.laws.teams_in_any_order.Goals as goal

pub returns : goal.returns
returns c = λ l old a b commands others replies answers run other same. any_order l old a b commands others replies answers run other same
