use Rattle.lf_floor_model.proofs.Journals.{leave_out}
use Rattle.lf_floor_model.proofs.laws.queries_and_refusals_are_omittable.Goals as goal

pub returns : goal.returns
returns c = λ l old new commands replies run marks lasting. leave_out l marks commands replies old new run lasting
