use Rattle.lf_hub.specs.World.{run, start}
use Rattle.std.proofs.Common.{arith}
use Rattle.lf_hub.proofs.Kept.{kept_start}
use Rattle.lf_hub.proofs.Bounds.{bounded, bounded_run}
use Rattle.lf_hub.proofs.laws.memory_is_bounded.Goals as goal

pub returns : goal.returns
returns c = λ events runs. bounded (run events start) (bounded_run events start kept_start runs (λ i h. absurd (omega arith)))
