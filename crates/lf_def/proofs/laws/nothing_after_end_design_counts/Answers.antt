use Rattle.lf_def.proofs.Kept.{ends_before}
use Rattle.lf_def.proofs.laws.nothing_after_end_design_counts.Goals as goal

pub returns : goal.returns
returns c = λ text. ends_before text
