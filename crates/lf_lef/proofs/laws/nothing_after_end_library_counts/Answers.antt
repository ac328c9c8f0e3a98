use Rattle.lf_lef.proofs.Whole.{ends_before}
use Rattle.lf_lef.proofs.laws.nothing_after_end_library_counts.Goals as goal

pub returns : goal.returns
returns c = λ old new text. ends_before old new text
