use Rattle.lf_def.proofs.PrintedNumbers.{decimals_are_read, decimals_are_words}
use Rattle.lf_def.proofs.laws.decimal_numbers_are_read.Goals as goal

pub returns : goal.returns
returns c = record { numbers = λ x h. decimals_are_read x h; words = λ x h. decimals_are_words x h }
