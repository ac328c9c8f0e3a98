use Rattle.lf_def.proofs.PrintedAfter.{words_begin}
use Rattle.lf_def.proofs.laws.printed_words_are_read.Goals as goal

pub returns : goal.returns
returns c = λ words rest h. words_begin words rest h
