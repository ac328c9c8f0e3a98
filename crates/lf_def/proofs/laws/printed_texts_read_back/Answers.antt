use Rattle.lf_def.proofs.PrintedTexts.{parts_read_back}
use Rattle.lf_def.proofs.laws.printed_texts_read_back.Goals as goal

pub returns : goal.returns
returns c = λ print writes parts. parts_read_back print writes parts
