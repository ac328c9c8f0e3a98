use Rattle.lf_write.proofs.Reading.{reads_back, have_places}
use Rattle.lf_write.proofs.laws.exports_read_back.Goals as goal

pub returns : goal.returns
returns c = λ text d places e rise fit. reads_back places (have_places places fit) text d e rise
