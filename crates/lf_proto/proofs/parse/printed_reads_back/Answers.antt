use Rattle.lf_proto.proofs.Printing.{reads_back}
use Rattle.lf_proto.proofs.parse.printed_reads_back.Goals as goal

pub returns : goal.returns
returns c = reads_back c.names_read_back.ensures c.parts_join.ensures.listed
