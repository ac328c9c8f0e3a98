use Rattle.lf_lef.proofs.PrintedLibrary.{reads_site, reads_site_of}
use Rattle.lf_lef.proofs.laws.a_printed_site_is_read_back.Goals as goal

pub returns : goal.returns
returns c = record { three_statements = reads_site; any_statements = reads_site_of }
