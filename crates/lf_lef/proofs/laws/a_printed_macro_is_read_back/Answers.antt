use Rattle.lf_lef.proofs.PrintedLibrary.{reads_macro, reads_macro_of}
use Rattle.lf_lef.proofs.laws.a_printed_macro_is_read_back.Goals as goal

pub returns : goal.returns
returns c = record { one_pin = reads_macro; any_statements = reads_macro_of }
