use Rattle.lf_lef.proofs.PrintedLibrary.{skips_statements}
use Rattle.lf_lef.proofs.laws.skipped_statements_play_no_part.Goals as goal

pub returns : goal.returns
returns c = skips_statements
