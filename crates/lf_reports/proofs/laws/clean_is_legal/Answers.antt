use Rattle.lf_reports.proofs.CleanLemmas.{clean_is_legal}
use Rattle.lf_reports.proofs.laws.clean_is_legal.Goals as goal

pub returns : goal.returns
returns c l f cells all = clean_is_legal l f cells all
