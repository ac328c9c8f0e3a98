use Rattle.lf_lef.proofs.Following.{symmetry_word_goes, site_statement_goes, port_statement_goes, pin_statement_goes, passed_statement_goes, macro_statement_goes}
use Rattle.lf_lef.proofs.Whole.{statement_goes}
use Rattle.lf_lef.proofs.laws.lef_statements_take_tokens.Goals as goal

pub returns : goal.returns
returns c = record { symmetry = symmetry_word_goes; site = site_statement_goes; port = port_statement_goes; pin = pin_statement_goes; passed = passed_statement_goes; cell = macro_statement_goes; text = statement_goes }
