use Rattle.lf_lex.proofs.Runs.{reads_alike}
use Rattle.lf_lef.specs.Sites.{site_parts, no_site_parts}
use Rattle.lf_lef.specs.Macros.{macro_parts, no_macro_parts}
use Rattle.lf_lef.proofs.Following.{site_statements_follow, macro_statements_follow}
use Rattle.lf_lef.proofs.laws.lef_statements_read_alike.Goals as goal

pub returns : goal.returns
returns c = record {
  site = λ name. reads_alike (site_parts name) (site_statements_follow name no_site_parts);
  cell = λ name. reads_alike (macro_parts name) (macro_statements_follow name no_macro_parts);
}
