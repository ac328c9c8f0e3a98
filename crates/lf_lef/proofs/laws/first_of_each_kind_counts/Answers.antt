use Rattle.lf_lef.proofs.FirstStatements.{sites_are_kept, pins_are_kept, macros_are_kept, library_grows}
use Rattle.lf_lef.proofs.laws.first_of_each_kind_counts.Goals as goal

pub returns : goal.returns
returns c = record {
  site = λ name old new l m. sites_are_kept name old l new m;
  pin = λ name old new l m. pins_are_kept name old l new m;
  cell = λ name old new l m. macros_are_kept name old l new m;
  text = λ old new l m. library_grows old l new m;
}
