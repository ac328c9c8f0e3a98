use Rattle.std.proofs.Common.{◌≡◌, FitsSigned, w64, rules, subst, sym, to_z, of_z}
use Rattle.lf_rules.specs.Padding.{IsShort}
use Rattle.lf_rules.proofs.PaddingLemmas.{short_length}
use Rattle.lf_rules.proofs.padding.Padding.length.Goals as goal

pub returns-clause-short : goal.returns-clause-short
returns-clause-short c =
    let fits : FitsSigned w64 c.length_in.result = search rules in
    let is : to_z w64 (of_z w64 c.length_in.result) ≡ c.length_in.result = search rules in
    subst IsShort (sym is) (subst IsShort (sym c.length_in.ensures) (short_length c.args.frame.now c.args.self.sites c.args.self.most))
