use Rattle.std.proofs.Common.{rules, ◌≡◌, ap, ◌∙◌}
use Rattle.lf_proto.specs.Numbers.{◌>>=◌, padding_at}
use Rattle.lf_proto.proofs.Places.{padding_at-of}
use Rattle.lf_proto.proofs.numbers.padding_of.Goals as goal

pub returns : goal.returns
returns c =
    let same : c.in_ok-sites.sites ≡ c.in_ok-digits_of.field-0 = search rules in
    padding_at-of c.new.result c.in_ok-sites.sites c.new.ensures
    ∙ (ap padding_at same ∙ ap (λ o. o >>= padding_at) c.in_ok-digits_of.ensures)
