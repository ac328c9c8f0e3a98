use Rattle.std.proofs.Common.{◌↔◌, IsTrue, List, ℕ, subst}
use Rattle.lf_names.specs.Pattern.{parts_of, IsLiteral}
use Rattle.lf_names.proofs.Parts.{own_bytes, none_means_literal}
use Rattle.lf_names.proofs.pattern.Pattern.is_literal.Goals as goal

pub returns-clause-literal : goal.returns-clause-literal
returns-clause-literal c =
    let P : List ℕ → Type 0 = λ pattern. IsTrue c.is_none.result ↔ IsLiteral pattern in
    subst P c.self.view_is (none_means_literal c.self.inside.bytes.now c.split_at_star.result c.split_at_star.ensures.parts c.is_none.result c.is_none.ensures)

pub returns-clause-own_bytes : goal.returns-clause-own_bytes
returns-clause-own_bytes c = λ t name.
    own_bytes (parts_of c.args.self.now) c.args.self.now name ((returns-clause-literal c).0 t)
