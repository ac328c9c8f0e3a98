use Rattle.std.proofs.Common.{◌≡◌, List, ℕ, ◌++◌, sym, ap, subst, ◌∙◌}
use Rattle.lf_names.specs.Pattern.{parts_of, suffix_of}
use Rattle.lf_names.proofs.Parts.{ends_after_star}
use Rattle.lf_names.proofs.pattern.Pattern.suffix.Goals as goal

pub returns-clause-suffix : goal.returns-clause-suffix
returns-clause-suffix c =
    let P : List ℕ → Type 0 = λ pattern. c.after_last_star.result.now ≡ suffix_of pattern in
    subst P c.self.view_is c.after_last_star.ensures

pub returns-clause-ends : goal.returns-clause-ends
returns-clause-ends c = λ name h.
    let more = ends_after_star (parts_of c.args.self.now) name h in
    (more.0, more.1 ∙ ap (λ l. more.0 ++ l) (sym (returns-clause-suffix c)))
