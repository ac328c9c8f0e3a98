use Rattle.std.proofs.Common.{◌≡◌, List, ℕ, ◌++◌, sym, ap, subst, ◌∙◌}
use Rattle.lf_names.specs.Pattern.{parts_of, bytes_before_star, prefix_of}
use Rattle.lf_names.proofs.Parts.{before_star, before_no_star, begins_before_star}
use Rattle.lf_names.proofs.pattern.Pattern.prefix.Goals as goal

pub returns-in-Some-clause-prefix : goal.returns-in-Some-clause-prefix
returns-in-Some-clause-prefix c =
    let P : List ℕ → Type 0 = λ pattern. c.in-Some.before.now ≡ prefix_of pattern in
    subst P c.self.view_is (sym (ap bytes_before_star c.in-Some.ensures.parts ∙ before_star c.in-Some.before.now (parts_of c.in-Some.field-0-1.now)))

pub returns-in-Some-clause-begins : goal.returns-in-Some-clause-begins
returns-in-Some-clause-begins c = λ name h.
    let more = begins_before_star (parts_of c.args.self.now) name h in
    (more.0, more.1 ∙ ap (λ l. l ++ more.0) (sym (returns-in-Some-clause-prefix c)))

pub returns-in-None-clause-prefix : goal.returns-in-None-clause-prefix
returns-in-None-clause-prefix c =
    let P : List ℕ → Type 0 = λ pattern. c.self.inside.bytes.now ≡ prefix_of pattern in
    subst P c.self.view_is (sym (ap bytes_before_star c.in-None.ensures.parts ∙ before_no_star c.self.inside.bytes.now))

pub returns-in-None-clause-begins : goal.returns-in-None-clause-begins
returns-in-None-clause-begins c = λ name h.
    let more = begins_before_star (parts_of c.args.self.now) name h in
    (more.0, more.1 ∙ ap (λ l. l ++ more.0) (sym (returns-in-None-clause-prefix c)))
