use Rattle.std.proofs.Common.{ℕ, List, refl, sym, ap, ◌∙◌, take}
use Rattle.std.proofs.lemmas.List.{take-map}
use Rattle.lf_lef.proofs.Lists.{first_sites, first_macros}
use Rattle.lf_lef.proofs.library.Library.truncate.Goals as goal

pub invariant_of-self : goal.invariant_of-self
invariant_of-self c =
    let l = c.self.inside in (
      c.truncate-2.ensures ∙ ap (λ (x : List (List ℕ)). take c.args.sites x) c.self.invariant.0 ∙ take-map _ c.args.sites l.sites.items ∙ sym (rw c.truncate.ensures.items refl),
      c.truncate-4.ensures ∙ ap (λ (x : List (List ℕ)). take c.args.macros x) c.self.invariant.1 ∙ take-map _ c.args.macros l.macros.items ∙ sym (rw c.truncate-3.ensures.items refl),
      rw c.truncate.ensures.items (first_sites c.args.sites l.sites.items c.self.invariant.2),
      rw c.truncate-3.ensures.items (first_macros c.args.macros l.macros.items c.self.invariant.3),
    )
