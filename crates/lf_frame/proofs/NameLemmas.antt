-- The names of components, in a table or joined.
use Rattle.std.proofs.Common.{◌≡◌, ◌≢◌, ℕ, ◌+◌, ◌<◌, List, [], ◌∷◌, ◌++◌, length, take, get_or, AllPairs, sym, ◌∙◌, ap, arith}
use Rattle.std.specs.Prelude.{Any, Contains}
use Rattle.std.proofs.lemmas.Grind.{common_steps}
use Rattle.std.proofs.lemmas.List.{get_or_default}
use Rattle.lf_def.specs.declared.components.Component.{Component}
use Rattle.lf_frame.specs.Entries.{NoneBreaks}
use Rattle.lf_frame.specs.ClaimRefusals.{HasEarlierName}
use Rattle.lf_frame.specs.ComponentNames.{component_names as names_of}

pub name_at : (components : List Component) (k : ℕ) (d : Component) (e : List ℕ) → k < length components →
    get_or (names_of components) k e ≡ (get_or components k d).name
name_at components k d e within = grind (arith, common_steps)

pub many_names : (components : List Component) → length (names_of components) ≡ length components
many_names components = grind (arith, common_steps)

pub bears_known : (components : List Component) (name : List ℕ) → Any (λ c. c.name ≡ name) components → Contains (names_of components) name
bears_known components name (k, c, within, is, same) =
    let there : k < length (names_of components) = omega (arith, many_names components) in
    (k, there, name_at components k c name within ∙ ap (λ (d : Component). d.name) is ∙ same)

pub known_borne : (components : List Component) (d : Component) (name : List ℕ) → Contains (names_of components) name → Any (λ c. c.name ≡ name) components
known_borne components d name (k, within, is) =
    let inside : k < length components = omega (arith, many_names components) in
    (k, get_or components k d, inside, grind (arith, common_steps), sym (name_at components k d name inside) ∙ is)

pub names_more : (components : List Component) (n : ℕ) (c : Component) → n < length components → c ≡ get_or components n c →
    names_of (take n components) ++ c.name ∷ [] ≡ names_of (take (n + 1) components)
names_more components n c within is = grind (arith, common_steps)

-- If no component has the name of an earlier one, all names differ.
pub names_apart : (components : List Component) (d : Component) → NoneBreaks HasEarlierName components →
    AllPairs (λ name later. name ≢ later) (names_of components)
names_apart components d none i j e below within same =
    let after_it : j < length components = omega (arith, many_names components) in
    let early : i < length (take j components) = grind (arith, common_steps) in
    let there : get_or (take j components) i (get_or components i d) ≡ get_or components i d = grind (arith, common_steps, get_or_default components i (get_or components i d) d) in
    none j d after_it (i, get_or components i d, early, there, sym (name_at components i d e (omega arith)) ∙ same ∙ name_at components j d e after_it)

-- If all names differ, no component has the name of an earlier one.
pub differ_none : (components : List Component) → AllPairs (λ name later. name ≢ later) (names_of components) → NoneBreaks HasEarlierName components
differ_none components differ k d within (i, e, inside, is, same) =
    let after_it : k < length (names_of components) = omega (arith, many_names components) in
    let early : i < k = grind (arith, common_steps) in
    let earlier : get_or (take k components) i e ≡ get_or components i e = grind (arith, common_steps) in
    differ i k [] early after_it (name_at components i e [] (omega arith) ∙ ap (λ (c : Component). c.name) (sym earlier ∙ is) ∙ same ∙ sym (name_at components k d [] within))
