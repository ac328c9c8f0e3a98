-- The names of components, each labelled with the component's number.
use Rattle.std.proofs.Common.{◌≡◌, ℕ, ◌+◌, ◌<◌, List, [], ◌∷◌, ◌++◌, length, take, get_or, sym, ◌∙◌, ap, arith}
use Rattle.std.specs.Prelude.{Contains}
use Rattle.std.specs.List.{enumerate_from}
use Rattle.std.proofs.lemmas.Grind.{common_steps}
use Rattle.std.proofs.lemmas.List.{get_or-map, length-map}
use Rattle.std.proofs.lemmas.List.FromFn.{length-enumerate_from, get_or-enumerate_from}
use Rattle.lf_names.specs.Labels.{Labelled, Differ}
use Rattle.lf_def.specs.declared.components.Component.{Component}
use Rattle.lf_frame.specs.Entries.{NoneBreaks}
use Rattle.lf_frame.specs.ClaimRefusals.{HasEarlierName}
use Rattle.lf_frame.specs.ComponentNames.{numbered_from, numbered_names}
use Rattle.lf_frame.proofs.NameLemmas.{names_apart, differ_none, name_at, many_names}

abbrev named : ℕ × Component → Labelled
named e = record { label = e.0; name = e.1.name }

pub many_numbered : (components : List Component) → length (numbered_names components) ≡ length components
many_numbered components = length-map (enumerate_from 0 components) named ∙ length-enumerate_from 0 components

pub numbered_at : (components : List Component) (k : ℕ) (d : Component) (e : Labelled) → k < length components →
    get_or (numbered_names components) k e ≡ record { label = k; name = (get_or components k d).name }
numbered_at components k d e within =
    let there : k < length (enumerate_from 0 components) = omega (arith, length-enumerate_from 0 components) in
    let own : 0 + k ≡ k = grind arith in
    get_or-map named (enumerate_from 0 components) k (0, d) e there ∙ ap named (get_or-enumerate_from 0 components k (0, d) within) ∙ ap (λ n. record { label = n; name = (get_or components k d).name }) own

-- One more component.
numbered_push : (first : ℕ) (components : List Component) (c : Component) →
    numbered_from first (components ++ c ∷ []) ≡ numbered_from first components ++ record { label = first + length components; name = c.name } ∷ []
numbered_push first [] c = ap (λ n. record { label = n; name = c.name } ∷ []) (grind arith)
numbered_push first (x ∷ components) c =
    let next : first + 1 + length components ≡ first + length (x ∷ components) = grind arith in
    ap (λ l. record { label = first; name = x.name } ∷ l) (numbered_push (first + 1) components c ∙ ap (λ n. numbered_from (first + 1) components ++ record { label = n; name = c.name } ∷ []) next)

pub numbered_more : (components : List Component) (n : ℕ) (c : Component) → n < length components → c ≡ get_or components n c →
    numbered_names (take n components) ++ record { label = n; name = c.name } ∷ [] ≡ numbered_names (take (n + 1) components)
numbered_more components n c within is =
    let more : take (n + 1) components ≡ take n components ++ c ∷ [] = grind (arith, common_steps) in
    let many : 0 + length (take n components) ≡ n = grind (arith, common_steps) in
    ap (λ k. numbered_names (take n components) ++ record { label = k; name = c.name } ∷ []) (sym many) ∙ sym (ap numbered_names more ∙ numbered_push 0 (take n components) c)

-- A name is in the list only with its component's number.
pub numbered_has : (components : List Component) (k : ℕ) (d : Component) → k < length components →
    Contains (numbered_names components) (record { label = k; name = (get_or components k d).name })
numbered_has components k d within =
    let there : k < length (numbered_names components) = omega (arith, many_numbered components) in
    (k, there, numbered_at components k d _ within)

pub numbered_is : (components : List Component) (k : ℕ) (d : Component) (name : List ℕ) → k < length components →
    Contains (numbered_names components) (record { label = k; name = name }) → name ≡ (get_or components k d).name
numbered_is components k d name below (j, within, is) =
    let inside : j < length components = omega (arith, many_numbered components) in
    let same : record { label = j; name = (get_or components j d).name } ≡ record { label = k; name = name } = sym (numbered_at components j d _ inside) ∙ is in
    let at : j ≡ k = ap (λ (l : Labelled). l.label) same in
    sym (ap (λ (l : Labelled). l.name) same) ∙ ap (λ i. (get_or components i d).name) at

first : (components : List Component) → 0 < length components → Component
first [] some = absurd (omega arith)
first (c ∷ components) some = c

-- These names differ if and only if no component has the name of an earlier one.
pub none_differ : (components : List Component) → NoneBreaks HasEarlierName components → Differ (numbered_names components)
none_differ components none i j e below within same =
    let d : Component = first components (omega (arith, many_numbered components)) in
    let after_it : j < length components = omega (arith, many_numbered components) in
    let early : i < length components = omega arith in
    names_apart components d none i j [] below (omega (arith, many_names components))
    (name_at components i d [] early ∙ sym (ap (λ (l : Labelled). l.name) (numbered_at components i d e early)) ∙ same ∙ ap (λ (l : Labelled). l.name) (numbered_at components j d e after_it) ∙ sym (name_at components j d [] after_it))

pub differ_breaks_none : (components : List Component) → Differ (numbered_names components) → NoneBreaks HasEarlierName components
differ_breaks_none components differ = differ_none components (λ i j e below within same.
    let d : Component = first components (omega (arith, many_names components)) in
    let after_it : j < length components = omega (arith, many_names components) in
    let early : i < length components = omega arith in
    let none : Labelled = record { label = 0; name = [] } in
    differ i j none below (omega (arith, many_numbered components))
    (ap (λ (l : Labelled). l.name) (numbered_at components i d none early) ∙ sym (name_at components i d e early) ∙ same ∙ name_at components j d e after_it ∙ sym (ap (λ (l : Labelled). l.name) (numbered_at components j d none after_it))))
