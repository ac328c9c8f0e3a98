-- What is replaced, component by component.
use Rattle.std.proofs.Common.{◌≡◌, ℕ, suc, ◌+◌, ◌-◌, ◌<◌, ◌≤◌, Bool, true, false, List, [], ◌∷◌, length, Option, Some, None, refl, sym, ap, ◌∙◌, arith}
use Rattle.std.specs.Prelude.{◌==◌, filter_map, slice_get, All}
use Rattle.std.specs.List.{cons_option}
use Rattle.std.specs.Option.{option_and_then}
use Rattle.std.proofs.lemmas.Bool.Decides.{nat_tests}
use Rattle.std.proofs.lemmas.List.Elements.{All-nil, All-cons}
use Rattle.lf_lex.specs.Splices.{Splice}
use Rattle.lf_floorplan.specs.declared.place.Place.{Place}
use Rattle.lf_def.specs.declared.components.Component.{Component}
use Rattle.lf_write.specs.Export.{PositionsRise, change, change_at, changes, given_to}

-- Components by their positions, and the places that they are given.
abbrev pub Given : Type 0
Given = List (ℕ × Option Place)

-- The change of a component that may be given a place.
abbrev pub change_of : Option (Option Place) → Component → Option Splice
change_of None c = None
change_of (Some given) c = change c given

-- The changes of these components. The first component has this position.
unfoldable pub changes_from : ℕ → Given → List Component → List Splice
changes_from n places [] = []
changes_from n places (c ∷ cs) = cons_option (change_of (given_to places n) c) (changes_from (n + 1) places cs)

not_there : (n i : ℕ) → n < i → (i == n) ≡ false
not_there n i h = grind (arith, nat_tests)

there : (n : ℕ) → (n == n) ≡ true
there n = grind (arith, nat_tests)

-- No place is given in front of the first position.
none_before : (from to n : ℕ) (places : Given) → PositionsRise from to places → n < from → given_to places n ≡ None
none_before from to n [] h lt = refl
none_before from to n (g ∷ places) h lt = rw (not_there n g.0 (omega (arith, h.0, lt))) (none_before (g.0 + 1) to n places h.2 (omega (arith, h.0, lt)))

-- A given place has no effect on later components.
same_after : (n : ℕ) (g : ℕ × Option Place) (places : Given) (cs : List Component) → g.0 < n → changes_from n (g ∷ places) cs ≡ changes_from n places cs
unfolding changes_from
same_after n g places [] lt = refl
same_after n g places (c ∷ cs) lt = rw (not_it n g.0 lt, same_after (n + 1) g places cs (omega (arith, lt))) refl
  where
    not_it : (n i : ℕ) → i < n → (i == n) ≡ false
    not_it n i h = grind (arith, nat_tests)

-- A change by position of these components. The first component has this position.
abbrev at_from : ℕ → List Component → ℕ × Option Place → Option Splice
at_from n cs g = option_and_then (λ c. change c g.1) (slice_get cs (g.0 - n))

one_on : (n : ℕ) (c : Component) (cs : List Component) (g : ℕ × Option Place) → n + 1 ≤ g.0 → at_from n (c ∷ cs) g ≡ at_from (n + 1) cs g
one_on n c cs g h = let e : g.0 - n ≡ suc (g.0 - (n + 1)) = omega (arith, h) in rw e refl

all_on : (n from to : ℕ) (c : Component) (cs : List Component) (places : Given) → n + 1 ≤ from → PositionsRise from to places
    → filter_map (at_from n (c ∷ cs)) places ≡ filter_map (at_from (n + 1) cs) places
all_on n from to c cs [] le h = refl
all_on n from to c cs (g ∷ places) le h =
    ap (λ (o : Option Splice). cons_option o (filter_map (at_from n (c ∷ cs)) places)) (one_on n c cs g (omega (arith, le, h.0)))
    ∙ ap (λ (z : List Splice). cons_option (at_from (n + 1) cs g) z) (all_on n (g.0 + 1) to c cs places (omega (arith, le, h.0)) h.2)

nothing_given : (n : ℕ) (cs : List Component) → changes_from n [] cs ≡ []
unfolding changes_from
nothing_given n [] = refl
nothing_given n (c ∷ cs) = nothing_given (n + 1) cs

later : (from more to : ℕ) (places : Given) → more ≤ from → PositionsRise from to places → PositionsRise more to places
later from more to [] le h = tt
later from more to (g ∷ places) le h = (omega (arith, le, h.0), h.1, h.2)

-- Lists are equal if their first changes and their rests are.
begins_alike : (o o' : Option Splice) (xs xs' : List Splice) → o ≡ o' → xs ≡ xs' → cons_option o xs ≡ cons_option o' xs'
begins_alike o o' xs xs' e f = ap (λ (z : Option Splice). cons_option z xs) e ∙ ap (λ (z : List Splice). cons_option o' z) f

first_is : (n : ℕ) (c : Component) (cs : List Component) (g : ℕ × Option Place) → g.0 ≡ n → at_from n (c ∷ cs) g ≡ change c g.1
first_is n c cs g e = let z : g.0 - n ≡ 0 = omega (arith, e) in rw z refl

one_step : (n to : ℕ) (g : ℕ × Option Place) (places : Given) (c : Component) (cs : List Component) → PositionsRise n to (g ∷ places)
    → ((q : Given) → PositionsRise (n + 1) to q → filter_map (at_from (n + 1) cs) q ≡ changes_from (n + 1) q cs)
    → (test : Bool) → (g.0 == n) ≡ test → filter_map (at_from n (c ∷ cs)) (g ∷ places) ≡ changes_from n (g ∷ places) (c ∷ cs)
unfolding changes_from
one_step n to g places c cs h next true t =
    let e : g.0 ≡ n = grind (arith, nat_tests, t) in
    let rise : PositionsRise (n + 1) to places = later (g.0 + 1) (n + 1) to places (omega (arith, e)) h.2 in
    rw t (begins_alike (at_from n (c ∷ cs) g) (change c g.1) (filter_map (at_from n (c ∷ cs)) places) (changes_from (n + 1) (g ∷ places) cs)
    (first_is n c cs g e)
    (all_on n (g.0 + 1) to c cs places (omega (arith, e)) h.2 ∙ next places rise ∙ sym (same_after (n + 1) g places cs (omega (arith, e)))))
one_step n to g places c cs h next false t =
    let after_it : n + 1 ≤ g.0 = grind (arith, nat_tests, t, h.0) in
    let none = none_before (g.0 + 1) to n places h.2 (omega (arith, h.0)) in
    rw (t, none) (all_on n (n + 1) to c cs (g ∷ places) (omega arith) (after_it, h.1, h.2) ∙ next (g ∷ places) (after_it, h.1, h.2))

by_components : (n to : ℕ) (places : Given) (cs : List Component) → to ≡ n + length cs → PositionsRise n to places
    → filter_map (at_from n cs) places ≡ changes_from n places cs
unfolding changes_from
by_components n to [] cs e h = sym (nothing_given n cs)
by_components n to (g ∷ places) [] e h = absurd (omega (arith, e, h.0, h.1))
by_components n to (g ∷ places) (c ∷ cs) e h =
    one_step n to g places c cs h (λ q r. by_components (n + 1) to q cs (omega (arith, e)) r) (g.0 == n) refl

at_zero : (cs : List Component) (g : ℕ × Option Place) → change_at cs g ≡ at_from 0 cs g
at_zero cs g = let e : g.0 - 0 ≡ g.0 = omega arith in rw e refl

found_alike : (f h : ℕ × Option Place → Option Splice) → ((g : ℕ × Option Place) → f g ≡ h g) → (places : Given) → filter_map f places ≡ filter_map h places
found_alike f h alike [] = refl
found_alike f h alike (g ∷ places) = begins_alike (f g) (h g) (filter_map f places) (filter_map h places) (alike g) (found_alike f h alike places)

-- The changes of a list of places are those of the components in their order.
pub changes_are : (places : Given) (cs : List Component) → PositionsRise 0 (length cs) places → changes cs places ≡ changes_from 0 places cs
changes_are places cs h = found_alike (change_at cs) (at_from 0 cs) (at_zero cs) places ∙ by_components 0 (length cs) places cs (omega arith) h

-- Positions are below the bound.
pub listed : (from to : ℕ) (places : Given) → PositionsRise from to places → All (λ g. g.0 < to) places
listed from to [] h = All-nil (λ (g : ℕ × Option Place). g.0 < to)
listed from to (g ∷ places) h = All-cons (λ (g : ℕ × Option Place). g.0 < to) g places h.1 (listed (g.0 + 1) to places h.2)
