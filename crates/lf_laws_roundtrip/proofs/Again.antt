-- A design that is exported with its cells at other places is loaded again as the design at these
-- places.
use Rattle.std.proofs.Common.{◌≡◌, ℕ, ◌+◌, ◌<◌, Bool, true, false, List, [], ◌∷◌, map, length, Option, Some, None, negsuc, refl, sym, ap, ◌∙◌, arith}
use Rattle.std.specs.Prelude.{◌==◌, option_map, if◌then◌else◌, ◌<ℤ◌}
use Rattle.std.specs.Option.{option_and_then}
use Rattle.std.specs.List.{enumerate_from}
use Rattle.std.proofs.Props.{props}
use Rattle.std.proofs.Math.Path.{Σ_path, to_path_p}
use Rattle.std.proofs.lemmas.Bool.Decides.{nat_tests}
use Rattle.lf_floorplan.specs.declared.place.Place.{Place}
use Rattle.lf_floorplan.specs.declared.loaded.LoadedCell.{LoadedCell}
use Rattle.lf_def.specs.declared.components.Component.{Component}
use Rattle.lf_def.specs.declared.components.Location.{Location}
use Rattle.lf_def.specs.declared.components.PlacementClause.{PlacementClause}
use Rattle.lf_def.specs.Document.{Document}
use Rattle.lf_def.specs.Laws.{placement_without_places, without_places, document_without_places}
use Rattle.lf_def.specs.Kinds.{is_movable}
use Rattle.lf_frame.specs.Loads.{location, movables_from, as_location}
use Rattle.lf_frame.specs.Alike.{without_movable_place}
use Rattle.lf_frame.proofs.AlikeEntries.{movable_same, settled_without}
use Rattle.lf_write.specs.Export.{PositionsRise, is_placed_at, placement_at, with_place, given_to, perhaps_with_place, given_places}
use Rattle.lf_write.proofs.Reading.{reads_back, have_places}
use Rattle.lf_write.proofs.WrittenLocations.{is_found_there}
use Rattle.lf_laws_roundtrip.specs.Moved.{DifferInPlaces, document_but_movable_places, movable_locations}
use Rattle.lf_laws_roundtrip.specs.Exports.{with_document, ExportsLoadAgain}
use Rattle.lf_laws_roundtrip.proofs.Elsewhere.{positions_not_settled, accepted_elsewhere, loaded_elsewhere}
use Rattle.lf_laws_roundtrip.proofs.Given.{Given, AreForMovables, by_first, rising, for_movables}

-- One component at its given place.

settled_there : (c : Component) (given : Option Place) → is_movable c ≡ true → without_movable_place (with_place given c) ≡ without_movable_place c
settled_there c given is = by (is_placed_at c given)
  where
    new : (given : Option Place) → without_movable_place (record c { placement = Some (placement_at given) }) ≡ without_movable_place c
    new None = rw is refl
    new (Some p) = rw is refl

    by : (test : Bool) → without_movable_place (if test then c else record c { placement = Some (placement_at given) }) ≡ without_movable_place c
    by true = refl
    by false = new given

located_there : (c : Component) (given : Option Place) → location (with_place given c) ≡ option_map as_location given
located_there c given = by (is_placed_at c given) refl
  where
    new : (given : Option Place) → location (record c { placement = Some (placement_at given) }) ≡ option_map as_location given
    new None = refl
    new (Some p) = refl

    by : (test : Bool) → is_placed_at c given ≡ test
        → location (if test then c else record c { placement = Some (placement_at given) }) ≡ option_map as_location given
    by true is = (is_found_there c given).0 is
    by false is = new given

movable_there : (c : Component) (given : Option Place) → is_movable c ≡ true → is_movable (with_place given c) ≡ true
movable_there c given is = movable_same (with_place given c) c (settled_there c given is) ∙ is

-- All components at their given places.

begins : {X : Type 0} {x y : X} {xs ys : List X} → x ≡ y → xs ≡ ys → x ∷ xs ≡ y ∷ ys
begins {X} {x} {y} {xs} {ys} e f = ap (λ (z : X). z ∷ xs) e ∙ ap (λ (zs : List X). y ∷ zs) f

-- The components at their given places. The first component has this position.
abbrev given_from : ℕ → Given → List Component → List Component
given_from n places cs = map (λ e. perhaps_with_place (given_to places e.0) e.1) (enumerate_from n cs)

-- No place is given in front of the first position.
none_before : (from to n : ℕ) (places : Given) → PositionsRise from to places → n < from → given_to places n ≡ None
none_before from to n [] h lt = refl
none_before from to n (g ∷ places) h lt = rw (not_it (omega (arith, h.0, lt))) (none_before (g.0 + 1) to n places h.2 (omega (arith, h.0, lt)))
  where
    not_it : n < g.0 → (g.0 == n) ≡ false
    not_it less = grind (arith, nat_tests)

-- A given place has no effect on later components.
same_after : (n : ℕ) (g : ℕ × Option Place) (places : Given) (cs : List Component) → g.0 < n → given_from n (g ∷ places) cs ≡ given_from n places cs
same_after n g places [] lt = refl
same_after n g places (c ∷ cs) lt =
    rw not_it (ap (λ (xs : List Component). perhaps_with_place (given_to places n) c ∷ xs) (same_after (n + 1) g places cs (omega (arith, lt))))
  where
    not_it : (g.0 == n) ≡ false
    not_it = grind (arith, nat_tests, lt)

-- The components are unchanged, except for the places of the movable ones, which are these.
record AreGiven (n : ℕ) (cs : List Component) (places : Given) : Type 0 where
  stay : map without_movable_place (given_from n places cs) ≡ map without_movable_place cs
  are_placed : map (λ e. location e.1) (movables_from n (given_from n places cs)) ≡ map (λ g. option_map as_location g.1) places

one_stays : (n : ℕ) (c : Component) (cs : List Component) (places : Given) → given_to places n ≡ None → is_movable c ≡ false → AreGiven (n + 1) cs places
    → AreGiven n (c ∷ cs) places
one_stays n c cs places none is rest = record {
  stay = rw none (ap (λ (xs : List Component). without_movable_place c ∷ xs) rest.stay);
  are_placed = rw none (rw is rest.are_placed);
}

one_moves : (n : ℕ) (c : Component) (cs : List Component) (g : ℕ × Option Place) (places : Given) → g.0 ≡ n → is_movable c ≡ true → AreGiven (n + 1) cs places
    → AreGiven n (c ∷ cs) (g ∷ places)
one_moves n c cs g places first is rest =
    let it : (g.0 == n) ≡ true = grind (arith, nat_tests, first) in
    let after_it : given_from (n + 1) (g ∷ places) cs ≡ given_from (n + 1) places cs = same_after (n + 1) g places cs (omega (arith, first)) in
    let whole : given_from n (g ∷ places) (c ∷ cs) ≡ with_place g.1 c ∷ given_from (n + 1) places cs =
    rw it (ap (λ (xs : List Component). with_place g.1 c ∷ xs) after_it) in
    let movable : is_movable (with_place g.1 c) ≡ true = movable_there c g.1 is in
    let are_placed : map (λ (e : ℕ × Component). location e.1) (movables_from n (with_place g.1 c ∷ given_from (n + 1) places cs))
    ≡ option_map as_location g.1 ∷ map (λ (x : ℕ × Option Place). option_map as_location x.1) places =
    rw movable (begins (located_there c g.1) rest.are_placed) in
    record {
      stay = ap (map without_movable_place) whole ∙ begins (settled_there c g.1 is) rest.stay;
      are_placed = ap (λ (xs : List Component). map (λ (e : ℕ × Component). location e.1) (movables_from n xs)) whole ∙ are_placed;
    }

all_given : (n to : ℕ) (cs : List Component) (places : Given) → to ≡ n + length cs → AreForMovables n cs places → AreGiven n cs places
all_given n to [] [] long same = record { stay = refl; are_placed = refl }
all_given n to [] (g ∷ places) long same = absurd cc
all_given n to (c ∷ cs) places long same =
    by_first n c cs (AreGiven n (c ∷ cs))
    (λ is q others. one_stays n c cs q (none q others) is (all_given (n + 1) to cs q (omega (arith, long)) others))
    (λ is g q first others. one_moves n c cs g q first is (all_given (n + 1) to cs q (omega (arith, long)) others)) places same
  where
    none : (q : Given) → AreForMovables (n + 1) cs q → given_to q n ≡ None
    none q others = none_before (n + 1) to n q (rising (n + 1) to cs q (omega (arith, long)) others) (omega arith)

-- Documents.

movable_without : (c : Component) → is_movable (without_places c) ≡ is_movable c
movable_without c = movable_same (without_places c) c (settled_without c)

location_without : (c : Component) → location (without_places c) ≡ location c
location_without c = by c.placement
  where
    by : (p : Option PlacementClause) → option_and_then (λ q. q.place) (option_map placement_without_places p) ≡ option_and_then (λ q. q.place) p
    by None = refl
    by (Some p) = refl

abbrev locations_from : ℕ → List Component → List (Option Location)
locations_from n cs = map (λ e. location e.1) (movables_from n cs)

one_without : (n : ℕ) (c : Component) (cs : List Component) → locations_from (n + 1) (map without_places cs) ≡ locations_from (n + 1) cs
    → (test : Bool) → is_movable c ≡ test → locations_from n (map without_places (c ∷ cs)) ≡ locations_from n (c ∷ cs)
one_without n c cs rest true is = rw (movable_without c ∙ is, is) (begins (location_without c) rest)
one_without n c cs rest false is = rw (movable_without c ∙ is, is) rest

-- The places of movable components do not depend on positions in the text.
locations_without : (n : ℕ) (cs : List Component) → locations_from n (map without_places cs) ≡ locations_from n cs
locations_without n [] = refl
locations_without n (c ∷ cs) = one_without n c cs (locations_without (n + 1) cs) (is_movable c) refl

same_locations : (a b : Document) → document_without_places a ≡ document_without_places b → movable_locations a ≡ movable_locations b
same_locations a b same = sym (locations_without 0 a.components) ∙ ap movable_locations same ∙ locations_without 0 b.components

same_settled : (d : Document) (places : Given) → AreGiven 0 d.components places → document_but_movable_places (given_places places d) ≡ document_but_movable_places d
same_settled d places given = ap (λ (cs : List Component). record d { components = cs }) given.stay

-- Places are equal if their locations are. The proof in a place about its coordinates is a
-- proposition.

abbrev Kept : Location → Type 0
Kept l = (negsuc 2147483647 <ℤ l.x) × (negsuc 2147483647 <ℤ l.y)

abbrev place_with : ((l : Location) × Kept l) → Place
place_with (l, k) = record { x = l.x; y = l.y; orient = l.orient; x_in_def = k.0; y_in_def = k.1 }

abbrev kept_of : (p : Place) → Kept (as_location p)
kept_of p = (p.x_in_def, p.y_in_def)

kept_is_one : (l : Location) (k h : Kept l) → k ≡ h
kept_is_one l = hlevel props

one_place : (p q : Place) → as_location p ≡ as_location q → p ≡ q
one_place p q e =
    ap place_with (Σ_path {u = (as_location p, kept_of p)} {v = (as_location q, kept_of q)} e
    (to_path_p (λ i. Kept (e i)) (kept_is_one (as_location q) _ (kept_of q))))

same_location : (a b : Location) → ◌≡◌ {A = Option Location} (Some a) (Some b) → a ≡ b
same_location a b e = cc

one_given : (p q : Option Place) → option_map as_location p ≡ option_map as_location q → p ≡ q
one_given None None e = refl
one_given None (Some q) e = absurd cc
one_given (Some p) None e = absurd cc
one_given (Some p) (Some q) e = ap (λ (z : Place). Some z) (one_place p q (same_location (as_location p) (as_location q) e))

same_first : {X : Type 0} {x y : X} {xs ys : List X} → x ∷ xs ≡ y ∷ ys → x ≡ y
same_first e = cc

same_rest : {X : Type 0} {x y : X} {xs ys : List X} → x ∷ xs ≡ y ∷ ys → xs ≡ ys
same_rest e = cc

one_list : (ps qs : List (Option Place)) → map (option_map as_location) ps ≡ map (option_map as_location) qs → ps ≡ qs
one_list [] [] e = refl
one_list [] (q ∷ qs) e = absurd cc
one_list (p ∷ ps) [] e = absurd cc
one_list (p ∷ ps) (q ∷ qs) e = begins (one_given p q (same_first e)) (one_list ps qs (same_rest e))

of_cells : (cells : List LoadedCell) → map (option_map as_location) (map (λ c. c.place) cells) ≡ map (λ c. option_map as_location c.place) cells
of_cells [] = refl
of_cells (c ∷ cs) = ap (λ (xs : List (Option Location)). option_map as_location c.place ∷ xs) (of_cells cs)

of_given : (places : Given) → map (option_map as_location) (map (λ g. g.1) places) ≡ map (λ g. option_map as_location g.1) places
of_given [] = refl
of_given (g ∷ places) = ap (λ (xs : List (Option Location)). option_map as_location g.1 ∷ xs) (of_given places)

-- The law.

pub exports_load_again : ExportsLoadAgain
exports_load_again text i l places said loaded same fit =
    let d = i.document in
    let cs = d.components in
    let positions = for_movables i l places loaded same in
    let given : AreGiven 0 cs places = all_given 0 (length cs) cs places (omega arith) positions in
    let rise : PositionsRise 0 (length cs) places = rising 0 (length cs) cs places (omega arith) positions in
    let back = reads_back places (have_places places fit) text d said rise in
    let again = back.0 in
    let alike : document_without_places again ≡ document_without_places (given_places places d) = back.2 in
    let document : document_but_movable_places again ≡ document_but_movable_places d = positions_not_settled again (given_places places d) alike ∙ same_settled d places given in
    let differ : DifferInPlaces i (with_document i again) = record { library = refl; document = sym document; limits = refl } in
    let are_placed : movable_locations again ≡ map (λ (g : ℕ × Option Place). option_map as_location g.1) places =
    same_locations again (given_places places d) alike ∙ given.are_placed in
    record {
      again = back.0;
      read = back.1;
      accepted = accepted_elsewhere i (with_document i again) differ loaded.accepted;
      loaded = λ m from_again.
          let elsewhere = loaded_elsewhere i (with_document i again) differ l m loaded from_again in
          record {
            frame = elsewhere.frame;
            cells = elsewhere.cells;
            at_places = one_list (map (λ (c : LoadedCell). c.place) m.cells) (map (λ (g : ℕ × Option Place). g.1) places)
                (of_cells m.cells ∙ elsewhere.at_places ∙ are_placed ∙ sym (of_given places));
          };
    }
