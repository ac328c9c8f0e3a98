-- Least displacements, and the largest of them.
use Rattle.std.proofs.Common.{◌≡◌, ◌≢◌, ◌∙◌, ◌⊎◌, ℕ, ℤ, pos, zero, suc, ◌-ℤ◌, ◌+◌, ◌<◌, ◌≤◌, List, [], ◌∷◌, ◌++◌, get_or, length, take, Option, Some, None, refl, ap, sym, subst, inl, inr, ⊎_elim, arith}
use Rattle.std.specs.Prelude.{Any, MatchOption, option_map, replicate, slice_get, max, unsigned_abs}
use Rattle.std.proofs.lemmas.Int.{ints}
use Rattle.std.proofs.lemmas.Bool.{cases_eq}
use Rattle.std.proofs.lemmas.List.{length-replicate}
use Rattle.std.proofs.lemmas.List.Elements.{All-append, All-cons, All-weaker}
use Rattle.lf_units.specs.declared.geometry.Point.{Point}
use Rattle.lf_floorplan.specs.declared.frame.Frame.{Frame}
use Rattle.lf_floorplan.specs.declared.loaded.LoadedCell.{LoadedCell}
use Rattle.lf_floorplan.specs.declared.place.Place.{Place}
use Rattle.lf_floorplan.specs.Boxes.{macro_of}
use Rattle.lf_units.specs.declared.placed.Placed.{Placed}
use Rattle.lf_rules.specs.Choice.{IsBest, IsChoice, PlacementQuery, IsAllowedPlace, Precedes, SpotPlace, distance, spot_of, candidate_at}
use Rattle.lf_rules.specs.Legality.{IsFrameRuleVerdict, IsTeamLegal, Candidate, candidate_of}
use Rattle.lf_rules.proofs.LegalParts.{frame_beside, frame_padded, legal_by_parts}
use Rattle.lf_repair_bounds.specs.MinDisplacements.{IsDisplacedAsFar, IsMaxMinDisplacement, IsMinDisplacement, IsMinDisplacementOrNone, AreMaxMinDisplacements, IsNearestDisplacement, NoRepairDoesBetter, query_alone, corner, query_beside}
use Rattle.lf_repair_bounds.specs.EmptyFloors.{IsRaised, raised}

-- ---- one displacement

-- the best place is a nearest one
nearest_best : (c : PlacementQuery) (from : Point) (best : SpotPlace) → IsBest c from best → IsNearestDisplacement c from (distance from best)
nearest_best c from best is = record {
  place = best;
  may_go = is.may_go;
  is = refl;
  nearest = λ p may. ⊎_elim (λ (same : p ≡ best). subst (λ (q : SpotPlace). distance from best ≤ distance from q) (sym same) (omega arith))
      (λ (first : Precedes from best p). ahead (distance from best) (distance from p) first) (is.least p may);
} where
  ahead : {Rest : Type 0} (a b : ℕ) → (a < b) ⊎ ((a ≡ b) × Rest) → a ≤ b
  ahead a b (inl less) = omega (arith, less)
  ahead a b (inr both) = let same = both.0 in omega (arith, same)

least_found : (f : Frame) (c : LoadedCell) (loaded_place : Place) (place : SpotPlace) → c.place ≡ Some loaded_place → IsChoice (query_alone f c) (corner loaded_place) (Some place)
    → IsMinDisplacement f c (distance (corner loaded_place) place)
least_found f c loaded_place place is best =
    subst (λ (o : Option Place). MatchOption o ⊥ (λ h. IsNearestDisplacement (query_alone f c) (corner h) (distance (corner loaded_place) place))) (sym is)
    (nearest_best (query_alone f c) (corner loaded_place) place best)

nowhere_found : (f : Frame) (c : LoadedCell) (loaded_place : Place) → c.place ≡ Some loaded_place → IsChoice (query_alone f c) (corner loaded_place) None → (way : ℕ) → IsMinDisplacement f c way → ⊥
nowhere_found f c loaded_place placed nowhere way is =
    let least : IsNearestDisplacement (query_alone f c) (corner loaded_place) way =
    subst (λ (o : Option Place). MatchOption o ⊥ (λ h. IsNearestDisplacement (query_alone f c) (corner h) way)) placed is in
    nowhere least.place least.may_go

pub way_found : (f : Frame) (c : LoadedCell) (loaded_place : Place) (found : Option Place) → c.place ≡ Some loaded_place → IsChoice (query_alone f c) (corner loaded_place) (option_map spot_of found)
    → IsMinDisplacementOrNone f c (option_map (λ (place : Place). distance (corner loaded_place) (spot_of place)) found)
way_found f c loaded_place (Some place) is choice = least_found f c loaded_place (spot_of place) is choice
way_found f c loaded_place None is choice = nowhere_found f c loaded_place is choice

pub unplaced_none : (f : Frame) (c : LoadedCell) → c.place ≡ None → (way : ℕ) → IsMinDisplacement f c way → ⊥
unplaced_none f c none way is = subst (λ (o : Option Place). MatchOption o ⊥ (λ h. IsNearestDisplacement (query_alone f c) (corner h) way)) none is

none_apart : (z : ℤ) → unsigned_abs (z -ℤ z) ≡ 0
none_apart z =
    let same : z -ℤ z ≡ pos 0 = omega (arith, ints) in
    ap unsigned_abs same

no_way : (loaded_place : Place) → distance (corner loaded_place) (spot_of loaded_place) ≡ 0
no_way loaded_place = omega (arith, none_apart loaded_place.x, none_apart loaded_place.y)

pub least_stays : (f : Frame) (c : LoadedCell) (loaded_place : Place) → c.place ≡ Some loaded_place → IsAllowedPlace (query_alone f c) (spot_of loaded_place) → IsMinDisplacement f c 0
least_stays f c loaded_place is may =
    subst (λ (o : Option Place). MatchOption o ⊥ (λ h. IsNearestDisplacement (query_alone f c) (corner h) 0)) (sym is)
    record { place = spot_of loaded_place; may_go = may; is = no_way loaded_place; nearest = λ p goes. omega arith }

-- a cell has one least displacement
no_longer : (f : Frame) (c : LoadedCell) (a b : ℕ) → IsMinDisplacement f c a → IsMinDisplacement f c b → b ≤ a
no_longer f c a b one other = go c.place one other where
  go : (o : Option Place) → MatchOption o ⊥ (λ h. IsNearestDisplacement (query_alone f c) (corner h) a) → MatchOption o ⊥ (λ h. IsNearestDisplacement (query_alone f c) (corner h) b) → b ≤ a
  go None one other = absurd one
  go (Some h) one other = subst (λ (n : ℕ). b ≤ n) one.is (other.nearest one.place one.may_go)

-- ---- the largest

any_before : {X : Type 0} (P : X → Type 0) (xs ys : List X) → Any P xs → Any P (xs ++ ys)
any_before P xs ys any = (any.0, any.1, long xs ys any.0 any.2, at_front xs ys any.0 any.1 any.2 ∙ any.3, any.4) where
  long : {X : Type 0} (xs ys : List X) (k : ℕ) → k < length xs → k < length (xs ++ ys)
  long [] ys k within = absurd (omega (arith, within))
  long (x ∷ xs) ys zero within = omega arith
  long (x ∷ xs) ys (suc k) within = let rest = long xs ys k (omega (arith, within)) in omega (arith, rest)

  at_front : {X : Type 0} (xs ys : List X) (k : ℕ) (d : X) → k < length xs → get_or (xs ++ ys) k d ≡ get_or xs k d
  at_front [] ys k d within = absurd (omega (arith, within))
  at_front (x ∷ xs) ys zero d within = refl
  at_front (x ∷ xs) ys (suc k) d within = at_front xs ys k d (omega (arith, within))

any_last : {X : Type 0} (P : X → Type 0) (xs : List X) (y : X) → P y → Any P (xs ++ y ∷ [])
any_last P xs y holds = (length xs, y, long xs y, there xs y, holds) where
  long : {X : Type 0} (xs : List X) (y : X) → length xs < length (xs ++ y ∷ [])
  long [] y = omega arith
  long (x ∷ xs) y = let rest = long xs y in omega (arith, rest)

  there : {X : Type 0} (xs : List X) (y : X) → get_or (xs ++ y ∷ []) (length xs) y ≡ y
  there [] y = refl
  there (x ∷ xs) y = there xs y

-- with no cells it is 0
pub none_largest : (f : Frame) (team : ℕ) → IsMaxMinDisplacement f [] team 0
none_largest f team = record { no_larger = λ i d within. absurd (omega (arith, within)); is_one = inl refl }

-- a cell of another team makes no difference
other_cell : (f : Frame) (cells : List LoadedCell) (c : LoadedCell) (team largest : ℕ) → c.team ≢ team → IsMaxMinDisplacement f cells team largest
    → IsMaxMinDisplacement f (cells ++ c ∷ []) team largest
other_cell f cells c team largest other is = record {
  no_larger = All-append (λ d. d.team ≡ team → (way : ℕ) → IsMinDisplacement f d way → way ≤ largest) cells (c ∷ []) is.no_larger
      (All-cons (λ d. d.team ≡ team → (way : ℕ) → IsMinDisplacement f d way → way ≤ largest) c [] (λ same. absurd (other same)) (λ i d within. absurd (omega (arith, within))));
  is_one = ⊎_elim (λ (none : largest ≡ 0). inl none)
      (λ (any : Any (λ d. (d.team ≡ team) × IsMinDisplacement f d largest) cells). inr (any_before (λ d. (d.team ≡ team) × IsMinDisplacement f d largest) cells (c ∷ []) any)) is.is_one;
}

-- a cell of the team raises it to its own
own_cell : (f : Frame) (cells : List LoadedCell) (c : LoadedCell) (largest : ℕ) (way : Option ℕ) → IsMinDisplacementOrNone f c way → IsMaxMinDisplacement f cells c.team largest
    → IsMaxMinDisplacement f (cells ++ c ∷ []) c.team (raised largest way)
own_cell f cells c largest None none is = record {
  no_larger = All-append (λ d. d.team ≡ c.team → (way : ℕ) → IsMinDisplacement f d way → way ≤ largest) cells (c ∷ []) is.no_larger
      (All-cons (λ d. d.team ≡ c.team → (way : ℕ) → IsMinDisplacement f d way → way ≤ largest) c [] (λ same way least. absurd (none way least)) (λ i d within. absurd (omega (arith, within))));
  is_one = ⊎_elim (λ (none : largest ≡ 0). inl none)
      (λ (any : Any (λ d. (d.team ≡ c.team) × IsMinDisplacement f d largest) cells). inr (any_before (λ d. (d.team ≡ c.team) × IsMinDisplacement f d largest) cells (c ∷ []) any)) is.is_one;
}
own_cell f cells c largest (Some far) least is = record {
  no_larger = All-append (Bounded (max largest far)) cells (c ∷ [])
      (All-weaker (Bounded largest) (Bounded (max largest far)) (λ d most same way goes. upto way (most same way goes)) cells is.no_larger)
      (All-cons (Bounded (max largest far)) c [] (λ same way goes. past way (no_longer f c far way least goes)) (λ i d within. absurd (omega (arith, within))));
  is_one = ⊎_elim (λ (more : far ≤ largest). subst (λ (n : ℕ). (n ≡ 0) ⊎ Any (Goes n) (cells ++ c ∷ [])) (sym (stays more)) kept)
      (λ (less : largest < far). subst (λ (n : ℕ). (n ≡ 0) ⊎ Any (Goes n) (cells ++ c ∷ [])) (sym (grows less)) (inr (any_last (Goes far) cells c (refl, least))))
      (either far largest);
} where
  Bounded : ℕ → LoadedCell → Type 0
  Bounded most d = d.team ≡ c.team → (way : ℕ) → IsMinDisplacement f d way → way ≤ most

  Goes : ℕ → LoadedCell → Type 0
  Goes n d = (d.team ≡ c.team) × IsMinDisplacement f d n

  upto : (way : ℕ) → way ≤ largest → way ≤ max largest far
  upto way few = omega (arith, few)

  past : (way : ℕ) → way ≤ far → way ≤ max largest far
  past way few = omega (arith, few)

  stays : far ≤ largest → max largest far ≡ largest
  stays more = omega (arith, more)

  grows : largest < far → max largest far ≡ far
  grows less = omega (arith, less)

  kept : (largest ≡ 0) ⊎ Any (Goes largest) (cells ++ c ∷ [])
  kept = ⊎_elim (λ (none : largest ≡ 0). inl none) (λ (any : Any (Goes largest) cells). inr (any_before (Goes largest) cells (c ∷ []) any)) is.is_one

  either : (a b : ℕ) → (a ≤ b) ⊎ (b < a)
  either a zero = by a where
    by : (a : ℕ) → (a ≤ 0) ⊎ (0 < a)
    by zero = inl (omega arith)
    by (suc a) = inr (omega arith)
  either zero (suc b) = inl (omega arith)
  either (suc a) (suc b) = ⊎_elim (λ (few : a ≤ b). inl (omega (arith, few))) (λ (more : b < a). inr (omega (arith, more))) (either a b)

-- one cell more
pub one_raised : (f : Frame) (cells : List LoadedCell) (c : LoadedCell) (way : Option ℕ) (old new : List ℕ) → IsMinDisplacementOrNone f c way → IsRaised c.team way old new
    → AreMaxMinDisplacements f cells old → AreMaxMinDisplacements f (cells ++ c ∷ []) new
one_raised f cells c way old new least are each team largest there = ⊎_elim (λ (same : team ≡ c.team). here same) (λ (other : team ≢ c.team). apart other) (same_or team c.team) where
  past : (xs ys : List ℕ) (k : ℕ) → length ys ≡ length xs → slice_get xs k ≡ None → slice_get ys k ≡ Some largest → ⊥
  past [] [] k many none some = cc
  past [] (y ∷ ys) k many none some = absurd (omega (arith, many))
  past (x ∷ xs) [] k many none some = absurd (omega (arith, many))
  past (x ∷ xs) (y ∷ ys) zero many none some = cc
  past (x ∷ xs) (y ∷ ys) (suc k) many none some = past xs ys k (omega (arith, many)) none some

  apart : team ≢ c.team → IsMaxMinDisplacement f (cells ++ c ∷ []) team largest
  apart other = other_cell f cells c team largest (λ same. other (sym same)) (each team largest (sym (are.others team other) ∙ there))

  here : team ≡ c.team → IsMaxMinDisplacement f (cells ++ c ∷ []) team largest
  here same = go (slice_get old c.team) refl where
    now : slice_get new c.team ≡ Some largest
    now = ap (λ (n : ℕ). slice_get new n) (sym same) ∙ there

    the_one : (a b : ℕ) → Some a ≡ Some b → a ≡ b
    the_one a b e = cc

    go : (o : Option ℕ) → slice_get old c.team ≡ o → IsMaxMinDisplacement f (cells ++ c ∷ []) team largest
    go (Some was) is =
        subst (λ (n : ℕ). IsMaxMinDisplacement f (cells ++ c ∷ []) n largest) (sym same)
        (subst (λ (n : ℕ). IsMaxMinDisplacement f (cells ++ c ∷ []) c.team n) (the_one (raised was way) largest (sym (are.own was is) ∙ now))
        (own_cell f cells c was way least (each c.team was is)))
    go None is = absurd (past old new c.team are.many is now)

  same_or : (a b : ℕ) → (a ≡ b) ⊎ (a ≢ b)
  same_or a b = cases_eq a b

zero_there : (n team largest : ℕ) → slice_get (replicate n 0) team ≡ Some largest → largest ≡ 0
zero_there zero team largest there = absurd cc
zero_there (suc n) zero largest there = cc
zero_there (suc n) (suc team) largest there = zero_there n team largest there

-- with no cells yet all numbers are 0
none_raised : (f : Frame) (n : ℕ) → AreMaxMinDisplacements f [] (replicate n 0)
none_raised f n team largest there = subst (λ (m : ℕ). IsMaxMinDisplacement f [] team m) (sym (zero_there n team largest there)) (none_largest f team)

pub first_zeros : (f : Frame) (n : ℕ) (list : List ℕ) → list ≡ replicate n 0 → n ≡ length f.teams + 1
    → (length list ≡ length f.teams + 1) × AreMaxMinDisplacements f [] list
first_zeros f n list zeros many =
    (ap (λ (xs : List ℕ). length xs) zeros ∙ length-replicate n 0 ∙ many, subst (AreMaxMinDisplacements f []) (sym zeros) (none_raised f n))

pub take_more : {X : Type 0} (xs : List X) (k : ℕ) (x : X) → slice_get xs k ≡ Some x → take (k + 1) xs ≡ take k xs ++ x ∷ []
take_more [] k x e = absurd cc
take_more {X} (y ∷ ys) zero x e =
    let same : y ≡ x = cc in
    ap (λ (z : X). z ∷ []) same
take_more {X} (y ∷ ys) (suc k) x e =
    let shift : suc k + 1 ≡ suc (k + 1) = omega arith in
    rw shift (ap (λ (zs : List X). y ∷ zs) (take_more ys k x e))

-- ---- the place of a cell

-- a cell that breaks no rule is allowed at its place, if there are no soft blockages
pub may_stay : (f : Frame) (c : LoadedCell) (loaded_place : Place) → length f.soft ≡ 0 → IsFrameRuleVerdict (candidate_of f c.team 0 (macro_of f c.mac) loaded_place []) None
    → IsAllowedPlace (query_alone f c) (spot_of loaded_place)
may_stay f c loaded_place none keeps = record {
  legal = (legal_by_parts (candidate_at (query_alone f c) (spot_of loaded_place))).1 (keeps, λ i d within. absurd (omega (arith, within)));
  off_soft = λ does_overlap. let within = does_overlap.2 in absurd (omega (arith, within, none));
}

-- ---- what it means for any repair

-- a place that is allowed for a cell with any other cells is allowed for it alone
alone_too : (f : Frame) (c : LoadedCell) (padding : ℕ) (others : List Placed) (p : SpotPlace) → IsAllowedPlace (query_beside f c padding others) p → IsAllowedPlace (query_alone f c) p
alone_too f c padding others p may = record { legal = legal; off_soft = may.off_soft } where
  t : Candidate
  t = candidate_at (query_beside f c padding others) p

  bare : Candidate
  bare = candidate_at (query_beside f c padding []) p

  legal : IsTeamLegal (candidate_at (query_alone f c) p)
  legal = (legal_by_parts (candidate_at (query_alone f c) p)).1 (
    frame_padded bare 0 (frame_beside t [] ((legal_by_parts t).0 may.legal).0),
    λ i d within. absurd (omega (arith, within)),
  )

goes_as_far : (f : Frame) (c : LoadedCell) (way : ℕ) → IsMinDisplacement f c way → IsDisplacedAsFar f c way
goes_as_far f c way is = go c.place is where
  go : (o : Option Place) → MatchOption o ⊥ (λ h. IsNearestDisplacement (query_alone f c) (corner h) way)
      → MatchOption o ⊥ (λ h. (padding : ℕ) (others : List Placed) (p : SpotPlace) → IsAllowedPlace (query_beside f c padding others) p → way ≤ distance (corner h) p)
  go None is = is
  go (Some h) is = λ padding others p may. is.nearest p (alone_too f c padding others p may)

pub none_better : NoRepairDoesBetter
none_better f cells team largest is some = ⊎_elim (λ (none : largest ≡ 0). absurd (omega (arith, none, some)))
    (λ (any : Any (λ c. (c.team ≡ team) × IsMinDisplacement f c largest) cells). (any.0, any.1, any.2, any.3, (any.4.0, goes_as_far f any.1 largest any.4.1))) is.is_one
