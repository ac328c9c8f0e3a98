-- The nets of a team are the ones whose lengths depend on its cells; and lists of them that grow.
use Rattle.std.proofs.Common.{◌≡◌, ◌≢◌, ℕ, ◌+◌, ◌-◌, ◌≤◌, Bool, true, false, ◌||◌, List, [], ◌∷◌, map, length, get_or, filter_map, filter, sum_by, Option, Some, None, option_map, slice_get, if◌then◌else◌, cond, arith, refl, ap, ap₂, sym, ◌∙◌, zero-add}
use Rattle.std.specs.List.{cons_option, range_with_len}
use Rattle.std.proofs.lemmas.Bool.{eq-eqb}
use Rattle.std.proofs.lemmas.List.{get_or_default, same_lists}
use Rattle.std.proofs.lemmas.List.FromFn.{get_or-map-range_with_len, length-map-range_with_len}
use Rattle.std.proofs.lemmas.List.Sums.{sum_by-cons}
use Rattle.lf_floorplan.specs.declared.place.Place.{Place}
use Rattle.lf_wire_length.specs.declared.points.HalfPoint.{HalfPoint}
use Rattle.lf_wire_length.specs.declared.pins.NetPin.{NetPin}
use Rattle.lf_wire_length.specs.declared.pins.NetPin.TheVariants.{Fixed, OfCell, Unknown, Unplaced}
use Rattle.lf_wire_length.specs.Length.{around, length_of_net, length_of_nets, point_at, point_of_pin}
use Rattle.lf_wire_length.specs.TeamNets.{KeepsOtherCells, has_pin_of, is_net_of, is_pin_of, length_of_listed, nets_of_team}
use Rattle.lf_wire_length.specs.Teams.{is_team}

-- ---- the length of a net without pins of the team

true_false : true ≡ false → ⊥
true_false e = absurd cc

is_own : (own : ℕ) (o : Option ℕ) → is_team own o ≡ false → o ≢ Some own
is_own own None none = λ e. absurd cc
is_own own (Some team) none = λ e. true_false (sym (ap (is_team own) e ∙ eq-eqb own own refl) ∙ none)

module _ (owners : List ℕ) (own : ℕ) (place later : ℕ → Option Place) (keep : KeepsOtherCells owners own place later) where
  point_kept : (pin : NetPin) → is_pin_of owners own pin ≡ false → point_of_pin later pin ≡ point_of_pin place pin
  point_kept (Fixed point) none = refl
  point_kept (OfCell cell pin) none = ap (option_map (λ at. point_at at pin)) (keep cell (is_own own (slice_get owners cell) none))
  point_kept Unknown none = refl
  point_kept Unplaced none = refl

  neither : (a b : Bool) → (a || b) ≡ false → (a ≡ false) × (b ≡ false)
  neither true b e = absurd (true_false e)
  neither false b e = (refl, e)

  points_kept : (pins : List NetPin) → has_pin_of owners own pins ≡ false → filter_map (point_of_pin later) pins ≡ filter_map (point_of_pin place) pins
  points_kept [] none = refl
  points_kept (pin ∷ pins) none =
      let both = neither (is_pin_of owners own pin) (has_pin_of owners own pins) none in
      ap₂ (λ (o : Option HalfPoint) (points : List HalfPoint). cons_option o points) (point_kept pin both.0) (points_kept pins both.1)

  net_kept : (pins : List NetPin) → has_pin_of owners own pins ≡ false → length_of_net later pins ≡ length_of_net place pins
  net_kept pins none = ap around (points_kept pins none)

-- ---- sums over numbers

-- Two sums differ by as much as their parts over the numbers at which they may differ.
module _ (p : ℕ → Bool) (f g : ℕ → ℕ) (same : (n : ℕ) → p n ≡ false → g n ≡ f n) where
  same_sums : (xs : List ℕ) → sum_by g xs + sum_by f (filter p xs) ≡ sum_by f xs + sum_by g (filter p xs)
  same_sums [] = refl
  same_sums (x ∷ xs) = go (same_sums xs) (p x) refl where
    go : sum_by g xs + sum_by f (filter p xs) ≡ sum_by f xs + sum_by g (filter p xs) → (b : Bool) → p x ≡ b
        → sum_by g (x ∷ xs) + sum_by f (cond b (x ∷ filter p xs) (filter p xs)) ≡ sum_by f (x ∷ xs) + sum_by g (cond b (x ∷ filter p xs) (filter p xs))
    go rest true e = omega (arith, rest, sum_by-cons f x xs, sum_by-cons g x xs, sum_by-cons f x (filter p xs), sum_by-cons g x (filter p xs))
    go rest false e = omega (arith, rest, same x e, sum_by-cons f x xs, sum_by-cons g x xs)

-- A part of a sum is at most the sum.
part_below : (p : ℕ → Bool) (f : ℕ → ℕ) (xs : List ℕ) → sum_by f (filter p xs) ≤ sum_by f xs
part_below p f [] = omega arith
part_below p f (x ∷ xs) = go (part_below p f xs) (p x) where
  go : sum_by f (filter p xs) ≤ sum_by f xs → (b : Bool) → sum_by f (cond b (x ∷ filter p xs) (filter p xs)) ≤ sum_by f (x ∷ xs)
  go rest true = omega (arith, rest, sum_by-cons f x xs, sum_by-cons f x (filter p xs))
  go rest false = omega (arith, rest, sum_by-cons f x xs)

sum_mapped : {X : Type 0} (h : X → ℕ) (f : ℕ → X) (xs : List ℕ) → sum_by (λ n. h (f n)) xs ≡ sum_by h (map f xs)
sum_mapped h f [] = refl
sum_mapped h f (x ∷ xs) = sum_by-cons (λ n. h (f n)) x xs ∙ ap (λ s. h (f x) + s) (sum_mapped h f xs) ∙ sym (sum_by-cons h (f x) (map f xs))

whole_list : {X : Type 0} (nets : List X) (d : X) → map (λ n. get_or nets n d) (range_with_len 0 (length nets)) ≡ nets
whole_list nets d =
    let long = length-map-range_with_len (λ n. get_or nets n d) 0 (length nets) in
    same_lists (map (λ n. get_or nets n d) (range_with_len 0 (length nets))) nets long
    (λ k e below. get_or-map-range_with_len (λ n. get_or nets n d) 0 (length nets) k k e (omega (arith, long, below)) (zero-add k) ∙ get_or_default nets k d e (omega (arith, long, below)))

-- ---- the law

-- The whole length, as a sum over the numbers of the nets.
by_number : (place : ℕ → Option Place) (nets : List (List NetPin)) → length_of_listed place nets (range_with_len 0 (length nets)) ≡ length_of_nets place nets
by_number place nets =
    sum_mapped (length_of_net place) (λ n. get_or nets n []) (range_with_len 0 (length nets))
    ∙ ap (sum_by (length_of_net place)) (whole_list nets [])

pub difference : (owners : List ℕ) (nets : List (List NetPin)) (own : ℕ) (place later : ℕ → Option Place) → KeepsOtherCells owners own place later
    → length_of_nets later nets + length_of_listed place nets (nets_of_team owners nets own) ≡ length_of_nets place nets + length_of_listed later nets (nets_of_team owners nets own)
difference owners nets own place later keep =
    let sums = same_sums (is_net_of owners nets own) (λ n. length_of_net place (get_or nets n [])) (λ n. length_of_net later (get_or nets n []))
    (λ n none. net_kept owners own place later keep (get_or nets n []) none) (range_with_len 0 (length nets)) in
    ap (λ s. s + length_of_listed place nets (nets_of_team owners nets own)) (sym (by_number later nets)) ∙ sums
    ∙ ap (λ s. s + length_of_listed later nets (nets_of_team owners nets own)) (by_number place nets)

pub part : (owners : List ℕ) (nets : List (List NetPin)) (own : ℕ) (place : ℕ → Option Place)
    → length_of_listed place nets (nets_of_team owners nets own) ≤ length_of_nets place nets
part owners nets own place =
    let least = part_below (is_net_of owners nets own) (λ n. length_of_net place (get_or nets n [])) (range_with_len 0 (length nets)) in
    omega (arith, least, by_number place nets)
