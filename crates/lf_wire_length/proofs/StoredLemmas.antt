-- Stored nets.
use Rattle.std.proofs.Common.{◌≡◌, ℕ, zero, suc, ◌+◌, ◌-◌, ◌≤◌, ◌<◌, ◌==◌, Bool, true, false, List, [], ◌∷◌, ◌++◌, map, take, drop, length, All, None, Option, Some, option_map, slice_get, get_or, arith, refl, ap, ap₂, sym, ◌∙◌, if◌then◌else◌}
use Rattle.std.proofs.lemmas.List.{drop-append-le, take-append-le, drop_all, take_all, length-map, length-append, length-drop, take-map, drop-map}
use Rattle.std.proofs.lemmas.Option.{slice_get-get_or, slice_get-map, slice_get_past}
use Rattle.std.proofs.lemmas.List.Elements.{All-head, All-tail, All-weaker}
use Rattle.lf_wire_length.specs.declared.pins.NetPin.TheVariants.{Unknown, Unplaced}
use Rattle.lf_wire_length.specs.declared.points.PinOffset.{PinOffset}
use Rattle.lf_wire_length.specs.declared.pins.PackedPin.{PackedPin}
use Rattle.lf_wire_length.specs.Stored.{IsRowKnown, fixed_pin, nets_from, pin_of_cell, pin_stored, start_after, with_pin}

-- There are as many nets as starts.
pub nets_counted : {X : Type 0} (starts : List ℕ) (pins : List X) → length (nets_from starts pins) ≡ length starts
nets_counted [] pins = refl
nets_counted (s ∷ []) pins = refl
nets_counted (s ∷ t ∷ starts) pins = ap suc (nets_counted (t ∷ starts) pins)

before_end : {X : Type 0} (s t : ℕ) (pins : List X) (p : X) → s ≤ length pins → t ≤ length pins → take (t - s) (drop s (pins ++ p ∷ [])) ≡ take (t - s) (drop s pins)
before_end s t pins p sh th =
    rw (drop-append-le s pins (p ∷ []) sh)
    (take-append-le (t - s) (drop s pins) (p ∷ []) (omega (arith, length-drop s pins)))

first_kept : {X : Type 0} (net : List X) (t : ℕ) (starts : List ℕ) (pins : List X) (p : X) → net ∷ with_pin p (nets_from (t ∷ starts) pins) ≡ with_pin p (net ∷ nets_from (t ∷ starts) pins)
first_kept net t [] pins p = refl
first_kept net t (u ∷ starts) pins p = refl

-- One pin more is in the last net.
pub nets_pushed : {X : Type 0} (starts : List ℕ) (pins : List X) (p : X) → All (λ s. s ≤ length pins) starts → nets_from starts (pins ++ p ∷ []) ≡ with_pin p (nets_from starts pins)
nets_pushed [] pins p all = refl
nets_pushed (s ∷ []) pins p all = ap (λ net. net ∷ []) (drop-append-le s pins (p ∷ []) (All-head (λ s. s ≤ length pins) s [] all))
nets_pushed (s ∷ t ∷ starts) pins p all =
    let rest = All-tail (λ s. s ≤ length pins) s (t ∷ starts) all in
    ap₂ (λ net nets. net ∷ nets)
    (before_end s t pins p (All-head (λ s. s ≤ length pins) s (t ∷ starts) all) (All-head (λ s. s ≤ length pins) t starts rest))
    (nets_pushed (t ∷ starts) pins p rest)
    ∙ first_kept (take (t - s) (drop s pins)) t starts pins p

-- One start more is a net without pins.
pub nets_started : {X : Type 0} (starts : List ℕ) (pins : List X) → nets_from (starts ++ length pins ∷ []) pins ≡ nets_from starts pins ++ [] ∷ []
nets_started [] pins = ap (λ net. net ∷ []) (drop_all (length pins) pins (omega arith))
nets_started (s ∷ []) pins =
    ap₂ (λ net last. net ∷ last ∷ []) (take_all (length pins - s) (drop s pins) (omega (arith, length-drop s pins))) (drop_all (length pins) pins (omega arith))
nets_started (s ∷ t ∷ starts) pins = ap (λ nets. take (t - s) (drop s pins) ∷ nets) (nets_started (t ∷ starts) pins)

after_next : (s : ℕ) (starts : List ℕ) (k n : ℕ) → start_after (s ∷ starts) (suc k) n ≡ start_after starts k n
after_next s starts k n = let e : suc k + 1 ≡ suc (k + 1) = omega arith in ap (λ m. get_or (s ∷ starts) m n) e

-- The pins of a net.
pub net_at : {X : Type 0} (starts : List ℕ) (pins : List X) (k : ℕ) (d : List X) → k < length starts → get_or (nets_from starts pins) k d ≡ take (start_after starts k (length pins) - get_or starts k 0) (drop (get_or starts k 0) pins)
net_at [] pins k d below = absurd (omega arith)
net_at (s ∷ []) pins zero d below = sym (take_all (length pins - s) (drop s pins) (omega (arith, length-drop s pins)))
net_at (s ∷ []) pins (suc k) d below = absurd (omega arith)
net_at (s ∷ t ∷ starts) pins zero d below = refl
net_at (s ∷ t ∷ starts) pins (suc k) d below = rw (after_next s (t ∷ starts) k (length pins)) (net_at (t ∷ starts) pins k d (omega arith))

-- The pins of a net, as the table gives them.
pub net_mapped : {X Y : Type 0} (f : X → Y) (starts : List ℕ) (pins : List X) (k : ℕ) (d : List Y) → k < length starts → get_or (nets_from starts (map f pins)) k d ≡ map f (take (start_after starts k (length pins) - get_or starts k 0) (drop (get_or starts k 0) pins))
net_mapped f starts pins k d below =
    let m : length (map f pins) ≡ length pins = length-map pins f in
    let e : get_or (nets_from starts (map f pins)) k d ≡ take (start_after starts k (length (map f pins)) - get_or starts k 0) (drop (get_or starts k 0) (map f pins)) = net_at starts (map f pins) k d below in
    simp (length-map, drop-map, take-map) at e

-- The pin at a position within the net, and past its end.
pub pin_mapped : {X Y : Type 0} (f : X → Y) (starts : List ℕ) (pins its : List X) (k at : ℕ) (d : List Y) (x : X) → k < length starts
    → its ≡ take (start_after starts k (length pins) - get_or starts k 0) (drop (get_or starts k 0) pins) → at < length its
    → slice_get (get_or (nets_from starts (map f pins)) k d) at ≡ Some (f (get_or its at x))
pin_mapped f starts pins its k at d x below is within =
    let e : get_or (nets_from starts (map f pins)) k d ≡ map f its = rw is (net_mapped f starts pins k d below) in
    rw e (slice_get-map f its at ∙ ap (option_map f) (slice_get-get_or its at x within))

pub no_pin_mapped : {X Y : Type 0} (f : X → Y) (starts : List ℕ) (pins its : List X) (k at : ℕ) (d : List Y) → k < length starts
    → its ≡ take (start_after starts k (length pins) - get_or starts k 0) (drop (get_or starts k 0) pins) → length its ≤ at
    → slice_get (get_or (nets_from starts (map f pins)) k d) at ≡ None
no_pin_mapped f starts pins its k at d below is past =
    let e : get_or (nets_from starts (map f pins)) k d ≡ map f its = rw is (net_mapped f starts pins k d below) in
    rw e (slice_get-map f its at ∙ ap (option_map f) (slice_get_past its at past))

-- ---- one row more

longer : {X : Type 0} (xs : List X) (y : X) (k : ℕ) → k < length xs → slice_get (xs ++ y ∷ []) k ≡ slice_get xs k
longer [] y k below = absurd (omega arith)
longer (x ∷ xs) y zero below = refl
longer (x ∷ xs) y (suc k) below = longer xs y k (omega arith)

choice_kept : (unplaced unknown fixed : Bool) (cell row rows : ℕ) (a b : Option PinOffset) → (row < rows → a ≡ b) → (unplaced ≡ false → unknown ≡ false → row < rows) →
    (if unplaced then Unplaced else if unknown then Unknown else if fixed then fixed_pin a else pin_of_cell cell a)
    ≡ (if unplaced then Unplaced else if unknown then Unknown else if fixed then fixed_pin b else pin_of_cell cell b)
choice_kept true unknown fixed cell row rows a b same known = refl
choice_kept false true fixed cell row rows a b same known = refl
choice_kept false false true cell row rows a b same known = ap fixed_pin (same (known refl refl))
choice_kept false false false cell row rows a b same known = ap (pin_of_cell cell) (same (known refl refl))

pub pin_kept : (rows : List PinOffset) (r : PinOffset) (p : PackedPin) → IsRowKnown (length rows) p → pin_stored (rows ++ r ∷ []) p ≡ pin_stored rows p
pin_kept rows r p known =
    choice_kept (p.cell == 4294967294) (p.cell == 4294967293) (p.cell == 4294967295) p.cell p.row (length rows)
    (slice_get (rows ++ r ∷ []) p.row) (slice_get rows p.row) (longer rows r p.row) known

pub pins_kept : (rows : List PinOffset) (r : PinOffset) (pins : List PackedPin) → All (IsRowKnown (length rows)) pins → map (pin_stored (rows ++ r ∷ [])) pins ≡ map (pin_stored rows) pins
pins_kept rows r [] all = refl
pins_kept rows r (p ∷ pins) all =
    ap₂ (λ q qs. q ∷ qs) (pin_kept rows r p (All-head (IsRowKnown (length rows)) p pins all))
    (pins_kept rows r pins (All-tail (IsRowKnown (length rows)) p pins all))

known_next : (rows : ℕ) (p : PackedPin) → IsRowKnown rows p → IsRowKnown (rows + 1) p
known_next rows p known = λ placed named. let below : p.row < rows = known placed named in omega arith

-- A row that is known still is with one more.
pub known_longer : (rows : List PinOffset) (r : PinOffset) (pins : List PackedPin) → All (IsRowKnown (length rows)) pins → All (IsRowKnown (length (rows ++ r ∷ []))) pins
known_longer rows r pins all =
    let m : length (rows ++ r ∷ []) ≡ length rows + 1 = length-append rows (r ∷ []) in
    rw m (All-weaker (IsRowKnown (length rows)) (IsRowKnown (length rows + 1)) (known_next (length rows)) pins all)

-- Starts within the pins are within more pins.
pub starts_longer : (starts : List ℕ) (n : ℕ) → All (λ s. s ≤ n) starts → All (λ s. s ≤ n + 1) starts
starts_longer starts n all = All-weaker (λ s. s ≤ n) (λ s. s ≤ n + 1) (λ s h. omega arith) starts all
