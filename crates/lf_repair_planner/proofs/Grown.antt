-- A span in which the cells of a window have made room for one more.
use Rattle.std.proofs.Common.{◌≡◌, ℕ, ◌+◌, ◌-◌, ◌≤◌, List, ◌++◌, drop, length, map, take, refl, sym, ap, ◌∙◌, arith, subst}
use Rattle.std.proofs.lemmas.List.{append_assoc, drop_at, length-append, length-take-le, map-append, take_at}
use Rattle.std.proofs.lemmas.List.Edits.{insert-append_left, insert-append_right, length-between, length-insert, split_between}
use Rattle.std.proofs.lemmas.List.Sums.{sum_by-append, sum_by-insert}
use Rattle.std.specs.List.{between, insert, sum_by}
use Rattle.lf_repair_planner.specs.declared.packed_cell.PackedCell.{PackedCell}
use Rattle.lf_repair_planner.specs.declared.shifted_window.Window.{Window}
use Rattle.lf_repair_planner.specs.Packing.{IsPacked, IsPackedWithin, shape, total_site_displacement, total_width, site_displacement}
use Rattle.lf_repair_planner.specs.Windows.{IsBackStart, IsFrontEnd, IsWindow, MovesWithin}
use Rattle.lf_repair_planner.proofs.Packed.{packed_append, packed_before, packed_after, packed_drop, packed_take}

-- the window after one more cell is inserted in it
abbrev pub grown : Window → Window
grown w = record { first = w.first; last = w.last + 1; start = w.start; end = w.end }

-- a cell inserted between two positions leaves those on either side
inserted_is : (xs : List PackedCell) (first last gap : ℕ) (y : PackedCell) → first ≤ gap → gap ≤ last → last ≤ length xs
    → insert xs gap y ≡ take first xs ++ (insert (between first last xs) (gap - first) y ++ drop last xs)
inserted_is xs first last gap y after before within =
    let parts = split_between xs first last (omega (arith, after, before)) in
    let front : length (take first xs) ≡ first = length-take-le first xs (omega (arith, after, before, within)) in
    let middle : length (between first last xs) ≡ last - first = length-between xs first last within in
    ap (λ zs. insert zs gap y) parts ∙ insert-append_right (take first xs) (between first last xs ++ drop last xs) first gap y front after
    ∙ ap (λ zs. take first xs ++ zs) (insert-append_left (between first last xs) (drop last xs) (gap - first) y (omega (arith, middle, before, after)))

front_stays : (xs : List PackedCell) (first last gap : ℕ) (y : PackedCell) → first ≤ gap → gap ≤ last → last ≤ length xs → take first (insert xs gap y) ≡ take first xs
front_stays xs first last gap y after before within =
    ap (λ zs. take first zs) (inserted_is xs first last gap y after before within)
    ∙ take_at (take first xs) _ first (length-take-le first xs (omega (arith, after, before, within)))

back_stays : (xs : List PackedCell) (first last gap : ℕ) (y : PackedCell) → first ≤ gap → gap ≤ last → last ≤ length xs → drop (last + 1) (insert xs gap y) ≡ drop last xs
back_stays xs first last gap y after before within =
    let part : List PackedCell = insert (between first last xs) (gap - first) y in
    let front : length (take first xs) ≡ first = length-take-le first xs (omega (arith, after, before, within)) in
    let middle : length (between first last xs) ≡ last - first = length-between xs first last within in
    let more : length part ≡ length (between first last xs) + 1 =
    length-insert (between first last xs) (gap - first) y (omega (arith, middle, before, after)) in
    let both : length (take first xs ++ part) ≡ length (take first xs) + length part = length-append (take first xs) part in
    ap (λ zs. drop (last + 1) zs) (inserted_is xs first last gap y after before within ∙ sym (append_assoc (take first xs) part (drop last xs)))
    ∙ drop_at (take first xs ++ part) (drop last xs) (last + 1) (omega (arith, both, more, front, middle, after, before))

sum_of_parts : (f : PackedCell → ℕ) (xs : List PackedCell) (first last : ℕ) → first ≤ last
    → sum_by f xs ≡ sum_by f (take first xs) + (sum_by f (between first last xs) + sum_by f (drop last xs))
sum_of_parts f xs first last order = ap (λ zs. sum_by f zs) (split_between xs first last order)
    ∙ sum_by-append f (take first xs) (between first last xs ++ drop last xs)
    ∙ ap (λ (n : ℕ). sum_by f (take first xs) + n) (sum_by-append f (between first last xs) (drop last xs))

-- the inserted cell takes its width from the window
pub room_grown : (room gap : ℕ) (xs : List PackedCell) (y : PackedCell) (w : Window) → IsWindow room xs y.width w → w.first ≤ gap → gap ≤ w.last
    → w.start + total_width (between w.first (w.last + 1) (insert xs gap y)) ≤ w.end
room_grown room gap xs y w is after before =
    let fits = is.fits in
    let old = sum_of_parts (λ c. c.width) xs w.first w.last is.order in
    let new = sum_of_parts (λ c. c.width) (insert xs gap y) w.first (w.last + 1) (omega (arith, after, before)) in
    let one = sum_by-insert (λ (c : PackedCell). c.width) xs gap y in
    let front = ap total_width (front_stays xs w.first w.last gap y after before is.within) in
    let back = ap total_width (back_stays xs w.first w.last gap y after before is.within) in
    omega (arith, fits, old, new, one, front, back)

pub packed_grown : (room gap : ℕ) (xs ys : List PackedCell) (y : PackedCell) (w : Window) → IsPacked room xs → IsWindow room xs y.width w → w.first ≤ gap → gap ≤ w.last
    → MovesWithin (grown w) (insert xs gap y) ys → IsPacked room ys
packed_grown room gap xs ys y w p is after before moved =
    let fits = is.fits in
    let front : IsPackedWithin 0 w.start (take w.first xs) =
    let q = packed_take 0 room w.first xs p in record { from = q.from; within = is.front.ends; apart = q.apart } in
    let back : IsPackedWithin w.end room (drop w.last xs) =
    let q = packed_drop 0 room w.last xs p in record { from = is.back.begins; within = q.within; apart = q.apart } in
    let first = moved.front ∙ front_stays xs w.first w.last gap y after before is.within in
    let last = moved.back ∙ back_stays xs w.first w.last gap y after before is.within in
    subst (λ zs. IsPacked room zs) (sym (split_between ys w.first (w.last + 1) (omega (arith, after, before))))
    (packed_append 0 w.start room (take w.first ys) (between w.first (w.last + 1) ys ++ drop (w.last + 1) ys) (omega arith)
    (let s = is.back.short in omega (arith, s, fits))
    (subst (λ zs. IsPackedWithin 0 w.start zs) (sym first) front)
    (packed_append w.start w.end room (between w.first (w.last + 1) ys) (drop (w.last + 1) ys) (omega (arith, fits)) is.back.short moved.packed
    (subst (λ zs. IsPackedWithin w.end room zs) (sym last) back)))

parts_same : (w : Window) (xs ys : List PackedCell) → w.first ≤ w.last → take w.first ys ≡ take w.first xs → drop w.last ys ≡ drop w.last xs
    → (zs : List PackedCell) → between w.first w.last ys ≡ zs → ys ≡ take w.first xs ++ (zs ++ drop w.last xs)
parts_same w xs ys order front back zs middle = split_between ys w.first w.last order
    ∙ ap (λ fs. fs ++ (between w.first w.last ys ++ drop w.last ys)) front ∙ ap (λ bs. take w.first xs ++ (bs ++ drop w.last ys)) middle
    ∙ ap (λ cs. take w.first xs ++ (zs ++ cs)) back

pub same_moved_within : (w : Window) (xs ys : List PackedCell) → w.first ≤ w.last → MovesWithin w xs ys → map shape xs ≡ map shape ys
same_moved_within w xs ys order moved =
    ap (map shape) (split_between xs w.first w.last order) ∙ spread (take w.first xs) (between w.first w.last xs) (drop w.last xs)
    ∙ ap (λ ss. map shape (take w.first xs) ++ (ss ++ map shape (drop w.last xs))) moved.same
    ∙ sym (ap (map shape) (parts_same w xs ys order moved.front moved.back (between w.first w.last ys) refl)
    ∙ spread (take w.first xs) (between w.first w.last ys) (drop w.last xs))
  where
    spread : (fs bs cs : List PackedCell) → map shape (fs ++ (bs ++ cs)) ≡ map shape fs ++ (map shape bs ++ map shape cs)
    spread fs bs cs = map-append shape fs (bs ++ cs) ∙ ap (λ ss. map shape fs ++ ss) (map-append shape bs cs)

pub kept_grown : (room gap : ℕ) (xs ys : List PackedCell) (y : PackedCell) (w : Window) → IsWindow room xs y.width w → w.first ≤ gap → gap ≤ w.last
    → MovesWithin (grown w) (insert xs gap y) ys → IsPacked room (insert xs gap y) → ys ≡ insert xs gap y
kept_grown room gap xs ys y w is after before moved p =
    let more : List PackedCell = insert xs gap y in
    let order : w.first ≤ w.last + 1 = omega (arith, after, before) in
    let parts = split_between more w.first (w.last + 1) order in
    let front = front_stays xs w.first w.last gap y after before is.within in
    let back = back_stays xs w.first w.last gap y after before is.within in
    let after_it = packed_after 0 room w.start (take w.first more) (between w.first (w.last + 1) more ++ drop (w.last + 1) more)
    (subst (λ zs. IsPacked room zs) parts p) (subst (λ zs. IsFrontEnd zs w.start) (sym front) is.front) in
    let within = packed_before w.start room w.end (between w.first (w.last + 1) more) (drop (w.last + 1) more) after_it
    (subst (λ zs. IsBackStart room zs w.end) (sym back) is.back) in
    parts_same (grown w) more ys order moved.front moved.back (between w.first (w.last + 1) more) (moved.kept within) ∙ sym parts

-- the total displacement grows by as much as that of the window
pub way_grown : (room gap : ℕ) (xs ys : List PackedCell) (y : PackedCell) (w : Window) → IsWindow room xs y.width w → w.first ≤ gap → gap ≤ w.last
    → MovesWithin (grown w) (insert xs gap y) ys
    → total_site_displacement ys + total_site_displacement (between w.first w.last xs) ≡ total_site_displacement xs + total_site_displacement (between w.first (w.last + 1) ys)
way_grown room gap xs ys y w is after before moved =
    let old = sum_of_parts site_displacement xs w.first w.last is.order in
    let new = sum_of_parts site_displacement ys w.first (w.last + 1) (omega (arith, after, before)) in
    let front = ap total_site_displacement (moved.front ∙ front_stays xs w.first w.last gap y after before is.within) in
    let back = ap total_site_displacement (moved.back ∙ back_stays xs w.first w.last gap y after before is.within) in
    omega (arith, old, new, front, back)
