-- Rectangles cover a box if they cover its points at its low edges and at their own high edges.
use Rattle.std.proofs.Common.{◌≡◌, ℕ, zero, suc, ℤ, pos, negsuc, ◌+ℤ◌, ◌-ℤ◌, ◌<◌, ◌≤ℤ◌, List, length, get_or, refl, arith}
use Rattle.std.proofs.lemmas.Int.{ints, by_lt_z}
use Rattle.lf_units.specs.declared.geometry.Rect.{Rect}
use Rattle.lf_units.specs.Area.{Covers, CoveredBy}

steps_by_case : (a b : ℤ) → a ≤ℤ b → (d : ℤ) → b -ℤ a ≡ d → (n : ℕ) × (b ≡ a +ℤ pos n)
steps_by_case a b h (pos n) e = (n, omega (arith, ints))
steps_by_case a b h (negsuc n) e = absurd (omega (arith, ints))

-- The distance of b above a.
pub steps_to : (a b : ℤ) → a ≤ℤ b → (n : ℕ) × (b ≡ a +ℤ pos n)
steps_to a b h =
    let go : (d : ℤ) → b -ℤ a ≡ d → (n : ℕ) × (b ≡ a +ℤ pos n) = λ d e. steps_by_case a b h d e in
    go (b -ℤ a) refl

up_one : (rect : Rect) (rects : List Rect) (x : ℤ)
    → ((k : ℕ) (d : Rect) → k < length rects → Covers rect x (get_or rects k d).y2 → CoveredBy rects x (get_or rects k d).y2)
    → (y : ℤ) → Covers rect x y → CoveredBy rects x (y -ℤ pos 1) → CoveredBy rects x y
up_one rect rects x edges y inside (k, r, within, is, held) =
    by_lt_z y r.y2
    (λ less. (k, r, within, is, record { left = held.left; right = held.right; bottom = omega (arith, ints); top = less }))
    (λ more. let at : y ≡ (get_or rects k r).y2 = rw is (omega (arith, ints)) in rw at (edges k r within (rw (← at) inside)))

-- The points of a column, from its lowest on.
column_at : (rect : Rect) (rects : List Rect) (x low : ℤ) → low ≡ rect.y1
    → (Covers rect x low → CoveredBy rects x low)
    → ((k : ℕ) (d : Rect) → k < length rects → Covers rect x (get_or rects k d).y2 → CoveredBy rects x (get_or rects k d).y2)
    → (n : ℕ) (y : ℤ) → y ≡ rect.y1 +ℤ pos n → Covers rect x y → CoveredBy rects x y
column_at rect rects x low at_low first edges zero y e inside =
    let lowest : y ≡ low = omega (arith, ints) in
    rw lowest (first (rw (← lowest) inside))
column_at rect rects x low at_low first edges (suc n) y e inside =
    let below : y -ℤ pos 1 ≡ rect.y1 +ℤ pos n = omega (arith, ints) in
    let v : CoveredBy rects x (y -ℤ pos 1) =
    column_at rect rects x low at_low first edges n (y -ℤ pos 1) below record { left = inside.left; right = inside.right; bottom = omega (arith, ints); top = omega (arith, ints) } in
    up_one rect rects x edges y inside v

pub column_covered : (rect : Rect) (rects : List Rect) (x low : ℤ) → low ≡ rect.y1
    → (Covers rect x low → CoveredBy rects x low)
    → ((k : ℕ) (d : Rect) → k < length rects → Covers rect x (get_or rects k d).y2 → CoveredBy rects x (get_or rects k d).y2)
    → (y : ℤ) → Covers rect x y → CoveredBy rects x y
column_covered rect rects x low at_low first edges y inside =
    let n = steps_to rect.y1 y inside.bottom in column_at rect rects x low at_low first edges n.0 y n.1 inside

right_one : (rect : Rect) (rects : List Rect)
    → ((k : ℕ) (d : Rect) → k < length rects → (y : ℤ) → Covers rect (get_or rects k d).x2 y → CoveredBy rects (get_or rects k d).x2 y)
    → (x y : ℤ) → Covers rect x y → CoveredBy rects (x -ℤ pos 1) y → CoveredBy rects x y
right_one rect rects edges x y inside (k, r, within, is, held) =
    by_lt_z x r.x2
    (λ less. (k, r, within, is, record { left = omega (arith, ints); right = less; bottom = held.bottom; top = held.top }))
    (λ more. let at : x ≡ (get_or rects k r).x2 = rw is (omega (arith, ints)) in rw at (edges k r within y (rw (← at) inside)))

-- The points of the box, column by column.
row_at : (rect : Rect) (rects : List Rect) (low : ℤ) → low ≡ rect.x1
    → ((y : ℤ) → Covers rect low y → CoveredBy rects low y)
    → ((k : ℕ) (d : Rect) → k < length rects → (y : ℤ) → Covers rect (get_or rects k d).x2 y → CoveredBy rects (get_or rects k d).x2 y)
    → (n : ℕ) (x y : ℤ) → x ≡ rect.x1 +ℤ pos n → Covers rect x y → CoveredBy rects x y
row_at rect rects low at_low first edges zero x y e inside =
    let lowest : x ≡ low = omega (arith, ints) in
    rw lowest (first y (rw (← lowest) inside))
row_at rect rects low at_low first edges (suc n) x y e inside =
    let left : x -ℤ pos 1 ≡ rect.x1 +ℤ pos n = omega (arith, ints) in
    let v : CoveredBy rects (x -ℤ pos 1) y =
    row_at rect rects low at_low first edges n (x -ℤ pos 1) y left record { left = omega (arith, ints); right = omega (arith, ints); bottom = inside.bottom; top = inside.top } in
    right_one rect rects edges x y inside v

pub box_covered : (rect : Rect) (rects : List Rect) (low : ℤ) → low ≡ rect.x1
    → ((y : ℤ) → Covers rect low y → CoveredBy rects low y)
    → ((k : ℕ) (d : Rect) → k < length rects → (y : ℤ) → Covers rect (get_or rects k d).x2 y → CoveredBy rects (get_or rects k d).x2 y)
    → (x y : ℤ) → Covers rect x y → CoveredBy rects x y
box_covered rect rects low at_low first edges x y inside =
    let n = steps_to rect.x1 x inside.left in row_at rect rects low at_low first edges n.0 x y n.1 inside
