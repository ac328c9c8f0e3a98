-- Cells that stay the same while they move.
use Rattle.std.proofs.Common.{◌≡◌, ℕ, ◌+◌, ◌-◌, ◌<◌, ◌≤◌, List, [], ◌∷◌, get_or, set, map, length, refl, sym, ap, ◌∙◌, arith, subst}
use Rattle.std.proofs.lemmas.List.{length-map, map-set, set-get_or}
use Rattle.std.proofs.lemmas.List.Sums.{sum_by-cons}
use Rattle.std.specs.List.{sum_by}
use Rattle.lf_repair_planner.specs.declared.packed_cell.PackedCell.{PackedCell}
use Rattle.lf_repair_planner.specs.Packing.{IsPackedWithin, CellShape, shape, total_width}

width_by_shapes : (xs : List PackedCell) → total_width xs ≡ sum_by (λ (s : CellShape). s.width) (map shape xs)
width_by_shapes [] = refl
width_by_shapes (x ∷ xs) = sum_by-cons (λ (c : PackedCell). c.width) x xs ∙ ap (λ (n : ℕ). x.width + n) (width_by_shapes xs)
    ∙ sym (sum_by-cons (λ (s : CellShape). s.width) (shape x) (map shape xs))

-- the same cells take the same width
pub same_width : (xs ys : List PackedCell) → map shape xs ≡ map shape ys → total_width xs ≡ total_width ys
same_width xs ys same = width_by_shapes xs ∙ ap (λ ss. sum_by (λ (s : CellShape). s.width) ss) same ∙ sym (width_by_shapes ys)

-- the same cells have the same number
pub same_length : (xs ys : List PackedCell) → map shape xs ≡ map shape ys → length xs ≡ length ys
same_length xs ys same = sym (length-map xs shape) ∙ ap length same ∙ length-map ys shape

-- a cell that moves stays the same
pub same_moved : (start cells : List PackedCell) (i : ℕ) (y d : PackedCell) → map shape start ≡ map shape cells → shape y ≡ shape (get_or cells i d)
    → map shape start ≡ map shape (set cells i y)
same_moved start cells i y d same alike = same ∙ sym (map-set shape cells i y ∙ ap (λ z. set (map shape cells) i z) alike
    ∙ sym (map-set shape cells i (get_or cells i d)) ∙ ap (map shape) (set-get_or cells i d))

-- packed cells do not overlap: no cell is pushed
pub pushed_kept : (start cells : List PackedCell) (i end : ℕ) (y d : PackedCell) → i + 1 < length cells → end ≡ (get_or cells (i + 1) d).at
    → (get_or cells i d).width ≤ end → end - (get_or cells i d).width < (get_or cells i d).at
    → ((low high : ℕ) → IsPackedWithin low high start → cells ≡ start) → (low high : ℕ) → IsPackedWithin low high start → set cells i y ≡ start
pushed_kept start cells i end y d within at some does_overlap kept low high p =
    let q = subst (λ xs. IsPackedWithin low high xs) (sym (kept low high p)) p in
    let apart = q.apart i (i + 1) d (omega arith) within in
    absurd (omega (arith, apart, at, some, does_overlap))
