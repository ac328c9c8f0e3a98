-- A point lies in rectangles of two lists if and only if a rectangle of one shares a point with one
-- of the other.
use Rattle.std.proofs.Common.{◌≡◌, ℕ, ◌+◌, ◌<◌, ◌⊎◌, inl, inr, List, length, get_or, arith}
use Rattle.std.proofs.lemmas.List.{get_or_default}
use Rattle.std.specs.Prelude.{Any}
use Rattle.lf_units.specs.declared.geometry.Rect.{Rect}
use Rattle.lf_units.specs.Area.{SharesPoint}
use Rattle.lf_frame.specs.Refusals.{SharePoint}

pub point_of_rects : (first second : List Rect) → Any (λ a. Any (λ b. SharesPoint a b) second) first → SharePoint first second
point_of_rects first second (i, a, within_i, is_a, (j, b, within_j, is_b, meet)) = record {
  x = meet.x;
  y = meet.y;
  in_first = (i, a, within_i, is_a, meet.in_first);
  in_second = (j, b, within_j, is_b, meet.in_second);
}

pub rects_of_point : (first second : List Rect) → SharePoint first second → Any (λ a. Any (λ b. SharesPoint a b) second) first
rects_of_point first second p = (
  p.in_first.0,
  p.in_first.1,
  p.in_first.2,
  p.in_first.3,
  (p.in_second.0, p.in_second.1, p.in_second.2, p.in_second.3, record { x = p.x; y = p.y; in_first = p.in_first.4; in_second = p.in_second.4 }),
)

-- One more element that does not have P.
pub none_next : {A : Type 0} (P : A → Type 0) (xs : List A) (n : ℕ) (e : A) → n < length xs → (P (get_or xs n e) → ⊥) →
    ((k : ℕ) (d : A) → k < n → P (get_or xs k d) → ⊥) → (k : ℕ) (d : A) → k < n + 1 → P (get_or xs k d) → ⊥
none_next P xs n e within not before k d below p =
    let cases : (k < n) ⊎ (k ≡ n) = grind arith in
    elim cases [
      | inl less ↦ before k d less p
      | inr last ↦ let same : get_or xs n d ≡ get_or xs n e = get_or_default xs n d e within in not (rw (last, same) at p)
    ]
