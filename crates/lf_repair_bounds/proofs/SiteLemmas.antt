-- Sites by their numbers and by their coordinates.
use Rattle.std.proofs.Common.{◌≡◌, ◌∙◌, ◌⊎◌, inl, inr, ◌↔◌, ℕ, ◌+◌, ◌*◌, ◌<◌, ◌≤◌, ℤ, pos, ◌+ℤ◌, ◌-ℤ◌, ◌*ℤ◌, ◌≤ℤ◌, ◌<ℤ◌, ap, sym, subst, arith}
use Rattle.std.specs.Int.{int_max, int_min}
use Rattle.std.proofs.lemmas.Int.{by_lt_z, clamps, ints}
use Rattle.std.proofs.lemmas.Nat.{mul-le}
use Rattle.std.proofs.Math.IntN.{pos-*ℤ-pos}
use Rattle.lf_units.specs.declared.geometry.Rect.{Rect}
use Rattle.lf_units.specs.Area.{SharesPoint}
use Rattle.lf_units.proofs.Edges.{edges_of_shared, shared_of_edges}
use Rattle.lf_floorplan.specs.declared.frame.Frame.{Frame}
use Rattle.lf_floorplan.specs.declared.parts.Row.{Row}
use Rattle.lf_repair_bounds.specs.declared.site_runs.SiteRange.{SiteRange}
use Rattle.lf_repair_bounds.specs.FreeRuns.{CoversSites, site_end}
use Rattle.lf_repair_bounds.specs.Gaps.{sites_area}
use Rattle.lf_repair_bounds.specs.SiteRuns.{IsBeside}

-- ---- numbers

two : (a b : ℕ) → (a ≤ b) ⊎ (b < a)
two a b = grind arith

pub add_times : (a b s : ℕ) → (a + b) * s ≡ a * s + b * s
add_times a b s = grind arith

pub times_pos : (n s : ℕ) → 0 < n → 0 < s → 0 < n * s
times_pos n s more some = let least = mul-le 1 1 n s more some in omega (arith, least)

-- fewer steps are shorter
pub fewer : (m n s : ℕ) → 0 < s → m * s ≤ n * s → m ≤ n
fewer m n s some h = elim (two m n) [
  | inl k ↦ k
  | inr k ↦
      let more = mul-le (n + 1) s m s (omega (arith, k)) (omega arith) in
      let sum = add_times n 1 s in
      absurd (omega (arith, more, sum, h, some))
]

-- a number of sites ends in front of x if and only if it is at most as long as the distance of x
pub end_before : (x lo : ℤ) (offset step q : ℕ) → pos offset ≡ lo -ℤ x → ((m : ℕ) → (m ≤ q ↔ (m * step) ≤ offset)) → (m : ℕ)
    → (m ≤ q ↔ site_end x step m ≤ℤ lo)
end_before x lo offset step q is so m = (λ h. let k = (so m).0 h in omega (arith, ints, is, k), λ h. (so m).1 (omega (arith, ints, is, h)))

pub end_after : (x hi : ℤ) (offset step q : ℕ) → pos offset ≡ hi -ℤ x → ((m : ℕ) → (q ≤ m ↔ offset ≤ (m * step))) → (m : ℕ)
    → (q ≤ m ↔ hi ≤ℤ site_end x step m)
end_after x hi offset step q is so m = (λ h. let k = (so m).0 h in omega (arith, ints, is, k), λ h. (so m).1 (omega (arith, ints, is, h)))

-- ---- the area of sites

pub times : (f : Frame) (step n : ℕ) → pos step ≡ f.pitch.x → pos n *ℤ f.pitch.x ≡ pos (n * step)
times f step n is = ap (λ (z : ℤ). pos n *ℤ z) (sym is) ∙ pos-*ℤ-pos n step

sum_of : (x p q : ℤ) (m n k : ℕ) → p ≡ pos m → q ≡ pos n → k ≡ m + n → (x +ℤ p) +ℤ q ≡ x +ℤ pos k
sum_of x p q m n k first second sum = omega (arith, ints, first, second, sum)

pub begins : (f : Frame) (r : Row) (step first count : ℕ) → pos step ≡ f.pitch.x → (sites_area f r first count).x1 ≡ site_end r.x step first
begins f r step first count is = ap (λ (z : ℤ). r.x +ℤ z) (times f step first is)

pub ends : (f : Frame) (r : Row) (step first count : ℕ) → pos step ≡ f.pitch.x → (sites_area f r first count).x2 ≡ site_end r.x step (first + count)
ends f r step first count is =
    sum_of r.x (pos first *ℤ f.pitch.x) (pos count *ℤ f.pitch.x) (first * step) (count * step) ((first + count) * step) (times f step first is)
    (times f step count is) (add_times first count step)

pub is_wide : (f : Frame) (r : Row) (step first count : ℕ) → pos step ≡ f.pitch.x → 0 < step → 0 < count
    → (sites_area f r first count).x1 <ℤ (sites_area f r first count).x2
is_wide f r step first count is some more =
    let low = begins f r step first count is in
    let high = ends f r step first count is in
    let sum = add_times first count step in
    let positive = times_pos count step more some in
    omega (arith, ints, low, high, sum, positive)

-- ---- sites that a rectangle covers in part

module _ (x : ℤ) (step : ℕ) (area rect run : Rect) (range : SiteRange) (first count : ℕ) (covers : CoversSites x step area rect range) (low : run.x1 ≡ site_end x step first) (high : run.x2 ≡ site_end x step (first + count)) (left : area.x1 ≤ℤ run.x1) (right : run.x2 ≤ℤ area.x2) where
  pub off_of_beside : IsBeside first count range → SharesPoint rect run → ⊥
  off_of_beside (inl h) shares =
      let e = edges_of_shared rect run shares in
      let at = (covers.from (first + count)).0 h in
      let crosses = e.left in
      let wide = e.wide_second in
      omega (arith, ints, clamps, at, crosses, wide, left, high)
  off_of_beside (inr h) shares =
      let e = edges_of_shared rect run shares in
      let at = (covers.to first).0 h in
      let crosses = e.right in
      let wide = e.wide_second in
      omega (arith, ints, clamps, at, crosses, wide, right, low)

  pub beside_of_off : SharesPoint area rect → run.x1 <ℤ run.x2 → run.y1 ≡ area.y1 → run.y2 ≡ area.y2 → (SharesPoint rect run → ⊥) → IsBeside first count range
  beside_of_off over wide bottom top off =
      let e = edges_of_shared area rect over in
      let wide_rect = e.wide_second in
      let high_rect = e.high_second in
      let high_area = e.high_first in
      let below = e.below in
      let above = e.above in
      by_lt_z (int_max rect.x1 area.x1) run.x2
      (λ a. by_lt_z run.x1 (int_min rect.x2 area.x2)
      (λ b. absurd (off (shared_of_edges rect run record {
        wide_first = wide_rect;
        wide_second = wide;
        high_first = high_rect;
        high_second = omega (arith, ints, high_area, bottom, top);
        left = omega (arith, ints, clamps, a);
        right = omega (arith, ints, clamps, b);
        below = omega (arith, ints, above, top);
        above = omega (arith, ints, below, bottom);
      })))
      (λ b. inr ((covers.to first).1 (subst (λ (z : ℤ). int_min rect.x2 area.x2 ≤ℤ z) low b))))
      (λ a. inl ((covers.from (first + count)).1 (subst (λ (z : ℤ). z ≤ℤ int_max rect.x1 area.x1) high a)))
