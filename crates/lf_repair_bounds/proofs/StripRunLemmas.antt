-- The widest run of a strip, from the longest run between blocked sites.
use Rattle.std.proofs.Common.{◌≡◌, ◌∙◌, ◌⊎◌, inl, inr, ℕ, zero, suc, ◌+◌, ◌*◌, ◌^◌, ◌<◌, ◌≤◌, ℤ, pos, ◌*ℤ◌, ◌≤ℤ◌, List, [], ◌∷◌, ◌++◌, length, get_or, refl, ap, sym, subst, arith}
use Rattle.std.specs.Prelude.{All, Any, IsPermutation}
use Rattle.std.proofs.lemmas.Int.{ints}
use Rattle.std.proofs.lemmas.List.{get_or_default}
use Rattle.std.proofs.lemmas.List.Elements.{All-append, All-push}
use Rattle.std.proofs.lemmas.List.Quantifiers.{Any-push}
use Rattle.std.proofs.lemmas.List.Sorted.{All-permutation, Contains-permutation, IsPermutation-sym}
use Rattle.std.proofs.lemmas.Nat.{mul-le}
use Rattle.lf_units.specs.declared.geometry.Rect.{Rect}
use Rattle.lf_units.specs.Area.{SharesPoint}
use Rattle.lf_floorplan.specs.declared.frame.Frame.{Frame}
use Rattle.lf_floorplan.specs.declared.parts.Row.{Row}
use Rattle.lf_units.specs.declared.placed.Placed.{Placed}
use Rattle.lf_units.specs.Near.{AreAllOverlapping}
use Rattle.lf_repair_bounds.specs.declared.site_runs.SiteRange.{SiteRange}
use Rattle.lf_repair_bounds.specs.FreeRuns.{AreCovered, CoversSites, HasSites, IsStripRun, IsWidestIn, LiesOnRow, site_end}
use Rattle.lf_repair_bounds.specs.Gaps.{sites_area}
use Rattle.lf_repair_bounds.specs.SiteRuns.{IsBeside, IsLongestRun, IsRun}
use Rattle.lf_repair_bounds.proofs.BlockedLemmas.{all_left}
use Rattle.lf_repair_bounds.proofs.SiteLemmas.{add_times, begins, beside_of_off, ends, is_wide, off_of_beside, times}

module _ (f : Frame) (r : Row) (area : Rect) (tree found : List Placed) (step : ℕ) (sites : SiteRange) (ranges : List SiteRange) (is : pos step ≡ f.pitch.x) (some : 0 < step) (lies : LiesOnRow f r area) (near : AreAllOverlapping tree area found) (covered : AreCovered r.x step area found ranges) (has : HasSites r.x step area sites) where
  abbrev run : ℕ → ℕ → Rect
  run first count = sites_area f r first count

  left_in : (first count : ℕ) → sites.from ≤ first → area.x1 ≤ℤ (run first count).x1
  left_in first count from = subst (λ (z : ℤ). area.x1 ≤ℤ z) (sym (begins f r step first count is)) ((has.from first).0 from)

  right_in : (first count : ℕ) → (first + count) ≤ sites.to → (run first count).x2 ≤ℤ area.x2
  right_in first count to = subst (λ (z : ℤ). z ≤ℤ area.x2) (sym (ends f r step first count is)) ((has.to (first + count)).0 to)

  -- a rectangle that shares a point with the run shares it with the area
  shares_area : (first count : ℕ) (rect : Rect) → area.x1 ≤ℤ (run first count).x1 → (run first count).x2 ≤ℤ area.x2 → SharesPoint rect (run first count) → SharesPoint area rect
  shares_area first count rect low high s =
      let left = s.in_second.left in
      let right = s.in_second.right in
      let bottom = s.in_second.bottom in
      let top = s.in_second.top in
      let base = lies.bottom in
      let upper = lies.top in
      record {
        x = s.x;
        y = s.y;
        in_first = record { left = omega (arith, ints, low, left); right = omega (arith, ints, high, right); bottom = omega (arith, ints, base, bottom); top = omega (arith, ints, upper, top) };
        in_second = s.in_first;
      }

  strip_run : (first count : ℕ) → IsRun sites ranges first count → IsStripRun f r area tree first count
  strip_run first count open_run = record {
    left = low;
    right = high;
    off = All-permutation Off (found ++ near.others) tree (IsPermutation-sym tree (found ++ near.others) near.parted) (All-append Off found near.others of_found of_others);
  }
    where
      Off : Placed → Type 0
      Off p = SharesPoint p.rect (run first count) → ⊥

      low : area.x1 ≤ℤ (run first count).x1
      low = left_in first count open_run.from

      high : (run first count).x2 ≤ℤ area.x2
      high = right_in first count open_run.to

      of_found : All Off found
      of_found k d within =
          let any = covered.each k d within in
          let beside : IsBeside first count any.1 = subst (IsBeside first count) any.3 (open_run.clear any.0 any.1 any.2) in
          off_of_beside r.x step area (get_or found k d).rect (run first count) any.1 first count any.4 (begins f r step first count is)
          (ends f r step first count is) low high beside

      of_others : All Off near.others
      of_others k d within s = near.far k d within (shares_area first count (get_or near.others k d).rect low high s)

  site_run : (first count : ℕ) → 0 < count → IsStripRun f r area tree first count → IsRun sites ranges first count
  site_run first count more strip = record {
    from = (has.from first).1 (subst (λ (z : ℤ). area.x1 ≤ℤ z) (begins f r step first count is) strip.left);
    to = (has.to (first + count)).1 (subst (λ (z : ℤ). z ≤ℤ area.x2) (ends f r step first count is) strip.right);
    clear = clear;
  }
    where
      Off : Placed → Type 0
      Off p = SharesPoint p.rect (run first count) → ⊥

      off_found : All Off found
      off_found = all_left Off found near.others (All-permutation Off tree (found ++ near.others) near.parted strip.off)

      clear : All (λ b. IsBeside first count b) ranges
      clear k d within =
          let any = covered.are k d within in
          let over : SharesPoint area any.1.rect = subst (λ (p : Placed). SharesPoint area p.rect) any.3 (near.near any.0 any.1 any.2) in
          let off : Off any.1 = subst Off any.3 (off_found any.0 any.1 any.2) in
          beside_of_off r.x step area any.1.rect (run first count) (get_or ranges k d) first count any.4 (begins f r step first count is)
          (ends f r step first count is) strip.left strip.right over (is_wide f r step first count is some more) (sym lies.bottom) (sym lies.top) off

  pub widest_of_longest : (count width : ℕ) → IsLongestRun sites ranges count → width ≡ count * step → IsWidestIn f r area tree width
  widest_of_longest count width longest product = record { is_one = one longest.is_one; no_wider = no_wider } where
    as_width : pos width ≡ pos count *ℤ f.pitch.x
    as_width = ap (λ (n : ℕ). pos n) product ∙ sym (times f step count is)

    one : (count ≡ 0) ⊎ ((first : ℕ) × IsRun sites ranges first count)
        → (width ≡ 0) ⊎ ((first : ℕ) × (n : ℕ) × IsStripRun f r area tree first n × (pos width ≡ pos n *ℤ f.pitch.x))
    one (inl none) = inl (let empty : count * step ≡ 0 * step = ap (λ (n : ℕ). n * step) none in omega (arith, product, empty))
    one (inr (first, open_run)) = inr (first, count, strip_run first count open_run, as_width)

    no_wider : (first n : ℕ) → 0 < n → IsStripRun f r area tree first n → (pos n *ℤ f.pitch.x) ≤ℤ pos width
    no_wider first n more strip =
        let fewer = longest.no_longer first n (site_run first n more strip) in
        let shorter = mul-le n step count step fewer (omega arith) in
        let length_is = times f step n is in
        omega (arith, ints, length_is, product, shorter)

  -- the width of the longest run is below 2^64
  pub width_fits : (count : ℕ) → IsLongestRun sites ranges count → (count * step) < 2 ^ 64
  width_fits count longest = fits longest.is_one where
    fits : (count ≡ 0) ⊎ ((first : ℕ) × IsRun sites ranges first count) → (count * step) < 2 ^ 64
    fits (inl none) = let empty : count * step ≡ 0 * step = ap (λ (n : ℕ). n * step) none in omega (arith, empty)
    fits (inr (first, open_run)) =
        let last : site_end r.x step (first + count) ≤ℤ area.x2 = (has.to (first + count)).0 open_run.to in
        let sum = add_times first count step in
        let low = lies.from in
        let high = lies.to in
        omega (arith, ints, last, sum, low, high)

-- ---- the blocked sites

any_nil : {X : Type 0} (P : X → Type 0) → Any P [] → ⊥
any_nil P (k, x, below, is, p) = omega (arith, below)

any_head : {X : Type 0} (P : X → Type 0) (x : X) (xs : List X) → P x → Any P (x ∷ xs)
any_head P x xs p = (0, x, omega arith, refl, p)

any_tail : {X : Type 0} (P : X → Type 0) (x : X) (xs : List X) → Any P xs → Any P (x ∷ xs)
any_tail P x xs (k, y, below, is, p) = (suc k, y, omega (arith, below), is, p)

any_cases : {X : Type 0} (P : X → Type 0) (x : X) (xs : List X) → Any P (x ∷ xs) → P x ⊎ Any P xs
any_cases P x xs (zero, y, below, is, p) = inl (subst P (sym is) p)
any_cases P x xs (suc k, y, below, is, p) = inr (k, y, omega (arith, below), is, p)

pub any_left : {X : Type 0} (P : X → Type 0) (xs ys : List X) → Any P xs → Any P (xs ++ ys)
any_left P [] ys a = absurd (any_nil P a)
any_left P (x ∷ xs) ys a = elim (any_cases P x xs a) [
  | inl p ↦ any_head P x (xs ++ ys) p
  | inr r ↦ any_tail P x (xs ++ ys) (any_left P xs ys r)
]

-- the ranges of the first n boxes
pub record AreCoveredSo (x : ℤ) (step : ℕ) (area : Rect) (boxes : List Placed) (n : ℕ) (ranges : List SiteRange) : Type 0 where
  pub are : All (λ range. Any (λ p. CoversSites x step area p.rect range) boxes) ranges
  pub each : (k : ℕ) (d : Placed) → k < n → Any (λ range. CoversSites x step area (get_or boxes k d).rect range) ranges

below_or_at : (m k : ℕ) → m < k + 1 → (m < k) ⊎ (m ≡ k)
below_or_at m k less = grind arith

pub covered_more : (x : ℤ) (step : ℕ) (area : Rect) (boxes : List Placed) (n : ℕ) (d : Placed) (ranges new : List SiteRange) (range : SiteRange)
    → CoversSites x step area (get_or boxes n d).rect range → n < length boxes → new ≡ ranges ++ range ∷ []
    → AreCoveredSo x step area boxes n ranges → AreCoveredSo x step area boxes (n + 1) new
covered_more x step area boxes n d ranges new range covers within is c = subst (AreCoveredSo x step area boxes (n + 1)) (sym is) record {
  are = All-push (λ (s : SiteRange). Any (λ p. CoversSites x step area p.rect s) boxes) ranges range c.are
      (n, get_or boxes n d, within, get_or_default boxes n (get_or boxes n d) d within, covers);
  each = λ k e below. elim (below_or_at k n below) [
    | inl h ↦ any_left (λ (s : SiteRange). CoversSites x step area (get_or boxes k e).rect s) ranges (range ∷ []) (c.each k e h)
    | inr h ↦
        let Covered : Placed → Type 0 = λ p. Any (λ s. CoversSites x step area p.rect s) (ranges ++ range ∷ []) in
        let here : Covered (get_or boxes n d) = Any-push (λ (s : SiteRange). CoversSites x step area (get_or boxes n d).rect s) ranges range covers in
        let At : ℕ → Type 0 = λ m. Covered (get_or boxes m e) in
        subst At (sym h) (subst Covered (get_or_default boxes n d e within) here)
  ];
}

pub covered_all : (x : ℤ) (step : ℕ) (area : Rect) (boxes : List Placed) (n : ℕ) (ranges : List SiteRange) → length boxes ≤ n
    → AreCoveredSo x step area boxes n ranges → AreCovered x step area boxes ranges
covered_all x step area boxes n ranges all c = record { are = c.are; each = λ k d within. c.each k d (omega (arith, within, all)) }

-- the ranges in another order
pub covered_moved : (x : ℤ) (step : ℕ) (area : Rect) (boxes : List Placed) (ranges moved : List SiteRange) → IsPermutation ranges moved
    → AreCovered x step area boxes ranges → AreCovered x step area boxes moved
covered_moved x step area boxes ranges moved same c = record {
  are = All-permutation (λ range. Any (λ p. CoversSites x step area p.rect range) boxes) ranges moved same c.are;
  each = λ k d within.
      let any = c.each k d within in
      let there = Contains-permutation ranges moved any.1 same (any.0, any.2, any.3) in
      (there.0, any.1, there.1, there.2, any.4);
}
