-- The facts about a row's points that the boxes found near it determine.
use Rattle.std.proofs.Common.{◌≡◌, ◌⊎◌, inl, inr, ℕ, zero, suc, ℤ, ◌+◌, ◌<◌, ◌≤◌, List, [], ◌∷◌, length}
use Rattle.std.proofs.Common.{map, get_or, slice_get, Option, Some, None, refl, sym, ap, subst, ◌∙◌, arith}
use Rattle.std.specs.Prelude.{Any, Contains, IsPermutation}
use Rattle.std.proofs.Math.ListN.{get_or-map}
use Rattle.std.proofs.lemmas.Option.{slice_get_within, slice_get-get_or}
use Rattle.std.proofs.lemmas.List.{length-map}
use Rattle.std.proofs.lemmas.List.Elements.{All-contains, Contains-append_left, Contains-append_right, Contains-append_cases}
use Rattle.std.proofs.lemmas.List.Sorted.{Contains-permutation, IsPermutation-sym}
use Rattle.lf_units.specs.declared.geometry.Rect.{Rect}
use Rattle.lf_units.specs.Area.{Covers, SharesPoint, CoveredBy}
use Rattle.lf_units.proofs.Any.{has_item}
use Rattle.lf_units.specs.declared.placed.Placed.{Placed}
use Rattle.lf_units.specs.Near.{AreAllOverlapping}
use Rattle.lf_units.proofs.Nears.{each_near, only_near}
use Rattle.lf_floorplan.specs.declared.frame.Frame.{Frame}
use Rattle.lf_floorplan.specs.declared.parts.Row.{Row}
use Rattle.lf_floorplan.specs.declared.parts.Team.{Team}
use Rattle.lf_floorplan.specs.Rows.{row_area}
use Rattle.lf_floorplan.specs.Ground.{InGround}
use Rattle.lf_segments.specs.Boxes.{placed_with_number, fence_boxes, frame_boxes, IsOverlappedAt, AreBoxesOf}

-- ---- the points that a list of boxes holds

later_there : {X : Type 0} (y x : X) (xs : List X) → Contains xs x → Contains (y ∷ xs) x
later_there y x xs (k, within, is) = (suc k, omega (arith, within), is)

pub map_there : {A B : Type 0} (g : A → B) (xs : List A) (x : A) → Contains xs x → Contains (map g xs) (g x)
map_there g xs x there =
    let long = length-map xs g in
    let within = there.1 in
    (there.0, omega (arith, long, within), get_or-map g xs there.0 x ∙ ap g there.2)

pub of_map : {A B : Type 0} (g : A → B) (xs : List A) (y : B) → Contains (map g xs) y → (x : A) × Contains xs x × (g x ≡ y)
of_map g [] y (k, within, is) = absurd (omega arith)
of_map g (x ∷ xs) y (zero, within, is) = (x, (0, omega arith, refl), is)
of_map g (x ∷ xs) y (suc k, within, is) = let deeper = of_map g xs y (k, omega arith, is) in (deeper.0, later_there x deeper.0 xs deeper.1, deeper.2)

pub fence_there : (n : ℕ) (teams : List Team) (t : ℕ) (team : Team) (r : Rect) → slice_get teams t ≡ Some team → Contains team.rects r →
    Contains (fence_boxes n teams) (placed_with_number (n + t) r)
fence_there n [] t team r is there = absurd cc
fence_there n (x ∷ teams) zero team r is there =
    let same : x ≡ team = cc in
    let at : n ≡ n + 0 = omega arith in
    let here : Contains x.rects r = subst (λ (y : Team). Contains y.rects r) (sym same) there in
    subst (λ (m : ℕ). Contains (fence_boxes n (x ∷ teams)) (placed_with_number m r)) at
    (Contains-append_left (map (placed_with_number n) x.rects) (fence_boxes (n + 1) teams) (placed_with_number n r) (map_there (placed_with_number n) x.rects r here))
fence_there n (x ∷ teams) (suc t) team r is there =
    let at : (n + 1) + t ≡ n + suc t = omega arith in
    subst (λ (m : ℕ). Contains (fence_boxes n (x ∷ teams)) (placed_with_number m r)) at
    (Contains-append_right (map (placed_with_number n) x.rects) (fence_boxes (n + 1) teams) (placed_with_number ((n + 1) + t) r) (fence_there (n + 1) teams t team r is there))

-- A box of a fence: the fence's position, the fence, and the rectangle among its own.
pub record OfFence (n : ℕ) (teams : List Team) (p : Placed) : Type 0 where
  pub place : ℕ
  pub team : Team
  pub number : p.own ≡ n + place
  pub is : slice_get teams place ≡ Some team
  pub there : Contains team.rects p.rect

pub of_fence : (n : ℕ) (teams : List Team) (p : Placed) → Contains (fence_boxes n teams) p → OfFence n teams p
of_fence n [] p (k, within, is) = absurd (omega arith)
of_fence n (x ∷ teams) p there = elim (Contains-append_cases (map (placed_with_number n) x.rects) (fence_boxes (n + 1) teams) p there) [
  | inl here ↦
      let from = of_map (placed_with_number n) x.rects p here in
      let same : from.0 ≡ p.rect = ap (λ (q : Placed). q.rect) from.2 in
      let number : n ≡ p.own = ap (λ (q : Placed). q.own) from.2 in
      record { place = 0; team = x; number = omega (arith, number); is = refl; there = subst (λ (r : Rect). Contains x.rects r) same from.1 }
  | inr later ↦
      let deeper = of_fence (n + 1) teams p later in
      let number = deeper.number in
      record { place = suc deeper.place; team = deeper.team; number = omega (arith, number); is = deeper.is; there = deeper.there }
]

-- ---- a frame's boxes

-- A box of a frame is a fence's rectangle, or an obstacle with the ground team's number.
of_frame : (f : Frame) (p : Placed) → Contains (frame_boxes f) p → OfFence 0 f.teams p ⊎ ((p.own ≡ length f.teams) × Contains f.obstacles p.rect)
of_frame f p there = elim (Contains-append_cases (fence_boxes 0 f.teams) (map (placed_with_number (length f.teams)) f.obstacles) p there) [
  | inl fence ↦ inl (of_fence 0 f.teams p fence)
  | inr obstacle ↦
      let from = of_map (placed_with_number (length f.teams)) f.obstacles p obstacle in
      let same : from.0 ≡ p.rect = ap (λ (q : Placed). q.rect) from.2 in
      inr (sym (ap (λ (q : Placed). q.own) from.2), subst (Contains f.obstacles) same from.1)
]

known_of : (f : Frame) (p : Placed) → Contains (frame_boxes f) p → p.own ≤ length f.teams
known_of f p there = elim (of_frame f p there) [
  | inl fence ↦
      let number = fence.number in
      let within = slice_get_within f.teams fence.place fence.team fence.is in
      omega (arith, number, within)
  | inr obstacle ↦ let same = obstacle.0 in omega (arith, same)
]

fence_there_at : (f : Frame) (t : ℕ) (x y : ℤ) → t < length f.teams → InGround f t x y → IsOverlappedAt (frame_boxes f) t x y
fence_there_at f t x y fence ground = by (slice_get f.teams t) refl
  where
    by : (o : Option Team) → slice_get f.teams t ≡ o → IsOverlappedAt (frame_boxes f) t x y
    by (Some team) is =
        let covered : CoveredBy team.rects x y = rw is at ground in
        let there : Contains (fence_boxes 0 f.teams) (placed_with_number (0 + t) covered.1) = fence_there 0 f.teams t team covered.1 is
        (covered.0, covered.2, covered.3) in
        let number : 0 + t ≡ t = omega arith in
        has_item (λ p. (p.own ≡ t) × Covers p.rect x y) (frame_boxes f) (placed_with_number (0 + t) covered.1)
        (Contains-append_left (fence_boxes 0 f.teams) (map (placed_with_number (length f.teams)) f.obstacles) (placed_with_number (0 + t) covered.1) there) (number, covered.4)
    by None past = let same = (rw past at ground).0 in absurd (omega (arith, same, fence))

fence_of_overlapped : (f : Frame) (t : ℕ) (x y : ℤ) → t < length f.teams → IsOverlappedAt (frame_boxes f) t x y → InGround f t x y
fence_of_overlapped f t x y fence (k, p, within, at, (own, covers)) = elim (of_frame f p (k, within, at)) [
  | inl found ↦
      let number = found.number in
      let same : found.place ≡ t = omega (arith, number, own) in
      let is : slice_get f.teams t ≡ Some found.team = ap (λ (m : ℕ). slice_get f.teams m) (sym same) ∙ found.is in
      let covered : CoveredBy found.team.rects x y = has_item (λ r. Covers r x y) found.team.rects p.rect found.there covers in
      rw is covered
  | inr obstacle ↦ let same = obstacle.0 in absurd (omega (arith, same, own, fence))
]

obstacle_there_at : (f : Frame) (x y : ℤ) → Any (λ r. Covers r x y) f.obstacles → IsOverlappedAt (frame_boxes f) (length f.teams) x y
obstacle_there_at f x y (k, r, within, is, covers) =
    has_item (λ p. (p.own ≡ length f.teams) × Covers p.rect x y) (frame_boxes f) (placed_with_number (length f.teams) r)
    (Contains-append_right (fence_boxes 0 f.teams) (map (placed_with_number (length f.teams)) f.obstacles) (placed_with_number (length f.teams) r)
    (map_there (placed_with_number (length f.teams)) f.obstacles r (k, within, is)))
    (refl, covers)

obstacle_of_overlapped : (f : Frame) (x y : ℤ) → IsOverlappedAt (frame_boxes f) (length f.teams) x y → Any (λ r. Covers r x y) f.obstacles
obstacle_of_overlapped f x y (k, p, within, at, (own, covers)) = elim (of_frame f p (k, within, at)) [
  | inl found ↦
      let number = found.number in
      let low = slice_get_within f.teams found.place found.team found.is in
      absurd (omega (arith, number, low, own))
  | inr obstacle ↦ has_item (λ r. Covers r x y) f.obstacles p.rect obstacle.1 covers
]

-- ---- the boxes found near a row

pub boxes_near : (f : Frame) (r : Row) (boxes near : List Placed) (rect : Rect) → IsPermutation (frame_boxes f) boxes → rect ≡ row_area f.pitch r →
    AreAllOverlapping boxes rect near → AreBoxesOf f f.obstacles r near
boxes_near f r boxes near rect moved same_rect found = record {
  known = λ k d within. known_of f (get_or near k d) (back (get_or near k d) (only_near boxes area near are k d within).0);
  near = are.near;
  report_it = λ x y covers. record {
    fence = λ team fence. (λ ground. overlapping_one team x y covers (fence_there_at f team x y fence ground), λ h. fence_of_overlapped f team x y fence (unmet team x y h));
    obstacle = (λ a. overlapping_one (length f.teams) x y covers (obstacle_there_at f x y a), λ h. obstacle_of_overlapped f x y (unmet (length f.teams) x y h));
  };
}
  where
    area : Rect
    area = row_area f.pitch r

    are : AreAllOverlapping boxes area near
    are = subst (λ (a : Rect). AreAllOverlapping boxes a near) same_rect found

    back : (p : Placed) → Contains boxes p → Contains (frame_boxes f) p
    back p there = Contains-permutation boxes (frame_boxes f) p (IsPermutation-sym (frame_boxes f) boxes moved) there

    overlapping_one : (own : ℕ) (x y : ℤ) → Covers area x y → IsOverlappedAt (frame_boxes f) own x y → IsOverlappedAt near own x y
    overlapping_one own x y covers (k, p, within, is, e) =
        let there : Contains boxes p = Contains-permutation (frame_boxes f) boxes p moved (k, within, is) in
        let inside : Contains near p =
        All-contains (λ q. SharesPoint area q.rect → Contains near q) boxes p (each_near boxes area near are) there
        record { x = x; y = y; in_first = covers; in_second = e.1 } in
        has_item (λ q. (q.own ≡ own) × Covers q.rect x y) near p inside e

    unmet : (own : ℕ) (x y : ℤ) → IsOverlappedAt near own x y → IsOverlappedAt (frame_boxes f) own x y
    unmet own x y (k, p, within, is, e) =
        let there : Contains boxes p = (All-contains (λ q. Contains boxes q × SharesPoint area q.rect) near p (only_near boxes area near are)
        (k, within, is)).0 in
        has_item (λ q. (q.own ≡ own) × Covers q.rect x y) (frame_boxes f) p (back p there) e

-- ---- teams that may use a row exist

pub row_of : (f : Frame) (n : ℕ) (d : Row) → n < length f.rows → slice_get f.rows n ≡ Some (get_or f.rows n d)
row_of f n d within = slice_get-get_or f.rows n d within
