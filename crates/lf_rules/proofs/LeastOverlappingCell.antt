-- The least number that overlaps among the boxes of cells is the first other cell that overlaps.
-- The boxes are in the order of their numbers.
use Rattle.std.proofs.Common.{◌≡◌, ◌≢◌, ℕ, zero, suc, ◌+◌, ◌<◌, ◌≤◌, Bool, true, false, cond, not, eqb, List, [], ◌∷◌, Option, Some, None, refl, sym, ◌∙◌, ap, subst, arith}
use Rattle.std.specs.Prelude.{All, Contains, IsPermutation, filter, take}
use Rattle.std.proofs.lemmas.Bool.Decides.{nat_tests}
use Rattle.std.proofs.lemmas.List.Elements.{All-nil, All-cons, All-head, All-tail, All-weaker, All-contains}
use Rattle.std.proofs.lemmas.List.Sorted.{All-permutation, Contains-permutation, IsPermutation-sym}
use Rattle.lf_units.specs.declared.geometry.Rect.{Rect}
use Rattle.lf_units.specs.Area.{SharesPoint}
use Rattle.lf_units.specs.declared.placed.Placed.{Placed}
use Rattle.lf_units.specs.Near.{IsLeastOverlapping, IsNoneOverlapping}
use Rattle.lf_floorplan.specs.declared.frame.Frame.{Frame}
use Rattle.lf_rules.specs.Choice.{SpotPlace}
use Rattle.lf_rules.specs.Legality.{IsFirstOverlapping}
use Rattle.lf_rules.specs.Team.{Member, box_in, with_box, boxes_from, boxes_beside}
use Rattle.lf_rules.proofs.BesideLemmas.{filtered_hold}

-- Each later box has a greater number.
abbrev Rise : List Placed → Type 0
Rise [] = Unit {0}
Rise (b ∷ boxes) = All (λ p. b.own < p.own) boxes × Rise boxes

boxes_above : (f : Frame) (n : ℕ) (cells : List Member) → All (λ p. n ≤ p.own) (boxes_from f n cells)
boxes_above f n [] = All-nil (λ p. n ≤ p.own)
boxes_above f n (m ∷ cells) = by m.place (All-weaker (λ p. n + 1 ≤ p.own) (λ p. n ≤ p.own) (λ p above. omega (arith, above)) (boxes_from f (n + 1) cells) (boxes_above f (n + 1) cells))
  where
    by : (place : Option SpotPlace) → All (λ p. n ≤ p.own) (boxes_from f (n + 1) cells) →
        All (λ p. n ≤ p.own) (with_box f n m.mac place (boxes_from f (n + 1) cells))
    by None rest = rest
    by (Some p) rest = All-cons (λ q. n ≤ q.own) (record { own = n; rect = box_in f m.mac p }) (boxes_from f (n + 1) cells) (omega arith) rest

boxes_rise : (f : Frame) (n : ℕ) (cells : List Member) → Rise (boxes_from f n cells)
boxes_rise f n [] = tt
boxes_rise f n (m ∷ cells) = by m.place (boxes_rise f (n + 1) cells)
  where
    by : (place : Option SpotPlace) → Rise (boxes_from f (n + 1) cells) → Rise (with_box f n m.mac place (boxes_from f (n + 1) cells))
    by None rest = rest
    by (Some p) rest = (All-weaker (λ q. n + 1 ≤ q.own) (λ q. n < q.own) (λ q above. omega (arith, above)) (boxes_from f (n + 1) cells) (boxes_above f (n + 1) cells), rest)

abbrev others : List Placed → ℕ → List Placed
others boxes but = filter (λ p. not (eqb p.own but)) boxes

-- The first overlapping box of a longer list whose first box does not overlap.
later : (b : Placed) (boxes : List Placed) (box : Rect) (own : ℕ) → (SharesPoint box b.rect → ⊥) → IsFirstOverlapping box boxes own → IsFirstOverlapping box (b ∷ boxes) own
later b boxes box own apart overlapping_one = record {
  place = suc overlapping_one.place;
  cell = overlapping_one.cell;
  there = overlapping_one.there;
  named = overlapping_one.named;
  does_overlap = overlapping_one.does_overlap;
  first = All-cons (λ p. SharesPoint box p.rect → ⊥) b (take overlapping_one.place boxes) apart overlapping_one.first;
}

-- The first box is the least that overlaps.
here : (b : Placed) (boxes : List Placed) (box : Rect) (but own : ℕ) (t : Bool) → not (eqb b.own but) ≡ t → b.own ≡ own → own ≢ but → SharesPoint box b.rect →
    IsFirstOverlapping box (cond t (b ∷ others boxes but) (others boxes but)) own
here b boxes box but own true e same other shares = record {
  place = 0;
  cell = b;
  there = refl;
  named = same;
  does_overlap = shares;
  first = All-nil (λ q. SharesPoint box q.rect → ⊥);
}
here b boxes box but own false e same other shares =
    let the_same : b.own ≡ but = grind (arith, nat_tests) in
    absurd (other (sym same ∙ the_same))

-- The least that overlaps is a later box.
there : (b : Placed) (boxes : List Placed) (box : Rect) (but own : ℕ) (t : Bool) → not (eqb b.own but) ≡ t → b.own < own →
    (b.own ≢ but → SharesPoint box b.rect → own ≤ b.own) →
    IsFirstOverlapping box (others boxes but) own → IsFirstOverlapping box (cond t (b ∷ others boxes but) (others boxes but)) own
there b boxes box but own true e below least overlapping_one =
    let differ : b.own ≢ but = λ same. grind (arith, nat_tests) in
    later b (others boxes but) box own (λ shares. let no_greater = least differ shares in omega (arith, below, no_greater)) overlapping_one
there b boxes box but own false e below least overlapping_one = overlapping_one

first_of_least : (boxes : List Placed) (box : Rect) (but own : ℕ) → Rise boxes → IsLeastOverlapping boxes box but own → IsFirstOverlapping box (others boxes but) own
first_of_least [] box but own rise least = let within = least.overlapping_one.among.1 in absurd (omega (arith, within))
first_of_least (b ∷ boxes) box but own rise least = at least.overlapping_one.among (first_of_least boxes box but own rise.1)
  where
    p : Placed
    p = least.overlapping_one.placed

    at : Contains (b ∷ boxes) p → (IsLeastOverlapping boxes box but own → IsFirstOverlapping box (others boxes but) own) → IsFirstOverlapping box (others (b ∷ boxes) but) own
    at (zero, within, is) deeper =
        here b boxes box but own (not (eqb b.own but)) refl (ap (λ (q : Placed). q.own) is ∙ least.overlapping_one.number) least.overlapping_one.other (subst (λ (q : Placed). SharesPoint box q.rect) (sym is) least.overlapping_one.shares)
    at (suc k, within, is) deeper =
        let among : Contains boxes p = (k, omega (arith, within), is) in
        let above : b.own < p.own = All-contains (λ q. b.own < q.own) boxes p rise.0 among in
        let number = least.overlapping_one.number in
        there b boxes box but own (not (eqb b.own but)) refl (omega (arith, above, number))
        (All-head (λ q. q.own ≢ but → SharesPoint box q.rect → own ≤ q.own) b boxes least.least)
        (deeper (record {
          overlapping_one = record { placed = p; among = among; number = number; other = least.overlapping_one.other; shares = least.overlapping_one.shares };
          least = All-tail (λ q. q.own ≢ but → SharesPoint box q.rect → own ≤ q.own) b boxes least.least;
        }))

-- The least number that overlaps in a tree of the cells' boxes is the first other cell that
-- overlaps.
pub first_beside : (f : Frame) (cells : List Member) (tree : List Placed) (box : Rect) (but own : ℕ) → IsPermutation (boxes_from f 0 cells) tree →
    IsLeastOverlapping tree box but own → IsFirstOverlapping box (boxes_beside f cells but) own
first_beside f cells tree box but own same least =
    let boxes : List Placed = boxes_from f 0 cells in
    let back = IsPermutation-sym boxes tree same in
    first_of_least boxes box but own (boxes_rise f 0 cells) (record {
      overlapping_one = record {
        placed = least.overlapping_one.placed;
        among = Contains-permutation tree boxes least.overlapping_one.placed back least.overlapping_one.among;
        number = least.overlapping_one.number;
        other = least.overlapping_one.other;
        shares = least.overlapping_one.shares;
      };
      least = All-permutation (λ q. q.own ≢ but → SharesPoint box q.rect → own ≤ q.own) tree boxes back least.least;
    })

-- If no box of the tree overlaps, no other cell does.
pub none_beside : (f : Frame) (cells : List Member) (tree : List Placed) (box : Rect) (but : ℕ) → IsPermutation (boxes_from f 0 cells) tree →
    IsNoneOverlapping tree box but → All (λ p. SharesPoint box p.rect → ⊥) (boxes_beside f cells but)
none_beside f cells tree box but same none =
    let boxes : List Placed = boxes_from f 0 cells in
    let all = All-permutation (λ q. q.own ≢ but → SharesPoint box q.rect → ⊥) tree boxes (IsPermutation-sym boxes tree same) none in
    filtered_hold (λ q. SharesPoint box q.rect → ⊥) (λ q. not (eqb q.own but)) boxes
    (λ k d within passes. all k d within (λ is. other_than _ passes is))
  where
    other_than : (n : ℕ) → not (eqb n but) ≡ true → n ≡ but → ⊥
    other_than n passes is = grind (arith, nat_tests)
