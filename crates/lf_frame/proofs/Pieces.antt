-- Pieces that share a point, and a sweep over pieces in the order of their lower edges.
use Rattle.std.proofs.Common.{◌≡◌, ◌↔◌, ℕ, ℤ, ◌+◌, ◌-◌, ◌<◌, ◌≤◌, ◌<ℤ◌, ◌≤ℤ◌, ◌⊎◌, inl, inr, true, false, List, [], ◌∷◌, ◌++◌, if◌then◌else◌, length, map, get_or, drop, sym, ◌∙◌, ap, arith}
use Rattle.std.specs.Prelude.{All, Contains, IsPermutation}
use Rattle.std.specs.Ordering.{int_cmp, is_lt}
use Rattle.std.specs.List.Sorted.{IsSortedByKey}
use Rattle.std.proofs.lemmas.Int.{ints}
use Rattle.std.proofs.lemmas.Cmp.{int_cmp_total}
use Rattle.std.proofs.lemmas.List.{get_or_default, get_or-drop, get_or-take, length-drop, length-take, length-map}
use Rattle.std.proofs.lemmas.List.Elements.{All-weaker, All-contains, All-contains_itself, All-head, Contains-append_left, Contains-append_right}
use Rattle.std.proofs.lemmas.Grind.{common_steps}
use Rattle.std.proofs.lemmas.List.Sorted.{ranks_by, sorted_far, All-permutation, IsPermutation-sym}
use Rattle.lf_units.specs.declared.geometry.Point.{Point}
use Rattle.lf_units.specs.declared.geometry.Rect.{Rect}
use Rattle.lf_units.specs.Area.{SharesPoint}
use Rattle.lf_floorplan.specs.declared.sites.Site.{Site}
use Rattle.lf_def.specs.declared.rows.RowStatement.{RowStatement}
use Rattle.lf_def.specs.declared.regions.Region.{Region}
use Rattle.lf_units.proofs.Edges.{EdgesCross, edges_of_shared, shared_of_edges}
use Rattle.lf_frame.specs.declared.sweep.SweepRect.{SweepRect}
use Rattle.lf_floorplan.specs.Rows.{row_area}
use Rattle.lf_frame.specs.Entries.{NoneBreaks}
use Rattle.lf_def.specs.Kinds.{is_fence}
use Rattle.lf_frame.specs.Loading.{is_core_row, frame_row}
use Rattle.lf_frame.specs.Refusals.{OverlapsEarlierRow, OverlapsEarlierFence}
use Rattle.lf_frame.specs.Sweep.{piece_area, piece_of, EndsBefore, Clash, ClashesWithNone, NoneClash, PiecesRise, row_pieces, fence_pieces, ArePiecesOf}
use Rattle.lf_frame.proofs.RectLemmas.{rects_of_point}
use Rattle.lf_frame.proofs.RowEdges.{less}

pub pieces_meet : (a b : SweepRect) → (EndsBefore a a → ⊥) → (EndsBefore b b → ⊥) → (EndsBefore a b → ⊥) → (EndsBefore b a → ⊥) →
    SharesPoint (piece_area a) (piece_area b)
pieces_meet a b some_a some_b not_a not_b =
    shared_of_edges (piece_area a) (piece_area b) (record {
      wide_first = less _ _ (λ h. some_a (inl h));
      wide_second = less _ _ (λ h. some_b (inl h));
      high_first = less _ _ (λ h. some_a (inr h));
      high_second = less _ _ (λ h. some_b (inr h));
      left = less _ _ (λ h. not_b (inl h));
      right = less _ _ (λ h. not_a (inl h));
      below = less _ _ (λ h. not_b (inr h));
      above = less _ _ (λ h. not_a (inr h));
    })

-- Pieces that share a point have points, and neither ends before the other.
pub record PiecesPass (a b : SweepRect) : Type 0 where
  pub some_first : EndsBefore a a → ⊥
  pub some_second : EndsBefore b b → ⊥
  pub first : EndsBefore a b → ⊥
  pub second : EndsBefore b a → ⊥

both : (x1 x2 y1 y2 : ℤ) → x1 <ℤ x2 → y1 <ℤ y2 → (x2 ≤ℤ x1) ⊎ (y2 ≤ℤ y1) → ⊥
both x1 x2 y1 y2 across up h = elim h [ inl e ↦ omega (arith, ints) | inr e ↦ omega (arith, ints) ]

pub pieces_pass : (a b : SweepRect) → SharesPoint (piece_area a) (piece_area b) → PiecesPass a b
pieces_pass a b s =
    let e : EdgesCross (piece_area a) (piece_area b) = edges_of_shared (piece_area a) (piece_area b) s in
    record {
      some_first = both a.left a.right a.bottom a.top e.wide_first e.high_first;
      some_second = both b.left b.right b.bottom b.top e.wide_second e.high_second;
      first = both b.left a.right b.bottom a.top e.right e.above;
      second = both a.left b.right a.bottom b.top e.left e.below;
    }

pub clash_turned : (a b : SweepRect) → Clash a b → Clash b a
clash_turned a b h = record {
  entries = λ e. h.entries (sym e);
  point = record { x = h.point.x; y = h.point.y; in_first = h.point.in_second; in_second = h.point.in_first };
}

-- Pieces that begin above a piece share no point with it.
pub none_above : (a b : SweepRect) → a.top ≤ℤ b.bottom → Clash a b → ⊥
none_above a b above h = (pieces_pass a b h.point).first (inr above)

-- In a rising list, no piece clashes with a piece that ends below one of them, if no earlier one
-- does.
pub none_after : (a : SweepRect) (pieces : List SweepRect) (n : ℕ) (e : SweepRect) → n < length pieces → PiecesRise pieces → a.top ≤ℤ (get_or pieces n e).bottom →
    ((k : ℕ) (d : SweepRect) → k < n → Clash a (get_or pieces k d) → ⊥) → ClashesWithNone a pieces
none_after a pieces n e within rise above before k d inside clash =
    let cases : (k < n) ⊎ ((k ≡ n) ⊎ (n < k)) = grind arith in
    let at : get_or pieces n d ≡ get_or pieces n e = get_or_default pieces n d e within in
    elim cases [
      | inl less ↦ before k d less clash
      | inr rest ↦ elim rest [
        | inl same ↦ none_above a (get_or pieces n e) above (rw (same, at) at clash)
        | inr later ↦
            let low : (get_or pieces n d).bottom ≤ℤ (get_or pieces k d).bottom = rise n k d later inside in
            let edge : (get_or pieces n d).bottom ≡ (get_or pieces n e).bottom = ap (λ p. p.bottom) at in
            none_above a (get_or pieces k d) (omega (arith, ints)) clash
      ]
    ]

pub rise_after : (pieces : List SweepRect) (n : ℕ) → PiecesRise pieces → PiecesRise (drop n pieces)
rise_after pieces n rise i j d below within =
    let inside : n + j < length pieces = omega (arith, length-drop n pieces) in
    let lower : n + i < n + j = omega arith in
    rw (get_or-drop n pieces i d, get_or-drop n pieces j d) (rise (n + i) (n + j) d lower inside)

-- A piece that clashes with no piece after it.
pub none_later : (a : SweepRect) (pieces : List SweepRect) (n : ℕ) → ClashesWithNone a (drop n pieces) → (k : ℕ) (d : SweepRect) → n ≤ k → k < length pieces →
    Clash a (get_or pieces k d) → ⊥
none_later a pieces n none k d from within clash =
    let inside : k - n < length (drop n pieces) = omega (arith, length-drop n pieces) in
    let place : n + (k - n) ≡ k = omega arith in
    let same : get_or (drop n pieces) (k - n) d ≡ get_or pieces k d = get_or-drop n pieces (k - n) d ∙ ap (λ m. get_or pieces m d) place in
    none (k - n) d inside (rw same clash)

-- No piece of the first n clashes with a later one.
abbrev pub NoneFrom : List SweepRect → ℕ → Type 0
NoneFrom pieces n = (k j : ℕ) (d : SweepRect) → k < n → k < j → j < length pieces → Clash (get_or pieces k d) (get_or pieces j d) → ⊥

pub none_from_more : (pieces : List SweepRect) (n : ℕ) (e : SweepRect) → n < length pieces → ClashesWithNone (get_or pieces n e) (drop (n + 1) pieces) →
    NoneFrom pieces n → NoneFrom pieces (n + 1)
none_from_more pieces n e within none before k j d below later inside clash =
    let cases : (k < n) ⊎ (k ≡ n) = grind arith in
    elim cases [
      | inl less ↦ before k j d less later inside clash
      | inr last ↦
          let at : get_or pieces n d ≡ get_or pieces n e = get_or_default pieces n d e within in
          none_later (get_or pieces n e) pieces (n + 1) none j d (omega arith) inside (rw (last, at) at clash)
    ]

pub none_of_pairs : (pieces : List SweepRect) → NoneFrom pieces (length pieces) → NoneClash pieces
none_of_pairs pieces none k d within j e inside clash =
    let cases : (k < j) ⊎ ((j < k) ⊎ (k ≡ j)) = grind arith in
    let same : get_or pieces k d ≡ get_or pieces k e = get_or_default pieces k d e within in
    elim cases [
      | inl before ↦ none k j e within before inside (rw (← same) clash)
      | inr rest ↦ elim rest [
        | inl after ↦ none j k e inside after within (clash_turned (get_or pieces k e) (get_or pieces j e) (rw (← same) clash))
        | inr one ↦ clash.entries (ap (λ p. p.entry) same ∙ ap (λ m. (get_or pieces m e).entry) one)
      ]
    ]

pub none_of_all : (pieces : List SweepRect) (n : ℕ) (e : SweepRect) → n < length pieces → NoneClash pieces → ClashesWithNone (get_or pieces n e) (drop (n + 1) pieces)
none_of_all pieces n e within none k d inside clash =
    let there : n + 1 + k < length pieces = omega (arith, length-drop (n + 1) pieces) in
    none n e within (n + 1 + k) d there (rw (← get_or-drop (n + 1) pieces k d) clash)

permuted : (xs ys : List SweepRect) → IsPermutation xs ys → NoneClash xs → NoneClash ys
permuted xs ys moved none =
    All-permutation (λ a. ClashesWithNone a ys) xs ys moved
    (All-weaker (λ a. ClashesWithNone a xs) (λ a. ClashesWithNone a ys) (λ a h. All-permutation (λ b. Clash a b → ⊥) xs ys moved h) xs none)

-- The order of the pieces does not affect whether they clash.
pub none_in_any_order : (xs ys : List SweepRect) → IsPermutation xs ys → NoneClash ys ↔ NoneClash xs
none_in_any_order xs ys moved = (permuted ys xs (IsPermutation-sym xs ys moved), permuted xs ys moved)

not_below : (x y : ℤ) → is_lt (int_cmp y x) ≡ false → x ≤ℤ y
not_below x y h = grind (arith, ints)

pub rise_of_sorted : (pieces : List SweepRect) → IsSortedByKey (λ p. p.bottom) int_cmp pieces → PiecesRise pieces
rise_of_sorted pieces sorted i j d below within =
    not_below (get_or pieces i d).bottom (get_or pieces j d).bottom
    (sorted_far (λ a b. is_lt (int_cmp a.bottom b.bottom)) (ranks_by int_cmp_total (λ p. p.bottom)) pieces sorted i j d (omega arith) within)

-- The pieces of the first n entries are in the list.
abbrev pub HoldBelow : {A : Type 0} → (ℕ → A → List SweepRect) → List A → ℕ → List SweepRect → Type 0
HoldBelow {A} own entries n pieces = (k : ℕ) (d : A) → k < n → All (Contains pieces) (own k (get_or entries k d))

more_hold : (pieces more own : List SweepRect) → All (Contains pieces) own → All (Contains (pieces ++ more)) own
more_hold pieces more own h = All-weaker (Contains pieces) (Contains (pieces ++ more)) (λ p. Contains-append_left pieces more p) own h

own_held : (pieces own : List SweepRect) → All (Contains (pieces ++ own)) own
own_held pieces own = All-weaker (Contains own) (Contains (pieces ++ own)) (λ p. Contains-append_right pieces own p) own (All-contains_itself own)

pub hold_more : {A : Type 0} (own : ℕ → A → List SweepRect) (entries : List A) (n : ℕ) (x : A) (pieces after : List SweepRect) → n < length entries →
    x ≡ get_or entries n x → after ≡ pieces ++ own n x → HoldBelow own entries n pieces → HoldBelow own entries (n + 1) after
hold_more own entries n x pieces after within is grown before k d below =
    let cases : (k < n) ⊎ (k ≡ n) = grind arith in
    elim cases [
      | inl less ↦ rw grown (more_hold pieces (own n x) (own k (get_or entries k d)) (before k d less))
      | inr last ↦
          let same : x ≡ get_or entries n d = is ∙ get_or_default entries n x d within in
          rw (grown, last, ← same) (own_held pieces (own n x))
    ]

-- Pieces of two entries that share no point.
pub apart_of_none : (pieces : List SweepRect) (j k : ℕ) (a b : Rect) → NoneClash pieces → Contains pieces (piece_of j a) → Contains pieces (piece_of k b) → j < k →
    SharesPoint a b → ⊥
apart_of_none pieces j k a b none first second earlier meet =
    All-contains (λ p. Clash (piece_of j a) p → ⊥) pieces (piece_of k b)
    (All-contains (λ p. ClashesWithNone p pieces) pieces (piece_of j a) none first) second
    (record { entries = λ e. omega arith; point = meet })

held_row : (core : Site) (pitch : Point) (k : ℕ) (r : RowStatement) (pieces : List SweepRect) → is_core_row core r ≡ true → All (Contains pieces) (row_pieces core pitch k r) →
    Contains pieces (piece_of k (row_area pitch (frame_row r)))
held_row core pitch k r pieces core_ones h =
    let one : row_pieces core pitch k r ≡ piece_of k (row_area pitch (frame_row r)) ∷ [] = ap (λ t. if t then piece_of k (row_area pitch (frame_row r)) ∷ [] else []) core_ones in
    All-head (Contains pieces) (piece_of k (row_area pitch (frame_row r))) [] (rw one at h)

-- If no pieces clash, no row shares a point with an earlier one.
pub rows_apart : (core : Site) (pitch : Point) (rows : List RowStatement) (pieces : List SweepRect) → ArePiecesOf (row_pieces core pitch) rows pieces → NoneClash pieces →
    NoneBreaks (OverlapsEarlierRow core pitch) rows
rows_apart core pitch rows pieces held none k d within broken =
    let earlier = broken.1 in
    let below : earlier.0 < k = omega (arith, earlier.2, length-take k rows) in
    let there : get_or rows earlier.0 earlier.1 ≡ earlier.1 = sym (get_or-take k rows earlier.0 earlier.1 below) ∙ earlier.3 in
    let first : Contains pieces (piece_of earlier.0 (row_area pitch (frame_row earlier.1))) =
    held_row core pitch earlier.0 earlier.1 pieces earlier.4.0 (rw there at (held earlier.0 earlier.1 (omega arith))) in
    apart_of_none pieces earlier.0 k (row_area pitch (frame_row earlier.1)) (row_area pitch (frame_row (get_or rows k d))) none first
    (held_row core pitch k (get_or rows k d) pieces broken.0 (held k d within)) below earlier.4.1

held_rect : (k : ℕ) (r : Region) (rect : Rect) (pieces : List SweepRect) → is_fence r ≡ true → All (Contains pieces) (fence_pieces k r) → (m : ℕ) →
    m < length r.rects → get_or r.rects m rect ≡ rect → Contains pieces (piece_of k rect)
held_rect k r rect pieces fence h m within is =
    let all : fence_pieces k r ≡ map (λ a. piece_of k a) r.rects = ap (λ t. if t then map (λ a. piece_of k a) r.rects else []) fence in
    let inside : m < length (map (λ a. piece_of k a) r.rects) = omega (arith, length-map r.rects (λ a. piece_of k a)) in
    let here : get_or (map (λ a. piece_of k a) r.rects) m (piece_of k rect) ≡ piece_of k (get_or r.rects m rect) = grind (arith, common_steps) in
    let held : All (Contains pieces) (map (λ a. piece_of k a) r.rects) = rw all at h in
    let one : Contains pieces (get_or (map (λ a. piece_of k a) r.rects) m (piece_of k rect)) = held m (piece_of k rect) inside in
    rw (here, is) at one

-- If no pieces clash, no fence shares a point with an earlier one.
pub fences_apart : (regions : List Region) (pieces : List SweepRect) → ArePiecesOf fence_pieces regions pieces → NoneClash pieces →
    NoneBreaks OverlapsEarlierFence regions
fences_apart regions pieces held none k d within broken =
    let earlier = broken.1 in
    let below : earlier.0 < k = omega (arith, earlier.2, length-take k regions) in
    let there : get_or regions earlier.0 earlier.1 ≡ earlier.1 = sym (get_or-take k regions earlier.0 earlier.1 below) ∙ earlier.3 in
    let meet = rects_of_point earlier.1.rects (get_or regions k d).rects earlier.4.1 in
    let first : Contains pieces (piece_of earlier.0 meet.1) =
    held_rect earlier.0 earlier.1 meet.1 pieces earlier.4.0 (rw there at (held earlier.0 earlier.1 (omega arith))) meet.0 meet.2 meet.3 in
    let second : Contains pieces (piece_of k meet.4.1) =
    held_rect k (get_or regions k d) meet.4.1 pieces broken.0 (held k d within) meet.4.0 meet.4.2 meet.4.3 in
    apart_of_none pieces earlier.0 k meet.1 meet.4.1 none first second below meet.4.4
