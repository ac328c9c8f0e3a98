-- Verdicts that are found one by one, in the order of the cells' boxes.
use Rattle.std.proofs.Common.{◌≡◌, ◌≢◌, ◌⊎◌, inl, inr, ℕ, zero, suc, ◌+◌, ◌<◌, List, [], ◌∷◌, ◌++◌, length, map, take, drop, get_or, set, slice_get, Option, None, Some, refl, sym, ◌∙◌, ap, subst, arith}
use Rattle.std.specs.Prelude.{All, Contains, IsPermutation, option_and_then, option_map}
use Rattle.std.proofs.lemmas.Grind.{get_or-set_at}
use Rattle.std.proofs.Math.Seq.{drop-cons}
use Rattle.std.proofs.lemmas.List.{append_assoc, append-nil, map-append, get_or-set_other, length-set, take_more, take-append-drop}
use Rattle.std.proofs.lemmas.Option.{slice_get-map}
use Rattle.std.proofs.lemmas.List.Elements.{All-nil, All-cons, All-append, All-weaker, All-head, All-tail}
use Rattle.std.proofs.lemmas.List.Sorted.{All-permutation, Contains-permutation}
use Rattle.std.specs.Borrow.{Bor}
use Rattle.lf_units.specs.declared.placed.Placed.{Placed}
use Rattle.lf_floorplan.specs.declared.frame.Frame.{Frame}
use Rattle.lf_floorplan.specs.declared.place.Place.{Place}
use Rattle.lf_rules.specs.declared.rule.Broken.{Broken}
use Rattle.lf_rules.specs.declared.report_types.Listed.{Listed}
use Rattle.lf_rules.specs.Choice.{SpotPlace, spot_of}
use Rattle.lf_rules.specs.Legalizer.{Legalizer}
use Rattle.lf_rules.specs.Team.{Member, box_in, with_box, boxes_from}
use Rattle.lf_reports.specs.Reports.{IsListed, listed_member, with_byte_name, candidate_among, broken_among, verdict_at, AreVerdicts, AreSomeVerdicts, HaveVerdicts, IsVerdictSet, SetsVerdict}

first_there : (x : Placed) (xs : List Placed) → Contains (x ∷ xs) x
first_there x xs = (0, omega arith, refl)

later_there : (x y : Placed) (xs : List Placed) → Contains xs y → Contains (x ∷ xs) y
later_there x y xs (k, within, is) = (suc k, omega (arith, within), is)

-- ---- the numbers of boxes

with_known : (f : Frame) (n m mac : ℕ) (place : Option SpotPlace) (rest : List Placed) → n < m → All (λ p. p.own < m) rest →
    All (λ p. p.own < m) (with_box f n mac place rest)
with_known f n m mac None rest below all = all
with_known f n m mac (Some p) rest below all = All-cons (λ p. p.own < m) (record { own = n; rect = box_in f mac p }) rest below all

boxes_known : (f : Frame) (n : ℕ) (cells : List Member) → All (λ p. p.own < n + length cells) (boxes_from f n cells)
boxes_known f n [] = All-nil (λ p. p.own < n + 0)
boxes_known f n (c ∷ cells) =
    let long : (n + 1) + length cells ≡ n + length (c ∷ cells) = omega arith in
    with_known f n (n + length (c ∷ cells)) c.mac c.place (boxes_from f (n + 1) cells) (omega arith)
    (subst (λ (m : ℕ). All (λ p. p.own < m) (boxes_from f (n + 1) cells)) long (boxes_known f (n + 1) cells))

-- Each number of a box is that of a cell.
pub numbers_known : (f : Frame) (cells : List Member) (boxes : List Placed) → IsPermutation (boxes_from f 0 cells) boxes → All (λ p. p.own < length cells) boxes
numbers_known f cells boxes same =
    let from : 0 + length cells ≡ length cells = omega arith in
    All-permutation (λ p. p.own < length cells) (boxes_from f 0 cells) boxes same (subst (λ (m : ℕ). All (λ p. p.own < m) (boxes_from f 0 cells)) from (boxes_known f 0 cells))

after_box : (f : Frame) (n mac : ℕ) (place : Option SpotPlace) (rest : List Placed) (p : Placed) → Contains rest p → Contains (with_box f n mac place rest) p
after_box f n mac None rest p there = there
after_box f n mac (Some at) rest p there = later_there (record { own = n; rect = box_in f mac at }) p rest there

box_there : (f : Frame) (n : ℕ) (cells : List Member) (k : ℕ) (m : Member) (p : SpotPlace) → slice_get cells k ≡ Some m → m.place ≡ Some p →
    Contains (boxes_from f n cells) (record { own = n + k; rect = box_in f m.mac p })
box_there f n [] k m p there at = absurd cc
box_there f n (c ∷ cells) zero m p there at =
    let same : c ≡ m = cc in
    let placed : c.place ≡ Some p = ap (λ (x : Member). x.place) same ∙ at in
    let number : n ≡ n + 0 = omega arith in
    subst (λ (x : Member). Contains (boxes_from f n (c ∷ cells)) (record { own = n + 0; rect = box_in f x.mac p })) same
    (subst (λ (i : ℕ). Contains (boxes_from f n (c ∷ cells)) (record { own = i; rect = box_in f c.mac p })) number
    (subst (λ (o : Option SpotPlace). Contains (with_box f n c.mac o (boxes_from f (n + 1) cells)) (record { own = n; rect = box_in f c.mac p })) (sym placed)
    (first_there (record { own = n; rect = box_in f c.mac p }) (boxes_from f (n + 1) cells))))
box_there f n (c ∷ cells) (suc k) m p there at =
    let number : (n + 1) + k ≡ n + suc k = omega arith in
    subst (λ (i : ℕ). Contains (boxes_from f n (c ∷ cells)) (record { own = i; rect = box_in f m.mac p })) number
    (after_box f n c.mac c.place (boxes_from f (n + 1) cells) (record { own = (n + 1) + k; rect = box_in f m.mac p }) (box_there f (n + 1) cells k m p there at))

-- ---- one verdict more

differ_or_not : (a b : ℕ) → (a ≡ b) ⊎ (a ≢ b)
differ_or_not a b =
    let cases : (a ≡ b) ⊎ ((a < b) ⊎ (b < a)) = grind arith in
    elim cases [
      | inl same ↦ inl same
      | inr (inl less) ↦ inr (λ e. omega (arith, less, e))
      | inr (inr more) ↦ inr (λ e. omega (arith, more, e))
    ]

pub puts : (l : Legalizer) (f : Frame) (padding : ℕ) (cells : List (Listed (List ℕ))) (own : ℕ) (cell : Listed (List ℕ)) (v : Option Broken) (old : List (Option Broken)) →
    slice_get cells own ≡ Some cell →
    v ≡ broken_among l f padding cells own cell → own < length old → AreSomeVerdicts l f padding cells old → SetsVerdict l f padding cells own old (set old own v)
puts l f padding cells own cell v old there is within some = record {
  some = record { count = length-set old own v ∙ some.count; each = λ other c at. either other c at (differ_or_not other own) };
  put = λ c at. here own c refl at;
  kept = λ other c at had. keep other c at had (differ_or_not other own);
}
  where
    here : (other : ℕ) (c : Listed (List ℕ)) → other ≡ own → slice_get cells other ≡ Some c → verdict_at (set old own v) other ≡ broken_among l f padding cells other c
    here other c same at =
        let both : Some cell ≡ Some c = sym there ∙ ap (slice_get cells) (sym same) ∙ at in
        let one : cell ≡ c = cc in
        get_or-set_at old own other v None same within ∙ is ∙ ap (λ (d : Listed (List ℕ)). broken_among l f padding cells own d) one ∙ ap (λ (n : ℕ). broken_among l f padding cells n c) (sym same)

    either : (other : ℕ) (c : Listed (List ℕ)) → slice_get cells other ≡ Some c → (other ≡ own) ⊎ (other ≢ own) →
        (verdict_at (set old own v) other ≡ None) ⊎ (verdict_at (set old own v) other ≡ broken_among l f padding cells other c)
    either other c at (inl same) = inr (here other c same at)
    either other c at (inr differ) = subst (λ (o : Option Broken). (o ≡ None) ⊎ (o ≡ broken_among l f padding cells other c)) (sym (get_or-set_other old own other v None differ)) (some.each other c at)

    keep : (other : ℕ) (c : Listed (List ℕ)) → slice_get cells other ≡ Some c → verdict_at old other ≡ broken_among l f padding cells other c →
        (other ≡ own) ⊎ (other ≢ own) → verdict_at (set old own v) other ≡ broken_among l f padding cells other c
    keep other c at had (inl same) = here other c same at
    keep other c at had (inr differ) = get_or-set_other old own other v None differ ∙ had

-- The same if the verdict is only set when a rule is broken.
pub puts_or_keeps : (l : Legalizer) (f : Frame) (padding : ℕ) (cells : List (Listed (List ℕ))) (own : ℕ) (cell : Listed (List ℕ)) (v : Option Broken) (old new : List (Option Broken)) → slice_get cells own ≡ Some cell →
    v ≡ broken_among l f padding cells own cell → own < length old → AreSomeVerdicts l f padding cells old → IsVerdictSet own v old new → SetsVerdict l f padding cells own old new
puts_or_keeps l f padding cells own cell v old new there is within some (inr set_now) =
    subst (λ (n : List (Option Broken)). SetsVerdict l f padding cells own old n) (sym set_now) (puts l f padding cells own cell v old there is within some)
puts_or_keeps l f padding cells own cell v old new there is within some (inl (nothing, same)) =
    subst (λ (n : List (Option Broken)). SetsVerdict l f padding cells own old n) (sym same) record {
      some = some;
      put = λ c at. right c at (some.each own c at);
      kept = λ other c at had. had;
    }
  where
    right : (c : Listed (List ℕ)) → slice_get cells own ≡ Some c → (verdict_at old own ≡ None) ⊎ (verdict_at old own ≡ broken_among l f padding cells own c) →
        verdict_at old own ≡ broken_among l f padding cells own c
    right c at (inr had) = had
    right c at (inl none) =
        let both : Some cell ≡ Some c = sym there ∙ at in
        let one : cell ≡ c = cc in
        none ∙ sym nothing ∙ is ∙ ap (λ (d : Listed (List ℕ)). broken_among l f padding cells own d) one

-- ---- the cells of the boxes

-- The cell that was read for a box is the one with the box's number.
pub fetched_at : (cells fetched : List (Listed (List ℕ))) (boxes : List Placed) (k : ℕ) (d : Placed) (c : Listed (List ℕ)) →
    map Some fetched ≡ map (λ p. slice_get cells p.own) boxes → k < length boxes →
    slice_get fetched k ≡ Some c → slice_get cells (get_or boxes k d).own ≡ Some c
fetched_at cells [] [] k d c same within at = absurd (omega (arith, within))
fetched_at cells [] (p ∷ boxes) k d c same within at = absurd cc
fetched_at cells (x ∷ fetched) [] k d c same within at = absurd cc
fetched_at cells (x ∷ fetched) (p ∷ boxes) zero d c same within at =
    let first : Some x ≡ slice_get cells p.own = cc in
    sym first ∙ at
fetched_at cells (x ∷ fetched) (p ∷ boxes) (suc k) d c same within at =
    let rest : map Some fetched ≡ map (λ p. slice_get cells p.own) boxes = cc in
    fetched_at cells fetched boxes k d c rest (omega (arith, within)) at

-- A property of each listed cell holds for the one at a number.
pub listed_there : (f : Frame) (cells : List (Listed (Bor (List ℕ)))) (own : ℕ) (c : Listed (List ℕ)) → All (λ x. IsListed f (with_byte_name x)) cells →
    slice_get (map with_byte_name cells) own ≡ Some c → IsListed f c
listed_there f [] own c all at = absurd cc
listed_there f (x ∷ cells) zero c all at =
    let same : with_byte_name x ≡ c = cc in
    subst (IsListed f) same (All-head (λ y. IsListed f (with_byte_name y)) x cells all)
listed_there f (x ∷ cells) (suc own) c all at = listed_there f cells own c (All-tail (λ y. IsListed f (with_byte_name y)) x cells all) at

-- One more cell was read.
pub fetched_more : (cells fetched : List (Listed (List ℕ))) (boxes : List Placed) (k : ℕ) (d : Placed) (c : Listed (List ℕ)) → k < length boxes →
    slice_get cells (get_or boxes k d).own ≡ Some c →
    map Some fetched ++ map (λ p. slice_get cells p.own) (drop k boxes) ≡ map (λ p. slice_get cells p.own) boxes →
    map Some (fetched ++ c ∷ []) ++ map (λ p. slice_get cells p.own) (drop (k + 1) boxes) ≡ map (λ p. slice_get cells p.own) boxes
fetched_more cells fetched boxes k d c within there so_far =
    let next : suc k ≡ k + 1 = omega arith in
    let cut : drop k boxes ≡ get_or boxes k d ∷ drop (k + 1) boxes = subst (λ (n : ℕ). drop k boxes ≡ get_or boxes k d ∷ drop n boxes) next (drop-cons boxes k d within) in
    let after_it : List (Option (Listed (List ℕ))) = map (λ p. slice_get cells p.own) (drop (k + 1) boxes) in
    let step : map (λ p. slice_get cells p.own) (drop k boxes) ≡ Some c ∷ after_it =
    ap (map (λ p. slice_get cells p.own)) cut ∙ ap (λ (o : Option (Listed (List ℕ))). o ∷ after_it) there in
    let grown : map Some (fetched ++ c ∷ []) ++ after_it ≡ map Some fetched ++ Some c ∷ after_it =
    ap (λ (x : List (Option (Listed (List ℕ)))). x ++ after_it) (map-append Some fetched (c ∷ [])) ∙ append_assoc (map Some fetched) (Some c ∷ []) after_it in
    grown ∙ ap (λ (x : List (Option (Listed (List ℕ)))). map Some fetched ++ x) (sym step) ∙ so_far

-- ---- the verdicts of all boxes so far

-- One box more.
pub one_more : (l : Legalizer) (f : Frame) (padding : ℕ) (cells : List (Listed (List ℕ))) (boxes : List Placed) (p : Placed) (old new : List (Option Broken)) →
    HaveVerdicts l f padding cells boxes old → SetsVerdict l f padding cells p.own old new → HaveVerdicts l f padding cells (boxes ++ p ∷ []) new
one_more l f padding cells boxes p old new have puts =
    let Has : List (Option Broken) → Placed → Type 0 = λ verdicts q. (c : Listed (List ℕ)) → slice_get cells q.own ≡ Some c → verdict_at verdicts q.own ≡ broken_among l f padding cells q.own c in
    record {
      some = puts.some;
      done = All-append (Has new) boxes (p ∷ []) (All-weaker (Has old) (Has new) (λ q had c at. puts.kept q.own c at (had c at)) boxes have.done)
          (All-cons (Has new) p [] puts.put (All-nil (Has new)));
    }

-- One more of the present boxes, after the boxes that are done.
pub next_done : (l : Legalizer) (f : Frame) (padding : ℕ) (cells : List (Listed (List ℕ))) (done boxes : List Placed) (k : ℕ) (d : Placed) (old new : List (Option Broken)) →
    k < length boxes → HaveVerdicts l f padding cells (done ++ take k boxes) old → SetsVerdict l f padding cells (get_or boxes k d).own old new →
    HaveVerdicts l f padding cells (done ++ take (k + 1) boxes) new
next_done l f padding cells done boxes k d old new within have puts =
    let parts : (done ++ take k boxes) ++ get_or boxes k d ∷ [] ≡ done ++ take (k + 1) boxes =
    append_assoc done (take k boxes) (get_or boxes k d ∷ []) ∙ ap (λ (xs : List Placed). done ++ xs) (sym (take_more boxes k d within)) in
    subst (λ (xs : List Placed). HaveVerdicts l f padding cells xs new) parts (one_more l f padding cells (done ++ take k boxes) (get_or boxes k d) old new have puts)

-- If all boxes are done, each cell has its verdict: an unplaced cell breaks no rule.
pub all_done : (l : Legalizer) (f : Frame) (padding : ℕ) (cells : List (Listed (List ℕ))) (boxes : List Placed) (verdicts : List (Option Broken)) →
    IsPermutation (boxes_from f 0 (map listed_member cells)) boxes → HaveVerdicts l f padding cells boxes verdicts → AreVerdicts l f padding cells verdicts
all_done l f padding cells boxes verdicts same have = record { count = have.some.count; each = λ own c at. by own c at c.place refl }
  where
    by : (own : ℕ) (c : Listed (List ℕ)) → slice_get cells own ≡ Some c → (place : Option Place) → c.place ≡ place →
        verdict_at verdicts own ≡ broken_among l f padding cells own c
    by own c at None unplaced =
        let nothing : broken_among l f padding cells own c ≡ None = ap (λ (o : Option Place). option_and_then (λ p. l.first_broken (candidate_among f padding cells own c p)) o) unplaced in
        elim (have.some.each own c at) [
          | inl none ↦ none ∙ sym nothing
          | inr right ↦ right
        ]
    by own c at (Some p) placed =
        let m : Member = listed_member c in
        let there : slice_get (map listed_member cells) own ≡ Some m = slice_get-map listed_member cells own ∙ ap (option_map listed_member) at in
        let is_in_place : m.place ≡ Some (spot_of p) = ap (option_map spot_of) placed in
        let number : 0 + own ≡ own = omega arith in
        let box : Placed = record { own = own; rect = box_in f m.mac (spot_of p) } in
        let listed : Contains (boxes_from f 0 (map listed_member cells)) box =
        subst (λ (i : ℕ). Contains (boxes_from f 0 (map listed_member cells)) (record { own = i; rect = box_in f m.mac (spot_of p) })) number (box_there f 0 (map listed_member cells) own m (spot_of p) there is_in_place) in
        let among : Contains boxes box = Contains-permutation (boxes_from f 0 (map listed_member cells)) boxes box same listed in
        subst (λ (q : Placed). slice_get cells q.own ≡ Some c → verdict_at verdicts q.own ≡ broken_among l f padding cells q.own c) among.2 (have.done among.0 box among.1 c) at

-- No cell has a verdict prior to the first box.
pub none_yet : (l : Legalizer) (f : Frame) (padding : ℕ) (cells : List (Listed (List ℕ))) (verdicts : List (Option Broken)) →
    length verdicts ≡ length cells → ((own : ℕ) → verdict_at verdicts own ≡ None) → HaveVerdicts l f padding cells [] verdicts
none_yet l f padding cells verdicts count none = record {
  some = record { count = count; each = λ own c at. inl (none own) };
  done = All-nil (λ p. (c : Listed (List ℕ)) → slice_get cells p.own ≡ Some c → verdict_at verdicts p.own ≡ broken_among l f padding cells p.own c);
}

-- The cells of the tree's boxes in front of the remaining ones have their verdict.
pub record HaveBefore (l : Legalizer) (f : Frame) (padding : ℕ) (cells : List (Listed (List ℕ))) (tree rest : List Placed) (verdicts : List (Option Broken)) : Type 0 where
  pub passed : List Placed
  pub parts : passed ++ rest ≡ tree
  pub have : HaveVerdicts l f padding cells passed verdicts

-- Some of the remaining boxes are done.
pub pass_some : (l : Legalizer) (f : Frame) (padding : ℕ) (cells : List (Listed (List ℕ))) (tree rest front back : List Placed) (n : ℕ) (old new : List (Option Broken)) →
    front ≡ take n rest → back ≡ drop n rest →
    ((done : List Placed) → HaveVerdicts l f padding cells done old → HaveVerdicts l f padding cells (done ++ front) new) →
    HaveBefore l f padding cells tree rest old → HaveBefore l f padding cells tree back new
pass_some l f padding cells tree rest front back n old new is_front is_back put before = record {
  passed = before.passed ++ front;
  parts =
      let whole : front ++ back ≡ rest = ap (λ (xs : List Placed). xs ++ back) is_front ∙ ap (λ (xs : List Placed). take n rest ++ xs) is_back ∙ take-append-drop n rest in
      append_assoc before.passed front back ∙ ap (λ (xs : List Placed). before.passed ++ xs) whole ∙ before.parts;
  have = put before.passed before.have;
}

-- If no box remains, each cell has its verdict.
pub all_passed : (l : Legalizer) (f : Frame) (padding : ℕ) (cells : List (Listed (List ℕ))) (tree rest : List Placed) (verdicts : List (Option Broken)) →
    IsPermutation (boxes_from f 0 (map listed_member cells)) tree → length rest ≡ 0 → HaveBefore l f padding cells tree rest verdicts → AreVerdicts l f padding cells verdicts
all_passed l f padding cells tree [] verdicts same none before =
    all_done l f padding cells tree verdicts same
    (subst (λ (xs : List Placed). HaveVerdicts l f padding cells xs verdicts) (sym (append-nil before.passed) ∙ before.parts) before.have)
all_passed l f padding cells tree (p ∷ rest) verdicts same none before = absurd (omega (arith, none))

-- One more place without a verdict.
pub none_more : (verdicts : List (Option Broken)) → ((own : ℕ) → verdict_at verdicts own ≡ None) → (own : ℕ) → verdict_at (verdicts ++ None ∷ []) own ≡ None
none_more [] none zero = refl
none_more [] none (suc own) = refl
none_more (v ∷ verdicts) none zero = none 0
none_more (v ∷ verdicts) none (suc own) = none_more verdicts (λ n. none (suc n)) own
