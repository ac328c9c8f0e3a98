-- Marks of strips that are changed one strip after another.
use Rattle.std.proofs.Common.{◌≡◌, ◌≢◌, ◌⊎◌, inl, inr, ℕ, ◌+◌, ◌<◌, ◌≤◌, List, [], ◌∷◌, length, get_or, set, take, refl, sym, ap, subst, ◌∙◌, arith}
use Rattle.std.specs.Prelude.{AllPairs}
use Rattle.std.proofs.lemmas.Bool.Decides.{eqb_tells}
use Rattle.std.proofs.lemmas.List.{get_or_default, get_or-set_same, get_or-set_other, length-set, length-take, get_or-take}
use Rattle.lf_units.specs.declared.geometry.Rect.{Rect}
use Rattle.lf_segments.specs.declared.rows_by_y.RowEntry.{RowEntry}
use Rattle.lf_occupancy.specs.declared.strip_marks.StripMarks.{StripMarks}
use Rattle.lf_segments.specs.declared.strip.Strip.{Strip}
use Rattle.lf_occupancy.specs.MarkLists.{HasRoomOf, KeepsMarksOf}
use Rattle.lf_segments.specs.Strips.{AreNear, IsNear}
use Rattle.lf_occupancy.specs.Strips.{AreChanged, KeepMarksOf, IsReached, IsReachedIn}
use Rattle.lf_occupancy.proofs.Lists.{any_more, any_less}
use Rattle.lf_occupancy.proofs.Finds.{no_strip}

-- the marks of one strip of the list
pub some_mark_list : (mark_lists : List StripMarks) (k : ℕ) → k < length mark_lists → StripMarks
some_mark_list [] k within = absurd (omega (arith, within))
some_mark_list (l ∷ mark_lists) k within = l

-- the number lies between two, and below the end
pub record IsBetween (start k end m : ℕ) : Type 0 where
  pub from : start ≤ m
  pub below : m < k
  pub until : m < end

-- nothing is chosen
pub none_changed : {X : Type 0} (Chosen : ℕ → Type 0) (Change : ℕ → X → X → Type 0) (mark_lists : List X) → ((n : ℕ) → Chosen n → ⊥) →
    AreChanged Chosen Change mark_lists mark_lists
none_changed Chosen Change mark_lists none = record { many = refl; chosen = λ n e within c. absurd (none n c); others = λ n e within h. refl }

-- the same numbers are chosen
pub changed_alike : {X : Type 0} (P Q : ℕ → Type 0) (Change : ℕ → X → X → Type 0) (old new : List X) → ((n : ℕ) → n < length old → P n → Q n) →
    ((n : ℕ) → n < length old → Q n → P n) → AreChanged P Change old new → AreChanged Q Change old new
changed_alike P Q Change old new f g a = record {
  many = a.many;
  chosen = λ n e within q. a.chosen n e within (g n within q);
  others = λ n e within never. a.others n e within (λ p. never (f n within p));
}

-- the marks of one more strip are changed
pub changed_further : {X : Type 0} (Change : ℕ → X → X → Type 0) (start k end : ℕ) (old mid : List X) (mark_list new : X) → start ≤ k → k < end → k < length mid →
    mark_list ≡ get_or mid k mark_list → Change k mark_list new → AreChanged (IsBetween start k end) Change old mid →
    AreChanged (IsBetween start (k + 1) end) Change old (set mid k new)
changed_further {X} Change start k end old mid mark_list new from until within is change a = record {
  many = length-set mid k new ∙ a.many;
  chosen = λ n e inner between. elim (order n between.below) [
    | inl less ↦
        let apart : n ≢ k = omega (arith, less) in
        subst (Change n (get_or old n e)) (sym (get_or-set_other mid k n new e apart))
        (a.chosen n e inner record { from = between.from; below = less; until = between.until })
    | inr same ↦
        let here : get_or old k e ≡ get_or mid k e = sym (a.others k e (let m = a.many in omega (arith, m, within)) (λ b. let h = b.below in omega
        (arith, h))) in
        let mark_list_is : mark_list ≡ get_or old k e = is ∙ get_or_default mid k mark_list e within ∙ sym here in
        let there : Change k (get_or old k e) (get_or (set mid k new) k e) =
        subst (λ (l : X). Change k (get_or old k e) l) (sym (get_or-set_same mid k new e within))
        (subst (λ (l : X). Change k l new) mark_list_is change) in
        subst (λ (m : ℕ). Change m (get_or old m e) (get_or (set mid k new) m e)) (sym same) there
  ];
  others = λ n e inner never.
      let apart : n ≢ k = λ same. never record { from = (omega (arith, same, from)); below = omega (arith, same); until = omega (arith, same, until) } in
      get_or-set_other mid k n new e apart
      ∙ a.others n e inner (λ b. never record { from = b.from; below = (let h = b.below in omega (arith, h)); until = b.until });
}
  where
    order : (n : ℕ) → n < k + 1 → (n < k) ⊎ (n ≡ k)
    order n less = grind arith

-- the strips between the two positions found by binary search are those that the rectangle reaches
-- in the row
pub between_is_reached : {X : Type 0} (xs : List Strip) (row team start k end : ℕ) (rect : Rect) (Change : ℕ → X → X → Type 0) (old new : List X) →
    AreNear xs row team rect.x1 rect.x2 start end → end ≤ k → AreChanged (IsBetween start k end) Change old new →
    AreChanged (IsReachedIn xs row team rect) Change old new
between_is_reached xs row team start k end rect Change old new near past a = changed_alike (IsBetween start k end) (IsReachedIn xs row team rect) Change old new
    (λ n within b.
    let bound = near.within in
    let until = b.until in
    let inner : n < length xs = omega (arith, bound, until) in
    (inner, λ d. (near.exact n d inner).0 (b.from, until)))
    (λ n within r.
    let both = (near.exact n no_strip r.0).1 (r.1 no_strip) in
    let until = both.1 in
    record { from = both.0; below = omega (arith, until, past); until = until })
    a

-- a row that was visited is not the next one
pub other_row : (xs : List Strip) (rows : List RowEntry) (i : ℕ) (r : RowEntry) (team : ℕ) (rect : Rect) (n : ℕ) → AllPairs (λ a b. a.row ≢ b.row) rows →
    i < length rows →
    r ≡ get_or rows i r → IsReached xs (take i rows) team rect n → IsReachedIn xs r.row team rect n → ⊥
other_row xs rows i r team rect n once within is (inner, (k, e, below, same, near)) (also, next) =
    let less : k < i = omega (arith, below, length-take i rows) in
    let first : get_or rows k r ≡ e = sym (get_or-take i rows k r less) ∙ get_or_default (take i rows) k r e below ∙ same in
    let a : (get_or rows k r).row ≡ e.row = ap (λ (x : RowEntry). x.row) first in
    let b : r.row ≡ (get_or rows i r).row = ap (λ (x : RowEntry). x.row) is in
    let p = (near no_strip).in_row in
    let q = (next no_strip).in_row in
    once k i r less within (a ∙ sym p ∙ q ∙ b)

-- one more row is changed
pub rows_further : {X : Type 0} (Change : ℕ → X → X → Type 0) (xs : List Strip) (rows : List RowEntry) (i : ℕ) (r : RowEntry) (team : ℕ) (rect : Rect)
    (old mid new : List X) →
    AllPairs (λ a b. a.row ≢ b.row) rows → i < length rows → r ≡ get_or rows i r → AreChanged (IsReached xs (take i rows) team rect) Change old mid →
    AreChanged (IsReachedIn xs r.row team rect) Change mid new → AreChanged (IsReached xs (take (i + 1) rows) team rect) Change old new
rows_further {X} Change xs rows i r team rect old mid new once within is first second = record {
  many = second.many ∙ first.many;
  chosen = λ n e inner reached. elim (any_less (Near n) rows i r within is reached.1) [
    | inl before ↦
        let a : IsReached xs (take i rows) team rect n = (reached.0, before) in
        subst (Change n (get_or old n e)) (sym (second.others n e (inside n inner) (λ b. other_row xs rows i r team rect n once within is a b)))
        (first.chosen n e inner a)
    | inr here ↦
        let b : IsReachedIn xs r.row team rect n = (reached.0, here) in
        subst (λ (l : X). Change n l (get_or new n e)) (first.others n e inner (λ a. other_row xs rows i r team rect n once within is a b))
        (second.chosen n e (inside n inner) b)
  ];
  others = λ n e inner never.
      second.others n e (inside n inner) (λ b. never (b.0, any_more (Near n) rows i r within is (inr b.1)))
      ∙ first.others n e inner (λ a. never (a.0, any_more (Near n) rows i r within is (inl a.1)));
}
  where
    Near : ℕ → RowEntry → Type 0
    Near n x = (d : Strip) → IsNear x.row team rect.x1 rect.x2 (get_or xs n d)

    inside : (n : ℕ) → n < length old → n < length mid
    inside n inner = let m = first.many in omega (arith, m, inner)

-- a list of strips keeps its own marks
pub kept_same : (mark_lists : List StripMarks) → KeepMarksOf mark_lists mark_lists
kept_same mark_lists = record { many = refl; each = λ n e within. record { marks = refl; widest = refl; many = refl; room = omega arith } }

pub kept_along : (a b c : List StripMarks) → KeepMarksOf a b → KeepMarksOf b c → KeepMarksOf a c
kept_along a b c first second = record {
  many = second.many ∙ first.many;
  each = λ n e within.
      let p = first.each n e within in
      let q = second.each n e (let m = first.many in omega (arith, m, within)) in
      record {
        marks = q.marks ∙ p.marks;
        widest = q.widest ∙ p.widest;
        many = q.many ∙ p.many;
        room = let r = p.room in let s = q.room in omega (arith, r, s);
      };
}

pub kept_set : (mark_lists : List StripMarks) (k : ℕ) (mark_list new : StripMarks) → k < length mark_lists → mark_list ≡ get_or mark_lists k mark_list → KeepsMarksOf mark_list new → KeepMarksOf mark_lists (set mark_lists k new)
kept_set mark_lists k mark_list new within is kept = record {
  many = length-set mark_lists k new;
  each = λ n e inner. elim (order n) [
    | inl same ↦
        let here : KeepsMarksOf (get_or mark_lists k e) (get_or (set mark_lists k new) k e) =
        subst (λ (l : StripMarks). KeepsMarksOf (get_or mark_lists k e) l) (sym (get_or-set_same mark_lists k new e within))
        (subst (λ (l : StripMarks). KeepsMarksOf l new) (is ∙ get_or_default mark_lists k mark_list e within) kept) in
        subst (λ (m : ℕ). KeepsMarksOf (get_or mark_lists m e) (get_or (set mark_lists k new) m e)) (sym same) here
    | inr apart ↦
        subst (λ (l : StripMarks). KeepsMarksOf (get_or mark_lists n e) l) (sym (get_or-set_other mark_lists k n new e apart))
        record { marks = refl; widest = refl; many = refl; room = omega arith }
  ];
}
  where
    order : (n : ℕ) → (n ≡ k) ⊎ (n ≢ k)
    order n = elim (eqb_tells n k) [ inl h ↦ inl h.1 | inr h ↦ inr h.1 ]

-- strips that keep their marks keep their room
pub room_kept : (more : ℕ) (old new : StripMarks) → KeepsMarksOf old new → HasRoomOf more old → HasRoomOf more new
room_kept more old new kept room = let m = kept.many in let r = kept.room in omega (arith, m, r, room)

pub room_further : (more start k end : ℕ) (mark_lists : List StripMarks) (mark_list new : StripMarks) → k < length mark_lists → mark_list ≡ get_or mark_lists k mark_list → HasRoomOf more new →
    ((n : ℕ) (e : StripMarks) → IsBetween start k end n → HasRoomOf more (get_or mark_lists n e)) →
    (n : ℕ) (e : StripMarks) → IsBetween start (k + 1) end n → HasRoomOf more (get_or (set mark_lists k new) n e)
room_further more start k end mark_lists mark_list new within is room before n e b = elim (order b.below) [
  | inl less ↦
      let apart : n ≢ k = omega (arith, less) in
      subst (HasRoomOf more) (sym (get_or-set_other mark_lists k n new e apart)) (before n e record { from = b.from; below = less; until = b.until })
  | inr same ↦
      let here : HasRoomOf more (get_or (set mark_lists k new) k e) = subst (HasRoomOf more) (sym (get_or-set_same mark_lists k new e within)) room in
      subst (λ (m : ℕ). HasRoomOf more (get_or (set mark_lists k new) m e)) (sym same) here
]
  where
    order : n < k + 1 → (n < k) ⊎ (n ≡ k)
    order less = grind arith

pub room_of_row : (more : ℕ) (xs : List Strip) (row team start k end : ℕ) (rect : Rect) (mark_lists : List StripMarks) →
    AreNear xs row team rect.x1 rect.x2 start end → end ≤ k →
    ((n : ℕ) (e : StripMarks) → IsBetween start k end n → HasRoomOf more (get_or mark_lists n e)) →
    (n : ℕ) (e : StripMarks) → IsReachedIn xs row team rect n → HasRoomOf more (get_or mark_lists n e)
room_of_row more xs row team start k end rect mark_lists near past room n e r =
    let both = (near.exact n no_strip r.0).1 (r.1 no_strip) in
    let until = both.1 in
    room n e record { from = both.0; below = omega (arith, until, past); until = until }

pub rooms_further : (more : ℕ) (xs : List Strip) (rows : List RowEntry) (i : ℕ) (r : RowEntry) (team : ℕ) (rect : Rect) (old new : List StripMarks) →
    i < length rows → r ≡ get_or rows i r → length old ≡ length xs → KeepMarksOf old new →
    ((n : ℕ) (e : StripMarks) → IsReached xs (take i rows) team rect n → HasRoomOf more (get_or old n e)) →
    ((n : ℕ) (e : StripMarks) → IsReachedIn xs r.row team rect n → HasRoomOf more (get_or new n e)) →
    (n : ℕ) (e : StripMarks) → IsReached xs (take (i + 1) rows) team rect n → HasRoomOf more (get_or new n e)
rooms_further more xs rows i r team rect old new within is many kept before here n e reached =
    elim (any_less (λ (x : RowEntry). (d : Strip) → IsNear x.row team rect.x1 rect.x2 (get_or xs n d)) rows i r within is reached.1) [
      | inl first ↦ room_kept more (get_or old n e) (get_or new n e) (kept.each n e (let w = reached.0 in omega (arith, w, many)))
          (before n e (reached.0, first))
      | inr last ↦ here n e (reached.0, last)
    ]
