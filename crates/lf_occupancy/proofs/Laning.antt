-- How the marks of a strip follow the boxes of its team's cells.
use Rattle.std.proofs.Common.{◌≡◌, ◌≢◌, inl, inr, Bool, true, ℕ, zero, suc, ◌+◌, ◌<◌, ◌≤◌, ℤ, pos, ◌-ℤ◌, ◌≤ℤ◌, ◌<ℤ◌, List, [], ◌∷◌, Option}
use Rattle.std.proofs.Common.{Some, None, length, get_or, set, take, drop, map, eqb, false, cond, refl, sym, ap, subst, ◌∙◌, arith}
use Rattle.std.specs.Int.{int_max}
use Rattle.std.specs.Prelude.{All, AllPairs, Any, Contains, filter, insert, not, option_and_then, slice_get}
use Rattle.std.proofs.lemmas.Bool.Decides.{eqb_tells, nat_tests}
use Rattle.std.proofs.lemmas.Int.{ints, clamps}
use Rattle.std.proofs.lemmas.List.{get_or_default, get_or-map, get_or-take, get_or-drop, length-map, length-take, length-drop, take-append-drop}
use Rattle.std.proofs.lemmas.List.Elements.{All-append, All-cons, All-drop, All-filter, All-take, filter_passes}
use Rattle.std.proofs.lemmas.List.Elements.{Contains-append_left, Contains-append_right, Contains-append_cases}
use Rattle.lf_units.specs.declared.geometry.Rect.{Rect}
use Rattle.lf_units.specs.Area.{Covers}
use Rattle.lf_occupancy.specs.declared.strip_marks.Entry.{Entry}
use Rattle.lf_occupancy.specs.declared.strip_marks.StripMarks.{StripMarks}
use Rattle.lf_occupancy.specs.declared.strip_marks.Mark.{Mark}
use Rattle.lf_occupancy.specs.MarkLists.{AreInOrder, AreRising, MarksAreOf, HoldsPoint, IsAdded, EntryIsInside, IsJoined, KeepsMarksOf, ShowsBoxes, IsMarked, IsPart}
use Rattle.lf_occupancy.specs.MarkLists.{IsUnmarked, IsPutIn, HasPoints, IsNearZero, LiesInBox, StripView, MarkIsOf, marked_entries, marked_entry, entry_of_box, marks_but, others_in, part_in, strip_view}
use Rattle.lf_occupancy.specs.Views.{cell_box}
use Rattle.lf_occupancy.proofs.Parts.{part_is}
use Rattle.lf_occupancy.proofs.Lists.{contains_filter, pairs_filter, pairs_append, pairs_cons}

get_set_other : {X : Type 0} (xs : List X) (i k : ℕ) (x : X) → k ≢ i → slice_get (set xs i x) k ≡ slice_get xs k
get_set_other [] i k x apart = refl
get_set_other (y ∷ ys) zero zero x apart = absurd (apart refl)
get_set_other (y ∷ ys) zero (suc k) x apart = refl
get_set_other (y ∷ ys) (suc i) zero x apart = refl
get_set_other (y ∷ ys) (suc i) (suc k) x apart = get_set_other ys i k x (λ same. apart (ap (λ (n : ℕ). suc n) same))

get_set_same : {X : Type 0} (xs : List X) (i : ℕ) (x : X) → i < length xs → slice_get (set xs i x) i ≡ Some x
get_set_same [] i x within = absurd (omega (arith, within))
get_set_same (y ∷ ys) zero x within = refl
get_set_same (y ∷ ys) (suc i) x within = get_set_same ys i x (omega (arith, within))

abbrev inner : Option (Option Rect) → Option Rect
inner o = option_and_then (λ box. box) o

-- no two entries are of one cell
abbrev AreOnce : List Entry → Type 0
AreOnce entries = AllPairs (λ a b. a.own ≢ b.own) entries

-- the boxes after one cell gets another box
pub box_other : (cells : List (Option Rect)) (own k : ℕ) (box : Option Rect) → k ≢ own → cell_box (set cells own box) k ≡ cell_box cells k
box_other cells own k box apart = ap inner (get_set_other cells own k box apart)

pub box_same : (cells : List (Option Rect)) (own : ℕ) (box : Option Rect) → own < length cells → cell_box (set cells own box) own ≡ box
box_same cells own box within = ap inner (get_set_same cells own box within)

-- the point lies in the box of another list too, if the cell has the same box there
in_box_of : (cells other : List (Option Rect)) (area : Rect) (own : ℕ) (x y : ℤ) → cell_box other own ≡ cell_box cells own → LiesInBox cells area own x y →
    LiesInBox other area own x y
in_box_of cells other area own x y same l = record { box = l.box; is = same ∙ l.is; in_area = l.in_area; in_box = l.in_box }

-- the same points lie in the boxes
mark_list_alike : (cells other : List (Option Rect)) (area : Rect) (l : StripView) → ((own : ℕ) (x y : ℤ) → LiesInBox cells area own x y →
    LiesInBox other area own x y) →
    ((own : ℕ) (x y : ℤ) → LiesInBox other area own x y → LiesInBox cells area own x y) → ShowsBoxes cells area l → ShowsBoxes other area l
mark_list_alike cells other area l f g mark_list = record {
  orderly = mark_list.orderly;
  whole = mark_list.whole;
  inside = mark_list.inside;
  held = λ own x y lies. mark_list.held own x y (g own x y lies);
  reported = λ k d within x y covers. f (get_or l.entries k d).own x y (mark_list.reported k d within x y covers);
  once = mark_list.once;
}

pub none_is_not_some : (r : Rect) → ◌≡◌ {A = Option Rect} None (Some r) → ⊥
none_is_not_some r e = cc

other_test : (a b : ℕ) → (a ≡ b → ⊥) → not (eqb a b) ≡ true
other_test a b apart = grind (arith, nat_tests, apart)

test_other : (a b : ℕ) → not (eqb a b) ≡ true → a ≡ b → ⊥
test_other a b t same = grind (arith, nat_tests)

-- the entry is added to those of a strip, at its place in the order
record IsShownWith (e : Entry) (old new : StripView) : Type 0 where
  at : ℕ
  entries : new.entries ≡ insert old.entries at e
  before : (k : ℕ) (d : Entry) → k < at → (get_or old.entries k d).area.x1 <ℤ e.area.x1
  after_it : (k : ℕ) (d : Entry) → at ≤ k → k < length old.entries → e.area.x1 ≤ℤ (get_or old.entries k d).area.x1
  widest : new.widest ≡ int_max old.widest (e.area.x2 -ℤ e.area.x1)

-- the entries of a strip without the cell's
record IsShownWithout (own : ℕ) (old new : StripView) : Type 0 where
  entries : new.entries ≡ others_in old.entries own
  widest : new.widest ≡ old.widest

-- the entries of a strip without the cell's are those of the boxes without the cell's
mark_list_pruned : (cells : List (Option Rect)) (area : Rect) (own : ℕ) (old new : StripView) → own < length cells → ShowsBoxes cells area old → IsShownWithout own old new →
    ShowsBoxes (set cells own None) area new
mark_list_pruned cells area own old new has mark_list pruned = record {
  orderly = record {
    order = subst AreInOrder back (pairs_filter (λ a b. a.area.x1 ≤ℤ b.area.x1) p items mark_list.orderly.order);
    wide = subst (λ (w : ℤ). All (λ e. (e.area.x2 -ℤ e.area.x1) ≤ℤ w) new.entries) (sym pruned.widest)
        (subst (All (λ e. (e.area.x2 -ℤ e.area.x1) ≤ℤ old.widest)) back (All-filter p (λ e. (e.area.x2 -ℤ e.area.x1) ≤ℤ old.widest) items mark_list.orderly.wide));
    some = let w = pruned.widest in let h = mark_list.orderly.some in omega (arith, ints, w, h);
    most = let w = pruned.widest in let h = mark_list.orderly.most in omega (arith, ints, w, h);
  };
  whole = subst (All (λ e. HasPoints e.area)) back (All-filter p (λ e. HasPoints e.area) items mark_list.whole);
  inside = subst (All (EntryIsInside area)) back (All-filter p (EntryIsInside area) items mark_list.inside);
  held = λ k x y lies. subst (Any (HoldsPoint k x y)) back (held k x y lies);
  reported = subst (All (λ e. (x y : ℤ) → Covers e.area x y → LiesInBox (set cells own None) area e.own x y)) back reported;
  once = subst AreOnce back (pairs_filter (λ a b. a.own ≢ b.own) p items mark_list.once);
}
  where
    items : List Entry
    items = old.entries

    p : Entry → Bool
    p e = not (eqb e.own own)

    back : filter p items ≡ new.entries
    back = sym pruned.entries

    apart_from : (k : ℕ) (x y : ℤ) → LiesInBox (set cells own None) area k x y → k ≡ own → ⊥
    apart_from k x y lies same =
        let At : ℕ → Type 0 = λ m. cell_box (set cells own None) m ≡ Some lies.box in
        none_is_not_some lies.box (sym (box_same cells own None has) ∙ subst At same lies.is)

    held : (k : ℕ) (x y : ℤ) → LiesInBox (set cells own None) area k x y → Any (HoldsPoint k x y) (filter p items)
    held k x y lies =
        let apart = apart_from k x y lies in
        let found = mark_list.held k x y (in_box_of (set cells own None) cells area k x y (sym (box_other cells own k None apart)) lies) in
        let other : found.1.own ≡ own → ⊥ = λ same. apart (sym found.4.is ∙ same) in
        let kept = contains_filter p items found.1 (found.0, found.2, found.3) (other_test found.1.own own other) in
        (kept.0, found.1, kept.1, kept.2, found.4)

    reported : All (λ e. (x y : ℤ) → Covers e.area x y → LiesInBox (set cells own None) area e.own x y) (filter p items)
    reported k d within x y covers =
        let e : Entry = get_or (filter p items) k d in
        let apart = test_other e.own own (filter_passes p items k d within) in
        in_box_of cells (set cells own None) area e.own x y (box_other cells own e.own None apart)
        (All-filter p (λ z. (x y : ℤ) → Covers z.area x y → LiesInBox cells area z.own x y) items mark_list.reported k d within x y covers)

-- the entries of a strip if no point of it lies in the old box of the cell or in the new one
mark_list_beside : (cells : List (Option Rect)) (area : Rect) (own : ℕ) (box : Option Rect) (l : StripView) → own < length cells →
    ((x y : ℤ) → LiesInBox cells area own x y → ⊥) → ((r : Rect) (x y : ℤ) → box ≡ Some r → Covers area x y → Covers r x y → ⊥) → ShowsBoxes cells area l →
    ShowsBoxes (set cells own box) area l
mark_list_beside cells area own box l has old new mark_list = mark_list_alike cells (set cells own box) area l to back mark_list
  where
    to : (k : ℕ) (x y : ℤ) → LiesInBox cells area k x y → LiesInBox (set cells own box) area k x y
    to k x y lies = elim (eqb_tells k own) [
      | inl same ↦ absurd (old x y (subst (λ (m : ℕ). LiesInBox cells area m x y) same.1 lies))
      | inr apart ↦ in_box_of cells (set cells own box) area k x y (box_other cells own k box apart.1) lies
    ]

    back : (k : ℕ) (x y : ℤ) → LiesInBox (set cells own box) area k x y → LiesInBox cells area k x y
    back k x y lies = elim (eqb_tells k own) [
      | inl same ↦
          let At : ℕ → Type 0 = λ m. cell_box (set cells own box) m ≡ Some lies.box in
          absurd (new lies.box x y (sym (box_same cells own box has) ∙ subst At same.1 lies.is) lies.in_area lies.in_box)
      | inr apart ↦ in_box_of (set cells own box) cells area k x y (sym (box_other cells own k box apart.1)) lies
    ]

all_insert : (P : Entry → Type 0) (xs : List Entry) (i : ℕ) (e : Entry) → P e → All P xs → All P (insert xs i e)
all_insert P xs i e here all = All-append P (take i xs) (e ∷ drop i xs) (All-take P i xs all) (All-cons P e (drop i xs) here (All-drop P i xs all))

contains_insert : (xs : List Entry) (i : ℕ) (e x : Entry) → Contains xs x → Contains (insert xs i e) x
contains_insert xs i e x there =
    elim (Contains-append_cases (take i xs) (drop i xs) x (subst (λ (zs : List Entry). Contains zs x) (sym (take-append-drop i xs)) there)) [
      | inl before ↦ Contains-append_left (take i xs) (e ∷ drop i xs) x before
      | inr after_it ↦ Contains-append_right (take i xs) (e ∷ drop i xs) x (suc after_it.0, (let h = after_it.1 in omega (arith, h)), after_it.2)
    ]

insert_contains : (xs : List Entry) (i : ℕ) (e : Entry) → Contains (insert xs i e) e
insert_contains xs i e = Contains-append_right (take i xs) (e ∷ drop i xs) e (0, omega arith, refl)

order_insert : (xs : List Entry) (i : ℕ) (e : Entry) → AreInOrder xs → ((k : ℕ) (d : Entry) → k < i → (get_or xs k d).area.x1 <ℤ e.area.x1) →
    ((k : ℕ) (d : Entry) → i ≤ k → k < length xs → e.area.x1 ≤ℤ (get_or xs k d).area.x1) → AreInOrder (insert xs i e)
order_insert xs i e order before after_it =
    pairs_append R (take i xs) (e ∷ drop i xs) cross front (pairs_cons R e (drop i xs) after rest)
  where
    R : Entry → Entry → Type 0
    R a b = a.area.x1 ≤ℤ b.area.x1

    front : AllPairs R (take i xs)
    front m n d less within =
        let long = length-take i xs in
        let a = get_or-take i xs m d (omega (arith, long, less, within)) in
        let b = get_or-take i xs n d (omega (arith, long, within)) in
        let first : (get_or (take i xs) m d).area.x1 ≡ (get_or xs m d).area.x1 = ap (λ (z : Entry). z.area.x1) a in
        let second : (get_or (take i xs) n d).area.x1 ≡ (get_or xs n d).area.x1 = ap (λ (z : Entry). z.area.x1) b in
        let up = order m n d less (omega (arith, long, within)) in
        omega (arith, ints, first, second, up)

    rest : AllPairs R (drop i xs)
    rest m n d less within =
        let long = length-drop i xs in
        let first : (get_or (drop i xs) m d).area.x1 ≡ (get_or xs (i + m) d).area.x1 = ap (λ (z : Entry). z.area.x1) (get_or-drop i xs m d) in
        let second : (get_or (drop i xs) n d).area.x1 ≡ (get_or xs (i + n) d).area.x1 = ap (λ (z : Entry). z.area.x1) (get_or-drop i xs n d) in
        let up = order (i + m) (i + n) d (omega (arith, less)) (omega (arith, long, within)) in
        omega (arith, ints, first, second, up)

    after : All (R e) (drop i xs)
    after m d within =
        let long = length-drop i xs in
        let first : (get_or (drop i xs) m d).area.x1 ≡ (get_or xs (i + m) d).area.x1 = ap (λ (z : Entry). z.area.x1) (get_or-drop i xs m d) in
        let up = after_it (i + m) d (omega arith) (omega (arith, long, within)) in
        omega (arith, ints, first, up)

    cross : All (λ a. All (R a) (e ∷ drop i xs)) (take i xs)
    cross m d within zero z inner =
        let long = length-take i xs in
        let first : (get_or (take i xs) m d).area.x1 ≡ (get_or xs m d).area.x1 = ap (λ (z : Entry). z.area.x1) (get_or-take i xs m d (omega
        (arith, long, within))) in
        let low = before m d (omega (arith, long, within)) in
        omega (arith, ints, first, low)
    cross m d within (suc n) z inner =
        let long = length-take i xs in
        let first : (get_or (take i xs) m d).area.x1 ≡ (get_or xs m d).area.x1 = ap (λ (z : Entry). z.area.x1) (get_or-take i xs m d (omega
        (arith, long, within))) in
        let low = before m d (omega (arith, long, within)) in
        let high = after n z (omega (arith, inner)) in
        omega (arith, ints, first, low, high)

-- the entry of a cell that has no entry is inserted
once_insert : (xs : List Entry) (i : ℕ) (e : Entry) → AreOnce xs → All (λ z. z.own ≢ e.own) xs → AreOnce (insert xs i e)
once_insert xs i e once fresh = pairs_append R (take i xs) (e ∷ drop i xs) cross front (pairs_cons R e (drop i xs) after rest)
  where
    R : Entry → Entry → Type 0
    R a b = a.own ≢ b.own

    own_of : (a b : Entry) → a ≡ b → a.own ≡ b.own
    own_of a b same = ap (λ (z : Entry). z.own) same

    taken : (m : ℕ) (d : Entry) → m < length (take i xs) → (get_or (take i xs) m d).own ≡ (get_or xs m d).own
    taken m d within = let long = length-take i xs in own_of _ _ (get_or-take i xs m d (omega (arith, long, within)))

    front : AllPairs R (take i xs)
    front m n d less within same =
        let long = length-take i xs in
        once m n d less (omega (arith, long, within)) (sym (taken m d (omega (arith, less, within))) ∙ same ∙ taken n d within)

    rest : AllPairs R (drop i xs)
    rest m n d less within same =
        let long = length-drop i xs in
        once (i + m) (i + n) d (omega (arith, less)) (omega (arith, long, within))
        (sym (own_of _ _ (get_or-drop i xs m d)) ∙ same ∙ own_of _ _ (get_or-drop i xs n d))

    after : All (R e) (drop i xs)
    after m d within same =
        let long = length-drop i xs in
        fresh (i + m) d (omega (arith, long, within)) (sym (same ∙ own_of _ _ (get_or-drop i xs m d)))

    cross : All (λ a. All (R a) (e ∷ drop i xs)) (take i xs)
    cross m d within zero z inner same =
        let long = length-take i xs in
        fresh m d (omega (arith, long, within)) (sym (taken m d within) ∙ same)
    cross m d within (suc n) z inner same =
        let long = length-take i xs in
        let wide = length-drop i xs in
        once m (i + n) d (omega (arith, long, within)) (omega (arith, wide, inner))
        (sym (taken m d within) ∙ same ∙ own_of _ _ (get_or-drop i xs n z)
        ∙ own_of _ _ (get_or_default xs (i + n) z d (omega (arith, wide, inner))))

-- the entries with the cell's part are those of the boxes with the cell's new box
mark_list_joined : (cells : List (Option Rect)) (area : Rect) (own : ℕ) (rect part : Rect) (old new : StripView) → own < length cells → cell_box cells own ≡ None →
    IsNearZero area → IsPart area rect part → HasPoints part →
    ShowsBoxes cells area old → IsShownWith record { own = own; area = part } old new → ShowsBoxes (set cells own (Some rect)) area new
mark_list_joined cells area own rect part old new has nowhere def is whole mark_list j = record {
  orderly = record {
    order = subst AreInOrder back (order_insert items j.at e mark_list.orderly.order j.before j.after_it);
    wide = subst (All (λ z. (z.area.x2 -ℤ z.area.x1) ≤ℤ new.widest)) back
        (all_insert (λ z. (z.area.x2 -ℤ z.area.x1) ≤ℤ new.widest) items j.at e (let w = j.widest in omega (arith, ints, clamps, w))
        (λ k d within. let h = mark_list.orderly.wide k d within in let w = j.widest in omega (arith, ints, clamps, w, h)));
    some = let w = j.widest in let h = mark_list.orderly.some in omega (arith, ints, clamps, w, h);
    most = let w = j.widest in
        let h = mark_list.orderly.most in
        let l = def.low in
        let r = def.high in
        let a = is.left in
        let b = is.right in
        omega (arith, ints, clamps, w, h, l, r, a, b);
  };
  whole = subst (All (λ z. HasPoints z.area)) back (all_insert (λ z. HasPoints z.area) items j.at e whole mark_list.whole);
  inside = subst (All (EntryIsInside area)) back (all_insert (EntryIsInside area) items j.at e is_in mark_list.inside);
  held = λ k x y lies. subst (Any (HoldsPoint k x y)) back (held k x y lies);
  reported = subst (All (λ z. (x y : ℤ) → Covers z.area x y → LiesInBox (set cells own (Some rect)) area z.own x y)) back
      (all_insert (λ z. (x y : ℤ) → Covers z.area x y → LiesInBox (set cells own (Some rect)) area z.own x y) items j.at e here there);
  once = subst AreOnce back (once_insert items j.at e mark_list.once fresh);
}
  where
    same_rect : (r : Rect) → ◌≡◌ {A = Option Rect} (Some rect) (Some r) → r ≡ rect
    same_rect r e = cc

    e : Entry
    e = record { own = own; area = part }

    is_in : EntryIsInside area e
    is_in =
        let w = whole.wide in
        let h = whole.high in
        let first = ((is.points part.x1 part.y1).0 record { left = omega (arith, ints); right = w; bottom = omega (arith, ints); top = h }).0 in
        let last = ((is.points (part.x2 -ℤ pos 1) (part.y2 -ℤ pos 1)).0 record {
          left = omega (arith, ints, w);
          right = omega (arith, ints);
          bottom = omega (arith, ints, h);
          top = omega (arith, ints);
        }).0 in
        let a = first.bottom in
        let b = last.top in
        record { left = is.left; bottom = a; right = is.right; top = omega (arith, ints, b) }

    apart_from : (k : ℕ) → (box : Rect) → cell_box cells k ≡ Some box → k ≡ own → ⊥
    apart_from k box is_in_place same =
        let At : ℕ → Type 0 = λ m. cell_box cells m ≡ Some box in
        none_is_not_some box (sym nowhere ∙ subst At same is_in_place)

    items : List Entry
    items = old.entries

    back : insert items j.at e ≡ new.entries
    back = sym j.entries

    here : (x y : ℤ) → Covers e.area x y → LiesInBox (set cells own (Some rect)) area own x y
    here x y covers =
        let both = (is.points x y).0 covers in
        record { box = rect; is = box_same cells own (Some rect) has; in_area = both.0; in_box = both.1 }

    there : All (λ z. (x y : ℤ) → Covers z.area x y → LiesInBox (set cells own (Some rect)) area z.own x y) items
    there k d within x y covers =
        let z : Entry = get_or items k d in
        let lies = mark_list.reported k d within x y covers in
        in_box_of cells (set cells own (Some rect)) area z.own x y (box_other cells own z.own (Some rect) (apart_from z.own lies.box lies.is)) lies

    fresh : All (λ z. z.own ≢ own) items
    fresh k d within =
        let z : Entry = get_or items k d in
        let w = (mark_list.whole k d within).wide in
        let h = (mark_list.whole k d within).high in
        let lies = mark_list.reported k d within z.area.x1 z.area.y1
        record { left = omega (arith, ints); right = w; bottom = omega (arith, ints); top = h } in
        apart_from z.own lies.box lies.is

    held : (k : ℕ) (x y : ℤ) → LiesInBox (set cells own (Some rect)) area k x y → Any (HoldsPoint k x y) (insert items j.at e)
    held k x y lies = elim (eqb_tells k own) [
      | inl same ↦
          let At : ℕ → Type 0 = λ m. cell_box (set cells own (Some rect)) m ≡ Some lies.box in
          let same_box = same_rect lies.box (sym (box_same cells own (Some rect) has) ∙ subst At same.1 lies.is) in
          let c = insert_contains items j.at e in
          (c.0, e, c.1, c.2, record { is = sym same.1; covers = (is.points x y).1 (lies.in_area, subst (λ (q : Rect). Covers q x y) same_box lies.in_box) })
      | inr apart ↦
          let found = mark_list.held k x y (in_box_of (set cells own (Some rect)) cells area k x y (sym (box_other cells own k (Some rect) apart.1)) lies) in
          let c = contains_insert items j.at e found.1 (found.0, found.2, found.3) in
          (c.0, found.1, c.1, c.2, found.4)
    ]

-- ---- from marks to entries

-- the cell with the other box has no mark
entry_other : (cells : List (Option Rect)) (area : Rect) (own : ℕ) (box : Option Rect) (m : Mark) → m.own ≢ own →
    marked_entry (set cells own box) area m ≡ marked_entry cells area m
entry_other cells area own box m apart = ap (λ (b : Option Rect). entry_of_box area b m.own) (box_other cells own m.own box apart)

entries_other : (cells : List (Option Rect)) (area : Rect) (own : ℕ) (box : Option Rect) (ms : List Mark) → All (λ m. m.own ≢ own) ms →
    marked_entries (set cells own box) area ms ≡ marked_entries cells area ms
entries_other cells area own box [] all = refl
entries_other cells area own box (m ∷ ms) all =
    ap (λ (e : Entry). e ∷ marked_entries (set cells own box) area ms) (entry_other cells area own box m (all 0 m (omega arith)))
    ∙ ap (λ (es : List Entry). marked_entry cells area m ∷ es)
    (entries_other cells area own box ms (λ k d within. all (suc k) d (omega (arith, within))))

entries_but : (cells : List (Option Rect)) (area : Rect) (own : ℕ) (ms : List Mark) → marked_entries cells area (marks_but ms own) ≡ others_in (marked_entries cells area ms) own
entries_but cells area own [] = refl
entries_but cells area own (m ∷ ms) = both (not (eqb m.own own)) (entries_but cells area own ms)
  where
    both : (b : Bool) → marked_entries cells area (marks_but ms own) ≡ others_in (marked_entries cells area ms) own →
        marked_entries cells area (cond b (m ∷ marks_but ms own) (marks_but ms own))
        ≡ cond b (marked_entry cells area m ∷ others_in (marked_entries cells area ms) own) (others_in (marked_entries cells area ms) own)
    both true rest = ap (λ (es : List Entry). marked_entry cells area m ∷ es) rest
    both false rest = rest

entries_insert : (f : Mark → Entry) (ms : List Mark) (i : ℕ) (m : Mark) → map f (insert ms i m) ≡ insert (map f ms) i (f m)
entries_insert f [] zero m = refl
entries_insert f [] (suc i) m = refl
entries_insert f (x ∷ ms) zero m = refl
entries_insert f (x ∷ ms) (suc i) m = ap (λ (es : List Entry). f x ∷ es) (entries_insert f ms i m)

no_mark : Mark
no_mark = record { own = 0; left = pos 0; width = pos 0 }

pub entry_there : (cells : List (Option Rect)) (area : Rect) (ms : List Mark) (k : ℕ) (d : Entry) (e : Mark) → k < length ms →
    get_or (marked_entries cells area ms) k d ≡ marked_entry cells area (get_or ms k e)
entry_there cells area ms k d e within = get_or-map (marked_entry cells area) ms k e d within

pub entries_many : (cells : List (Option Rect)) (area : Rect) (ms : List Mark) → length (marked_entries cells area ms) ≡ length ms
entries_many cells area ms = length-map ms (marked_entry cells area)

-- the marks are of cells whose boxes have a point in the area
pub none_marked : (cells : List (Option Rect)) (area : Rect) (own : ℕ) (l : StripMarks) → IsMarked cells area l → ((x y : ℤ) → LiesInBox cells area own x y → ⊥) →
    All (λ m. m.own ≢ own) l.marks.items
none_marked cells area own l marked never k d within same =
    let es = marked_entries cells area l.marks.items in
    let many = entries_many cells area l.marks.items in
    let m : Mark = get_or l.marks.items k d in
    let e : Entry = marked_entry cells area m in
    let inner : k < length es = omega (arith, within, many) in
    let at : get_or es k e ≡ e = entry_there cells area l.marks.items k e d within in
    let whole = subst (λ (z : Entry). HasPoints z.area) at (marked.mark_list.whole k e inner) in
    let reported = subst (λ (z : Entry). (x y : ℤ) → Covers z.area x y → LiesInBox cells area z.own x y) at (marked.mark_list.reported k e inner) in
    let w = whole.wide in
    let h = whole.high in
    let lies = reported e.area.x1 e.area.y1 record { left = omega (arith, ints); right = w; bottom = omega (arith, ints); top = h } in
    never e.area.x1 e.area.y1 (subst (λ (n : ℕ). LiesInBox cells area n e.area.x1 e.area.y1) same lies)

-- marks are in the order of the entries
pub marks_rise : (cells : List (Option Rect)) (area : Rect) (l : StripMarks) → IsMarked cells area l → AreRising l.marks.items
marks_rise cells area l marked i j d less within =
    let ms = l.marks.items in
    let many = entries_many cells area ms in
    let e : Entry = marked_entry cells area d in
    let up = marked.mark_list.orderly.order i j e less (omega (arith, within, many)) in
    let a = (marked.reported i d (omega (arith, less, within))).left in
    let b = (marked.reported j d within).left in
    let first : (get_or (marked_entries cells area ms) i e).area.x1 ≡ (marked_entry cells area (get_or ms i d)).area.x1 =
    ap (λ (z : Entry). z.area.x1) (entry_there cells area ms i e d (omega (arith, less, within))) in
    let second : (get_or (marked_entries cells area ms) j e).area.x1 ≡ (marked_entry cells area (get_or ms j d)).area.x1 =
    ap (λ (z : Entry). z.area.x1) (entry_there cells area ms j e d within) in
    omega (arith, ints, up, a, b, first, second)

abbrev made : List Entry → ℤ → StripView
made es w = record { entries = es; widest = w }

-- a strip with the same marks
pub marked_kept : (cells : List (Option Rect)) (area : Rect) (old new : StripMarks) → IsMarked cells area old → KeepsMarksOf old new → IsMarked cells area new
marked_kept cells area old new marked kept = record {
  mark_list = subst (ShowsBoxes cells area) same marked.mark_list;
  reported = subst (MarksAreOf cells area) (sym kept.marks) marked.reported;
}
  where
    same : strip_view cells area old ≡ strip_view cells area new
    same = ap (λ (ms : List Mark). made (marked_entries cells area ms) old.widest) (sym kept.marks)
        ∙ ap (λ (w : ℤ). made (marked_entries cells area new.marks.items) w) (sym kept.widest)

-- marks that are not the cell's have the same entries
reported_other : (cells : List (Option Rect)) (area : Rect) (own : ℕ) (box : Option Rect) (ms : List Mark) → All (λ m. m.own ≢ own) ms →
    MarksAreOf cells area ms → MarksAreOf (set cells own box) area ms
reported_other cells area own box ms apart reported k d within =
    subst (λ (e : Entry). MarkIsOf e (get_or ms k d)) (sym (entry_other cells area own box (get_or ms k d) (apart k d within))) (reported k d within)

-- the marks of a strip without the cell's are those of the boxes without the cell's
pub marked_pruned : (cells : List (Option Rect)) (area : Rect) (own : ℕ) (old new : StripMarks) → own < length cells → IsMarked cells area old →
    IsUnmarked own old new → IsMarked (set cells own None) area new
marked_pruned cells area own old new has marked pruned = record {
  mark_list = mark_list_pruned cells area own (strip_view cells area old) (strip_view (set cells own None) area new) has marked.mark_list record {
    entries = ap (λ (ms : List Mark). marked_entries (set cells own None) area ms) pruned.marks
        ∙ entries_other cells area own None (marks_but items own) apart ∙ entries_but cells area own items;
    widest = pruned.widest;
  };
  reported = subst (MarksAreOf (set cells own None) area) (sym pruned.marks)
      (reported_other cells area own None (marks_but items own) apart (All-filter p (λ m. MarkIsOf (marked_entry cells area m) m) items marked.reported));
}
  where
    items : List Mark
    items = old.marks.items

    p : Mark → Bool
    p m = not (eqb m.own own)

    apart : All (λ m. m.own ≢ own) (marks_but items own)
    apart k d within = test_other (get_or (marks_but items own) k d).own own (filter_passes p items k d within)

-- the marks of a strip if no point of it lies in the old box of the cell or in the new one
pub marked_beside : (cells : List (Option Rect)) (area : Rect) (own : ℕ) (box : Option Rect) (l : StripMarks) → own < length cells →
    ((x y : ℤ) → LiesInBox cells area own x y → ⊥) → ((r : Rect) (x y : ℤ) → box ≡ Some r → Covers area x y → Covers r x y → ⊥) → IsMarked cells area l →
    IsMarked (set cells own box) area l
marked_beside cells area own box l has old new marked = record {
  mark_list = subst (λ (es : List Entry). ShowsBoxes (set cells own box) area record { entries = es; widest = l.widest })
      (sym (entries_other cells area own box l.marks.items apart)) (mark_list_beside cells area own box (strip_view cells area l) has old new marked.mark_list);
  reported = reported_other cells area own box l.marks.items apart marked.reported;
}
  where
    apart : All (λ m. m.own ≢ own) l.marks.items
    apart = none_marked cells area own l marked old

mark_insert : (P : Mark → Type 0) (xs : List Mark) (i : ℕ) (m : Mark) → P m → All P xs → All P (insert xs i m)
mark_insert P xs i m here all = All-append P (take i xs) (m ∷ drop i xs) (All-take P i xs all) (All-cons P m (drop i xs) here (All-drop P i xs all))

-- the marks with the cell's part are those of the boxes with the cell's new box
pub marked_put : (cells : List (Option Rect)) (area : Rect) (own : ℕ) (rect : Rect) (old new : StripMarks) → own < length cells → cell_box cells own ≡ None →
    IsNearZero area → IsMarked cells area old → IsPutIn own rect area old new → IsMarked (set cells own (Some rect)) area new
marked_put cells area own rect old new has nowhere near marked put = elim put [
  | inl both ↦ joined both.0 both.1
  | inr both ↦
      subst (IsMarked (set cells own (Some rect)) area) (sym both.1)
      (marked_beside cells area own (Some rect) old has nothing
      (λ r x y same a b. both.0 (whole_at x y ((is.points x y).1 (a, subst (λ (q : Rect). Covers q x y) (same_rect r same) b)))) marked)
]
  where
    part : Rect
    part = part_in area rect

    is : IsPart area rect part
    is = part_is area rect part refl refl refl refl

    same_rect : (r : Rect) → ◌≡◌ {A = Option Rect} (Some rect) (Some r) → r ≡ rect
    same_rect r e = cc

    nothing : (x y : ℤ) → LiesInBox cells area own x y → ⊥
    nothing x y lies = none_is_not_some lies.box (sym nowhere ∙ lies.is)

    whole_at : (x y : ℤ) → Covers part x y → HasPoints part
    whole_at x y covers =
        let a = covers.left in
        let b = covers.right in
        let c = covers.bottom in
        let d = covers.top in
        record { wide = omega (arith, ints, a, b); high = omega (arith, ints, c, d) }

    joined : HasPoints part → IsAdded own part old new → IsMarked (set cells own (Some rect)) area new
    joined whole added = record {
      mark_list = mark_list_joined cells area own rect part (strip_view cells area old) (strip_view (set cells own (Some rect)) area new) has nowhere near is whole marked.mark_list record {
        at = j.at;
        entries = ap (λ (ms : List Mark). marked_entries (set cells own (Some rect)) area ms) j.marks
            ∙ entries_insert (marked_entry (set cells own (Some rect)) area) items j.at m
            ∙ ap (λ (es : List Entry). insert es j.at (marked_entry (set cells own (Some rect)) area m)) (entries_other cells area own (Some rect) items apart)
            ∙ ap (λ (e : Entry). insert (marked_entries cells area items) j.at e) mine;
        before = λ k d less.
            let bound = j.bound in
            let within : k < length items = omega (arith, bound, less) in
            let h = j.before k no_mark less in
            let l = (marked.reported k no_mark within).left in
            let at : (get_or (marked_entries cells area items) k d).area.x1 ≡ (marked_entry cells area (get_or items k no_mark)).area.x1 =
            ap (λ (z : Entry). z.area.x1) (entry_there cells area items k d no_mark within) in
            omega (arith, ints, h, l, at);
        after_it = λ k d from until.
            let many = entries_many cells area items in
            let within : k < length items = omega (arith, until, many) in
            let h = j.after_it k no_mark from within in
            let l = (marked.reported k no_mark within).left in
            let at : (get_or (marked_entries cells area items) k d).area.x1 ≡ (marked_entry cells area (get_or items k no_mark)).area.x1 =
            ap (λ (z : Entry). z.area.x1) (entry_there cells area items k d no_mark within) in
            omega (arith, ints, h, l, at);
        widest = j.widest;
      };
      reported = subst (MarksAreOf (set cells own (Some rect)) area) (sym j.marks)
          (mark_insert (λ z. MarkIsOf (marked_entry (set cells own (Some rect)) area z) z) items j.at m (subst (λ (e : Entry). MarkIsOf e m) (sym mine) of_part)
          (reported_other cells area own (Some rect) items apart marked.reported));
    }
      where
        items : List Mark
        items = old.marks.items

        m : Mark
        m = added.mark

        j : IsJoined m (part.x2 -ℤ part.x1) old new
        j = added.joined

        of_part : MarkIsOf record { own = own; area = part } m
        of_part = record { left = added.of.left; width = added.of.width; some = added.of.some }

        apart : All (λ z. z.own ≢ own) items
        apart = none_marked cells area own old marked nothing

        mine : marked_entry (set cells own (Some rect)) area m ≡ record { own = own; area = part }
        mine = ap (λ (n : ℕ). marked_entry (set cells own (Some rect)) area record { own = n; left = m.left; width = m.width }) added.of.is
            ∙ ap (λ (b : Option Rect). entry_of_box area b own) (box_same cells own (Some rect) has)
