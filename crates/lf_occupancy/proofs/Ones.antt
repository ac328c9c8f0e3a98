-- A strip in which a cell has at most one mark.
use Rattle.std.proofs.Common.{◌≡◌, ◌≢◌, ◌⊎◌, inl, inr, ℕ, zero, suc, ◌<◌, ◌≤◌, ℤ, ◌<ℤ◌, Bool, cond, List, [], ◌∷◌, Option, Some, None, length}
use Rattle.std.proofs.Common.{get_or, refl, sym, ap, subst, ◌∙◌, arith}
use Rattle.std.specs.Prelude.{All, AllPairs, not, remove}
use Rattle.std.specs.Int.{int_max}
use Rattle.std.proofs.lemmas.Bool.Decides.{eqb_tells}
use Rattle.std.proofs.lemmas.Int.{ints}
use Rattle.std.proofs.lemmas.List.{get_or_default}
use Rattle.lf_units.specs.declared.geometry.Rect.{Rect}
use Rattle.lf_cells.specs.declared.cell.CellId.{CellId}
use Rattle.lf_segments.specs.declared.rows_by_y.RowEntry.{RowEntry}
use Rattle.lf_occupancy.specs.declared.strip_marks.Entry.{Entry}
use Rattle.lf_occupancy.specs.declared.strip_marks.StripMarks.{StripMarks}
use Rattle.lf_occupancy.specs.declared.strip_marks.Mark.{Mark}
use Rattle.lf_segments.specs.declared.strip.Strip.{Strip}
use Rattle.lf_occupancy.specs.Views.{cell_box}
use Rattle.lf_occupancy.specs.MarkLists.{AreRising, HasAtMostOne, IsMarked, IsMarkOfCell, HasNoMarkFrom, marked_entries, marked_entry, marks_but, some_box}
use Rattle.lf_occupancy.specs.Strips.{ShowAllBoxes, HaveAtMostOne, HasBoxOrNone, IsOfTeam, IsReached, HasOneMark}
use Rattle.lf_occupancy.proofs.Laning.{entries_many, entry_there, marks_rise, none_is_not_some, none_marked}

kept_one : (e : Mark) (es : List Mark) (own : ℕ) → e.own ≢ own → marks_but (e ∷ es) own ≡ e ∷ marks_but es own
kept_one e es own apart = elim (eqb_tells e.own own) [
  | inl same ↦ absurd (apart same.1)
  | inr other ↦ ap (λ (b : Bool). cond (not b) (e ∷ marks_but es own) (marks_but es own)) other.0
]

left_one : (e : Mark) (es : List Mark) (own : ℕ) → e.own ≡ own → marks_but (e ∷ es) own ≡ marks_but es own
left_one e es own same = elim (eqb_tells e.own own) [
  | inl is ↦ ap (λ (b : Bool). cond (not b) (e ∷ marks_but es own) (marks_but es own)) is.0
  | inr other ↦ absurd (other.1 same)
]

-- if no mark is the cell's, all are kept
pub all_kept : (es : List Mark) (own : ℕ) → HasNoMarkFrom es own 0 → marks_but es own ≡ es
all_kept [] own none = refl
all_kept (e ∷ es) own none =
    kept_one e es own (none 0 e (omega arith) (omega arith))
    ∙ ap (λ (rest : List Mark). e ∷ rest) (all_kept es own (λ k d from within. none (suc k) d (omega arith) (omega (arith, within))))

-- if one mark is the cell's, the others remain without it
pub one_left : (es : List Mark) (own n : ℕ) → AllPairs (λ a b. a.own ≢ b.own) es → IsMarkOfCell es own n → remove es n ≡ marks_but es own
one_left [] own n once at = let within = at.within in absurd (omega (arith, within))
one_left (e ∷ es) own zero once at =
    let here : e.own ≡ own = at.is e in
    sym (all_kept es own (λ k d from within same. once 0 (suc k) d (omega arith) (omega (arith, within)) (here ∙ sym same))) ∙ sym (left_one e es own here)
one_left (e ∷ es) own (suc n) once at =
    let within = at.within in
    ap (λ (rest : List Mark). e ∷ rest)
    (one_left es own n (λ i j d less inner. once (suc i) (suc j) d (omega (arith, less)) (omega (arith, inner)))
    record { within = omega (arith, within); is = λ d. at.is d })
    ∙ sym (kept_one e es own (λ same. once 0 (suc n) e (omega arith) within (same ∙ sym (at.is e))))

-- a mark that begins to the left of the cell's left edge is not the cell's
pub not_before : (l : StripMarks) (own : ℕ) (left : ℤ) (from : ℕ) → HasAtMostOne own left l → from ≤ length l.marks.items →
    ((k : ℕ) (d : Mark) → k < from → (get_or l.marks.items k d).left <ℤ left) → HasNoMarkFrom l.marks.items own from →
    HasNoMarkFrom l.marks.items own 0
not_before l own left from one bound below none k d least within same = elim two [
  | inl before ↦ let low = below k d before in let at = one.begins k d within same in omega (arith, ints, low, at)
  | inr past ↦ none k d past within same
]
  where
    two : (k < from) ⊎ (from ≤ k)
    two = grind arith

-- if a mark lies farther right than the cell's, no mark from there on is the cell's
pub none_farther : (ms : List Mark) (own n : ℕ) (left : ℤ) (m : Mark) → AreRising ms → All (λ e. e.own ≡ own → e.left ≡ left) ms → n < length ms →
    left <ℤ (get_or ms n m).left → (k : ℕ) (d : Mark) → n ≤ k → k < length ms → (get_or ms k d).own ≢ own
none_farther ms own n left m rising begins inner far k d from within same = elim two [
  | inl at ↦
      let at_n = ap (λ (e : Mark). e.left) (get_or_default ms n m d inner) in
      let at_k : (get_or ms n d).left ≡ (get_or ms k d).left = ap (λ (i : ℕ). (get_or ms i d).left) at in
      let here = begins k d within same in
      omega (arith, ints, far, at_n, at_k, here)
  | inr less ↦
      let at_n = ap (λ (e : Mark). e.left) (get_or_default ms n m d inner) in
      let up = rising n k d less within in
      let here = begins k d within same in
      omega (arith, ints, far, at_n, up, here)
]
  where
    two : (n ≡ k) ⊎ (n < k)
    two = grind arith

-- a strip with the marks of its team's boxes has at most one mark of a cell, at the left edge of
-- the part of its box
marked_has_one : (cells : List (Option Rect)) (own : ℕ) (rect : Rect) (area : Rect) (l : StripMarks) →
    (cell_box cells own ≡ None) ⊎ (cell_box cells own ≡ Some rect) → IsMarked cells area l → HasAtMostOne own (int_max area.x1 rect.x1) l
marked_has_one cells own rect area l at marked = record { order = marks_rise cells area l marked; once = once; begins = begins }
  where
    items : List Mark
    items = l.marks.items

    once : AllPairs (λ a b. a.own ≢ b.own) items
    once i j d less within same =
        let many = entries_many cells area items in
        let e : Entry = marked_entry cells area d in
        let first : (get_or (marked_entries cells area items) i e).own ≡ (get_or items i d).own =
        ap (λ (z : Entry). z.own) (entry_there cells area items i e d (omega (arith, less, within))) in
        let second : (get_or (marked_entries cells area items) j e).own ≡ (get_or items j d).own =
        ap (λ (z : Entry). z.own) (entry_there cells area items j e d within) in
        marked.mark_list.once i j e less (omega (arith, within, many)) (first ∙ same ∙ sym second)

    begins : (k : ℕ) (d : Mark) → k < length items → (get_or items k d).own ≡ own → (get_or items k d).left ≡ int_max area.x1 rect.x1
    begins k d within same = elim at [
      | inl none ↦ absurd (none_marked cells area own l marked (λ x y lies. none_is_not_some lies.box (sym none ∙ lies.is)) k d within same)
      | inr is ↦ (marked.reported k d within).left ∙ ap (λ (n : ℕ). int_max area.x1 (some_box (cell_box cells n)).x1) same
          ∙ ap (λ (b : Option Rect). int_max area.x1 (some_box b).x1) is
    ]

pub mark_lists_have_one : (xs : List Strip) (boxes : List (List (Option Rect))) (mark_lists : List StripMarks) (id : CellId) (rect : Rect) → ShowAllBoxes xs boxes mark_lists →
    HasBoxOrNone boxes id rect → HasOneMark xs id rect mark_lists
mark_lists_have_one xs boxes mark_lists id rect are is = record {
  many = are.many;
  one = λ n d e of.
      let At : ℕ → Type 0 = λ t. IsMarked (get_or boxes t []) (get_or xs n d).area (get_or mark_lists n e) in
      marked_has_one (get_or boxes id.team []) id.own rect (get_or xs n d).area (get_or mark_lists n e) is.at (subst At (of.of_team d) (are.each n d e of.within));
}

-- a strip that the cell's box reaches is of the cell's team
pub reached_has_one : (xs : List Strip) (id : CellId) (rect : Rect) (run : List RowEntry) (mark_lists : List StripMarks) →
    HaveAtMostOne xs id.own rect (IsOfTeam xs id.team) mark_lists → HaveAtMostOne xs id.own rect (IsReached xs run id.team rect) mark_lists
reached_has_one xs id rect run mark_lists one n d e (within, (k, r, below, at, near)) =
    one n d e record { within = within; of_team = λ g. (near g).of_team }
