-- A cell whose mark keeps the padding from the marks before and after it overlaps no other cell.
use Rattle.std.proofs.Common.{◌≡◌, ◌≢◌, ◌⊎◌, inl, inr, ℕ, ◌+◌, ◌<◌, ◌≤◌, ℤ, pos, ◌+ℤ◌, ◌-ℤ◌, ◌≤ℤ◌, ◌<ℤ◌, List, [], ◌∷◌, ◌++◌, Option, Some, None, get_or, length, refl, sym, ap, subst, ◌∙◌, arith}
use Rattle.std.specs.Prelude.{All, Any, IsSomeAnd}
use Rattle.std.specs.Int.{int_max, int_min}
use Rattle.std.proofs.lemmas.Int.{ints, clamps}
use Rattle.std.proofs.lemmas.List.{get_or_default}
use Rattle.std.proofs.lemmas.List.Elements.{All-append, All-cons, All-nil}
use Rattle.lf_units.specs.declared.geometry.Rect.{Rect}
use Rattle.lf_units.specs.Area.{SharesPoint}
use Rattle.lf_segments.specs.Indexes.{IsInside}
use Rattle.lf_rules.specs.Padding.{wider}
use Rattle.lf_occupancy.specs.declared.strip_marks.Entry.{Entry}
use Rattle.lf_occupancy.specs.declared.strip_marks.StripMarks.{StripMarks}
use Rattle.lf_occupancy.specs.declared.strip_marks.Mark.{Mark}
use Rattle.lf_occupancy.specs.MarkLists.{AreRising, EndUpTo, HoldsPoint, IsMarked, marked_entries, marked_entry, part_in, some_box}
use Rattle.lf_occupancy.specs.Views.{OverlapsNoBox, cell_box}
use Rattle.lf_occupancy.proofs.Laning.{entries_many, entry_there}

-- the marks of a widened strip, and an area that lies in it with the padding around
module _ (cells : List (Option Rect)) (around area : Rect) (l : StripMarks) (padding : ℤ) (marked : IsMarked cells around l)
    (inside : IsInside (wider padding area) around) (some : pos 0 ≤ℤ padding) where
  abbrev marks : List Mark
  marks = l.marks.items

  abbrev entries : List Entry
  entries = marked_entries cells around marks

  -- the entry of a box that lies in the area is as wide as the box
  begins : (m : Mark) (box : Rect) → cell_box cells m.own ≡ Some box → IsInside box area → (marked_entry cells around m).area.x1 ≡ box.x1
  begins m box is lies =
      let at : (marked_entry cells around m).area.x1 ≡ int_max around.x1 box.x1 = ap (λ (o : Option Rect). (part_in around (some_box o)).x1) is in
      let a = inside.left in
      let b = lies.left in
      omega (arith, ints, clamps, at, a, b, some)

  ends : (m : Mark) (box : Rect) → cell_box cells m.own ≡ Some box → IsInside box area → (marked_entry cells around m).area.x2 ≡ box.x2
  ends m box is lies =
      let at : (marked_entry cells around m).area.x2 ≡ int_min around.x2 box.x2 = ap (λ (o : Option Rect). (part_in around (some_box o)).x2) is in
      let a = inside.right in
      let b = lies.right in
      omega (arith, ints, clamps, at, a, b, some)

  some_inside : (o : Option Rect) → IsSomeAnd o (λ box. IsInside box area) → (box : Rect) × ((o ≡ Some box) × IsInside box area)
  some_inside None none = absurd none
  some_inside (Some box) lies = (box, (refl, lies))

  -- a cell in the area is apart if its mark keeps the padding from those before and after it
  pub mark_is_apart : (n : ℕ) (d : Mark) (taken : ℤ) → EndUpTo entries n taken →
      taken ≤ℤ ((marked_entry cells around (get_or marks n d)).area.x1 -ℤ padding) →
      ((k : ℕ) (e : Mark) → (n + 1) ≤ k → k < length marks →
      ((marked_entry cells around (get_or marks n d)).area.x2 +ℤ padding) ≤ℤ (get_or marks k e).left) →
      IsSomeAnd (cell_box cells (get_or marks n d).own) (λ box. IsInside box area) → OverlapsNoBox cells padding (get_or marks n d).own
  mark_is_apart n d taken before left right has = record { box = box; is = is; clear = clear }
    where
      m : Mark
      m = get_or marks n d

      box : Rect
      box = (some_inside (cell_box cells m.own) has).0

      is : cell_box cells m.own ≡ Some box
      is = (some_inside (cell_box cells m.own) has).1.0

      lies : IsInside box area
      lies = (some_inside (cell_box cells m.own) has).1.1

      from : (marked_entry cells around m).area.x1 ≡ box.x1
      from = begins m box is lies

      to : (marked_entry cells around m).area.x2 ≡ box.x2
      to = ends m box is lies

      clear : (other : ℕ) (near : Rect) → other ≢ m.own → cell_box cells other ≡ Some near → SharesPoint (wider padding box) near → ⊥
      clear other near differ there shares = elim (order k n) [
        | inl less ↦
            let h = before k e less found.2 in
            let w = ap (λ (z : Entry). z.area.x2) found.3 in
            let c = found.4.covers.right in
            omega (arith, ints, h, w, c, x_low, left, from)
        | inr (inl same) ↦ differ (sym found.4.is ∙ owns ∙ ap (λ (j : ℕ). (get_or marks j d).own) same)
        | inr (inr more) ↦
            let h = right k d (omega (arith, more)) within in
            let w = ap (λ (z : Entry). z.area.x1) (sym found.3 ∙ entry_there cells around marks k e d within) in
            let r = (marked.reported k d within).left in
            let c = found.4.covers.left in
            omega (arith, ints, h, w, r, c, x_high, to)
      ]
        where
          x_low : (box.x1 -ℤ padding) ≤ℤ shares.x
          x_low = shares.in_first.left

          x_high : shares.x <ℤ (box.x2 +ℤ padding)
          x_high = shares.in_first.right

          found : Any (HoldsPoint other shares.x shares.y) entries
          found = marked.mark_list.held other shares.x shares.y record {
            box = near;
            is = there;
            in_area = record {
              left = let a = inside.left in let b = lies.left in omega (arith, ints, a, b, x_low);
              right = let a = inside.right in let b = lies.right in omega (arith, ints, a, b, x_high);
              bottom = let a = inside.lower in let b = lies.lower in let c = shares.in_first.bottom in omega (arith, ints, a, b, c);
              top = let a = inside.upper in let b = lies.upper in let c = shares.in_first.top in omega (arith, ints, a, b, c);
            };
            in_box = shares.in_second;
          }

          k : ℕ
          k = found.0

          e : Entry
          e = found.1

          within : k < length marks
          within = let a = found.2 in let many = entries_many cells around marks in omega (arith, a, many)

          owns : e.own ≡ (get_or marks k d).own
          owns = ap (λ (z : Entry). z.own) (sym found.3 ∙ entry_there cells around marks k e d within)

          order : (a b : ℕ) → (a < b) ⊎ ((a ≡ b) ⊎ (b < a))
          order a b = grind arith

  -- the marks up to this position end where the ones before it do or where it does, whichever is farther right
  pub one_more_ends : (n : ℕ) (d : Mark) (taken further : ℤ) → n < length marks → further ≡ int_max taken (marked_entry cells around (get_or marks n d)).area.x2 →
      EndUpTo entries n taken → EndUpTo entries (n + 1) further
  one_more_ends n d taken further within is before k e less inner = elim order [
    | inl earlier ↦ let h = before k e earlier inner in omega (arith, ints, clamps, h, is)
    | inr same ↦
        let at : (get_or entries k e).area.x2 ≡ (marked_entry cells around (get_or marks n d)).area.x2 =
        ap (λ (j : ℕ). (get_or entries j e).area.x2) same ∙ ap (λ (z : Entry). z.area.x2) (entry_there cells around marks n e d within) in
        omega (arith, ints, clamps, at, is)
  ]
    where
      order : (k < n) ⊎ (k ≡ n)
      order = grind (arith, less)

-- if a mark begins at x or to the right of it, so do those after it
pub first_of_rest : (marks : List Mark) (from : ℕ) (m : Mark) (x : ℤ) → AreRising marks → m ≡ get_or marks from m → x ≤ℤ m.left →
    (k : ℕ) (d : Mark) → from ≤ k → k < length marks → x ≤ℤ (get_or marks k d).left
first_of_rest marks from m x rising is begins k d least within = elim order [
  | inl same ↦ subst (λ (j : ℕ). x ≤ℤ (get_or marks j d).left) same here
  | inr less ↦ let a = rising from k d less within in omega (arith, ints, a, here)
]
  where
    inner : from < length marks
    inner = omega (arith, least, within)

    here : x ≤ℤ (get_or marks from d).left
    here = let at = ap (λ (z : Mark). z.left) (is ∙ get_or_default marks from m d inner) in omega (arith, ints, at, begins)

    order : (from ≡ k) ⊎ (from < k)
    order = grind (arith, least)

-- a rectangle widened by less lies in the one widened by more
pub wider_inside : (less more : ℤ) (a : Rect) → less ≤ℤ more → IsInside (wider less a) (wider more a)
wider_inside less more a upto = record {
  left = omega (arith, ints, upto);
  lower = omega (arith, ints);
  right = omega (arith, ints, upto);
  upper = omega (arith, ints);
}

-- one more cell of a list that overlaps no other
pub one_more_apart : (cells : List (Option Rect)) (padding : ℤ) (own : ℕ) (old new : List ℕ) → new ≡ old ++ own ∷ [] → OverlapsNoBox cells padding own →
    All (OverlapsNoBox cells padding) old → All (OverlapsNoBox cells padding) new
one_more_apart cells padding own old new is apart all =
    subst (All (OverlapsNoBox cells padding)) (sym is)
    (All-append (OverlapsNoBox cells padding) old (own ∷ []) all (All-cons (OverlapsNoBox cells padding) own [] apart (All-nil (OverlapsNoBox cells padding))))
