use Rattle.std.specs.Prelude.{All}
use Rattle.std.proofs.Common.{◌≡◌, ◌<ℤ◌, ◌<◌, ℕ, List, get_or, refl, subst, sym, ap, ◌∙◌, length, arith}
use Rattle.lf_occupancy.specs.declared.strip_marks.Mark.{Mark}
use Rattle.lf_occupancy.specs.MarkLists.{AreRising, IsMarkOfCell, HasNoMarkFrom}
use Rattle.lf_occupancy.proofs.Ones.{all_kept, not_before, one_left}
use Rattle.lf_occupancy.proofs.strip_marks.unmark.Goals as goal

pub place_from-requires-clause-order : goal.place_from-requires-clause-order
place_from-requires-clause-order c = subst AreRising (sym c.as_slice-marks.ensures.value) c.requires.order

pub place_from-requires-clause-begins : goal.place_from-requires-clause-begins
place_from-requires-clause-begins c =
    subst (All (λ m. m.own ≡ c.args.own → m.left ≡ c.args.left.now)) (sym c.as_slice-marks.ensures.value) c.requires.begins

pub returns-in-Some : goal.returns-in-Some
returns-in-Some c =
    let items = c.args.mark_list.now.marks.items in
    let own = c.args.own in
    let at = subst (λ (es : List Mark). IsMarkOfCell es own c.in-Some.n) c.as_slice-marks.ensures.value c.in-Some.ensures in
    let fewer = c.remove.ensures.len in
    record {
      marks = c.remove.ensures.items ∙ one_left items own c.in-Some.n c.requires.once at;
      widest = refl;
      fewer = omega (arith, fewer);
      room = c.remove.ensures.capacity;
    }

pub returns-in_default : goal.returns-in_default
returns-in_default c =
    let items = c.args.mark_list.now.marks.items in
    let own = c.args.own in
    let left = c.args.left.now in
    let from = c.count_before.result in
    let same = c.as_slice-marks.ensures.value in
    let bound = c.count_before.ensures.within in
    let long = ap (λ (es : List Mark). length es) same in
    let below = subst (λ (es : List Mark). (k : ℕ) (d : Mark) → k < from → (get_or es k d).left <ℤ left) same c.count_before.ensures.below in
    let none = subst (λ (es : List Mark). HasNoMarkFrom es own from) same c.in_default.ensures in
    record {
      marks = sym (all_kept items own (not_before c.args.mark_list.now own left from c.requires (omega (arith, bound, long)) below none));
      widest = refl;
      fewer = omega arith;
      room = refl;
    }
