use Rattle.std.proofs.Common.{◌≡◌, ◌<◌, ◌≤◌, ◌+◌, ℕ, pos, ◌≤ℤ◌, [], List, get_or, length, ap, arith, subst, sym, ◌∙◌}
use Rattle.std.specs.Prelude.{IsSomeAnd}
use Rattle.std.proofs.lemmas.Int.{ints, clamps}
use Rattle.lf_units.specs.declared.span.Span.{Span}
use Rattle.lf_segments.specs.Indexes.{IsInside}
use Rattle.lf_occupancy.specs.declared.strip_marks.Mark.{Mark}
use Rattle.lf_occupancy.specs.MarkLists.{AreRising, marked_entry}
use Rattle.lf_occupancy.specs.Views.{OverlapsNoBox, cell_box}
use Rattle.lf_occupancy.proofs.Laning.{marks_rise}
use Rattle.lf_occupancy.proofs.Separating.{mark_is_apart, one_more_apart}
use Rattle.lf_occupancy.proofs.apart.push_if_apart.Goals as goal

abbrev no_mark : Mark
no_mark = record { own = 0; left = pos 0; width = pos 0 }

pub padded_range-reach-requires-clause-high : goal.padded_range-reach-requires-clause-high
padded_range-reach-requires-clause-high c =
    let at = ap (λ (s : Span). s.hi) c.range_at-range.ensures in
    let near = c.args.strip.now.near.high in
    omega (arith, ints, clamps, at, near)

pub begin_from-requires : goal.begin_from-requires
begin_from-requires c = subst AreRising (sym c.as_slice-marks.ensures.value) (marks_rise _ _ c.args.strip.now.mark_list.now c.requires.marked)

pub returns : goal.returns
returns c = λ all.
    let n = c.args.n in
    let strip = c.args.strip.now in
    let cells = get_or strip.boxes.now strip.team [] in
    let area = c.args.area.now in
    let padding = c.args.padding.now.length in
    let items = strip.mark_list.now.marks.items in
    let same = c.as_slice-marks.ensures.value in
    let at : get_or c.as_slice-marks.result.now n no_mark ≡ get_or items n no_mark = ap (λ (xs : List Mark). get_or xs n no_mark) same in
    let lo = ap (λ (s : Span). s.lo) c.padded_range-reach.ensures in
    let hi = ap (λ (s : Span). s.hi) c.padded_range-reach.ensures in
    let from = ap (λ (s : Span). s.lo) c.range_at-range.ensures ∙ ap (λ (m : Mark). (marked_entry cells strip.area m).area.x1) at in
    let to = ap (λ (s : Span). s.hi) c.range_at-range.ensures ∙ ap (λ (m : Mark). (marked_entry cells strip.area m).area.x2) at in
    let test = c.if-taken-reach.false in
    let rest = subst (λ (xs : List Mark). (k : ℕ) (e : Mark) → (n + 1) ≤ k → k < length xs → c.padded_range-reach.result.hi ≤ℤ (get_or xs k e).left) same
    (c.begin_from.ensures c.if-not-begin_from.false) in
    let has = subst (λ (m : Mark). IsSomeAnd (cell_box cells m.own) (λ box. IsInside box area)) at (c.has_box_inside.ensures c.if-not-has_box_inside.false) in
    let apart = mark_is_apart cells strip.area area strip.mark_list.now padding c.requires.marked c.requires.around c.args.padding.now.short.least n no_mark c.args.taken.now
    c.requires.before (omega (arith, ints, test, lo, from)) (λ k e least within. let h = rest k e least within in omega (arith, ints, h, hi, to)) has in
    one_more_apart cells padding _ c.args.list.now.items c.push.new.self.items c.in_ok-push.ensures.items
    (subst (λ (m : Mark). OverlapsNoBox cells padding m.own) (sym at) apart) all
