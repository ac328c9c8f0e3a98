use Rattle.std.proofs.Common.{◌≡◌, [], ℤ, pos, List, get_or, ap, arith, of_z, rules, to_z, w64, ◌∙◌}
use Rattle.std.proofs.lemmas.Int.{ints, clamps}
use Rattle.lf_units.specs.declared.span.Span.{Span}
use Rattle.lf_occupancy.specs.declared.strip_marks.Mark.{Mark}
use Rattle.lf_occupancy.specs.MarkLists.{marked_entry}
use Rattle.lf_occupancy.proofs.Separating.{one_more_ends}
use Rattle.lf_occupancy.proofs.apart.push_apart.Goals as goal

abbrev no_mark : Mark
no_mark = record { own = 0; left = pos 0; width = pos 0 }

pub loop-n-preserved : goal.loop-n-preserved
loop-n-preserved c =
    let n = c.loop-n.n in
    let strip = c.args.strip.now in
    let cells = get_or strip.boxes.now strip.team [] in
    let same = c.as_slice-marks.ensures.value in
    let long = c.as_slice-marks.ensures.len in
    let test = c.loop-n-test.true in
    let taken : ℤ = to_z w64 (of_z w64 c.max-taken.result) in
    let taken_is : taken ≡ c.max-taken.result = search rules in
    let value = c.max-taken.ensures.value in
    let was = c.loop-n.taken-is in
    let to = ap (λ (s : Span). s.hi) c.range_at-range.ensures ∙ ap (λ (xs : List Mark). (marked_entry cells strip.area (get_or xs n no_mark)).area.x2) same in
    record {
      ends = one_more_ends cells strip.area c.args.area.now strip.mark_list.now c.args.padding.now.length c.requires.marked c.requires.around c.args.padding.now.short.least n no_mark
          (to_z w64 c.loop-n.taken-bits) taken (omega (arith, test, long)) (omega (arith, ints, clamps, taken_is, value, was, to)) c.loop-n.invariant.ends;
      apart = λ all. c.in_ok-push_if_apart.ensures (c.loop-n.invariant.apart all);
    }
