use Rattle.std.proofs.Common.{◌<◌, arith, length, subst}
use Rattle.std.specs.Vec.{vec_capacity}
use Rattle.std.proofs.lemmas.List.{length-map}
use Rattle.lf_units.specs.declared.geometry.Rect.{Rect}
use Rattle.lf_occupancy.specs.declared.strip_marks.StripMarks.{StripMarks}
use Rattle.lf_occupancy.specs.StripCounting.{IsShifted, IsShiftedAt}
use Rattle.lf_occupancy.proofs.Changes.{changed_further, kept_along, kept_set}
use Rattle.lf_occupancy.proofs.Settling.{changed_in_run}
use Rattle.lf_occupancy.proofs.Tallying.{room_for_more}
use Rattle.lf_occupancy.specs.Widened.{all_widened}
use Rattle.lf_occupancy.proofs.strip_counts.shift_run.Goals as goal

pub loop-n-preserved : goal.loop-n-preserved
loop-n-preserved c =
    let xs = all_widened c.args.strips.now in
    let shift = c.args.shift.now in
    let n = c.loop-n.n in
    let mark_lists = c.loop-n.mark_lists.items in
    let counts = c.loop-n.counts.items in
    let bound = c.requires.within in
    let test = c.loop-n-test.true in
    let same = c.loop-n.invariant.kept.many in
    let within : n < length mark_lists = omega (arith, bound, test, same) in
    let many = c.loop-n.invariant.room.many in
    let long = length-map mark_lists (λ (l : StripMarks). vec_capacity l.marks) in
    let inner : n < length counts = omega (arith, within, many, long) in
    let old = c.index_mut-in-loop-n.result.now in
    let new = c.count_shift.new.count in
    let shifted : IsShiftedAt xs shift n old new = λ d. subst (λ (a : Rect). IsShifted a shift old new) (c.widened_area-area.ensures.is d)
    c.in_ok-count_shift.ensures.shifted in
    record {
      kept = kept_along c.args.mark_lists.now.items mark_lists _ c.loop-n.invariant.kept
          (kept_set mark_lists n c.index_mut.result.now c.count_shift.new.mark_list within c.index_mut.ensures.value c.in_ok-count_shift.ensures.kept);
      shifted = changed_further (IsShiftedAt xs shift) c.args.near.now.start n c.args.near.now.end c.args.counts.now.items counts old new
          c.loop-n.auto.n test inner c.index_mut-in-loop-n.ensures.value shifted c.loop-n.invariant.shifted;
      room = room_for_more counts mark_lists n new c.count_shift.new.mark_list inner c.in_ok-count_shift.ensures.room c.loop-n.invariant.room;
    }

pub returns-clause-shifted : goal.returns-clause-shifted
returns-clause-shifted c =
    changed_in_run c.args.near.now c.loop-n.n (IsShiftedAt (all_widened c.args.strips.now) c.args.shift.now)
    c.args.counts.now.items c.loop-n.counts.items c.loop-n-test.false c.loop-n.invariant.shifted
