use Rattle.std.proofs.Common.{◌<◌, arith, length}
use Rattle.std.proofs.lemmas.Result.{IfOk-from_err}
use Rattle.lf_occupancy.proofs.Changes.{kept_same, kept_along, kept_set, room_further, room_of_row}
use Rattle.lf_occupancy.specs.Widened.{all_widened}
use Rattle.lf_occupancy.proofs.marking.make_room_in_row.Goals as goal

pub loop-n-init : goal.loop-n-init
loop-n-init c = record { kept = kept_same c.args.mark_lists.now.items; room = λ n e b. let f = b.from in let h = b.below in absurd (omega (arith, f, h)) }

pub loop-n-preserved : goal.loop-n-preserved
loop-n-preserved c =
    let bound = c.widened_strips-near.ensures.within in
    let test = c.loop-n-test.true in
    let many = c.requires in
    let same = c.loop-n.invariant.kept.many in
    let within : c.loop-n.n < length c.loop-n.mark_lists.items = omega (arith, bound, test, many, same) in
    record {
      kept = kept_along c.args.mark_lists.now.items c.loop-n.mark_lists.items _ c.loop-n.invariant.kept
          (kept_set c.loop-n.mark_lists.items c.loop-n.n c.index_mut.result.now c.reserve_marks.new.mark_list within c.index_mut.ensures.value
          c.in_ok-reserve_marks.ensures.kept);
      room = room_further c.args.more c.widened_strips-near.result.start c.loop-n.n c.widened_strips-near.result.end c.loop-n.mark_lists.items c.index_mut.result.now
          c.reserve_marks.new.mark_list within c.index_mut.ensures.value c.in_ok-reserve_marks.ensures.ok c.loop-n.invariant.room;
    }

pub returns-in_err-reserve_marks : goal.returns-in_err-reserve_marks
returns-in_err-reserve_marks c =
    let bound = c.widened_strips-near.ensures.within in
    let test = c.loop-n-test.true in
    let many = c.requires in
    let same = c.loop-n.invariant.kept.many in
    let within : c.loop-n.n < length c.loop-n.mark_lists.items = omega (arith, bound, test, many, same) in
    record {
      kept = kept_along c.args.mark_lists.now.items c.loop-n.mark_lists.items _ c.loop-n.invariant.kept
          (kept_set c.loop-n.mark_lists.items c.loop-n.n c.index_mut.result.now c.reserve_marks.new.mark_list within c.index_mut.ensures.value
          c.in_err-reserve_marks.ensures.kept);
      ok = IfOk-from_err c.from_residual.result _ c.from_residual.ensures.0;
    }

pub returns : goal.returns
returns c =
    let xs = all_widened c.args.strips.now in
    let row = c.args.row in
    let team = c.args.id.now.team in
    let rect = c.args.rect.now in
    let start = c.widened_strips-near.result.start in
    let end = c.widened_strips-near.result.end in
    let near = c.widened_strips-near.ensures in
    record {
      kept = c.loop-n.invariant.kept;
      ok = room_of_row c.args.more xs row team start c.loop-n.n end rect c.loop-n.mark_lists.items near c.loop-n-test.false c.loop-n.invariant.room;
    }
