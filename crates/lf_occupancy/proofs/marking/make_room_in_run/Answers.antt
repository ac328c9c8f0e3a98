use Rattle.std.proofs.Common.{◌<◌, arith, length}
use Rattle.lf_occupancy.proofs.Changes.{kept_along, kept_same, kept_set, room_further}
use Rattle.lf_occupancy.proofs.marking.make_room_in_run.Goals as goal

pub loop-n-init : goal.loop-n-init
loop-n-init c = record { kept = kept_same c.args.mark_lists.now.items; room = λ n e b. let f = b.from in let h = b.below in absurd (omega (arith, f, h)) }

pub loop-n-preserved : goal.loop-n-preserved
loop-n-preserved c =
    let bound = c.requires.within in
    let test = c.loop-n-test.true in
    let same = c.loop-n.invariant.kept.many in
    let within : c.loop-n.n < length c.loop-n.mark_lists.items = omega (arith, bound, test, same) in
    record {
      kept = kept_along c.args.mark_lists.now.items c.loop-n.mark_lists.items _ c.loop-n.invariant.kept
          (kept_set c.loop-n.mark_lists.items c.loop-n.n c.index_mut.result.now c.reserve_marks.new.mark_list within c.index_mut.ensures.value
          c.in_ok-reserve_marks.ensures.kept);
      room = room_further 1 c.args.near.now.start c.loop-n.n c.args.near.now.end c.loop-n.mark_lists.items c.index_mut.result.now
          c.reserve_marks.new.mark_list within c.index_mut.ensures.value c.in_ok-reserve_marks.ensures.ok c.loop-n.invariant.room;
    }
