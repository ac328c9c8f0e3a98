use Rattle.std.proofs.Common.{◌<◌, arith, length}
use Rattle.std.specs.Vec.{vec_capacity}
use Rattle.std.proofs.lemmas.List.{length-map}
use Rattle.lf_occupancy.specs.declared.strip_marks.StripMarks.{StripMarks}
use Rattle.lf_occupancy.specs.StripCounting.{IsMore}
use Rattle.lf_occupancy.proofs.Changes.{changed_further, kept_along, kept_set}
use Rattle.lf_occupancy.proofs.Tallying.{room_for_more}
use Rattle.lf_occupancy.proofs.strip_counts.raise_run.Goals as goal

pub loop-n-preserved : goal.loop-n-preserved
loop-n-preserved c =
    let n = c.loop-n.n in
    let mark_lists = c.loop-n.mark_lists.items in
    let counts = c.loop-n.counts.items in
    let bound = c.requires.within in
    let test = c.loop-n-test.true in
    let same = c.loop-n.invariant.kept.many in
    let within : n < length mark_lists = omega (arith, bound, test, same) in
    let many = c.loop-n.invariant.room.many in
    let long = length-map mark_lists (λ (l : StripMarks). vec_capacity l.marks) in
    let inner : n < length counts = omega (arith, within, many, long) in
    record {
      kept = kept_along c.args.mark_lists.now.items mark_lists _ c.loop-n.invariant.kept
          (kept_set mark_lists n c.index_mut.result.now c.count_more.new.mark_list within c.index_mut.ensures.value c.in_ok-count_more.ensures.kept);
      more = changed_further IsMore c.args.near.now.start n c.args.near.now.end c.args.counts.now.items counts c.index_mut-in-loop-n.result.now
          c.count_more.new.count c.loop-n.auto.n test inner c.index_mut-in-loop-n.ensures.value c.in_ok-count_more.ensures.more c.loop-n.invariant.more;
      room = room_for_more counts mark_lists n c.count_more.new.count c.count_more.new.mark_list inner c.in_ok-count_more.ensures.room c.loop-n.invariant.room;
    }
