use Rattle.std.proofs.Common.{List, arith, length, subst, ◌≡◌}
use Rattle.std.specs.Vec.{vec_capacity}
use Rattle.std.proofs.lemmas.List.{get_or_default, length-map, take_all}
use Rattle.lf_segments.specs.declared.rows_by_y.RowEntry.{RowEntry}
use Rattle.lf_occupancy.specs.declared.strip_marks.StripMarks.{StripMarks}
use Rattle.lf_occupancy.specs.Strips.{AreChanged, IsReached}
use Rattle.lf_occupancy.specs.StripCounting.{IsMore}
use Rattle.lf_occupancy.proofs.Around.{around, strips_widened}
use Rattle.lf_occupancy.proofs.Changes.{kept_along, rows_further}
use Rattle.lf_occupancy.proofs.Settling.{changed_in_row}
use Rattle.lf_occupancy.proofs.Tallying.{higher_of_reached}
use Rattle.lf_occupancy.specs.Widened.{all_widened}
use Rattle.lf_occupancy.proofs.strip_counts.raise_rows.Goals as goal

pub loop-entry-preserved : goal.loop-entry-preserved
loop-entry-preserved c =
    let xs = all_widened c.args.strips.now in
    let team = c.args.team in
    let rect = c.args.rect.now in
    let rows = c.distinct_rows-rows.result.rows.now in
    let i = c.loop-entry.entry-index in
    record {
      kept = kept_along c.args.mark_lists.now.items c.loop-entry.mark_lists.items c.raise_run.new.mark_lists.items c.loop-entry.invariant.kept c.in_ok-raise_run.ensures.kept;
      more = rows_further IsMore xs rows i _ team rect c.args.counts.now.items c.loop-entry.counts.items c.raise_run.new.counts.items
          c.distinct_rows-rows.result.once (omega arith)
          (get_or_default rows i _ _ (omega arith)) c.loop-entry.invariant.more
          (changed_in_row xs _ team rect c.widened_strips-near.result IsMore c.loop-entry.counts.items c.raise_run.new.counts.items
          c.widened_strips-near.ensures c.in_ok-raise_run.ensures.more);
      room = c.in_ok-raise_run.ensures.room;
    }

pub returns-clause-more : goal.returns-clause-more
returns-clause-more c =
    let xs = all_widened c.args.strips.now in
    let rows = c.distinct_rows-rows.result.rows.now in
    let many = c.requires.many in
    let same = c.requires.room.many in
    let long = length-map c.args.mark_lists.now.items (λ (l : StripMarks). vec_capacity l.marks) in
    let each : length c.args.counts.now.items ≡ length xs = omega (arith, many, same, long) in
    higher_of_reached (around c.args.strips.now.site.now c.args.strips.now.index.now) rows c.args.team c.args.rect.now c.args.counts.now.items c.loop-entry.counts.items
    (strips_widened c.args.strips.now.site.now c.args.strips.now.index.now c.args.strips.now.site_width c.strips_are_placed.ensures) c.distinct_rows-rows.ensures each
    (subst
    (λ (es : List RowEntry). AreChanged (IsReached xs es c.args.team c.args.rect.now) IsMore c.args.counts.now.items c.loop-entry.counts.items)
    (take_all c.loop-entry.entry-index rows (omega arith)) c.loop-entry.invariant.more)
