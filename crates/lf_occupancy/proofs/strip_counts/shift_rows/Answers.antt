use Rattle.std.proofs.Common.{List, arith, length, subst, ◌≡◌}
use Rattle.std.specs.Vec.{vec_capacity}
use Rattle.std.proofs.lemmas.List.{get_or_default, length-map, take_all}
use Rattle.lf_units.specs.declared.geometry.Rect.{Rect}
use Rattle.lf_segments.specs.declared.rows_by_y.RowEntry.{RowEntry}
use Rattle.lf_segments.specs.Strips.{AreRowsNear}
use Rattle.lf_occupancy.specs.declared.strip_marks.StripMarks.{StripMarks}
use Rattle.lf_occupancy.specs.Strips.{AreChanged, IsReached}
use Rattle.lf_occupancy.specs.StripCounting.{IsShiftedAt}
use Rattle.lf_occupancy.proofs.Around.{around, strips_widened}
use Rattle.lf_occupancy.proofs.Changes.{kept_along, rows_further}
use Rattle.lf_occupancy.proofs.Settling.{changed_in_row}
use Rattle.lf_occupancy.proofs.Tallying.{shifted_of_reached}
use Rattle.lf_occupancy.specs.Widened.{all_widened}
use Rattle.lf_occupancy.proofs.strip_counts.shift_rows.Goals as goal

pub loop-entry-preserved : goal.loop-entry-preserved
loop-entry-preserved c =
    let xs = all_widened c.args.strips.now in
    let team = c.args.team in
    let hull = c.hull_of-hull.result in
    let rows = c.distinct_rows-rows.result.rows.now in
    let i = c.loop-entry.entry-index in
    let Change = IsShiftedAt xs c.args.shift.now in
    record {
      kept = kept_along c.args.mark_lists.now.items c.loop-entry.mark_lists.items c.shift_run.new.mark_lists.items c.loop-entry.invariant.kept c.in_ok-shift_run.ensures.kept;
      shifted = rows_further Change xs rows i _ team hull c.args.counts.now.items c.loop-entry.counts.items c.shift_run.new.counts.items
          c.distinct_rows-rows.result.once (omega arith)
          (get_or_default rows i _ _ (omega arith)) c.loop-entry.invariant.shifted
          (changed_in_row xs _ team hull c.widened_strips-near.result Change c.loop-entry.counts.items c.shift_run.new.counts.items
          c.widened_strips-near.ensures c.in_ok-shift_run.ensures.shifted);
      room = c.in_ok-shift_run.ensures.room;
    }

pub returns-clause-shifted : goal.returns-clause-shifted
returns-clause-shifted c =
    let xs = all_widened c.args.strips.now in
    let shift = c.args.shift.now in
    let rows = c.distinct_rows-rows.result.rows.now in
    let many = c.requires.many in
    let same = c.requires.room.many in
    let long = length-map c.args.mark_lists.now.items (λ (l : StripMarks). vec_capacity l.marks) in
    let each : length c.args.counts.now.items ≡ length xs = omega (arith, many, same, long) in
    let near = subst (λ (r : Rect). AreRowsNear c.args.strips.now.index.now.rows c.args.strips.now.index.now.height r rows) c.hull_of-hull.ensures c.distinct_rows-rows.ensures in
    let all = subst (λ (es : List RowEntry). AreChanged (IsReached xs es c.args.team c.hull_of-hull.result) (IsShiftedAt xs shift) c.args.counts.now.items
    c.loop-entry.counts.items) (take_all c.loop-entry.entry-index rows (omega arith)) c.loop-entry.invariant.shifted in
    shifted_of_reached (around c.args.strips.now.site.now c.args.strips.now.index.now) rows c.args.team shift c.args.counts.now.items c.loop-entry.counts.items
    (strips_widened c.args.strips.now.site.now c.args.strips.now.index.now c.args.strips.now.site_width c.strips_are_placed.ensures) near each
    (subst (λ (r : Rect). AreChanged (IsReached xs rows c.args.team r) (IsShiftedAt xs shift) c.args.counts.now.items c.loop-entry.counts.items)
    c.hull_of-hull.ensures all)
