use Rattle.std.proofs.Common.{ℕ, ◌∙◌, List, arith, get_or, subst}
use Rattle.std.proofs.lemmas.List.{get_or_default, take_all}
use Rattle.lf_units.proofs.Anys.{any_nil}
use Rattle.lf_segments.specs.declared.rows_by_y.RowEntry.{RowEntry}
use Rattle.lf_occupancy.specs.declared.strip_marks.StripMarks.{StripMarks}
use Rattle.lf_occupancy.specs.MarkLists.{HasRoomOf}
use Rattle.lf_occupancy.specs.Strips.{IsReached}
use Rattle.lf_occupancy.proofs.Changes.{kept_same, kept_along, rooms_further}
use Rattle.lf_occupancy.specs.Widened.{all_widened}
use Rattle.lf_occupancy.proofs.marking.make_room_in_rows.Goals as goal

pub loop-entry-init : goal.loop-entry-init
loop-entry-init c = record { kept = kept_same c.args.mark_lists.now.items; room = λ n e r. absurd (any_nil _ r.1) }

pub loop-entry-preserved : goal.loop-entry-preserved
loop-entry-preserved c =
    let kept = c.in_ok-make_room_in_row.ensures.kept in
    record {
      kept = kept_along c.args.mark_lists.now.items c.loop-entry.mark_lists.items c.make_room_in_row.new.mark_lists.items c.loop-entry.invariant.kept kept;
      room = rooms_further c.args.more (all_widened c.args.strips.now) c.args.rows.now c.loop-entry.entry-index _ c.args.id.now.team c.args.rect.now
          c.loop-entry.mark_lists.items c.make_room_in_row.new.mark_lists.items (omega arith)
          (get_or_default c.args.rows.now c.loop-entry.entry-index _ _ (omega arith)) (c.loop-entry.invariant.kept.many ∙ c.requires) kept
          c.loop-entry.invariant.room c.in_ok-make_room_in_row.ensures.ok;
    }

pub returns : goal.returns
returns c = record {
  kept = c.loop-entry.invariant.kept;
  ok = subst
      (λ (es : List RowEntry).
      (n : ℕ) (e : StripMarks) → IsReached (all_widened c.args.strips.now) es c.args.id.now.team c.args.rect.now n →
      HasRoomOf c.args.more (get_or c.loop-entry.mark_lists.items n e))
      (take_all c.loop-entry.entry-index c.args.rows.now (omega arith)) c.loop-entry.invariant.room;
}
