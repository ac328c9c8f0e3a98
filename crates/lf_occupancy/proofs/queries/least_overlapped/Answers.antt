use Rattle.std.proofs.Common.{List, arith, subst, None}
use Rattle.std.specs.Prelude.{Any}
use Rattle.std.proofs.lemmas.List.{get_or_default, take_all}
use Rattle.lf_units.proofs.Anys.{any_nil}
use Rattle.lf_segments.specs.declared.rows_by_y.RowEntry.{RowEntry}
use Rattle.lf_occupancy.specs.MarkLists.{IsLeast}
use Rattle.lf_occupancy.specs.Strips.{OverlapsInRow, strip_views}
use Rattle.lf_occupancy.proofs.Around.{around, strips_widened}
use Rattle.lf_occupancy.proofs.Leasts.{least_alike, least_of_none, least_more}
use Rattle.lf_occupancy.proofs.Finds.{row_is_near, near_row_is_one}
use Rattle.lf_occupancy.proofs.Reaching.{mark_lists_orderly}
use Rattle.lf_occupancy.proofs.Showing.{mark_lists_shown}
use Rattle.lf_occupancy.specs.Widened.{all_widened}
use Rattle.lf_occupancy.proofs.queries.least_overlapped.Goals as goal

pub loop-entry-init : goal.loop-entry-init
loop-entry-init c = least_of_none _ None (λ own m. any_nil _ m)

pub loop-entry-preserved : goal.loop-entry-preserved
loop-entry-preserved c =
    least_more (λ own e. OverlapsInRow (all_widened c.args.marked.now.strips.now)
    (strip_views (all_widened c.args.marked.now.strips.now) c.args.marked.now.boxes.now c.args.marked.now.mark_lists.now) e.row c.args.id.now.team c.args.rect.now c.args.id.now.own own)
    c.rows_near-entry-items.result.now c.loop-entry.entry-index _ None c.loop-entry.least c.least_in_row-least.result (omega arith)
    (get_or_default c.rows_near-entry-items.result.now c.loop-entry.entry-index _ _ (omega arith)) c.loop-entry.invariant c.least_in_row-least.ensures

pub returns : goal.returns
returns c =
    let s = around c.args.marked.now.strips.now.site.now c.args.marked.now.strips.now.index.now in
    let mark_lists = strip_views s.strips c.args.marked.now.boxes.now c.args.marked.now.mark_lists.now in
    let orderly = mark_lists_orderly s.strips c.args.marked.now.boxes.now mark_lists (mark_lists_shown s.strips c.args.marked.now.boxes.now c.args.marked.now.mark_lists.now c.requires) in
    let team = c.args.id.now.team in
    let rect = c.args.rect.now in
    let but = c.args.id.now.own in
    let run = c.rows_near-entry-items.result.now in
    let all : IsLeast (λ own. Any (λ e. OverlapsInRow s.strips mark_lists e.row team rect but own) run) None c.loop-entry.least =
    subst (λ (es : List RowEntry). IsLeast (λ own. Any (λ e. OverlapsInRow s.strips mark_lists e.row team rect but own) es) None c.loop-entry.least)
    (take_all c.loop-entry.entry-index run (omega arith)) c.loop-entry.invariant in
    least_alike _ _ None c.loop-entry.least (λ own m. near_row_is_one s.strips mark_lists team rect but own run m)
    (λ own m. row_is_near s mark_lists team rect but own m.0 run (strips_widened c.args.marked.now.strips.now.site.now c.args.marked.now.strips.now.index.now c.args.marked.now.strips.now.site_width c.strips_are_placed.ensures) orderly c.rows_near-entry-items.ensures m.1) all
