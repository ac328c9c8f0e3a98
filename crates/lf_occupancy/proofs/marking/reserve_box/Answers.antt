use Rattle.std.proofs.Common.{Option, sym, subst}
use Rattle.std.specs.Prelude.{IfSome}
use Rattle.lf_units.specs.declared.geometry.Rect.{Rect}
use Rattle.lf_occupancy.specs.Strips.{HaveRoom, OverlapsStrip}
use Rattle.lf_occupancy.proofs.Around.{around, strips_widened}
use Rattle.lf_occupancy.proofs.Reaching.{room_of_overlapped}
use Rattle.lf_occupancy.specs.Widened.{all_widened}
use Rattle.lf_occupancy.proofs.marking.reserve_box.Goals as goal

pub returns-in_ok-make_room_in_rows-clause-ok : goal.returns-in_ok-make_room_in_rows-clause-ok
returns-in_ok-make_room_in_rows-clause-ok c =
    let xs = all_widened c.args.strips.now in
    let team = c.args.id.now.team in
    let new = c.make_room_in_rows.new.mark_lists.items in
    subst (λ (to : Option Rect). IfSome to (λ rect. HaveRoom (OverlapsStrip xs team rect) c.args.more new)) (sym c.in-Some.is)
    (room_of_overlapped (around c.args.strips.now.site.now c.args.strips.now.index.now) team c.in-Some.rect c.rows_near.result.now c.args.more new (strips_widened c.args.strips.now.site.now c.args.strips.now.index.now c.args.strips.now.site_width c.strips_are_placed.ensures) c.rows_near.ensures
    c.in_ok-make_room_in_rows.ensures.ok)
