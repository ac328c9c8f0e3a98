use Rattle.std.proofs.Common.{Option, length, refl, subst, sym, ◌∙◌}
use Rattle.std.specs.Prelude.{All, IfSome}
use Rattle.std.proofs.lemmas.Result.{IfOk-weaker}
use Rattle.std.proofs.lemmas.List.Elements.{All-weaker}
use Rattle.lf_units.specs.declared.geometry.Rect.{Rect}
use Rattle.lf_cells.specs.declared.cell.CellId.{CellId}
use Rattle.lf_occupancy.specs.Views.{HasRoomFor, KeepsCapacities}
use Rattle.lf_occupancy.specs.Strips.{HaveRoom, MarksBoxes, Marked, OverlapsStrip, widened_strips, with_boxes, capacities_in}
use Rattle.lf_occupancy.proofs.Reaching.{mark_lists_kept, rooms_kept}
use Rattle.lf_occupancy.proofs.Views.{move_is_seen}
use Rattle.lf_occupancy.proofs.occupancy.Occupancy.reserve_for.Goals as goal

pub invariant_of-strips : goal.invariant_of-strips
invariant_of-strips c = record { site_width = c.self.invariant.site }

pub reserve_moves-requires : goal.reserve_moves-requires
reserve_moves-requires c = c.self.invariant.many

pub invariant_of-self : goal.invariant_of-self
invariant_of-self c = record { site = c.self.invariant.site; many = c.reserve_moves.ensures.kept.many ∙ c.self.invariant.many }

pub returns-clause-ok : goal.returns-clause-ok
returns-clause-ok c = λ boxes holds.
    let o = c.self.inside in
    let xs = widened_strips o.site o.index.strips in
    let new = c.reserve_moves.new.mark_lists.items in
    let moves = c.args.moves.now in
    let was = subst (λ (m : Marked). MarksBoxes m boxes) (sym c.self.view_is) holds in
    let kept = mark_lists_kept xs boxes o.mark_lists.items new c.reserve_moves.ensures.kept was in
    let after = with_boxes record { index = o.index; site = o.site; mark_lists = new } boxes in
    let Before : (CellId × Option Rect) → Type 0 = λ m. IfSome m.1 (λ rect. HaveRoom (OverlapsStrip xs m.0.team rect) (length moves) new) in
    let After : (CellId × Option Rect) → Type 0 = λ m. IfSome m.1 (λ rect. HasRoomFor after m.0.team rect (length moves)) in
    IfOk-weaker c.reserve_moves.result (λ u. All Before moves) (λ u. All After moves)
    (λ u h. All-weaker Before After (λ m room. move_is_seen after new m.0.team m.1 (length moves) refl kept room) moves h) c.reserve_moves.ensures.ok

pub returns-clause-holds : goal.returns-clause-holds
returns-clause-holds c = λ boxes holds.
    let o = c.self.inside in
    mark_lists_kept (widened_strips o.site o.index.strips) boxes o.mark_lists.items c.reserve_moves.new.mark_lists.items c.reserve_moves.ensures.kept
    (subst (λ (m : Marked). MarksBoxes m boxes) (sym c.self.view_is) holds)

pub returns-clause-rooms : goal.returns-clause-rooms
returns-clause-rooms c =
    subst (λ (m : Marked). KeepsCapacities (capacities_in m.mark_lists) (capacities_in c.reserve_moves.new.mark_lists.items)) c.self.view_is
    (rooms_kept c.self.inside.mark_lists.items c.reserve_moves.new.mark_lists.items c.reserve_moves.ensures.kept)
