use Rattle.std.proofs.Common.{◌≡◌, List, ℕ, drop, length, map, subst, sym, ap, ◌∙◌}
use Rattle.std.specs.Prelude.{All}
use Rattle.lf_cells.specs.Cells.{cells_of}
use Rattle.lf_legalize.specs.Members.{IsSizedCell}
use Rattle.lf_occupancy.specs.Views.{FitIn}
use Rattle.lf_occupancy.specs.Floorplans.{working_box_of, boxes_in}
use Rattle.lf_occupancy.specs.Strips.{with_boxes}
use Rattle.lf_occupancy.proofs.Building.{boxes_there}
use Rattle.lf_placement.proofs.Marks.{can_be_placed, rooms_through}
use Rattle.lf_undo.specs.declared.moves.Move.{Move}
use Rattle.lf_cells.specs.declared.cell.Cell.{Cell}
use Rattle.lf_placement.specs.Placements.{moves_applied}
use Rattle.lf_placement.specs.Steps.{AreRemoved, BoxesMayBeInserted, AreInsertedExcept, moved_positions, working_boxes}
use Rattle.lf_placement.proofs.Keeping.{each_team}
use Rattle.lf_placement.proofs.Moves.{length_same, same_made}
use Rattle.lf_placement.proofs.Changing.{all_out, may_be_placed, others_made, owns_count, owns_from, sized_made, placed_except}
use Rattle.lf_placement.proofs.apply.apply_moves.Goals as goal

pub invariant_of-after : goal.invariant_of-after
invariant_of-after c = record {
  sized = each_team (λ n cs. All (IsSizedCell c.args.frame.now) cs) c.args.team c.args.cells.now c.apply_in_table.new.cells c.apply_in_table.ensures.others
      (sized_made c.args.frame.now (drop c.args.from c.args.moves.now) (cells_of c.args.cells.now c.args.team)
      (cells_of c.apply_in_table.new.cells c.args.team) c.apply_in_table.ensures.own (c.requires.sized c.args.team))
      c.requires.sized;
}

pub insert_moved-requires : goal.insert_moved-requires
insert_moved-requires c =
    let f = c.args.frame.now in
    let team = c.args.team in
    let old = cells_of c.args.cells.now team in
    let new = cells_of c.apply_in_table.new.cells team in
    let moves = c.moves_from.result.now in
    let given = drop c.args.from c.args.moves.now in
    let is : moves ≡ given = c.moves_from.ensures ∙ ap (λ (ms : List Move). drop c.args.from ms) c.as_slice.ensures in
    let made_of : new ≡ moves_applied moves old = c.apply_in_table.ensures.own ∙ ap (λ (ms : List Move). moves_applied ms old) (sym is) in
    let then_is : drop c.args.from c.apply_in_table.new.moves ≡ c.moves_from-2.result.now =
    sym (c.moves_from-2.ensures ∙ ap (λ (ms : List Move). drop c.args.from ms) c.as_slice-2.ensures) in
    let before = with_boxes c.args.occupancy.now (boxes_in f c.args.cells.now) in
    let after = with_boxes c.remove_moved.new.occupancy c.remove_moved.ensures.out.boxes in
    let may : BoxesMayBeInserted team (working_boxes f c.apply_in_table.new.cells team) after =
    may_be_placed f team (moved_positions moves) _ old new before after (owns_count moves) (boxes_there f c.args.cells.now team)
    (others_made moves old new made_of) c.remove_moved.ensures.out.is
    (ap {B = ℕ} (λ (cs : List Cell). length cs) c.apply_in_table.ensures.own ∙ length_same old (moves_applied given old) (same_made given old))
    (subst (λ (cs : List Cell). FitIn before team (map (working_box_of f) cs)) (sym c.apply_in_table.ensures.own) c.requires.fits) in
    let named : moved_positions moves ≡ moved_positions c.moves_from-2.result.now =
    ap moved_positions is ∙ owns_from c.args.moves.now c.apply_in_table.new.moves c.args.from c.apply_in_table.ensures.owns ∙ ap moved_positions then_is in
    let rest : AreInsertedExcept team (working_boxes f c.apply_in_table.new.cells team) (moved_positions c.moves_from-2.result.now) after =
    subst (λ (ns : List ℕ). AreInsertedExcept team (map (working_box_of f) new) ns after) named
    (placed_except f team (moved_positions moves) _ old new before after (owns_count moves) (boxes_there f c.args.cells.now team)
    (others_made moves old new made_of) c.remove_moved.ensures.out.is) in
    let gone : AreRemoved team (moved_positions c.moves_from-2.result.now) after =
    subst (λ (ns : List ℕ). AreRemoved team ns after) named (all_out team (moved_positions moves) _ before after (owns_count moves) c.remove_moved.ensures.out.is) in
    can_be_placed f c.args.cells.now c.apply_in_table.new.cells team (moved_positions moves) (moved_positions c.moves_from-2.result.now) _ c.args.occupancy.now c.remove_moved.new.occupancy
    c.apply_in_table.ensures.others c.remove_moved.ensures.out may rest gone

pub returns-clause-rooms : goal.returns-clause-rooms
returns-clause-rooms c = rooms_through c.args.occupancy.now c.remove_moved.new.occupancy c.insert_moved.new.occupancy c.remove_moved.ensures.rooms c.insert_moved.ensures.rooms
