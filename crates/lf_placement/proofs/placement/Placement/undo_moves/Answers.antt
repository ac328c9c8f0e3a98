use Rattle.std.proofs.Common.{subst, sym, ◌∙◌}
use Rattle.lf_cells.specs.Cells.{cells_of}
use Rattle.lf_undo.specs.Entries.{moves_taken_back}
use Rattle.lf_occupancy.specs.Floorplans.{boxes_in}
use Rattle.lf_occupancy.specs.Strips.{with_boxes}
use Rattle.lf_placement.proofs.Marks.{follows_still}
use Rattle.lf_placement.specs.Placements.{Fits, HaveMoved, Placing, SameButPlaces, placing_of, working_places_of}
use Rattle.lf_placement.proofs.Moves.{have_back, same_back}
use Rattle.lf_placement.proofs.Keeping.{fits_back, placing_moved}
use Rattle.lf_placement.proofs.placement.Placement.undo_moves.Goals as goal

pub revert_moves-requires-clause-fits : goal.revert_moves-requires-clause-fits
revert_moves-requires-clause-fits c =
    let moves = c.args.moves.now in
    fits_back (placing_of c.self.inside.frame c.self.inside.cells c.self.inside.occupancy) c.args.team moves
    (subst (λ (p : Placing). Fits p c.args.team (moves_taken_back moves (working_places_of (cells_of p.cells c.args.team)))) (sym c.self.view_is) c.requires)

pub invariant_of-self : goal.invariant_of-self
invariant_of-self c =
    let team = c.args.team in
    let old = cells_of c.self.inside.cells team in
    let same : SameButPlaces old (cells_of c.revert_moves.new.cells team) = rw c.revert_moves.ensures.own (same_back c.args.moves.now old) in
    let f = c.self.inside.frame in
    let cells = c.revert_moves.new.cells in
    let m = c.revert_moves.new.occupancy in
    let rooms = c.revert_moves.ensures.rooms in
    record {
      holds = c.revert_moves.ensures.holds;
      placing = placing_moved (placing_of f c.self.inside.cells c.self.inside.occupancy) team cells (with_boxes m (boxes_in f cells)) c.self.invariant.placing
          c.revert_moves.ensures.others same (follows_still f c.self.inside.cells cells c.self.inside.occupancy m c.self.invariant.placing.follows rooms)
          rooms.index rooms.site rooms.rooms;
    }

pub returns-clause-own : goal.returns-clause-own
returns-clause-own c = λ before have.
    c.revert_moves.ensures.own
    ∙ have_back before (cells_of c.self.inside.cells c.args.team) c.args.moves.now
    (subst (λ (p : Placing). HaveMoved before c.args.moves.now (cells_of p.cells c.args.team)) (sym c.self.view_is) have)

pub revert_moves-requires-clause-sized : goal.revert_moves-requires-clause-sized
revert_moves-requires-clause-sized c = c.self.invariant.placing.sized

pub revert_moves-requires-clause-holds : goal.revert_moves-requires-clause-holds
revert_moves-requires-clause-holds c = c.self.invariant.holds
