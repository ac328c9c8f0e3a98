use Rattle.std.proofs.Common.{drop, subst, sym}
use Rattle.lf_cells.specs.Cells.{cells_of}
use Rattle.lf_occupancy.specs.Floorplans.{boxes_in}
use Rattle.lf_occupancy.specs.Strips.{with_boxes}
use Rattle.lf_placement.proofs.Marks.{follows_still}
use Rattle.lf_placement.specs.Placements.{Fits, Placing, SameButPlaces, moves_applied, placing_of, working_places_of}
use Rattle.lf_placement.proofs.Moves.{same_made}
use Rattle.lf_placement.proofs.Keeping.{fits_made, placing_moved}
use Rattle.lf_placement.proofs.placement.Placement.apply.Goals as goal

pub apply_moves-requires-clause-fits : goal.apply_moves-requires-clause-fits
apply_moves-requires-clause-fits c =
    let moves = drop c.args.from c.args.moves.now in
    fits_made (placing_of c.self.inside.frame c.self.inside.cells c.self.inside.occupancy) c.args.team moves
    (subst (λ (p : Placing). Fits p c.args.team (working_places_of (moves_applied moves (cells_of p.cells c.args.team)))) (sym c.self.view_is) c.requires)

pub invariant_of-self : goal.invariant_of-self
invariant_of-self c =
    let team = c.args.team in
    let old = cells_of c.self.inside.cells team in
    let moves = drop c.args.from c.args.moves.now in
    let same : SameButPlaces old (cells_of c.apply_moves.new.cells team) = rw c.apply_moves.ensures.own (same_made moves old) in
    let f = c.self.inside.frame in
    let cells = c.apply_moves.new.cells in
    let m = c.apply_moves.new.occupancy in
    let rooms = c.apply_moves.ensures.rooms in
    record {
      holds = c.apply_moves.ensures.holds;
      placing = placing_moved (placing_of f c.self.inside.cells c.self.inside.occupancy) team cells (with_boxes m (boxes_in f cells)) c.self.invariant.placing
          c.apply_moves.ensures.others same (follows_still f c.self.inside.cells cells c.self.inside.occupancy m c.self.invariant.placing.follows rooms)
          rooms.index rooms.site rooms.rooms;
    }

pub apply_moves-requires-clause-sized : goal.apply_moves-requires-clause-sized
apply_moves-requires-clause-sized c = c.self.invariant.placing.sized

pub apply_moves-requires-clause-holds : goal.apply_moves-requires-clause-holds
apply_moves-requires-clause-holds c = c.self.invariant.holds
