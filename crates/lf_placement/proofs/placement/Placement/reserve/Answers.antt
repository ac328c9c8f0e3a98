use Rattle.std.proofs.Common.{map, subst}
use Rattle.std.proofs.lemmas.Result.{on_ok_weaker}
use Rattle.lf_cells.specs.Cells.{cells_of}
use Rattle.lf_occupancy.specs.Views.{FitIn}
use Rattle.lf_occupancy.specs.Floorplans.{working_box_of}
use Rattle.lf_placement.specs.Placements.{Placing, boxes_at, moves_applied, placing_of, working_places_of}
use Rattle.lf_placement.proofs.Keeping.{made_fits, placing_grown}
use Rattle.lf_placement.proofs.placement.Placement.reserve.Goals as goal

pub returns-clause-ok : goal.returns-clause-ok
returns-clause-ok c =
    let f = c.self.inside.frame in
    let old = cells_of c.self.inside.cells c.args.team in
    let moves = c.args.moves.now in
    let p = placing_of f c.self.inside.cells c.reserve_moves.new.occupancy in
    on_ok_weaker c.reserve_moves.result
    (λ (fits : FitIn p.held c.args.team (map (working_box_of f) (moves_applied moves old))).
    subst (λ (q : Placing). FitIn p.held c.args.team (boxes_at f old (working_places_of (moves_applied moves (cells_of q.cells c.args.team)))))
    c.self.view_is
    (made_fits p c.args.team moves fits)) c.reserve_moves.ensures.ok

pub invariant_of-sized : goal.invariant_of-sized
invariant_of-sized c = record { sized = c.self.invariant.placing.sized }

pub reserve_moves-requires : goal.reserve_moves-requires
reserve_moves-requires c = c.self.invariant.holds

pub invariant_of-self : goal.invariant_of-self
invariant_of-self c = record {
  holds = c.reserve_moves.ensures.holds;
  placing = placing_grown c.self.inside.frame c.self.inside.cells c.self.inside.occupancy c.reserve_moves.new.occupancy c.self.invariant.placing
      c.reserve_moves.ensures.index c.reserve_moves.ensures.site c.reserve_moves.ensures.rooms;
}
