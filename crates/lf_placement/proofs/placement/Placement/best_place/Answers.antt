use Rattle.std.proofs.Common.{◌≡◌, subst, sym}
use Rattle.std.specs.Prelude.{IfOk, option_map}
use Rattle.lf_rules.specs.Choice.{spot_of}
use Rattle.lf_rules.specs.Legalizer.{Legalizer}
use Rattle.lf_cells.specs.Cells.{cells_of}
use Rattle.lf_legalize.specs.Members.{best_of}
use Rattle.lf_occupancy.specs.Floorplans.{IsOccupancyOf}
use Rattle.lf_occupancy.specs.Views.{Occupied}
use Rattle.lf_placement.specs.Placements.{Placing}
use Rattle.lf_placement.proofs.placement.Placement.best_place.Goals as goal

pub with_boxes-requires-clause-sized : goal.with_boxes-requires-clause-sized
with_boxes-requires-clause-sized g c = c.self.invariant.placing.sized

pub with_boxes-requires-clause-holds : goal.with_boxes-requires-clause-holds
with_boxes-requires-clause-holds g c = c.self.invariant.holds

pub seek-requires-clause-held : goal.seek-requires-clause-held
seek-requires-clause-held g c =
    subst (λ (o : Occupied). IsOccupancyOf c.self.inside.frame c.self.inside.cells o) (sym c.with_boxes.ensures) c.self.invariant.placing.follows

pub seek-requires-clause-sized : goal.seek-requires-clause-sized
seek-requires-clause-sized g c = c.self.invariant.placing.sized c.args.id.team

pub seek-requires-clause-few : goal.seek-requires-clause-few
seek-requires-clause-few g c = c.self.invariant.placing.few c.args.id.team

pub returns : goal.returns
returns g c =
    subst
    (λ (p : Placing).
    (l : Legalizer) → IfOk c.seek.result (λ found. option_map spot_of found
    ≡ best_of l p.frame c.args.id.team c.args.padding.sites (cells_of p.cells c.args.id.team) c.args.id.own c.args.target.now))
    c.self.view_is c.seek.ensures.best
