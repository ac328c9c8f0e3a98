use Rattle.std.proofs.Common.{refl, subst, sym}
use Rattle.lf_cells.specs.Cells.{cells_of}
use Rattle.lf_occupancy.specs.Floorplans.{boxes_in}
use Rattle.lf_occupancy.specs.Views.{KeepsCapacities}
use Rattle.lf_placement.specs.Placements.{BoundsAt, Placing, SameButRooms, boxes_at, placing_of}
use Rattle.lf_placement.proofs.Keeping.{placing_grown}
use Rattle.lf_placement.proofs.placement.Placement.reserve_change.Goals as goal

pub invariant_of-sized : goal.invariant_of-sized
invariant_of-sized c = record { sized = c.self.invariant.placing.sized }

pub reserve_change-requires : goal.reserve_change-requires
reserve_change-requires c = subst (λ (p : Placing). KeepsCapacities c.args.counts.now p.held.rooms) (sym c.self.view_is) c.requires

pub invariant_of-self : goal.invariant_of-self
invariant_of-self c =
    let f = c.self.inside.frame in
    let cells = c.self.inside.cells in
    let gains = c.reserve_change.ensures.gains in
    record {
      holds = gains.holds (boxes_in f cells) c.self.invariant.holds;
      placing = placing_grown f cells c.self.inside.occupancy c.reserve_change.new.occupancy c.self.invariant.placing gains.index gains.site gains.rooms;
    }

pub returns-clause-own : goal.returns-clause-own
returns-clause-own c = λ places is bounds.
    c.reserve_change.ensures.own places is (subst (λ (p : Placing). BoundsAt p c.args.team places c.args.counts.now) (sym c.self.view_is) bounds)

pub returns-clause-others : goal.returns-clause-others
returns-clause-others c = λ places other differ bounds.
    c.reserve_change.ensures.others (boxes_at c.self.inside.frame (cells_of c.self.inside.cells other) places) other differ
    (subst (λ (p : Placing). BoundsAt p other places c.args.counts.now) (sym c.self.view_is) bounds)

pub returns-clause-same : goal.returns-clause-same
returns-clause-same c =
    let gains = c.reserve_change.ensures.gains in
    subst (λ (p : Placing). SameButRooms p (placing_of c.self.inside.frame c.self.inside.cells c.reserve_change.new.occupancy)) c.self.view_is
    record { frame = refl; cells = refl; index = gains.index; site = gains.site; boxes = refl; rooms = gains.rooms }
