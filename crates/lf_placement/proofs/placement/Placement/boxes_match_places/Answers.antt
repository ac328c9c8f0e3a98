use Rattle.std.proofs.Common.{ℕ, subst}
use Rattle.lf_cells.specs.Cells.{cells_of}
use Rattle.lf_occupancy.specs.Floorplans.{boxes_in}
use Rattle.lf_placement.specs.Placements.{Fits, Placing, placing_of, working_places_of}
use Rattle.lf_placement.proofs.Keeping.{places_fit}
use Rattle.lf_placement.proofs.placement.Placement.boxes_match_places.Goals as goal

pub returns : goal.returns
returns c =
    subst (λ (p : Placing). (team : ℕ) → Fits p team (working_places_of (cells_of p.cells team))) c.self.view_is
    (places_fit (placing_of c.self.inside.frame c.self.inside.cells c.self.inside.occupancy) c.self.invariant.placing.follows
    (c.boxes_fit.ensures (boxes_in c.self.inside.frame c.self.inside.cells) c.self.invariant.holds))
