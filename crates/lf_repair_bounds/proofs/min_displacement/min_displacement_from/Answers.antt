use Rattle.lf_floorplan.specs.LoadedCells.{borrowed_cell}
use Rattle.lf_repair_bounds.proofs.Ways.{least_stays, way_found}
use Rattle.lf_repair_bounds.proofs.min_displacement.min_displacement_from.Goals as goal

pub returns-then-is_legal_alone : goal.returns-then-is_legal_alone
returns-then-is_legal_alone c =
    least_stays c.args.lone.now.frame.now (borrowed_cell c.args.lone.now.cell.now) c.args.loaded_place.now c.requires (c.is_legal_alone.ensures c.if-is_legal_alone.true)

pub returns : goal.returns
returns c =
    rw c.displacement_to.ensures
    (way_found c.args.lone.now.frame.now (borrowed_cell c.args.lone.now.cell.now) c.args.loaded_place.now c.in_ok-found.found c.requires
    (rw c.corner-from.ensures at (c.in_ok-found.ensures {u = tt})))
