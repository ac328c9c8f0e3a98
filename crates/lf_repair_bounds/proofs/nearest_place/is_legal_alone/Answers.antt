use Rattle.lf_floorplan.specs.LoadedCells.{borrowed_cell}
use Rattle.lf_repair_bounds.proofs.Ways.{may_stay}
use Rattle.lf_repair_bounds.proofs.nearest_place.is_legal_alone.Goals as goal

pub returns : goal.returns
returns c = λ yes.
    may_stay c.args.lone.now.frame.now (borrowed_cell c.args.lone.now.cell.now) c.args.loaded_place.now (c.has_no_soft.ensures c.if-not-has_no_soft.false) (c.keeps_rules.ensures yes)
