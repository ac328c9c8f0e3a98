use Rattle.lf_cells.specs.Cells.{cells_of}
use Rattle.lf_placement.specs.Placements.{boxes_at}
use Rattle.lf_placement.proofs.Tallying.{both_ok, bounds_fit}
use Rattle.lf_placement.proofs.placement.Placement.reserve_undo.Goals as goal

pub returns-clause-fits : goal.returns-clause-fits
returns-clause-fits c =
    let p = c.fit_moves_back.new.placement in
    let team = c.args.team in
    let places = c.fit_moves_back.new.places in
    both_ok c.fit_moves_back.result
    (λ room bounds. bounds_fit p.held team (boxes_at p.frame (cells_of p.cells team) places) c.fit_moves_back.new.counts room bounds)
    c.fit_moves_back.ensures.room c.fit_moves_back.ensures.bounds
