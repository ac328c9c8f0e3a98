use Rattle.lf_cells.specs.Cells.{cells_of}
use Rattle.lf_floor_verbs.specs.Tables.{table_cells}
use Rattle.lf_floor_verbs.proofs.Fitting.{kept_fit, only_made}
use Rattle.lf_floor_verbs.proofs.Moves.{none_yet}
use Rattle.lf_floor_verbs.proofs.tables.Tables.change_places.Goals as goal

pub returns-clause-fit : goal.returns-clause-fit
returns-clause-fit c = λ fit.
    let k = c.args.number in
    let old = c.args.self.now in
    let before = table_cells k old in
    kept_fit k c.args.session (cells_of c.apply.new.self.cells k) old c.push_undo.new.self
    (rw c.push_undo.ensures.placement (only_made k c.args.moves old.placement c.apply.new.self c.apply.ensures.own c.apply.ensures.others c.apply.ensures.rest))
    (c.boxes_match_places.ensures k) (c.push_undo.ensures.team before (c.apply.ensures.moved before (none_yet before))) fit
