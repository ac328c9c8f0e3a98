use Rattle.std.proofs.Common.{sym}
use Rattle.std.proofs.lemmas.Result.{IfOk-weaker}
use Rattle.lf_cells.specs.Cells.{cells_of}
use Rattle.lf_floor_verbs.specs.Tables.{context_at}
use Rattle.lf_floor_verbs.proofs.Seeking.{sought}
use Rattle.lf_floor_verbs.proofs.cell_queries.best_place.Goals as goal

pub returns-clause-best : goal.returns-clause-best
returns-clause-best g c = λ l. IfOk-weaker c.best_place.result _ _
    (λ found is. sym (sought (context_at l c.args.context.now c.args.placement.now) (cells_of c.args.placement.now.cells c.args.context.now.number) c.args.id.own
    c.args.target.now found (rw (← c.requires.team) is))) (c.best_place.ensures l)
