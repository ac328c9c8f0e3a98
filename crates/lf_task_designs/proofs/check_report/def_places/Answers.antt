use Rattle.std.proofs.Common.{◌+◌, drop, ap, arith}
use Rattle.lf_reports.proofs.ListedCells.{is_there, cells_from, one_more}
use Rattle.lf_task_designs.specs.Checks.{def_places}
use Rattle.lf_task_designs.proofs.check_report.def_places.Goals as goal

pub unwrap-cell-requires : goal.unwrap-cell-requires
unwrap-cell-requires c = is_there c.args.cells.now c.loop-at.at c.get.result c.get.ensures (omega (arith, c.loop-at-test.true, c.len-at-end.ensures))

pub loop-at-preserved : goal.loop-at-preserved
loop-at-preserved c =
    let cells = c.args.cells.now in
    let here = cells_from cells c.loop-at.at c.get.result c.unwrap-cell.result c.get.ensures c.unwrap-cell.ensures in
    rw (c.in_ok-push.ensures {u = tt}).items
    (one_more c.loop-at.places.items c.unwrap-cell.result.place (def_places (drop (c.loop-at.at + 1) cells)) (def_places cells)
    (def_places (drop c.loop-at.at cells)) (ap def_places here) c.loop-at.invariant)
