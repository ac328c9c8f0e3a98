use Rattle.std.proofs.Common.{arith}
use Rattle.lf_reports.specs.Reports.{listed_at}
use Rattle.lf_reports.proofs.ListedCells.{is_there, cells_from, one_listed}
use Rattle.lf_reports.proofs.verdicts.listed_cells.Goals as goal

pub unwrap-cell-requires : goal.unwrap-cell-requires
unwrap-cell-requires c = is_there c.args.cells.now c.loop-own.own c.get.result c.get.ensures (omega (arith, c.loop-own-test.true, c.len-own-end.ensures))

pub loop-own-preserved : goal.loop-own-preserved
loop-own-preserved c =
    let cells = c.args.cells.now in
    let here = cells_from cells c.loop-own.own c.get.result c.unwrap-cell.result c.get.ensures c.unwrap-cell.ensures in
    rw (c.in_ok-push.ensures {u = tt}).items
    (one_listed cells c.args.places.now c.loop-own.own c.unwrap-cell.result c.index-places-own.result c.loop-own.listed.items
    (listed_at cells c.args.places.now) here (omega (arith, c.loop-own-test.true, c.len-own-end.ensures, c.requires)) c.index-places-own.is c.loop-own.invariant)
