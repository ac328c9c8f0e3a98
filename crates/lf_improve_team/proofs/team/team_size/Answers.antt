use Rattle.std.proofs.Common.{arith}
use Rattle.lf_cells.specs.Cells.{cells_of}
use Rattle.lf_cells.proofs.TeamIds.{ids_long}
use Rattle.lf_repair_strategy.proofs.Ids.{ids_are}
use Rattle.lf_improve_team.proofs.team.team_size.Goals as goal

pub overflow_cast-result : goal.overflow_cast-result
overflow_cast-result c =
    let number = c.args.number in
    let table = c.args.placement.now.cells in
    let ids = c.cells_of.result.now in
    let are = ids_are table c.cells.result.now number ids c.cells.ensures c.cells_of.ensures in
    omega (arith, ids_long number (cells_of table number) ids are, c.cells_are_sized.ensures.few number)

pub returns : goal.returns
returns c =
    let number = c.args.number in
    let table = c.args.placement.now.cells in
    let ids = c.cells_of.result.now in
    let are = ids_are table c.cells.result.now number ids c.cells.ensures c.cells_of.ensures in
    omega (arith, ids_long number (cells_of table number) ids are)
