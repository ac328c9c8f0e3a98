use Rattle.std.proofs.Common.{refl, arith}
use Rattle.lf_floorplan.specs.LoadedCells.{borrowed_cell}
use Rattle.lf_wire_nets.specs.Names.{is_cell_named}
use Rattle.lf_wire_nets.proofs.CellLemmas.{is_there, cells_from}
use Rattle.lf_wire_nets.proofs.FirstLemmas.{all_so_far, none_so_far, one_so_far}
use Rattle.lf_wire_nets.proofs.names.cell_names.Goals as goal

pub loop-at-init : goal.loop-at-init
loop-at-init c = none_so_far is_cell_named c.args.cells.now c.new-names.result c.new-names.ensures.whole c.new-names.ensures.nothing

pub unwrap-cell-requires : goal.unwrap-cell-requires
unwrap-cell-requires c = is_there c.args.cells.now c.loop-at.at c.get.result c.get.ensures (omega (arith, c.loop-at-test.true, c.len-at-end.ensures))

pub add-requires : goal.add-requires
add-requires c = c.loop-at.invariant.whole

pub loop-at-preserved : goal.loop-at-preserved
loop-at-preserved c =
    let cells = c.args.cells.now in
    let cell = c.unwrap-cell.result in
    one_so_far is_cell_named cells c.loop-at.at (borrowed_cell cell) cell.name.now c.loop-at.names c.add.new.self
    (cells_from cells c.loop-at.at c.get.result cell c.get.ensures c.unwrap-cell.ensures) (λ name. refl) c.loop-at.invariant (c.in_ok-add.ensures {u = tt})

pub returns : goal.returns
returns c = all_so_far is_cell_named c.args.cells.now c.loop-at.at c.loop-at.names (omega (arith, c.loop-at-test.false, c.len-at-end.ensures)) c.loop-at.invariant
