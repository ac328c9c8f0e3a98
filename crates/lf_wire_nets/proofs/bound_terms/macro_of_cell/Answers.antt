use Rattle.std.proofs.Common.{◌∙◌}
use Rattle.lf_wire_nets.proofs.CellLemmas.{is_there}
use Rattle.lf_wire_nets.proofs.RangeLemmas.{cell_there, lef_macro, macro_known, macro_there}
use Rattle.lf_wire_nets.proofs.bound_terms.macro_of_cell.Goals as goal

pub unwrap-cell-requires : goal.unwrap-cell-requires
unwrap-cell-requires c = is_there c.args.loaded.now.cells c.args.number c.get.result c.get.ensures c.requires

pub mac_at-requires : goal.mac_at-requires
mac_at-requires c =
    let loaded = c.args.loaded.now in
    let cell = c.unwrap-cell.result in
    macro_known loaded c.args.number cell (cell_there loaded c.args.number c.get.result cell c.get.ensures c.unwrap-cell.ensures) c.requires

pub returns-clause-is : goal.returns-clause-is
returns-clause-is c =
    let loaded = c.args.loaded.now in
    let cell = c.unwrap-cell.result in
    c.mac_at.ensures ∙ macro_there loaded c.args.number cell (cell_there loaded c.args.number c.get.result cell c.get.ensures c.unwrap-cell.ensures)

pub returns-clause-in_range : goal.returns-clause-in_range
returns-clause-in_range c =
    let loaded = c.args.loaded.now in
    let cell = c.unwrap-cell.result in
    let there = cell_there loaded c.args.number c.get.result cell c.get.ensures c.unwrap-cell.ensures in
    rw c.mac_at.ensures (lef_macro loaded.frame cell.mac (macro_known loaded c.args.number cell there c.requires))
