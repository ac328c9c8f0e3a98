use Rattle.std.proofs.Common.{◌∙◌}
use Rattle.lf_wire_nets.specs.Names.{is_cell_named}
use Rattle.lf_wire_nets.proofs.FirstLemmas.{first_is, first_within}
use Rattle.lf_wire_nets.proofs.bound_terms.cell_number.Goals as goal

pub returns-clause-is : goal.returns-clause-is
returns-clause-is c = c.find.ensures ∙ first_is is_cell_named c.args.texts.now.loaded.now.cells c.args.tables.now.cells c.args.name.now c.requires.cells

pub returns-clause-within : goal.returns-clause-within
returns-clause-within c = rw c.find.ensures (first_within is_cell_named c.args.texts.now.loaded.now.cells c.args.tables.now.cells c.args.name.now c.requires.cells)
