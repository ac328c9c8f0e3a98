use Rattle.lf_wire_nets.proofs.bound_terms.fixed_point.Goals as goal

pub returns-clause-in_range : goal.returns-clause-in_range
returns-clause-in_range c = c.point_of_cell_pin.ensures.of_macro c.requires.offset
