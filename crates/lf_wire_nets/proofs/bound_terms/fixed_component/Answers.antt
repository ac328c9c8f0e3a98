use Rattle.std.proofs.Common.{◌∙◌}
use Rattle.lf_def.specs.Ranges.{IsComponent}
use Rattle.lf_wire_nets.specs.Names.{is_fixed_named}
use Rattle.lf_wire_nets.proofs.FirstLemmas.{first_entry, one_found}
use Rattle.lf_wire_nets.proofs.bound_terms.fixed_component.Goals as goal

pub returns-clause-is : goal.returns-clause-is
returns-clause-is c = c.entry_named.ensures ∙ first_entry is_fixed_named c.args.components.now c.args.names.now c.args.name.now c.requires.names

pub returns-clause-in_range : goal.returns-clause-in_range
returns-clause-in_range c =
    one_found IsComponent (is_fixed_named c.args.name.now) c.args.components.now c.entry_named.result
    (c.entry_named.ensures ∙ first_entry is_fixed_named c.args.components.now c.args.names.now c.args.name.now c.requires.names) c.requires.range
