use Rattle.lf_wire_nets.specs.Binding.{is_frame_macro_named}
use Rattle.lf_wire_nets.specs.BoundRanges.{IsLefMacro}
use Rattle.lf_wire_nets.proofs.FirstLemmas.{one_found}
use Rattle.lf_wire_nets.proofs.RangeLemmas.{lef_macros}
use Rattle.lf_wire_nets.proofs.bound_terms.macro_named.Goals as goal

pub returns-clause-in_range : goal.returns-clause-in_range
returns-clause-in_range c =
    one_found IsLefMacro (is_frame_macro_named c.args.name.now) c.args.frame.now.macros c.find_macro.result c.find_macro.ensures (lef_macros c.args.frame.now)
