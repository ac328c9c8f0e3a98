use Rattle.std.proofs.Common.{[], ap₂, ◌∙◌, arith}
use Rattle.std.specs.List.{flat_map}
use Rattle.std.proofs.lemmas.List.{length_push}
use Rattle.lf_wire_nets.specs.Binding.{bound_pins}
use Rattle.lf_wire_nets.specs.Rows.{with_pins}
use Rattle.lf_wire_nets.specs.Texts.{facts_of}
use Rattle.lf_wire_nets.proofs.NetLemmas.{pins_last}
use Rattle.lf_wire_nets.proofs.binding.bind_net.Goals as goal

pub bind_terms-requires-clause-net : goal.bind_terms-requires-clause-net
bind_terms-requires-clause-net c = rw c.in_ok-start_net.ensures.nets (omega (arith, length_push c.args.rows.now.netlist.nets []))

pub returns-clause-nets : goal.returns-clause-nets
returns-clause-nets c =
    let bind = bound_pins (facts_of c.args.texts.now) in
    c.in_ok-bind_terms.ensures.nets
    ∙ ap₂ (λ terms nets. with_pins (flat_map bind terms) nets) c.as_slice.ensures c.in_ok-start_net.ensures.nets
    ∙ pins_last (flat_map bind c.args.net.now.terms) c.args.rows.now.netlist.nets []
