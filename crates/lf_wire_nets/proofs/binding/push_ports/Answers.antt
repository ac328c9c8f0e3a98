use Rattle.std.proofs.Common.{map, ap, sym, ◌∙◌, arith}
use Rattle.std.proofs.lemmas.List.{drop_all}
use Rattle.lf_wire_nets.specs.Binding.{pin_of_port}
use Rattle.lf_wire_nets.specs.Rows.{with_pins}
use Rattle.lf_wire_nets.proofs.NetLemmas.{nets_remain, one_port}
use Rattle.lf_wire_nets.proofs.binding.push_ports.Goals as goal

pub loop-port-preserved : goal.loop-port-preserved
loop-port-preserved c =
    let before = c.loop-port.rows.netlist.nets in
    let pushed = c.in_ok-push_pin.ensures.nets in
    record {
      known = c.in_ok-push_pin.ensures.known;
      net = rw pushed (nets_remain c.pin_of_port.result before c.loop-port.invariant.net);
      nets = one_port c.args.ports.now c.loop-port.port-index _ c.pin_of_port.result before c.push_pin.new.rows.netlist.nets _
          c.loop-port-test.true c.pin_of_port.ensures.is pushed c.loop-port.invariant.nets;
    }

pub returns-clause-nets : goal.returns-clause-nets
returns-clause-nets c =
    let past = drop_all c.loop-port.port-index c.args.ports.now (omega (arith, c.loop-port-test.false)) in
    ap (λ ports. with_pins (map pin_of_port ports) c.loop-port.rows.netlist.nets) (sym past) ∙ c.loop-port.invariant.nets
