use Rattle.std.proofs.Common.{arith}
use Rattle.lf_wire_nets.specs.Texts.{facts_of}
use Rattle.lf_wire_nets.proofs.FirstLemmas.{entries_from}
use Rattle.lf_wire_nets.proofs.NetLemmas.{one_net, one_supply}
use Rattle.lf_wire_nets.proofs.binding.bind_all.Goals as goal

pub loop-net-preserved : goal.loop-net-preserved
loop-net-preserved c =
    let nets = c.args.nets.now in
    let at = c.loop-net.net-index in
    let net = c.net-item.result in
    let here = entries_from nets at net c.loop-net-test.true c.net-item.is in
    record {
      known = c.in_ok-more.ensures.known;
      nets = one_net (facts_of c.args.texts.now) nets at net c.loop-net.rows.netlist.nets c.bind_signal.new.rows.netlist.nets _ here c.in_ok-more.ensures.nets c.loop-net.invariant.nets;
      supplies = one_supply nets at net c.loop-net.supplies c.in_ok-more.more _ here c.in_ok-more.ensures.supplies c.loop-net.invariant.supplies;
      few = omega (arith, c.loop-net.invariant.few, c.in_ok-more.ensures.few);
    }
