use Rattle.std.proofs.Common.{ap, sym, ◌∙◌, arith}
use Rattle.std.specs.List.{flat_map}
use Rattle.std.proofs.lemmas.List.{drop_all}
use Rattle.lf_wire_nets.specs.Binding.{bound_pins}
use Rattle.lf_wire_nets.specs.Rows.{with_pins}
use Rattle.lf_wire_nets.specs.Texts.{facts_of}
use Rattle.lf_wire_nets.proofs.FirstLemmas.{entries_from}
use Rattle.lf_wire_nets.proofs.NetLemmas.{nets_remain_with, one_bound}
use Rattle.lf_wire_nets.proofs.binding.bind_terms.Goals as goal

pub loop-term-preserved : goal.loop-term-preserved
loop-term-preserved c =
    let bind = bound_pins (facts_of c.args.texts.now) in
    let terms = c.args.terms.now in
    let at = c.loop-term.term-index in
    let term = c.term-item.result in
    let before = c.loop-term.rows.netlist.nets in
    let pushed = c.in_ok-bind_term.ensures.nets in
    record {
      known = c.in_ok-bind_term.ensures.known;
      net = rw pushed (nets_remain_with (bind term) before c.loop-term.invariant.net);
      nets = one_bound bind terms at term before c.bind_term.new.rows.netlist.nets _
          (entries_from terms at term c.loop-term-test.true c.term-item.is) pushed c.loop-term.invariant.nets;
    }

pub returns-clause-nets : goal.returns-clause-nets
returns-clause-nets c =
    let past = drop_all c.loop-term.term-index c.args.terms.now (omega (arith, c.loop-term-test.false)) in
    ap (λ terms. with_pins (flat_map (bound_pins (facts_of c.args.texts.now)) terms) c.loop-term.rows.netlist.nets) (sym past) ∙ c.loop-term.invariant.nets
