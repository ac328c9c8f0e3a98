use Rattle.std.proofs.Common.{refl, arith}
use Rattle.lf_wire_nets.specs.Names.{is_design_pin_named}
use Rattle.lf_wire_nets.proofs.FirstLemmas.{all_so_far, entries_from, none_so_far, one_so_far}
use Rattle.lf_wire_nets.proofs.names.design_pin_names.Goals as goal

pub loop-at-init : goal.loop-at-init
loop-at-init c = none_so_far is_design_pin_named c.args.pins.now c.new-names.result c.new-names.ensures.whole c.new-names.ensures.nothing

pub add-requires : goal.add-requires
add-requires c = c.loop-at.invariant.whole

pub loop-at-preserved : goal.loop-at-preserved
loop-at-preserved c =
    let pins = c.args.pins.now in
    let pin = c.index-pins-at.result in
    one_so_far is_design_pin_named pins c.loop-at.at pin pin.name c.loop-at.names c.add.new.self
    (entries_from pins c.loop-at.at pin c.loop-at-test.true c.index-pins-at.is) (λ name. refl) c.loop-at.invariant (rw c.name.ensures at (c.in_ok-add.ensures {u = tt}))

pub returns : goal.returns
returns c = all_so_far is_design_pin_named c.args.pins.now c.loop-at.at c.loop-at.names (omega (arith, c.loop-at-test.false)) c.loop-at.invariant
