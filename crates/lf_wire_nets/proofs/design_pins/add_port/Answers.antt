use Rattle.std.proofs.lemmas.List.Elements.{All-push}
use Rattle.lf_def.specs.Ranges.{IsLocation}
use Rattle.lf_wire_nets.specs.NetRanges.{IsDesignPort}
use Rattle.lf_wire_nets.proofs.design_pins.add_port.Goals as goal

pub returns-in_ok-push-clause-range : goal.returns-in_ok-push-clause-range
returns-in_ok-push-clause-range c =
    let location : IsLocation c.in-Some.at = rw c.in-Some.is at c.requires.at in
    rw c.in_ok-push.ensures.ok (All-push IsDesignPort c.args.ports.now _ c.requires.ports (record { at = location; shape = c.requires.shape }))
