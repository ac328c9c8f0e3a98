use Rattle.std.proofs.lemmas.List.Elements.{All-push}
use Rattle.lf_wire_nets.specs.MacroPins.{IsMacroPin}
use Rattle.lf_wire_nets.proofs.macros.add_pin.Goals as goal

pub returns-clause-range : goal.returns-clause-range
returns-clause-range c = rw c.in_ok-push.ensures.ok (All-push IsMacroPin c.args.pins.now c.in_ok-pin.pin c.requires.range c.in_ok-pin.ensures.range)
