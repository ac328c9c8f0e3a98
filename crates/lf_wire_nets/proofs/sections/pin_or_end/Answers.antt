use Rattle.std.proofs.lemmas.List.Elements.{All-push}
use Rattle.lf_wire_nets.specs.NetRanges.{IsDesignPin}
use Rattle.lf_wire_nets.proofs.sections.pin_or_end.Goals as goal

pub returns-then-is_token-clause-range : goal.returns-then-is_token-clause-range
returns-then-is_token-clause-range c =
    rw c.in_ok-push.ensures.ok (All-push IsDesignPin c.args.pins.now c.in_ok-pin.pin c.requires.range c.in_ok-pin.ensures.range)
