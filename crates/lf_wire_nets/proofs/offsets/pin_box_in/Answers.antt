use Rattle.lf_wire_nets.proofs.RangeLemmas.{box_range}
use Rattle.lf_wire_nets.proofs.offsets.pin_box_in.Goals as goal

pub returns-clause-in_range : goal.returns-clause-in_range
returns-clause-in_range c = rw c.named_box.ensures (box_range c.args.pins.now c.args.name.now c.requires)
