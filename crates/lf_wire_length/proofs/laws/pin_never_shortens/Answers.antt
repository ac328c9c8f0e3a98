use Rattle.std.proofs.Common.{filter_map}
use Rattle.lf_wire_length.specs.Length.{point_of_pin}
use Rattle.lf_wire_length.proofs.SpreadLemmas.{around_grows}
use Rattle.lf_wire_length.proofs.laws.pin_never_shortens.Goals as goal

pub returns : goal.returns
returns c place pin pins = around_grows (point_of_pin place pin) (filter_map (point_of_pin place) pins)
