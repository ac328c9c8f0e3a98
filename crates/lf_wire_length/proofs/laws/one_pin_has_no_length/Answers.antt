use Rattle.lf_wire_length.specs.Length.{point_of_pin}
use Rattle.lf_wire_length.proofs.SpreadLemmas.{around_one}
use Rattle.lf_wire_length.proofs.laws.one_pin_has_no_length.Goals as goal

pub returns : goal.returns
returns c place pin = around_one (point_of_pin place pin)
