use Rattle.lf_wire_length.specs.Length.{point_of_pin}
use Rattle.lf_wire_length.proofs.SpreadLemmas.{around_permuted}
use Rattle.lf_wire_length.proofs.laws.order_keeps_length.Goals as goal

pub returns : goal.returns
returns c place pins others same = around_permuted (point_of_pin place) pins others same
