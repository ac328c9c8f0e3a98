use Rattle.lf_wire_length.proofs.SpreadLemmas.{around_moved}
use Rattle.lf_wire_length.proofs.laws.moving_all_keeps_length.Goals as goal

pub returns : goal.returns
returns c dx dy points = around_moved dx dy points
