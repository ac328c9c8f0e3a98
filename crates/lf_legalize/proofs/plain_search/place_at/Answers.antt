use Rattle.std.proofs.Common.{arith}
use Rattle.std.proofs.lemmas.Int.{ints}
use Rattle.lf_rules.specs.Choice.{spot_of}
use Rattle.lf_rules.specs.Scanning.{spot_at}
use Rattle.lf_rules.proofs.Order.{same_spot}
use Rattle.lf_legalize.proofs.plain_search.place_at.Goals as goal

pub returns : goal.returns
returns c =
    same_spot (spot_of c.new.result) (spot_at c.args.at.now.search.now.frame.now.pitch c.args.at.now.row.now c.args.at.now.site c.args.orient)
    (omega (arith, ints, c.new.ensures.x_is, c.offset.ensures.value, c.args.at.now.core_row.ends, c.args.at.now.core_row.x_in_def.above))
    (omega (arith, ints, c.new.ensures.y_is))
    c.new.ensures.orient_is

pub new-requires-clause-x_in_def : goal.new-requires-clause-x_in_def
new-requires-clause-x_in_def c =
    omega (arith, ints, c.offset.ensures.low, c.offset.ensures.high, c.args.at.now.core_row.ends, c.args.at.now.core_row.x_in_def.above)
