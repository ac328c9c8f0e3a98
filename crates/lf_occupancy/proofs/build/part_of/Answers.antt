use Rattle.std.proofs.Common.{rules}
use Rattle.lf_occupancy.proofs.Parting.{part_read}
use Rattle.lf_occupancy.proofs.build.part_of.Goals as goal

pub returns-clause-is : goal.returns-clause-is
returns-clause-is c = part_read 65536 c.args.from c.min.result c.min-2.result c.args.ids.now (search rules) (search rules)
