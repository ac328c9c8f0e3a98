use Rattle.lf_floor_verbs.proofs.BrokenRules.{alone_first}
use Rattle.lf_floor_verbs.proofs.swap.broken_beside.Goals as goal

pub returns-in-Some : goal.returns-in-Some
returns-in-Some c = alone_first c.args.placement.now c.args.padding.sites c.args.id c.args.place.now c.in-Some.rule c.args.alone c.in-Some.is c.requires
