use Rattle.lf_repair_team.proofs.LastPass.{AreMovableTo}
use Rattle.lf_repair_team.proofs.last_pass.movable_of.Given as goal

abbrev pub invariant-loop-own : goal.invariant-loop-own
invariant-loop-own l = AreMovableTo l.flags l.cells l.own-index l.movable.items
