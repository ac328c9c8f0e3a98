use Rattle.lf_repair_team.proofs.Listing.{AreFlaggedTo}
use Rattle.lf_repair_team.proofs.repair_input.listed_of.Given as goal

-- the flags of the cells so far
abbrev pub invariant-loop-own : goal.invariant-loop-own
invariant-loop-own g l = AreFlaggedTo l.impossible l.team l.floor l.own l.flags.items
