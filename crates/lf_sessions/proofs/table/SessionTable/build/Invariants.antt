use Rattle.std.proofs.Common.{◌≡◌, None, replicate}
use Rattle.lf_sessions.proofs.table.SessionTable.build.Given as goal

abbrev pub invariant-loop : goal.invariant-loop
invariant-loop l = l.table.items ≡ replicate l.counter (replicate l.slots None)
