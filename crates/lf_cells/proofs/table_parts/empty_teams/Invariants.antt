use Rattle.std.proofs.Common.{◌≡◌, [], replicate}
use Rattle.lf_cells.proofs.table_parts.empty_teams.Given as goal

abbrev pub invariant-loop : goal.invariant-loop
invariant-loop l = l.teams.items ≡ replicate l.counter []
