use Rattle.std.proofs.Common.{◌≡◌, [], replicate}
use Rattle.lf_cells.proofs.table_parts.empty_ids.Given as goal

abbrev pub invariant-loop : goal.invariant-loop
invariant-loop l = l.ids.items ≡ replicate l.counter []
