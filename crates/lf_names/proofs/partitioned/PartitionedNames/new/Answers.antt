use Rattle.std.proofs.Common.{[]}
use Rattle.lf_names.proofs.PartViews.{view_kept, view_empty}
use Rattle.lf_names.proofs.partitioned.PartitionedNames.new.Goals as goal

pub invariant_of-result : goal.invariant_of-result
invariant_of-result c = view_kept [] c.in_ok-empty_parts.field-0.items (c.in_ok-empty_parts.ensures {u = tt})

pub returns : goal.returns
returns c = view_empty c.in_ok-empty_parts.field-0.items (c.in_ok-empty_parts.ensures {u = tt})
