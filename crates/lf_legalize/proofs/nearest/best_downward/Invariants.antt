use Rattle.std.proofs.Common.{◌≤◌, length}
use Rattle.std.specs.Option.{option_map}
use Rattle.lf_rules.specs.Choice.{spot_of}
use Rattle.lf_legalize.specs.Extents.{ScansPlacesWithin}
use Rattle.lf_legalize.specs.RowSearches.{query_of_search}
use Rattle.lf_legalize.proofs.Rounds.{IsOnPart}
use Rattle.lf_legalize.proofs.nearest.best_downward.Given as goal

-- The rows of the entries from here on were searched.
abbrev pub invariant-loop-n : goal.invariant-loop-n
invariant-loop-n l = record {
  within : l.n ≤ length l.entries;
  searched : ScansPlacesWithin (IsOnPart l.search.frame.now l.search.size l.entries l.n (length l.entries))
      (query_of_search l.search) l.search.target.now l.reach (option_map spot_of l.fn.so_far) (option_map spot_of l.best);
}

abbrev pub decreases-loop-n : goal.decreases-loop-n
decreases-loop-n l = l.n
