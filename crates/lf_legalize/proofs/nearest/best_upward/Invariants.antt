use Rattle.std.specs.Option.{option_map}
use Rattle.lf_rules.specs.Choice.{spot_of}
use Rattle.lf_legalize.specs.Extents.{ScansPlacesWithin}
use Rattle.lf_legalize.specs.RowSearches.{query_of_search}
use Rattle.lf_legalize.proofs.Rounds.{IsOnPart}
use Rattle.lf_legalize.proofs.nearest.best_upward.Given as goal

-- The rows of the first entries were searched.
abbrev pub invariant-loop-entry : goal.invariant-loop-entry
invariant-loop-entry l =
    ScansPlacesWithin (IsOnPart l.search.frame.now l.search.size l.entries 0 l.entry-index)
    (query_of_search l.search) l.search.target.now l.reach (option_map spot_of l.fn.so_far) (option_map spot_of l.best)
