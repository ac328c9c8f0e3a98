use Rattle.std.proofs.Common.{None}
use Rattle.std.specs.Option.{option_map}
use Rattle.lf_rules.specs.Choice.{spot_of}
use Rattle.lf_rules.specs.Scanning.{ScansPlaces, IsOnRows}
use Rattle.lf_legalize.specs.Queries.{query_without}
use Rattle.lf_legalize.proofs.plain_search.best_place.Given as goal

-- the first rows were searched
abbrev pub invariant-loop-row : goal.invariant-loop-row
invariant-loop-row l =
    ScansPlaces (IsOnRows l.frame.pitch l.frame.rows l.row-index) (query_without l.frame l.team l.fn.padding.sites l.mac l.others) l.target None (option_map spot_of l.best)
