use Rattle.lf_rules.specs.Scanning.{IsOnSites}
use Rattle.lf_legalize.specs.Searches.{SearchScansPlaces}
use Rattle.lf_legalize.proofs.plain_search.with_row.Given as goal

-- the first sites of the row were searched
abbrev pub invariant-loop-site : goal.invariant-loop-site
invariant-loop-site l = SearchScansPlaces (IsOnSites l.search.frame.now.pitch l.row l.site) l.search l.fn.best l.best
