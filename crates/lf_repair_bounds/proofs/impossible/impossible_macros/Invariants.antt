use Rattle.lf_repair_bounds.proofs.Searching.{IsSearchedTo}
use Rattle.lf_repair_bounds.proofs.impossible.impossible_macros.Given as goal

-- the macros of the cells so far
abbrev pub invariant-loop-at : goal.invariant-loop-at
invariant-loop-at l = IsSearchedTo l.loaded.frame l.loaded.cells l.at l.checked.items l.list.items
