use Rattle.std.proofs.Common.{◌≡◌, ◌++◌, drop, map}
use Rattle.lf_reports.specs.Reports.{with_byte_name, listed_at}
use Rattle.lf_reports.proofs.verdicts.listed_cells.Given as goal

-- The cells so far, followed by the remaining ones at their places, are all.
abbrev pub invariant-loop-own : goal.invariant-loop-own
invariant-loop-own l = map with_byte_name l.listed.items ++ listed_at (drop l.own l.cells) (drop l.own l.places) ≡ listed_at l.cells l.places
