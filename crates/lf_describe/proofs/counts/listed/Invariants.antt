use Rattle.std.proofs.Common.{◌≡◌, ◌++◌, drop, map}
use Rattle.lf_reports.specs.Reports.{with_byte_name, listed_at}
use Rattle.lf_describe.specs.Description.{places_in_text}
use Rattle.lf_describe.proofs.counts.listed.Given as goal

-- The cells so far, followed by the remaining ones, are all cells.
abbrev pub invariant-loop-at : goal.invariant-loop-at
invariant-loop-at l = map with_byte_name l.listed.items ++ listed_at (drop l.at l.cells) (places_in_text (drop l.at l.cells)) ≡ listed_at l.cells (places_in_text l.cells)
