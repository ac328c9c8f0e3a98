use Rattle.std.proofs.Common.{◌≡◌, ◌++◌, Some, drop, map, slice_get}
use Rattle.lf_reports.specs.Reports.{with_byte_name}
use Rattle.lf_reports.proofs.verdicts.fetch.Given as goal

-- The cells so far, followed by those of the remaining boxes, are those of all boxes.
abbrev pub invariant-loop-placed : goal.invariant-loop-placed
invariant-loop-placed l = map Some (map with_byte_name l.fetched.items) ++ map (λ p. slice_get (map with_byte_name l.cells) p.own) (drop l.placed-index l.boxes) ≡ map (λ p. slice_get (map with_byte_name l.cells) p.own) l.boxes
