use Rattle.std.proofs.Common.{◌≡◌, ◌<◌, length, map}
use Rattle.std.specs.Prelude.{All}
use Rattle.lf_rules.specs.Legalizer.{Legalizer}
use Rattle.lf_reports.specs.Reports.{with_byte_name}
use Rattle.lf_reports.proofs.VerdictLists.{HaveBefore}
use Rattle.lf_reports.proofs.verdicts.verdicts_in.Given as goal

-- The cells of the boxes so far have their verdict.
abbrev pub invariant-loop-rest : goal.invariant-loop-rest
invariant-loop-rest l = record {
  count : length l.verdicts.items ≡ length l.cells;
  known : All (λ p. p.own < length l.cells) l.rest;
  have : (lz : Legalizer) → HaveBefore lz l.frame l.near.padding.sites (map with_byte_name l.cells) l.near.boxes.now l.rest l.verdicts.items;
}

abbrev pub decreases-loop-rest : goal.decreases-loop-rest
decreases-loop-rest l = length l.rest
