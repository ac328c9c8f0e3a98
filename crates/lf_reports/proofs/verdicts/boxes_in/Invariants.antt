use Rattle.std.proofs.Common.{◌≡◌, ◌++◌, drop, map}
use Rattle.lf_reports.specs.Reports.{listed_member, with_byte_name}
use Rattle.lf_rules.specs.Team.{boxes_from}
use Rattle.lf_reports.proofs.verdicts.boxes_in.Given as goal

-- The boxes so far, followed by those of the remaining cells, are all.
abbrev pub invariant-loop-number : goal.invariant-loop-number
invariant-loop-number l = l.boxes.items ++ boxes_from l.frame l.number (map listed_member (map with_byte_name (drop l.number l.cells))) ≡ boxes_from l.frame 0 (map listed_member (map with_byte_name l.cells))
