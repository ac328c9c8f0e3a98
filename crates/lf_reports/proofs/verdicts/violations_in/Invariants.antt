use Rattle.std.proofs.Common.{◌≡◌, ℕ, map}
use Rattle.std.specs.Prelude.{filter_map}
use Rattle.std.specs.List.{range_with_len}
use Rattle.lf_floorplan.specs.declared.frame.Frame.{Frame}
use Rattle.lf_rules.specs.Legalizer.{Legalizer}
use Rattle.lf_reports.specs.Reports.{with_byte_name, violation_at, AreVerdicts}
use Rattle.lf_reports.proofs.verdicts.violations_in.Given as goal

-- The violations so far are those of the cells so far.
abbrev pub invariant-loop-own : goal.invariant-loop-own
invariant-loop-own l = (lz : Legalizer) (f : Frame) (padding : ℕ) → AreVerdicts lz f padding (map with_byte_name l.cells) l.verdicts → l.violations.items ≡ filter_map (violation_at lz f padding (map with_byte_name l.cells)) (range_with_len 0 l.own)
