use Rattle.std.proofs.Common.{◌≡◌, ◌∙◌, ℕ, ap, arith, length, map}
use Rattle.std.specs.Prelude.{filter_map}
use Rattle.std.specs.List.{range_with_len}
use Rattle.std.proofs.Math.ListN.{length-map}
use Rattle.lf_reports.specs.Reports.{with_byte_name, violation_at}
use Rattle.lf_reports.proofs.ReportLemmas.{reported_more}
use Rattle.lf_reports.proofs.verdicts.violations_in.Goals as goal

pub loop-own-preserved : goal.loop-own-preserved
loop-own-preserved c = λ l f padding verdicts.
    reported_more (violation_at l f padding (map with_byte_name c.args.cells.now)) c.loop-own.own c.loop-own.violations.items c.push_violation.new.violations.items
    (c.in_ok-push_violation.ensures l f padding verdicts) (c.loop-own.invariant l f padding verdicts)

pub returns : goal.returns
returns c = λ l f padding verdicts.
    let g = violation_at l f padding (map with_byte_name c.args.cells.now) in
    let all : c.loop-own.own ≡ length (map with_byte_name c.args.cells.now) = simp length-map (omega arith) in
    c.loop-own.invariant l f padding verdicts ∙ ap (λ (n : ℕ). filter_map g (range_with_len 0 n)) all
