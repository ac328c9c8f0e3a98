use Rattle.std.proofs.Common.{◌≡◌, ℕ, None, length}
use Rattle.lf_reports.specs.Reports.{verdict_at}
use Rattle.lf_reports.proofs.verdicts.no_verdicts.Given as goal

abbrev pub invariant-loop : goal.invariant-loop
invariant-loop l = (length l.verdicts.items ≡ l.counter) × ((own : ℕ) → verdict_at l.verdicts.items own ≡ None)
