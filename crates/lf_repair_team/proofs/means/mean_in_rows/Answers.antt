use Rattle.std.proofs.Common.{◌∙◌, ◌≤◌, ℕ, ap, subst, sym}
use Rattle.lf_repair_team.specs.Stats.{quotient}
use Rattle.lf_repair_team.proofs.MeanLemmas.{mean_short}
use Rattle.lf_repair_team.proofs.means.mean_in_rows.Goals as goal

pub returns-clause-short : goal.returns-clause-short
returns-clause-short c = λ short.
    subst (λ (n : ℕ). n ≤ 8589934590000)
    (sym (c.quotient-2.ensures ∙ ap (λ (n : ℕ). quotient n c.args.count) (c.quotient.ensures ∙ ap (λ (n : ℕ). quotient n c.args.row) c.saturating_mul.ensures)))
    (mean_short c.args.row c.args.total c.args.count short)
