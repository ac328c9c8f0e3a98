use Rattle.std.proofs.Common.{◌≡◌, ◌≤ℤ◌, ◌<ℤ◌}
use Rattle.lf_segments.proofs.HeightLemmas.{run_in_range, range_in_run, lower_is_not, higher_is_not, lower_is_out, higher_is_out}
use Rattle.lf_segments.proofs.index_laws.runs_have_rows.Goals as goal

pub returns-clause-at : goal.returns-clause-at
returns-clause-at c f entries run y n r rows part is_in_place = (
  λ there. run_in_range (λ v. v <ℤ y) (λ v. v ≡ y) (λ v. y <ℤ v) f entries run n r rows part is_in_place there,
  λ same. range_in_run (λ v. v <ℤ y) (λ v. v ≡ y) (λ v. y <ℤ v) f entries run n r (lower_is_not y) (higher_is_not y) rows part is_in_place same,
)

pub returns-clause-between : goal.returns-clause-between
returns-clause-between c f entries run from to n r rows part is_in_place = (
  λ there. run_in_range (λ v. v <ℤ from) (λ v. (from ≤ℤ v) × (v <ℤ to)) (λ v. to ≤ℤ v) f entries run n r rows part is_in_place there,
  λ both. range_in_run (λ v. v <ℤ from) (λ v. (from ≤ℤ v) × (v <ℤ to)) (λ v. to ≤ℤ v) f entries run n r (lower_is_out from to) (higher_is_out from to)
      rows part is_in_place both,
)
