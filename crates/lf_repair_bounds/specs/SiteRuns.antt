-- Runs of sites between blocked sites. No public clause cites this module.
use Rattle.std.specs.Prelude.{◌≡◌, ◌⊎◌, ℕ, ◌+◌, ◌≤◌, List, All, AllPairs}
use Rattle.lf_repair_bounds.specs.declared.site_runs.SiteRange.{SiteRange}

-- the ranges are in order of their first sites
abbrev pub SitesRise : List SiteRange → Type 0
SitesRise ranges = AllPairs (λ a b. a.from ≤ b.from) ranges

-- none of the `count` sites from `first` on is in the range
abbrev pub IsBeside : ℕ → ℕ → SiteRange → Type 0
IsBeside first count range = ((first + count) ≤ range.from) ⊎ (range.to ≤ first)

-- the `count` sites from `first` on are in the range, and none of them is blocked
pub record IsRun (range : SiteRange) (blocked : List SiteRange) (first count : ℕ) : Type 0 where
  pub from : range.from ≤ first
  pub to : (first + count) ≤ range.to
  pub clear : All (λ b. IsBeside first count b) blocked

-- the number of sites of the longest run; 0 if there is no free site
pub record IsLongestRun (range : SiteRange) (blocked : List SiteRange) (longest : ℕ) : Type 0 where
  pub is_one : (longest ≡ 0) ⊎ ((first : ℕ) × IsRun range blocked first longest)
  pub no_longer : (first count : ℕ) → IsRun range blocked first count → count ≤ longest
