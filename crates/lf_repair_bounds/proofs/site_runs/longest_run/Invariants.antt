use Rattle.lf_repair_bounds.proofs.SiteRunLemmas.{Walked}
use Rattle.lf_repair_bounds.proofs.site_runs.longest_run.Given as goal

-- the longest run of the blocked ranges so far
abbrev pub invariant-loop-sites : goal.invariant-loop-sites
invariant-loop-sites l = Walked l.range l.blocked l.sites-index l.start l.longest
