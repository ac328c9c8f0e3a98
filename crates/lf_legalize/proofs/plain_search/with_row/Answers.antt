use Rattle.lf_rules.proofs.SiteLemmas.{next_site}
use Rattle.lf_legalize.proofs.plain_search.with_row.Goals as goal

pub loop-site-preserved : goal.loop-site-preserved
loop-site-preserved c = next_site _ _ _ _ _ _ _ _ c.loop-site.invariant c.with_site-best.ensures
