use Rattle.std.proofs.Common.{arith}
use Rattle.lf_repair_bounds.proofs.SiteRunLemmas.{walked_none, walked_on, walked_over}
use Rattle.lf_repair_bounds.proofs.site_runs.longest_run.Goals as goal

pub loop-sites-init : goal.loop-sites-init
loop-sites-init c = walked_none c.args.range.now c.args.blocked.now

pub loop-sites-preserved : goal.loop-sites-preserved
loop-sites-preserved c =
    walked_on c.args.range.now c.args.blocked.now c.loop-sites.sites-index c.loop-sites.start c.loop-sites.longest _ _ _ c.max-start.ensures c.requires
    c.loop-sites-test.true (omega arith) c.loop-sites.invariant

pub returns : goal.returns
returns c =
    walked_over c.args.range.now c.args.blocked.now c.loop-sites.sites-index c.loop-sites.start c.loop-sites.longest _ (omega arith)
    (omega (arith, c.loop-sites-test.false)) c.loop-sites.invariant
