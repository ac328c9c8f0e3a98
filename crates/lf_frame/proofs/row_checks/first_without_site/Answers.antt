use Rattle.lf_frame.specs.Refusals.{HasNoSite}
use Rattle.lf_frame.proofs.Firsts.{none_more}
use Rattle.lf_frame.proofs.row_checks.first_without_site.Goals as goal

pub loop-number-preserved : goal.loop-number-preserved
loop-number-preserved c =
    none_more (HasNoSite c.args.library.now) c.args.rows.now c.loop-number.number c.index-rows-number.result c.loop-number-test.true c.index-rows-number.is
    (λ h. let t = c.has_no_site.ensures.1 h in cc) c.loop-number.invariant
