use Rattle.lf_occupancy.specs.Floorplans.{boxes_in}
use Rattle.lf_placement.proofs.Tallying.{placing_fitted}
use Rattle.lf_placement.proofs.build.fitted.Goals as goal

pub returns-clause-holds : goal.returns-clause-holds
returns-clause-holds c =
    c.in_ok-fit_all_committed.ensures.gains.holds (boxes_in c.args.sized.now.frame.now c.args.sized.now.cells.now) (c.in_ok-occupancy.ensures {u = tt}).held.holds

pub returns-clause-placing : goal.returns-clause-placing
returns-clause-placing c =
    let held = (c.in_ok-occupancy.ensures {u = tt}).held in
    placing_fitted c.args.sized.now.frame.now c.args.sized.now.cells.now c.in_ok-occupancy.occupancy c.fit_all_committed.new.occupancy c.args.sized.now.sized c.requires held.index
    held.site c.in_ok-fit_all_committed.ensures.gains c.in_ok-fit_all_committed.ensures.fits
