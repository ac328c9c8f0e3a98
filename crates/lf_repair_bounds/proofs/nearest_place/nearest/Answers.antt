use Rattle.lf_repair_bounds.proofs.nearest_place.nearest.Goals as goal

pub returns : goal.returns
returns c = rw (c.none.ensures, c.mac_at-mac.ensures) at c.best_place.ensures.best
