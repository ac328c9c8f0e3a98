use Rattle.lf_floorplan.proofs.ObstacleLemmas.{stays_near}
use Rattle.lf_floorplan.proofs.laws.obstacles_are_bounded.Goals as goal

pub returns : goal.returns
returns c f k d within = stays_near f.header.units f.macros _ (f.obstacles_in_range k d within)
