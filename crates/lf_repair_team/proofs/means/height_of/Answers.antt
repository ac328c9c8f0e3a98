use Rattle.lf_floorplan.proofs.SizeBounds.{sized_pitch}
use Rattle.lf_repair_team.proofs.means.height_of.Goals as goal

pub size_in_units-requires : goal.size_in_units-requires
size_in_units-requires c = record { whole = sized_pitch c.args.frame.now c.args.mac.now c.requires }
