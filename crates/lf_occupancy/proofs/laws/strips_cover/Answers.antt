use Rattle.lf_occupancy.proofs.Covering.{strips_hold}
use Rattle.lf_occupancy.proofs.laws.strips_cover.Goals as goal

pub returns : goal.returns
returns c f o team box strips is_in_place ground clear x y covers = strips_hold f o team box strips is_in_place ground clear x y covers
