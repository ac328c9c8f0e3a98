use Rattle.lf_occupancy.proofs.Covering.{widened_strips_cover_all}
use Rattle.lf_occupancy.proofs.laws.widened_strips_cover.Goals as goal

pub returns : goal.returns
returns c f o team box by plan site is_in_place ground clear wide some most x y covers =
    widened_strips_cover_all f o team box by plan is_in_place ground clear wide some most x y covers
