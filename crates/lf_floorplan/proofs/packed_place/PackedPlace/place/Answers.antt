use Rattle.std.proofs.Common.{refl, ◌∙◌, rules, FitsSigned, w32}
use Rattle.std.proofs.lemmas.Int.{to_z-of_z}
use Rattle.lf_floorplan.proofs.PlaceLemmas.{place_seen}
use Rattle.lf_floorplan.proofs.packed_place.PackedPlace.place.Goals as goal

pub returns-in-Some : goal.returns-in-Some
returns-in-Some c =
    let x : FitsSigned w32 c.self.inside.x = search rules in
    let y : FitsSigned w32 c.self.inside.y = search rules in
    place_seen c.self.inside c.in-Some.orient _ c.in-Some.is (to_z-of_z _ _ x) (to_z-of_z _ _ y) refl ∙ c.self.view_is
