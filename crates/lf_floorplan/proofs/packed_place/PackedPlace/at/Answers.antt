use Rattle.std.proofs.Common.{Some, ap, refl, rules, FitsSigned, w32}
use Rattle.std.proofs.lemmas.Int.{to_z-of_z}
use Rattle.lf_floorplan.specs.declared.place.Place.{Place}
use Rattle.lf_floorplan.proofs.PlaceLemmas.{same_place}
use Rattle.lf_floorplan.proofs.packed_place.PackedPlace.at.Goals as goal

pub returns : goal.returns
returns c =
    let x : FitsSigned w32 c.args.place.now.x = search rules in
    let y : FitsSigned w32 c.args.place.now.y = search rules in
    ap (λ (p : Place). Some p) (same_place _ _ (to_z-of_z _ _ x) (to_z-of_z _ _ y) refl)
