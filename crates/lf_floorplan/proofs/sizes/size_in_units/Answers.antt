use Rattle.std.proofs.Common.{ap, ◌∙◌, rules, FitsSigned, w64}
use Rattle.std.proofs.lemmas.Int.{to_z-of_z}
use Rattle.lf_units.proofs.Same.{same_point}
use Rattle.lf_units.specs.Length.{in_dbu}
use Rattle.lf_floorplan.proofs.sizes.size_in_units.Goals as goal

pub returns : goal.returns
returns c =
    let given_x : FitsSigned w64 c.args.size.now.x = search rules in
    let given_y : FitsSigned w64 c.args.size.now.y = search rules in
    let got_x : FitsSigned w64 c.length_in_units-across.result = search rules in
    let got_y : FitsSigned w64 c.length_in_units-up.result = search rules in
    same_point _ _
    (to_z-of_z _ _ got_x ∙ c.length_in_units-across.ensures ∙ ap (in_dbu c.args.units) (to_z-of_z _ _ given_x))
    (to_z-of_z _ _ got_y ∙ c.length_in_units-up.ensures ∙ ap (in_dbu c.args.units) (to_z-of_z _ _ given_y))
