use Rattle.std.proofs.Common.{◌∙◌, List, subst}
use Rattle.std.proofs.lemmas.Result.{IfOk-weaker}
use Rattle.lf_units.specs.declared.geometry.Point.{Point}
use Rattle.lf_density.specs.Pins.{IsPinDensityOf}
use Rattle.lf_wire_density.proofs.pin_density.pin_density_of_nets.Goals as goal

pub returns : goal.returns
returns g c =
    IfOk-weaker c.pin_density_of.result _ _
    (λ density is. subst (λ (points : List Point). IsPinDensityOf c.args.frame.now points density) (c.as_slice.ensures.value ∙ c.in_ok-points.ensures) is)
    c.pin_density_of.ensures
