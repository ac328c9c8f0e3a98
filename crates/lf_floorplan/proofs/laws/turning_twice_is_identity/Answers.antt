use Rattle.std.proofs.Common.{◌≡◌, refl}
use Rattle.lf_units.specs.declared.geometry.Point.{Point}
use Rattle.lf_orient.specs.declared.Orient.{Orient}
use Rattle.lf_orient.specs.declared.Orient.TheVariants.{N, W, S, E, FN, FW, FS, FE}
use Rattle.lf_floorplan.specs.Sizes.{turned}
use Rattle.lf_floorplan.proofs.laws.turning_twice_is_identity.Goals as goal

back : (size : Point) (o : Orient) → turned (turned size o) o ≡ size
back size N = refl
back size W = refl
back size S = refl
back size E = refl
back size FN = refl
back size FW = refl
back size FS = refl
back size FE = refl

pub returns : goal.returns
returns c size o = back size o
