-- An optional place, and the fields that store it.
use Rattle.std.specs.Prelude.{◌≡◌, ℤ, pos, negsuc, ◌<ℤ◌, Option, None, Some, refl}
use Rattle.std.proofs.Common.{ap, sym, ◌∙◌, subst}
use Rattle.std.specs.Int.Signed.{lt_z_yes}
use Rattle.lf_orient.specs.declared.Orient.{Orient}
use Rattle.lf_floorplan.specs.declared.place.Place.{Place}
use Rattle.lf_floorplan.specs.declared.packed_place.PackedPlace.TheInside.{Inside}

-- The place with these fields; `None` if there is no orientation.
abbrev pub place_of_fields : (x y : ℤ) → Option Orient → negsuc 2147483647 <ℤ x → negsuc 2147483647 <ℤ y → Option Place
place_of_fields x y None x_in_def y_in_def = None
place_of_fields x y (Some o) x_in_def y_in_def =
    Some (record { x = x; y = y; orient = o; x_in_def = x_in_def; y_in_def = y_in_def })

abbrev pub packed_place_in : Inside → Option Place
packed_place_in p = place_of_fields p.x p.y p.orient p.x_in_def p.y_in_def

-- The fields of an optional place.
abbrev pub packed : Option Place → Inside
packed None = record { x = pos 0; y = pos 0; orient = None; x_in_def = lt_z_yes tt; y_in_def = lt_z_yes tt }
packed (Some p) = record { x = p.x; y = p.y; orient = Some p.orient; x_in_def = p.x_in_def; y_in_def = p.y_in_def }

-- Without a place both numbers are 0.
pub record IsPackedPlace (p : Inside) : Type 0 where
  pub x_is_0 : p.orient ≡ None → p.x ≡ pos 0
  pub y_is_0 : p.orient ≡ None → p.y ≡ pos 0

-- A number of DEF.
abbrev DefNumber : Type 0
DefNumber = (z : ℤ) × (negsuc 2147483647 <ℤ z)

from_nums : DefNumber → DefNumber → Option Orient → Inside
from_nums x y o = record { x = x.0; y = y.0; orient = o; x_in_def = x.1; y_in_def = y.1 }

at_0 : (x : ℤ) (k : negsuc 2147483647 <ℤ x) → x ≡ pos 0 → ◌≡◌ {A = DefNumber} (pos 0, lt_z_yes tt) (x, k)
at_0 x k e =
    subst (λ z. (h : negsuc 2147483647 <ℤ z) → ◌≡◌ {A = DefNumber} (pos 0, lt_z_yes tt) (z, h)) (sym e) (λ h. refl) k

back : (x y : ℤ) (o : Option Orient) (k : negsuc 2147483647 <ℤ x) (l : negsuc 2147483647 <ℤ y) → (o ≡ None → x ≡ pos 0)
    → (o ≡ None → y ≡ pos 0) →
    packed (place_of_fields x y o k l) ≡ from_nums (x, k) (y, l) o
unfolding from_nums
back x y (Some o) k l x_is y_is = refl
back x y None k l x_is y_is = ap (λ (n : DefNumber). from_nums n (pos 0, lt_z_yes tt) None) (at_0 x k (x_is refl))
    ∙ ap (λ (n : DefNumber). from_nums (x, k) n None) (at_0 y l (y_is refl))

-- The fields are those of their place.
pub packed_back : (p : Inside) → IsPackedPlace p → packed (packed_place_in p) ≡ p
unfolding from_nums
packed_back p is = back p.x p.y p.orient p.x_in_def p.y_in_def is.x_is_0 is.y_is_0
