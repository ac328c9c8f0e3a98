-- Places of the same coordinates and orientation are equal.
use Rattle.std.proofs.Common.{◌≡◌, negsuc, Some, ap, ◌∙◌}
use Rattle.std.specs.Prelude.{ℤ, ◌<ℤ◌}
use Rattle.std.proofs.Props.{props}
use Rattle.std.proofs.Math.Path.{Σ_path, to_path_p}
use Rattle.lf_orient.specs.declared.Orient.{Orient}
use Rattle.lf_floorplan.specs.declared.place.Place.{Place}
use Rattle.lf_floorplan.specs.declared.packed_place.PackedPlace.TheInside.{Inside}
use Rattle.lf_floorplan.specs.PackedPlaces.{packed_place_in}

-- A number of DEF.
abbrev Num : Type 0
Num = (z : ℤ) × (negsuc 2147483647 <ℤ z)

kept_is_one : (z : ℤ) (k l : negsuc 2147483647 <ℤ z) → k ≡ l
kept_is_one z = hlevel props

same_num : (a b : Num) → a.0 ≡ b.0 → a ≡ b
same_num a b e = Σ_path {u = a} {v = b} e (to_path_p (λ i. negsuc 2147483647 <ℤ e i) (kept_is_one b.0 _ b.1))

abbrev at_nums : Num → Num → Orient → Place
at_nums x y o = record { x = x.0; y = y.0; orient = o; x_in_def = x.1; y_in_def = y.1 }

pub same_place : (p q : Place) → p.x ≡ q.x → p.y ≡ q.y → p.orient ≡ q.orient → p ≡ q
same_place p q x y o =
    ap (λ (n : Num). at_nums n (p.y, p.y_in_def) p.orient) (same_num (p.x, p.x_in_def) (q.x, q.x_in_def) x)
    ∙ ap (λ (n : Num). at_nums (q.x, q.x_in_def) n p.orient) (same_num (p.y, p.y_in_def) (q.y, q.y_in_def) y)
    ∙ ap (λ (r : Orient). at_nums (q.x, q.x_in_def) (q.y, q.y_in_def) r) o

-- The place of packed fields that have an orientation.
pub place_seen : (p : Inside) (o : Orient) (q : Place) → p.orient ≡ Some o → q.x ≡ p.x → q.y ≡ p.y → q.orient ≡ o → Some q ≡ packed_place_in p
place_seen p o q is x y same = rw is (ap (λ (r : Place). Some r) (same_place q (record { x = p.x; y = p.y; orient = o; x_in_def = p.x_in_def; y_in_def = p.y_in_def }) x y same))
