-- A place is that of its corner and orientation, a target that of its coordinates, and a padding
-- that of its sites.
use Rattle.std.proofs.Common.{◌≡◌, ℕ, ◌<◌, ◌∙◌, nat_le, Option, None, MatchOption, sym, subst, List, [], ◌∷◌, Bool, true, false, ℤ, negsuc, Some, ◌<ℤ◌, ap, refl}
use Rattle.std.proofs.Math.Dec.{T, T_prop}
use Rattle.std.proofs.Math.Bridge.{le_prop}
use Rattle.std.proofs.Math.Facts.{leb_yes, yes_leb}
use Rattle.std.proofs.lemmas.Bool.{lt-leb}
use Rattle.std.specs.Int.Signed.{lt_z, lt_z_yes}
use Rattle.lf_units.specs.declared.geometry.Point.{Point}
use Rattle.lf_floorplan.specs.declared.place.Place.{Place}
use Rattle.lf_rules.specs.declared.padding.Padding.{Padding}
use Rattle.lf_proto.specs.Requests.{in_def, place_at, place_written, orient_named, target_of_words}
use Rattle.lf_proto.specs.Numbers.{shown_by_test, padding_at, coordinate}

-- a test that succeeds shows its fact, which has at most one proof
shown-yes : {Fact : Type 0} (unique : (a b : Fact) → a ≡ b) (test : Bool) (fact : T test → Fact) (known : Fact) → T test → shown_by_test test fact ≡ Some known
shown-yes unique true fact known t = ap Some (unique (fact tt) known)
shown-yes unique false fact known t = absurd t

-- a test that fails shows nothing
shown-no : {Fact : Type 0} (test : Bool) (fact : T test → Fact) → test ≡ false → shown_by_test test fact ≡ None
shown-no true fact fails = absurd (subst T fails tt)
shown-no false fact fails = refl

less_unique : {x y : ℤ} (a b : x <ℤ y) → a ≡ b
less_unique {x} {y} a b =
    let fact : T (lt_z x y) → x <ℤ y = λ test. record { lt = test } in
    ap fact (T_prop (lt_z x y) a.lt b.lt)

pub in_def-some : (z : ℤ) (known : negsuc 2147483647 <ℤ z) → in_def z ≡ Some known
in_def-some z known = shown-yes less_unique (lt_z (negsuc 2147483647) z) lt_z_yes known known.lt

pub place_at-some : (p : Place) → place_at p.x p.y p.orient ≡ Some p
place_at-some p = rw (in_def-some p.x p.x_in_def, in_def-some p.y p.y_in_def) refl

-- three words are the place with the value of each
pub place_written-some : (x y orient : List ℕ) (p : Place) → coordinate x ≡ Some p.x → coordinate y ≡ Some p.y → orient_named orient ≡ Some p.orient → place_written x y orient ≡ Some p
place_written-some x y orient p x_is y_is orient_is = rw (x_is, y_is, orient_is) (place_at-some p)

-- two words are the target with the value of each
pub target_of-some : (x y : List ℕ) (t : Point) → coordinate x ≡ Some t.x → coordinate y ≡ Some t.y → target_of_words (x ∷ y ∷ []) ≡ Some t
target_of-some x y t x_is y_is = rw (x_is, y_is) refl

-- the padding at a padding's number of sites is that padding
pub padding_at-some : (p : Padding) → padding_at p.sites ≡ Some p
padding_at-some p = rw (shown-yes le_prop (nat_le p.sites 16) leb_yes p.most (yes_leb p.most)) refl

-- no padding has more than 16 sites
pub padding_at-none : (sites : ℕ) → 16 < sites → padding_at sites ≡ None
padding_at-none sites many = rw (shown-no (nat_le sites 16) leb_yes (lt-leb sites 16 many)) refl

-- an option that is the padding of this number of sites, or None if they are too many, is the
-- padding at this number
pub padding_at-of : (o : Option Padding) (sites : ℕ) → MatchOption o (16 < sites) (λ padding. padding.sites ≡ sites) → o ≡ padding_at sites
padding_at-of None sites many = sym (padding_at-none sites many)
padding_at-of (Some p) sites is = sym (padding_at-some p) ∙ ap padding_at is
