-- The rectangles that a widened rectangle shares points with.
use Rattle.std.proofs.Common.{◌≡◌, ◌⊎◌, ℕ, ℤ, pos, negsuc, ◌+ℤ◌, ◌-ℤ◌, ◌*ℤ◌, ◌*◌, ◌≤ℤ◌, ◌<ℤ◌, ◌≤◌, inl, inr, arith}
use Rattle.std.proofs.lemmas.Int.{ints}
use Rattle.std.proofs.lemmas.Nat.{mul-le}
use Rattle.lf_units.specs.declared.geometry.Rect.{Rect}
use Rattle.lf_units.specs.Area.{SharesPoint}
use Rattle.lf_units.proofs.Same.{same_rect}
use Rattle.lf_floorplan.specs.declared.frame.Frame.{Frame}
use Rattle.lf_rules.specs.Padding.{PaddingIsSymmetric, length_of, wider}

-- For two boxes with points, widening either is the same.
pub either_way : PaddingIsSymmetric
either_way by a b least wide_a wide_b m = elim order [
  | inl left ↦ record {
    x = a.x1;
    y = m.y;
    in_first = record { left = omega (arith, ints); right = omega (arith, ints); bottom = m.in_second.bottom; top = m.in_second.top };
    in_second = record { left = omega (arith, ints); right = wide_a; bottom = m.in_first.bottom; top = m.in_first.top };
  }
  | inr right ↦ record {
    x = b.x1 -ℤ by;
    y = m.y;
    in_first = record { left = omega (arith, ints); right = omega (arith, ints); bottom = m.in_second.bottom; top = m.in_second.top };
    in_second = record { left = omega (arith, ints); right = omega (arith, ints); bottom = m.in_first.bottom; top = m.in_first.top };
  }
]
  where
    from : (a.x1 -ℤ by) ≤ℤ m.x
    from = m.in_first.left

    before : m.x <ℤ (a.x2 +ℤ by)
    before = m.in_first.right

    at : b.x1 ≤ℤ m.x
    at = m.in_second.left

    below : m.x <ℤ b.x2
    below = m.in_second.right

    order : ((b.x1 -ℤ by) ≤ℤ a.x1) ⊎ (a.x1 <ℤ (b.x1 -ℤ by))
    order = grind (arith, ints)

-- A rectangle that is widened by more still shares its points.
pub shares_wider : (less more : ℤ) (a b : Rect) → less ≤ℤ more → SharesPoint (wider less a) b → SharesPoint (wider more a) b
shares_wider less more a b upto m =
    let from : (a.x1 -ℤ less) ≤ℤ m.x = m.in_first.left in
    let before : m.x <ℤ (a.x2 +ℤ less) = m.in_first.right in
    record {
      x = m.x;
      y = m.y;
      in_first = record { left = omega (arith, ints); right = omega (arith, ints); bottom = m.in_first.bottom; top = m.in_first.top };
      in_second = m.in_second;
    }

sites_upto : (p : ℤ) (less more : ℕ) → pos 0 <ℤ p → less ≤ more → (pos less *ℤ p) ≤ℤ (pos more *ℤ p)
sites_upto (pos n) less more positive upto =
    let most : less * n ≤ more * n = mul-le less n more n upto (omega arith) in
    omega (arith, ints)
sites_upto (negsuc n) less more positive upto = absurd (omega (arith, ints))

-- Fewer sites are not longer.
pub length_upto : (f : Frame) (less more : ℕ) → less ≤ more → length_of f less ≤ℤ length_of f more
length_upto f less more upto = sites_upto f.pitch.x less more f.pitch_whole.wide upto

no_site : (p : ℤ) → (pos 0 *ℤ p) ≡ pos 0
no_site (pos n) = omega (arith, ints)
no_site (negsuc n) = omega (arith, ints)

-- A padding of 0 sites has length 0.
pub no_length : (f : Frame) → length_of f 0 ≡ pos 0
no_length f = no_site f.pitch.x

-- A padding of 0 sites widens no box.
pub wider_none : (f : Frame) (r : Rect) → wider (length_of f 0) r ≡ r
wider_none f r =
    let is = no_length f in
    same_rect (wider (length_of f 0) r) r (omega (arith, ints, is)) (omega (arith, ints)) (omega (arith, ints, is)) (omega (arith, ints))

-- The length of a padding is 0 or more.
pub length_least : (f : Frame) (sites : ℕ) → pos 0 ≤ℤ length_of f sites
length_least f sites =
    let none = no_length f in
    let more = length_upto f 0 sites (omega arith) in
    omega (arith, ints, none, more)

-- A rectangle widened by a padding still shares its points.
pub shares_padded : (f : Frame) (sites : ℕ) (a b : Rect) → SharesPoint a b → SharesPoint (wider (length_of f sites) a) b
shares_padded f sites a b m =
    let least = length_least f sites in
    let from : a.x1 ≤ℤ m.x = m.in_first.left in
    let before : m.x <ℤ a.x2 = m.in_first.right in
    record {
      x = m.x;
      y = m.y;
      in_first = record { left = omega (arith, ints, least); right = omega (arith, ints, least); bottom = m.in_first.bottom; top = m.in_first.top };
      in_second = m.in_second;
    }
