-- Two rows share a point if and only if their edges overlap.
use Rattle.std.proofs.Common.{◌≡◌, ℕ, ℤ, pos, negsuc, ◌*◌, ◌+ℤ◌, ◌*ℤ◌, ◌≤◌, ◌<ℤ◌, ◌≤ℤ◌, ◌⊎◌, inl, inr, Bool, true, false, not, refl, arith}
use Rattle.std.proofs.lemmas.Int.{ints}
use Rattle.std.proofs.lemmas.Nat.{mul-le}
use Rattle.lf_units.specs.declared.geometry.Point.{Point}
use Rattle.lf_units.specs.Area.{SharesPoint}
use Rattle.lf_units.proofs.Edges.{EdgesCross, edges_of_shared, shared_of_edges}
use Rattle.lf_floorplan.specs.declared.parts.Row.{Row}
use Rattle.lf_floorplan.specs.Rows.{row_area}

positive : (n : ℕ) (p : ℤ) → 1 ≤ n → pos 0 <ℤ p → pos 0 <ℤ (pos n *ℤ p)
positive n (pos m) some wide =
    let above : 1 ≤ m = omega (arith, ints) in
    let product : 1 * 1 ≤ n * m = mul-le 1 1 n m some above in
    omega (arith, ints)
positive n (negsuc m) some wide = absurd (omega (arith, ints))

pub less : (a b : ℤ) → (a ≤ℤ b → ⊥) → b <ℤ a
less a b never = elim order [ inl h ↦ absurd (never h) | inr h ↦ h ]
  where
    order : (a ≤ℤ b) ⊎ (b <ℤ a)
    order = grind (arith, ints)

pub not_true : (b : Bool) → (b ≡ true → ⊥) → not b ≡ true
not_true true never = absurd (never refl)
not_true false never = refl

pub not_both : (b : Bool) → b ≡ true → not b ≡ true → ⊥
not_both true is isnot = cc
not_both false is isnot = cc

pub rows_meet : (pitch : Point) (a b : Row) → pos 0 <ℤ pitch.x → pos 0 <ℤ pitch.y → 1 ≤ a.sites → 1 ≤ b.sites →
    ((b.y +ℤ pitch.y) ≤ℤ a.y → ⊥) → ((a.y +ℤ pitch.y) ≤ℤ b.y → ⊥) → ((row_area pitch b).x2 ≤ℤ a.x → ⊥) → ((row_area pitch a).x2 ≤ℤ b.x → ⊥) →
    SharesPoint (row_area pitch a) (row_area pitch b)
rows_meet pitch a b wide high some_a some_b h1 h2 h3 h4 =
    let wide_a : pos 0 <ℤ (pos a.sites *ℤ pitch.x) = positive a.sites pitch.x some_a wide in
    let wide_b : pos 0 <ℤ (pos b.sites *ℤ pitch.x) = positive b.sites pitch.x some_b wide in
    shared_of_edges (row_area pitch a) (row_area pitch b) (record {
      wide_first = omega (arith, ints);
      wide_second = omega (arith, ints);
      high_first = omega (arith, ints);
      high_second = omega (arith, ints);
      left = less _ _ h3;
      right = less _ _ h4;
      below = less _ _ h1;
      above = less _ _ h2;
    })

-- The order of the edges of two rows that share a point.
pub record RowsPass (pitch : Point) (a b : Row) : Type 0 where
  pub below : (b.y +ℤ pitch.y) ≤ℤ a.y → ⊥
  pub above : (a.y +ℤ pitch.y) ≤ℤ b.y → ⊥
  pub left : (row_area pitch b).x2 ≤ℤ a.x → ⊥
  pub right : (row_area pitch a).x2 ≤ℤ b.x → ⊥

pub rows_pass : (pitch : Point) (a b : Row) → SharesPoint (row_area pitch a) (row_area pitch b) → RowsPass pitch a b
rows_pass pitch a b s =
    let e : EdgesCross (row_area pitch a) (row_area pitch b) = edges_of_shared (row_area pitch a) (row_area pitch b) s in
    let below : a.y <ℤ (b.y +ℤ pitch.y) = e.below in
    let above : b.y <ℤ (a.y +ℤ pitch.y) = e.above in
    let left : a.x <ℤ (row_area pitch b).x2 = e.left in
    let right : b.x <ℤ (row_area pitch a).x2 = e.right in
    record { below = λ h. omega (arith, ints); above = λ h. omega (arith, ints); left = λ h. omega (arith, ints); right = λ h. omega (arith, ints) }
