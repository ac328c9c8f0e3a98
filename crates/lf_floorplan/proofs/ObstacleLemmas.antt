-- How far an obstacle reaches.
use Rattle.std.proofs.Common.{◌⊎◌, inl, inr, ℕ, ℤ, ◌≤ℤ◌, ◌<ℤ◌, List, ap, arith}
use Rattle.std.proofs.lemmas.Int.{ints}
use Rattle.std.proofs.lemmas.Grind.{not_there}
use Rattle.lf_units.specs.declared.geometry.Rect.{Rect}
use Rattle.lf_floorplan.specs.declared.macros.Macro.{Macro}
use Rattle.lf_floorplan.specs.Bounds.{IsDefRange, IsDefRect, IsNearDefRange, IsNearDefRect}
use Rattle.lf_floorplan.specs.Obstacles.{IsMacroBox, IsObstacle}
use Rattle.lf_floorplan.specs.Sizes.{size_in_dbu, turned}
use Rattle.lf_floorplan.proofs.SizeBounds.{IsSmall, small_pitch, turned_small}

near_range : (lo hi : ℤ) → IsDefRange lo hi → IsNearDefRange lo hi
near_range lo hi r = record { from = r.from; to = omega (arith, ints, r.to.most); in_order = r.in_order }

near_box : (units : ℕ) (macros : List Macro) (r : Rect) → IsMacroBox units macros r → IsNearDefRect r
near_box units macros r b =
    let small : IsSmall (turned (size_in_dbu units b.mac.size) b.orient) = turned_small _ b.orient (small_pitch _ _ _ b.whole) in
    let right = ap (λ (q : Rect). q.x2) b.box in
    let top = ap (λ (q : Rect). q.y2) b.box in
    record {
      across = record { from = b.x_in_def; to = omega (arith, ints, right, small.x_small, b.x_in_def.most); in_order = omega (arith, ints, right, small.wide) };
      up = record { from = b.y_in_def; to = omega (arith, ints, top, small.y_small, b.y_in_def.most); in_order = omega (arith, ints, top, small.high) };
    }

near_either : (units : ℕ) (macros : List Macro) (r : Rect) → IsDefRect r ⊎ IsMacroBox units macros r → IsNearDefRect r
near_either units macros r (inl d) = record { across = near_range r.x1 r.x2 d.across; up = near_range r.y1 r.y2 d.up }
near_either units macros r (inr b) = near_box units macros r b

-- An order of numbers holds if its negation is impossible.
sure : (a b : ℤ) → ((a ≤ℤ b → ⊥) → ⊥) → a ≤ℤ b
sure a b never = elim order [ inl h ↦ h | inr h ↦ absurd (never (λ g. omega (arith, ints, g, h))) ]
  where
    order : (a ≤ℤ b) ⊎ (b <ℤ a)
    order = grind (arith, ints)

sure_above : (a b : ℤ) → ((a <ℤ b → ⊥) → ⊥) → a <ℤ b
sure_above a b never = elim order [ inl h ↦ h | inr h ↦ absurd (never (λ g. omega (arith, ints, g, h))) ]
  where
    order : (a <ℤ b) ⊎ (b ≤ℤ a)
    order = grind (arith, ints)

sure_range : (lo hi : ℤ) → ((IsNearDefRange lo hi → ⊥) → ⊥) → IsNearDefRange lo hi
sure_range lo hi never = record {
  from = record { above = sure_above _ _ (λ no. never (λ r. no r.from.above)); most = sure _ _ (λ no. never (λ r. no r.from.most)) };
  to = sure _ _ (λ no. never (λ r. no r.to));
  in_order = sure _ _ (λ no. never (λ r. no r.in_order));
}

pub stays_near : (units : ℕ) (macros : List Macro) (r : Rect) → IsObstacle units macros r → IsNearDefRect r
stays_near units macros r obstacle =
    let never : (IsNearDefRect r → ⊥) → ⊥ = λ no. not_there obstacle (λ e. no (near_either units macros r e)) in
    record {
      across = sure_range r.x1 r.x2 (λ no. never (λ n. no n.across));
      up = sure_range r.y1 r.y2 (λ no. never (λ n. no n.up));
    }
