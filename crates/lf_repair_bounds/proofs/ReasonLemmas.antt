-- Why no place can hold a macro.
use Rattle.std.proofs.Common.{◌≡◌, ℕ, ℤ, zero, suc, pos, ◌<◌, ◌+ℤ◌, ◌-ℤ◌, ◌≤ℤ◌, ◌<ℤ◌, List, [], ◌∷◌, length, Some, refl, ap, sym, subst, arith}
use Rattle.std.specs.Prelude.{Any, slice_get}
use Rattle.std.proofs.lemmas.Int.{ints}
use Rattle.lf_floorplan.specs.declared.frame.Frame.{Frame}
use Rattle.lf_floorplan.specs.declared.macros.Macro.{Macro}
use Rattle.lf_floorplan.specs.Boxes.{size_of}
use Rattle.lf_floorplan.specs.Sizes.{box_at}
use Rattle.lf_floorplan.specs.RowSupport.{BottomRowIsUnique}
use Rattle.lf_segments.specs.Indexes.{FrameIndexView, IsIndexOf}
use Rattle.lf_repair_bounds.specs.ImpossibleMacros.{FitsUpright, HasNoHeight, HasNoRow, HasNoWidth, IsMacroHigh}
use Rattle.lf_repair_bounds.specs.Searched.{HasWideSegment}

-- a macro with a height has none only by mistake
pub has_height : (f : Frame) (m : Macro) (k : ℕ) → IsMacroHigh f m k → HasNoHeight f m → ⊥
has_height f m k high none = none k high

-- if no row allows the macro at its height, no row does
pub no_row : BottomRowIsUnique → (f : Frame) (m : Macro) (k : ℕ) → IsMacroHigh f m k → (Any (λ r. FitsUpright f m k r) f.rows → ⊥) → HasNoRow f m
no_row unique f m k high none j other any =
    let same : j ≡ k = unique.height f (box_at (size_of f m) (pos 0) (pos 0)) j k other high in
    none (subst (λ (n : ℕ). Any (λ r. FitsUpright f m n r) f.rows) same any)

-- if a row allows it, it has a row
pub has_row : (f : Frame) (m : Macro) (k : ℕ) → IsMacroHigh f m k → Any (λ r. FitsUpright f m k r) f.rows → HasNoRow f m → ⊥
has_row f m k high any none = none k high any

-- ---- segments

pub row_there : {X : Type 0} (xs : List X) (k : ℕ) → k < length xs → (x : X) × (slice_get xs k ≡ Some x)
row_there [] k within = absurd (omega (arith, within))
row_there (x ∷ xs) zero within = (x, cc)
row_there (x ∷ xs) (suc k) within = row_there xs k (omega (arith, within))

module _ (f : Frame) (g : FrameIndexView) (team : ℕ) (m : Macro) (width : ℤ) (index : IsIndexOf f g) (is : width ≡ (size_of f m).x) (positive : pos 0 <ℤ width) where
  -- if each segment of the team is narrower than the macro, no row has room for it
  pub no_width : (HasWideSegment g team width → ⊥) → HasNoWidth f team m
  no_width none n r low row usable =
      let high : low +ℤ (size_of f m).x ≡ low +ℤ width = ap (λ (w : ℤ). low +ℤ w) (sym is) in
      let filled : low <ℤ (low +ℤ width) = omega (arith, ints, positive) in
      let in_one = (index.segments.exact n r team record { lo = low; hi = low +ℤ width } row filled).1
      (λ x holds. let at = usable x holds.low (omega (arith, ints, holds.high, high)) in
      record { clear = record { left = at.left; right = at.right; clear = at.clear }; ground = at.in_ground }) in
      let segment = in_one.1 in
      let first = in_one.4.1 low record { low = omega (arith, ints); high = filled } in
      let last = in_one.4.1 ((low +ℤ width) -ℤ pos 1) record { low = omega (arith, ints, positive); high = omega (arith, ints) } in
      let begins : segment.span.lo ≤ℤ low = first.low in
      let ends : ((low +ℤ width) -ℤ pos 1) <ℤ segment.span.hi = last.high in
      none (in_one.0, segment, in_one.2, in_one.3, record { of_team = in_one.4.0.of_team; wide = omega (arith, ints, begins, ends) })

  -- if a segment of the team is at least as wide as the macro, a row has room for it
  pub has_width : HasWideSegment g team width → HasNoWidth f team m → ⊥
  has_width any none =
      let segment = any.1 in
      let known = rw any.3 at (index.segments.known any.0 any.1 any.2) in
      let row = row_there f.rows segment.row known.row_known in
      let low = segment.span.lo in
      let wide : (low +ℤ width) ≤ℤ segment.span.hi = any.4.wide in
      let filled : low <ℤ (low +ℤ width) = omega (arith, ints, positive) in
      let opens = (index.segments.exact segment.row row.0 team record { lo = low; hi = low +ℤ width } row.1 filled).0 (
        any.0,
        segment,
        any.2,
        any.3,
        (
          record { in_row = refl; of_team = any.4.of_team },
          λ x holds. record { low = holds.low; high = omega (arith, ints, holds.high, wide) },
        ),
      ) in
      let high : low +ℤ (size_of f m).x ≡ low +ℤ width = ap (λ (w : ℤ). low +ℤ w) (sym is) in
      none segment.row row.0 low row.1
      (λ x from below. let at = opens x record { low = from; high = omega (arith, ints, below, high) } in
      record { left = at.clear.left; right = at.clear.right; clear = at.clear.clear; in_ground = at.ground })
