-- The free spans of a row that soft blockages leave.
use Rattle.std.proofs.Common.{◌≡◌, ◌⊎◌, inl, inr, ℕ, zero, suc, ℤ, pos, ◌+◌, ◌<◌, ◌≤◌, ◌+ℤ◌, List, [], ◌∷◌, Option, Some, None, length, get_or, slice_get, refl, sym, ap, subst, ◌∙◌, arith}
use Rattle.std.specs.Prelude.{◌↔◌}
use Rattle.std.specs.Option.{option_map}
use Rattle.std.proofs.lemmas.Int.{ints}
use Rattle.std.proofs.lemmas.List.Elements.{All-nil}
use Rattle.std.proofs.lemmas.Option.{slice_get-get_or, slice_get-map, slice_get_within, get_or_from_slice_get}
use Rattle.lf_units.specs.declared.span.Span.{Span}
use Rattle.lf_units.specs.Spans.{AreDisjoint, HoldsNumber, IsDisjointFrom, IsFilled, IsMinus, IsRising, LiesIn, LiesInOneOf}
use Rattle.lf_units.proofs.SpanEdges.{rising_nil}
use Rattle.lf_floorplan.specs.declared.frame.Frame.{Frame}
use Rattle.lf_segments.specs.declared.segment.Segment.{Segment}
use Rattle.lf_segments.specs.declared.strip.Strip.{Strip}
use Rattle.lf_segments.specs.Indexes.{IsIndexOf, FrameIndexView}
use Rattle.lf_segments.specs.Soft.{IsSoftAt}
use Rattle.lf_segments.specs.Strips.{AreNear, IsNear, row_y, strip_of}
use Rattle.lf_cells.specs.declared.cell.CellId.{CellId}
use Rattle.lf_occupancy.specs.Views.{Occupied, IsFreeInRow, strip_extent}
use Rattle.lf_legalize.specs.Levels.{AreWithoutSoft, AreOpenInRow}

-- ---- the soft spans of a strip

-- what is known of a strip and its soft spans
pub record AreSoftOver (f : Frame) (g : Strip) (spans : List Span) : Type 0 where
  pub rising : IsRising spans
  pub exact : (s : Span) → IsFilled s → (LiesInOneOf spans s ↔ (LiesIn s (strip_extent g) × ((x : ℤ) → HoldsNumber s x → IsSoftAt f g.area x)))
  pub bottom : g.area.y1 ≡ row_y f g.row
  pub top : g.area.y2 ≡ row_y f g.row +ℤ f.pitch.y

strip_there : (f : Frame) (found : Option Segment) (g : Strip) → option_map (strip_of f) found ≡ Some g →
    (seg : Segment) × (found ≡ Some seg) × (strip_of f seg ≡ g)
strip_there f None g is = absurd cc
strip_there f (Some seg) g is = (seg, refl, cc)

pub soft_over : (f : Frame) (index : FrameIndexView) (k : ℕ) (g : Strip) → IsIndexOf f index → slice_get index.strips k ≡ Some g →
    AreSoftOver f g (get_or index.soft k [])
soft_over f index k g is there =
    let found = strip_there f (slice_get index.segments k) g
    (sym (slice_get-map (strip_of f) index.segments k) ∙ ap (λ (gs : List Strip). slice_get gs k) (sym is.strips) ∙ there) in
    let spans = is.soft.each k found.0 found.1 in
    subst (λ (z : Strip). AreSoftOver f z (get_or index.soft k [])) found.2
    record { rising = spans.rising; exact = spans.exact; bottom = refl; top = refl }

each_rising : (segments : List Segment) (soft : List (List Span)) (k : ℕ) → length soft ≡ length segments →
    ((n : ℕ) (g : Segment) → slice_get segments n ≡ Some g → IsRising (get_or soft n [])) → IsRising (get_or soft k [])
each_rising segments [] k many h = rising_nil
each_rising [] (x ∷ xs) k many h = absurd (omega (arith, many))
each_rising (g ∷ gs) (x ∷ xs) zero many h = h 0 g refl
each_rising (g ∷ gs) (x ∷ xs) (suc k) many h = each_rising gs xs k (omega (arith, many)) (λ n z there. h (suc n) z there)

pub soft_rising : (f : Frame) (index : FrameIndexView) → IsIndexOf f index → (k : ℕ) → IsRising (get_or index.soft k [])
soft_rising f index is k = each_rising index.segments index.soft k is.soft.many (λ n g there. (is.soft.each n g there).rising)

-- a span that shares no number with the soft ones of its strip holds no number at which the strip
-- is soft
pub point_soft : (f : Frame) (g : Strip) (spans : List Span) (s : Span) (x : ℤ) → AreSoftOver f g spans → HoldsNumber (strip_extent g) x → IsDisjointFrom spans s → HoldsNumber s x →
    IsSoftAt f g.area x → ⊥
point_soft f g spans s x soft inside apart holds at = by ((soft.exact one filled).1 (in_strip, at_each))
  where
    one : Span
    one = record { lo = x; hi = x +ℤ pos 1 }

    filled : IsFilled one
    filled = omega (arith, ints)

    same : (v : ℤ) → HoldsNumber one v → x ≡ v
    same v h = let low = h.low in let high = h.high in omega (arith, ints, low, high)

    in_strip : LiesIn one (strip_extent g)
    in_strip v h = subst (HoldsNumber (strip_extent g)) (same v h) inside

    at_each : (v : ℤ) → HoldsNumber one v → IsSoftAt f g.area v
    at_each v h = subst (IsSoftAt f g.area) (same v h) at

    own : HoldsNumber one x
    own = record { low = omega (arith, ints); high = omega (arith, ints) }

    by : LiesInOneOf spans one → ⊥
    by (i, t, below, is, lies) =
        let away : AreDisjoint s t = subst (AreDisjoint s) is (apart i t below) in
        away x holds (lies x own)

-- ---- removing them

pub minus_none : (spans soft : List Span) → length soft ≡ 0 → IsRising spans → IsMinus spans soft spans
minus_none spans [] none rising = record {
  rising = rising;
  exact = λ s filled. (λ lies. (lies, All-nil (λ t. AreDisjoint s t)), λ both. both.0);
}
minus_none spans (t ∷ soft) none rising = absurd (omega (arith, none))

-- the free spans without the soft ones of the first strips of a run
pub record AreWithoutFirst (soft : List (List Span)) (start n end : ℕ) (free left : List Span) : Type 0 where
  pub rising : IsRising left
  pub exact : (s : Span) → IsFilled s →
      (LiesInOneOf left s ↔ (LiesInOneOf free s × ((k : ℕ) → start ≤ k → k < n → k < end → IsDisjointFrom (get_or soft k []) s)))

pub first_none : (soft : List (List Span)) (start end : ℕ) (free : List Span) → IsRising free → AreWithoutFirst soft start start end free free
first_none soft start end free rising = record {
  rising = rising;
  exact = λ s filled. (λ lies. (lies, λ k from less below. absurd (omega (arith, from, less))), λ both. both.0);
}

pub first_next : (soft : List (List Span)) (start n end : ℕ) (free left new : List Span) → start ≤ n → n < end → AreWithoutFirst soft start n end free left →
    IsMinus left (get_or soft n []) new → AreWithoutFirst soft start (n + 1) end free new
first_next soft start n end free left new begun within before minus = record {
  rising = minus.rising;
  exact = λ s filled. (
    λ lies.
        let both = (minus.exact s filled).0 lies in
        let was = (before.exact s filled).0 both.0 in
        (was.0, λ k from less below. each s both.1 was.1 k from less below),
    λ both.
        (minus.exact s filled).1
        ((before.exact s filled).1 (both.0, λ k from less below. both.1 k from (omega (arith, less)) below), both.1 n begun (omega arith) within),
  );
}
  where
    each : (s : Span) → IsDisjointFrom (get_or soft n []) s → ((k : ℕ) → start ≤ k → k < n → k < end → IsDisjointFrom (get_or soft k []) s) →
        (k : ℕ) → start ≤ k → k < n + 1 → k < end → IsDisjointFrom (get_or soft k []) s
    each s last earlier k from less below = elim order [
      | inl lower ↦ earlier k from lower below
      | inr same ↦ subst (λ (j : ℕ). IsDisjointFrom (get_or soft j []) s) (sym same) last
    ]
      where
        order : (k < n) ⊎ (k ≡ n)
        order = grind (arith, less)

pub first_end : (soft : List (List Span)) (start n end : ℕ) (free left : List Span) → end ≤ n → AreWithoutFirst soft start n end free left →
    AreWithoutSoft soft start end free left
first_end soft start n end free left ended all = record {
  rising = all.rising;
  exact = λ s filled. (
    λ lies. let both = (all.exact s filled).0 lies in (both.0, λ k from below. both.1 k from (omega (arith, below, ended)) below),
    λ both. (all.exact s filled).1 (both.0, λ k from less below. both.1 k from below),
  );
}

-- the free spans of the row without the soft spans of the strips near the window are free off soft
-- blockages
pub open_row : (o : Occupied) (row : ℕ) (id : CellId) (window : Span) (padding : ℤ) (start end : ℕ) (free left : List Span) →
    AreNear o.index.strips row id.team window.lo window.hi start end → IsFreeInRow o row id window padding free → AreWithoutSoft o.index.soft start end free left →
    AreOpenInRow o row id window padding left
open_row o row id window padding start end free left near is without = record {
  rising = without.rising;
  exact = λ s filled. (
    λ lies.
        let both = (without.exact s filled).0 lies in
        let found = (is.exact s filled).0 both.0 in
        record {
          within = found.0;
          in_strip = found.1;
          off_soft = λ k g there close.
              let at = (near.exact k g (slice_get_within o.index.strips k g there)).1 (subst Close (sym (get_or_from_slice_get o.index.strips k g g there)) close) in
              both.1 k at.0 at.1;
        },
    λ one.
        (without.exact s filled).1 (
          (is.exact s filled).1 (one.within, one.in_strip),
          λ k from below.
              let inside = within k below in
              one.off_soft k (get_or o.index.strips k no_strip) (slice_get-get_or o.index.strips k no_strip inside)
              ((near.exact k no_strip inside).0 (from, below)),
        ),
  );
}
  where
    Close : Strip → Type 0
    Close g = IsNear row id.team window.lo window.hi g

    no_strip : Strip
    no_strip = record { row = 0; team = 0; area = record { x1 = pos 0; y1 = pos 0; x2 = pos 0; y2 = pos 0 } }

    within : (k : ℕ) → k < end → k < length o.index.strips
    within k below = let most = near.within in omega (arith, below, most)

-- if no strip has soft spans, the free spans of the row are free off them
pub open_bare : (o : Occupied) (row : ℕ) (id : CellId) (window : Span) (padding : ℤ) (free : List Span) → ((k : ℕ) → get_or o.index.soft k [] ≡ []) →
    IsFreeInRow o row id window padding free → AreOpenInRow o row id window padding free
open_bare o row id window padding free none is = record {
  rising = is.rising;
  exact = λ s filled. (
    λ lies.
        let found = (is.exact s filled).0 lies in
        record {
          within = found.0;
          in_strip = found.1;
          off_soft = λ k g there close. subst (λ (soft : List Span). IsDisjointFrom soft s) (sym (none k)) (All-nil (λ t. AreDisjoint s t));
        },
    λ one. (is.exact s filled).1 (one.within, one.in_strip),
  );
}
