-- A walk along a range over the other cells' entries, with the nearest place so far in place of a
-- list of free spans.
use Rattle.std.proofs.Common.{◌⊎◌, inl, inr, ◌≤ℤ◌, ◌<ℤ◌, ◌≤◌, ◌<◌, ◌+◌, ◌≡◌, ℕ, ℤ, pos, negsuc, List, [], ◌∷◌, ◌++◌, Option, None, get_or, length, refl, arith}
use Rattle.std.proofs.lemmas.Int.{ints}
use Rattle.lf_units.specs.declared.span.Span.{Span}
use Rattle.lf_units.specs.Spans.{IsFilled, IsFree, IsInOrder}
use Rattle.lf_units.specs.Steps.{AddsFilled, IsBefore, IsAfter}
use Rattle.lf_units.specs.Grids.{IsBoundedSpan}
use Rattle.lf_units.proofs.Frees.{Frees}
use Rattle.lf_gaps.specs.declared.gap_target.GapTarget.{GapTarget}
use Rattle.lf_gaps.specs.Gaps.{FindsGap}
use Rattle.lf_gaps.specs.Steps.{AddsGap}
use Rattle.lf_gaps.proofs.Nearest.{gap_added, none_fits}
use Rattle.lf_occupancy.specs.declared.strip_marks.Entry.{Entry}
use Rattle.lf_occupancy.specs.MarkLists.{wider_range, x_range}
use Rattle.lf_occupancy.proofs.Walking.{passed, taken, walk_begins, walk_ends, walk_goes_on, walk_skips}

-- the nearest place in the free spans of the entries visited, and the remaining range
abbrev pub IsSearchedTo : Span → List Span → Span → ℕ → GapTarget → Option ℤ → Type 0
IsSearchedTo range spans rest k wanted best = FindsGap (λ free. Frees range spans free rest k) wanted best

-- the list with the span, if that holds a number
with_span : (z : Span) (free : List Span) → (new : List Span) × AddsFilled z free new
with_span z free = elim order [ inl some ↦ (free ++ z ∷ [], inl (some, refl)) | inr none ↦ (free, inr (none, refl)) ]
  where
    order : (z.lo <ℤ z.hi) ⊎ (z.hi ≤ℤ z.lo)
    order = grind (arith, ints)

pub search_begins : (range : Span) (spans : List Span) (wanted : GapTarget) → IsSearchedTo range spans range 0 wanted None
search_begins range spans wanted = record { spans = []; is = walk_begins range spans [] refl; nearest = none_fits wanted }

pub search_skips : (by : ℤ) (es : List Entry) (i : ℕ) (e : Entry) (own : ℕ) (range rest : Span) (wanted : GapTarget) (best : Option ℤ) → i < length es →
    e ≡ get_or es i e → e.own ≡ own → IsSearchedTo range (taken by es own) rest (passed by es own i) wanted best →
    IsSearchedTo range (taken by es own) rest (passed by es own (i + 1)) wanted best
search_skips by es i e own range rest wanted best within is same s =
    record { spans = s.spans; is = walk_skips by es i e own range s.spans rest within is same s.is; nearest = s.nearest }

pub search_goes_on : (by : ℤ) (es : List Entry) (i : ℕ) (e : Entry) (own : ℕ) (range rest next z s : Span) (wanted : GapTarget) (best found : Option ℤ) →
    i < length es → e ≡ get_or es i e → (e.own ≡ own → ⊥) → s ≡ wider_range by (x_range e.area) → IsFilled s → IsInOrder (taken by es own) →
    IsBefore rest s z → IsAfter rest s next → AddsGap z wanted best found → IsSearchedTo range (taken by es own) rest (passed by es own i) wanted best →
    IsSearchedTo range (taken by es own) next (passed by es own (i + 1)) wanted found
search_goes_on by es i e own range rest next z s wanted best found within is apart wide filled order before after_it adds old =
    let new = with_span z old.spans in
    record {
      spans = new.0;
      is = walk_goes_on by es i e own range old.spans new.0 rest next z s within is apart wide filled order before after_it new.1 old.is;
      nearest = gap_added old.spans new.0 z wanted best found new.1 old.nearest adds;
    }

pub search_ends : (by : ℤ) (es : List Entry) (i own : ℕ) (range rest : Span) (wanted : GapTarget) (best found : Option ℤ) → length es ≤ i →
    AddsGap rest wanted best found → IsSearchedTo range (taken by es own) rest (passed by es own i) wanted best →
    FindsGap (IsFree range (taken by es own)) wanted found
search_ends by es i own range rest wanted best found all adds old =
    let new = with_span rest old.spans in
    record {
      spans = new.0;
      is = walk_ends by es i own range old.spans new.0 rest all old.is new.1;
      nearest = gap_added old.spans new.0 rest wanted best found new.1 old.nearest adds;
    }

-- a gap in a range near zero
pub gap_bounded : (range spans_rest z : Span) (spans free : List Span) (k : ℕ) → negsuc 2147483647 ≤ℤ range.lo → range.hi ≤ℤ pos 2147483647 →
    Frees range spans free spans_rest k → z.lo ≡ spans_rest.lo → z.hi ≤ℤ spans_rest.hi → IsFilled z → IsBoundedSpan z
gap_bounded range spans_rest z spans free k left right f begins ends filled =
    let low = f.low in
    let high = f.high in
    record {
      low = record { low = omega (arith, ints, left, low, begins); high = omega (arith, ints, right, high, ends, filled) };
      high = record { low = omega (arith, ints, left, low, begins, filled); high = omega (arith, ints, right, high, ends) };
    }
