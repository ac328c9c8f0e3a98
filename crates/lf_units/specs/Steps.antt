-- Results of the steps of a walk over spans, by the ends of the spans.
use Rattle.std.specs.Prelude.{◌≡◌, ◌⊎◌, ℤ, ◌≤ℤ◌, List, [], ◌∷◌, ◌++◌}
use Rattle.lf_units.specs.declared.span.Span.{Span}
use Rattle.lf_units.specs.Spans.{IsFilled}

-- The outer span contains the inner one.
pub record ContainsSpan (s t : Span) : Type 0 where
  pub low : t.lo ≤ℤ s.lo
  pub high : s.hi ≤ℤ t.hi

-- z lies in both spans and contains their intersection.
pub record IsOverlap (x y z : Span) : Type 0 where
  pub first : ContainsSpan z x
  pub second : ContainsSpan z y
  pub greatest : (s : Span) → ContainsSpan s x → ContainsSpan s y → ContainsSpan s z

-- The span is appended if it is filled; otherwise nothing is appended.
abbrev pub AddsFilled : Span → List Span → List Span → Type 0
AddsFilled z old new = (IsFilled z × (new ≡ old ++ z ∷ [])) ⊎ ((z.hi ≤ℤ z.lo) × (new ≡ old))

-- The part of the rest in front of the span.
pub record IsBefore (rest span z : Span) : Type 0 where
  pub same : z.lo ≡ rest.lo
  pub near : z.hi ≤ℤ span.lo
  pub within : z.hi ≤ℤ rest.hi
  pub greatest : (x : ℤ) → x ≤ℤ span.lo → x ≤ℤ rest.hi → x ≤ℤ z.hi

-- The part of the rest after the span.
pub record IsAfter (rest span z : Span) : Type 0 where
  pub same : z.hi ≡ rest.hi
  pub past : span.hi ≤ℤ z.lo
  pub within : rest.lo ≤ℤ z.lo
  pub least : (x : ℤ) → span.hi ≤ℤ x → rest.lo ≤ℤ x → z.lo ≤ℤ x

-- The last span, extended to the end of the next one if that is later.
pub record IsLonger (last next z : Span) : Type 0 where
  pub same : z.lo ≡ last.lo
  pub first : last.hi ≤ℤ z.hi
  pub second : next.hi ≤ℤ z.hi
  pub least : (x : ℤ) → last.hi ≤ℤ x → next.hi ≤ℤ x → z.hi ≤ℤ x
