-- Spans as sets of whole numbers. Contracts speak of the numbers that a span holds, and of the
-- spans that lie in a list.
use Rattle.std.specs.Prelude.{ℤ, ◌≤ℤ◌, ◌<ℤ◌, ◌↔◌, List, All, AllPairs, Any}
use Rattle.lf_units.specs.declared.span.Span.{Span}

-- The number lies in the span: its lower end counts, its upper end does not.
pub record HoldsNumber (s : Span) (x : ℤ) : Type 0 where
  pub low : s.lo ≤ℤ x
  pub high : x <ℤ s.hi

-- The span begins below its end, so it holds a number.
abbrev pub IsFilled : Span → Type 0
IsFilled s = s.lo <ℤ s.hi

-- Each number of the inner span lies in the outer one.
abbrev pub LiesIn : Span → Span → Type 0
LiesIn inner outer = (x : ℤ) → HoldsNumber inner x → HoldsNumber outer x

-- No number lies in both spans.
abbrev pub AreDisjoint : Span → Span → Type 0
AreDisjoint s t = (x : ℤ) → HoldsNumber s x → HoldsNumber t x → ⊥

-- The span lies in one span of the list.
abbrev pub LiesInOneOf : List Span → Span → Type 0
LiesInOneOf spans s = Any (λ t. LiesIn s t) spans

-- The span shares no number with any of the list.
abbrev pub IsDisjointFrom : List Span → Span → Type 0
IsDisjointFrom spans s = All (λ t. AreDisjoint s t) spans

-- The number lies in a span of the list.
abbrev pub HeldByOne : List Span → ℤ → Type 0
HeldByOne spans x = Any (λ t. HoldsNumber t x) spans

-- Spans that rise without overlap: each is filled and ends no later than the next ones begin.
pub record IsRising (spans : List Span) : Type 0 where
  pub filled : All IsFilled spans
  pub apart : AllPairs (λ s t. s.hi ≤ℤ t.lo) spans

-- Spans in order of `lo`; they may overlap.
abbrev pub IsInOrder : List Span → Type 0
IsInOrder spans = AllPairs (λ s t. s.lo ≤ℤ t.lo) spans

-- The intersection of two lists: a filled span lies in one of `met` iff it lies in a span of each
-- list.
pub record IsMeet (a b overlapping_one : List Span) : Type 0 where
  pub rising : IsRising overlapping_one
  pub exact : (s : Span) → IsFilled s → (LiesInOneOf overlapping_one s ↔ (LiesInOneOf a s × LiesInOneOf b s))

-- The intersection of any number of lists: a filled span lies in one of `met` iff it lies in a span
-- of each list.
pub record IsMeetAll (lists : List (List Span)) (overlapping_one : List Span) : Type 0 where
  pub rising : IsRising overlapping_one
  pub exact : (s : Span) → IsFilled s → (LiesInOneOf overlapping_one s ↔ All (λ spans. LiesInOneOf spans s) lists)

-- The difference: a filled span lies in one of `left` iff it lies in one of the first list and
-- shares no number with the second.
pub record IsMinus (a b left : List Span) : Type 0 where
  pub rising : IsRising left
  pub exact : (s : Span) → IsFilled s → (LiesInOneOf left s ↔ (LiesInOneOf a s × IsDisjointFrom b s))

-- The maximal spans: a filled span lies in one of `joined` iff each of its numbers lies in a span
-- of the list.
pub record IsJoin (spans joined : List Span) : Type 0 where
  pub rising : IsRising joined
  pub exact : (s : Span) → IsFilled s → (LiesInOneOf joined s ↔ ((x : ℤ) → HoldsNumber s x → HeldByOne spans x))

-- The free spans of a range: a filled span lies in one of them iff it lies in the range and shares
-- no number with a taken span.
pub record IsFree (range : Span) (taken free : List Span) : Type 0 where
  pub rising : IsRising free
  pub exact : (s : Span) → IsFilled s → (LiesInOneOf free s ↔ (LiesIn s range × IsDisjointFrom taken s))

-- The free spans of a segment within a window: a filled span lies in one of them iff it lies in the
-- segment and the window and shares no number with a taken span.
pub record IsFreeIn (segment : Span) (taken : List Span) (window : Span) (free : List Span) : Type 0 where
  pub rising : IsRising free
  pub exact : (s : Span) → IsFilled s
      → (LiesInOneOf free s ↔ (LiesIn s segment × LiesIn s window × IsDisjointFrom taken s))
