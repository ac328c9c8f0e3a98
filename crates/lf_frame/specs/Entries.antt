-- The first entry of a list that breaks a rule. The rule sees the entry and those in front of it.
use Rattle.std.specs.Prelude.{ℕ, ◌<◌, Bool, true, false, List, length, take, Option, None, Some, slice_index_or, MatchOption}

-- Holds if no entry breaks the rule.
abbrev pub NoneBreaks : {A : Type 0} → (List A → A → Type 0) → List A → Type 0
NoneBreaks {A} breaks entries = (k : ℕ) (d : A) → k < length entries
    → breaks (take k entries) (slice_index_or entries k d) → ⊥

-- Holds if the entry at this place breaks the rule, and no earlier one does.
pub record IsFirst {A : Type 0} (breaks : List A → A → Type 0) (entries : List A) (place : ℕ) : Type 0 where
  pub within : place < length entries
  pub breaking : (d : A) → breaks (take place entries) (slice_index_or entries place d)
  pub none_before : (k : ℕ) (d : A) → k < place → breaks (take k entries) (slice_index_or entries k d) → ⊥

-- Holds if this is the place of the first entry that breaks the rule, or if it is `None` and no
-- entry breaks the rule.
abbrev pub FirstIs : {A : Type 0} → (List A → A → Type 0) → List A → Option ℕ → Type 0
FirstIs breaks entries found = MatchOption found (NoneBreaks breaks entries) (IsFirst breaks entries)

-- The first number so far, given whether this number counts.
abbrev pub first_counted : Option ℕ → ℕ → Bool → Option ℕ
first_counted (Some earlier) number counts = Some earlier
first_counted None number true = Some number
first_counted None number false = None
