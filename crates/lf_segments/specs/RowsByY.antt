-- The rows of a frame in order of y.
use Rattle.std.specs.Prelude.{◌≡◌, ◌≢◌, ◌⊎◌, ◌↔◌, ℕ, ◌+◌, ◌<◌, ℤ, ◌≤ℤ◌, ◌<ℤ◌, List, [], ◌∷◌, ◌++◌, All, AllPairs, Any, Contains, Some, length, slice_get}
use Rattle.std.specs.Prelude.{Bool, true, false, if◌then◌else◌, int_le, int_lt}
use Rattle.lf_floorplan.specs.declared.frame.Frame.{Frame}
use Rattle.lf_floorplan.specs.declared.parts.Row.{Row}
use Rattle.lf_segments.specs.declared.rows_by_y.RowEntry.{RowEntry}

-- The entry of a row: its corner, and its position in the frame.
abbrev pub entry : ℕ → Row → RowEntry
entry number r = record { y = r.y; x = r.x; row = number }

-- The entries of rows in their own order; the first has this position.
abbrev pub entries_from : ℕ → List Row → List RowEntry
entries_from number [] = []
entries_from number (r ∷ rows) = entry number r ∷ entries_from (number + 1) rows

-- The entry is that of a row of the frame.
pub record IsEntryOf (f : Frame) (e : RowEntry) : Type 0 where
  pub row : Row
  pub is_in_place : slice_get f.rows e.row ≡ Some row
  pub is : e ≡ entry e.row row

-- The first lies lower, or both have the same y and the second does not lie further left.
abbrev pub PrecedesByY : RowEntry → RowEntry → Type 0
PrecedesByY a b = (a.y <ℤ b.y) ⊎ ((a.y ≡ b.y) × (a.x ≤ℤ b.x))

-- Each row of the frame has one entry, and the entries are in order of y, those at the same y in
-- order of x.
pub record IsRowsByY (f : Frame) (entries : List RowEntry) : Type 0 where
  pub known : All (IsEntryOf f) entries
  pub each : (n : ℕ) → n < length f.rows → Any (λ e. e.row ≡ n) entries
  pub once : AllPairs (λ a b. a.row ≢ b.row) entries
  pub in_order : AllPairs PrecedesByY entries

-- The entries whose y is within a range, which are consecutive: those in front of them are below
-- it, those after them above.
pub record IsRunByY (Below Within Above : ℤ → Type 0) (entries run : List RowEntry) : Type 0 where
  pub before : List RowEntry
  pub after_it : List RowEntry
  pub parts : entries ≡ before ++ (run ++ after_it)
  pub below : All (λ e. Below e.y) before
  pub within : All (λ e. Within e.y) run
  pub above : All (λ e. Above e.y) after_it

-- The entries at this y.
abbrev pub IsRunAt : List RowEntry → ℤ → List RowEntry → Type 0
IsRunAt entries y run = IsRunByY (λ v. v <ℤ y) (λ v. v ≡ y) (λ v. y <ℤ v) entries run

-- The entries from one y on and below another; empty if the second is not above the first.
abbrev pub IsRunBetween : List RowEntry → ℤ → ℤ → List RowEntry → Type 0
IsRunBetween entries from to run = IsRunByY (λ v. v <ℤ from) (λ v. (from ≤ℤ v) × (v <ℤ to)) (λ v. to ≤ℤ v) entries run

-- The run at a y has exactly the rows of a frame at that y.
abbrev pub RunAtHasRows : Type 0
RunAtHasRows =
    (f : Frame) (entries run : List RowEntry) (y : ℤ) (n : ℕ) (r : Row) → IsRowsByY f entries → IsRunAt entries y run
    → slice_get f.rows n ≡ Some r →
    (Any (λ e. e.row ≡ n) run ↔ (r.y ≡ y))

-- The run between two y has exactly the rows of a frame from the first on and below the second.
abbrev pub RunBetweenHasRows : Type 0
RunBetweenHasRows =
    (f : Frame) (entries run : List RowEntry) (from to : ℤ) (n : ℕ) (r : Row) → IsRowsByY f entries
    → IsRunBetween entries from to run →
    slice_get f.rows n ≡ Some r → (Any (λ e. e.row ≡ n) run ↔ ((from ≤ℤ r.y) × (r.y <ℤ to)))

-- The entry lies below y, or at y and not right of x.
abbrev pub IsUpToPoint : ℤ → ℤ → RowEntry → Type 0
IsUpToPoint y x e = (e.y <ℤ y) ⊎ ((e.y ≡ y) × (e.x ≤ℤ x))

-- True if the entry lies below y, or at y and not right of x.
abbrev pub is_up_to_point : ℤ → ℤ → RowEntry → Bool
is_up_to_point y x e = if int_lt e.y y then true else (if int_lt y e.y then false else int_le e.x x)

-- The entry is at this y, and not right of x.
pub record BeginsUpTo (y x : ℤ) (e : RowEntry) : Type 0 where
  pub at_level : e.y ≡ y
  pub left : e.x ≤ℤ x

-- The entry farthest right of those at this y that are not right of x.
pub record IsLastAt (entries : List RowEntry) (y x : ℤ) (e : RowEntry) : Type 0 where
  pub there : Contains entries e
  pub begins : BeginsUpTo y x e
  pub last : All (λ other. BeginsUpTo y x other → other.x ≤ℤ e.x) entries
