-- A text that is written to a sink in chunks.
use Rattle.std.specs.Prelude.{◌≡◌, ℕ, Bool, true, false, List, ◌++◌, Option, take}
use Rattle.std.specs.Io.KnownBytes.{Appends}

-- All of the text is written except the waiting bytes. If the sink has failed, a front of the text
-- is written.
abbrev pub IsUnderWay : Bool → Option (List ℕ) → Option (List ℕ) → List ℕ → List ℕ → Type 0
IsUnderWay false old new text waiting = (front : List ℕ) × (text ≡ front ++ waiting) × Appends old new front
IsUnderWay true old new text waiting = (count : ℕ) × Appends old new (take count text)

-- True if a call of the sink has failed.
abbrev pub has_failed_since : Bool → Bool → Bool
has_failed_since false before = before
has_failed_since true before = true
