-- What is seen of a connection's writer: the bytes it holds, whether all are flushed, and whether a
-- call has failed.
use Rattle.std.specs.Prelude.{◌≡◌, ℕ, Bool, true, List, take, Option}
use Rattle.std.specs.Io.KnownBytes.{Appends}

-- The bytes if known, whether everything written is flushed, and whether a call has failed.
pub record Writer : Type 0 where
  pub contents : Option (List ℕ)
  pub flushed : Bool
  pub failed : Bool

abbrev pub writer : Option (List ℕ) → Bool → Bool → Writer
writer contents flushed failed = record { contents = contents; flushed = flushed; failed = failed }

-- The text was written whole, after the earlier bytes, and everything is flushed. No call failed.
pub record SendsText (old new : Writer) (text : List ℕ) : Type 0 where
  pub written : Appends old.contents new.contents text
  pub flushed : new.flushed ≡ true
  pub healthy : new.failed ≡ old.failed

-- A front of the text was written, perhaps nothing or all of it, and then a call failed.
pub record BreaksText (old new : Writer) (text : List ℕ) : Type 0 where
  pub count : ℕ
  pub written : Appends old.contents new.contents (take count text)
  pub failed : new.failed ≡ true
