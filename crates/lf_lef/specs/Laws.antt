-- Laws on reading LEF, whatever is read.
use Rattle.std.specs.Prelude.{◌≡◌, ℕ, List, ◌∷◌, ◌++◌, length, take, Option, Some, Ok}
use Rattle.lf_lex.specs.Tokens.{Lexeme, tokens_of}
use Rattle.lf_lex.specs.Reading.{taken, lexed_after}
use Rattle.lf_lef.specs.declared.sites.SiteParts.{SiteParts}
use Rattle.lf_lef.specs.declared.pins.Pin.{Pin}
use Rattle.lf_lef.specs.declared.macros.MacroParts.{MacroParts}
use Rattle.lf_lef.specs.Contents.{Contents}
use Rattle.lf_lef.specs.Library.{library, library_after}

-- Holds if any bytes may replace those from the first unread token on, when reading the text leaves
-- tokens unread.
abbrev pub UnreadLefBytesDoNotMatter : Contents → Contents → List ℕ → Type 0
UnreadLefBytesDoNotMatter old new text = (read : List Lexeme) (t : Lexeme) (unread : List Lexeme)
    → (tokens_of text).tokens ≡ read ++ t ∷ unread
    → library old (tokens_of text) ≡ taken new (lexed_after (t ∷ unread) (tokens_of text))
    → (bytes : List ℕ) → library_after old (take t.start text ++ bytes) ≡ Ok new

-- Holds if the value of the first statement of a kind is kept.
abbrev pub IsKept : {A : Type 0} → Option A → Option A → Type 0
IsKept old new = (said : _) → old ≡ Some said → new ≡ Some said

-- Holds if the new list begins with the old one.
abbrev pub StaysInFront : {A : Type 0} → List A → List A → Type 0
StaysInFront old new = take (length old) new ≡ old

-- Holds if the first CLASS, SYMMETRY and SIZE of a site count.
pub record FirstSiteStatementsCount (old new : SiteParts) : Type 0 where
  pub core : IsKept old.core new.core
  pub symmetry : IsKept old.symmetry new.symmetry
  pub size : IsKept old.size new.size

-- Holds if the first USE of a pin counts, and every RECT.
pub record FirstPinUseCounts (old new : Pin) : Type 0 where
  pub supply : IsKept old.supply new.supply
  pub reaches : StaysInFront old.reaches new.reaches

-- Holds if the first SIZE, ORIGIN and SYMMETRY of a macro count, and every PIN.
pub record FirstMacroStatementsCount (old new : MacroParts) : Type 0 where
  pub size : IsKept old.size new.size
  pub origin : IsKept old.origin new.origin
  pub symmetry : IsKept old.symmetry new.symmetry
  pub pins : StaysInFront old.pins new.pins
