-- The names, places and headers of frames and cells that a DEF text can hold.
use Rattle.std.specs.Prelude.{◌≡◌, ◌≢◌, ℕ, ◌≤◌, List, ◌∷◌, length, true, All, IfSome, Some, codes, slice_get}
use Rattle.lf_lex.specs.Tokens.{quoted_len}
use Rattle.std.specs.Prelude.{false}
use Rattle.lf_lex.specs.Splices.{is_word_text}
use Rattle.lf_def.specs.Printed.{IsWord}
use Rattle.lf_def.specs.Ranges.{IsLocation}
use Rattle.lf_floorplan.specs.declared.frame.Frame.{Frame}
use Rattle.lf_floorplan.specs.declared.parts.Header.{Header}
use Rattle.lf_floorplan.specs.Boxes.{macro_of}
use Rattle.lf_cells.specs.declared.cell.Cell.{Cell}
use Rattle.lf_frame.specs.Loads.{as_location}

-- A word of a text, other than a semicolon. Its first byte begins no comment and no quoted text.
pub record IsSpelledWord (w : List ℕ) : Type 0 where
  pub spelled : is_word_text w ≡ true
  pub other : w ≢ codes ";"

-- A name that a text can hold.
pub record IsSpelledName (n : List ℕ) : Type 0 where
  pub word : IsWord n
  pub spelled : is_word_text n ≡ true

-- A quoted text with its marks. Its last byte is the closing mark.
pub record IsQuotedText (q : List ℕ) : Type 0 where
  pub more : List ℕ
  pub text : q ≡ 34 ∷ more
  pub closed : quoted_len false more ≡ Some (length more)

-- The words and quoted texts of a header that a text can hold.
pub record IsSpelledHeader (h : Header) : Type 0 where
  pub version : IsSpelledWord h.version
  pub divider : IsQuotedText h.divider
  pub brackets : IsQuotedText h.brackets
  pub design : IsSpelledName h.design

-- A cell whose name and macro a text can name, and whose working place it can hold.
pub record IsSpelledCell (f : Frame) (c : Cell) : Type 0 where
  pub name : IsSpelledName c.name
  pub mac : IsSpelledName (macro_of f c.mac).name
  pub place : IfSome c.working (λ p. IsLocation (as_location p))

-- Holds if a text can bind the group of these cells to the region with this name: no pattern is a
-- plus, and the region is no parenthesis.
pub record CanBeBound (name : List ℕ) (cells : List Cell) : Type 0 where
  pub patterns : All (λ c. c.name ≢ codes "+") cells
  pub region : All (λ c. name ≢ codes "(") cells

-- Holds if a text can contain what the frame has of the team with this number, and these cells of
-- the team.
pub record IsSpelledTeam (f : Frame) (number : ℕ) (cells : List Cell) : Type 0 where
  pub header : IsSpelledHeader f.header
  pub fence : IfSome (slice_get f.teams number) (λ t. IsSpelledName t.name × CanBeBound t.name cells)
  pub few : length cells ≤ 4000000
  pub each : All (IsSpelledCell f) cells
