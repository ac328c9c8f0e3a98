-- Laws on reading DEF, whatever is read.
use Rattle.std.specs.Prelude.{◌≡◌, ◌⊎◌, codes, true, ℕ, ◌+◌, ◌≤◌, ◌<◌, List, [], ◌∷◌, ◌++◌, map, length, take, Option, Some, None, Ok}
use Rattle.std.specs.Option.{option_map}
use Rattle.lf_lex.specs.Tokens.{Lexed, Lexeme, plain, tokens_of, with_tokens}
use Rattle.lf_orient.specs.declared.Orient.{Orient}
use Rattle.lf_lex.specs.Reading.{taken, lexed_after, block, is}
use Rattle.lf_def.specs.declared.components.Component.{Component}
use Rattle.lf_def.specs.declared.components.PlacementClause.{PlacementClause}
use Rattle.lf_def.specs.declared.doc_parts.DocParts.{DocParts}
use Rattle.lf_def.specs.Coordinates.{orient_of}
use Rattle.lf_def.specs.Components.{component, is_placement_word}
use Rattle.lf_def.specs.Document.{Document, document_of, def_statement, no_parts}

-- Values without their offsets.

abbrev pub placement_without_places : PlacementClause → PlacementClause
placement_without_places p = record { kind = p.kind; place = p.place; start = 0; stop = 0 }

abbrev pub without_places : Component → Component
without_places c =
    record { name = c.name; mac = c.mac; placement = option_map placement_without_places c.placement; semicolon = 0 }

abbrev pub document_without_places : Document → Document
document_without_places d = record d { components = map without_places d.components }

-- Holds if a component takes a run of tokens, and tokens with the same texts give the same
-- component, except for its offsets.
abbrev pub ComponentReadsAlike : Type 0
ComponentReadsAlike = (l m : Lexed) (c : Component) → component l ≡ taken c m
    → (run : List Lexeme) × (l ≡ with_tokens run m)
    × ((same : List Lexeme) → map plain same ≡ map plain run → (lexed_after : Lexed)
    → (again : Component) × (component (with_tokens same lexed_after) ≡ taken again lexed_after)
    × (without_places again ≡ without_places c))

-- Holds if texts whose tokens have the same bytes give the same document, except for offsets.
abbrev pub ReadsTheSame : List ℕ → List ℕ → Type 0
ReadsTheSame a b = map plain (tokens_of a).tokens ≡ map plain (tokens_of b).tokens
    → (d : Document) → document_of a ≡ Ok d
    → (again : Document) × (document_of b ≡ Ok again) × (document_without_places again ≡ document_without_places d)

-- Holds if any bytes may replace those from the first unread token on, when the statements of the
-- text leave tokens unread.
abbrev pub UnreadDefBytesDoNotMatter : List ℕ → Type 0
UnreadDefBytesDoNotMatter text = (read : List Lexeme) (t : Lexeme) (unread : List Lexeme) (parts : DocParts)
    → (tokens_of text).tokens ≡ read ++ t ∷ unread
    → block def_statement no_parts (tokens_of text) ≡ taken parts (lexed_after (t ∷ unread) (tokens_of text))
    → (bytes : List ℕ) → document_of (take t.start text ++ bytes) ≡ document_of text

-- The offsets of placement clauses.

-- ( x y ) orient
abbrev pub IsPlace : List Lexeme → Type 0
IsPlace (start ∷ x ∷ y ∷ stop ∷ o ∷ []) = (is (codes "(") start ≡ true) × (is (codes ")") stop ≡ true)
    × ((orient : Orient) × (orient_of o ≡ Ok orient))
IsPlace _ = ⊥

-- Holds if the last of these tokens ends at this offset.
abbrev pub LastEnds : ℕ → Lexeme → List Lexeme → Type 0
LastEnds stop t [] = t.stop ≡ stop
LastEnds stop t (u ∷ us) = LastEnds stop u us

-- The tokens of a placement clause: its plus, its word, and a place, which UNPLACED may lack. The
-- clause extends from the first byte of its plus to the last byte of its last token.
pub record IsClause (p : PlacementClause) (clause : List Lexeme) : Type 0 where
  pub plus : Lexeme
  pub word : Lexeme
  pub more : List Lexeme
  pub tokens : clause ≡ plus ∷ word ∷ more
  pub plus_is : is (codes "+") plus ≡ true
  pub word_is : is_placement_word word ≡ true
  pub more_is : ((is (codes "UNPLACED") word ≡ true) × (more ≡ [])) ⊎ IsPlace more
  pub start : p.start ≡ plus.start
  pub stop : LastEnds p.stop word more

-- Holds if the clause is among these tokens.
pub record ClauseAmong (tokens : List Lexeme) (p : PlacementClause) : Type 0 where
  pub before : List Lexeme
  pub clause : List Lexeme
  pub after : List Lexeme
  pub whole : tokens ≡ before ++ (clause ++ after)
  pub is : IsClause p clause

-- Holds if the component has no placement clause, or its clause is among these tokens.
abbrev pub HasClause : List Lexeme → Option PlacementClause → Type 0
HasClause tokens None = Unit {0}
HasClause tokens (Some p) = ClauseAmong tokens p

-- Holds if these are the tokens of the component: its placement clause is among them, and its
-- semicolon is the last.
pub record IsComponentOf (tokens : List Lexeme) (c : Component) : Type 0 where
  pub front : List Lexeme
  pub last : Lexeme
  pub whole : tokens ≡ front ++ last ∷ []
  pub last_is : is (codes ";") last ≡ true
  pub semicolon : c.semicolon ≡ last.start
  pub clause : HasClause front c.placement

abbrev pub ComponentsHaveClauses : Type 0
ComponentsHaveClauses = (l m : Lexed) (c : Component) → component l ≡ taken c m
    → (run : List Lexeme) × (l ≡ with_tokens run m) × IsComponentOf run c

-- Holds if the placement clause, if any, is within these offsets.
abbrev pub ClauseWithin : ℕ → ℕ → Option PlacementClause → Type 0
ClauseWithin from to None = Unit {0}
ClauseWithin from to (Some p) = (from ≤ p.start) × (p.start < p.stop) × (p.stop ≤ to)

-- Holds if the components are in order within these offsets, without overlap, each with its clause
-- in front of its semicolon.
abbrev pub AreInTextOrder : ℕ → ℕ → List Component → Type 0
AreInTextOrder from to [] = from ≤ to
AreInTextOrder from to (c ∷ cs) = (from ≤ c.semicolon) × ClauseWithin from c.semicolon c.placement
    × AreInTextOrder (c.semicolon + 1) to cs

-- Holds if the components of the text's document are in the text in order.
abbrev pub ComponentsAreInTextOrder : List ℕ → Type 0
ComponentsAreInTextOrder text = (d : Document) → document_of text ≡ Ok d → AreInTextOrder 0 (length text) d.components
