-- Printed components with all that their entries may have besides a placement clause (DEF
-- COMPONENTS).
use Rattle.std.specs.Prelude.{◌≡◌, ◌≢◌, ℕ, List, [], ◌∷◌, ◌++◌, All, IfSome, map, ℤ, Option, Some, None, codes}
use Rattle.lf_lex.specs.Tokens.{Lexed, Lexeme, PlainToken, plain, with_tokens}
use Rattle.lf_lex.specs.Reading.{Reader, taken}
use Rattle.lf_lex.specs.Splices.{plain_word}
use Rattle.lf_def.specs.declared.components.Component.{Component}
use Rattle.lf_def.specs.declared.components.Location.{Location}
use Rattle.lf_def.specs.declared.components.PlacementClause.{PlacementClause}
use Rattle.lf_def.specs.declared.components.PlacementKind.{PlacementKind}
use Rattle.lf_def.specs.declared.components.PlacementKind.TheVariants.{Fixed, Cover, Placed, Unplaced}
use Rattle.lf_def.specs.Components.{component}
use Rattle.lf_def.specs.Laws.{without_places}
use Rattle.lf_def.specs.Ranges.{IsLocation}
use Rattle.lf_orient.specs.Words.{orient_word}
use Rattle.lf_def.specs.Printed.{kind_word, IsPrintedComponent}

-- A component, and the other contents of its entry.
pub record PrintedComponent : Type 0 where
  pub component : Component
  -- Words and quoted texts in front of the first clause.
  pub items : List PlainToken
  -- Skipped clauses, each after its plus: those in front of the placement clause, and those after
  -- it.
  pub before : List (List PlainToken)
  pub after : List (List PlainToken)
  -- The point and the orientation after UNPLACED, if they are printed.
  pub point : Option Location

-- What is skipped.

-- Holds if the word or quoted text neither ends the entry nor begins a clause.
pub record IsInner (t : PlainToken) : Type 0 where
  pub stop : t.text ≢ codes ";"
  pub plus : t.text ≢ codes "+"

-- Holds for a clause, after its plus, whose first word names no placement. A plus alone is such a
-- clause too.
abbrev pub IsOtherClause : List PlainToken → Type 0
IsOtherClause [] = Unit {0}
IsOtherClause (t ∷ ts) = ((kind : PlacementKind) → t.text ≢ kind_word kind) × All IsInner (t ∷ ts)

pub record IsPrintedEntry (p : PrintedComponent) : Type 0 where
  pub component : IsPrintedComponent p.component
  pub items : All IsInner p.items
  pub before : All IsOtherClause p.before
  pub after : All IsOtherClause p.after
  pub point : IfSome p.point (λ at. IsLocation at)

-- What is printed.

-- + .., and then the rest.
abbrev pub clauses_tokens : List (List PlainToken) → List PlainToken → List PlainToken
clauses_tokens [] rest = rest
clauses_tokens (c ∷ cs) rest = plain_word (codes "+") ∷ (c ++ clauses_tokens cs rest)

-- The place in a placement clause: that of the component, or the point after UNPLACED, which is
-- ignored.
abbrev pub printed_place : PlacementKind → Option Location → Option Location → Option Location
printed_place Unplaced place point = point
printed_place Fixed place point = place
printed_place Cover place point = place
printed_place Placed place point = place

-- ( x y ) orient
abbrev pub place_words : (ℤ → List ℕ) → Option Location → List (List ℕ)
place_words print None = []
place_words print (Some p) = codes "(" ∷ print p.x ∷ print p.y ∷ codes ")" ∷ orient_word p.orient ∷ []

-- [+ FIXED pt orient | + COVER pt orient | + PLACED pt orient | + UNPLACED [pt orient]], and then
-- the rest.
abbrev pub placement_tokens : (ℤ → List ℕ) → Option PlacementClause → Option Location
    → List PlainToken → List PlainToken
placement_tokens print None point rest = rest
placement_tokens print (Some p) point rest = plain_word (codes "+") ∷ plain_word
    (kind_word p.kind) ∷ (map plain_word (place_words print (printed_place p.kind p.place point)) ++ rest)

-- name macro .. {+ ..} placement {+ ..} ;
abbrev pub entry_tokens : (ℤ → List ℕ) → PrintedComponent → List PlainToken
entry_tokens print p =
    plain_word p.component.name ∷ plain_word p.component.mac ∷ (p.items ++ clauses_tokens p.before
    (placement_tokens print p.component.placement p.point (clauses_tokens p.after (plain_word (codes ";") ∷ []))))

-- Each entry after its minus, and then the rest.
abbrev pub entries_tokens : {A : Type 0} → (A → List PlainToken) → List A → List PlainToken → List PlainToken
entries_tokens tokens [] rest = rest
entries_tokens tokens (x ∷ xs) rest = plain_word (codes "-") ∷ (tokens x ++ entries_tokens tokens xs rest)

-- count ; entries END COMPONENTS
abbrev pub components_tokens : (ℤ → List ℕ) → List ℕ → List PrintedComponent → List PlainToken
components_tokens print count ps =
    plain_word count ∷ plain_word (codes ";") ∷ entries_tokens (entry_tokens print) ps
    (plain_word (codes "END") ∷ plain_word (codes "COMPONENTS") ∷ [])

abbrev pub printed_component : PrintedComponent → Component
printed_component p = p.component

-- Holds if these tokens read as the component, except for its offsets, whatever follows.
abbrev pub EntryReadsBack : List PlainToken → Component → Type 0
EntryReadsBack printed c = (tokens : List Lexeme) → map plain tokens ≡ printed → (after_it : Lexed)
    → (read : Component) × (component (with_tokens tokens after_it) ≡ taken read after_it)
    × (without_places read ≡ without_places c)

-- The same for a list of components.
abbrev pub EntriesReadBack : Reader (List Component) → List PlainToken → List Component → Type 0
EntriesReadBack reader printed cs = (tokens : List Lexeme) → map plain tokens ≡ printed → (after_it : Lexed)
    → (read : List Component) × (reader (with_tokens tokens after_it) ≡ taken read after_it)
    × (map without_places read ≡ map without_places cs)
