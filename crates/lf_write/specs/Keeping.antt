-- The stored clauses of the components of a text.
use Rattle.std.specs.Prelude.{◌≡◌, ℕ, ℤ, ◌+◌, ◌<◌, ◌≤◌, Bool, true, false, List, [], ◌++◌, map, length, get_or, IfSome, Option, Some, None}
use Rattle.lf_def.specs.declared.components.Component.{Component}
use Rattle.lf_def.specs.declared.components.Location.{Location}
use Rattle.lf_write.specs.declared.kept_clauses.Entry.{Entry}
use Rattle.lf_write.specs.declared.kept_clauses.Entry.TheVariants.{Plain, Other}
use Rattle.lf_write.specs.declared.kept_clauses.Form.{Form}
use Rattle.lf_write.specs.declared.kept_clauses.Form.TheVariants.{Plain as PlainForm, Lacking, Located}
use Rattle.lf_write.specs.Export.{ClauseFacts, no_clause, plain_clause}

-- The place of a clause of this form with these coordinates.
abbrev pub clause_place : ℤ → ℤ → Form → Option Location
clause_place x y (Located orient) = Some (record { x = x; y = y; orient = orient })
clause_place x y _ = None

abbrev pub is_lacking : Form → Bool
is_lacking Lacking = true
is_lacking _ = false

abbrev pub is_of_plain : Form → Bool
is_of_plain PlainForm = true
is_of_plain _ = false

-- The clause of this form between these offsets.
abbrev pub clause_from_form : ℕ → ℕ → ℤ → ℤ → Form → ClauseFacts
clause_from_form start stop x y f = record {
  place = clause_place x y f;
  start = start;
  stop = stop;
  lacks = is_lacking f;
  plain = is_of_plain f;
}

-- The clause of an entry, given the clauses that are not plain.
abbrev pub clause_in : List ClauseFacts → Entry → ClauseFacts
clause_in others (Plain bytes start) = plain_clause start (start + bytes)
clause_in others (Other at) = get_or others at (no_clause 0)

-- The clauses of the entries, and those after them.
abbrev pub all_in : List ClauseFacts → List Entry → List ClauseFacts → List ClauseFacts
all_in others entries far = map (clause_in others) entries ++ far

-- Holds if the entry is a plain clause, or the position of one of this number of others.
abbrev pub IsEntryWithin : ℕ → Entry → Type 0
IsEntryWithin n (Plain bytes start) = Unit {0}
IsEntryWithin n (Other at) = at < n

-- Holds if this is the entry of the clause, whatever the others are.
abbrev pub Denotes : Entry → ClauseFacts → Type 0
Denotes (Plain bytes start) clause = plain_clause start (start + bytes) ≡ clause
Denotes (Other at) clause = ⊥

-- Holds if this is the entry of the clause, after more clauses may have been appended to the
-- others.
pub record KeepsClause (old new : List ClauseFacts) (entry : Entry) (clause : ClauseFacts) : Type 0 where
  pub more : List ClauseFacts
  pub grown : new ≡ old ++ more
  pub is : clause_in new entry ≡ clause
  pub within : IsEntryWithin (length new) entry

-- The same, if no clause comes after those of the entries.
pub record IsNext (old new far : List ClauseFacts) (entry : Entry) (clause : ClauseFacts) : Type 0 where
  pub none : far ≡ []
  pub kept : KeepsClause old new entry clause

-- Holds if the clause of the component, if it has one, is in a text of this length.
abbrev pub IsInText : ℕ → Component → Type 0
IsInText len c = IfSome c.placement (λ p. (p.start ≤ p.stop) × (p.stop ≤ len))
