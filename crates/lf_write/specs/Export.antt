-- The exported text: the document's text with new placement clauses for components that are given
-- other places (LEF/DEF 5.8, DEF COMPONENTS).
use Rattle.std.specs.Prelude.{◌≢◌, ℕ, ◌+◌, ◌-◌, ◌≤◌, ◌<◌, ◌==◌, Bool, true, false, not, ◌&&◌, List, [], ◌∷◌, ◌++◌, map, length, All, IfSome, Option, Some, None, codes}
use Rattle.std.specs.Prelude.{bytes_eq, drop, filter_map, slice_get, take, if◌then◌else◌}
use Rattle.std.specs.Fmt.{signed_decimal}
use Rattle.std.specs.Option.{option_and_then}
use Rattle.std.specs.Ordering.{int_eq}
use Rattle.std.specs.List.{enumerate_from}
use Rattle.lf_orient.specs.Words.{orient_word}
use Rattle.lf_lex.specs.Splices.{Splice, Rising, spliced, joined_words}
use Rattle.lf_floorplan.specs.declared.place.Place.{Place}
use Rattle.lf_def.specs.declared.components.Component.{Component}
use Rattle.lf_def.specs.declared.components.Location.{Location}
use Rattle.lf_def.specs.declared.components.PlacementClause.{PlacementClause}
use Rattle.lf_def.specs.declared.components.PlacementKind.TheVariants.{Fixed, Cover, Placed, Unplaced}
use Rattle.lf_def.specs.Document.{Document}
use Rattle.lf_team_def.specs.Clauses.{clause_words}

-- Given places: the position of a component among all components of the text, and its place. `None`
-- unplaces it.

-- Holds if the component is neither FIXED nor COVER.
abbrev pub IsMovable : Component → Type 0
IsMovable c = IfSome c.placement (λ p. (p.kind ≢ Fixed) × (p.kind ≢ Cover))

-- Holds if the positions rise, from one on and below another.
abbrev pub PositionsRise : ℕ → ℕ → List (ℕ × Option Place) → Type 0
PositionsRise from to [] = Unit {0}
PositionsRise from to (g ∷ gs) = (from ≤ g.0) × (g.0 < to) × PositionsRise (g.0 + 1) to gs

-- Holds if components can be given these places: the positions rise and lie in the document, and
-- the components are movable.
pub record AreExportable (components : List Component) (places : List (ℕ × Option Place)) : Type 0 where
  pub rise : PositionsRise 0 (length components) places
  pub movable : All (λ g. IfSome (slice_get components g.0) (λ c. IsMovable c)) places

-- Whether a component is at a place already.

-- The location of a component. `None` for one without a clause, or UNPLACED.
abbrev pub clause_location : Component → Option Location
clause_location c = option_and_then (λ p. p.place) c.placement

-- True if the location is the place.
abbrev pub is_at : Option Location → Option Place → Bool
is_at None None = true
is_at (Some at) (Some p) = int_eq at.x p.x && int_eq at.y p.y && bytes_eq (orient_word at.orient) (orient_word p.orient)
is_at _ _ = false

abbrev pub is_placed_at : Component → Option Place → Bool
is_placed_at c given = is_at (clause_location c) given

-- What is written.

-- The new clause in place of the old one. If there is no old one, the new clause and a space
-- directly in front of the semicolon.
abbrev pub clause_splice : Option PlacementClause → ℕ → Option Place → Splice
clause_splice None semicolon given = record {
  start = semicolon;
  stop = semicolon;
  new = joined_words (clause_words given) ++ codes " ";
}
clause_splice (Some old) semicolon given = record {
  start = old.start;
  stop = old.stop;
  new = joined_words (clause_words given);
}

-- The new clause of the component.
abbrev pub splice_of : Component → Option Place → Splice
splice_of c given = clause_splice c.placement c.semicolon given

-- The change when the component is given this place. `None` if it is there already.
abbrev pub change : Component → Option Place → Option Splice
change c given = if is_placed_at c given then None else Some (splice_of c given)

-- The change when the component at this position is given this place.
abbrev pub change_at : List Component → ℕ × Option Place → Option Splice
change_at components g = option_and_then (λ c. change c g.1) (slice_get components g.0)

-- The changes for these places, in order.
abbrev pub changes : List Component → List (ℕ × Option Place) → List Splice
changes components places = filter_map (change_at components) places

-- The text with these components given these places.
abbrev pub exported : List ℕ → List Component → List (ℕ × Option Place) → List ℕ
exported text components places = spliced 0 (changes components places) text

-- What an export needs of a component, also after the document is dropped.

-- The place of a component, the offsets of its clause, whether it lacks a clause, and whether its
-- clause is plain. Without a clause both offsets are that of its semicolon. With a plain clause no
-- place is stored.
pub record ClauseFacts : Type 0 where
  pub place : Option Location
  pub start : ℕ
  pub stop : ℕ
  pub lacks : Bool
  pub plain : Bool

abbrev pub clause_at : ℕ → ℕ → Option Location → ClauseFacts
clause_at start stop place = record { place = place; start = start; stop = stop; lacks = false; plain = false }

abbrev pub plain_clause : ℕ → ℕ → ClauseFacts
plain_clause start stop = record { place = None; start = start; stop = stop; lacks = false; plain = true }

abbrev pub no_clause : ℕ → ClauseFacts
no_clause semicolon = record { place = None; start = semicolon; stop = semicolon; lacks = true; plain = false }

-- The words of the clause that is written for this location.
abbrev pub location_clause_words : Option Location → List (List ℕ)
location_clause_words None = codes "+" ∷ codes "UNPLACED" ∷ []
location_clause_words (Some at) =
    codes "+" ∷ codes "PLACED" ∷ codes "(" ∷ signed_decimal at.x ∷ signed_decimal at.y ∷ codes ")"
    ∷ orient_word at.orient ∷ []

-- True if the clause is plain: its bytes in the text are those that are written for its place.
abbrev pub is_plain : List ℕ → PlacementClause → Bool
is_plain text p = bytes_eq (take (p.stop - p.start) (drop p.start text)) (joined_words (location_clause_words p.place))

abbrev pub clause_with : Bool → PlacementClause → ClauseFacts
clause_with true p = plain_clause p.start p.stop
clause_with false p = clause_at p.start p.stop p.place

abbrev pub clause_from : List ℕ → Option PlacementClause → ℕ → ClauseFacts
clause_from text None semicolon = no_clause semicolon
clause_from text (Some p) semicolon = clause_with (is_plain text p) p

-- The clause of a component of this text.
abbrev pub clause_of : List ℕ → Component → ClauseFacts
clause_of text c = clause_from text c.placement c.semicolon

-- The new clause, followed by a space if there was no old one.
abbrev pub new_clause : Bool → Option Place → List ℕ
new_clause true given = joined_words (clause_words given) ++ codes " "
new_clause false given = joined_words (clause_words given)

abbrev pub splice_at : ClauseFacts → Option Place → Splice
splice_at k given = record { start = k.start; stop = k.stop; new = new_clause k.lacks given }

-- True if the clause is unchanged when its component is given this place. A plain clause is always
-- written again.
abbrev pub is_unchanged : ClauseFacts → Option Place → Bool
is_unchanged k given = not k.plain && is_at k.place given

-- The change when the component of this clause is given this place. `None` if the clause is
-- unchanged.
abbrev pub renewal : ClauseFacts → Option Place → Option Splice
renewal k given = if is_unchanged k given then None else Some (splice_at k given)

abbrev pub renewal_at : List ClauseFacts → ℕ × Option Place → Option Splice
renewal_at clauses g = option_and_then (λ k. renewal k g.1) (slice_get clauses g.0)

abbrev pub renewals : List ClauseFacts → List (ℕ × Option Place) → List Splice
renewals clauses places = filter_map (renewal_at clauses) places

-- The text with these places given to the components of these clauses.
abbrev pub renewed : List ℕ → List ClauseFacts → List (ℕ × Option Place) → List ℕ
renewed text clauses places = spliced 0 (renewals clauses places) text

-- Holds if each place is that of a clause, and the replaced parts are in order within the text,
-- without overlap.
pub record CanBeRenewed (text : List ℕ) (clauses : List ClauseFacts) (places : List (ℕ × Option Place)) : Type 0 where
  pub listed : All (λ g. g.0 < length clauses) places
  pub rising : Rising 0 (length text) (renewals clauses places)

-- What the exported text contains.

-- A place in the form of the document.
abbrev pub place_location : Place → Location
place_location p = record { x = p.x; y = p.y; orient = p.orient }

-- PLACED there, or UNPLACED.
abbrev pub placement_at : Option Place → PlacementClause
placement_at None = record { kind = Unplaced; place = None; start = 0; stop = 0 }
placement_at (Some p) = record { kind = Placed; place = Some (place_location p); start = 0; stop = 0 }

-- The component at the given place.
abbrev pub with_place : Option Place → Component → Component
with_place given c = if is_placed_at c given then c else record c { placement = Some (placement_at given) }

-- The place that is given to the component at this position, if any.
abbrev pub given_to : List (ℕ × Option Place) → ℕ → Option (Option Place)
given_to [] position = None
given_to (g ∷ gs) position = if g.0 == position then Some g.1 else given_to gs position

-- A component at the place that it may be given.
abbrev pub perhaps_with_place : Option (Option Place) → Component → Component
perhaps_with_place None c = c
perhaps_with_place (Some given) c = with_place given c

-- Each component at its given place. The others are unchanged.
abbrev pub with_places : List (ℕ × Option Place) → List Component → List Component
with_places places components = map (λ e. perhaps_with_place (given_to places e.0) e.1) (enumerate_from 0 components)

-- The document with these places in it.
abbrev pub given_places : List (ℕ × Option Place) → Document → Document
given_places places d = record d { components = with_places places d.components }
