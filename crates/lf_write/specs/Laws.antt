-- Laws on exported texts.
use Rattle.std.specs.Prelude.{◌≡◌, ◌↔◌, ℕ, true, List, length, map, All, IfSome, IsTrue, Option, option_map, Ok, slice_get}
use Rattle.lf_floorplan.specs.declared.place.Place.{Place}
use Rattle.lf_def.specs.declared.components.Component.{Component}
use Rattle.lf_def.specs.Ranges.{IsLocation}
use Rattle.lf_def.specs.Document.{Document, document_of}
use Rattle.lf_def.specs.Laws.{document_without_places}
use Rattle.lf_write.specs.Export.{AreExportable, CanBeRenewed, PositionsRise, clause_of, clause_location, place_location, is_placed_at, with_place, exported, given_places, renewed}

-- Holds if a DEF text can hold the coordinates of the given place.
abbrev pub FitsText : Option Place → Type 0
FitsText given = IfSome given (λ p. IsLocation (place_location p))

-- Holds if reading the text gives the document with these places in it, except for the positions of
-- its components in the text.
abbrev pub WrittenReadsBack : List ℕ → List (ℕ × Option Place) → Document → Type 0
WrittenReadsBack text places d =
    (again : Document) × (document_of text ≡ Ok again)
    × (document_without_places again ≡ document_without_places (given_places places d))

-- For any document, the exported text reads back.
abbrev pub ExportReadsBack : Type 0
ExportReadsBack = (text : List ℕ) (d : Document) (places : List (ℕ × Option Place)) → document_of text ≡ Ok d
    → PositionsRise 0 (length d.components) places
    → All (λ g. FitsText g.1) places → WrittenReadsBack (exported text d.components places) places d

-- If each listed component is at its place already, the exported text is the text.
abbrev pub NothingChanges : Type 0
NothingChanges = (text : List ℕ) (components : List Component) (places : List (ℕ × Option Place))
    → All (λ g. IfSome (slice_get components g.0) (λ c. is_placed_at c g.1 ≡ true)) places
    → exported text components places ≡ text

-- The stored clauses of a text's components are enough for its export.
pub record KeptClausesSuffice : Type 0 where
  pub same : (text : List ℕ) (components : List Component) (places : List (ℕ × Option Place))
      → CanBeRenewed text (map (clause_of text) components) places
      → renewed text (map (clause_of text) components) places ≡ exported text components places
  pub ready : (text : List ℕ) (d : Document) (places : List (ℕ × Option Place)) → document_of text ≡ Ok d
      → AreExportable d.components places
      → CanBeRenewed text (map (clause_of text) d.components) places

-- A component is at a place if and only if its location is that place. Without a location it is at
-- no place.
abbrev pub LocationIsPlace : Type 0
LocationIsPlace = (c : Component) (given : Option Place) → IsTrue (is_placed_at c given)
    ↔ (clause_location c ≡ option_map place_location given)

-- A component that is given a place is there, with the same name and macro.
abbrev pub GivenPlaceIsTaken : Type 0
GivenPlaceIsTaken = (c : Component) (given : Option Place)
    → (clause_location (with_place given c) ≡ option_map place_location given)
    × ((with_place given c).name ≡ c.name) × ((with_place given c).mac ≡ c.mac)
