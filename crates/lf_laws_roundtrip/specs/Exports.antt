-- Loaded designs whose cells are given places: the exported text, loaded again (DEF COMPONENTS).
use Rattle.std.specs.Prelude.{◌≡◌, ℕ, List, All, Option, map, Ok}
use Rattle.lf_def.specs.Document.{Document, document_of}
use Rattle.lf_floorplan.specs.declared.place.Place.{Place}
use Rattle.lf_floorplan.specs.declared.loaded.Loaded.{Loaded}
use Rattle.lf_frame.specs.Findings.{LoadInputs, IsAccepted}
use Rattle.lf_frame.specs.Loads.{IsLoadedFrom}
use Rattle.lf_write.specs.Export.{AreExportable, exported}
use Rattle.lf_write.specs.Laws.{FitsText}
use Rattle.lf_laws_roundtrip.specs.Moved.{cell_without_place}

-- Holds if there is a place for each cell of the design, in the order of its cells, by the
-- positions of their components.
abbrev pub AreForCells : Loaded → List (ℕ × Option Place) → Type 0
AreForCells l places = map (λ g. g.0) places ≡ map (λ c. c.component) l.cells

-- The cells of a loaded design can be given places.
abbrev pub LoadedIsExportable : Type 0
LoadedIsExportable = (i : LoadInputs) (l : Loaded) (places : List (ℕ × Option Place)) → IsLoadedFrom i l
    → AreForCells l places
    → AreExportable i.document.components places

-- The inputs, with this document instead of theirs.
abbrev pub with_document : LoadInputs → Document → LoadInputs
with_document i d = record i { document = d }

-- Holds if the second design has the first one's frame and cells, and the cells are at the places.
pub record IsAtPlaces (l m : Loaded) (places : List (Option Place)) : Type 0 where
  pub frame : m.frame ≡ l.frame
  pub cells : map cell_without_place m.cells ≡ map cell_without_place l.cells
  pub at_places : map (λ c. c.place) m.cells ≡ places

-- Holds if the text reads, and its document is accepted with the same library and limits. Each
-- design loaded from it must be the given one at the places.
pub record LoadsAtPlaces (i : LoadInputs) (l : Loaded) (places : List (Option Place)) (text : List ℕ) : Type 0 where
  pub again : Document
  pub read : document_of text ≡ Ok again
  pub accepted : IsAccepted (with_document i again)
  pub loaded : (m : Loaded) → IsLoadedFrom (with_document i again) m → IsAtPlaces l m places

-- A design that is exported with its cells at other places loads again as the design at these
-- places.
abbrev pub ExportsLoadAgain : Type 0
ExportsLoadAgain = (text : List ℕ) (i : LoadInputs) (l : Loaded) (places : List (ℕ × Option Place))
    → document_of text ≡ Ok i.document → IsLoadedFrom i l
    → AreForCells l places → All (λ g. FitsText g.1) places
    → LoadsAtPlaces i l (map (λ g. g.1) places) (exported text i.document.components places)
