-- Designs that are loaded again with their movable components elsewhere (DEF COMPONENTS).
use Rattle.std.specs.Prelude.{◌≡◌, List, None, Option, map, option_map}
use Rattle.lf_def.specs.declared.components.Location.{Location}
use Rattle.lf_def.specs.Document.{Document}
use Rattle.lf_def.specs.Laws.{document_without_places}
use Rattle.lf_floorplan.specs.declared.frame.Frame.{Frame}
use Rattle.lf_floorplan.specs.declared.loaded.LoadedCell.{LoadedCell}
use Rattle.lf_floorplan.specs.declared.loaded.Loaded.{Loaded}
use Rattle.lf_frame.specs.Findings.{LoadInputs, IsAccepted}
use Rattle.lf_frame.specs.Loads.{location, movables, as_location, IsFrameOf, IsLoadedFrom}
use Rattle.lf_frame.specs.Alike.{without_movable_place}

-- The parts of a document that teams cannot change.
abbrev pub document_but_movable_places : Document → Document
document_but_movable_places d = record d { components = map without_movable_place d.components }

-- Holds if the inputs differ only in the placement of movable components, which stay movable, and
-- in the positions of components in the text.
pub record DifferInPlaces (i j : LoadInputs) : Type 0 where
  pub library : i.library ≡ j.library
  pub document : document_but_movable_places i.document ≡ document_but_movable_places j.document
  pub limits : i.limits ≡ j.limits

-- The locations of the movable components of a document, in their order. `None` for an unplaced
-- one.
abbrev pub movable_locations : Document → List (Option Location)
movable_locations d = map (λ e. location e.1) (movables d.components)

-- The cell without its place.
abbrev pub cell_without_place : LoadedCell → LoadedCell
cell_without_place c = record c { place = None }

-- Holds if the frame is the same, and the cells differ from the others only in their places, which
-- are these.
pub record IsElsewhere (l m : Loaded) (places : List (Option Location)) : Type 0 where
  pub frame : m.frame ≡ l.frame
  pub cells : map cell_without_place m.cells ≡ map cell_without_place l.cells
  pub at_places : map (λ c. option_map as_location c.place) m.cells ≡ places

-- Documents that differ only in byte positions agree in the parts that teams cannot change.
abbrev pub PositionsDoNotMatter : Type 0
PositionsDoNotMatter = (a b : Document) → document_without_places a ≡ document_without_places b
    → document_but_movable_places a ≡ document_but_movable_places b

-- If one of two inputs that differ only in places is accepted, so is the other.
abbrev pub AcceptedElsewhere : Type 0
AcceptedElsewhere = (i j : LoadInputs) → DifferInPlaces i j → IsAccepted i → IsAccepted j

-- If two inputs differ only in places, the frame of one is the frame of the other.
abbrev pub FrameStays : Type 0
FrameStays = (i j : LoadInputs) → DifferInPlaces i j → (f : Frame) → IsFrameOf i f → IsFrameOf j f

-- If two inputs differ only in places, their designs have the same frame, and cells that differ
-- only in their places, which are the document's.
abbrev pub LoadedElsewhere : Type 0
LoadedElsewhere = (i j : LoadInputs) → DifferInPlaces i j → (l m : Loaded) → IsLoadedFrom i l → IsLoadedFrom j m
    → IsElsewhere l m (movable_locations j.document)
