-- Inputs that differ only in places: if one is accepted, so is the other, and their designs differ
-- only in places.
use Rattle.std.proofs.Common.{◌≡◌, ℕ, inl, inr, List, [], ◌∷◌, map, Option, Some, None, refl, ap, sym, ◌∙◌, subst}
use Rattle.std.specs.Prelude.{option_map}
use Rattle.std.specs.List.{AllZip}
use Rattle.lf_names.specs.Names.{position_of}
use Rattle.lf_lef.specs.Contents.{macro_names}
use Rattle.lf_def.specs.declared.regions.Region.{Region}
use Rattle.lf_def.specs.declared.groups.Group.{Group}
use Rattle.lf_def.specs.declared.components.Component.{Component}
use Rattle.lf_def.specs.declared.components.Location.{Location}
use Rattle.lf_floorplan.specs.declared.loaded.LoadedCell.{LoadedCell}
use Rattle.lf_frame.specs.Teams.{IsTeamOfComponent}
use Rattle.lf_frame.specs.Findings.{LoadInputs, Finds}
use Rattle.lf_frame.specs.Loads.{location, movables, as_location, IsFrameOf, IsCellOf}
use Rattle.lf_frame.specs.Alike.{without_movable_place}
use Rattle.lf_frame.proofs.AlikeEntries.{Same, SameAll, name_same, mac_same}
use Rattle.lf_frame.proofs.AlikeDesigns.{with_components, same_without, finds_same, frame_same, cells_same}
use Rattle.lf_laws_roundtrip.specs.Moved.{DifferInPlaces, cell_without_place, PositionsDoNotMatter, AcceptedElsewhere, FrameStays, LoadedElsewhere}
use Rattle.lf_laws_roundtrip.proofs.Frames.{frame_is_one}

pub positions_not_settled : PositionsDoNotMatter
positions_not_settled a b alike = λ d. record {
  header = (alike d).header;
  rows = (alike d).rows;
  regions = (alike d).regions;
  groups = (alike d).groups;
  components = same_without a.components b.components (ap (λ x. x.components) alike) d;
  blockages = (alike d).blockages;
}

-- Inputs that differ in places differ only in their components.
but_components : (i j : LoadInputs) → DifferInPlaces i j → i ≡ with_components j i.document.components
but_components i j differ = λ d. record {
  library = differ.library d;
  document = record {
    header = (differ.document d).header;
    rows = (differ.document d).rows;
    regions = (differ.document d).regions;
    groups = (differ.document d).groups;
    components = i.document.components;
    blockages = (differ.document d).blockages;
  };
  limits = differ.limits d;
}

components_same : (i j : LoadInputs) → DifferInPlaces i j → SameAll i.document.components j.document.components
components_same i j differ = ap (λ d. d.components) differ.document

pub accepted_elsewhere : AcceptedElsewhere
accepted_elsewhere i j differ h n =
    finds_same j i.document.components j.document.components (components_same i j differ) n None (subst (λ k. Finds k n None) (but_components i j differ) (h n))

pub frame_stays : FrameStays
frame_stays i j differ f h =
    frame_same j i.document.components j.document.components (components_same i j differ) f (subst (λ k. IsFrameOf k f) (but_components i j differ) h)

-- Cells.

team_is_one : (regions : List Region) (groups : List Group) (name : List ℕ) (s t : ℕ) → IsTeamOfComponent regions groups name s → IsTeamOfComponent regions groups name t → s ≡ t
team_is_one regions groups name s t (inl a) (inl b) = let fence : b.fence ≡ a.fence = a.only b.fence b.claimed in cc (a.place, b.place)
team_is_one regions groups name s t (inl a) (inr b) = absurd (b.0 a.fence a.claimed)
team_is_one regions groups name s t (inr a) (inl b) = absurd (a.0 b.fence b.claimed)
team_is_one regions groups name s t (inr a) (inr b) = a.1 ∙ sym b.1

-- The cell of a movable component, at any place.
record IsCellBut (j : LoadInputs) (entry : ℕ × Component) (c : LoadedCell) : Type 0 where
  name : c.name ≡ entry.1.name
  team : IsTeamOfComponent j.document.regions j.document.groups entry.1.name c.team
  mac : position_of (macro_names j.library.macros) entry.1.mac ≡ Some c.mac
  component : c.component ≡ entry.0

cell_but : (j : LoadInputs) (xs : List Component) (k : ℕ) (a b : Component) (c : LoadedCell) → Same a b → IsCellOf (with_components j xs) (k, a) c → IsCellBut j (k, b) c
cell_but j xs k a b c same is = record {
  name = is.name ∙ name_same a b same;
  team = subst (λ name. IsTeamOfComponent j.document.regions j.document.groups name c.team) (name_same a b same) is.team;
  mac = subst (λ name. position_of (macro_names j.library.macros) name ≡ Some c.mac) (mac_same a b same) is.mac;
  component = is.component;
}

one_elsewhere : (j : LoadInputs) (entry : ℕ × Component) (c d : LoadedCell) → IsCellBut j entry c → IsCellOf j entry d → cell_without_place d ≡ cell_without_place c
one_elsewhere j entry c d is also =
    let name : d.name ≡ c.name = also.name ∙ sym is.name in
    let team : d.team ≡ c.team = team_is_one j.document.regions j.document.groups entry.1.name d.team c.team also.team is.team in
    let mac : d.mac ≡ c.mac = cc (also.mac, is.mac) in
    let component : d.component ≡ c.component = also.component ∙ sym is.component in
    λ k. record { name = name k; team = team k; mac = mac k; place = None; component = component k }

cells_elsewhere : (j : LoadInputs) (entries : List (ℕ × Component)) (cs ds : List LoadedCell) → AllZip (IsCellBut j) entries cs → AllZip (IsCellOf j) entries ds
    → map cell_without_place ds ≡ map cell_without_place cs
cells_elsewhere j [] [] [] h g = refl
cells_elsewhere j [] [] (d ∷ ds) h g = absurd g
cells_elsewhere j [] (c ∷ cs) ds h g = absurd h
cells_elsewhere j (e ∷ es) [] ds h g = absurd h
cells_elsewhere j (e ∷ es) (c ∷ cs) [] h g = absurd g
cells_elsewhere j (e ∷ es) (c ∷ cs) (d ∷ ds) h g =
    ap (λ (x : LoadedCell). x ∷ map cell_without_place ds) (one_elsewhere j e c d h.0 g.0) ∙ ap (λ (xs : List LoadedCell). cell_without_place c ∷ xs) (cells_elsewhere j es cs ds h.1 g.1)

places_given : (j : LoadInputs) (entries : List (ℕ × Component)) (ds : List LoadedCell) → AllZip (IsCellOf j) entries ds
    → map (λ c. option_map as_location c.place) ds ≡ map (λ e. location e.1) entries
places_given j [] [] h = refl
places_given j [] (d ∷ ds) h = absurd h
places_given j (e ∷ es) [] h = absurd h
places_given j (e ∷ es) (d ∷ ds) h =
    ap (λ (x : Option Location). x ∷ map (λ (c : LoadedCell). option_map as_location c.place) ds) h.0.place
    ∙ ap (λ (xs : List (Option Location)). location e.1 ∷ xs) (places_given j es ds h.1)

pub loaded_elsewhere : LoadedElsewhere
loaded_elsewhere i j differ l m from_i from_j =
    let moved = subst (λ k. AllZip (IsCellOf k) (movables i.document.components) l.cells) (but_components i j differ) from_i.cells in
    let but : AllZip (IsCellBut j) (movables j.document.components) l.cells =
    cells_same without_movable_place (λ a b same. same) (IsCellOf (with_components j i.document.components)) (IsCellBut j)
    (cell_but j i.document.components) 0 i.document.components
    j.document.components (components_same i j differ) l.cells moved in
    record {
      frame = frame_is_one j m.frame l.frame from_j.frame (frame_stays i j differ l.frame from_i.frame);
      cells = cells_elsewhere j (movables j.document.components) l.cells m.cells but from_j.cells;
      at_places = places_given j (movables j.document.components) m.cells from_j.cells;
    }
