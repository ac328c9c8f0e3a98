-- The table of a floor without cells, and a cell of it alone.
use Rattle.std.proofs.Common.{◌≡◌, ◌∙◌, ℕ, zero, suc, ◌+◌, ◌<◌, List, [], ◌∷◌, get_or, length, map, filter, eqb, Option, Some, None, refl, ap, sym, subst}
use Rattle.std.specs.Prelude.{All, not, option_and_then, option_map, slice_get, unwrap_or}
use Rattle.std.proofs.lemmas.List.Elements.{All-filter, All-head, All-map, All-nil, All-tail, All-weaker}
use Rattle.lf_units.specs.declared.geometry.Point.{Point}
use Rattle.lf_floorplan.specs.declared.frame.Frame.{Frame}
use Rattle.lf_floorplan.specs.declared.macros.Macro.{Macro}
use Rattle.lf_floorplan.specs.declared.loaded.LoadedCell.{LoadedCell}
use Rattle.lf_floorplan.specs.declared.loaded.Loaded.{Loaded}
use Rattle.lf_floorplan.specs.Boxes.{IsSized, macro_of, no_macro}
use Rattle.lf_units.specs.declared.placed.Placed.{Placed}
use Rattle.lf_rules.specs.Choice.{IsChoice, PlacementQuery, SpotPlace, spot_of}
use Rattle.lf_rules.specs.Legalizer.{Legalizer}
use Rattle.lf_rules.specs.Team.{boxes_beside, boxes_from, query_from, with_box}
use Rattle.lf_cells.specs.declared.cell.Cell.{Cell}
use Rattle.lf_cells.specs.Cells.{Cells, cells_of}
use Rattle.lf_cells.specs.Initial.{initial_cell, initial_cells, own_cells, team_numbers}
use Rattle.lf_legalize.specs.Members.{best_of, member_of}
use Rattle.lf_occupancy.specs.Floorplans.{HasSize}
use Rattle.lf_placement.proofs.Keeping.{few_opening, sized_opening}
use Rattle.lf_repair_bounds.specs.MinDisplacements.{query_alone}
use Rattle.lf_repair_bounds.specs.EmptyFloors.{AreUnplaced, IsEmptyTable}
use Rattle.lf_repair_bounds.specs.Copies.{AreCopies}
use Rattle.lf_repair_bounds.proofs.Copying.{copies_back, sized_twin}

-- ---- the table

rows_hold : (P : List Cell → Type 0) (row : ℕ → List Cell) → P [] → ((n : ℕ) → P (row n)) → (ns : List ℕ) (team : ℕ) → P (get_or (map row ns) team [])
rows_hold P row none each [] zero = none
rows_hold P row none each [] (suc team) = none
rows_hold P row none each (n ∷ ns) zero = each n
rows_hold P row none each (n ∷ ns) (suc team) = rows_hold P row none each ns team

own_unplaced : (cells : List LoadedCell) → AreUnplaced cells → (number : ℕ) → All (λ c. c.working ≡ None) (own_cells number cells)
own_unplaced cells are number =
    let own = filter (λ (c : LoadedCell). eqb c.team number) cells in
    All-map (λ (c : Cell). c.working ≡ None) initial_cell own (All-filter (λ (c : LoadedCell). eqb c.team number) (λ (c : LoadedCell). c.place ≡ None) cells are)

has_twin : (f g : Frame) (c : Cell) → AreCopies f g → HasSize g c → HasSize f c
has_twin f g c twins has = record {
  known = subst (λ (ms : List Macro). c.mac < length ms) twins.macros has.known;
  sized = subst (λ (m : Macro). IsSized f m) (ap (λ (ms : List Macro). macro_in ms) twins.macros)
      (sized_twin g f (macro_of g c.mac) (copies_back f g twins) has.sized);
} where
  macro_in : List Macro → Macro
  macro_in ms = unwrap_or (slice_get ms c.mac) no_macro

-- the table of unplaced cells of a design on a copy of the frame
pub bare_table : (f : Frame) (design : Loaded) (table : Cells) → AreCopies f design.frame → AreUnplaced design.cells → table.cells ≡ initial_cells design
    → IsEmptyTable f table
bare_table f design table twins are is = record {
  sized = λ team. All-weaker (HasSize design.frame) (HasSize f) (λ c has. has_twin f design.frame c twins has) (cells_of table team) (sized_opening design table is team);
  few = few_opening design table is;
  unplaced = λ team. subst (λ (rows : List (List Cell)). All (λ (c : Cell). c.working ≡ None) (get_or rows team [])) (sym is)
      (rows_hold (All (λ (c : Cell). c.working ≡ None)) (λ (number : ℕ). own_cells number design.cells) (All-nil (λ (c : Cell). c.working ≡ None))
      (own_unplaced design.cells are) (team_numbers design) team);
}

-- ---- a cell alone

no_boxes : (f : Frame) (n : ℕ) (cells : List Cell) → All (λ c. c.working ≡ None) cells → boxes_from f n (map member_of cells) ≡ []
no_boxes f n [] are = refl
no_boxes f n (c ∷ cells) are =
    ap (λ (o : Option SpotPlace). with_box f n c.mac o (boxes_from f (n + 1) (map member_of cells))) (ap (option_map spot_of) (All-head (λ d. d.working ≡ None) c cells are))
    ∙ no_boxes f (n + 1) cells (All-tail (λ d. d.working ≡ None) c cells are)

none_beside : (f : Frame) (own : ℕ) (cells : List Cell) → All (λ c. c.working ≡ None) cells → boxes_beside f (map member_of cells) own ≡ []
none_beside f own cells are = ap (λ (boxes : List Placed). beside own boxes) (no_boxes f 0 cells are) where
  beside : ℕ → List Placed → List Placed
  beside own boxes = filter (λ box. not (eqb box.own own)) boxes

-- the best place of a cell of its team and macro among unplaced cells is its nearest place alone
pub alone_best : (l : Legalizer) (f : Frame) (cells : List Cell) (own : ℕ) (c : LoadedCell) (target : Point) (found : Option SpotPlace)
    → IsSized f (macro_of f c.mac) → All (λ d. d.working ≡ None) cells → option_map (λ d. d.mac) (slice_get cells own) ≡ Some c.mac
    → found ≡ best_of l f c.team 0 cells own target → IsChoice (query_alone f c) target found
alone_best l f cells own c target found sized are mac is = go (slice_get cells own) refl where
  best_at : Option Cell → Option SpotPlace
  best_at o = option_and_then (λ d. l.best_place (query_from f c.team 0 (map member_of cells) own d.mac) target) o

  with_others : List Placed → PlacementQuery
  with_others boxes = record { frame = f; team = c.team; padding = 0; mac = macro_of f c.mac; others = boxes }

  go : (o : Option Cell) → slice_get cells own ≡ o → IsChoice (query_alone f c) target found
  go None none = absurd (one (ap (option_map (λ (d : Cell). d.mac)) (sym none) ∙ mac)) where
    one : None ≡ Some c.mac → ⊥
    one same = cc
  go (Some d) some =
      let same : d.mac ≡ c.mac = the_mac (ap (option_map (λ (x : Cell). x.mac)) (sym some) ∙ mac) in
      let query_is : query_from f c.team 0 (map member_of cells) own d.mac ≡ query_alone f c =
      ap (λ (n : ℕ). query_from f c.team 0 (map member_of cells) own n) same ∙ ap (λ (boxes : List Placed). with_others boxes) (none_beside f own cells are) in
      subst (IsChoice (query_alone f c) target)
      (sym (is ∙ ap (λ (o : Option Cell). best_at o) some ∙ ap (λ x. l.best_place x target) query_is))
      (l.finds_best_place (query_alone f c) target sized) where
        the_mac : Some d.mac ≡ Some c.mac → d.mac ≡ c.mac
        the_mac e = cc
