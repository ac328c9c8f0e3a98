-- The macros of a loaded design's cells are of whole size.
use Rattle.std.proofs.Common.{◌≡◌, ℕ, zero, suc, ◌<◌, List, [], ◌∷◌, Option, Some, filter, get_or, map, refl, sym, ap, subst, arith, eqb}
use Rattle.std.specs.Prelude.{slice_get, unwrap_or, All}
use Rattle.std.proofs.lemmas.List.Elements.{All-filter, All-map}
use Rattle.std.proofs.lemmas.Option.{slice_get-get_or}
use Rattle.lf_floorplan.specs.declared.frame.Frame.{Frame}
use Rattle.lf_floorplan.specs.declared.loaded.Loaded.{Loaded}
use Rattle.lf_floorplan.specs.declared.loaded.LoadedCell.{LoadedCell}
use Rattle.lf_floorplan.specs.declared.macros.Macro.{Macro}
use Rattle.lf_floorplan.specs.Boxes.{macro_of, no_macro}
use Rattle.lf_floorplan.specs.Design.{IsCell}
use Rattle.lf_cells.specs.declared.cell.Cell.{Cell}
use Rattle.lf_cells.specs.Cells.{Cells, cells_of}
use Rattle.lf_cells.specs.Initial.{initial_cell, initial_cells, own_cells, team_numbers}
use Rattle.lf_occupancy.specs.Floorplans.{HasSize}

sized_cell : (f : Frame) (c : LoadedCell) → IsCell f c → HasSize f (initial_cell c)
sized_cell f c known = go (get_or f.macros c.mac no_macro, slice_get-get_or f.macros c.mac no_macro known.mac_known) where
  go : ((m : Macro) × (slice_get f.macros c.mac ≡ Some m)) → HasSize f (initial_cell c)
  go found =
      let is : macro_of f c.mac ≡ found.0 = ap (λ (o : Option Macro). unwrap_or o no_macro) found.1 in
      record { known = known.mac_known; sized = rw is (known.mac_sized found.0 found.1) }

-- the macros of each team's cells
sized_team : (design : Loaded) (number : ℕ) → All (HasSize design.frame) (own_cells number design.cells)
sized_team design number =
    All-map (HasSize design.frame) initial_cell (filter (λ c. eqb c.team number) design.cells)
    (λ i d within. sized_cell design.frame _ (All-filter (λ c. eqb c.team number) (IsCell design.frame) design.cells design.cells_known i d within))

rows_hold : (P : List Cell → Type 0) (row : ℕ → List Cell) → P [] → ((n : ℕ) → P (row n)) → (ns : List ℕ) (team : ℕ) → P (get_or (map row ns) team [])
rows_hold P row none each [] zero = none
rows_hold P row none each [] (suc team) = none
rows_hold P row none each (n ∷ ns) zero = each n
rows_hold P row none each (n ∷ ns) (suc team) = rows_hold P row none each ns team

pub sized : (design : Loaded) (cells : Cells) → cells.cells ≡ initial_cells design → (team : ℕ) → All (HasSize design.frame) (cells_of cells team)
sized design cells is team =
    subst (λ (rows : List (List Cell)). All (HasSize design.frame) (get_or rows team [])) (sym is)
    (rows_hold (λ cs. All (HasSize design.frame) cs) (λ number. own_cells number design.cells) (λ i d within. absurd (omega (arith, within)))
    (sized_team design) (team_numbers design) team)
