-- Iteration over all cells of a team, by their ids.
use Rattle.std.proofs.Common.{◌≡◌, ◌<◌, ℕ, List, length, get_or, Option, ap, ◌∙◌}
use Rattle.std.proofs.lemmas.List.{get_or_default}
use Rattle.lf_floorplan.specs.declared.place.Place.{Place}
use Rattle.lf_cells.specs.declared.cell.Cell.{Cell}
use Rattle.lf_cells.specs.declared.cell.CellId.{CellId}
use Rattle.lf_cells.specs.Cells.{Cells, cells_of, id_of, ids_of, working_at}
use Rattle.lf_cells.proofs.TeamIds.{ids_read}

abbrev pub no_id : CellId
no_id = record { team = 0; own = 0 }

-- the ids that an equal table gives
pub ids_are : (table read : Cells) (number : ℕ) (ids : List CellId) → read ≡ table → ids ≡ ids_of number (cells_of read number) → ids ≡ ids_of number (cells_of table number)
ids_are table read number ids same are = are ∙ ap (λ (cs : Cells). ids_of number (cells_of cs number)) same

pub id_at : (number k : ℕ) (cells : List Cell) (ids : List CellId) → ids ≡ ids_of number cells → k < length ids → get_or ids k no_id ≡ id_of number k
id_at number k cells ids are within =
    ids_read number k cells ids (get_or ids k no_id) are within (get_or_default ids k no_id (get_or ids k no_id) within)

-- the working place of the cell with an id, read in an equal table
pub working_read : (table read : Cells) (number k : ℕ) (id : CellId) (place : Option Place) → read ≡ table → id ≡ id_of number k
    → place ≡ working_at (cells_of read id.team) id.own → place ≡ working_at (cells_of table number) k
working_read table read number k id place same is there =
    there ∙ ap (λ (t : Cells). working_at (cells_of t id.team) id.own) same ∙ ap (λ (i : CellId). working_at (cells_of table i.team) i.own) is
