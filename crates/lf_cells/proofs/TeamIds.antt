-- The ids of a team's cells, one by one.
use Rattle.std.proofs.Common.{◌≡◌, ◌⊎◌, inl, inr, ◌<◌, ◌≤◌, ℕ, List, length, get_or, Some, None, ap, sym, ◌∙◌, zero-add, arith}
use Rattle.std.specs.Prelude.{slice_get, option_map}
use Rattle.std.proofs.lemmas.List.FromFn.{length-map-range_with_len, get_or-map-range_with_len}
use Rattle.std.proofs.lemmas.Option.{slice_get-get_or, slice_get_cases, slice_get_past}
use Rattle.lf_cells.specs.declared.cell.Cell.{Cell}
use Rattle.lf_cells.specs.declared.cell.CellId.{CellId}
use Rattle.lf_cells.specs.Cells.{id_in, id_of, ids_of}

-- There are as many ids as cells.
pub ids_many : (team : ℕ) (cells : List Cell) → length (ids_of team cells) ≡ length cells
ids_many team cells = length-map-range_with_len (id_of team) 0 (length cells)

ids_item : (team own : ℕ) (cells : List Cell) (d : CellId) → own < length cells → get_or (ids_of team cells) own d ≡ id_of team own
ids_item team own cells d within = get_or-map-range_with_len (id_of team) 0 (length cells) own own d within (zero-add own)

pub ids_long : (team : ℕ) (cells : List Cell) (ids : List CellId) → ids ≡ ids_of team cells → length ids ≡ length cells
ids_long team cells ids are = ap (λ (is : List CellId). length is) are ∙ ids_many team cells

-- Each id is that of the cell at its position.
pub ids_read : (team own : ℕ) (cells : List Cell) (ids : List CellId) (id : CellId) → ids ≡ ids_of team cells → own < length ids → id ≡ get_or ids own id
    → id ≡ id_of team own
ids_read team own cells ids id are within is =
    let many = ids_long team cells ids are in
    is ∙ ap (λ (is : List CellId). get_or is own id) are ∙ ids_item team own cells id (omega (arith, within, many))

pub ids_get : (team own : ℕ) (cells : List Cell) → slice_get (ids_of team cells) own ≡ id_in cells team own
ids_get team own cells = go (slice_get_cases cells own).1 where
  many : length (ids_of team cells) ≡ length cells
  many = ids_many team cells

  go : ((x : Cell) × (own < length cells) × (slice_get cells own ≡ Some x) × (get_or cells own x ≡ x)) ⊎ ((length cells ≤ own) × (slice_get cells own ≡ None))
      → slice_get (ids_of team cells) own ≡ id_in cells team own
  go (inl (x, within, is, read)) =
      slice_get-get_or (ids_of team cells) own (id_of team own) (omega (arith, within, many))
      ∙ ap (λ (i : CellId). Some i) (ids_item team own cells (id_of team own) within)
      ∙ sym (ap (option_map (λ (c : Cell). id_of team own)) is)
  go (inr (past, is)) =
      slice_get_past (ids_of team cells) own (omega (arith, past, many)) ∙ sym (ap (option_map (λ (c : Cell). id_of team own)) is)
