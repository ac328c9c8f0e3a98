-- Rows whose cells are removed, team after team, as these are placed.
use Rattle.std.proofs.Common.{◌≡◌, ◌≢◌, ◌<◌, ◌≤◌, ℕ, zero, suc, ◌+◌, List, [], ◌∷◌, length, map, set, get_or, ⊎_elim, refl, ap, sym, subst, ◌∙◌, arith}
use Rattle.std.proofs.lemmas.Bool.{cases_eq}
use Rattle.std.proofs.lemmas.List.{length-map}
use Rattle.lf_cells.specs.declared.cell.Cell.{Cell}
use Rattle.lf_cells.specs.Cells.{Cells, cells_of}
use Rattle.lf_placement.specs.Placements.{OtherCellsStay}
use Rattle.lf_state_text.specs.declared.saved_rows.SavedTeamRow.{SavedTeamRow}
use Rattle.lf_state_text.specs.Saved.{SavedTeam, saved_at, team_view, team_views}
use Rattle.lf_floor.specs.Saved.{map_two, restored_cell}
use Rattle.lf_floor.specs.Placed.{AreAsMany, ArePlaced, without_cells}

-- the first n rows are without their cells
abbrev pub first_emptied : ℕ → List SavedTeam → List SavedTeam
first_emptied zero saved = saved
first_emptied (suc n) [] = []
first_emptied (suc n) (t ∷ saved) = without_cells t ∷ first_emptied n saved

-- the next row still has its cells
pub next_whole : (n : ℕ) (saved : List SavedTeam) (d : SavedTeam) → get_or (first_emptied n saved) n d ≡ get_or saved n d
next_whole zero saved d = refl
next_whole (suc n) [] d = refl
next_whole (suc n) (t ∷ saved) d = next_whole n saved d

-- the cells of one more row are removed
pub next_emptied : (n : ℕ) (saved : List SavedTeam) (d : SavedTeam) → n < length saved
    → set (first_emptied n saved) n (without_cells (get_or saved n d)) ≡ first_emptied (n + 1) saved
next_emptied n [] d less = absurd (omega (arith, less))
next_emptied zero (t ∷ saved) d less = refl
next_emptied (suc n) (t ∷ saved) d less =
    let more : suc n + 1 ≡ suc (n + 1) = omega arith in
    ap (λ (ts : List SavedTeam). without_cells t ∷ ts) (next_emptied n saved d (omega (arith, less)))
    ∙ ap (λ (k : ℕ). first_emptied k (t ∷ saved)) (sym more)

pub all_emptied : (n : ℕ) (saved : List SavedTeam) → length saved ≤ n → first_emptied n saved ≡ map without_cells saved
all_emptied zero [] few = refl
all_emptied zero (t ∷ saved) few = absurd (omega (arith, few))
all_emptied (suc n) [] few = refl
all_emptied (suc n) (t ∷ saved) few = ap (λ (ts : List SavedTeam). without_cells t ∷ ts) (all_emptied n saved (omega (arith, few)))

view_at : (rows : List SavedTeamRow) (n : ℕ) (row : SavedTeamRow) (d : SavedTeam) → n < length rows → team_view (get_or rows n row) ≡ get_or (team_views rows) n d
view_at [] n row d less = absurd (omega (arith, less))
view_at (r ∷ rows) zero row d less = refl
view_at (r ∷ rows) (suc n) row d less = view_at rows n row d (omega (arith, less))

view_set : (rows : List SavedTeamRow) (n : ℕ) (row : SavedTeamRow) → team_views (set rows n row) ≡ set (team_views rows) n (team_view row)
view_set [] n row = refl
view_set (r ∷ rows) zero row = refl
view_set (r ∷ rows) (suc n) row = ap (λ (ts : List SavedTeam). team_view r ∷ ts) (view_set rows n row)

-- the cells of the first n saved teams are at their places, and their rows are without cells
pub record PlacedSoFar (n : ℕ) (saved : List SavedTeam) (old now : Cells) (rows : List SavedTeamRow) : Type 0 where
  pub cells : (team : ℕ) → team < n → cells_of now team ≡ map_two restored_cell (cells_of old team) (saved_at saved team).cells
  pub others : (team : ℕ) → n ≤ team → cells_of now team ≡ cells_of old team
  pub components : now.components ≡ old.components
  pub left : team_views rows ≡ first_emptied n saved

pub none_placed : (old : Cells) (rows : List SavedTeamRow) → PlacedSoFar 0 (team_views rows) old old rows
none_placed old rows = record { cells = λ team less. absurd (omega (arith, less)); others = λ team past. refl; components = refl; left = refl }

module _ (n : ℕ) (all rows : List SavedTeamRow) (old now : Cells) (less : n < length all) (long : length rows ≡ length all)
    (so_far : PlacedSoFar n (team_views all) old now rows) (d : SavedTeamRow) where
  abbrev row : SavedTeamRow
  row = get_or rows n d

  -- the contents of the next row
  pub next_view : team_view row ≡ saved_at (team_views all) n
  next_view =
      let none : SavedTeam = record { revision = 0; padding = 0; slots = []; cells = []; entries = [] } in
      view_at rows n d none (omega (arith, less, long))
      ∙ ap (λ (ts : List SavedTeam). get_or ts n none) so_far.left
      ∙ next_whole n (team_views all) none

  pub next_many : AreAsMany (team_views all) old → length row.cells.items ≡ length (cells_of now n)
  next_many many =
      ap (λ (t : SavedTeam). length t.cells) next_view
      ∙ many n (omega (arith, less, length-map all team_view))
      ∙ sym (ap (λ (cs : List Cell). length cs) (so_far.others n (omega arith)))

  pub next_placed : (new : Cells) (left : SavedTeamRow) → team_view left ≡ without_cells (team_view row)
      → cells_of new n ≡ map_two restored_cell (cells_of now n) row.cells.items → OtherCellsStay n now new
      → PlacedSoFar (n + 1) (team_views all) old new (set rows n left)
  next_placed new left emptied own others = record {
    cells = λ team within. ⊎_elim
        (λ (same : team ≡ n). subst (λ (k : ℕ). cells_of new k ≡ map_two restored_cell (cells_of old k) (saved_at (team_views all) k).cells) (sym same)
        (own
        ∙ ap (λ (cs : List Cell). map_two restored_cell cs row.cells.items) (so_far.others n (omega arith))
        ∙ ap (λ (t : SavedTeam). map_two restored_cell (cells_of old n) t.cells) next_view))
        (λ (differ : team ≢ n). others.cells team differ ∙ so_far.cells team (omega (arith, within, differ)))
        (cases_eq team n);
    others = λ team past. others.cells team (λ same. absurd (omega (arith, past, same))) ∙ so_far.others team (omega (arith, past));
    components = others.components ∙ so_far.components;
    left =
        view_set rows n left
        ∙ ap (λ (t : SavedTeam). set (team_views rows) n t) (emptied ∙ ap without_cells next_view)
        ∙ ap (λ (ts : List SavedTeam). set ts n (without_cells (saved_at (team_views all) n))) so_far.left
        ∙ next_emptied n (team_views all) record { revision = 0; padding = 0; slots = []; cells = []; entries = [] } (omega (arith, less, length-map all team_view));
  }

module _ (n : ℕ) (all rows : List SavedTeamRow) (old now : Cells) (many : n ≡ length all) (so_far : PlacedSoFar n (team_views all) old now rows) where
  pub all_placed : ArePlaced (team_views all) old now
  all_placed = record {
    cells = λ team less. so_far.cells team (omega (arith, less, many, length-map all team_view));
    others = λ team past. so_far.others team (omega (arith, past, many, length-map all team_view));
    components = so_far.components;
  }

  pub rows_emptied : team_views rows ≡ map without_cells (team_views all)
  rows_emptied = so_far.left ∙ all_emptied n (team_views all) (omega (arith, many, length-map all team_view))
