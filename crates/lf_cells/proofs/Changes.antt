-- How a change to a team's cells appears in the lists that contracts see.
use Rattle.std.proofs.Common.{◌≡◌, ℕ, zero, suc, ◌≤◌, List, [], ◌∷◌, length, map, get_or, set, Option, refl, ap, arith}
use Rattle.lf_floorplan.specs.declared.place.Place.{Place}
use Rattle.lf_cells.specs.declared.cell.Cell.{Cell}
use Rattle.lf_cells.specs.declared.records.CellRecord.{CellRecord}
use Rattle.lf_cells.specs.Cells.{moved, as_committed}
use Rattle.lf_cells.specs.Records.{cell_with_name, cells_in, components_in, labels, labels_in, moved_records, committed_record}
use Rattle.lf_cells.proofs.Lists.{same_seen, change_seen}

-- A write to the field of one cell moves that cell.
pub moved_is : (slots : List CellRecord) (own : ℕ) (x : CellRecord) (place : Option Place) → x ≡ get_or slots own x
    → set slots own (record x { working = place }) ≡ moved_records slots own place
moved_is [] own x place is = refl
moved_is (s ∷ ss) zero x place is = ap (λ (y : CellRecord). record y { working = place } ∷ ss) is
moved_is (s ∷ ss) (suc own) x place is = ap (λ (r : List CellRecord). s ∷ r) (moved_is ss own x place is)

pub moved_past : (slots : List CellRecord) (own : ℕ) (place : Option Place) → length slots ≤ own → slots ≡ moved_records slots own place
moved_past [] own place past = refl
moved_past (s ∷ ss) zero place past = absurd (omega (arith, past))
moved_past (s ∷ ss) (suc own) place past = ap (λ (r : List CellRecord). s ∷ r) (moved_past ss own place (omega (arith, past)))

-- ---- one team

cells_moved : (names : List (List ℕ)) (slots : List CellRecord) (own : ℕ) (place : Option Place)
    → map (cell_with_name names) (moved_records slots own place) ≡ moved (map (cell_with_name names) slots) own place
cells_moved names [] own place = refl
cells_moved names (s ∷ ss) zero place = refl
cells_moved names (s ∷ ss) (suc own) place = ap (λ (r : List Cell). cell_with_name names s ∷ r) (cells_moved names ss own place)

labels_moved : (slots : List CellRecord) (own : ℕ) (place : Option Place) → labels (moved_records slots own place) ≡ labels slots
labels_moved [] own place = refl
labels_moved (s ∷ ss) zero place = refl
labels_moved (s ∷ ss) (suc own) place = ap (λ (r : List ℕ). s.label ∷ r) (labels_moved ss own place)

components_of : List CellRecord → List ℕ
components_of slots = map (λ s. s.component) slots

components_moved : (slots : List CellRecord) (own : ℕ) (place : Option Place) → components_of (moved_records slots own place) ≡ components_of slots
unfolding components_of
components_moved [] own place = refl
components_moved (s ∷ ss) zero place = refl
components_moved (s ∷ ss) (suc own) place = ap (λ (r : List ℕ). s.component ∷ r) (components_moved ss own place)

cells_committed : (names : List (List ℕ)) (slots : List CellRecord) → map (cell_with_name names) (map committed_record slots) ≡ map as_committed (map (cell_with_name names) slots)
cells_committed names [] = refl
cells_committed names (s ∷ ss) = ap (λ (r : List Cell). as_committed (cell_with_name names s) ∷ r) (cells_committed names ss)

labels_committed : (slots : List CellRecord) → labels (map committed_record slots) ≡ labels slots
labels_committed [] = refl
labels_committed (s ∷ ss) = ap (λ (r : List ℕ). s.label ∷ r) (labels_committed ss)

components_committed : (slots : List CellRecord) → components_of (map committed_record slots) ≡ components_of slots
unfolding components_of
components_committed [] = refl
components_committed (s ∷ ss) = ap (λ (r : List ℕ). s.component ∷ r) (components_committed ss)

-- ---- all teams

pub all_moved : (names : List (List ℕ)) (teams : List (List CellRecord)) (team own : ℕ) (place : Option Place)
    → cells_in names (set teams team (moved_records (get_or teams team []) own place))
    ≡ set (cells_in names teams) team (moved (get_or (cells_in names teams) team []) own place)
all_moved names teams team own place =
    change_seen (λ (slots : List CellRecord). map (cell_with_name names) slots) (λ (cells : List Cell). moved cells own place) teams team []
    (moved_records (get_or teams team []) own place) (cells_moved names (get_or teams team []) own place)

pub labels_all_moved : (teams : List (List CellRecord)) (team own : ℕ) (place : Option Place)
    → labels_in (set teams team (moved_records (get_or teams team []) own place)) ≡ labels_in teams
labels_all_moved teams team own place =
    same_seen labels teams team [] (moved_records (get_or teams team []) own place) (labels_moved (get_or teams team []) own place)

pub components_all_moved : (teams : List (List CellRecord)) (team own : ℕ) (place : Option Place)
    → components_in (set teams team (moved_records (get_or teams team []) own place)) ≡ components_in teams
unfolding components_of
components_all_moved teams team own place =
    same_seen components_of teams team [] (moved_records (get_or teams team []) own place) (components_moved (get_or teams team []) own place)

pub all_committed : (names : List (List ℕ)) (teams : List (List CellRecord)) (team : ℕ)
    → cells_in names (set teams team (map committed_record (get_or teams team [])))
    ≡ set (cells_in names teams) team (map as_committed (get_or (cells_in names teams) team []))
all_committed names teams team =
    change_seen (λ (slots : List CellRecord). map (cell_with_name names) slots) (λ (cells : List Cell). map as_committed cells) teams team []
    (map committed_record (get_or teams team [])) (cells_committed names (get_or teams team []))

pub labels_all_committed : (teams : List (List CellRecord)) (team : ℕ) → labels_in (set teams team (map committed_record (get_or teams team []))) ≡ labels_in teams
labels_all_committed teams team = same_seen labels teams team [] (map committed_record (get_or teams team [])) (labels_committed (get_or teams team []))

pub components_all_committed : (teams : List (List CellRecord)) (team : ℕ)
    → components_in (set teams team (map committed_record (get_or teams team []))) ≡ components_in teams
unfolding components_of
components_all_committed teams team =
    same_seen components_of teams team [] (map committed_record (get_or teams team [])) (components_committed (get_or teams team []))
