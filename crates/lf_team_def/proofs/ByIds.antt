-- Cells that are looked up by their ids.
use Rattle.std.proofs.Common.{◌≡◌, ℕ, ◌+◌, List, [], ◌∷◌, ◌++◌, length, map, Option, Some, refl, sym, ap, ◌∙◌, append_assoc, arith, length-append}
use Rattle.std.specs.Prelude.{slice_get}
use Rattle.std.specs.List.{flat_map, range_with_len}
use Rattle.std.proofs.Math.Seq.{get_or-append_seam}
use Rattle.std.proofs.lemmas.Option.{slice_get-get_or}
use Rattle.std.proofs.lemmas.List.Folds.{flat_map-map}
use Rattle.lf_floorplan.specs.declared.frame.Frame.{Frame}
use Rattle.lf_lex.specs.Splices.{spaced}
use Rattle.lf_cells.specs.declared.cell.Cell.{Cell}
use Rattle.lf_cells.specs.declared.cell.CellId.{CellId}
use Rattle.lf_cells.specs.Cells.{Cells, cell_at, cells_of, id_of, ids_of}
use Rattle.lf_team_def.specs.Entries.{component_line, spaced_name}
use Rattle.lf_team_def.specs.TeamText.{words_line, team_component_words}
use Rattle.lf_team_def.proofs.Lines.{spaced_map}

seam : (pre rest : List Cell) (c : Cell) → slice_get (pre ++ c ∷ rest) (length pre) ≡ Some c
seam pre rest c =
    slice_get-get_or (pre ++ c ∷ rest) (length pre) c (omega (arith, length-append pre (c ∷ rest)))
    ∙ ap (λ (x : Cell). Some x) (get_or-append_seam pre c rest c)

-- The texts of the cells at positions from one on are those of the cells there.
from : (g : Option Cell → List ℕ) (h : Cell → List ℕ) → ((c : Cell) → g (Some c) ≡ h c) → (rest pre all : List Cell) (n : ℕ)
    → all ≡ pre ++ rest → n ≡ length pre → flat_map (λ (own : ℕ). g (slice_get all own)) (range_with_len n (length rest)) ≡ flat_map h rest
from g h same [] pre all n is long = refl
from g h same (c ∷ rest) pre all n is long =
    let here : slice_get all n ≡ Some c = rw (is, long) (seam pre rest c) in
    let more : flat_map (λ (own : ℕ). g (slice_get all own)) (range_with_len (n + 1) (length rest)) ≡ flat_map h rest =
    from g h same rest (pre ++ c ∷ []) all (n + 1) (is ∙ sym (append_assoc pre (c ∷ []) rest)) (omega (arith, long, length-append pre (c ∷ []))) in
    ap (λ (l : List ℕ). l ++ flat_map (λ (own : ℕ). g (slice_get all own)) (range_with_len (n + 1) (length rest))) (ap g here ∙ same c)
    ∙ ap (λ (l : List ℕ). h c ++ l) more

-- The same for all cells of a team, by their ids.
pub by_ids : (g : Option Cell → List ℕ) (h : Cell → List ℕ) → ((c : Cell) → g (Some c) ≡ h c) → (table : Cells) (team : ℕ)
    → flat_map (λ id. g (cell_at table id)) (ids_of team (cells_of table team)) ≡ flat_map h (cells_of table team)
by_ids g h same table team =
    flat_map-map (λ (id : CellId). g (cell_at table id)) (λ (own : ℕ). id_of team own) (range_with_len 0 (length (cells_of table team)))
    ∙ from g h same (cells_of table team) [] (cells_of table team) 0 refl refl

pub lines_by_ids : (f : Frame) (table : Cells) (team : ℕ)
    → flat_map (λ id. component_line f (cell_at table id)) (ids_of team (cells_of table team))
    ≡ flat_map words_line (map (team_component_words f) (cells_of table team))
lines_by_ids f table team =
    by_ids (component_line f) (λ (c : Cell). words_line (team_component_words f c)) (λ c. refl) table team
    ∙ sym (flat_map-map words_line (team_component_words f) (cells_of table team))

pub names_by_ids : (table : Cells) (team : ℕ)
    → flat_map (λ id. spaced_name (cell_at table id)) (ids_of team (cells_of table team)) ≡ spaced (map (λ c. c.name) (cells_of table team))
names_by_ids table team =
    by_ids spaced_name (λ (c : Cell). 32 ∷ c.name) (λ c. refl) table team ∙ sym (spaced_map (λ (c : Cell). c.name) (cells_of table team))
