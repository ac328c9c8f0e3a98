-- Boxes that are listed cell by cell and team by team.
use Rattle.std.proofs.Common.{◌≡◌, ◌∙◌, ⊎_elim, ℕ, zero, suc, ◌+◌, ◌<◌, List, [], ◌∷◌, ◌++◌, length, take, Option, Some, refl, ap, sym, append-nil, append_assoc, arith}
use Rattle.std.specs.Prelude.{flat_map, slice_get}
use Rattle.std.specs.Option.{option_map_or}
use Rattle.std.proofs.lemmas.Option.{slice_get_cases}
use Rattle.lf_units.specs.declared.geometry.Rect.{Rect}
use Rattle.lf_floorplan.specs.declared.frame.Frame.{Frame}
use Rattle.lf_cells.specs.declared.cell.Cell.{Cell}
use Rattle.lf_floor_model.specs.States.{TeamState}
use Rattle.lf_task_reports.specs.Densities.{cell_boxes}

-- the lists of the first elements, with the list of the next one
flat_map_next : {A B : Type 0} (f : A → List B) (xs : List A) (k : ℕ) → flat_map f (take (suc k) xs) ≡ flat_map f (take k xs) ++ option_map_or f (slice_get xs k) []
flat_map_next f [] zero = refl
flat_map_next f [] (suc k) = refl
flat_map_next f (x ∷ xs) zero = append-nil (f x)
flat_map_next f (x ∷ xs) (suc k) =
    ap (λ (l : List _). f x ++ l) (flat_map_next f xs k) ∙ sym (append_assoc (f x) (flat_map f (take k xs)) (option_map_or f (slice_get xs k) []))

pub flat_map_one_more : {A B : Type 0} (f : A → List B) (xs : List A) (k : ℕ) → flat_map f (take (k + 1) xs) ≡ flat_map f (take k xs) ++ option_map_or f (slice_get xs k) []
flat_map_one_more f xs k =
    let next : k + 1 ≡ suc k = omega arith in
    ap (λ (n : ℕ). flat_map f (take n xs)) next ∙ flat_map_next f xs k

-- the boxes of one team more
pub one_team_more : (f g : Frame) (teams : List TeamState) (k : ℕ) (cells : List Cell) (old new : List Rect) → g ≡ f → k < length teams
    → ((s : TeamState) → slice_get teams k ≡ Some s → cells ≡ s.cells)
    → old ≡ flat_map (λ (s : TeamState). cell_boxes f s.cells) (take k teams) → new ≡ old ++ cell_boxes g cells
    → new ≡ flat_map (λ (s : TeamState). cell_boxes f s.cells) (take (k + 1) teams)
one_team_more f g teams k cells old new same within are before more =
    ⊎_elim
    (λ there.
    let s = there.0 in
    let is : slice_get teams k ≡ Some s = there.2 in
    more ∙ ap (λ (l : List Rect). l ++ cell_boxes g cells) before
    ∙ ap (λ (h : Frame). first ++ cell_boxes h cells) same
    ∙ ap (λ (cs : List Cell). first ++ cell_boxes f cs) (are s is)
    ∙ ap (λ (o : Option TeamState). first ++ option_map_or boxes o []) (sym is)
    ∙ sym (flat_map_one_more boxes teams k))
    (λ past. absurd (omega (arith, within, past.0)))
    (slice_get_cases teams k).1 where
      boxes : TeamState → List Rect
      boxes s = cell_boxes f s.cells

      first : List Rect
      first = flat_map boxes (take k teams)
