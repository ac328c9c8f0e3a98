-- Cells that are moved back to their committed places one after another.
use Rattle.std.proofs.Common.{◌≡◌, ◌≤◌, ℕ, zero, suc, ◌+◌, List, [], ◌∷◌, ◌++◌, length, map, Option, refl, ap, sym, ◌∙◌, arith}
use Rattle.lf_floorplan.specs.declared.place.Place.{Place}
use Rattle.lf_cells.specs.declared.cell.Cell.{Cell}
use Rattle.lf_cells.specs.Cells.{committed_at, moved, working_at}
use Rattle.lf_undo.specs.declared.moves.Move.{Move}
use Rattle.lf_placement.specs.Placements.{committed_of, moves_applied, working_places_of}
use Rattle.lf_floor_model.specs.Changes.{back_to_committed}
use Rattle.lf_floor_verbs.specs.Reverting.{IsRevertMove}
use Rattle.lf_floor_verbs.proofs.Moves.{made_more, not_moved}

-- the first cells, this many of them, are at their committed places
abbrev pub back_first : ℕ → List Cell → List Cell
back_first zero cells = cells
back_first (suc n) [] = []
back_first (suc n) (c ∷ cs) = back_to_committed c ∷ back_first n cs

pub one_more_back : (n : ℕ) (cells : List Cell) → moved (back_first n cells) n (committed_at (back_first n cells) n) ≡ back_first (n + 1) cells
one_more_back zero [] = refl
one_more_back zero (c ∷ cs) = refl
one_more_back (suc n) [] = let at : suc n + 1 ≡ suc (n + 1) = omega arith in rw at refl
one_more_back (suc n) (c ∷ cs) =
    let at : suc n + 1 ≡ suc (n + 1) = omega arith in rw at (ap (λ (r : List Cell). back_to_committed c ∷ r) (one_more_back n cs))

pub all_are_back : (n : ℕ) (cells : List Cell) → length cells ≤ n → back_first n cells ≡ map back_to_committed cells
all_are_back zero [] few = refl
all_are_back zero (c ∷ cs) few = absurd (omega (arith, few))
all_are_back (suc n) [] few = refl
all_are_back (suc n) (c ∷ cs) few = ap (λ (r : List Cell). back_to_committed c ∷ r) (all_are_back n cs (omega (arith, few)))

working_still : (n : ℕ) (cells : List Cell) → working_at (back_first n cells) n ≡ working_at cells n
working_still zero cells = refl
working_still (suc n) [] = refl
working_still (suc n) (c ∷ cs) = working_still n cs

committed_still : (n : ℕ) (cells : List Cell) → committed_at (back_first n cells) n ≡ committed_at cells n
committed_still zero cells = refl
committed_still (suc n) [] = refl
committed_still (suc n) (c ∷ cs) = committed_still n cs

-- ---- the moves

-- a cell at its committed place needs no move
pub stays_noted : (cells : List Cell) (own : ℕ) (moves : List Move) → working_at cells own ≡ committed_at cells own → IsRevertMove cells own moves moves
stays_noted cells own moves same = λ now are working committed.
    are ∙ sym (ap (λ (p : Option Place). moved now own p) (committed ∙ sym same ∙ sym working) ∙ not_moved now own)

pub one_noted : (cells : List Cell) (own : ℕ) (old new : List Move) (m : Move) → m.own ≡ own → m.place ≡ committed_at cells own → new ≡ old ++ m ∷ []
    → IsRevertMove cells own old new
one_noted cells own old new m own_is old_is are = λ now before working committed.
    ap (λ (ms : List Move). moves_applied ms cells) are ∙ made_more old m cells
    ∙ ap (λ (cs : List Cell). moved cs m.own m.place) before
    ∙ ap (λ (n : ℕ). moved now n m.place) own_is
    ∙ ap (λ (p : Option Place). moved now own p) (old_is ∙ sym committed)

pub one_more_noted : (n : ℕ) (cells : List Cell) (old new : List Move) → moves_applied old cells ≡ back_first n cells → IsRevertMove cells n old new
    → moves_applied new cells ≡ back_first (n + 1) cells
one_more_noted n cells old new so_far noted = noted (back_first n cells) so_far (working_still n cells) (committed_still n cells) ∙ one_more_back n cells

-- the places to which the moves lead
pub places_reverted : (cells now : List Cell) → now ≡ map back_to_committed cells → working_places_of now ≡ committed_of cells
places_reverted cells now is = ap working_places_of is ∙ go cells where
  go : (cs : List Cell) → working_places_of (map back_to_committed cs) ≡ committed_of cs
  go [] = refl
  go (c ∷ cs) = ap (λ (r : List (Option Place)). c.committed ∷ r) (go cs)
