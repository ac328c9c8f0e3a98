-- Moves of cells, and the effect of reverting them.
use Rattle.std.proofs.Common.{◌≡◌, ℕ, zero, suc, List, [], ◌∷◌, ◌++◌, refl, ap, sym, ◌∙◌}
use Rattle.lf_cells.specs.declared.cell.Cell.{Cell}
use Rattle.lf_cells.specs.Cells.{moved, working_at}
use Rattle.lf_undo.specs.declared.moves.Move.{Move}
use Rattle.lf_placement.specs.Placements.{HaveMoved, SameButPlaces, moves_applied}
use Rattle.lf_placement.proofs.Moves.{first_same, rest_same}
use Rattle.lf_floor_model.specs.Outcomes.{places_of}
use Rattle.lf_floor_model.specs.Changes.{restored}

-- the working places of the new list turn the old list into the new one
pub restored_is : (old new : List Cell) → SameButPlaces old new → restored (places_of new) old ≡ new
restored_is [] [] same = refl
restored_is [] (c ∷ cs) same = absurd cc
restored_is (d ∷ ds) [] same = absurd cc
restored_is (d ∷ ds) (c ∷ cs) same =
    ap (λ (x : Cell). record x { working = c.working } ∷ restored (places_of cs) ds) (sym (first_same same))
    ∙ ap (λ (r : List Cell). c ∷ r) (restored_is ds cs (rest_same same))

-- no move yet
pub none_yet : (cells : List Cell) → HaveMoved cells [] cells
none_yet cells = record { places = refl; same = refl }

pub from_none : (before : List Cell) (moves : List Move) → moves ≡ [] → HaveMoved before moves before
from_none before moves none = rw none (none_yet before)

-- a cell that is moved to its own place
pub not_moved : (cells : List Cell) (own : ℕ) → moved cells own (working_at cells own) ≡ cells
not_moved [] own = refl
not_moved (c ∷ cs) zero = refl
not_moved (c ∷ cs) (suc own) = ap (λ (r : List Cell). c ∷ r) (not_moved cs own)

-- one more move appended to the others
pub made_more : (moves : List Move) (m : Move) (cells : List Cell) → moves_applied (moves ++ m ∷ []) cells ≡ moved (moves_applied moves cells) m.own m.place
made_more [] m cells = refl
made_more (x ∷ moves) m cells = made_more moves m (moved cells x.own x.place)
