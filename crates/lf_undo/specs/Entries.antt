-- The working places that a team's undo entries give.
use Rattle.std.specs.Prelude.{ℕ, List, [], ◌∷◌, ◌++◌, Option, None, slice_index_or, slice_set}
use Rattle.lf_floorplan.specs.declared.place.Place.{Place}
use Rattle.lf_undo.specs.declared.moves.Move.{Move}

-- The places of a team's cells, in the cells' order: a cell's place, or `None`.
abbrev pub Places : Type 0
Places = List (Option Place)

-- The places prior to the moves, from those after them. The last move is taken back first, so a
-- cell that moved twice gets its first place.
abbrev pub moves_taken_back : List Move → Places → Places
moves_taken_back [] places = places
moves_taken_back (m ∷ ms) places = slice_set (moves_taken_back ms places) m.own m.place

-- The places prior to each entry, newest first, from the present ones.
abbrev pub entries_of : Places → List (List Move) → List Places
entries_of places [] = []
entries_of places (ms ∷ entries) = moves_taken_back ms places ∷ entries_of (moves_taken_back ms places) entries

-- The moves, with the place of the one at this position replaced.
abbrev pub replaced : List Move → ℕ → Option Place → List Move
replaced moves at old = slice_set moves at record {
  own = (slice_index_or moves at record { own = 0; place = None }).own;
  place = old;
}

-- The moves so far and one more, which holds the cell's present place.
abbrev pub moves_with : List Move → Places → ℕ → List Move
moves_with moves places own = moves ++ record { own = own; place = slice_index_or places own None } ∷ []

-- The places after settings of cells, one after another.
abbrev pub places_set : Places → List (ℕ × Option Place) → Places
places_set places [] = places
places_set places (s ∷ settings) = places_set (slice_set places s.0 s.1) settings

-- The moves of the settings, each with the cell's place prior to it.
abbrev pub moves_of : Places → List (ℕ × Option Place) → List Move
moves_of places [] = []
moves_of places (s ∷ settings) =
    record { own = s.0; place = slice_index_or places s.0 None } ∷ moves_of (slice_set places s.0 s.1) settings
