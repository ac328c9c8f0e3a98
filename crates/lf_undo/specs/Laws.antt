-- Laws of the places that undo entries give.
use Rattle.std.specs.Prelude.{◌≡◌, ℕ, List, [], ◌∷◌, Some, None, All, length, take, drop, slice_get, slice_set, Option}
use Rattle.lf_floorplan.specs.declared.place.Place.{Place}
use Rattle.lf_undo.specs.declared.moves.Move.{Move}
use Rattle.lf_undo.specs.Entries.{Places, moves_taken_back, entries_of, moves_with, places_set, moves_of}

-- The moves of settings, taken back from the places after them, give the places prior to them.
abbrev pub MovesUndoSettings : Type 0
MovesUndoSettings = (places : Places) (settings : List (ℕ × Option Place))
    → moves_taken_back (moves_of places settings) (places_set places settings) ≡ places

-- The same one setting at a time: a cell gets a place, and its previous one is appended to the
-- moves so far.
abbrev pub MovesUndoOneMore : Type 0
MovesUndoOneMore = (before now : Places) (moves : List Move) (cell : ℕ) (to : Option Place) →
    moves_taken_back moves now ≡ before → moves_taken_back (moves_with moves now cell) (slice_set now cell to) ≡ before

-- A change whose moves are pushed adds the previous places at the front, and drops the entries past
-- the limit.
abbrev pub EntriesGrow : Type 0
EntriesGrow = (before now : Places) (moves : List Move) (entries : List (List Move)) (limit : ℕ) →
    moves_taken_back moves now ≡ before
    → entries_of now (take limit (moves ∷ entries)) ≡ take limit (before ∷ entries_of before entries)

-- The front entry, removed and taken back, gives the newest places; the others remain entries.
abbrev pub EntriesShrink : Type 0
EntriesShrink = (now : Places) (moves : List Move) (entries : List (List Move)) →
    slice_get entries 0 ≡ Some moves
    → entries_of now entries ≡ moves_taken_back moves now ∷ entries_of (moves_taken_back moves now) (drop 1 entries)

-- Without a front entry there is no list of places.
abbrev pub EntriesKeep : Type 0
EntriesKeep = (now : Places) (entries : List (List Move)) → slice_get entries 0 ≡ None → entries_of now entries ≡ []

-- Entries cut at a limit give the same lists of places, cut there.
abbrev pub EntriesTake : Type 0
EntriesTake = (now : Places) (entries : List (List Move)) (limit : ℕ)
    → entries_of now (take limit entries) ≡ take limit (entries_of now entries)

-- There are as many lists as entries, each of as many places as there are cells.
abbrev pub EntriesAreWhole : Type 0
EntriesAreWhole = (now : Places) (entries : List (List Move)) →
    (length (entries_of now entries) ≡ length entries)
    × All (λ places. length places ≡ length now) (entries_of now entries)
