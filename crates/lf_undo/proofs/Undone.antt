-- The places that undo entries give: the laws.
use Rattle.std.proofs.Common.{◌≡◌, ℕ, zero, suc, List, [], ◌∷◌, ◌++◌, length, get_or, set, take, drop, Option, Some, None, refl, sym, ap, ◌∙◌}
use Rattle.std.specs.Prelude.{All, slice_get}
use Rattle.std.proofs.lemmas.List.{set-set, set-get_or, length-set}
use Rattle.std.proofs.lemmas.List.Elements.{All-nil, All-cons, All-weaker}
use Rattle.std.proofs.lemmas.Option.{same_Some, none-some}
use Rattle.lf_floorplan.specs.declared.place.Place.{Place}
use Rattle.lf_undo.specs.declared.moves.Move.{Move}
use Rattle.lf_undo.specs.Entries.{Places, moves_taken_back, entries_of, moves_with, places_set, moves_of}

-- A cell's new place, taken back.
set_back : (places : Places) (cell : ℕ) (to : Option Place) → set (set places cell to) cell (get_or places cell None) ≡ places
set_back places cell to = set-set places cell to (get_or places cell None) ∙ set-get_or places cell None

pub undo_settings : (places : Places) (settings : List (ℕ × Option Place)) → moves_taken_back (moves_of places settings) (places_set places settings) ≡ places
undo_settings places [] = refl
undo_settings places (s ∷ settings) =
    ap (λ (ps : Places). set ps s.0 (get_or places s.0 None)) (undo_settings (set places s.0 s.1) settings) ∙ set_back places s.0 s.1

-- Moves in two runs: the second is taken back first.
pub taken_back-append : (first second : List Move) (places : Places) → moves_taken_back (first ++ second) places ≡ moves_taken_back first (moves_taken_back second places)
taken_back-append [] second places = refl
taken_back-append (m ∷ first) second places = ap (λ (ps : Places). set ps m.own m.place) (taken_back-append first second places)

-- The last move is taken back first.
pub back_append : (moves : List Move) (m : Move) (places : Places) → moves_taken_back (moves ++ m ∷ []) places ≡ moves_taken_back moves (set places m.own m.place)
back_append moves m places = taken_back-append moves (m ∷ []) places

pub undo_one_more : (before now : Places) (moves : List Move) (cell : ℕ) (to : Option Place) →
    moves_taken_back moves now ≡ before → moves_taken_back (moves_with moves now cell) (set now cell to) ≡ before
undo_one_more before now moves cell to is =
    back_append moves (record { own = cell; place = get_or now cell None }) (set now cell to)
    ∙ ap (moves_taken_back moves) (set_back now cell to) ∙ is

pub take_entries : (now : Places) (entries : List (List Move)) (limit : ℕ) → entries_of now (take limit entries) ≡ take limit (entries_of now entries)
take_entries now entries zero = refl
take_entries now [] (suc limit) = refl
take_entries now (ms ∷ entries) (suc limit) =
    ap (λ (ps : List Places). moves_taken_back ms now ∷ ps) (take_entries (moves_taken_back ms now) entries limit)

pub grow_entries : (before now : Places) (moves : List Move) (entries : List (List Move)) (limit : ℕ) →
    moves_taken_back moves now ≡ before → entries_of now (take limit (moves ∷ entries)) ≡ take limit (before ∷ entries_of before entries)
grow_entries before now moves entries limit is =
    take_entries now (moves ∷ entries) limit ∙ ap (λ (p : Places). take limit (p ∷ entries_of p entries)) is

pub shrink_entries : (now : Places) (moves : List Move) (entries : List (List Move)) →
    slice_get entries 0 ≡ Some moves → entries_of now entries ≡ moves_taken_back moves now ∷ entries_of (moves_taken_back moves now) (drop 1 entries)
shrink_entries now moves [] at = absurd (none-some moves at)
shrink_entries now moves (ms ∷ entries) at =
    ap (λ (m : List Move). moves_taken_back m now ∷ entries_of (moves_taken_back m now) entries) (same_Some ms moves at)

pub no_entries : (now : Places) (entries : List (List Move)) → slice_get entries 0 ≡ None → entries_of now entries ≡ []
no_entries now [] at = refl
no_entries now (ms ∷ entries) at = absurd (none-some ms (sym at))

pub taken_back_length : (moves : List Move) (places : Places) → length (moves_taken_back moves places) ≡ length places
taken_back_length [] places = refl
taken_back_length (m ∷ ms) places = length-set (moves_taken_back ms places) m.own m.place ∙ taken_back_length ms places

pub count_entries : (now : Places) (entries : List (List Move)) → length (entries_of now entries) ≡ length entries
count_entries now [] = refl
count_entries now (ms ∷ entries) = ap suc (count_entries (moves_taken_back ms now) entries)

pub whole_entries : (now : Places) (entries : List (List Move)) → All (λ places. length places ≡ length now) (entries_of now entries)
whole_entries now [] = All-nil (λ places. length places ≡ length now)
whole_entries now (ms ∷ entries) =
    let before = moves_taken_back ms now in
    let same : length before ≡ length now = taken_back_length ms now in
    All-cons (λ places. length places ≡ length now) before (entries_of before entries) same
    (All-weaker (λ (places : Places). length places ≡ length before) (λ (places : Places). length places ≡ length now) (λ places is. is ∙ same)
    (entries_of before entries) (whole_entries before entries))
