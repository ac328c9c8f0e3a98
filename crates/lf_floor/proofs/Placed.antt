-- Cells that are moved to the places of a list, one after another, and are then committed.
use Rattle.std.proofs.Common.{◌≡◌, ◌<◌, ◌≤◌, ℕ, zero, suc, ◌+◌, List, [], ◌∷◌, length, map, set, get_or, Option, None, Some, refl, ap, sym, ◌∙◌, arith}
use Rattle.std.specs.Prelude.{option_map, slice_get}
use Rattle.lf_floorplan.specs.declared.place.Place.{Place}
use Rattle.lf_cells.specs.declared.cell.Cell.{Cell}
use Rattle.lf_cells.specs.Cells.{Cells, as_committed, cells_of, id_in, id_of, moved}
use Rattle.lf_undo.specs.Entries.{Places}
use Rattle.lf_placement.specs.Placements.{OtherCellsStay, SameButPlaces, committed_of, working_places_of, without_place}
use Rattle.lf_placement.proofs.Moves.{cells_stay, cells_through, places_moved, same_moved}
use Rattle.lf_state_text.specs.declared.saved_rows.SavedCell.{SavedCell}
use Rattle.lf_floor.specs.Saved.{fixed_part, map_two, restored_cell}

pub many_places : (cells : List Cell) → length (working_places_of cells) ≡ length cells
many_places [] = refl
many_places (c ∷ cs) = ap suc (many_places cs)

-- the first n cells are at these places, and the others at their old places
abbrev pub first_at : ℕ → Places → Places → Places
first_at zero places from = from
first_at (suc n) [] from = from
first_at (suc n) (p ∷ places) [] = []
first_at (suc n) (p ∷ places) (q ∷ from) = p ∷ first_at n places from

one_more_at : (n : ℕ) (places from : Places) (d : Option Place) → n < length places → length places ≡ length from
    → set (first_at n places from) n (get_or places n d) ≡ first_at (suc n) places from
one_more_at n [] from d less many = absurd (omega (arith, less))
one_more_at n (p ∷ places) [] d less many = absurd (omega (arith, many))
one_more_at zero (p ∷ places) (q ∷ from) d less many = refl
one_more_at (suc n) (p ∷ places) (q ∷ from) d less many =
    ap (λ (ps : Places). p ∷ ps) (one_more_at n places from d (omega (arith, less)) (omega (arith, many)))

all_there : (n : ℕ) (places from : Places) → length places ≤ n → length places ≡ length from → first_at n places from ≡ places
all_there zero [] [] few many = refl
all_there zero [] (q ∷ from) few many = absurd (omega (arith, many))
all_there zero (p ∷ places) from few many = absurd (omega (arith, few))
all_there (suc n) [] [] few many = refl
all_there (suc n) [] (q ∷ from) few many = absurd (omega (arith, many))
all_there (suc n) (p ∷ places) [] few many = absurd (omega (arith, many))
all_there (suc n) (p ∷ places) (q ∷ from) few many = ap (λ (ps : Places). p ∷ ps) (all_there n places from (omega (arith, few)) (omega (arith, many)))

-- one more cell is moved to its place
next_at : (n : ℕ) (places from : Places) (place : Option Place) (old new : List Cell) → n < length places → length places ≡ length from
    → place ≡ get_or places n place → working_places_of old ≡ first_at n places from → new ≡ moved old n place → working_places_of new ≡ first_at (n + 1) places from
next_at n places from place old new less many is so_far are =
    let more : n + 1 ≡ suc n = omega arith in
    ap (λ (cs : List Cell). working_places_of cs) are ∙ places_moved old n place
    ∙ ap (λ (ps : Places). set ps n place) so_far
    ∙ ap (λ (p : Option Place). set (first_at n places from) n p) is
    ∙ one_more_at n places from place less many
    ∙ ap (λ (k : ℕ). first_at k places from) (sym more)

-- a cell that is already at its place is not moved
stays_at : (n : ℕ) (places from : Places) (d : Option Place) → n < length places → length places ≡ length from → get_or from n d ≡ get_or places n d
    → first_at n places from ≡ first_at (n + 1) places from
stays_at n [] from d less many is = absurd (omega (arith, less))
stays_at n (p ∷ places) [] d less many is = absurd (omega (arith, many))
stays_at zero (p ∷ places) (q ∷ from) d less many is = ap (λ (x : Option Place). x ∷ from) is
stays_at (suc n) (p ∷ places) (q ∷ from) d less many is =
    let more : suc n + 1 ≡ suc (n + 1) = omega arith in
    ap (λ (ps : Places). p ∷ ps) (stays_at n places from d (omega (arith, less)) (omega (arith, many)) is)
    ∙ ap (λ (k : ℕ). first_at k (p ∷ places) (q ∷ from)) (sym more)

-- the first n cells of the team are at these places, and nothing else differs
pub record ArePlacedSoFar (team n : ℕ) (places : Places) (old now : Cells) : Type 0 where
  pub at : working_places_of (cells_of now team) ≡ first_at n places (working_places_of (cells_of old team))
  pub same : SameButPlaces (cells_of old team) (cells_of now team)
  pub others : OtherCellsStay team old now

pub none_so_far : (team : ℕ) (places : Places) (old : Cells) → ArePlacedSoFar team 0 places old old
none_so_far team places old = record { at = refl; same = refl; others = cells_stay team old }

module _ (team n : ℕ) (places : Places) (old now : Cells) (less : n < length places) (many : length places ≡ length (working_places_of (cells_of old team)))
    (so_far : ArePlacedSoFar team n places old now) where
  -- one more cell is moved to its place
  pub one_so_far : (new : Cells) (place : Option Place) → place ≡ get_or places n place → cells_of new team ≡ moved (cells_of now team) n place
      → OtherCellsStay team now new → ArePlacedSoFar team (n + 1) places old new
  one_so_far new place is own others = record {
    at = next_at n places (working_places_of (cells_of old team)) place (cells_of now team) (cells_of new team) less many is so_far.at own;
    same = ap (λ (cs : List Cell). map without_place cs) own ∙ same_moved (cells_of now team) n place ∙ so_far.same;
    others = cells_through team old now new so_far.others others;
  }

  -- one more cell is already at its place
  pub there_so_far : (d : Option Place) → get_or (working_places_of (cells_of old team)) n d ≡ get_or places n d → ArePlacedSoFar team (n + 1) places old now
  there_so_far d is = record {
    at = so_far.at ∙ stays_at n places (working_places_of (cells_of old team)) d less many is;
    same = so_far.same;
    others = so_far.others;
  }

pub all_so_far : (team n : ℕ) (places : Places) (old now : Cells) → length places ≤ n → length places ≡ length (working_places_of (cells_of old team))
    → ArePlacedSoFar team n places old now → working_places_of (cells_of now team) ≡ places
all_so_far team n places old now few many so_far = so_far.at ∙ all_there n places (working_places_of (cells_of old team)) few many

-- ---- places of the saved cells

pub read_at : (f : SavedCell → Option Place) (saved : List SavedCell) (n : ℕ) (s : SavedCell) (d : Option Place) → n < length saved
    → f (get_or saved n s) ≡ get_or (map f saved) n d
read_at f [] n s d less = absurd (omega (arith, less))
read_at f (x ∷ saved) zero s d less = refl
read_at f (x ∷ saved) (suc n) s d less = read_at f saved n s d (omega (arith, less))

-- a move of no cell changes nothing
pub none_moved : (cells : List Cell) (team own : ℕ) (place : Option Place) → id_in cells team own ≡ None → moved cells own place ≡ cells
none_moved cells team own place none = go cells own (no_cell (slice_get cells own) none) where
  no_cell : (o : Option Cell) → option_map (λ (c : Cell). id_of team own) o ≡ None → o ≡ None
  no_cell None e = refl
  no_cell (Some c) e = absurd cc

  go : (cs : List Cell) (n : ℕ) → slice_get cs n ≡ None → moved cs n place ≡ cs
  go [] n e = refl
  go (c ∷ cs) zero e = absurd cc
  go (c ∷ cs) (suc n) e = ap (λ (xs : List Cell). c ∷ xs) (go cs n e)

-- ---- committed places

-- a commit moves no cell
pub places_committed : (cells : List Cell) → working_places_of (map as_committed cells) ≡ working_places_of cells
places_committed [] = refl
places_committed (c ∷ cs) = ap (λ (ps : Places). c.working ∷ ps) (places_committed cs)

pub committed_now : (cells : List Cell) → committed_of (map as_committed cells) ≡ working_places_of cells
committed_now [] = refl
committed_now (c ∷ cs) = ap (λ (ps : Places). c.working ∷ ps) (committed_now cs)

first_same : {a b : Cell} {rest others : List Cell} → a ∷ rest ≡ b ∷ others → a ≡ b
first_same e = cc

rest_same : {a b : Cell} {rest others : List Cell} → a ∷ rest ≡ b ∷ others → rest ≡ others
rest_same e = cc

-- cells that differ in working places alone have the same names and macros
pub fixed_same : (old new : List Cell) → SameButPlaces old new → map fixed_part new ≡ map fixed_part old
fixed_same [] [] same = refl
fixed_same [] (c ∷ cs) same = absurd cc
fixed_same (d ∷ ds) [] same = absurd cc
fixed_same (d ∷ ds) (c ∷ cs) same =
    ap (λ (x : Cell). (x.name, x.mac) ∷ map fixed_part cs) (first_same same) ∙ ap (λ (r : List (List ℕ × ℕ)). fixed_part d ∷ r) (fixed_same ds cs (rest_same same))

-- they have the same committed places
pub committed_same : (old new : List Cell) → SameButPlaces old new → committed_of new ≡ committed_of old
committed_same [] [] same = refl
committed_same [] (c ∷ cs) same = absurd cc
committed_same (d ∷ ds) [] same = absurd cc
committed_same (d ∷ ds) (c ∷ cs) same =
    ap (λ (x : Cell). x.committed ∷ committed_of cs) (first_same same) ∙ ap (λ (r : Places). d.committed ∷ r) (committed_same ds cs (rest_same same))

-- ---- the saved cells

head_is : {X : Type 0} {a b : X} {rest others : List X} → a ∷ rest ≡ b ∷ others → a ≡ b
head_is e = cc

tail_is : {X : Type 0} {a b : X} {rest others : List X} → a ∷ rest ≡ b ∷ others → rest ≡ others
tail_is e = cc

one_cell : (c d : Cell) (s : SavedCell) → fixed_part c ≡ fixed_part d → c.working ≡ s.working → c.committed ≡ s.committed → c ≡ restored_cell d s
one_cell c d s fixed working committed =
    ap (λ (f : List ℕ × ℕ). record { name = f.0; mac = f.1; working = c.working; committed = c.committed }) fixed
    ∙ ap (λ (p : Option Place). record { name = d.name; mac = d.mac; working = p; committed = c.committed }) working
    ∙ ap (λ (p : Option Place). record { name = d.name; mac = d.mac; working = s.working; committed = p }) committed

-- cells with these names and macros, at these places
pub cells_restored : (old new : List Cell) (saved : List SavedCell) → map fixed_part new ≡ map fixed_part old → working_places_of new ≡ map (λ c. c.working) saved
    → committed_of new ≡ map (λ c. c.committed) saved → new ≡ map_two restored_cell old saved
cells_restored [] [] saved fixed working committed = refl
cells_restored [] (c ∷ cs) saved fixed working committed = absurd cc
cells_restored (d ∷ ds) [] saved fixed working committed = absurd cc
cells_restored (d ∷ ds) (c ∷ cs) [] fixed working committed = absurd cc
cells_restored (d ∷ ds) (c ∷ cs) (s ∷ saved) fixed working committed =
    ap (λ (x : Cell). x ∷ cs) (one_cell c d s (head_is fixed) (head_is working) (head_is committed))
    ∙ ap (λ (xs : List Cell). restored_cell d s ∷ xs) (cells_restored ds cs saved (tail_is fixed) (tail_is working) (tail_is committed))
