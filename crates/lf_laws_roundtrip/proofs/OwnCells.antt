-- All cells of a team, at any places, are cells of the team.
use Rattle.std.proofs.Common.{◌≡◌, ◌==◌, ℕ, ◌≤◌, Bool, true, false, List, [], ◌∷◌, All, map, length, get_or, refl, ap, sym, ◌∙◌, arith}
use Rattle.std.specs.Prelude.{filter, Contains, IfSome}
use Rattle.std.proofs.lemmas.Bool.Decides.{nat_tests}
use Rattle.std.proofs.lemmas.List.{length-map, get_or_default}
use Rattle.std.proofs.lemmas.List.Elements.{All-nil, All-cons, All-head, All-tail}
use Rattle.lf_def.specs.Ranges.{IsLocation}
use Rattle.lf_floorplan.specs.declared.loaded.LoadedCell.{LoadedCell}
use Rattle.lf_floorplan.specs.declared.loaded.Loaded.{Loaded}
use Rattle.lf_cells.specs.declared.cell.Cell.{Cell}
use Rattle.lf_cells.specs.Initial.{initial_cell, own_cells}
use Rattle.lf_frame.specs.Loads.{as_location}
use Rattle.lf_laws_roundtrip.specs.LoadedTeams.{IsCellOfTeam, lasting_part, OwnCellsAreTeamCells}

-- The elements that pass a test, if all elements have a property.
passing : {X : Type 0} (p : X → Bool) (P : X → Type 0) (xs : List X) → All P xs → All (λ x. P x × (p x ≡ true)) (filter p xs)
passing p P [] all = All-nil (λ x. P x × (p x ≡ true))
passing p P (x ∷ xs) all = by (p x) refl (passing p P xs (All-tail P x xs all))
  where
    by : (test : Bool) → p x ≡ test → All (λ y. P y × (p y ≡ true)) (filter p xs) → All (λ y. P y × (p y ≡ true)) (filter p (x ∷ xs))
    by true h rest = rw h (All-cons (λ y. P y × (p y ≡ true)) x (filter p xs) (All-head P x xs all, h) rest)
    by false h rest = rw h rest

fewer : {X : Type 0} (p : X → Bool) (xs : List X) → length (filter p xs) ≤ length xs
fewer p [] = omega arith
fewer p (x ∷ xs) = by (p x) refl (fewer p xs)
  where
    by : (test : Bool) → p x ≡ test → length (filter p xs) ≤ length xs → length (filter p (x ∷ xs)) ≤ length (x ∷ xs)
    by true h rest = rw h (omega arith)
    by false h rest = rw h (omega arith)

same_number : (n m : ℕ) → (n == m) ≡ true → n ≡ m
same_number n m h = grind (arith, nat_tests)

-- Holds if this is a cell of the list with the team's number.
abbrev IsOwn : Loaded → ℕ → LoadedCell → Type 0
IsOwn l number d = Contains l.cells d × ((d.team == number) ≡ true)

all_own : (l : Loaded) (number : ℕ) → All (IsOwn l number) (filter (λ d. d.team == number) l.cells)
all_own l number =
    passing (λ d. d.team == number) (Contains l.cells) l.cells (λ k d within. (k, within, get_or_default l.cells k (get_or l.cells k d) d within))

abbrev IsPlaced : Cell → Type 0
IsPlaced c = IfSome c.working (λ p. IsLocation (as_location p))

own_each : (l : Loaded) (number : ℕ) (cells : List Cell) (loaded : List LoadedCell) → map lasting_part cells ≡ map lasting_part (map initial_cell loaded)
    → All (IsOwn l number) loaded → All IsPlaced cells → All (IsCellOfTeam l number) cells
own_each l number [] loaded same own placed = All-nil (IsCellOfTeam l number)
own_each l number (c ∷ cs) [] same own placed = absurd cc
own_each l number (c ∷ cs) (d ∷ ds) same own placed =
    let here : lasting_part c ≡ lasting_part (initial_cell d) = cc in
    let others : map lasting_part cs ≡ map lasting_part (map initial_cell ds) = cc in
    let known = All-head (IsOwn l number) d ds own in
    All-cons (IsCellOfTeam l number) c cs
    (record {
      loaded = d;
      there = known.0;
      own = same_number d.team number known.1;
      name = ap (λ x. x.0) here;
      mac = ap (λ x. x.1) here;
      place = All-head IsPlaced c cs placed;
    })
    (own_each l number cs ds others (All-tail (IsOwn l number) d ds own) (All-tail IsPlaced c cs placed))

pub own_are_team_cells : OwnCellsAreTeamCells
own_are_team_cells l number cells are =
    let loaded : List LoadedCell = filter (λ d. d.team == number) l.cells in
    let many : length cells ≡ length loaded =
    sym (length-map cells lasting_part) ∙ ap (λ xs. length xs) are.same ∙ length-map (own_cells number l.cells) lasting_part ∙ length-map loaded initial_cell in
    let least : length loaded ≤ length l.cells = fewer (λ d. d.team == number) l.cells in
    let most = l.few_cells in
    record {
      few = omega (arith, many, least, most);
      own = own_each l number cells loaded are.same (all_own l number) are.places;
      no_plus = are.no_plus;
    }
