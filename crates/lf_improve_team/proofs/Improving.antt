-- A team through the commands of its session.
use Rattle.std.proofs.Common.{◌≡◌, ⊎_elim, ℤ, ◌-ℤ◌, unsigned_abs, ℕ, zero, suc, ◌+◌, ◌<◌, ◌≤◌, List, [], ◌∷◌, true, length, map, Option, Some, None, refl, ap, ap₂, sym, ◌∙◌, subst, arith}
use Rattle.std.specs.Prelude.{IfSome, is_some, option_and_then, option_map, slice_get, unwrap_or}
use Rattle.std.proofs.lemmas.Bool.{cases_lt}
use Rattle.std.proofs.lemmas.Int.{ints}
use Rattle.std.proofs.lemmas.List.{length-map}
use Rattle.lf_floorplan.specs.declared.frame.Frame.{Frame}
use Rattle.lf_floorplan.specs.declared.place.Place.{Place}
use Rattle.lf_rules.specs.Legalizer.{Legalizer}
use Rattle.lf_wire_length.specs.declared.pins.NetPin.{NetPin}
use Rattle.lf_cells.specs.declared.cell.Cell.{Cell}
use Rattle.lf_cells.specs.declared.cell.CellId.{CellId}
use Rattle.lf_cells.specs.Cells.{Cells, cells_of, committed_at, id_of, working_at}
use Rattle.lf_floor_model.specs.States.{FloorState, TeamState}
use Rattle.lf_floor_model.specs.Outcomes.{places_of}
use Rattle.lf_floor_model.specs.Steps.{AllCommittedIn}
use Rattle.lf_floor_model.specs.Teams.{state_of, team_number}
use Rattle.lf_floor_model.specs.VerbLaws.{committed_places}
use Rattle.lf_floor_model.proofs.LegalPlaces.{none_some, some_one}
use Rattle.lf_repair_strategy.specs.Targets.{AreWorkingPlaces, target_at}
use Rattle.lf_repair_team.specs.CellEdits.{KeepsCommittedPlaces, KeepsPlaces, SameCells}
use Rattle.lf_repair_team.specs.Stats.{displacement}
use Rattle.lf_repair_team.specs.TeamRepairs.{AreMovedOffSoft, ChangesOnly, committed_in, place_of_cell_in}
use Rattle.lf_repair_team.proofs.Legal.{committed_through, same_committed, same_places, state_there}
use Rattle.lf_repair_team.proofs.OffSoft.{moved_off_soft, targets_stay}
use Rattle.lf_improve_team.specs.FloorLengths.{IsWireLengthOn}
use Rattle.lf_improve_team.specs.TeamImprovements.{AreCellsNear, IsCommitted, IsMovedBack, IsShortened, KeepsTeamPlaces, StaysWithin}
use Rattle.lf_improve_team.proofs.Lengths.{length_kept}

-- ---- committed places

committed_places_at : (cells : List Cell) (own : ℕ) → target_at (map (λ (c : Cell). c.committed) cells) own ≡ committed_at cells own
committed_places_at [] own = refl
committed_places_at (c ∷ cs) zero = refl
committed_places_at (c ∷ cs) (suc own) = committed_places_at cs own

working_places_at : (cells : List Cell) (own : ℕ) → target_at (places_of cells) own ≡ working_at cells own
working_places_at [] own = refl
working_places_at (c ∷ cs) zero = refl
working_places_at (c ∷ cs) (suc own) = working_places_at cs own

-- if each cell is at its committed place, the lists are equal
pub all_committed : (cells : List Cell) → ((own : ℕ) → own < length cells → committed_at cells own ≡ working_at cells own)
    → map (λ (c : Cell). c.committed) cells ≡ places_of cells
all_committed [] same = refl
all_committed (c ∷ cs) same =
    ap₂ (λ (p : Option Place) (ps : List (Option Place)). p ∷ ps) (same 0 (omega arith)) (all_committed cs (λ own within. same (suc own) (omega (arith, within))))

pub each_committed : (cells : List Cell) → map (λ (c : Cell). c.committed) cells ≡ places_of cells → (own : ℕ) → committed_at cells own ≡ working_at cells own
each_committed cells same own =
    sym (committed_places_at cells own) ∙ ap (λ (ps : List (Option Place)). target_at ps own) same ∙ working_places_at cells own

-- one cell more is at its committed place
pub one_more_committed : (cells : List Cell) (k : ℕ) → committed_at cells k ≡ working_at cells k
    → ((own : ℕ) → own < k → committed_at cells own ≡ working_at cells own) → (own : ℕ) → own < k + 1 → committed_at cells own ≡ working_at cells own
one_more_committed cells k here before own within =
    ⊎_elim (λ (less : own < k). before own less) (λ (least : k ≤ own). at_k (omega (arith, within, least))) (cases_lt own k)
  where
    at_k : own ≡ k → committed_at cells own ≡ working_at cells own
    at_k same = subst (λ (n : ℕ). committed_at cells n ≡ working_at cells n) (sym same) here

-- the committed place of the cell with an id, read in an equal table
pub committed_read : (table read : Cells) (number k : ℕ) (id : CellId) (place : Option Place) → read ≡ table → id ≡ id_of number k
    → place ≡ committed_at (cells_of read id.team) id.own → place ≡ committed_at (cells_of table number) k
committed_read table read number k id place same is there =
    there ∙ ap (λ (t : Cells). committed_at (cells_of t id.team) id.own) same ∙ ap (λ (i : CellId). committed_at (cells_of table i.team) i.own) is

-- ---- through open and close

pub same_kept : (team : List ℕ) (old new : FloorState) → SameCells team old new → KeepsTeamPlaces team old new
same_kept team old new same = record { working = same_places team old new same; committed = same_committed team old new same }

pub then_kept : (team : List ℕ) (a b c : FloorState) → KeepsTeamPlaces team a b → KeepsTeamPlaces team b c → KeepsTeamPlaces team a c
then_kept team a b c first second = record { working = λ own. second.working own ∙ first.working own; committed = second.committed ∙ first.committed }

pub near_kept : (limit : Option ℕ) (places : List (Option Place)) (team : List ℕ) (old new : FloorState) → KeepsPlaces team old new
    → AreCellsNear limit places team old → AreCellsNear limit places team new
near_kept limit places team old new stay near own far is =
    subst (λ (p : Option Place). displacement (target_at places own) p ≤ far) (sym (stay own)) (near own far is)

pub shortened_through : (nets : List (List NetPin)) (before : ℕ) (limit : Option ℕ) (places : List (Option Place)) (team : List ℕ) (old new : FloorState) (length : ℕ)
    → ChangesOnly team old new → SameCells team old new → IsShortened nets before limit places team old length
    → IsShortened nets before limit places team new length
shortened_through nets before limit places team old new length only same is = record {
  measured = length_kept team old new only (same_places team old new same) nets length is.measured;
  shorter = is.shorter;
  near = near_kept limit places team old new (same_places team old new same) is.near;
  off_soft = targets_stay team old new only places (same_places team old new same) is.off_soft;
  committed = λ l. committed_through l team old new only.frame same (is.committed l);
}

-- the same for a result that may be None
pub improved_through : (nets : List (List NetPin)) (before : ℕ) (limit : Option ℕ) (places : List (Option Place)) (team : List ℕ) (old new : FloorState)
    → ChangesOnly team old new → SameCells team old new → (found : Option ℕ) → IfSome found (λ length. IsShortened nets before limit places team old length)
    → IfSome found (λ length. IsShortened nets before limit places team new length)
improved_through nets before limit places team old new only same None is = tt
improved_through nets before limit places team old new only same (Some length) is = shortened_through nets before limit places team old new length only same is

-- ---- back at the committed places

abbrev in_list : ℕ → Option (List (Option Place)) → Option Place
in_list own o = option_and_then (λ (places : List (Option Place)). target_at places own) o

-- the cells are where they were if their working places were committed
pub back_is_kept : (team : List ℕ) (old mid new : FloorState) → IsCommitted team old → KeepsCommittedPlaces team old mid → IsMovedBack team mid new
    → KeepsTeamPlaces team old new
back_is_kept team old mid new is kept back = record {
  working = λ own. back.working own ∙ ap (in_list own) kept ∙ was own;
  committed = back.committed ∙ kept;
} where
  was : (own : ℕ) → in_list own (committed_in old team) ≡ place_of_cell_in old team own
  was own = go (state_of old team) refl where
    go : (o : Option TeamState) → state_of old team ≡ o → in_list own (option_map committed_places o) ≡ option_and_then (λ (s : TeamState). working_at s.cells own) o
    go None there = refl
    go (Some s) there = ap (λ (ps : List (Option Place)). target_at ps own) (is s there) ∙ working_places_at s.cells own

-- ---- displacements

no_difference : (z : ℤ) → unsigned_abs (z -ℤ z) ≡ 0
no_difference z = grind (arith, ints)

stays_near : (p : Option Place) → displacement p p ≡ 0
stays_near None = refl
stays_near (Some a) = ap₂ (λ (m : ℕ) (n : ℕ). m + n) (no_difference a.x) (no_difference a.y)

pub within_kept : (limit : Option ℕ) (team : List ℕ) (old new : FloorState) → KeepsPlaces team old new → StaysWithin limit team old new
within_kept limit team old new stay own far is =
    let none : displacement (place_of_cell_in old team own) (place_of_cell_in new team own) ≡ 0 =
    ap (λ (p : Option Place). displacement (place_of_cell_in old team own) p) (stay own) ∙ stays_near (place_of_cell_in old team own) in
    omega (arith, none)

pub within_of : (limit : Option ℕ) (team : List ℕ) (old new : FloorState) (number : ℕ) (places : List (Option Place)) → team_number old.frame team ≡ Some number
    → ((s : TeamState) → slice_get old.teams number ≡ Some s → AreWorkingPlaces s.cells places) → AreCellsNear limit places team new
    → StaysWithin limit team old new
within_of limit team old new number places named are near own far is = go (state_of old team) refl where
  now : Option Place
  now = place_of_cell_in new team own

  go : (o : Option TeamState) → state_of old team ≡ o → displacement (option_and_then (λ (s : TeamState). working_at s.cells own) o) now ≤ far
  go None there = omega arith
  go (Some s) there = subst (λ (p : Option Place). displacement p now ≤ far) (are s (state_there old team number s named there) own) (near own far is)

-- no cell that stays has moved onto a soft blockage
pub none_moved_onto_soft : (team : List ℕ) (old new : FloorState) → KeepsPlaces team old new → AreMovedOffSoft team old new
none_moved_onto_soft team old new stay own placed moved = absurd (moved (stay own))

-- ---- the result

-- the cells are as many as before
pub many_before : (team : List ℕ) (old new : FloorState) (number count : ℕ) → team_number old.frame team ≡ Some number → ChangesOnly team old new
    → ((s : TeamState) → slice_get new.teams number ≡ Some s → count ≡ length s.cells) → (s : TeamState) → state_of old team ≡ Some s → count ≡ length s.cells
many_before team old new number count named only many s was = go (state_of new team) refl where
  names_of : Option TeamState → Option (List (List ℕ))
  names_of o = option_map (λ (u : TeamState). map (λ (c : Cell). c.name) u.cells) o

  go : (o : Option TeamState) → state_of new team ≡ o → count ≡ length s.cells
  go None there = absurd (none_some (sym (ap names_of there) ∙ only.names ∙ ap names_of was))
  go (Some t) there =
      let names : map (λ (c : Cell). c.name) t.cells ≡ map (λ (c : Cell). c.name) s.cells = some_one (sym (ap names_of there) ∙ only.names ∙ ap names_of was) in
      many t (state_there new team number t (ap (λ (f : Frame). team_number f team) only.frame ∙ named) there)
      ∙ sym (length-map t.cells (λ (c : Cell). c.name)) ∙ ap (λ (ns : List (List ℕ)). length ns) names ∙ length-map s.cells (λ (c : Cell). c.name)

module _ (nets : List (List NetPin)) (before : ℕ) (limit : Option ℕ) (places : List (Option Place)) (team : List ℕ) (old new : FloorState)
    (only : ChangesOnly team old new) where
  abbrev Improved : Option ℕ → Type 0
  Improved found = IfSome found (λ length. IsShortened nets before limit places team new length)

  abbrev Kept : Option ℕ → Type 0
  Kept found = found ≡ None → KeepsTeamPlaces team old new

  pub measured_of : (found : Option ℕ) → Improved found → Kept found → IsWireLengthOn nets old before → IsWireLengthOn nets new (unwrap_or found before)
  measured_of None improved kept was = length_kept team old new only (kept refl).working nets before was
  measured_of (Some length) improved kept was = improved.measured

  pub no_longer : (found : Option ℕ) → Improved found → unwrap_or found before ≤ before
  no_longer None improved = omega arith
  no_longer (Some length) improved = omega (arith, improved.shorter)

  pub committed_if : (found : Option ℕ) → Improved found → is_some found ≡ true → (l : Legalizer) → AllCommittedIn l new team
  committed_if None improved is l = absurd cc
  committed_if (Some length) improved is l = improved.committed l

  pub near_in_any : (number : ℕ) (found : Option ℕ) → team_number old.frame team ≡ Some number
      → ((s : TeamState) → slice_get old.teams number ≡ Some s → AreWorkingPlaces s.cells places) → Improved found → Kept found → StaysWithin limit team old new
  near_in_any number None named are improved kept = within_kept limit team old new (kept refl).working
  near_in_any number (Some length) named are improved kept = within_of limit team old new number places named are improved.near

  pub off_soft_in_any : (number : ℕ) (found : Option ℕ) → team_number old.frame team ≡ Some number
      → ((s : TeamState) → slice_get old.teams number ≡ Some s → AreWorkingPlaces s.cells places) → Improved found → Kept found → AreMovedOffSoft team old new
  off_soft_in_any number None named are improved kept = none_moved_onto_soft team old new (kept refl).working
  off_soft_in_any number (Some length) named are improved kept = moved_off_soft team old new number places named are only.names improved.off_soft
