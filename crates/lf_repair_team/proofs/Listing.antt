-- The flags of the cells of listed macros, one after the other.
use Rattle.std.proofs.Common.{◌≡◌, ◌≢◌, ◌∙◌, ◌⊎◌, ◌↔◌, ⊎_elim, ℕ, ◌+◌, ◌<◌, ◌≤◌, List, [], ◌∷◌, ◌++◌, Bool, true, IsTrue, length, Option, None, Some, refl, ap, sym, subst, arith}
use Rattle.std.specs.Prelude.{option_and_then, option_map, slice_get}
use Rattle.std.proofs.lemmas.Bool.{cases_eq, cases_lt}
use Rattle.std.proofs.lemmas.Option.{slice_get_past, slice_get_within}
use Rattle.lf_cells.specs.declared.cell.Cell.{Cell}
use Rattle.lf_floor_model.specs.States.{FloorState, TeamState}
use Rattle.lf_floor_model.specs.Outcomes.{name_at}
use Rattle.lf_floor_model.specs.Teams.{state_of, team_number}
use Rattle.lf_floor_model.proofs.LegalPlaces.{none_some, some_one}
use Rattle.lf_repair_bounds.specs.declared.reasons.ImpossibleMacro.{ImpossibleMacro}
use Rattle.lf_repair_bounds.specs.ImpossibleMacros.{is_listed}
use Rattle.lf_repair_strategy.proofs.Lists.{before_last, last_is, one_longer}
use Rattle.lf_repair_team.specs.CellEdits.{AreListedFlags}
use Rattle.lf_repair_team.specs.TeamRepairs.{IsListedIn}
use Rattle.lf_repair_team.proofs.Legal.{state_there}

-- ---- one cell

module _ (list : List ImpossibleMacro) (floor : FloorState) (team : List ℕ) (number own : ℕ) (cells : List Cell) (named : team_number floor.frame team ≡ Some number)
    (same : (s : TeamState) → slice_get floor.teams number ≡ Some s → cells ≡ s.cells) where
  cells_are : (s : TeamState) → state_of floor team ≡ Some s → cells ≡ s.cells
  cells_are s there = same s (state_there floor team number s named there)

  -- the macro of a cell of a listed macro
  pub its_mac : (is : IsListedIn list floor team own) → option_map (λ (c : Cell). c.mac) (slice_get cells own) ≡ Some is.cell.mac
  its_mac is =
      ap (λ (cs : List Cell). option_map (λ (c : Cell). c.mac) (slice_get cs own)) (cells_are is.state is.there)
      ∙ ap (λ (o : Option Cell). option_map (λ (c : Cell). c.mac) o) is.cell_is

  pub its_listed : (is : IsListedIn list floor team own) (mac : ℕ) → option_map (λ (c : Cell). c.mac) (slice_get cells own) ≡ Some mac → is_listed list number mac ≡ true
  its_listed is mac macro_is =
      let number_is : is.number ≡ number = some_one (sym is.named ∙ named) in
      let mac_is : is.cell.mac ≡ mac = some_one (sym (its_mac is) ∙ macro_is) in
      subst (λ (m : ℕ). is_listed list number m ≡ true) mac_is (subst (λ (n : ℕ). is_listed list n is.cell.mac ≡ true) number_is is.listed)

  pub its_name : (is : IsListedIn list floor team own) → option_and_then (λ s. name_at s.cells own) (state_of floor team) ≡ Some is.cell.name
  its_name is =
      ap (λ (o : Option TeamState). option_and_then (λ (s : TeamState). name_at s.cells own) o) is.there
      ∙ ap (λ (o : Option Cell). option_map (λ (c : Cell). c.name) o) is.cell_is

  -- a cell with a name, of a listed macro
  pub is_listed_cell : (mac : ℕ) (name : List ℕ) → option_map (λ (c : Cell). c.mac) (slice_get cells own) ≡ Some mac → is_listed list number mac ≡ true
      → option_and_then (λ s. name_at s.cells own) (state_of floor team) ≡ Some name → IsListedIn list floor team own
  is_listed_cell mac name macro_is listed has = go (state_of floor team) refl has where
    cell : (s : TeamState) → state_of floor team ≡ Some s → (o : Option Cell) → slice_get s.cells own ≡ o → option_map (λ (c : Cell). c.name) o ≡ Some name
        → IsListedIn list floor team own
    cell s there None is e = absurd (none_some e)
    cell s there (Some c) is e =
        let mac_is : c.mac ≡ mac =
        some_one (sym (ap (λ (cs : List Cell). option_map (λ (d : Cell). d.mac) (slice_get cs own)) (cells_are s there) ∙ ap (λ (o : Option Cell). option_map (λ (d : Cell). d.mac) o) is)
        ∙ macro_is) in
        record {
          number = number;
          state = s;
          cell = c;
          named = named;
          there = there;
          cell_is = is;
          listed = subst (λ (m : ℕ). is_listed list number m ≡ true) (sym mac_is) listed;
        }

    go : (o : Option TeamState) → state_of floor team ≡ o → option_and_then (λ (s : TeamState). name_at s.cells own) o ≡ Some name → IsListedIn list floor team own
    go None none e = absurd (none_some e)
    go (Some s) there e = cell s there (slice_get s.cells own) refl e

-- ---- all cells

-- the first `count` flags are right
pub record AreFlaggedTo (list : List ImpossibleMacro) (team : List ℕ) (floor : FloorState) (count : ℕ) (flags : List Bool) : Type 0 where
  pub many : length flags ≡ count
  pub are : (own : ℕ) → own < count → (slice_get flags own ≡ Some true) ↔ IsListedIn list floor team own

pub none_flagged : (list : List ImpossibleMacro) (team : List ℕ) (floor : FloorState) (flags : List Bool) → flags ≡ [] → AreFlaggedTo list team floor 0 flags
none_flagged list team floor flags none = record { many = ap (λ (xs : List Bool). length xs) none; are = λ own within. absurd (omega (arith, within)) }

pub next_flagged : (list : List ImpossibleMacro) (team : List ℕ) (floor : FloorState) (own : ℕ) (old new : List Bool) (flag : Bool)
    → (IsTrue flag ↔ IsListedIn list floor team own) → new ≡ old ++ flag ∷ [] → AreFlaggedTo list team floor own old → AreFlaggedTo list team floor (own + 1) new
next_flagged list team floor own old new flag is more so_far = record {
  many = ap (λ (xs : List Bool). length xs) more ∙ one_longer old flag ∙ ap (λ (n : ℕ). n + 1) so_far.many;
  are = λ k within. ⊎_elim (λ (same : k ≡ own). here k same) (λ (differ : k ≢ own). before k (omega (arith, within, differ))) (cases_eq k own);
} where
  by_more : (k : ℕ) → slice_get new k ≡ slice_get (old ++ flag ∷ []) k
  by_more k = ap (λ (xs : List Bool). slice_get xs k) more

  last : (k : ℕ) → k ≡ own → slice_get new k ≡ Some flag
  last k same = by_more k ∙ ap (λ (j : ℕ). slice_get (old ++ flag ∷ []) j) (same ∙ sym so_far.many) ∙ last_is old flag

  here : (k : ℕ) → k ≡ own → (slice_get new k ≡ Some true) ↔ IsListedIn list floor team k
  here k same = (
    λ flagged. subst (λ (j : ℕ). IsListedIn list floor team j) (sym same) (is.0 (some_one (sym (last k same) ∙ flagged))),
    λ listed. last k same ∙ ap (λ (b : Bool). Some b) (is.1 (subst (λ (j : ℕ). IsListedIn list floor team j) same listed)),
  )

  before : (k : ℕ) → k < own → (slice_get new k ≡ Some true) ↔ IsListedIn list floor team k
  before k less =
      let read : slice_get new k ≡ slice_get old k = by_more k ∙ before_last old flag k (omega (arith, less, so_far.many)) in (
        λ flagged. (so_far.are k less).0 (sym read ∙ flagged),
        λ listed. read ∙ (so_far.are k less).1 listed,
      )

pub all_flagged : (list : List ImpossibleMacro) (team : List ℕ) (floor : FloorState) (count : ℕ) (flags : List Bool)
    → ((s : TeamState) → state_of floor team ≡ Some s → length s.cells ≤ count) → AreFlaggedTo list team floor count flags → AreListedFlags list team floor flags
all_flagged list team floor count flags many so_far own = ⊎_elim (λ (less : own < count). so_far.are own less) (λ (past : count ≤ own). beyond past) (cases_lt own count) where
  no_flag : None ≡ Some true → ⊥
  no_flag e = cc

  beyond : count ≤ own → (slice_get flags own ≡ Some true) ↔ IsListedIn list floor team own
  beyond past = (
    λ flagged. absurd (no_flag (sym (slice_get_past flags own (omega (arith, past, so_far.many))) ∙ flagged)),
    λ listed.
        let within = slice_get_within listed.state.cells own listed.cell listed.cell_is in
        let few = many listed.state listed.there in
        absurd (omega (arith, within, few, past)),
  )
