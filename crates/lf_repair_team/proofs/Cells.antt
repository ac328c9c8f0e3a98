-- A change of one cell leaves the places of all others unchanged.
use Rattle.std.proofs.Common.{◌≡◌, ◌≢◌, ◌⊎◌, inl, inr, ⊎_elim, ℕ, zero, suc, ◌<◌, List, [], ◌∷◌, length, map, get_or, Bool, true, false, cond, eqb, ltb, Option, Some, None, refl, ap, sym, ◌∙◌, subst, arith}
use Rattle.std.specs.Prelude.{AllPairs, bytes_eq, slice_get, option_and_then}
use Rattle.std.specs.Option.{option_map}
use Rattle.std.proofs.lemmas.Bool.{cases_eq}
use Rattle.std.proofs.lemmas.List.Quantifiers.{position-Some}
use Rattle.std.proofs.lemmas.Option.{slice_get-map, slice_get_within, get_or_from_slice_get}
use Rattle.std.proofs.lemmas.Slice.Eq.{bytes_eq-Decides}
use Rattle.lf_units.specs.declared.geometry.Point.{Point}
use Rattle.lf_floorplan.specs.declared.place.Place.{Place}
use Rattle.lf_rules.specs.declared.rule.Broken.{Broken}
use Rattle.lf_rules.specs.Legalizer.{Legalizer}
use Rattle.lf_proto.specs.declared.request.Command.TheVariants.{To}
use Rattle.lf_proto.specs.declared.request.TeamCommand.TheVariants.{Within}
use Rattle.lf_proto.specs.declared.verb.Action.TheVariants.{Change as Changing}
use Rattle.lf_proto.specs.declared.verb.Change.{Change}
use Rattle.lf_proto.specs.declared.verb.Change.TheVariants.{Place as PlaceAt, Legalize, Tidy, Unplace, Swap, Undo, Commit, Revert, Pad}
use Rattle.lf_proto.specs.declared.reply.Refusal.TheVariants.{RevisionsSpent, Stale}
use Rattle.lf_reports.specs.declared.broken_cell.BrokenCell.{BrokenCell}
use Rattle.lf_cells.specs.declared.cell.Cell.{Cell}
use Rattle.lf_cells.specs.Cells.{as_committed, cell_named, moved, working_at}
use Rattle.lf_floor_model.specs.States.{FloorState, TeamState}
use Rattle.lf_floor_model.specs.Teams.{TeamRules, broken_at, team_rules, state_of}
use Rattle.lf_floor_model.specs.Outcomes.{Outcome, name_at, refused}
use Rattle.lf_floor_model.specs.Sessions.{seen_at}
use Rattle.lf_floor_model.specs.Queries.{best_at}
use Rattle.lf_floor_model.specs.Changes.{placed, unplaced, legalized, committed, committed_unless, first_unplaced, broken_cells, outcome_of_change}
use Rattle.lf_floor_model.specs.VerbLaws.{is_commit, is_pad, outcome_of_asking}
use Rattle.lf_floor_model.specs.Verbs.{outcome_by_slot}
use Rattle.lf_floor_model.proofs.Forms.{placed_own, placed_unless, unplaced_own, unplaced_from, legalized_own, legalized_at, unless_spent}
use Rattle.lf_floor_model.proofs.LegalPlaces.{moved_there}
use Rattle.lf_repair_team.specs.CellEdits.{IsUnchangedOrStepped, IsOfCell, KeepsPlaces}
use Rattle.lf_repair_team.specs.TeamRepairs.{place_of_cell_in}
use Rattle.lf_repair_team.proofs.Steps.{place_stays}

-- ---- the rules

module _ (s : TeamState) (cell : List ℕ) (other : ℕ) (differ : cell_named cell s.cells ≡ Some other → ⊥) where
  abbrev Stays : Outcome → Type 0
  Stays o = working_at o.team.cells other ≡ working_at s.cells other

  moved_stays : (own : ℕ) (place : Option Place) → cell_named cell s.cells ≡ Some own → working_at (moved s.cells own place) other ≡ working_at s.cells other
  moved_stays own place named =
      ap (λ (o : Option Cell). option_and_then (λ (c : Cell). c.working) o)
      (moved_there s.cells own other place (λ (e : other ≡ own). differ (named ∙ ap (λ (n : ℕ). Some n) (sym e))))

  placed_stays : (t : TeamRules) (session : ℕ) (place : Place) → Stays (placed t session cell place s)
  unfolding placed
  placed_stays t session place = own (cell_named cell s.cells) refl where
    unless : (n : ℕ) → cell_named cell s.cells ≡ Some n → (b : Option Broken) → Stays (placed_unless b n t.frame.limits session place s)
    unless n named None = moved_stays n (Some place) named
    unless n named (Some b) = refl

    own : (o : Option ℕ) → cell_named cell s.cells ≡ o → Stays (placed_own o t session place s)
    own None named = refl
    own (Some n) named = unless n named (broken_at t s.cells n place)

  legalized_stays : (t : TeamRules) (session : ℕ) (target : Point) → Stays (legalized t session cell target s)
  unfolding legalized
  legalized_stays t session target = own (cell_named cell s.cells) refl where
    at : (n : ℕ) → cell_named cell s.cells ≡ Some n → (o : Option Place) → Stays (legalized_at o t session n s)
    at n named None = refl
    at n named (Some place) = moved_stays n (Some place) named

    own : (o : Option ℕ) → cell_named cell s.cells ≡ o → Stays (legalized_own o t session target s)
    own None named = refl
    own (Some n) named = at n named (best_at t s.cells n target)

  unplaced_stays : (t : TeamRules) (session : ℕ) → Stays (unplaced t.frame.limits session cell s)
  unfolding unplaced
  unplaced_stays t session = own (cell_named cell s.cells) refl where
    from : (n : ℕ) → cell_named cell s.cells ≡ Some n → (o : Option Place) → Stays (unplaced_from o n t.frame.limits session s)
    from n named None = refl
    from n named (Some place) = moved_stays n None named

    own : (o : Option ℕ) → cell_named cell s.cells ≡ o → Stays (unplaced_own o t.frame.limits session s)
    own None named = refl
    own (Some n) named = from n named (working_at s.cells n)

  change_stays : (t : TeamRules) (session : ℕ) (change : Change (List ℕ) Place) → IsOfCell cell change → Stays (outcome_of_change t session change s)
  change_stays t session (PlaceAt name place) is = subst (λ (n : List ℕ). Stays (placed t session n place s)) (sym is) (placed_stays t session place)
  change_stays t session (Legalize name target) is = subst (λ (n : List ℕ). Stays (legalized t session n target s)) (sym is) (legalized_stays t session target)
  change_stays t session (Unplace name) is = subst (λ (n : List ℕ). Stays (unplaced t.frame.limits session n s)) (sym is) (unplaced_stays t session)
  change_stays t session Tidy is = absurd is
  change_stays t session (Swap first second) is = absurd is
  change_stays t session Undo is = absurd is
  change_stays t session Commit is = absurd is
  change_stays t session Revert is = absurd is
  change_stays t session (Pad padding) is = absurd is

-- what holds for the outcome of a change if it is made, and for the unchanged team, holds for the
-- outcome in any case
requested_of : (P : List Cell → Type 0) (t : TeamRules) (session : ℕ) (change : Change (List ℕ) Place) (s : TeamState) → P s.cells
    → P (outcome_of_change t session change s).team.cells → P (outcome_of_asking t session change s).team.cells
requested_of P t session change s before done = slot (seen_at s.slots session) where
  spent : (b : Bool) → P (cond b (outcome_of_change t session change s) (refused RevisionsSpent s)).team.cells
  spent true = done
  spent false = before

  stale : (seen : ℕ) (b : Bool) → P (cond b (unless_spent t session change s) (refused (Stale s.revision) s)).team.cells
  stale seen true = spent (ltb s.revision t.frame.limits.revisions)
  stale seen false = before

  slot : (o : Option ℕ) → P (outcome_by_slot o t session (Changing change) s).team.cells
  slot None = before
  slot (Some seen) = stale seen (eqb seen s.revision)

-- ---- names

tri : (a b : ℕ) → a ≢ b → (a < b) ⊎ (b < a)
tri zero zero differ = absurd (differ refl)
tri zero (suc b) differ = inl (omega arith)
tri (suc a) zero differ = inr (omega arith)
tri (suc a) (suc b) differ = elim (tri a b (λ e. differ (ap suc e))) [
  | inl less ↦ inl (omega (arith, less))
  | inr more ↦ inr (omega (arith, more))
]

cell_there : (cells : List Cell) (own : ℕ) → own < length cells → (c : Cell) × (slice_get cells own ≡ Some c)
cell_there [] own within = absurd (omega arith)
cell_there (c ∷ cs) zero within = (c, refl)
cell_there (c ∷ cs) (suc own) within = cell_there cs own (omega arith)

-- a name belongs to one cell
pub named_is : (cells : List Cell) (own other : ℕ) (name : List ℕ) → AllPairs (λ a b. a ≢ b) (map (λ c. c.name) cells) → name_at cells own ≡ Some name
    → cell_named name cells ≡ Some other → other ≡ own
named_is cells own other name differ at named = ⊎_elim (λ (same : other ≡ own). same) apart (cases_eq other own) where
  names : List (List ℕ)
  names = map (λ (c : Cell). c.name) cells

  first : slice_get names own ≡ Some name
  first = slice_get-map (λ (c : Cell). c.name) cells own ∙ at

  some_cell : Cell
  some_cell = go (slice_get cells own) at where
    go : (o : Option Cell) → option_map (λ (c : Cell). c.name) o ≡ Some name → Cell
    go None e = absurd cc
    go (Some c) e = c

  within : other < length cells
  within = (position-Some (λ (c : Cell). bytes_eq c.name name) cells other some_cell named).0

  second : slice_get names other ≡ Some name
  second =
      let found = cell_there cells other within in
      let here = position-Some (λ (c : Cell). bytes_eq c.name name) cells other found.0 named in
      let is : found.0.name ≡ name =
      ap (λ (c : Cell). c.name) (sym (get_or_from_slice_get cells other found.0 found.0 found.1)) ∙ (bytes_eq-Decides (get_or cells other found.0).name name).0 here.1 in
      slice_get-map (λ (c : Cell). c.name) cells other ∙ ap (λ (o : Option Cell). option_map (λ (c : Cell). c.name) o) found.1 ∙ ap (λ (n : List ℕ). Some n) is

  at_own : get_or names own [] ≡ name
  at_own = get_or_from_slice_get names own name [] first

  at_other : get_or names other [] ≡ name
  at_other = get_or_from_slice_get names other name [] second

  apart : other ≢ own → other ≡ own
  apart e = elim (tri other own e) [
    | inl less ↦ absurd (differ other own [] less (slice_get_within names own name first) (at_other ∙ sym at_own))
    | inr more ↦ absurd (differ own other [] more (slice_get_within names other name second) (at_own ∙ sym at_other))
  ]

-- ---- the floor

-- a change of one cell is not a commit
pub no_commit : (session : ℕ) (cell : List ℕ) (change : Change (List ℕ) Place) → IsOfCell cell change → is_commit (Within session (Changing change)) ≡ false
no_commit session cell (PlaceAt name place) is = refl
no_commit session cell (Legalize name target) is = refl
no_commit session cell (Unplace name) is = refl
no_commit session cell Tidy is = refl
no_commit session cell (Swap first second) is = refl
no_commit session cell Undo is = refl
no_commit session cell Commit is = absurd is
no_commit session cell Revert is = refl
no_commit session cell (Pad padding) is = refl

-- nor a pad
pub no_pad : (session : ℕ) (cell : List ℕ) (change : Change (List ℕ) Place) → IsOfCell cell change → is_pad (Within session (Changing change)) ≡ false
no_pad session cell (PlaceAt name place) is = refl
no_pad session cell (Legalize name target) is = refl
no_pad session cell (Unplace name) is = refl
no_pad session cell Tidy is = refl
no_pad session cell (Swap first second) is = refl
no_pad session cell Undo is = refl
no_pad session cell Commit is = refl
no_pad session cell Revert is = refl
no_pad session cell (Pad padding) is = absurd is

-- a change of the cell with this name leaves the place of each other cell unchanged
pub others_stay : (l : Legalizer) (old new : FloorState) (team cell : List ℕ) (session : ℕ) (change : Change (List ℕ) Place) (other : ℕ)
    → IsOfCell cell change → IsUnchangedOrStepped l old (To team (Within session (Changing change))) new
    → ((s : TeamState) → state_of old team ≡ Some s → cell_named cell s.cells ≡ Some other → ⊥)
    → place_of_cell_in new team other ≡ place_of_cell_in old team other
others_stay l old new team cell session change other is requested differ =
    place_stays l old new team (Within session (Changing change)) other requested
    (λ number s there. requested_of (λ cells. working_at cells other ≡ working_at s.cells other) (team_rules l old.frame number s.padding) session change s refl
    (change_stays s cell other (differ s there) (team_rules l old.frame number s.padding) session change is))

committed_working : (cells : List Cell) (own : ℕ) → working_at (map as_committed cells) own ≡ working_at cells own
committed_working [] own = refl
committed_working (c ∷ cs) zero = refl
committed_working (c ∷ cs) (suc own) = committed_working cs own

commit_done : (t : TeamRules) (session own : ℕ) (s : TeamState) → working_at (outcome_of_change t session Commit s).team.cells own ≡ working_at s.cells own
unfolding committed
commit_done t session own s = go (first_unplaced s.cells) (broken_cells t s.cells) where
  go : (o : Option ℕ) (bs : List BrokenCell) → working_at (committed_unless o bs session s).team.cells own ≡ working_at s.cells own
  go (Some n) bs = refl
  go None (b ∷ bs) = refl
  go None [] = committed_working s.cells own

-- a commit leaves all places unchanged
pub commit_stays : (l : Legalizer) (old new : FloorState) (team : List ℕ) (session : ℕ) → IsUnchangedOrStepped l old (To team (Within session (Changing Commit))) new
    → KeepsPlaces team old new
commit_stays l old new team session requested own =
    place_stays l old new team (Within session (Changing Commit)) own requested
    (λ number s there. requested_of (λ cells. working_at cells own ≡ working_at s.cells own) (team_rules l old.frame number s.padding) session Commit s refl
    (commit_done (team_rules l old.frame number s.padding) session own s))
