-- Cells off soft blockages: a cell that a legalize places is off them, and stays off them at its place.
use Rattle.std.proofs.Common.{◌≡◌, ◌≢◌, ◌⊎◌, inl, inr, ℕ, ℤ, ◌+◌, ◌<◌, ◌≤◌, zero, suc, List, Bool, true, map, length, Option, Some, None, refl, ap, sym, ◌∙◌, subst, arith}
use Rattle.std.specs.Prelude.{All, slice_get, option_and_then}
use Rattle.std.specs.Option.{option_map}
use Rattle.std.proofs.lemmas.Bool.{cases_eq}
use Rattle.std.proofs.lemmas.List.{length-map}
use Rattle.std.proofs.lemmas.List.Elements.{All-weaker}
use Rattle.std.proofs.lemmas.Option.{slice_get-map, slice_get_past}
use Rattle.lf_units.specs.declared.geometry.Point.{Point}
use Rattle.lf_floorplan.specs.declared.frame.Frame.{Frame}
use Rattle.lf_floorplan.specs.declared.place.Place.{Place}
use Rattle.lf_floorplan.specs.Ground.{OverlapsSoft}
use Rattle.lf_rules.specs.Choice.{IsChoice, spot_of}
use Rattle.lf_rules.specs.Legalizer.{Legalizer}
use Rattle.lf_rules.specs.Team.{box_in}
use Rattle.lf_proto.specs.declared.request.Command.TheVariants.{To}
use Rattle.lf_proto.specs.declared.request.TeamCommand.TheVariants.{Within}
use Rattle.lf_proto.specs.declared.verb.Action.TheVariants.{Change as Changing}
use Rattle.lf_proto.specs.declared.verb.Change.TheVariants.{Legalize}
use Rattle.lf_cells.specs.declared.cell.Cell.{Cell}
use Rattle.lf_cells.specs.Cells.{cell_named, moved, working_at}
use Rattle.lf_floor_model.specs.States.{FloorState, TeamState}
use Rattle.lf_floor_model.specs.Teams.{IsTeamOf, TeamRules, query_of_cell, state_of, team_number, team_rules}
use Rattle.lf_floor_model.specs.Outcomes.{name_at}
use Rattle.lf_floor_model.specs.Queries.{best_at}
use Rattle.lf_floor_model.specs.Changes.{legalized}
use Rattle.lf_floor_model.specs.Steps.{outcome_by_rules}
use Rattle.lf_floor_model.specs.VerbLaws.{BestIsFound}
use Rattle.lf_floor_model.proofs.Forms.{legalized_at, legalized_own}
use Rattle.lf_floor_model.proofs.LegalPlaces.{moved_here, none_some, some_one}
use Rattle.lf_repair_bounds.specs.declared.reasons.ImpossibleMacro.{ImpossibleMacro}
use Rattle.lf_repair_bounds.specs.ImpossibleMacros.{is_listed}
use Rattle.lf_repair_strategy.specs.Targets.{AreWorkingPlaces, target_at}
use Rattle.lf_repair_team.specs.CellEdits.{AreAtTargetsOrOffSoft, AreFlaggedAtTargets, AreListedFlags, AreLockedInPlace, HasNoPlaceOrIsFlagged, IsAtTargetOrOffSoft, IsUnchangedOrStepped, IsUnplacedOrOffSoft, KeepsCellsAtTargets, KeepsLockedPlaces, KeepsPlaces, MovesOffSoft, RemainsLegal, SameCells}
use Rattle.lf_repair_team.specs.TeamRepairs.{AreMovedOffSoft, ChangesOnly, HasNoPlace, HasNoPlaceOrIsListed, IsLegalIn, IsListedIn, IsOffSoft, place_of_cell_in, team_cell_macros, team_cell_names}
use Rattle.lf_repair_team.proofs.Cells.{named_is}
use Rattle.lf_repair_team.proofs.Finding.{team_was}
use Rattle.lf_repair_team.proofs.Legal.{legal_through, same_places, state_there}
use Rattle.lf_repair_team.proofs.OthersLegal.{outcome_has}
use Rattle.lf_repair_team.proofs.Results.{each_state}
use Rattle.lf_repair_team.proofs.Steps.{place_of_state, requested_step}

-- ---- a cell at a position

cell_of_part : {X : Type 0} (part : Cell → X) (cells : List Cell) (own : ℕ) (its : X) → option_map part (slice_get cells own) ≡ Some its
    → (c : Cell) × (slice_get cells own ≡ Some c) × (part c ≡ its)
cell_of_part {X} part cells own its at = go (slice_get cells own) refl at where
  go : (o : Option Cell) → slice_get cells own ≡ o → option_map part o ≡ Some its → (c : Cell) × (slice_get cells own ≡ Some c) × (part c ≡ its)
  go None is e = absurd (none_some e)
  go (Some c) is e = (c, is, some_one e)

working_of_cell : (cells : List Cell) (own : ℕ) (c : Cell) → slice_get cells own ≡ Some c → working_at cells own ≡ c.working
working_of_cell cells own c is = ap (λ (o : Option Cell). option_and_then (λ (d : Cell). d.working) o) is

-- the cell that is placed at this position
pub record IsPlacedCell (floor : FloorState) (team : List ℕ) (own : ℕ) (place : Place) : Type 0 where
  pub state : TeamState
  pub cell : Cell
  pub there : state_of floor team ≡ Some state
  pub cell_is : slice_get state.cells own ≡ Some cell
  pub placed : cell.working ≡ Some place

pub placed_cell : (floor : FloorState) (team : List ℕ) (own : ℕ) (place : Place) → place_of_cell_in floor team own ≡ Some place → IsPlacedCell floor team own place
placed_cell floor team own place placed = go (state_of floor team) refl placed where
  cell : (s : TeamState) → state_of floor team ≡ Some s → (o : Option Cell) → slice_get s.cells own ≡ o → option_and_then (λ (c : Cell). c.working) o ≡ Some place
      → IsPlacedCell floor team own place
  cell s there None is e = absurd (none_some e)
  cell s there (Some c) is e = record { state = s; cell = c; there = there; cell_is = is; placed = e }

  go : (o : Option TeamState) → state_of floor team ≡ o → option_and_then (λ (s : TeamState). working_at s.cells own) o ≡ Some place → IsPlacedCell floor team own place
  go None is e = absurd (none_some e)
  go (Some s) is e = cell s is (slice_get s.cells own) refl e

-- ---- a cell off soft blockages at the same place

abbrev macros_of : Option TeamState → Option (List ℕ)
macros_of o = option_map (λ (s : TeamState). map (λ (c : Cell). c.mac) s.cells) o

state_with_macros : (a b : FloorState) (team : List ℕ) (s : TeamState) → team_cell_macros b team ≡ team_cell_macros a team → state_of a team ≡ Some s
    → (u : TeamState) × (state_of b team ≡ Some u) × (map (λ (c : Cell). c.mac) u.cells ≡ map (λ (c : Cell). c.mac) s.cells)
state_with_macros a b team s macros there = go (state_of b team) refl where
  go : (o : Option TeamState) → state_of b team ≡ o
      → (u : TeamState) × (state_of b team ≡ Some u) × (map (λ (c : Cell). c.mac) u.cells ≡ map (λ (c : Cell). c.mac) s.cells)
  go None is = absurd (none_some (sym (ap macros_of is) ∙ macros ∙ ap macros_of there))
  go (Some u) is = (u, is, some_one (sym (ap macros_of is) ∙ macros ∙ ap macros_of there))

pub off_soft_through : (team : List ℕ) (a b : FloorState) (own : ℕ) → b.frame ≡ a.frame → team_cell_macros b team ≡ team_cell_macros a team
    → place_of_cell_in b team own ≡ place_of_cell_in a team own → IsOffSoft a team own → IsOffSoft b team own
off_soft_through team a b own frame macros place is =
    let u = state_with_macros a b team is.state macros is.there in
    let mac : option_map (λ (c : Cell). c.mac) (slice_get u.0.cells own) ≡ Some is.cell.mac =
    sym (slice_get-map (λ (c : Cell). c.mac) u.0.cells own) ∙ ap (λ (ms : List ℕ). slice_get ms own) u.2 ∙ slice_get-map (λ (c : Cell). c.mac) is.state.cells own
    ∙ ap (λ (o : Option Cell). option_map (λ (c : Cell). c.mac) o) is.cell_is in
    let d = cell_of_part (λ (c : Cell). c.mac) u.0.cells own is.cell.mac mac in
    record {
      state = u.0;
      cell = d.0;
      place = is.place;
      there = u.1;
      cell_is = d.1;
      placed = sym (working_of_cell u.0.cells own d.0 d.1) ∙ sym (place_of_state b team own u.0 u.1) ∙ place ∙ place_of_state a team own is.state is.there
          ∙ working_of_cell is.state.cells own is.cell is.cell_is ∙ is.placed;
      off_soft = subst (λ (f : Frame). OverlapsSoft f (box_in f d.0.mac (spot_of is.place)) → ⊥) (sym frame)
          (subst (λ (m : ℕ). OverlapsSoft a.frame (box_in a.frame m (spot_of is.place)) → ⊥) (sym d.2) is.off_soft);
    }

pub none_moves_onto_soft : (team : List ℕ) (floor : FloorState) → MovesOffSoft team floor floor
none_moves_onto_soft team floor own = inl refl

pub one_moves_off_soft : (team : List ℕ) (old new : FloorState) (own : ℕ) → ((other : ℕ) → other ≢ own → place_of_cell_in new team other ≡ place_of_cell_in old team other)
    → IsUnplacedOrOffSoft new team own → MovesOffSoft team old new
one_moves_off_soft team old new own others here k = elim (cases_eq k own) [
  | inl same ↦ inr (subst (λ (j : ℕ). IsUnplacedOrOffSoft new team j) (sym same) here)
  | inr differ ↦ inl (others k differ)
]

module _ (team : List ℕ) (b c : FloorState) (only : ChangesOnly team b c) where
  -- the cell is at the same place as before, where it was unplaced or off soft blockages
  unplaced_or_through : (own : ℕ) → place_of_cell_in c team own ≡ place_of_cell_in b team own → IsUnplacedOrOffSoft b team own → IsUnplacedOrOffSoft c team own
  unplaced_or_through own same (inl none) = inl (same ∙ none)
  unplaced_or_through own same (inr off) = inr (off_soft_through team b c own only.frame only.macros same off)

  pub then_off_soft : (a : FloorState) → MovesOffSoft team a b → MovesOffSoft team b c → MovesOffSoft team a c
  then_off_soft a first second own = after (second own) where
    before : place_of_cell_in c team own ≡ place_of_cell_in b team own → (place_of_cell_in b team own ≡ place_of_cell_in a team own) ⊎ IsUnplacedOrOffSoft b team own
        → (place_of_cell_in c team own ≡ place_of_cell_in a team own) ⊎ IsUnplacedOrOffSoft c team own
    before same (inl stays) = inl (same ∙ stays)
    before same (inr off) = inr (unplaced_or_through own same off)

    after : (place_of_cell_in c team own ≡ place_of_cell_in b team own) ⊎ IsUnplacedOrOffSoft c team own
        → (place_of_cell_in c team own ≡ place_of_cell_in a team own) ⊎ IsUnplacedOrOffSoft c team own
    after (inl same) = before same (first own)
    after (inr off) = inr off

  module _ (targets : List (Option Place)) where
    target_or_through : (own : ℕ) → place_of_cell_in c team own ≡ place_of_cell_in b team own → IsAtTargetOrOffSoft team targets b own
        → IsAtTargetOrOffSoft team targets c own
    target_or_through own same (inl at) = inl (same ∙ at)
    target_or_through own same (inr off) = inr (unplaced_or_through own same off)

    -- moves of cells that are at their targets, or off soft blockages
    pub targets_then_off_soft : AreAtTargetsOrOffSoft team targets b → MovesOffSoft team b c → AreAtTargetsOrOffSoft team targets c
    targets_then_off_soft are moves own = after (moves own) where
      after : (place_of_cell_in c team own ≡ place_of_cell_in b team own) ⊎ IsUnplacedOrOffSoft c team own → IsAtTargetOrOffSoft team targets c own
      after (inl same) = target_or_through own same (are own)
      after (inr off) = inr off

    pub targets_stay : KeepsPlaces team b c → AreAtTargetsOrOffSoft team targets b → AreAtTargetsOrOffSoft team targets c
    targets_stay places are own = target_or_through own (places own) (are own)

    -- one cell more of the first ones
    pub one_more_settled : (count : ℕ) → ((own : ℕ) → own < count → IsAtTargetOrOffSoft team targets b own)
        → ((other : ℕ) → other ≢ count → place_of_cell_in c team other ≡ place_of_cell_in b team other) → IsAtTargetOrOffSoft team targets c count
        → (own : ℕ) → own < count + 1 → IsAtTargetOrOffSoft team targets c own
    one_more_settled count before others here own within = elim (cases_eq own count) [
      | inl same ↦ subst (λ (j : ℕ). IsAtTargetOrOffSoft team targets c j) (sym same) here
      | inr differ ↦ target_or_through own (others own differ) (before own (omega (arith, within, differ)))
    ]

-- one cell more, on the same floor
pub one_more_off_soft : (team : List ℕ) (floor : FloorState) (targets : List (Option Place)) (count : ℕ) → ((own : ℕ) → own < count → IsAtTargetOrOffSoft team targets floor own)
    → IsAtTargetOrOffSoft team targets floor count → (own : ℕ) → own < count + 1 → IsAtTargetOrOffSoft team targets floor own
one_more_off_soft team floor targets count before here own within = elim (cases_eq own count) [
  | inl same ↦ subst (λ (j : ℕ). IsAtTargetOrOffSoft team targets floor j) (sym same) here
  | inr differ ↦ before own (omega (arith, within, differ))
]

-- a position past the team's cells has no place
pub past_is_unplaced : (team : List ℕ) (old new : FloorState) (count own : ℕ) → team_cell_macros new team ≡ team_cell_macros old team
    → ((s : TeamState) → state_of old team ≡ Some s → length s.cells ≤ count) → count ≤ own → place_of_cell_in new team own ≡ None
past_is_unplaced team old new count own macros many more = past (state_of new team) refl where
  past : (o : Option TeamState) → state_of new team ≡ o → place_of_cell_in new team own ≡ None
  past None there = ap (λ (o : Option TeamState). option_and_then (λ (s : TeamState). working_at s.cells own) o) there
  past (Some s) there =
      let before = state_with_macros new old team s (sym macros) there in
      let few = many before.0 before.1 in
      let long : length before.0.cells ≡ length s.cells = sym (length-map before.0.cells (λ (c : Cell). c.mac)) ∙ ap (λ (ms : List ℕ). length ms) before.2 ∙ length-map s.cells (λ (c : Cell). c.mac) in
      place_of_state new team own s there
      ∙ ap (λ (o : Option Cell). option_and_then (λ (c : Cell). c.working) o) (slice_get_past s.cells own (omega (arith, more, few, long)))

pub is_less_or_past : (a b : ℕ) → (a < b) ⊎ (b ≤ a)
is_less_or_past a zero = inr (omega arith)
is_less_or_past zero (suc b) = inl (omega arith)
is_less_or_past (suc a) (suc b) = elim (is_less_or_past a b) [ inl less ↦ inl (omega (arith, less)) | inr more ↦ inr (omega (arith, more)) ]

pub all_settled : (team : List ℕ) (old new : FloorState) (count : ℕ) (targets : List (Option Place)) → team_cell_macros new team ≡ team_cell_macros old team
    → ((s : TeamState) → state_of old team ≡ Some s → length s.cells ≤ count) → ((own : ℕ) → own < count → IsAtTargetOrOffSoft team targets new own)
    → AreAtTargetsOrOffSoft team targets new
all_settled team old new count targets macros many are own = elim (is_less_or_past own count) [
  | inl within ↦ are own within
  | inr more ↦ inr (inl (past_is_unplaced team old new count own macros many more))
]

-- ---- a cell is tested

module _ (floor : FloorState) (team : List ℕ) (number own : ℕ) (cells : List Cell) (targets : List (Option Place))
    (named : team_number floor.frame team ≡ Some number) (same : (s : TeamState) → slice_get floor.teams number ≡ Some s → cells ≡ s.cells) where
  -- the team may be missing
  by_state : ((s : TeamState) → state_of floor team ≡ Some s → cells ≡ s.cells → IsAtTargetOrOffSoft team targets floor own)
      → IsAtTargetOrOffSoft team targets floor own
  by_state have = go (state_of floor team) refl where
    go : (o : Option TeamState) → state_of floor team ≡ o → IsAtTargetOrOffSoft team targets floor own
    go None there = inr (inl (ap (λ (o : Option TeamState). option_and_then (λ (s : TeamState). working_at s.cells own) o) there))
    go (Some s) there = have s there (same s (state_there floor team number s named there))

  place_read : (s : TeamState) → state_of floor team ≡ Some s → cells ≡ s.cells → place_of_cell_in floor team own ≡ working_at cells own
  place_read s there is = place_of_state floor team own s there ∙ ap (λ (cs : List Cell). working_at cs own) (sym is)

  pub at_target : (now : Option Place) → now ≡ working_at cells own → now ≡ target_at targets own → IsAtTargetOrOffSoft team targets floor own
  at_target now is target = by_state (λ s there are. inl (place_read s there are ∙ sym is ∙ target))

  pub unplaced_here : working_at cells own ≡ None → IsAtTargetOrOffSoft team targets floor own
  unplaced_here none = by_state (λ s there are. inr (inl (place_read s there are ∙ none)))

  pub off_soft_here : (f : Frame) (place : Place) → f ≡ floor.frame → working_at cells own ≡ Some place
      → ((c : Cell) → slice_get cells own ≡ Some c → OverlapsSoft f (box_in f c.mac (spot_of place)) → ⊥) → IsAtTargetOrOffSoft team targets floor own
  off_soft_here f place frame placed off = by_state (λ s there are.
      let is = placed_cell floor team own place (place_read s there are ∙ placed) in
      let state : is.state ≡ s = some_one (sym is.there ∙ there) in
      let cell : slice_get cells own ≡ Some is.cell = ap (λ (cs : List Cell). slice_get cs own) (are ∙ sym (ap (λ (u : TeamState). u.cells) state)) ∙ is.cell_is in
      inr (inr (record {
        state = is.state;
        cell = is.cell;
        place = place;
        there = is.there;
        cell_is = is.cell_is;
        placed = is.placed;
        off_soft = subst (λ (g : Frame). OverlapsSoft g (box_in g is.cell.mac (spot_of place)) → ⊥) frame (off is.cell cell);
      })))

  pub has_moved : (now : Option Place) (s : TeamState) → now ≡ working_at cells own → (now ≡ target_at targets own → ⊥) → state_of floor team ≡ Some s
      → place_of_cell_in floor team own ≢ target_at targets own
  has_moved now s is differ there at = differ (is ∙ sym (place_read s there (same s (state_there floor team number s named there))) ∙ at)

-- ---- cells at their targets stay

pub none_leaves_target : (team : List ℕ) (targets : List (Option Place)) (floor : FloorState) → KeepsCellsAtTargets team targets floor floor
none_leaves_target team targets floor own at = (refl, λ legal. legal)

pub then_targets : (team : List ℕ) (targets : List (Option Place)) (a b c : FloorState) → KeepsCellsAtTargets team targets a b
    → KeepsCellsAtTargets team targets b c → KeepsCellsAtTargets team targets a c
then_targets team targets a b c first second own at =
    let one = first own at in
    let two = second own (one.0 ∙ at) in
    (two.0 ∙ one.0, λ legal. two.1 (one.1 legal))

-- a change of a cell that is not at its target
pub targets_beside : (team : List ℕ) (targets : List (Option Place)) (old new : FloorState) (own : ℕ) → team_cell_macros new team ≡ team_cell_macros old team
    → ((s : TeamState) → state_of old team ≡ Some s → place_of_cell_in old team own ≢ target_at targets own)
    → ((other : ℕ) → other ≢ own → place_of_cell_in new team other ≡ place_of_cell_in old team other)
    → ((other : ℕ) → other ≢ own → RemainsLegal team old new other) → KeepsCellsAtTargets team targets old new
targets_beside team targets old new own macros moved places legal k at = elim (cases_eq k own) [
  | inl same ↦ here same (state_of old team) refl
  | inr differ ↦ (places k differ, legal k differ)
] where
  no_place : (floor : FloorState) → state_of floor team ≡ None → place_of_cell_in floor team k ≡ None
  no_place floor none = ap (λ (o : Option TeamState). option_and_then (λ (s : TeamState). working_at s.cells k) o) none

  none_after : state_of old team ≡ None → (o : Option TeamState) → state_of new team ≡ o → o ≡ None
  none_after none None is = refl
  none_after none (Some u) is = absurd (none_some (sym (ap macros_of none) ∙ sym macros ∙ ap macros_of is))

  here : k ≡ own → (o : Option TeamState) → state_of old team ≡ o → (place_of_cell_in new team k ≡ place_of_cell_in old team k) × RemainsLegal team old new k
  here same (Some s) there = absurd (moved s there (subst (λ (j : ℕ). place_of_cell_in old team j ≡ target_at targets j) same at))
  here same None there = (no_place new (none_after there (state_of new team) refl) ∙ sym (no_place old there), λ legal. absurd (none_some (sym there ∙ legal.there)))

-- ---- a legalize

-- the cell at this position is unplaced or off soft blockages
pub record IsOffSoftIn (f : Frame) (own : ℕ) (u : TeamState) : Type 0 where
  pub cell : Cell
  pub place : Place
  pub cell_is : slice_get u.cells own ≡ Some cell
  pub placed : cell.working ≡ Some place
  pub off_soft : OverlapsSoft f (box_in f cell.mac (spot_of place)) → ⊥

abbrev IsUnplacedOrOffIn : Frame → ℕ → TeamState → Type 0
IsUnplacedOrOffIn f own u = (working_at u.cells own ≡ None) ⊎ IsOffSoftIn f own u

legalized_off : (t : TeamRules) (session own : ℕ) (name : List ℕ) (target : Point) (s : TeamState) → BestIsFound → IsTeamOf t.frame s → name_at s.cells own ≡ Some name
    → working_at s.cells own ≡ None → IsUnplacedOrOffIn t.frame own (legalized t session name target s).team
unfolding legalized
legalized_off t session own name target s found known at unplaced = go (cell_named name s.cells) refl where
  best : (o : Option Place) → best_at t s.cells own target ≡ o → IsUnplacedOrOffIn t.frame own (legalized_at o t session own s).team
  best None is = inl unplaced
  best (Some place) is =
      let c = cell_of_part (λ (c : Cell). c.name) s.cells own name at in
      let choice : IsChoice (query_of_cell t s.cells own c.0) target (Some (spot_of place)) =
      subst (λ (o : Option Place). IsChoice (query_of_cell t s.cells own c.0) target (option_map spot_of o)) is (found t s own c.0 target known c.1) in
      inr (record {
        cell = record c.0 { working = Some place };
        place = place;
        cell_is = moved_here s.cells own (Some place) c.0 c.1;
        placed = refl;
        off_soft = choice.may_go.off_soft;
      })

  go : (o : Option ℕ) → cell_named name s.cells ≡ o → IsUnplacedOrOffIn t.frame own (legalized_own o t session target s).team
  go None named = inl unplaced
  go (Some n) named =
      subst (λ (k : ℕ). IsUnplacedOrOffIn t.frame own (legalized_own (Some k) t session target s).team)
      (sym (named_is s.cells own n name known.names_differ at named)) (best (best_at t s.cells own target) refl)

-- a legalize of an unplaced cell places it off soft blockages, or not at all
pub legalize_off_soft : (l : Legalizer) (old new : FloorState) (team name : List ℕ) (session own : ℕ) (target : Point) (s : TeamState) → BestIsFound
    → All (λ s. IsTeamOf old.frame s) old.teams → new.frame ≡ old.frame → state_of old team ≡ Some s → name_at s.cells own ≡ Some name → working_at s.cells own ≡ None
    → IsUnchangedOrStepped l old (To team (Within session (Changing (Legalize name target)))) new → IsUnplacedOrOffSoft new team own
legalize_off_soft l old new team name session own target s found teams frame there at unplaced requested =
    elim (requested_step l old new team (Within session (Changing (Legalize name target))) requested) [
      | inl same ↦ inl (ap (λ (f : FloorState). place_of_cell_in f team own) same ∙ place_of_state old team own s there ∙ unplaced)
      | inr served ↦
          let t = team_rules l old.frame served.number served.state.padding in
          let is : served.state ≡ s = some_one (sym served.before ∙ there) in
          let known : IsTeamOf old.frame served.state = each_state (IsTeamOf old.frame) old team served.state teams served.before in
          let at' : name_at served.state.cells own ≡ Some name = ap (λ (u : TeamState). name_at u.cells own) is ∙ at in
          let unplaced' : working_at served.state.cells own ≡ None = ap (λ (u : TeamState). working_at u.cells own) is ∙ unplaced in
          let after : IsUnplacedOrOffIn old.frame own (outcome_by_rules l old.frame served.number (Within session (Changing (Legalize name target))) served.state).team =
          outcome_has (IsUnplacedOrOffIn old.frame own) t session (Legalize name target) served.state (inl unplaced')
          (legalized_off t session own name target served.state found known at' unplaced') in
          settled (outcome_by_rules l old.frame served.number (Within session (Changing (Legalize name target))) served.state).team served.after after
    ]
  where
    settled : (u : TeamState) → state_of new team ≡ Some u → IsUnplacedOrOffIn old.frame own u → IsUnplacedOrOffSoft new team own
    settled u is (inl none) = inl (place_of_state new team own u is ∙ none)
    settled u is (inr off) = inr (record {
      state = u;
      cell = off.cell;
      place = off.place;
      there = is;
      cell_is = off.cell_is;
      placed = off.placed;
      off_soft = subst (λ (f : Frame). OverlapsSoft f (box_in f off.cell.mac (spot_of off.place)) → ⊥) (sym frame) off.off_soft;
    })

-- ---- a whole repair

-- a session is opened
pub locked_opened : (team : List ℕ) (marks : List Bool) (targets : List (Option Place)) (a b : FloorState) → b.frame ≡ a.frame → SameCells team a b
    → AreLockedInPlace team marks targets a → AreLockedInPlace team marks targets b
locked_opened team marks targets a b frame same locked own mark =
    let here = locked own mark in
    (legal_through team a b own frame same here.0, same_places team a b same own ∙ here.1)

-- a session is opened, and then all passes are run
pub locked_in_session : (team : List ℕ) (marks : List Bool) (targets : List (Option Place)) (a b c : FloorState) → b.frame ≡ a.frame → SameCells team a b
    → (AreLockedInPlace team marks targets b → KeepsLockedPlaces team marks b c) → AreLockedInPlace team marks targets a → KeepsLockedPlaces team marks a c
locked_in_session team marks targets a b c frame same passes locked own mark =
    passes (locked_opened team marks targets a b frame same locked) own mark
    ∙ same_places team a b same own

-- the legal cells are in place at the start
pub locked_at_start : (team : List ℕ) (floor : FloorState) (number : ℕ) (marks : List Bool) (targets : List (Option Place)) → team_number floor.frame team ≡ Some number
    → ((s : TeamState) → slice_get floor.teams number ≡ Some s → AreWorkingPlaces s.cells targets)
    → ((own : ℕ) → slice_get marks own ≡ Some true → IsLegalIn floor team own) → AreLockedInPlace team marks targets floor
locked_at_start team floor number marks targets named are legal own mark =
    let is = legal own mark in
    (is, place_of_state floor team own is.state is.there ∙ sym (are is.state (state_there floor team number is.state named is.there) own))

-- the targets are the places at the start
pub target_is_place : (team : List ℕ) (floor : FloorState) (number : ℕ) (targets : List (Option Place)) (own : ℕ) → team_number floor.frame team ≡ Some number
    → ((s : TeamState) → slice_get floor.teams number ≡ Some s → AreWorkingPlaces s.cells targets) → (s : TeamState) → state_of floor team ≡ Some s
    → place_of_cell_in floor team own ≡ target_at targets own
target_is_place team floor number targets own named are s there =
    place_of_state floor team own s there ∙ sym (are s (state_there floor team number s named there) own)

-- a cell that is not at its target has moved, if the targets are the places at the start
pub moved_off_soft : (team : List ℕ) (old new : FloorState) (number : ℕ) (targets : List (Option Place)) → team_number old.frame team ≡ Some number
    → ((s : TeamState) → slice_get old.teams number ≡ Some s → AreWorkingPlaces s.cells targets) → team_cell_names new team ≡ team_cell_names old team
    → AreAtTargetsOrOffSoft team targets new → AreMovedOffSoft team old new
moved_off_soft team old new number targets named are names settled own placed moved = go (state_of new team) refl where
  at : (s : TeamState) → state_of old team ≡ Some s → IsAtTargetOrOffSoft team targets new own → IsOffSoft new team own
  at s there (inl target) =
      absurd (moved (target ∙ are s (state_there old team number s named there) own ∙ sym (place_of_state old team own s there)))
  at s there (inr (inl none)) = absurd (placed none)
  at s there (inr (inr off)) = off

  go : (o : Option TeamState) → state_of new team ≡ o → IsOffSoft new team own
  go None none = absurd (placed (ap (λ (o : Option TeamState). option_and_then (λ (s : TeamState). working_at s.cells own) o) none))
  go (Some u) is = let was = team_was team old new u names is in at was.0 was.1 (settled own)

-- ---- flagged cells

-- a pass and local passes, the soft pass, and then the last pass
pub flagged_stay : (team : List ℕ) (flags : List Bool) (targets : List (Option Place)) (a c d e : FloorState) → KeepsLockedPlaces team flags a c
    → KeepsCellsAtTargets team targets c d → KeepsLockedPlaces team flags d e → AreFlaggedAtTargets team flags targets a → KeepsLockedPlaces team flags a e
flagged_stay team flags targets a c d e first soft last at own flag =
    last own flag ∙ (soft own (first own flag ∙ at own flag)).0 ∙ first own flag

-- a session is opened, and then all passes are run
pub flagged_in_session : (team : List ℕ) (flags : List Bool) (targets : List (Option Place)) (a b c : FloorState) → SameCells team a b
    → (AreFlaggedAtTargets team flags targets b → KeepsLockedPlaces team flags b c) → AreFlaggedAtTargets team flags targets a → KeepsLockedPlaces team flags a c
flagged_in_session team flags targets a b c same passes at own flag =
    passes (λ k mark. same_places team a b same k ∙ at k mark) own flag ∙ same_places team a b same own

-- the cells are at their targets at the start
pub flagged_at_start : (team : List ℕ) (floor : FloorState) (number : ℕ) (flags : List Bool) (targets : List (Option Place)) (s : TeamState)
    → team_number floor.frame team ≡ Some number → state_of floor team ≡ Some s
    → ((s : TeamState) → slice_get floor.teams number ≡ Some s → AreWorkingPlaces s.cells targets) → AreFlaggedAtTargets team flags targets floor
flagged_at_start team floor number flags targets s named there are own flag =
    place_of_state floor team own s there ∙ sym (are s (state_there floor team number s named there) own)

-- a cell of a listed macro, also on a later floor
pub listed_through : (list : List ImpossibleMacro) (old new : FloorState) (team : List ℕ) (own : ℕ) → ChangesOnly team old new → IsListedIn list old team own
    → IsListedIn list new team own
listed_through list old new team own only is =
    let u = state_with_macros old new team is.state only.macros is.there in
    let mac : option_map (λ (c : Cell). c.mac) (slice_get u.0.cells own) ≡ Some is.cell.mac =
    sym (slice_get-map (λ (c : Cell). c.mac) u.0.cells own) ∙ ap (λ (ms : List ℕ). slice_get ms own) u.2 ∙ slice_get-map (λ (c : Cell). c.mac) is.state.cells own
    ∙ ap (λ (o : Option Cell). option_map (λ (c : Cell). c.mac) o) is.cell_is in
    let d = cell_of_part (λ (c : Cell). c.mac) u.0.cells own is.cell.mac mac in
    record {
      number = is.number;
      state = u.0;
      cell = d.0;
      named = ap (λ (f : Frame). team_number f team) only.frame ∙ is.named;
      there = u.1;
      cell_is = d.1;
      listed = subst (λ (m : ℕ). is_listed list is.number m ≡ true) (sym d.2) is.listed;
    }

-- the unrepaired cells have no place, or are of listed macros
pub none_or_listed : (reach : Option ℤ) (list : List ImpossibleMacro) (old new : FloorState) (team : List ℕ) (number : ℕ) (targets : List (Option Place)) (flags : List Bool)
    (left : List ℕ) → team_number old.frame team ≡ Some number → ((s : TeamState) → slice_get old.teams number ≡ Some s → AreWorkingPlaces s.cells targets) → ChangesOnly team old new
    → AreListedFlags list team old flags → All (λ own. HasNoPlaceOrIsFlagged reach targets flags new team own) left → All (HasNoPlaceOrIsListed reach list old new team) left
none_or_listed reach list old new team number targets flags left named targets_are only are without =
    All-weaker (λ own. HasNoPlaceOrIsFlagged reach targets flags new team own) (HasNoPlaceOrIsListed reach list old new team) one left without
  where
    one : (own : ℕ) → HasNoPlaceOrIsFlagged reach targets flags new team own → HasNoPlaceOrIsListed reach list old new team own
    one own (inl has) =
        let was = team_was team old new has.state only.names has.there in
        inl (subst (λ (o : Option Place). HasNoPlace reach o new team own) (sym (target_is_place team old number targets own named targets_are was.0 was.1)) has)
    one own (inr flag) = inr (listed_through list old new team own only ((are own).0 flag))
