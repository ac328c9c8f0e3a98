-- The reach of a repair: ways, best places, and cells that stay within it.
use Rattle.std.proofs.Common.{◌≡◌, ◌≢◌, ◌⊎◌, inl, inr, ℕ, ℤ, pos, negsuc, unsigned_abs, ◌-ℤ◌, ◌+◌, ◌<◌, ◌≤◌, List, map, length, Option, Some, None, refl, ap, ap₂, sym, ◌∙◌, subst, arith}
use Rattle.std.specs.Prelude.{◌<ℤ◌, All, slice_get, option_and_then}
use Rattle.std.specs.Option.{option_map}
use Rattle.std.proofs.lemmas.Bool.{cases_eq}
use Rattle.std.proofs.lemmas.Int.{ints}
use Rattle.std.proofs.lemmas.Option.{get_or_from_slice_get, slice_get_within}
use Rattle.lf_units.specs.declared.geometry.Point.{Point}
use Rattle.lf_floorplan.specs.declared.frame.Frame.{Frame}
use Rattle.lf_floorplan.specs.declared.place.Place.{Place}
use Rattle.lf_rules.specs.Choice.{IsAllowedPlace, IsBest, IsChoice, PlacementQuery, Precedes, SpotPlace, distance, spot_of}
use Rattle.lf_rules.specs.Legalizer.{Legalizer}
use Rattle.lf_rules.specs.Team.{query_from}
use Rattle.lf_proto.specs.declared.request.Command.TheVariants.{To}
use Rattle.lf_proto.specs.declared.request.TeamCommand.TheVariants.{Within}
use Rattle.lf_proto.specs.declared.verb.Action.TheVariants.{Change as Changing}
use Rattle.lf_proto.specs.declared.verb.Change.TheVariants.{Legalize}
use Rattle.lf_cells.specs.declared.cell.Cell.{Cell}
use Rattle.lf_cells.specs.Cells.{cell_named, moved, working_at}
use Rattle.lf_legalize.specs.Members.{best_of, member_of}
use Rattle.lf_floor_model.specs.States.{FloorState, TeamState}
use Rattle.lf_floor_model.specs.Teams.{IsTeamOf, TeamRules, query_of_cell, state_of, team_number, team_rules}
use Rattle.lf_floor_model.specs.Outcomes.{name_at}
use Rattle.lf_floor_model.specs.Queries.{best_at}
use Rattle.lf_floor_model.specs.Changes.{legalized}
use Rattle.lf_floor_model.specs.Steps.{outcome_by_rules}
use Rattle.lf_floor_model.specs.VerbLaws.{BestIsFound}
use Rattle.lf_floor_model.proofs.Forms.{legalized_at, legalized_own}
use Rattle.lf_floor_model.proofs.LegalPlaces.{moved_here, none_some, sized_at, some_one}
use Rattle.lf_repair_strategy.specs.Targets.{AreWorkingPlaces, target_at}
use Rattle.lf_repair_team.specs.CellEdits.{AreWithin, BestIsWithin, IsUnchangedOrStepped, IsUnplacedOrAtBest, IsWithin, IsWithoutPlace, KeepsPlaces, KeepsWithin}
use Rattle.lf_repair_team.specs.TeamRepairs.{IsBeyond, StaysWithin, corner_of, place_of_cell_in, team_cell_macros, team_cell_names, way_to}
use Rattle.lf_repair_team.proofs.Cells.{named_is}
use Rattle.lf_repair_team.proofs.Finding.{team_was}
use Rattle.lf_repair_team.proofs.Legal.{state_there}
use Rattle.lf_repair_team.proofs.OffSoft.{is_less_or_past, past_is_unplaced, target_is_place}
use Rattle.lf_repair_team.proofs.OthersLegal.{outcome_has}
use Rattle.lf_repair_team.proofs.Results.{each_state}
use Rattle.lf_repair_team.proofs.Steps.{place_of_state, requested_step}
use Rattle.lf_repair_team.proofs.WithoutPlace.{named_cell, working_of}

-- ---- ways

no_difference : (z : ℤ) → unsigned_abs (z -ℤ z) ≡ 0
no_difference z = grind (arith, ints)

no_way : (p : Place) → way_to (Some p) (spot_of p) ≡ 0
no_way p = ap₂ (λ (m : ℕ) (n : ℕ). m + n) (no_difference p.x) (no_difference p.y)

-- a cell at its old place is not beyond reach
pub not_beyond_itself : (reach : Option ℤ) (old : Option Place) (p : Place) → old ≡ Some p → IsBeyond reach (way_to old (spot_of p)) → ⊥
not_beyond_itself None old p same is = is
not_beyond_itself (Some reach) (Some q) p same is =
    let some : 0 < way_to (Some p) (spot_of p) = subst (λ (o : Option Place). 0 < way_to o (spot_of p)) same is.0 in
    let none = no_way p in
    absurd (omega (arith, none, some))
not_beyond_itself (Some reach) None p same is = absurd cc

farther : (reach : ℤ) (a b : ℕ) → reach <ℤ pos a → a ≤ b → reach <ℤ pos b
farther (pos n) a b is more = omega (arith, ints, is, more)
farther (negsuc n) a b is more = omega (arith, ints, is, more)

beyond_more : (reach : Option ℤ) (a b : ℕ) → IsBeyond reach a → a ≤ b → IsBeyond reach b
beyond_more None a b is more = is
beyond_more (Some reach) a b is more =
    let some = is.0 in
    (omega (arith, some, more), farther reach a b is.1 more)

-- ---- best places

-- no allowed place is nearer than the best one
best_is_nearest : (c : PlacementQuery) (target : Point) (best p : SpotPlace) → IsBest c target best → IsAllowedPlace c p → distance target best ≤ distance target p
best_is_nearest c target best p is allowed = go (is.least p allowed) where
  go : (p ≡ best) ⊎ Precedes target best p → distance target best ≤ distance target p
  go (inl same) = let as_far = ap (λ (q : SpotPlace). distance target q) same in omega (arith, as_far)
  go (inr (inl nearer)) = omega (arith, nearer)
  go (inr (inr (as_far, first))) = omega (arith, as_far)

-- a team of the floor
pub team_of_floor : (floor : FloorState) (number : ℕ) (s : TeamState) → All (λ s. IsTeamOf floor.frame s) floor.teams → slice_get floor.teams number ≡ Some s → IsTeamOf floor.frame s
team_of_floor floor number s teams at =
    subst (λ (u : TeamState). IsTeamOf floor.frame u) (get_or_from_slice_get floor.teams number s s at) (teams number s (slice_get_within floor.teams number s at))

-- what a search found is the best place of the cell
pub choice_of_best : (l : Legalizer) (f g : Frame) (number own padding : ℕ) (s : TeamState) (c : Cell) (cells : List Cell) (target : Point) (found : Option Place) → g ≡ f
    → cells ≡ s.cells → padding ≡ s.padding → slice_get s.cells own ≡ Some c → IsTeamOf f s → option_map spot_of found ≡ best_of l g number padding cells own target
    → IsChoice (query_from f number s.padding (map member_of s.cells) own c.mac) target (option_map spot_of found)
choice_of_best l f g number own padding s c cells target found frame cells_are padding_is cell known is =
    let query = query_from f number s.padding (map member_of s.cells) own c.mac in
    let best : best_of l g number padding cells own target ≡ l.best_place query target =
    ap (λ (h : Frame). best_of l h number padding cells own target) frame ∙ ap (λ (n : ℕ). best_of l f number n cells own target) padding_is
    ∙ ap (λ (cs : List Cell). best_of l f number s.padding cs own target) cells_are
    ∙ ap (λ (o : Option Cell). option_and_then (λ (d : Cell). l.best_place (query_from f number s.padding (map member_of s.cells) own d.mac) target) o) cell in
    subst (λ (o : Option SpotPlace). IsChoice query target o) (sym (is ∙ best)) (l.finds_best_place query target (sized_at f s.cells own c known.sized cell))

module _ (reach : Option ℤ) (targets : List (Option Place)) (floor : FloorState) (team : List ℕ) (number own : ℕ) (named : team_number floor.frame team ≡ Some number)
    (old : Place) (target_is : target_at targets own ≡ Some old) (target : Point) (corner : target ≡ corner_of old) where
  way_is : (p : SpotPlace) → way_to (target_at targets own) p ≡ distance target p
  way_is p = ap (λ (o : Option Place). way_to o p) target_is ∙ ap (λ (t : Point). distance t p) (sym corner)

  -- the place that a search found is within reach
  pub best_within : (found : Place)
      → ((s : TeamState) (c : Cell) → slice_get floor.teams number ≡ Some s → slice_get s.cells own ≡ Some c
      → IsChoice (query_from floor.frame number s.padding (map member_of s.cells) own c.mac) target (Some (spot_of found)))
      → (IsBeyond reach (way_to (Some old) (spot_of found)) → ⊥) → BestIsWithin reach targets floor team own target
  best_within found choice near p is beyond =
      let same : is.number ≡ number = some_one (sym is.named ∙ named) in
      let best : IsBest (query_from floor.frame number is.state.padding (map member_of is.state.cells) own is.cell.mac) target p =
      subst (λ (n : ℕ). IsBest (query_from floor.frame n is.state.padding (map member_of is.state.cells) own is.cell.mac) target p) same is.best in
      let allowed = (choice is.state is.cell (state_there floor team number is.state named is.there) is.cell_is).may_go in
      let nearest = best_is_nearest (query_from floor.frame number is.state.padding (map member_of is.state.cells) own is.cell.mac) target p (spot_of found) best allowed in
      let way = way_is p in
      let way_found : way_to (Some old) (spot_of found) ≡ distance target (spot_of found) = sym (ap (λ (o : Option Place). way_to o (spot_of found)) target_is) ∙ way_is (spot_of found) in
      near (beyond_more reach (way_to (target_at targets own) p) (way_to (Some old) (spot_of found)) beyond (omega (arith, way, way_found, nearest)))

  module _ (s : TeamState) (c : Cell) (there : state_of floor team ≡ Some s) (cell_is : slice_get s.cells own ≡ Some c) (unplaced : c.working ≡ None) where
    abbrev query : PlacementQuery
    query = query_from floor.frame number s.padding (map member_of s.cells) own c.mac

    without : ((p : SpotPlace) → IsAllowedPlace query p → IsBeyond reach (way_to (target_at targets own) p)) → IsWithoutPlace reach targets floor team own
    without none = record { number = number; state = s; cell = c; named = named; there = there; cell_is = cell_is; unplaced = unplaced; none = none }

    -- the place that a search found is beyond reach
    pub best_beyond : (found : Place) → IsChoice query target (Some (spot_of found)) → IsBeyond reach (way_to (Some old) (spot_of found)) → IsWithoutPlace reach targets floor team own
    best_beyond found choice beyond = without (λ p allowed.
        let nearest = best_is_nearest query target (spot_of found) p choice allowed in
        let way = way_is p in
        let way_found : way_to (Some old) (spot_of found) ≡ distance target (spot_of found) = sym (ap (λ (o : Option Place). way_to o (spot_of found)) target_is) ∙ way_is (spot_of found) in
        beyond_more reach (way_to (Some old) (spot_of found)) (way_to (target_at targets own) p) beyond (omega (arith, way, way_found, nearest)))

    -- a search found no place
    pub none_found : IsChoice query target None → IsWithoutPlace reach targets floor team own
    none_found choice = without (λ p allowed. absurd (choice p allowed))

-- ---- a legalize

-- the place is the best one for the target of the cell at this position of the team
abbrev IsBestOf : TeamRules → TeamState → ℕ → Point → Place → Type 0
IsBestOf t s own target p = (c : Cell) × (slice_get s.cells own ≡ Some c) × IsBest (query_of_cell t s.cells own c) target (spot_of p)

legalized_best : (t : TeamRules) (session own : ℕ) (name : List ℕ) (target : Point) (s : TeamState) → BestIsFound → IsTeamOf t.frame s → name_at s.cells own ≡ Some name
    → working_at s.cells own ≡ None → (p : Place) → working_at (legalized t session name target s).team.cells own ≡ Some p → IsBestOf t s own target p
unfolding legalized
legalized_best t session own name target s found known at unplaced = go (cell_named name s.cells) refl where
  best : (o : Option Place) → best_at t s.cells own target ≡ o → (p : Place) → working_at (legalized_at o t session own s).team.cells own ≡ Some p → IsBestOf t s own target p
  best None is p placed = absurd (none_some (sym unplaced ∙ placed))
  best (Some place) is p placed =
      let c = named_cell s.cells own name at in
      let choice : IsBest (query_of_cell t s.cells own c.0) target (spot_of place) =
      subst (λ (o : Option Place). IsChoice (query_of_cell t s.cells own c.0) target (option_map spot_of o)) is (found t s own c.0 target known c.1) in
      let here : Some place ≡ Some p = sym (working_of (moved s.cells own (Some place)) own (record c.0 { working = Some place }) (moved_here s.cells own (Some place) c.0 c.1)) ∙ placed in
      (c.0, c.1, subst (λ (q : Place). IsBest (query_of_cell t s.cells own c.0) target (spot_of q)) (some_one here) choice)

  go : (o : Option ℕ) → cell_named name s.cells ≡ o → (p : Place) → working_at (legalized_own o t session target s).team.cells own ≡ Some p → IsBestOf t s own target p
  go None named p placed = absurd (none_some (sym unplaced ∙ placed))
  go (Some n) named p placed =
      subst (λ (k : ℕ). (q : Place) → working_at (legalized_own (Some k) t session target s).team.cells own ≡ Some q → IsBestOf t s own target q)
      (sym (named_is s.cells own n name known.names_differ at named)) (best (best_at t s.cells own target) refl) p placed

-- a legalize of an unplaced cell places it at its best place, or not at all
pub legalize_at_best : (l : Legalizer) (old new : FloorState) (team name : List ℕ) (session own : ℕ) (target : Point) (s : TeamState) → BestIsFound
    → All (λ s. IsTeamOf old.frame s) old.teams → state_of old team ≡ Some s → name_at s.cells own ≡ Some name → working_at s.cells own ≡ None
    → IsUnchangedOrStepped l old (To team (Within session (Changing (Legalize name target)))) new → IsUnplacedOrAtBest old team own target new
legalize_at_best l old new team name session own target s found teams there at unplaced requested p placed =
    elim (requested_step l old new team (Within session (Changing (Legalize name target))) requested) [
      | inl same ↦ absurd (none_some (sym (ap (λ (f : FloorState). place_of_cell_in f team own) same ∙ place_of_state old team own s there ∙ unplaced) ∙ placed))
      | inr served ↦
          let t = team_rules l old.frame served.number served.state.padding in
          let is : served.state ≡ s = some_one (sym served.before ∙ there) in
          let known : IsTeamOf old.frame served.state = each_state (IsTeamOf old.frame) old team served.state teams served.before in
          let at' : name_at served.state.cells own ≡ Some name = ap (λ (u : TeamState). name_at u.cells own) is ∙ at in
          let unplaced' : working_at served.state.cells own ≡ None = ap (λ (u : TeamState). working_at u.cells own) is ∙ unplaced in
          let best : IsBestOf t served.state own target p =
          outcome_has (λ (u : TeamState). (q : Place) → working_at u.cells own ≡ Some q → IsBestOf t served.state own target q) t session (Legalize name target) served.state
          (λ q is. absurd (none_some (sym unplaced' ∙ is))) (legalized_best t session own name target served.state found known at' unplaced')
          p (sym (place_of_state new team own (outcome_by_rules l old.frame served.number (Within session (Changing (Legalize name target))) served.state).team served.after) ∙ placed) in
          record {
            number = served.number;
            state = served.state;
            cell = best.0;
            named = served.named;
            there = served.before;
            cell_is = best.1;
            best = best.2;
          }
    ]

-- ---- cells within reach

module _ (reach : Option ℤ) (targets : List (Option Place)) (team : List ℕ) where
  pub unplaced_is_within : (floor : FloorState) (own : ℕ) → place_of_cell_in floor team own ≡ None → IsWithin reach targets floor team own
  unplaced_is_within floor own none p placed = absurd (none_some (sym none ∙ placed))

  pub within_there : (a b : FloorState) (own : ℕ) → place_of_cell_in b team own ≡ place_of_cell_in a team own → IsWithin reach targets a team own → IsWithin reach targets b team own
  within_there a b own same within p placed = within p (sym same ∙ placed)

  pub then_within : (a b c : FloorState) → KeepsWithin reach targets team a b → KeepsWithin reach targets team b c → KeepsWithin reach targets team a c
  then_within a b c first second within = second (first within)

  pub one_moves_within : (old new : FloorState) (own : ℕ) → ((other : ℕ) → other ≢ own → place_of_cell_in new team other ≡ place_of_cell_in old team other)
      → IsWithin reach targets new team own → KeepsWithin reach targets team old new
  one_moves_within old new own others here within k = elim (cases_eq k own) [
    | inl same ↦ subst (λ (j : ℕ). IsWithin reach targets new team j) (sym same) here
    | inr differ ↦ within_there old new k (others k differ) (within k)
  ]

  -- a cell is moved to its best place, which is within reach
  pub best_is_within : (old new : FloorState) (own : ℕ) (target : Point) → BestIsWithin reach targets old team own target → IsUnplacedOrAtBest old team own target new
      → IsWithin reach targets new team own
  best_is_within old new own target near best p placed = near (spot_of p) (best p placed)

  pub reach_stays : (a b : FloorState) → KeepsPlaces team a b → AreWithin reach targets team a → AreWithin reach targets team b
  reach_stays a b places within own = within_there a b own (places own) (within own)

  -- one cell more of the first ones
  pub one_more_within : (old new : FloorState) (count : ℕ) → ((own : ℕ) → own < count → IsWithin reach targets old team own)
      → ((other : ℕ) → other ≢ count → place_of_cell_in new team other ≡ place_of_cell_in old team other) → IsWithin reach targets new team count
      → (own : ℕ) → own < count + 1 → IsWithin reach targets new team own
  one_more_within old new count before others here own within = elim (cases_eq own count) [
    | inl same ↦ subst (λ (j : ℕ). IsWithin reach targets new team j) (sym same) here
    | inr differ ↦ within_there old new own (others own differ) (before own (omega (arith, within, differ)))
  ]

  pub all_within : (old new : FloorState) (count : ℕ) → team_cell_macros new team ≡ team_cell_macros old team
      → ((s : TeamState) → state_of old team ≡ Some s → length s.cells ≤ count) → ((own : ℕ) → own < count → IsWithin reach targets new team own) → AreWithin reach targets team new
  all_within old new count macros many are own = elim (is_less_or_past own count) [
    | inl within ↦ are own within
    | inr more ↦ unplaced_is_within new own (past_is_unplaced team old new count own macros many more)
  ]

  -- the targets are the places at the start
  pub stays_within : (old new : FloorState) (number : ℕ) → team_number old.frame team ≡ Some number
      → ((s : TeamState) → slice_get old.teams number ≡ Some s → AreWorkingPlaces s.cells targets) → team_cell_names new team ≡ team_cell_names old team
      → AreWithin reach targets team new → StaysWithin reach team old new
  stays_within old new number named are names within own p placed = go (state_of new team) refl where
    go : (o : Option TeamState) → state_of new team ≡ o → IsBeyond reach (way_to (place_of_cell_in old team own) (spot_of p)) → ⊥
    go None none = absurd (none_some (sym (ap (λ (o : Option TeamState). option_and_then (λ (s : TeamState). working_at s.cells own) o) none) ∙ placed))
    go (Some u) is =
        let was = team_was team old new u names is in
        subst (λ (o : Option Place). IsBeyond reach (way_to o (spot_of p)) → ⊥) (sym (target_is_place team old number targets own named are was.0 was.1)) (within own p placed)
