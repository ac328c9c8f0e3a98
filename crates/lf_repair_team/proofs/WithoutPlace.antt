-- Cells without a place: a refused legalize shows that the cell has none, and a legalize of an
-- unplaced cell leaves the others without one.
use Rattle.std.proofs.Common.{◌≡◌, inl, inr, ℕ, ℤ, List, map, Bool, true, false, cond, eqb, ltb, Option, Some, None, refl, ap, sym, ◌∙◌, subst}
use Rattle.std.specs.Prelude.{All, slice_get, option_and_then}
use Rattle.std.specs.Option.{option_map}
use Rattle.lf_units.specs.declared.geometry.Point.{Point}
use Rattle.lf_floorplan.specs.declared.frame.Frame.{Frame}
use Rattle.lf_floorplan.specs.declared.place.Place.{Place}
use Rattle.lf_rules.specs.Choice.{SpotPlace, IsAllowedPlace, IsChoice, spot_of}
use Rattle.lf_rules.specs.Legalizer.{Legalizer}
use Rattle.lf_rules.specs.Team.{Member, query_from}
use Rattle.lf_proto.specs.declared.request.Command.TheVariants.{To}
use Rattle.lf_proto.specs.declared.request.TeamCommand.TheVariants.{Within}
use Rattle.lf_proto.specs.declared.verb.Action.TheVariants.{Change as Changing}
use Rattle.lf_proto.specs.declared.verb.Change.TheVariants.{Legalize}
use Rattle.lf_proto.specs.declared.reply.Reply.{Reply}
use Rattle.lf_proto.specs.declared.reply.Reply.TheVariants.{Refused}
use Rattle.lf_proto.specs.declared.reply.Refusal.TheVariants.{NoPlace, RevisionsSpent, Stale}
use Rattle.lf_cells.specs.declared.cell.Cell.{Cell}
use Rattle.lf_cells.specs.Cells.{cell_named, moved, working_at}
use Rattle.lf_legalize.specs.Members.{member_of}
use Rattle.lf_floor_model.specs.States.{FloorState, TeamState}
use Rattle.lf_floor_model.specs.Teams.{IsTeamOf, TeamRules, state_of, team_number, team_rules, query_of_cell}
use Rattle.lf_floor_model.specs.Outcomes.{name_at, refused}
use Rattle.lf_floor_model.specs.Sessions.{seen_at}
use Rattle.lf_floor_model.specs.Queries.{best_at}
use Rattle.lf_floor_model.specs.Changes.{legalized, outcome_of_change}
use Rattle.lf_floor_model.specs.Steps.{IsAnswerOf, Step, outcome_by_rules}
use Rattle.lf_floor_model.specs.VerbLaws.{BestIsFound, KeepsCells, RefusalKeepsState, outcome_of_asking}
use Rattle.lf_floor_model.specs.Verbs.{outcome_by_slot}
use Rattle.lf_floor_model.proofs.Forms.{state_at, legalized_at, legalized_own, unless_spent}
use Rattle.lf_floor_model.proofs.Answering.{own_answer}
use Rattle.lf_floor_model.proofs.LegalPlaces.{member_there, moved_there, none_some, some_one}
use Rattle.lf_repair_team.specs.CellEdits.{IsAnotherCell, IsUnchangedOrStepped, SameCells, SaysNoPlace}
use Rattle.lf_repair_team.specs.TeamRepairs.{HasNoPlace, IsBeyond, place_of_cell_in, way_to}
use Rattle.lf_repair_team.proofs.Cells.{named_is}
use Rattle.lf_repair_team.proofs.OthersLegal.{members_except, outcome_has, still_none}
use Rattle.lf_repair_team.proofs.Results.{each_state}
use Rattle.lf_repair_team.proofs.Steps.{place_of_state, requested_step}

-- ---- a legalize that is refused because there is no place

-- the cell had no best place
no_best : (t : TeamRules) (session k own : ℕ) (name : List ℕ) (target : Point) (s : TeamState) → IsTeamOf t.frame s → name_at s.cells own ≡ Some name
    → (outcome_of_asking t session (Legalize name target) s).reply ≡ Refused (NoPlace k) → best_at t s.cells own target ≡ None
unfolding legalized
no_best t session k own name target s known at reply = slot (seen_at s.slots session) reply where
  placeless : (n : ℕ) → cell_named name s.cells ≡ Some n → (o : Option Place) → best_at t s.cells n target ≡ o
      → (legalized_at o t session n s).reply ≡ Refused (NoPlace k) → best_at t s.cells own target ≡ None
  placeless n named None best e = subst (λ (j : ℕ). best_at t s.cells j target ≡ None) (named_is s.cells own n name known.names_differ at named) best
  placeless n named (Some place) best e = absurd cc

  found : (o : Option ℕ) → cell_named name s.cells ≡ o → (legalized_own o t session target s).reply ≡ Refused (NoPlace k) → best_at t s.cells own target ≡ None
  found None named e = absurd cc
  found (Some n) named e = placeless n named (best_at t s.cells n target) refl e

  spent : (b : Bool) → (cond b (outcome_of_change t session (Legalize name target) s) (refused RevisionsSpent s)).reply ≡ Refused (NoPlace k)
      → best_at t s.cells own target ≡ None
  spent true e = found (cell_named name s.cells) refl e
  spent false e = absurd cc

  stale : (b : Bool) → (cond b (unless_spent t session (Legalize name target) s) (refused (Stale s.revision) s)).reply ≡ Refused (NoPlace k)
      → best_at t s.cells own target ≡ None
  stale true e = spent (ltb s.revision t.frame.limits.revisions) e
  stale false e = absurd cc

  slot : (o : Option ℕ) → (outcome_by_slot o t session (Changing (Legalize name target)) s).reply ≡ Refused (NoPlace k) → best_at t s.cells own target ≡ None
  slot None e = absurd cc
  slot (Some seen) e = stale (eqb seen s.revision) e

pub named_cell : (cells : List Cell) (own : ℕ) (name : List ℕ) → name_at cells own ≡ Some name → (c : Cell) × (slice_get cells own ≡ Some c)
named_cell cells own name at = go (slice_get cells own) refl at where
  go : (o : Option Cell) → slice_get cells own ≡ o → option_map (λ (c : Cell). c.name) o ≡ Some name → (c : Cell) × (slice_get cells own ≡ Some c)
  go None is e = absurd (none_some e)
  go (Some c) is e = (c, is)

pub working_of : (cells : List Cell) (own : ℕ) (c : Cell) → slice_get cells own ≡ Some c → working_at cells own ≡ c.working
working_of cells own c is = ap (λ (o : Option Cell). option_and_then (λ (d : Cell). d.working) o) is

number_there : (floor : FloorState) (team : List ℕ) (s : TeamState) → state_of floor team ≡ Some s → (number : ℕ) × (team_number floor.frame team ≡ Some number)
number_there floor team s there = go (team_number floor.frame team) refl there where
  go : (o : Option ℕ) → team_number floor.frame team ≡ o → state_at floor.teams o ≡ Some s → (number : ℕ) × (team_number floor.frame team ≡ Some number)
  go None is e = absurd (none_some e)
  go (Some number) is e = (number, is)

-- if a legalize of an unplaced cell is refused because it has no best place, it has no place
pub refused_has_none : (reach : Option ℤ) (was : Option Place) (l : Legalizer) (old new : FloorState) (team name : List ℕ) (session own : ℕ) (target : Point) (s : TeamState) (reply : Reply)
    → BestIsFound → RefusalKeepsState → All (λ s. IsTeamOf old.frame s) old.teams → new.frame ≡ old.frame → state_of old team ≡ Some s → name_at s.cells own ≡ Some name
    → working_at s.cells own ≡ None → Step l old (To team (Within session (Changing (Legalize name target)))) reply new → SaysNoPlace reply → HasNoPlace reach was new team own
refused_has_none reach was l old new team name session own target s reply found keeps teams frame there at unplaced step (k, is) =
    let order = Within session (Changing (Legalize name target)) in
    let at_number = number_there old team s there in
    let number = at_number.0 in
    let t = team_rules l old.frame number s.padding in
    let known : IsTeamOf old.frame s = each_state (IsTeamOf old.frame) old team s teams there in
    let answer : IsAnswerOf l old (To team order) (Refused (NoPlace k)) new = subst (λ (r : Reply). Step l old (To team order) r new) is step in
    let own_is = own_answer l old team number order s at_number.1 there in
    let reply_is : (outcome_by_rules l old.frame number order s).reply ≡ Refused (NoPlace k) = sym (answer.reply_is ∙ own_is.0) in
    let same : (outcome_by_rules l old.frame number order s).team ≡ s = keeps t order s (NoPlace k) reply_is in
    let cell = named_cell s.cells own name at in
    let choice : IsChoice (query_of_cell t s.cells own cell.0) target (option_map spot_of (best_at t s.cells own target)) = found t s own cell.0 target known cell.1 in
    let none : (p : SpotPlace) → IsAllowedPlace (query_of_cell t s.cells own cell.0) p → ⊥ =
    subst (λ (o : Option Place). IsChoice (query_of_cell t s.cells own cell.0) target (option_map spot_of o)) (no_best t session k own name target s known at reply_is) choice in
    record {
      number = number;
      state = s;
      cell = cell.0;
      named = ap (λ (f : Frame). team_number f team) frame ∙ at_number.1;
      there = ap (λ (floor : FloorState). state_of floor team) answer.floor_is ∙ own_is.1 ∙ ap (λ (u : TeamState). Some u) same;
      cell_is = cell.1;
      unplaced = sym (working_of s.cells own cell.0 cell.1) ∙ unplaced;
      none = λ p allowed. absurd (subst (λ (f : Frame). (p : SpotPlace) → IsAllowedPlace (query_from f number s.padding (map member_of s.cells) own cell.0.mac) p → ⊥) (sym frame) none p allowed);
    }

-- ---- a legalize of another cell

-- the team has a cell at this position, which has no place within reach of its place before
pub record HasNoneAt (reach : Option ℤ) (was : Option Place) (f : Frame) (number other : ℕ) (u : TeamState) : Type 0 where
  pub cell : Cell
  pub is : slice_get u.cells other ≡ Some cell
  pub unplaced : cell.working ≡ None
  pub none : (p : SpotPlace) → IsAllowedPlace (query_from f number u.padding (map member_of u.cells) other cell.mac) p → IsBeyond reach (way_to was p)

legalized_none : (reach : Option ℤ) (was : Option Place) (t : TeamRules) (session other : ℕ) (name : List ℕ) (target : Point) (s : TeamState)
    → (cell_named name s.cells ≡ Some other → ⊥) → ((n : ℕ) → cell_named name s.cells ≡ Some n → working_at s.cells n ≡ None)
    → HasNoneAt reach was t.frame t.number other s → HasNoneAt reach was t.frame t.number other (legalized t session name target s).team
unfolding legalized
legalized_none reach was t session other name target s differ unplaced has = found (cell_named name s.cells) refl where
  placeless : (n : ℕ) → cell_named name s.cells ≡ Some n → (m : Member) → slice_get (map member_of s.cells) n ≡ Some m → m.place ≡ None
  placeless n named m there =
      let c = member_there s.cells n m there in
      ap (λ (x : Member). x.place) (sym c.2) ∙ ap (λ (o : Option Place). option_map spot_of o) (sym (working_of s.cells n c.0 c.1) ∙ unplaced n named)

  at : (n : ℕ) → cell_named name s.cells ≡ Some n → (o : Option Place) → HasNoneAt reach was t.frame t.number other (legalized_at o t session n s).team
  at n named None = has
  at n named (Some place) = record {
    cell = has.cell;
    is = moved_there s.cells n other (Some place) (λ (e : other ≡ n). differ (named ∙ ap (λ (k : ℕ). Some k) (sym e))) ∙ has.is;
    unplaced = has.unplaced;
    none = still_none (λ p. IsBeyond reach (way_to was p)) t.frame t.number s.padding n other has.cell.mac (map member_of s.cells) (map member_of (moved s.cells n (Some place)))
        (members_except s.cells n (Some place)) (placeless n named) has.none;
  }

  found : (o : Option ℕ) → cell_named name s.cells ≡ o → HasNoneAt reach was t.frame t.number other (legalized_own o t session target s).team
  found None named = has
  found (Some n) named = at n named (best_at t s.cells n target)

-- a legalize of an unplaced cell leaves each other cell without a place
pub other_has_none : (reach : Option ℤ) (was : Option Place) (l : Legalizer) (old new : FloorState) (team name : List ℕ) (session : ℕ) (target : Point) (other : ℕ) → new.frame ≡ old.frame
    → IsUnchangedOrStepped l old (To team (Within session (Changing (Legalize name target)))) new → IsAnotherCell old team name other
    → ((s : TeamState) (own : ℕ) → state_of old team ≡ Some s → cell_named name s.cells ≡ Some own → working_at s.cells own ≡ None)
    → HasNoPlace reach was old team other → HasNoPlace reach was new team other
other_has_none reach was l old new team name session target other frame requested differ unplaced has =
    elim (requested_step l old new team (Within session (Changing (Legalize name target))) requested) [
      | inl same ↦ subst (λ (floor : FloorState). HasNoPlace reach was floor team other) (sym same) has
      | inr served ↦
          let s = served.state in
          let number = served.number in
          let t = team_rules l old.frame number s.padding in
          let state : has.state ≡ s = some_one (sym has.there ∙ served.before) in
          let same : has.number ≡ number = some_one (sym has.named ∙ served.named) in
          let had : HasNoneAt reach was old.frame has.number other has.state = record { cell = has.cell; is = has.cell_is; unplaced = has.unplaced; none = has.none } in
          let before : HasNoneAt reach was old.frame number other s =
          subst (λ (u : TeamState). HasNoneAt reach was old.frame number other u) state (subst (λ (n : ℕ). HasNoneAt reach was old.frame n other has.state) same had) in
          let after : HasNoneAt reach was old.frame number other (outcome_by_rules l old.frame number (Within session (Changing (Legalize name target))) s).team =
          outcome_has (HasNoneAt reach was old.frame number other) t session (Legalize name target) s before
          (legalized_none reach was t session other name target s (differ s served.before) (λ n named. unplaced s n served.before named) before) in
          record {
            number = number;
            state = (outcome_by_rules l old.frame number (Within session (Changing (Legalize name target))) s).team;
            cell = after.cell;
            named = ap (λ (f : Frame). team_number f team) frame ∙ served.named;
            there = served.after;
            cell_is = after.is;
            unplaced = after.unplaced;
            none = subst (λ (f : Frame). (p : SpotPlace) → IsAllowedPlace (query_from f number (outcome_by_rules l old.frame number (Within session (Changing (Legalize name target))) s).team.padding
                (map member_of (outcome_by_rules l old.frame number (Within session (Changing (Legalize name target))) s).team.cells) other after.cell.mac) p → IsBeyond reach (way_to was p)) (sym frame) after.none;
          }
    ]

-- ---- what a cell without a place is

-- it is unplaced
pub none_is_unplaced : (reach : Option ℤ) (was : Option Place) (floor : FloorState) (team : List ℕ) (own : ℕ) → HasNoPlace reach was floor team own → place_of_cell_in floor team own ≡ None
none_is_unplaced reach was floor team own has =
    place_of_state floor team own has.state has.there ∙ working_of has.state.cells own has.cell has.cell_is ∙ has.unplaced

-- it has none on a floor with the same cells
same_none : (reach : Option ℤ) (was : Option Place) (f g : Frame) (number own : ℕ) (s t : TeamState) → g ≡ f → KeepsCells s t → HasNoneAt reach was f number own s → HasNoneAt reach was g number own t
same_none reach was f g number own s t frame keeps has = record {
  cell = has.cell;
  is = ap (λ (cells : List Cell). slice_get cells own) keeps.cells ∙ has.is;
  unplaced = has.unplaced;
  none = subst (λ (h : Frame). (p : SpotPlace) → IsAllowedPlace (query_from h number t.padding (map member_of t.cells) own has.cell.mac) p → IsBeyond reach (way_to was p)) (sym frame)
      (subst (λ (n : ℕ). (p : SpotPlace) → IsAllowedPlace (query_from f number n (map member_of t.cells) own has.cell.mac) p → IsBeyond reach (way_to was p)) (sym keeps.padding)
      (subst (λ (cells : List Cell). (p : SpotPlace) → IsAllowedPlace (query_from f number s.padding (map member_of cells) own has.cell.mac) p → IsBeyond reach (way_to was p)) (sym keeps.cells) has.none));
}

pub none_through : (reach : Option ℤ) (was : Option Place) (team : List ℕ) (old new : FloorState) (own : ℕ) → new.frame ≡ old.frame → SameCells team old new → HasNoPlace reach was old team own → HasNoPlace reach was new team own
none_through reach was team old new own frame same has = elim same [
  | inl state ↦ record {
    number = has.number;
    state = has.state;
    cell = has.cell;
    named = ap (λ (f : Frame). team_number f team) frame ∙ has.named;
    there = state ∙ has.there;
    cell_is = has.cell_is;
    unplaced = has.unplaced;
    none = subst (λ (f : Frame). (p : SpotPlace) → IsAllowedPlace (query_from f has.number has.state.padding (map member_of has.state.cells) own has.cell.mac) p → IsBeyond reach (way_to was p)) (sym frame) has.none;
  }
  | inr keeps ↦
      let had : HasNoneAt reach was old.frame has.number own has.state = record { cell = has.cell; is = has.cell_is; unplaced = has.unplaced; none = has.none } in
      let now : HasNoneAt reach was new.frame has.number own keeps.after =
      same_none reach was old.frame new.frame has.number own keeps.before keeps.after frame keeps.keeps
      (subst (λ (u : TeamState). HasNoneAt reach was old.frame has.number own u) (some_one (sym has.there ∙ keeps.was)) had) in
      record {
        number = has.number;
        state = keeps.after;
        cell = now.cell;
        named = ap (λ (f : Frame). team_number f team) frame ∙ has.named;
        there = keeps.is;
        cell_is = now.is;
        unplaced = now.unplaced;
        none = now.none;
      }
]
