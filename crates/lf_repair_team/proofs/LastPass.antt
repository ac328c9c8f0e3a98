-- The last pass, cell by cell.
use Rattle.std.proofs.Common.{◌≡◌, ◌≢◌, ◌⊎◌, inl, inr, ℕ, ℤ, ◌+◌, ◌<◌, ◌≤◌, ◌==◌, List, [], ◌∷◌, ◌++◌, Bool, true, false, length, map, get_or, take, Option, Some, None, refl, ap, sym, ◌∙◌, subst, arith}
use Rattle.std.specs.Prelude.{All, AllPairs, Contains, MatchOption, option_and_then, slice_get}
use Rattle.std.specs.Option.{option_map}
use Rattle.std.proofs.lemmas.Bool.{cases_eq}
use Rattle.std.proofs.lemmas.Bool.Decides.{nat_tests}
use Rattle.std.proofs.lemmas.List.{length-map, take_all}
use Rattle.std.proofs.lemmas.Option.{slice_get_within}
use Rattle.std.proofs.lemmas.List.Elements.{All-contains, All-head, All-more, All-nil, All-push, All-same, All-weaker, Contains-append_left, Contains-get_or, Contains-push}
use Rattle.lf_floorplan.specs.declared.frame.Frame.{Frame}
use Rattle.lf_floorplan.specs.declared.place.Place.{Place}
use Rattle.lf_rules.specs.Choice.{IsLegalAt, spot_of}
use Rattle.lf_rules.specs.Legalizer.{Legalizer}
use Rattle.lf_rules.specs.Team.{IsLegalCell, query_from}
use Rattle.lf_cells.specs.declared.cell.Cell.{Cell}
use Rattle.lf_cells.specs.Cells.{cell_named, working_at}
use Rattle.lf_floor_model.specs.States.{FloorState, TeamState}
use Rattle.lf_legalize.specs.Members.{member_of}
use Rattle.lf_floor_model.specs.Outcomes.{name_at}
use Rattle.lf_floor_model.specs.Teams.{IsTeamOf, state_of, team_number}
use Rattle.lf_floor_model.specs.Steps.{AllCommittedIn}
use Rattle.lf_floor_model.proofs.LegalPlaces.{member_is, none_some, some_one, there_within}
use Rattle.lf_repair_strategy.specs.Targets.{target_at}
use Rattle.lf_repair_team.specs.CellEdits.{AreMovable, AreUnrepaired, HasNoPlaceOrIsFlagged, HoldsOrIsListed, IsAnotherCell, IsFlagged, IsLegalOrUnplaced, IsLegalOrWithoutPlace, IsWithoutPlace, KeepsLegalCells, KeepsLockedLegal, KeepsLockedPlaces, RemainsLegal, SameCells}
use Rattle.lf_repair_team.specs.TeamRepairs.{AreLegalExcept, IsIllegalIn, IsLegalIn, team_cell_names, place_of_cell_in}
use Rattle.lf_repair_team.proofs.Cells.{named_is}
use Rattle.lf_repair_team.proofs.Results.{each_state}
use Rattle.lf_repair_team.proofs.Legal.{all_left_through, but_committed, but_through, left_committed, reported_legal, state_there}
use Rattle.lf_repair_team.proofs.Steps.{place_of_state}
use Rattle.lf_repair_team.proofs.WithoutPlace.{none_is_unplaced, none_through}

-- ---- legal cells

pub none_affected : (team : List ℕ) (floor : FloorState) → KeepsLegalCells team floor floor
none_affected team floor own legal = (legal, refl)

pub then_legal : (team : List ℕ) (a b c : FloorState) → KeepsLegalCells team a b → KeepsLegalCells team b c → KeepsLegalCells team a c
then_legal team a b c first second own legal =
    let here = first own legal in
    let there = second own here.0 in
    (there.0, there.1 ∙ here.1)

-- a change of a cell that was illegal at the start
pub legal_beside_illegal : (team : List ℕ) (start old new : FloorState) (own : ℕ) → IsIllegalIn start team own → KeepsLegalCells team start old
    → ((other : ℕ) → other ≢ own → place_of_cell_in new team other ≡ place_of_cell_in old team other)
    → ((other : ℕ) → other ≢ own → RemainsLegal team old new other) → KeepsLegalCells team start new
legal_beside_illegal team start old new own illegal kept places remains k legal =
    let differ : k ≢ own = λ e. illegal.illegal (subst (λ (j : ℕ). IsLegalIn start team j) e legal) in
    let before = kept k legal in
    (remains k differ before.0, places k differ ∙ before.1)

-- a change of a cell that is illegal
pub legal_unless : (team : List ℕ) (old new : FloorState) (own : ℕ) → (IsLegalIn old team own → ⊥)
    → ((other : ℕ) → other ≢ own → place_of_cell_in new team other ≡ place_of_cell_in old team other)
    → ((other : ℕ) → other ≢ own → RemainsLegal team old new other) → KeepsLegalCells team old new
legal_unless team old new own illegal places remains k legal =
    let differ : k ≢ own = λ e. illegal (subst (λ (j : ℕ). IsLegalIn old team j) e legal) in
    (remains k differ legal, places k differ)

-- a change of a cell that is not flagged
pub flagged_beside : (team : List ℕ) (flags : List Bool) (old new : FloorState) (own : ℕ) → (IsFlagged flags own → ⊥)
    → ((other : ℕ) → other ≢ own → place_of_cell_in new team other ≡ place_of_cell_in old team other) → KeepsLockedPlaces team flags old new
flagged_beside team flags old new own free places k flag = places k (λ (same : k ≡ own). free (subst (λ (j : ℕ). IsFlagged flags j) same flag))

-- ---- each cell is unplaced

pub unplaced_more : (team : List ℕ) (old new : FloorState) (cells : List ℕ) (i d : ℕ) → i < length cells
    → All (λ own. place_of_cell_in old team own ≡ None) (take i cells)
    → ((other : ℕ) → other ≢ get_or cells i d → place_of_cell_in new team other ≡ place_of_cell_in old team other)
    → place_of_cell_in new team (get_or cells i d) ≡ None → All (λ own. place_of_cell_in new team own ≡ None) (take (i + 1) cells)
unplaced_more team old new cells i d within before places here =
    All-more (λ own. place_of_cell_in new team own ≡ None) cells i d within
    (All-weaker (λ own. place_of_cell_in old team own ≡ None) (λ own. place_of_cell_in new team own ≡ None) still (take i cells) before) here
  where
    still : (own : ℕ) → place_of_cell_in old team own ≡ None → place_of_cell_in new team own ≡ None
    still own none = elim (cases_eq own (get_or cells i d)) [
      | inl same ↦ subst (λ (j : ℕ). place_of_cell_in new team j ≡ None) (sym same) here
      | inr differ ↦ places own differ ∙ none
    ]

-- ---- each cell is moved to its best place

-- what a legalize of one cell does to the cells of the team
pub record LegalizesOne (reach : Option ℤ) (targets : List (Option Place)) (team : List ℕ) (old new : FloorState) (own : ℕ) : Type 0 where
  pub legal : KeepsLegalCells team old new
  pub places : (other : ℕ) → other ≢ own → place_of_cell_in new team other ≡ place_of_cell_in old team other
  pub without : (other : ℕ) → IsWithoutPlace reach targets old team other → other ≢ own → IsWithoutPlace reach targets new team other
  pub done : IsLegalOrWithoutPlace reach targets new team own

pub done_more : (reach : Option ℤ) (targets : List (Option Place)) (team : List ℕ) (old new : FloorState) (cells : List ℕ) (i d : ℕ) → i < length cells → LegalizesOne reach targets team old new (get_or cells i d)
    → All (λ own. IsLegalOrWithoutPlace reach targets old team own) (take i cells) → All (λ own. IsLegalOrWithoutPlace reach targets new team own) (take (i + 1) cells)
done_more reach targets team old new cells i d within one before =
    All-more (λ own. IsLegalOrWithoutPlace reach targets new team own) cells i d within
    (All-weaker (λ own. IsLegalOrWithoutPlace reach targets old team own) (λ own. IsLegalOrWithoutPlace reach targets new team own) still (take i cells) before) one.done
  where
    still : (own : ℕ) → IsLegalOrWithoutPlace reach targets old team own → IsLegalOrWithoutPlace reach targets new team own
    still own (inl legal) = inl (one.legal own legal).0
    still own (inr has) = elim (cases_eq own (get_or cells i d)) [
      | inl same ↦ subst (λ (j : ℕ). IsLegalOrWithoutPlace reach targets new team j) (sym same) one.done
      | inr differ ↦ inr (one.without own has differ)
    ]

pub still_unplaced : (reach : Option ℤ) (targets : List (Option Place)) (team : List ℕ) (old new : FloorState) (cells : List ℕ) (own : ℕ) → LegalizesOne reach targets team old new own
    → All (λ own. IsLegalOrUnplaced old team own) cells → All (λ own. IsLegalOrUnplaced new team own) cells
still_unplaced reach targets team old new cells own one all = All-weaker (λ k. IsLegalOrUnplaced old team k) (λ k. IsLegalOrUnplaced new team k) still cells all where
  here : IsLegalOrWithoutPlace reach targets new team own → IsLegalOrUnplaced new team own
  here (inl legal) = inl legal
  here (inr has) = inr (none_is_unplaced reach (target_at targets own) new team own has)

  still : (k : ℕ) → IsLegalOrUnplaced old team k → IsLegalOrUnplaced new team k
  still k (inl legal) = inl (one.legal k legal).0
  still k (inr none) = elim (cases_eq k own) [
    | inl same ↦ subst (λ (j : ℕ). IsLegalOrUnplaced new team j) (sym same) (here one.done)
    | inr differ ↦ inr (one.places k differ ∙ none)
  ]

state_before : (team : List ℕ) (a b : FloorState) (s : TeamState) → team_cell_names b team ≡ team_cell_names a team → state_of b team ≡ Some s
    → (u : TeamState) × (state_of a team ≡ Some u) × (length u.cells ≡ length s.cells)
state_before team a b s names there = go (state_of a team) refl where
  names_of : TeamState → List (List ℕ)
  names_of u = map (λ (c : Cell). c.name) u.cells

  are : Some (names_of s) ≡ team_cell_names a team
  are = sym (ap (λ (o : Option TeamState). option_map names_of o) there) ∙ names

  go : (o : Option TeamState) → state_of a team ≡ o → (u : TeamState) × (state_of a team ≡ Some u) × (length u.cells ≡ length s.cells)
  go None is = absurd (none_some (sym (are ∙ ap (λ (o : Option TeamState). option_map names_of o) is)))
  go (Some u) is =
      let same : names_of s ≡ names_of u = some_one (are ∙ ap (λ (o : Option TeamState). option_map names_of o) is) in (
        u,
        is,
        sym (length-map u.cells (λ (c : Cell). c.name)) ∙ ap (λ (names : List (List ℕ)). length names) (sym same) ∙ length-map s.cells (λ (c : Cell). c.name),
      )

-- an unplaced cell is not legal
pub unplaced_is_illegal : (team : List ℕ) (floor : FloorState) (own : ℕ) → place_of_cell_in floor team own ≡ None → IsLegalIn floor team own → ⊥
unplaced_is_illegal team floor own none legal =
    let cells = legal.state.cells in
    let c = there_within cells own legal.within in
    let unplaced : c.0.working ≡ None =
    sym (ap (λ (o : Option Cell). option_and_then (λ (d : Cell). d.working) o) c.1) ∙ sym (place_of_state floor team own legal.state legal.there) ∙ none in
    subst (λ (o : Option Place). MatchOption (option_map spot_of o) ⊥ (λ p. IsLegalAt (query_from floor.frame legal.number legal.state.padding (map member_of cells) own c.0.mac) p)) unplaced
    (legal.legal (member_of c.0) (member_is cells own c.0 c.1))

-- the team of a cell with this name
pub state_named : (team : List ℕ) (floor : FloorState) (own : ℕ) (name : List ℕ) → option_and_then (λ s. name_at s.cells own) (state_of floor team) ≡ Some name
    → (s : TeamState) × (state_of floor team ≡ Some s) × (name_at s.cells own ≡ Some name)
state_named team floor own name at = go (state_of floor team) refl at where
  go : (o : Option TeamState) → state_of floor team ≡ o → option_and_then (λ (s : TeamState). name_at s.cells own) o ≡ Some name
      → (s : TeamState) × (state_of floor team ≡ Some s) × (name_at s.cells own ≡ Some name)
  go None is e = absurd (none_some e)
  go (Some s) is e = (s, is, e)

-- a placed cell that is legal or unplaced is legal
pub placed_is_legal : (reach : Option ℤ) (targets : List (Option Place)) (team : List ℕ) (floor : FloorState) (own : ℕ) (place : Place) → place_of_cell_in floor team own ≡ Some place → IsLegalOrUnplaced floor team own
    → IsLegalOrWithoutPlace reach targets floor team own
placed_is_legal reach targets team floor own place is (inl legal) = inl legal
placed_is_legal reach targets team floor own place is (inr none) = absurd (none_some (sym none ∙ is))

-- the cell is legal if the floor says so after a command
pub now_legal : (team : List ℕ) (old new : FloorState) (number own : ℕ) (name : List ℕ) → team_number old.frame team ≡ Some number → new.frame ≡ old.frame
    → team_cell_names new team ≡ team_cell_names old team → option_and_then (λ s. name_at s.cells own) (state_of old team) ≡ Some name
    → ((s : TeamState) → slice_get new.teams number ≡ Some s → IsLegalCell new.frame number s.padding (map member_of s.cells) own) → IsLegalIn new team own
now_legal team old new number own name named frame names at legal =
    let s = state_named team old own name at in
    let u = state_before team new old s.0 (sym names) s.1 in
    let named' : team_number new.frame team ≡ Some number = ap (λ (f : Frame). team_number f team) frame ∙ named in
    reported_legal team new number own u.0 named' u.1 (subst (λ (n : ℕ). own < n) (sym u.2) (name_within s.0.cells own name s.2)) (legal u.0 (state_there new team number u.0 named' u.1))
  where
    name_within : (cells : List Cell) (own : ℕ) (name : List ℕ) → name_at cells own ≡ Some name → own < length cells
    name_within cells own name e = go (slice_get cells own) refl e where
      go : (o : Option Cell) → slice_get cells own ≡ o → option_map (λ (c : Cell). c.name) o ≡ Some name → own < length cells
      go None is e = absurd (none_some e)
      go (Some c) is e = slice_get_within cells own c is

-- the other cells have other names
pub another_cell : (team name : List ℕ) (floor : FloorState) (own other : ℕ) → All (λ s. IsTeamOf floor.frame s) floor.teams
    → ((s : TeamState) → state_of floor team ≡ Some s → name_at s.cells own ≡ Some name) → other ≢ own → IsAnotherCell floor team name other
another_cell team name floor own other teams at differ s there named =
    differ (named_is s.cells own other name (each_state (IsTeamOf floor.frame) floor team s teams there).names_differ (at s there) named)

-- the cell of this name is unplaced
pub named_unplaced : (team name : List ℕ) (floor : FloorState) (own : ℕ) → All (λ s. IsTeamOf floor.frame s) floor.teams
    → ((s : TeamState) → state_of floor team ≡ Some s → name_at s.cells own ≡ Some name) → place_of_cell_in floor team own ≡ None
    → (s : TeamState) (k : ℕ) → state_of floor team ≡ Some s → cell_named name s.cells ≡ Some k → working_at s.cells k ≡ None
named_unplaced team name floor own teams at none s k there named =
    subst (λ (j : ℕ). working_at s.cells j ≡ None)
    (sym (named_is s.cells own k name (each_state (IsTeamOf floor.frame) floor team s teams there).names_differ (at s there) named))
    (sym (place_of_state floor team own s there) ∙ none)

-- ---- the cells at the end

state_of_legal : (reach : Option ℤ) (targets : List (Option Place)) (team : List ℕ) (floor : FloorState) (own : ℕ) → IsLegalOrWithoutPlace reach targets floor team own → (s : TeamState) × (state_of floor team ≡ Some s)
state_of_legal reach targets team floor own (inl legal) = (legal.state, legal.there)
state_of_legal reach targets team floor own (inr has) = (has.state, has.there)

-- if each of the cells that were illegal is flagged, legal or without a place, those that are illegal
-- have none, or are flagged
pub illegal_have_none : (reach : Option ℤ) (targets : List (Option Place)) (team : List ℕ) (flags : List Bool) (a b : FloorState) (before movable left : List ℕ) → (movable ≡ [] → ⊥)
    → team_cell_names b team ≡ team_cell_names a team → AreLegalExcept team a before → AreMovable flags before movable → KeepsLegalCells team a b
    → All (λ own. IsLegalOrWithoutPlace reach targets b team own) movable → All (λ own. IsIllegalIn b team own) left → All (λ own. HasNoPlaceOrIsFlagged reach targets flags b team own) left
illegal_have_none reach targets team flags a b before movable left some names legal movables kept done illegal =
    All-weaker (λ own. IsIllegalIn b team own) (λ own. HasNoPlaceOrIsFlagged reach targets flags b team own) one left illegal
  where
    there : (xs : List ℕ) → movable ≡ xs → (s : TeamState) × (state_of b team ≡ Some s)
    there [] none = absurd (some none)
    there (x ∷ xs) is =
        state_of_legal reach targets team b x (All-head (λ own. IsLegalOrWithoutPlace reach targets b team own) x xs (subst (λ (ys : List ℕ). All (λ own. IsLegalOrWithoutPlace reach targets b team own) ys) is done))

    one : (own : ℕ) → IsIllegalIn b team own → HasNoPlaceOrIsFlagged reach targets flags b team own
    one own is =
        let s = there movable refl in
        let u = state_before team a b s.0 names s.1 in
        let within : own < length s.0.cells = is.within s.0 s.1 in
        at (legal u.0 u.1 own (subst (λ (n : ℕ). own < n) (sym u.2) within))
      where
        settled : IsLegalOrWithoutPlace reach targets b team own → HasNoPlaceOrIsFlagged reach targets flags b team own
        settled (inl legal) = absurd (is.illegal legal)
        settled (inr has) = inl has

        moved : IsFlagged flags own ⊎ Contains movable own → HasNoPlaceOrIsFlagged reach targets flags b team own
        moved (inl flag) = inr flag
        moved (inr listed) = settled (All-contains (λ own. IsLegalOrWithoutPlace reach targets b team own) movable own done listed)

        at : IsLegalIn a team own ⊎ Contains before own → HasNoPlaceOrIsFlagged reach targets flags b team own
        at (inl legal) = absurd (is.illegal (kept own legal).0)
        at (inr listed) = moved (All-contains (λ own. IsFlagged flags own ⊎ Contains movable own) before own movables.others listed)

-- ---- locked cells

pub then_locked_legal : (team : List ℕ) (marks : List Bool) (a b c : FloorState) → KeepsLockedLegal team marks a b → KeepsLockedLegal team marks b c
    → KeepsLockedLegal team marks a c
then_locked_legal team marks a b c first second own mark legal = second own mark (first own mark legal)

-- ---- the movable cells

-- what is known of the first `count` cells
pub record AreMovableTo (flags : List Bool) (cells : List ℕ) (count : ℕ) (movable : List ℕ) : Type 0 where
  pub among : All (λ own. Contains cells own) movable
  pub free : All (λ own. IsFlagged flags own → ⊥) movable
  pub others : All (λ own. IsFlagged flags own ⊎ Contains movable own) (take count cells)

pub none_taken : {X : Type 0} (xs : List X) → take 0 xs ≡ []
none_taken [] = refl
none_taken (x ∷ xs) = refl

pub none_movable : (flags : List Bool) (cells movable : List ℕ) → movable ≡ [] → AreMovableTo flags cells 0 movable
none_movable flags cells movable none = record {
  among = All-same (λ own. Contains cells own) movable [] none (All-nil (λ own. Contains cells own));
  free = All-same (λ own. IsFlagged flags own → ⊥) movable [] none (All-nil (λ own. IsFlagged flags own → ⊥));
  others = All-same (λ own. IsFlagged flags own ⊎ Contains movable own) (take 0 cells) [] (none_taken cells) (All-nil (λ own. IsFlagged flags own ⊎ Contains movable own));
}

pub one_more_movable : (flags : List Bool) (cells : List ℕ) (i d : ℕ) (old new : List ℕ) → i < length cells
    → HoldsOrIsListed (IsFlagged flags (get_or cells i d)) (IsFlagged flags (get_or cells i d) → ⊥) (get_or cells i d) old new
    → AreMovableTo flags cells i old → AreMovableTo flags cells (i + 1) new
one_more_movable flags cells i d old new within (inl (same, flag)) so_far = record {
  among = All-same (λ own. Contains cells own) new old same so_far.among;
  free = All-same (λ own. IsFlagged flags own → ⊥) new old same so_far.free;
  others = subst (λ (xs : List ℕ). All (λ own. IsFlagged flags own ⊎ Contains xs own) (take (i + 1) cells)) (sym same)
      (All-more (λ own. IsFlagged flags own ⊎ Contains old own) cells i d within so_far.others (inl flag));
}
one_more_movable flags cells i d old new within (inr (more, free)) so_far = record {
  among = All-same (λ own. Contains cells own) new (old ++ get_or cells i d ∷ []) more
      (All-push (λ own. Contains cells own) old (get_or cells i d) so_far.among (Contains-get_or cells i d within));
  free = All-same (λ own. IsFlagged flags own → ⊥) new (old ++ get_or cells i d ∷ []) more
      (All-push (λ own. IsFlagged flags own → ⊥) old (get_or cells i d) so_far.free free);
  others = subst (λ (xs : List ℕ). All (λ own. IsFlagged flags own ⊎ Contains xs own) (take (i + 1) cells)) (sym more)
      (All-more (λ own. IsFlagged flags own ⊎ Contains (old ++ get_or cells i d ∷ []) own) cells i d within
      (All-weaker (λ own. IsFlagged flags own ⊎ Contains old own) (λ own. IsFlagged flags own ⊎ Contains (old ++ get_or cells i d ∷ []) own) grown (take i cells) so_far.others)
      (inr (Contains-push old (get_or cells i d))));
} where
  grown : (own : ℕ) → IsFlagged flags own ⊎ Contains old own → IsFlagged flags own ⊎ Contains (old ++ get_or cells i d ∷ []) own
  grown own (inl flag) = inl flag
  grown own (inr listed) = inr (Contains-append_left old (get_or cells i d ∷ []) own listed)

pub all_movable : (flags : List Bool) (cells : List ℕ) (count : ℕ) (movable : List ℕ) → length cells ≤ count → AreMovableTo flags cells count movable → AreMovable flags cells movable
all_movable flags cells count movable past so_far = record {
  among = so_far.among;
  free = so_far.free;
  others = subst (λ (xs : List ℕ). All (λ own. IsFlagged flags own ⊎ Contains movable own) xs) (take_all count cells past) so_far.others;
}

-- the movable ones of illegal cells are illegal
pub movable_illegal : (team : List ℕ) (flags : List Bool) (floor : FloorState) (cells movable : List ℕ) → AreMovable flags cells movable → All (λ own. IsIllegalIn floor team own) cells
    → All (λ own. IsIllegalIn floor team own) movable
movable_illegal team flags floor cells movable movables illegal =
    All-weaker (λ own. Contains cells own) (λ own. IsIllegalIn floor team own) (λ own there. All-contains (λ own. IsIllegalIn floor team own) cells own illegal there) movable movables.among

-- ---- the unrepaired cells

pub empty_none : (xs : List ℕ) (empty : Bool) → empty ≡ (length xs == 0) → empty ≡ true → xs ≡ []
empty_none [] empty is e = refl
empty_none (x ∷ xs) empty is e = absurd (grind (arith, nat_tests))

pub some_there : (xs : List ℕ) (empty : Bool) → empty ≡ (length xs == 0) → empty ≡ false → xs ≡ [] → ⊥
some_there [] empty is e none = absurd (grind (arith, nat_tests))
some_there (x ∷ xs) empty is e none = cc

-- no cell is movable: the illegal cells are flagged
pub none_unrepaired : (reach : Option ℤ) (targets : List (Option Place)) (team : List ℕ) (flags : List Bool) (floor : FloorState) (left movable : List ℕ) → movable ≡ [] → AreMovable flags left movable → AreLegalExcept team floor left
    → All (IsIllegalIn floor team) left → AllPairs (λ own later. own < later) left → AreUnrepaired reach targets team flags floor left
none_unrepaired reach targets team flags floor left movable none movables named illegal rise = record {
  named = named;
  illegal = illegal;
  without = All-weaker (λ own. IsFlagged flags own ⊎ Contains movable own) (λ own. HasNoPlaceOrIsFlagged reach targets flags floor team own) one left movables.others;
  rise = rise;
} where
  nowhere : (own : ℕ) → Contains [] own → ⊥
  nowhere own contains = let within = contains.1 in absurd (omega (arith, within))

  one : (own : ℕ) → IsFlagged flags own ⊎ Contains movable own → HasNoPlaceOrIsFlagged reach targets flags floor team own
  one own (inl flag) = inr flag
  one own (inr listed) = absurd (nowhere own (subst (λ (xs : List ℕ). Contains xs own) none listed))

pub unrepaired_through : (reach : Option ℤ) (targets : List (Option Place)) (team : List ℕ) (flags : List Bool) (old new : FloorState) (left : List ℕ) → new.frame ≡ old.frame → SameCells team old new
    → AreUnrepaired reach targets team flags old left → AreUnrepaired reach targets team flags new left
unrepaired_through reach targets team flags old new left frame same are = record {
  named = but_through team old new left frame same are.named;
  illegal = all_left_through team old new left frame same are.illegal;
  without = All-weaker (λ own. HasNoPlaceOrIsFlagged reach targets flags old team own) (λ own. HasNoPlaceOrIsFlagged reach targets flags new team own) through left are.without;
  rise = are.rise;
} where
  through : (own : ℕ) → HasNoPlaceOrIsFlagged reach targets flags old team own → HasNoPlaceOrIsFlagged reach targets flags new team own
  through own (inl has) = inl (none_through reach (target_at targets own) team old new own frame same has)
  through own (inr flag) = inr flag

-- a commit if no cell is unrepaired, and otherwise no command
pub unrepaired_committed : (reach : Option ℤ) (targets : List (Option Place)) (team : List ℕ) (flags : List Bool) (a b : FloorState) (given left : List ℕ) → given ≡ left → (given ≢ [] → b ≡ a) → (l : Legalizer)
    → (given ≡ [] → AllCommittedIn l b team) → AreUnrepaired reach targets team flags a left → AreUnrepaired reach targets team flags b left
unrepaired_committed reach targets team flags a b given left same kept l committed are = record {
  named = but_committed team a b given left same kept l committed are.named;
  illegal = left_committed team a b given left same kept are.illegal;
  without = go left refl;
  rise = are.rise;
} where
  go : (xs : List ℕ) → left ≡ xs → All (λ own. HasNoPlaceOrIsFlagged reach targets flags b team own) left
  go [] none = All-same (λ own. HasNoPlaceOrIsFlagged reach targets flags b team own) left [] none (All-nil (λ own. HasNoPlaceOrIsFlagged reach targets flags b team own))
  go (x ∷ xs) some = subst (λ (f : FloorState). All (λ own. HasNoPlaceOrIsFlagged reach targets flags f team own) left) (sym (kept (λ none. nil_cons (sym none ∙ same ∙ some)))) are.without where
    nil_cons : [] ≡ x ∷ xs → ⊥
    nil_cons e = cc
