-- The cells of a team after its repair: those whose place changed, and those that are unrepaired.
use Rattle.std.proofs.Common.{◌≡◌, ◌≢◌, ◌⊎◌, inl, inr, ⊎_elim, ℕ, ◌+◌, ◌<◌, List, [], length, map, get_or, Option, Some, None, refl, ap, sym, ◌∙◌, subst, arith}
use Rattle.std.specs.Prelude.{All, ◌≤◌, Contains, slice_get, option_and_then}
use Rattle.std.specs.Option.{option_map}
use Rattle.std.proofs.lemmas.Bool.{cases_eq}
use Rattle.std.proofs.lemmas.List.{length-map}
use Rattle.std.proofs.lemmas.List.Elements.{All-weaker}
use Rattle.std.proofs.lemmas.Option.{slice_get_cases, slice_get_past}
use Rattle.lf_floorplan.specs.declared.place.Place.{Place}
use Rattle.lf_rules.specs.Team.{IsLegalCell}
use Rattle.lf_cells.specs.declared.cell.Cell.{Cell}
use Rattle.lf_cells.specs.declared.cell.CellId.{CellId}
use Rattle.lf_cells.specs.Cells.{id_of, working_at}
use Rattle.lf_legalize.specs.Members.{member_of}
use Rattle.lf_floor_model.specs.States.{FloorState, TeamState}
use Rattle.lf_floor_model.specs.Teams.{state_of, team_number}
use Rattle.lf_floor_model.proofs.LegalPlaces.{some_one}
use Rattle.lf_repair_strategy.specs.Targets.{AreWorkingPlaces, target_at}
use Rattle.lf_repair_team.specs.CellEdits.{AreAtTargetsExcept, HaveLeftTargets, IsLegalOrListed, HoldsOrIsListed, KeepsPlaces, TeamHasLeftTargets, TeamIsAtTargetsExcept}
use Rattle.lf_repair_team.specs.TeamRepairs.{AllListedMove, AreLegalExcept, IsIllegalIn, IsLegalIn, OnlyListedMove, team_cell_names, place_of_cell_in}
use Rattle.lf_repair_team.proofs.Legal.{legal_is_reported, state_there, reported_legal}
use Rattle.lf_repair_team.proofs.Lists.{AreNamedTo, RisesTo, one_more_named, one_more_not, one_more_rises}
use Rattle.lf_repair_team.proofs.Steps.{place_of_state}

-- ---- cells whose place changed

-- the cell at this position has its place in `targets`
abbrev pub IsAtTarget : List Cell → List (Option Place) → ℕ → Type 0
IsAtTarget cells targets own = working_at cells own ≡ target_at targets own

pub changed_at : (cells : List Cell) (targets : List (Option Place)) (number k : ℕ) (id : CellId) (now wanted_place : Option Place) (old new : List ℕ) → id ≡ id_of number k
    → now ≡ working_at cells k → wanted_place ≡ target_at targets id.own → AreNamedTo (IsAtTarget cells targets) k old
    → HoldsOrIsListed (now ≡ wanted_place) (now ≡ wanted_place → ⊥) id.own old new → AreNamedTo (IsAtTarget cells targets) (k + 1) new
changed_at cells targets number k id now wanted_place old new is now_k wanted_place_is so_far named =
    one_more_named (IsAtTarget cells targets) (now ≡ wanted_place → ⊥) k old new so_far (at_k (subst (λ (i : CellId). HoldsOrIsListed (now ≡ wanted_place) (now ≡ wanted_place → ⊥) i.own old new) is named)) where
      wanted_place_k : wanted_place ≡ target_at targets k
      wanted_place_k = wanted_place_is ∙ ap (λ (i : CellId). target_at targets i.own) is

      at_k : HoldsOrIsListed (now ≡ wanted_place) (now ≡ wanted_place → ⊥) k old new → HoldsOrIsListed (IsAtTarget cells targets k) (now ≡ wanted_place → ⊥) k old new
      at_k (inl (same, alike)) = inl (same, sym now_k ∙ alike ∙ wanted_place_k)
      at_k (inr more) = inr more

pub moved_at : (cells : List Cell) (targets : List (Option Place)) (number k : ℕ) (id : CellId) (now wanted_place : Option Place) (old new : List ℕ) → id ≡ id_of number k
    → now ≡ working_at cells k → wanted_place ≡ target_at targets id.own → HaveLeftTargets cells targets old
    → HoldsOrIsListed (now ≡ wanted_place) (now ≡ wanted_place → ⊥) id.own old new → HaveLeftTargets cells targets new
moved_at cells targets number k id now wanted_place old new is now_k wanted_place_is so_far named =
    one_more_not (λ own. working_at cells own ≢ target_at targets own) (now ≡ wanted_place) (now ≡ wanted_place → ⊥) k old new
    (λ apart e. apart (now_k ∙ e ∙ sym (wanted_place_is ∙ ap (λ (i : CellId). target_at targets i.own) is))) so_far
    (subst (λ (i : CellId). HoldsOrIsListed (now ≡ wanted_place) (now ≡ wanted_place → ⊥) i.own old new) is named)

pub all_changed : (cells : List Cell) (targets : List (Option Place)) (count : ℕ) (changed : List ℕ) → length cells ≤ count
    → AreNamedTo (IsAtTarget cells targets) count changed → AreAtTargetsExcept cells targets changed
all_changed cells targets count changed many to own within = to own (omega (arith, within, many))

-- the same for a team
pub wanted_place_but : (team : List ℕ) (floor : FloorState) (number : ℕ) (targets : List (Option Place)) (changed : List ℕ) → team_number floor.frame team ≡ Some number
    → ((s : TeamState) → slice_get floor.teams number ≡ Some s → AreAtTargetsExcept s.cells targets changed) → TeamIsAtTargetsExcept team targets floor changed
wanted_place_but team floor number targets changed named but names are own within = go (state_of floor team) refl where
  go : (o : Option TeamState) → state_of floor team ≡ o → (place_of_cell_in floor team own ≡ target_at targets own) ⊎ Contains changed own
  go None none = absurd (none_names (sym (ap (λ (o : Option TeamState). option_map (λ (s : TeamState). map (λ (c : Cell). c.name) s.cells) o) none) ∙ are)) where
    none_names : None ≡ Some names → ⊥
    none_names e = cc
  go (Some s) there = placed (but s (state_there floor team number s named there) own many) where
    same : map (λ (c : Cell). c.name) s.cells ≡ names
    same = some_one (sym (ap (λ (o : Option TeamState). option_map (λ (s : TeamState). map (λ (c : Cell). c.name) s.cells) o) there) ∙ are)

    many : own < length s.cells
    many = omega (arith, within, sym (length-map s.cells (λ (c : Cell). c.name)) ∙ ap (λ (ns : List (List ℕ)). length ns) same)

    placed : (working_at s.cells own ≡ target_at targets own) ⊎ Contains changed own → (place_of_cell_in floor team own ≡ target_at targets own) ⊎ Contains changed own
    placed (inl wanted_place) = inl (place_of_state floor team own s there ∙ wanted_place)
    placed (inr in_list) = inr in_list

pub wanted_place_through : (team : List ℕ) (targets : List (Option Place)) (old new : FloorState) (changed : List ℕ) → team_cell_names new team ≡ team_cell_names old team → KeepsPlaces team old new
    → TeamIsAtTargetsExcept team targets old changed → TeamIsAtTargetsExcept team targets new changed
wanted_place_through team targets old new changed same stay but names are own within = go (but names (sym same ∙ are) own within) where
  go : (place_of_cell_in old team own ≡ target_at targets own) ⊎ Contains changed own → (place_of_cell_in new team own ≡ target_at targets own) ⊎ Contains changed own
  go (inl wanted_place) = inl (stay own ∙ wanted_place)
  go (inr in_list) = inr in_list

-- the listed cells are at other places
pub elsewhere : (team : List ℕ) (floor : FloorState) (number : ℕ) (targets : List (Option Place)) (changed : List ℕ) → team_number floor.frame team ≡ Some number
    → ((s : TeamState) → slice_get floor.teams number ≡ Some s → HaveLeftTargets s.cells targets changed) → TeamHasLeftTargets team targets floor changed
elsewhere team floor number targets changed named all s there =
    All-weaker (λ own. working_at s.cells own ≢ target_at targets own) (λ own. place_of_cell_in floor team own ≢ target_at targets own)
    (λ own apart e. apart (sym (place_of_state floor team own s there) ∙ e)) changed (all s (state_there floor team number s named there))

-- a team with the same cells exists on both floors
pub team_was : (team : List ℕ) (old new : FloorState) (t : TeamState) → team_cell_names new team ≡ team_cell_names old team → state_of new team ≡ Some t
    → (s : TeamState) × (state_of old team ≡ Some s)
team_was team old new t same there = go (state_of old team) refl where
  by_names : Option TeamState → Option (List (List ℕ))
  by_names o = option_map (λ (s : TeamState). map (λ (c : Cell). c.name) s.cells) o

  go : (o : Option TeamState) → state_of old team ≡ o → (s : TeamState) × (state_of old team ≡ Some s)
  go (Some s) was = (s, was)
  go None none = absurd (none_names (sym (ap by_names none) ∙ sym same ∙ ap by_names there)) where
    none_names : None ≡ Some (map (λ (c : Cell). c.name) t.cells) → ⊥
    none_names e = cc

pub elsewhere_through : (team : List ℕ) (targets : List (Option Place)) (old new : FloorState) (changed : List ℕ) → team_cell_names new team ≡ team_cell_names old team → KeepsPlaces team old new
    → TeamHasLeftTargets team targets old changed → TeamHasLeftTargets team targets new changed
elsewhere_through team targets old new changed same stay all t there =
    let was = team_was team old new t same there in
    All-weaker (λ own. place_of_cell_in old team own ≢ target_at targets own) (λ own. place_of_cell_in new team own ≢ target_at targets own)
    (λ own apart e. apart (sym (stay own) ∙ e)) changed (all was.0 was.1)

pub all_move : (team : List ℕ) (old new : FloorState) (number : ℕ) (targets : List (Option Place)) (changed : List ℕ) → team_number old.frame team ≡ Some number
    → ((s : TeamState) → slice_get old.teams number ≡ Some s → AreWorkingPlaces s.cells targets) → team_cell_names new team ≡ team_cell_names old team
    → TeamHasLeftTargets team targets new changed → AllListedMove team old new changed
all_move team old new number targets changed named wanted_places_are same all s there =
    let is = team_was team new old s (sym same) there in
    All-weaker (λ own. place_of_cell_in new team own ≢ target_at targets own) (λ own. place_of_cell_in new team own ≢ place_of_cell_in old team own)
    (λ own apart e. apart (e ∙ place_of_state old team own s there ∙ sym (wanted_places_are s (state_there old team number s named there) own))) changed (all is.0 is.1)

-- if each cell that is not listed is at its original place, no other cell has moved
pub only_move : (team : List ℕ) (old new : FloorState) (number : ℕ) (targets : List (Option Place)) (changed : List ℕ) → team_number old.frame team ≡ Some number
    → ((s : TeamState) → slice_get old.teams number ≡ Some s → AreWorkingPlaces s.cells targets) → team_cell_names new team ≡ team_cell_names old team
    → TeamIsAtTargetsExcept team targets new changed → OnlyListedMove team old new changed
only_move team old new number targets changed named wanted_places_are same but own = go (state_of old team) refl (state_of new team) refl where
  by_names : Option TeamState → Option (List (List ℕ))
  by_names o = option_map (λ (s : TeamState). map (λ (c : Cell). c.name) s.cells) o

  by_place : Option TeamState → Option Place
  by_place o = option_and_then (λ (s : TeamState). working_at s.cells own) o

  none_names : (names : List (List ℕ)) → None ≡ Some names → ⊥
  none_names names e = cc

  go : (o : Option TeamState) → state_of old team ≡ o → (n : Option TeamState) → state_of new team ≡ n
      → (place_of_cell_in new team own ≡ place_of_cell_in old team own) ⊎ Contains changed own
  go None was None is = inl (ap by_place is ∙ sym (ap by_place was))
  go None was (Some t) is = absurd (none_names (by_names_of t) (sym (ap by_names was) ∙ sym same ∙ ap by_names is)) where
    by_names_of : TeamState → List (List ℕ)
    by_names_of s = map (λ (c : Cell). c.name) s.cells
  go (Some s) was None is = absurd (none_names (by_names_of s) (sym (ap by_names is) ∙ same ∙ ap by_names was)) where
    by_names_of : TeamState → List (List ℕ)
    by_names_of s = map (λ (c : Cell). c.name) s.cells
  go (Some s) was (Some t) is = by_cases (slice_get_cases t.cells own).1 where
    wanted_place_was : target_at targets own ≡ place_of_cell_in old team own
    wanted_place_was = wanted_places_are s (state_there old team number s named was) own ∙ sym (place_of_state old team own s was)

    many : length t.cells ≡ length s.cells
    many =
        let names : map (λ (c : Cell). c.name) t.cells ≡ map (λ (c : Cell). c.name) s.cells = some_one (sym (ap by_names is) ∙ same ∙ ap by_names was) in
        sym (length-map t.cells (λ (c : Cell). c.name)) ∙ ap (λ (ns : List (List ℕ)). length ns) names ∙ length-map s.cells (λ (c : Cell). c.name)

    placed : (place_of_cell_in new team own ≡ target_at targets own) ⊎ Contains changed own → (place_of_cell_in new team own ≡ place_of_cell_in old team own) ⊎ Contains changed own
    placed (inl wanted_place) = inl (wanted_place ∙ wanted_place_was)
    placed (inr in_list) = inr in_list

    by_cases : ((c : Cell) × (own < length t.cells) × (slice_get t.cells own ≡ Some c) × (get_or t.cells own c ≡ c)) ⊎ ((length t.cells ≤ own) × (slice_get t.cells own ≡ None))
        → (place_of_cell_in new team own ≡ place_of_cell_in old team own) ⊎ Contains changed own
    by_cases (inl (c, within, at, read)) =
        placed (but (map (λ (c : Cell). c.name) t.cells) (ap by_names is) own (omega (arith, within, length-map t.cells (λ (c : Cell). c.name))))
    by_cases (inr (past, none)) = inl (
        place_of_state new team own t is
        ∙ ap (λ (o : Option Cell). option_and_then (λ (c : Cell). c.working) o) none
        ∙ sym (ap (λ (o : Option Cell). option_and_then (λ (c : Cell). c.working) o) (slice_get_past s.cells own (omega (arith, past, many))))
        ∙ sym (place_of_state old team own s was)
        )

-- ---- unrepaired cells

-- the cell at this position is legal, if it exists
abbrev pub IsLegalIfKnown : List ℕ → FloorState → ℕ → Type 0
IsLegalIfKnown team floor own = (s : TeamState) → state_of floor team ≡ Some s → own < length s.cells → IsLegalIn floor team own

pub all_named : (team : List ℕ) (floor : FloorState) (number count : ℕ) (left : List ℕ) → team_number floor.frame team ≡ Some number
    → ((s : TeamState) → slice_get floor.teams number ≡ Some s → length s.cells ≤ count)
    → AreNamedTo (IsLegalIfKnown team floor) count left → AreLegalExcept team floor left
all_named team floor number count left named many all s there own within =
    go (all own (omega (arith, within, many s (state_there floor team number s named there)))) where
      go : IsLegalIfKnown team floor own ⊎ Contains left own → IsLegalIn floor team own ⊎ Contains left own
      go (inl may) = inl (may s there within)
      go (inr in_list) = inr in_list

pub named_at : (team : List ℕ) (floor : FloorState) (number k : ℕ) (id : CellId) (old new : List ℕ) → id ≡ id_of number k
    → AreNamedTo (IsLegalIfKnown team floor) k old → IsLegalOrListed team floor id.own old new → AreNamedTo (IsLegalIfKnown team floor) (k + 1) new
named_at team floor number k id old new is so_far named =
    one_more_named (IsLegalIfKnown team floor) (IsLegalIn floor team k → ⊥) k old new so_far (subst (λ (i : CellId). IsLegalOrListed team floor i.own old new) is named)

pub left_at : (team : List ℕ) (floor : FloorState) (number k : ℕ) (id : CellId) (old new : List ℕ) → id ≡ id_of number k
    → ((s : TeamState) → state_of floor team ≡ Some s → k < length s.cells) → All (λ own. IsIllegalIn floor team own) old → IsLegalOrListed team floor id.own old new
    → All (λ own. IsIllegalIn floor team own) new
left_at team floor number k id old new is within so_far named =
    one_more_not (λ own. IsIllegalIn floor team own) (IsLegalIfKnown team floor k) (IsLegalIn floor team k → ⊥) k old new
    (λ illegal. record { within = within; illegal = illegal }) so_far (subst (λ (i : CellId). IsLegalOrListed team floor i.own old new) is named)

pub rises_at : (team : List ℕ) (floor : FloorState) (number k : ℕ) (id : CellId) (old new : List ℕ) → id ≡ id_of number k → RisesTo k old
    → IsLegalOrListed team floor id.own old new → RisesTo (k + 1) new
rises_at team floor number k id old new is so_far named =
    one_more_rises (IsLegalIfKnown team floor k) (IsLegalIn floor team k → ⊥) k old new so_far (subst (λ (i : CellId). IsLegalOrListed team floor i.own old new) is named)

-- ---- a whole team

pub one_more_is_placed : (team : List ℕ) (floor : FloorState) (number k : ℕ) (id : CellId) → id ≡ id_of number k → team_number floor.frame team ≡ Some number
    → ((s : TeamState) → slice_get floor.teams number ≡ Some s → IsLegalCell floor.frame number s.padding (map member_of s.cells) id.own)
    → ((own : ℕ) → own < k → IsLegalIfKnown team floor own) → (own : ℕ) → own < k + 1 → IsLegalIfKnown team floor own
one_more_is_placed team floor number k id is named is_in_place before own within s there short =
    ⊎_elim (λ (here : own ≡ k). reported_legal team floor number own s named there short
    (subst (λ (j : ℕ). IsLegalCell floor.frame number s.padding (map member_of s.cells) j) (ap (λ (i : CellId). i.own) is ∙ sym here)
    (is_in_place s (state_there floor team number s named there))))
    (λ (differ : own ≢ k). before own (omega (arith, within, differ)) s there short) (cases_eq own k)

pub all_are_placed : (team : List ℕ) (floor : FloorState) (number count : ℕ) → team_number floor.frame team ≡ Some number
    → ((s : TeamState) → slice_get floor.teams number ≡ Some s → length s.cells ≤ count)
    → ((own : ℕ) → own < count → IsLegalIfKnown team floor own) → AreLegalExcept team floor []
all_are_placed team floor number count named many all s there own within =
    inl (all own (omega (arith, within, many s (state_there floor team number s named there))) s there within)

-- a team with a cell that is not legal is not wholly legal
pub not_whole : (team : List ℕ) (floor : FloorState) (number own : ℕ) (Reported : Type 0) → team_number floor.frame team ≡ Some number
    → ((s : TeamState) → slice_get floor.teams number ≡ Some s → own < length s.cells → IsLegalCell floor.frame number s.padding (map member_of s.cells) own → Reported)
    → (Reported → ⊥) → (s : TeamState) → state_of floor team ≡ Some s → own < length s.cells → AreLegalExcept team floor [] → ⊥
not_whole team floor number own Reported named reported not s there within all = go (all s there own within) where
  go : IsLegalIn floor team own ⊎ Contains [] own → ⊥
  go (inl legal) = not (legal_is_reported team floor number own Reported named reported legal)
  go (inr in_none) = absurd (omega (arith, in_none.1))
