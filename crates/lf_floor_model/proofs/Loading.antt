-- When a floor begins, its committed design is the loaded one, in another order.
use Rattle.std.proofs.Common.{◌≡◌, ℕ, ◌+◌, ◌<◌, ◌≤◌, List, [], ◌∷◌, Bool, true, false, eqb, length, map, filter, Option, Some, None, ◌⊎◌, inl, inr, refl, ap, sym, ◌∙◌, subst, arith, zero-add}
use Rattle.std.specs.Prelude.{All, slice_get, unwrap_or, option_map}
use Rattle.std.proofs.lemmas.Bool.{eqb-true}
use Rattle.std.proofs.lemmas.List.Elements.{All-head, All-tail}
use Rattle.std.proofs.lemmas.Option.{slice_get-map, slice_get_within}
use Rattle.lf_floorplan.specs.declared.loaded.LoadedCell.{LoadedCell}
use Rattle.lf_floorplan.specs.declared.loaded.Loaded.{Loaded}
use Rattle.lf_floorplan.specs.declared.place.Place.{Place}
use Rattle.lf_rules.specs.Choice.{spot_of}
use Rattle.lf_rules.specs.FullyLegal.{DesignCell, design_cells_at, with_team}
use Rattle.lf_rules.specs.Team.{Member}
use Rattle.lf_cells.specs.Initial.{initial_cell, own_cells}
use Rattle.lf_floor_model.specs.States.{TeamState}
use Rattle.lf_floor_model.specs.Teams.{team_number, state_of}
use Rattle.lf_floor_model.specs.Designs.{initial_team, initial_floor}
use Rattle.lf_floor_model.specs.Committed.{LoadedIsCommitted, committed_member, committed_members, loaded_design, AreAtPlaces}
use Rattle.lf_floor_model.proofs.Forms.{committed_design}
use Rattle.lf_floor_model.proofs.Openings.{team_of, opening_is, count_teams}
use Rattle.lf_floor_model.proofs.Parts.{taken, passed, not_equal, part_of, part_is, same_parts}
use Rattle.lf_floor_model.proofs.LegalPlaces.{some_one}

-- the team's cells of a loaded design, at their places
abbrev own_members : ℕ → List LoadedCell → List Member
own_members team cells = map committed_member (own_cells team cells)

abbrev at_places : List LoadedCell → List DesignCell
at_places cells = design_cells_at cells (map (λ c. c.place) cells)

-- the part of a team in the loaded design has its own cells
loaded_part : (team : ℕ) (cells : List LoadedCell) → part_of team (at_places cells) ≡ with_team team (own_members team cells) []
loaded_part team [] = refl
loaded_part team (c ∷ cs) = by (eqb c.team team) refl (loaded_part team cs) where
  by : (b : Bool) → eqb c.team team ≡ b → part_of team (at_places cs) ≡ with_team team (own_members team cs) []
      → part_of team (at_places (c ∷ cs)) ≡ with_team team (own_members team (c ∷ cs)) []
  by true is rest =
      taken (λ d. eqb d.team team) _ (at_places cs) is
      ∙ ap (λ (xs : List DesignCell). record { team = c.team; mac = c.mac; place = option_map spot_of c.place } ∷ xs) rest
      ∙ ap (λ (n : ℕ). record { team = n; mac = c.mac; place = option_map spot_of c.place } ∷ with_team team (own_members team cs) []) (eqb-true c.team team is)
      ∙ ap (λ (ds : List LoadedCell). with_team team (map committed_member (map initial_cell ds)) []) (sym (taken (λ d. eqb d.team team) c cs is))
  by false is rest =
      passed (λ d. eqb d.team team) _ (at_places cs) is
      ∙ rest
      ∙ ap (λ (ds : List LoadedCell). with_team team (map committed_member (map initial_cell ds)) []) (sym (passed (λ d. eqb d.team team) c cs is))

-- no cells have a team number above the ground team's
none_past : (team count : ℕ) (cells : List LoadedCell) → All (λ c. c.team ≤ count) cells → count < team → filter (λ c. eqb c.team team) cells ≡ []
none_past team count [] known past = refl
none_past team count (c ∷ cs) known past =
    let here : c.team ≤ count = All-head (λ (d : LoadedCell). d.team ≤ count) c cs known in
    passed (λ d. eqb d.team team) c cs (not_equal c.team team (λ e. omega (arith, here, past, e)))
    ∙ none_past team count cs (All-tail (λ (d : LoadedCell). d.team ≤ count) c cs known) past

past_end : {X : Type 0} (xs : List X) (i : ℕ) → length xs ≤ i → slice_get xs i ≡ None
past_end {X} xs i past = go (slice_get xs i) refl where
  go : (o : Option X) → slice_get xs i ≡ o → o ≡ None
  go None is = refl
  go (Some x) is = absurd (omega (arith, past, slice_get_within xs i x is))

within_or_past : (a b : ℕ) → (a < b) ⊎ (b ≤ a)
within_or_past a b = grind arith

-- the first cells of the team of a number
opening_part : (design : Loaded) (team : ℕ) → unwrap_or (slice_get (map committed_members (initial_floor design).teams) team) [] ≡ own_members team design.cells
opening_part design team = elim (within_or_past team (length design.frame.teams + 1)) [
  | inl within ↦
      ap (λ (o : Option (List Member)). unwrap_or o []) (slice_get-map committed_members (initial_floor design).teams team)
      ∙ ap (λ (o : Option TeamState). unwrap_or (option_map committed_members o) []) (team_of design 0 (length design.frame.teams + 1) team within)
      ∙ ap (λ (n : ℕ). own_members n design.cells) (zero-add team)
  | inr past ↦
      let none : slice_get (initial_floor design).teams team ≡ None =
      past_end (initial_floor design).teams team (rw (count_teams design 0 (length design.frame.teams + 1)) past) in
      let known : All (λ (c : LoadedCell). c.team ≤ length design.frame.teams) design.cells = λ i d within. (design.cells_known i d within).team_known in
      ap (λ (o : Option (List Member)). unwrap_or o []) (slice_get-map committed_members (initial_floor design).teams team)
      ∙ ap (λ (o : Option TeamState). unwrap_or (option_map committed_members o) []) none
      ∙ ap (λ (cs : List LoadedCell). map committed_member (map initial_cell cs))
      (sym (none_past team (length design.frame.teams) design.cells known (omega (arith, past))))
]

same_designs : (design : Loaded) (team : ℕ) → part_of team (committed_design (initial_floor design)) ≡ part_of team (loaded_design design)
same_designs design team =
    part_is team (map committed_members (initial_floor design).teams)
    ∙ ap (λ (ms : List Member). with_team team ms []) (opening_part design team)
    ∙ sym (loaded_part team design.cells)

-- when a floor begins, its committed design is fully legal if and only if the loaded design is
pub loaded_committed : LoadedIsCommitted
loaded_committed design = (
  λ legal. same_parts design.frame (committed_design (initial_floor design)) (loaded_design design) (same_designs design) legal,
  λ legal. same_parts design.frame (loaded_design design) (committed_design (initial_floor design)) (λ team. sym (same_designs design team)) legal,
)

working_opening : (cells : List LoadedCell) → map (λ c. c.working) (map initial_cell cells) ≡ map (λ c. c.place) cells
working_opening [] = refl
working_opening (c ∷ cs) = ap (λ (ps : List (Option Place)). c.place ∷ ps) (working_opening cs)

committed_opening : (cells : List LoadedCell) → map (λ c. c.committed) (map initial_cell cells) ≡ map (λ c. c.place) cells
committed_opening [] = refl
committed_opening (c ∷ cs) = ap (λ (ps : List (Option Place)). c.place ∷ ps) (committed_opening cs)

-- each team begins with its cells at their loaded places
pub loaded_places : (design : Loaded) (team : List ℕ) (number : ℕ) (s : TeamState) → team_number design.frame team ≡ Some number
    → state_of (initial_floor design) team ≡ Some s
    → AreAtPlaces s (map (λ c. c.place) (filter (λ c. eqb c.team number) design.cells))
loaded_places design team number s named there =
    let same : initial_team design number ≡ s = some_one (sym (opening_is design team number named) ∙ there) in
    let own = filter (λ (c : LoadedCell). eqb c.team number) design.cells in
    subst (λ (t : TeamState). AreAtPlaces t (map (λ (c : LoadedCell). c.place) own)) same
    (record { working = working_opening own; committed = committed_opening own })
