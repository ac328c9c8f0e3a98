-- After an accepted place, legalize, swap, tidy or commit the cells are team-legal.
use Rattle.std.proofs.Common.{◌≡◌, ◌≢◌, ◌⊎◌, inl, inr, ℕ, List, true, map, get_or, Option, Some, None, refl, ap, sym, ◌∙◌, subst}
use Rattle.std.specs.Prelude.{All, slice_get, option_and_then}
use Rattle.std.proofs.lemmas.Bool.Decides.{eqb_tells}
use Rattle.lf_units.specs.declared.geometry.Point.{Point}
use Rattle.lf_floorplan.specs.declared.place.Place.{Place}
use Rattle.lf_rules.specs.Choice.{LegalInRange}
use Rattle.lf_rules.specs.Team.{IsLegalCell}
use Rattle.lf_cells.specs.declared.cell.Cell.{Cell}
use Rattle.lf_floor_model.specs.States.{TeamState}
use Rattle.lf_floor_model.specs.Teams.{TeamRules, IsTeamOf, broken_at}
use Rattle.lf_legalize.specs.Members.{IsSizedCell, member_of}
use Rattle.lf_cells.specs.Cells.{cell_named, moved, working_at}
use Rattle.lf_proto.specs.declared.verb.Change.{Change}
use Rattle.lf_proto.specs.declared.verb.Change.TheVariants.{Place as PlaceAt, Legalize, Tidy, Swap, Commit}
use Rattle.lf_floor_model.specs.Queries.{best_at}
use Rattle.lf_floor_model.specs.Changes.{broken_where, exchanged}
use Rattle.lf_floor_model.specs.VerbLaws.{HasLegal, AreLegal, is_accepted, outcome_of_asking}
use Rattle.lf_floor_model.proofs.Cases.{CellsAfter, accepted_is, exchanged_part, moved_part}
use Rattle.lf_floor_model.proofs.Kept.{mac_at, same_length, sized_as}
use Rattle.lf_floor_model.proofs.LegalPlaces.{named_there, named_alike, working_is, moved_here, moved_there, sized_at, unbroken, is_placed_moved, is_placed_where}
use Rattle.lf_floor_model.proofs.Tidying.{tidied_placed, best_legal, committed_are_placed}

-- what is legal after an accepted change
abbrev pub MakesLegal : TeamRules → Change (List ℕ) Place → TeamState → Type 0
MakesLegal t (PlaceAt name place) s = HasLegal t name s
MakesLegal t (Legalize name target) s = HasLegal t name s
MakesLegal t (Swap name other) s = HasLegal t name s × HasLegal t other s
MakesLegal t Tidy s = AreLegal t s
MakesLegal t Commit s = AreLegal t s
MakesLegal t _ s = Unit {0}

-- ---- the places of the cells after an exchange

working_moved : (cells : List Cell) (own : ℕ) (place : Option Place) (c : Cell) → slice_get cells own ≡ Some c → working_at (moved cells own place) own ≡ place
working_moved cells own place c there = ap (λ (o : Option Cell). option_and_then (λ (d : Cell). d.working) o) (moved_here cells own place c there)

working_other : (cells : List Cell) (own other : ℕ) (place : Option Place) → other ≢ own → working_at (moved cells own place) other ≡ working_at cells other
working_other cells own other place differ = ap (λ (o : Option Cell). option_and_then (λ (d : Cell). d.working) o) (moved_there cells own other place differ)

module _ (cells : List Cell) (first second : ℕ) (p q : Place) (at_first : working_at cells first ≡ Some p) (at_second : working_at cells second ≡ Some q) where
  same_or_not : (first ≡ second) ⊎ (second ≢ first)
  same_or_not = elim (eqb_tells first second) [ inl same ↦ inl same.1 | inr differs ↦ inr (λ e. differs.1 (sym e)) ]

  -- the second cell is still in the list
  half_there : (c : Cell) × (slice_get (moved cells first (working_at cells second)) second ≡ Some c)
  half_there = elim same_or_not [
    | inl same ↦
        let found = working_is cells first p at_first in
        (record found.0 { working = working_at cells second }, subst (λ (k : ℕ). slice_get (moved cells first (working_at cells second)) k ≡ Some (record found.0 { working = working_at cells second })) same (moved_here cells first (working_at cells second) found.0 found.1))
    | inr differ ↦
        let found = working_is cells second q at_second in
        (found.0, moved_there cells first second (working_at cells second) differ ∙ found.1)
  ]

  pub second_is_placed : working_at (exchanged cells first second) second ≡ Some p
  second_is_placed = working_moved (moved cells first (working_at cells second)) second (working_at cells first) half_there.0 half_there.1 ∙ at_first

  pub first_is_placed : (place : Place) × (working_at (exchanged cells first second) first ≡ Some place)
  first_is_placed = elim same_or_not [
    | inl same ↦ (p, subst (λ (k : ℕ). working_at (exchanged cells first second) k ≡ Some p) (sym same) second_is_placed)
    | inr differ ↦
        let found = working_is cells first p at_first in
        (q, working_other (moved cells first (working_at cells second)) second first (working_at cells first) (λ e. differ (sym e)) ∙ working_moved cells first (working_at cells second) found.0 found.1 ∙ at_second)
  ]

-- ---- the cells after each change

module _ (t : TeamRules) (s : TeamState) (known : IsTeamOf t.frame s) (in_range : LegalInRange) where
  sized_like : (cells : List Cell) → map (λ c. c.mac) cells ≡ map (λ c. c.mac) s.cells → All (λ c. IsSizedCell t.frame c) cells
  sized_like cells macs i d within =
      sized_as t.frame (get_or s.cells i d) (get_or cells i d) (mac_at s.cells cells macs i d) (known.sized i d (rw (same_length s.cells cells macs) at within))

  placed_legal : (own : ℕ) (name : List ℕ) (place : Place) → cell_named name s.cells ≡ Some own → broken_at t s.cells own place ≡ None
      → (team : TeamState) → team.cells ≡ moved s.cells own (Some place) → HasLegal t name team
  placed_legal own name place named none team is =
      let found = named_there name s.cells own named in
      let legal = unbroken t s.cells own found.0 place found.1 (sized_at t.frame s.cells own found.0 known.sized found.1) none in
      record {
        own = own;
        named =
            ap (cell_named name) is
            ∙ named_alike name s.cells (moved s.cells own (Some place)) (moved_part (λ c. c.name) (λ c p. refl) s.cells own (Some place)) ∙ named;
        legal =
            subst (λ (cs : List Cell). IsLegalCell t.frame t.number t.padding (map member_of cs) own) (sym is) (is_placed_moved t s.cells own found.0 place found.1 legal);
      }

  legalized_legal : (own : ℕ) (name : List ℕ) (target : Point) (place : Place) → cell_named name s.cells ≡ Some own → best_at t s.cells own target ≡ Some place
      → (team : TeamState) → team.cells ≡ moved s.cells own (Some place) → HasLegal t name team
  legalized_legal own name target place named best team is =
      let found = named_there name s.cells own named in
      record {
        own = own;
        named =
            ap (cell_named name) is
            ∙ named_alike name s.cells (moved s.cells own (Some place)) (moved_part (λ c. c.name) (λ c p. refl) s.cells own (Some place)) ∙ named;
        legal =
            subst (λ (cs : List Cell). IsLegalCell t.frame t.number t.padding (map member_of cs) own) (sym is) (is_placed_moved t s.cells own found.0 place found.1 (best_legal t s.cells known.sized in_range own found.0 target place found.1 best));
      }

  exchanged_legal : (first second own : ℕ) (name : List ℕ) (place : Place) → cell_named name s.cells ≡ Some own
      → working_at (exchanged s.cells first second) own ≡ Some place
      → broken_where t (exchanged s.cells first second) own ≡ None → (team : TeamState) → team.cells ≡ exchanged s.cells first second → HasLegal t name team
  exchanged_legal first second own name place named is_in_place none team is = record {
    own = own;
    named =
        ap (cell_named name) is
        ∙ named_alike name s.cells (exchanged s.cells first second) (exchanged_part (λ c. c.name) (λ c p. refl) s.cells first second) ∙ named;
    legal = subst (λ (cs : List Cell). IsLegalCell t.frame t.number t.padding (map member_of cs) own) (sym is)
        (is_placed_where t (exchanged s.cells first second) own place (sized_like (exchanged s.cells first second) (exchanged_part (λ c. c.mac) (λ c p. refl) s.cells first second)) is_in_place none);
  }

  -- what a change makes legal
  legal_after : (change : Change (List ℕ) Place) (team : TeamState) → CellsAfter t s change team.cells → MakesLegal t change team
  legal_after (PlaceAt name place) team after = placed_legal after.own name place after.named after.unbroken team after.are
  legal_after (Legalize name target) team after = legalized_legal after.own name target after.place after.named after.best team after.are
  legal_after Tidy team after = λ own. subst (λ (cs : List Cell). IsLegalCell t.frame t.number t.padding (map member_of cs) own) (sym after.are)
      (tidied_placed t s.cells known.sized in_range after.members after.count after.tidies own)
  legal_after (Swap name other) team after =
      let here = first_is_placed s.cells after.first after.second after.place after.place' after.is_in_place after.is_in_place' in
      let there = second_is_placed s.cells after.first after.second after.place after.place' after.is_in_place after.is_in_place' in (
        exchanged_legal after.first after.second after.first name here.0 after.named here.1 after.unbroken team after.are,
        exchanged_legal after.first after.second after.second other after.place after.named' there after.unbroken' team after.are,
      )
  legal_after Commit team after = λ own. subst (λ (cs : List Cell). IsLegalCell t.frame t.number t.padding (map member_of cs) own) (sym after.are)
      (committed_are_placed t s.cells known.sized after.placed after.unbroken own)
  legal_after _ team after = tt

  -- what an accepted change makes legal
  pub verb_legal : (session : ℕ) (change : Change (List ℕ) Place) → is_accepted (outcome_of_asking t session change s) ≡ true
      → MakesLegal t change (outcome_of_asking t session change s).team
  verb_legal session change accepted =
      legal_after change (outcome_of_asking t session change s).team (accepted_is t session change s accepted).cells
