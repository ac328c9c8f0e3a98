-- What a caller of a step can rely on: a refusal changes nothing, and an accepted change is legal.
use Rattle.std.proofs.Common.{◌≡◌, ℕ, get_or, List, true, false, Option, Some, None, refl, ap, sym, ◌∙◌, subst}
use Rattle.std.specs.Prelude.{All, slice_get, slice_set}
use Rattle.std.proofs.lemmas.List.{set-get_or}
use Rattle.std.proofs.lemmas.Option.{get_or_from_slice_get, slice_get_within}
use Rattle.lf_floorplan.specs.declared.frame.Frame.{Frame}
use Rattle.lf_floorplan.specs.declared.place.Place.{Place}
use Rattle.lf_rules.specs.Choice.{LegalInRange}
use Rattle.lf_rules.specs.Legalizer.{Legalizer}
use Rattle.lf_proto.specs.declared.request.Command.{Command}
use Rattle.lf_proto.specs.declared.request.Command.TheVariants.{Bye, To}
use Rattle.lf_proto.specs.declared.request.TeamCommand.{TeamCommand}
use Rattle.lf_proto.specs.declared.request.TeamCommand.TheVariants.{Within}
use Rattle.lf_proto.specs.declared.verb.Action.TheVariants.{Change as Changing}
use Rattle.lf_proto.specs.declared.verb.Change.TheVariants.{Place as PlaceAt, Legalize, Tidy, Swap, Commit}
use Rattle.lf_proto.specs.declared.reply.Reply.{Reply}
use Rattle.lf_proto.specs.declared.reply.Reply.TheVariants.{Refused}
use Rattle.lf_proto.specs.declared.reply.Refusal.{Refusal}
use Rattle.lf_floor_model.specs.States.{TeamState, FloorState}
use Rattle.lf_floor_model.specs.Teams.{TeamRules, team_rules, team_number, state_of, IsTeamOf}
use Rattle.lf_floor_model.specs.VerbLaws.{is_ok, is_pad, AreLegal, HasLegal}
use Rattle.lf_floor_model.specs.Steps.{outcome_by_rules, answer_at, answer_of, IsAnswerOf, PlacesLegally, LegalizesLegally, TidiesLegally, SwapsLegally, CommitsLegally, KeepsIfRefused}
use Rattle.lf_floor_model.specs.Verbs.{outcome_of}
use Rattle.lf_floor_model.proofs.Forms.{state_at, answer_by}
use Rattle.lf_floor_model.proofs.Answering.{own_answer, frame_kept}
use Rattle.lf_floor_model.proofs.Kept.{refusal_leaves, false_true, padding_stays}
use Rattle.lf_floor_model.proofs.VerbLegal.{verb_legal}
use Rattle.lf_floor_model.proofs.Committing.{Commits, commit_commits}

-- ---- refusals

pub denied_is : (reply : Reply) → is_ok reply ≡ false → (refusal : Refusal) × (reply ≡ Refused refusal)
denied_is (Refused refusal) denied = (refusal, refl)
denied_is _ denied = absurd (false_true (sym denied))

by_refused : (l : Legalizer) (floor : FloorState) (number : ℕ) (order : TeamCommand (List ℕ) Place) (o : Option TeamState) → slice_get floor.teams number ≡ o
    → is_ok (answer_by o l floor number order).reply ≡ false → (answer_by o l floor number order).floor ≡ floor
by_refused l floor number order None there denied = refl
by_refused l floor number order (Some s) there denied =
    let refusal = denied_is (outcome_by_rules l floor.frame number order s).reply denied in
    let same : (outcome_by_rules l floor.frame number order s).team ≡ s = refusal_leaves (team_rules l floor.frame number s.padding) order s refusal.0 refusal.1 in
    let read : slice_set floor.teams number s ≡ floor.teams =
    ap (slice_set floor.teams number) (sym (get_or_from_slice_get floor.teams number s s there)) ∙ set-get_or floor.teams number s in
    ap (λ (teams : List TeamState). record floor { teams = teams }) (ap (slice_set floor.teams number) same ∙ read)

at_refused : (l : Legalizer) (floor : FloorState) (order : TeamCommand (List ℕ) Place) (o : Option ℕ) → is_ok (answer_at o l floor order).reply ≡ false
    → (answer_at o l floor order).floor ≡ floor
at_refused l floor order None denied = refl
at_refused l floor order (Some number) denied = by_refused l floor number order (slice_get floor.teams number) refl denied

answer_refused : (l : Legalizer) (floor : FloorState) (command : Command (List ℕ) Place) → is_ok (answer_of l floor command).reply ≡ false
    → (answer_of l floor command).floor ≡ floor
unfolding answer_of
answer_refused l floor Bye denied = refl
answer_refused l floor (To name order) denied = at_refused l floor order (team_number floor.frame name) denied

-- a refusal leaves the whole floor unchanged
pub keeps_refused : (l : Legalizer) (old new : FloorState) (command : Command (List ℕ) Place) (reply : Reply) → IsAnswerOf l old command reply new
    → KeepsIfRefused reply old new
keeps_refused l old new command reply answers denied = answers.floor_is ∙ answer_refused l old command (sym (ap is_ok answers.reply_is) ∙ denied)

-- ---- accepted changes

-- the state of the team of that name has this property
pub record Ends (l : Legalizer) (floor : FloorState) (team : List ℕ) (Good : TeamRules → TeamState → Type 0) : Type 0 where
  pub number : ℕ
  pub state : TeamState
  pub named : team_number floor.frame team ≡ Some number
  pub there : state_of floor team ≡ Some state
  pub good : Good (team_rules l floor.frame number state.padding) state

-- a property of a team after an accepted command
abbrev pub Makes : TeamCommand (List ℕ) Place → (TeamRules → TeamState → Type 0) → Type 0
Makes order Good = (t : TeamRules) (s : TeamState) → IsTeamOf t.frame s → is_ok (outcome_of t order s).reply ≡ true → Good t (outcome_of t order s).team

module _ (l : Legalizer) (old new : FloorState) (known : All (λ s. IsTeamOf old.frame s) old.teams) where
  module _ (team : List ℕ) (order : TeamCommand (List ℕ) Place) (Good : TeamRules → TeamState → Type 0) (makes : Makes order Good) (plain : is_pad order ≡ false) where
    module _ (reply : Reply) (granted : is_ok reply ≡ true) (answers : IsAnswerOf l old (To team order) reply new) where
      good_there : (number : ℕ) (s : TeamState) → team_number old.frame team ≡ Some number → slice_get old.teams number ≡ Some s → Ends l new team Good
      good_there number s named there =
          let after : TeamState = (outcome_by_rules l old.frame number order s).team in
          let own = own_answer l old team number order s named (ap (state_at old.teams) named ∙ there) in
          let here : IsTeamOf old.frame (get_or old.teams number s) = known number s (slice_get_within old.teams number s there) in
          let one_of : IsTeamOf old.frame s = subst (λ (t : TeamState). IsTeamOf old.frame t) (get_or_from_slice_get old.teams number s s there) here in
          let accepted : is_ok (outcome_by_rules l old.frame number order s).reply ≡ true = sym (ap is_ok (answers.reply_is ∙ own.0)) ∙ granted in
          let padding : after.padding ≡ s.padding = padding_stays (team_rules l old.frame number s.padding) order s plain in
          let good : Good (team_rules l old.frame number after.padding) after =
          subst (λ (n : ℕ). Good (team_rules l old.frame number n) after) (sym padding) (makes (team_rules l old.frame number s.padding) s one_of accepted) in
          let frame : new.frame ≡ old.frame = ap (λ (f : FloorState). f.frame) answers.floor_is ∙ frame_kept l old (To team order) in
          record {
            number = number;
            state = after;
            named = ap (λ (f : Frame). team_number f team) frame ∙ named;
            there = ap (λ (f : FloorState). state_of f team) answers.floor_is ∙ own.1;
            good = subst (λ (f : Frame). Good (team_rules l f number after.padding) after) (sym frame) good;
          }

      denied : {X : Type 0} → is_ok (answer_of l old (To team order)).reply ≡ false → X
      denied e = absurd (false_true (sym (ap is_ok answers.reply_is ∙ e) ∙ granted))

      by_state : (number : ℕ) (o : Option TeamState) → team_number old.frame team ≡ Some number → slice_get old.teams number ≡ o → Ends l new team Good
      unfolding answer_of
      by_state number None named there =
          denied (ap (λ (o : Option ℕ). is_ok (answer_at o l old order).reply) named
          ∙ ap (λ (o : Option TeamState). is_ok (answer_by o l old number order).reply) there)
      by_state number (Some s) named there = good_there number s named there

      by_number : (o : Option ℕ) → team_number old.frame team ≡ o → Ends l new team Good
      unfolding answer_of
      by_number None named = denied (ap (λ (o : Option ℕ). is_ok (answer_at o l old order).reply) named)
      by_number (Some number) named = by_state number (slice_get old.teams number) named refl

-- after an accepted command its team has this property
pub ends_good : (l : Legalizer) (old new : FloorState) (command : Command (List ℕ) Place) (reply : Reply) (team : List ℕ) (order : TeamCommand (List ℕ) Place)
    (Good : TeamRules → TeamState → Type 0) → All (λ s. IsTeamOf old.frame s) old.teams → IsAnswerOf l old command reply new → command ≡ To team order
    → is_ok reply ≡ true → is_pad order ≡ false → Makes order Good → Ends l new team Good
ends_good l old new command reply team order Good known answers is granted plain makes =
    let requested = subst (λ (c : Command (List ℕ) Place). IsAnswerOf l old c reply new) is answers in
    by_number l old new known team order Good makes plain reply granted requested (team_number old.frame team) refl

module _ (l : Legalizer) (in_range : LegalInRange) (old new : FloorState) (command : Command (List ℕ) Place) (reply : Reply) where
  module _ (known : All (λ s. IsTeamOf old.frame s) old.teams) (answers : IsAnswerOf l old command reply new) where
    -- after an accepted place the cell is team-legal
    pub places_legally : PlacesLegally l command reply new
    places_legally team name session place is granted =
        let order : TeamCommand (List ℕ) Place = Within session (Changing (PlaceAt name place)) in
        let end = ends_good l old new command reply team order (λ t s. HasLegal t name s) known answers is granted refl
        (λ t s one_of accepted. verb_legal t s one_of in_range session (PlaceAt name place) accepted) in
        record { number = end.number; state = end.state; named = end.named; there = end.there; legal = end.good }

    -- after an accepted legalize the cell is team-legal
    pub legalizes_legally : LegalizesLegally l command reply new
    legalizes_legally team name session target is granted =
        let order : TeamCommand (List ℕ) Place = Within session (Changing (Legalize name target)) in
        let end = ends_good l old new command reply team order (λ t s. HasLegal t name s) known answers is granted refl
        (λ t s one_of accepted. verb_legal t s one_of in_range session (Legalize name target) accepted) in
        record { number = end.number; state = end.state; named = end.named; there = end.there; legal = end.good }

    -- after an accepted tidy every cell of the team is team-legal
    pub tidies_legally : TidiesLegally l command reply new
    tidies_legally team session is granted =
        let order : TeamCommand (List ℕ) Place = Within session (Changing Tidy) in
        let end = ends_good l old new command reply team order AreLegal known answers is granted refl
        (λ t s one_of accepted. verb_legal t s one_of in_range session Tidy accepted) in
        record { number = end.number; state = end.state; named = end.named; there = end.there; legal = end.good }

    -- after an accepted swap both cells are team-legal
    pub swaps_legally : SwapsLegally l command reply new
    swaps_legally team first second session is granted =
        let order : TeamCommand (List ℕ) Place = Within session (Changing (Swap first second)) in
        let end = ends_good l old new command reply team order (λ t s. HasLegal t first s × HasLegal t second s) known answers is granted refl
        (λ t s one_of accepted. verb_legal t s one_of in_range session (Swap first second) accepted) in (
          record { number = end.number; state = end.state; named = end.named; there = end.there; legal = end.good.0 },
          record { number = end.number; state = end.state; named = end.named; there = end.there; legal = end.good.1 },
        )

    -- after an accepted commit every cell of the team is team-legal at its committed place
    pub commits_legally : CommitsLegally l command reply new
    commits_legally team session is granted =
        let order : TeamCommand (List ℕ) Place = Within session (Changing Commit) in
        let end = ends_good l old new command reply team order Commits known answers is granted refl
        (λ t s one_of accepted. commit_commits t s one_of session accepted) in
        record { number = end.number; state = end.state; named = end.named; there = end.there; legal = end.good.legal; committed = end.good.same }
