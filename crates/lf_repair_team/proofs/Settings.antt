-- The padding and the session slots of a team: a session is opened in a free slot, changes the padding
-- and the slots of no other session, and is closed.
use Rattle.std.proofs.Common.{◌≡◌, inl, inr, ℕ, zero, suc, ◌+◌, List, [], ◌∷◌, Bool, true, false, Option, Some, None, refl, ap, ap₂, sym, ◌∙◌, subst}
use Rattle.std.specs.Prelude.{MatchBool, is_none, position, slice_get, slice_set}
use Rattle.std.specs.Option.{option_map}
use Rattle.std.proofs.lemmas.List.Quantifiers.{position-Some}
use Rattle.lf_floorplan.specs.declared.place.Place.{Place}
use Rattle.lf_rules.specs.Legalizer.{Legalizer}
use Rattle.lf_proto.specs.declared.request.Command.TheVariants.{To}
use Rattle.lf_proto.specs.declared.request.TeamCommand.{TeamCommand}
use Rattle.lf_proto.specs.declared.request.TeamCommand.TheVariants.{Open, Within}
use Rattle.lf_proto.specs.declared.verb.Action.TheVariants.{Change as Changing, Close}
use Rattle.lf_proto.specs.declared.verb.Change.{Change}
use Rattle.lf_proto.specs.declared.reply.Reply.{Reply}
use Rattle.lf_proto.specs.declared.reply.Reply.TheVariants.{Opened, Refused}
use Rattle.lf_proto.specs.declared.reply.Refusal.TheVariants.{NoTeam}
use Rattle.lf_floor_model.specs.States.{FloorState, TeamState}
use Rattle.lf_floor_model.specs.Teams.{TeamRules, state_of, team_number, team_rules}
use Rattle.lf_floor_model.specs.Outcomes.{Outcome, is_short}
use Rattle.lf_floor_model.specs.Sessions.{closed, opened, opened_at, seen_at}
use Rattle.lf_floor_model.specs.Steps.{Answer, IsAnswerOf, MayRunOutOfMemory, Step, answer_at, answer_of, no_team}
use Rattle.lf_floor_model.specs.Verbs.{outcome_by_slot, outcome_of}
use Rattle.lf_floor_model.specs.VerbLaws.{committed_places, is_commit, is_pad}
use Rattle.lf_floor_model.proofs.Answering.{own_answer}
use Rattle.lf_floor_model.proofs.Cases.{Facts, order_facts}
use Rattle.lf_floor_model.proofs.Forms.{answer_by, state_at}
use Rattle.lf_floor_model.proofs.Kept.{committed_stay, padding_stays}
use Rattle.lf_floor_model.proofs.LegalPlaces.{none_some, some_one}
use Rattle.lf_repair_team.specs.CellEdits.{IsUnchangedOrStepped, KeepsCommittedAndSettings, KeepsCommittedPlaces, KeepsOtherSettings, SaysOpened, committed_and_settings, settings_without}
use Rattle.lf_repair_team.specs.TeamRepairs.{settings_in}
use Rattle.lf_repair_team.proofs.Steps.{requested_step}

-- ---- lists of slots

-- whatever a slot had, it is free afterwards
freed_after : (slots : List (Option ℕ)) (session : ℕ) (seen : Option ℕ) → slice_set (slice_set slots session seen) session None ≡ slice_set slots session None
freed_after [] session seen = refl
freed_after (x ∷ xs) zero seen = refl
freed_after (x ∷ xs) (suc k) seen = ap (λ (ys : List (Option ℕ)). x ∷ ys) (freed_after xs k seen)

-- a slot that is free, or does not exist, can be freed without a change
free_stays : (slots : List (Option ℕ)) (session : ℕ) → seen_at slots session ≡ None → slice_set slots session None ≡ slots
free_stays [] session free = refl
free_stays (x ∷ xs) zero free = ap (λ (y : Option ℕ). y ∷ xs) (sym free)
free_stays (x ∷ xs) (suc k) free = ap (λ (ys : List (Option ℕ)). x ∷ ys) (free_stays xs k free)

-- the least free slot is free
first_is_free : (slots : List (Option ℕ)) (session : ℕ) → position is_none slots ≡ Some session → seen_at slots session ≡ None
first_is_free slots session first = none (seen_at slots session) ((position-Some is_none slots session None first).1) where
  none : (o : Option ℕ) → is_none o ≡ true → o ≡ None
  none None e = refl
  none (Some n) e = absurd cc

-- the settings with the slot of this session freed
abbrev settings_but : ℕ → TeamState → ℕ × List (Option ℕ)
settings_but session s = (s.padding, slice_set s.slots session None)

-- ---- open

abbrev session_of_reply : Reply → Option ℕ
session_of_reply (Opened session revision) = Some session
session_of_reply _ = None

opened_settings : (t : TeamRules) (s : TeamState) (session revision : ℕ) → (outcome_of t Open s).reply ≡ Opened session revision
    → settings_but session (outcome_of t Open s).team ≡ (s.padding, s.slots)
unfolding opened
opened_settings t s session revision replied = go (position is_none s.slots) refl replied where
  go : (o : Option ℕ) → position is_none s.slots ≡ o → (opened_at o s).reply ≡ Opened session revision
      → settings_but session (opened_at o s).team ≡ (s.padding, s.slots)
  go None first is = absurd cc
  go (Some k) first is =
      let same : k ≡ session = some_one (ap session_of_reply is) in
      ap (λ (slots : List (Option ℕ)). (s.padding, slots))
      (subst (λ (n : ℕ). slice_set (slice_set s.slots k (Some s.revision)) n None ≡ s.slots) same
      (freed_after s.slots k (Some s.revision) ∙ free_stays s.slots k (first_is_free s.slots k first)))

-- a command to no team
pub no_team_answers : (l : Legalizer) (floor : FloorState) (team : List ℕ) (order : TeamCommand (List ℕ) Place) → state_of floor team ≡ None
    → answer_of l floor (To team order) ≡ no_team floor
unfolding answer_of
no_team_answers l floor team order none = go (team_number floor.frame team) none where
  by : (o : Option TeamState) (number : ℕ) → o ≡ None → answer_by o l floor number order ≡ no_team floor
  by None number e = refl
  by (Some s) number e = absurd cc

  go : (o : Option ℕ) → state_at floor.teams o ≡ None → answer_at o l floor order ≡ no_team floor
  go None e = refl
  go (Some number) e = by (slice_get floor.teams number) number e

pub number_of_state : (floor : FloorState) (team : List ℕ) (s : TeamState) → state_of floor team ≡ Some s → (number : ℕ) × (team_number floor.frame team ≡ Some number)
number_of_state floor team s there = go (team_number floor.frame team) refl there where
  go : (o : Option ℕ) → team_number floor.frame team ≡ o → state_at floor.teams o ≡ Some s → (number : ℕ) × (team_number floor.frame team ≡ Some number)
  go None is e = absurd (none_some e)
  go (Some number) is e = (number, is)

-- a session is opened in a slot that was free
pub open_takes_free : (l : Legalizer) (old new : FloorState) (team : List ℕ) (session : ℕ) (reply : Reply) → SaysOpened session reply → Step l old (To team Open) reply new
    → settings_without session new team ≡ settings_in old team
open_takes_free l old new team session reply says step = go (state_of old team) refl where
  answer : IsAnswerOf l old (To team Open) (Opened session says.0) new
  answer = subst (λ (r : Reply). Step l old (To team Open) r new) says.1 step

  freed : Option TeamState → Option (ℕ × List (Option ℕ))
  freed o = option_map (settings_but session) o

  go : (o : Option TeamState) → state_of old team ≡ o → settings_without session new team ≡ settings_in old team
  go None there = absurd (refused (answer.reply_is ∙ ap (λ (a : Answer). a.reply) (no_team_answers l old team Open there))) where
    refused : Opened session says.0 ≡ Refused NoTeam → ⊥
    refused e = cc
  go (Some s) there =
      let at = number_of_state old team s there in
      let own = own_answer l old team at.0 Open s at.1 there in
      ap (λ (f : FloorState). freed (state_of f team)) answer.floor_is ∙ ap freed own.1
      ∙ ap (λ (settings : ℕ × List (Option ℕ)). Some settings) (opened_settings (team_rules l old.frame at.0 s.padding) s session says.0 (sym (answer.reply_is ∙ own.0)))
      ∙ sym (ap (λ (o : Option TeamState). option_map (λ (s : TeamState). (s.padding, s.slots)) o) there)

-- ---- close

-- the settings
abbrev settings_of : TeamState → ℕ × List (Option ℕ)
settings_of s = (s.padding, s.slots)

closed_settings : (t : TeamRules) (s : TeamState) (session : ℕ) → settings_of (outcome_of t (Within session Close) s).team ≡ settings_but session s
unfolding closed
closed_settings t s session = go (seen_at s.slots session) refl where
  go : (o : Option ℕ) → seen_at s.slots session ≡ o → settings_of (outcome_by_slot o t session Close s).team ≡ settings_but session s
  go None free = ap (λ (slots : List (Option ℕ)). (s.padding, slots)) (sym (free_stays s.slots session free))
  go (Some seen) taken = refl

-- a close frees the session's slot
pub close_frees : (l : Legalizer) (old new : FloorState) (team : List ℕ) (session : ℕ) (reply : Reply) → Step l old (To team (Within session Close)) reply new
    → settings_in new team ≡ settings_without session old team
close_frees l old new team session reply step = short (is_short reply) step where
  settings : Option TeamState → Option (ℕ × List (Option ℕ))
  settings o = option_map settings_of o

  freed : Option TeamState → Option (ℕ × List (Option ℕ))
  freed o = option_map (settings_but session) o

  answered : IsAnswerOf l old (To team (Within session Close)) reply new → (o : Option TeamState) → state_of old team ≡ o
      → settings_in new team ≡ settings_without session old team
  answered answer None there =
      ap (λ (f : FloorState). settings (state_of f team)) (answer.floor_is ∙ ap (λ (a : Answer). a.floor) (no_team_answers l old team (Within session Close) there))
      ∙ ap settings there ∙ sym (ap freed there)
  answered answer (Some s) there =
      let at = number_of_state old team s there in
      let own = own_answer l old team at.0 (Within session Close) s at.1 there in
      ap (λ (f : FloorState). settings (state_of f team)) answer.floor_is ∙ ap settings own.1
      ∙ ap (λ (its : ℕ × List (Option ℕ)). Some its) (closed_settings (team_rules l old.frame at.0 s.padding) s session)
      ∙ sym (ap freed there)

  short : (b : Bool) → MatchBool b (MayRunOutOfMemory l old (To team (Within session Close)) new) (IsAnswerOf l old (To team (Within session Close)) reply new)
      → settings_in new team ≡ settings_without session old team
  short true runs = absurd (runs.takes refl)
  short false answer = answered answer (state_of old team) refl

-- ---- changes

abbrev session_of_order : TeamCommand (List ℕ) Place → ℕ
session_of_order Open = 0
session_of_order (Within session action) = session

-- a change of a session changes the slot of no other
changed_slots : (t : TeamRules) (s : TeamState) (session : ℕ) (change : Change (List ℕ) Place)
    → slice_set (outcome_of t (Within session (Changing change)) s).team.slots session None ≡ slice_set s.slots session None
changed_slots t s session change = by (outcome_of t (Within session (Changing change)) s) (order_facts t (Within session (Changing change)) s) where
  true_false : true ≡ false → ⊥
  true_false e = cc

  by : (o : Outcome) → Facts t s (Within session (Changing change)) o → slice_set o.team.slots session None ≡ slice_set s.slots session None
  by o (inl refusal) = ap (λ (o : Outcome). slice_set o.team.slots session None) refusal.is
  by o (inr (inl look)) = absurd (true_false look.look)
  by o (inr (inr done)) =
      let same : done.session ≡ session = sym (ap session_of_order done.order_is) in
      ap (λ (n : TeamState). slice_set n.slots session None) done.is.team
      ∙ ap (λ (k : ℕ). slice_set (slice_set s.slots k (Some (s.revision + 1))) session None) same
      ∙ freed_after s.slots session (Some (s.revision + 1))

-- nor the padding, unless it is a pad
changed_settings : (t : TeamRules) (s : TeamState) (session : ℕ) (change : Change (List ℕ) Place) → is_pad (Within session (Changing change)) ≡ false
    → settings_but session (outcome_of t (Within session (Changing change)) s).team ≡ settings_but session s
changed_settings t s session change other =
    ap₂ (λ (padding : ℕ) (slots : List (Option ℕ)). (padding, slots)) (padding_stays t (Within session (Changing change)) s other) (changed_slots t s session change)

module _ (l : Legalizer) (old new : FloorState) (team : List ℕ) (session : ℕ) (change : Change (List ℕ) Place)
    (unpadded : is_pad (Within session (Changing change)) ≡ false) (requested : IsUnchangedOrStepped l old (To team (Within session (Changing change))) new) where
  pub other_settings_stay : KeepsOtherSettings team session old new
  other_settings_stay = elim (requested_step l old new team (Within session (Changing change)) requested) [
    | inl same ↦ ap (λ (f : FloorState). settings_without session f team) same
    | inr served ↦
        ap (λ (o : Option TeamState). option_map (settings_but session) o) served.after
        ∙ ap (λ (settings : ℕ × List (Option ℕ)). Some settings) (changed_settings (team_rules l old.frame served.number served.state.padding) served.state session change unpadded)
        ∙ sym (ap (λ (o : Option TeamState). option_map (settings_but session) o) served.before)
  ]

  -- the committed places too are unchanged, unless the change is a commit
  pub committed_and_settings_stay : is_commit (Within session (Changing change)) ≡ false → KeepsCommittedAndSettings team session old new
  committed_and_settings_stay plain = elim (requested_step l old new team (Within session (Changing change)) requested) [
    | inl same ↦ ap (λ (f : FloorState). committed_and_settings session f team) same
    | inr served ↦
        let t = team_rules l old.frame served.number served.state.padding in
        ap (λ (o : Option TeamState). option_map (λ (s : TeamState). (committed_places s, settings_but session s)) o) served.after
        ∙ ap₂ (λ (places : List (Option Place)) (settings : ℕ × List (Option ℕ)). Some (places, settings)) (committed_stay t (Within session (Changing change)) served.state plain)
        (changed_settings t served.state session change unpadded)
        ∙ sym (ap (λ (o : Option TeamState). option_map (λ (s : TeamState). (committed_places s, settings_but session s)) o) served.before)
  ]

-- ---- each of the two

module _ (team : List ℕ) (session : ℕ) (old new : FloorState) (kept : KeepsCommittedAndSettings team session old new) where
  abbrev Both : Type 0
  Both = List (Option Place) × (ℕ × List (Option ℕ))

  abbrev first_part : Option Both → Option (List (Option Place))
  first_part o = option_map (λ (p : Both). p.0) o

  abbrev second_part : Option Both → Option (ℕ × List (Option ℕ))
  second_part o = option_map (λ (p : Both). p.1) o

  abbrev both : Option TeamState → Option Both
  both o = option_map (λ (s : TeamState). (committed_places s, settings_but session s)) o

  places_of_both : (o : Option TeamState) → first_part (both o) ≡ option_map committed_places o
  places_of_both None = refl
  places_of_both (Some s) = refl

  settings_of_both : (o : Option TeamState) → second_part (both o) ≡ option_map (settings_but session) o
  settings_of_both None = refl
  settings_of_both (Some s) = refl

  pub committed_kept : KeepsCommittedPlaces team old new
  committed_kept = sym (places_of_both (state_of new team)) ∙ ap first_part kept ∙ places_of_both (state_of old team)

  pub other_settings_kept : KeepsOtherSettings team session old new
  other_settings_kept = sym (settings_of_both (state_of new team)) ∙ ap second_part kept ∙ settings_of_both (state_of old team)
