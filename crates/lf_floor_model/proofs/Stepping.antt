-- A step, team by team: what it keeps of each team and of the committed design.
use Rattle.std.proofs.Common.{◌≡◌, ℕ, zero, suc, List, [], ◌∷◌, Bool, true, false, map, Option, Some, None, ◌⊎◌, inl, inr, refl, ap, sym, ◌∙◌, subst}
use Rattle.std.specs.Prelude.{slice_get, slice_set, MatchBool, option_map}
use Rattle.std.proofs.lemmas.Option.{slice_get-map}
use Rattle.lf_floorplan.specs.declared.frame.Frame.{Frame}
use Rattle.lf_floorplan.specs.declared.place.Place.{Place}
use Rattle.lf_rules.specs.Legalizer.{Legalizer}
use Rattle.lf_rules.specs.Team.{Member, IsLegalCell}
use Rattle.lf_rules.proofs.DesignLemmas.{teams_legal}
use Rattle.lf_proto.specs.declared.request.Command.{Command}
use Rattle.lf_proto.specs.declared.request.Command.TheVariants.{Bye, To}
use Rattle.lf_proto.specs.declared.request.TeamCommand.{TeamCommand}
use Rattle.lf_proto.specs.declared.reply.Reply.{Reply}
use Rattle.lf_floor_model.specs.States.{TeamState, FloorState}
use Rattle.lf_floor_model.specs.Teams.{team_rules, team_number, IsTeamOf}
use Rattle.lf_floor_model.specs.Outcomes.{is_short}
use Rattle.lf_floor_model.specs.Steps.{outcome_by_rules, answer_at, answer_of, IsAnswerOf, MayRunOutOfMemory, Step}
use Rattle.lf_floor_model.specs.Committed.{committed_members, AreCommittedLegal, IsCommittedLegal, KeepsCommittedLegal}
use Rattle.lf_floor_model.specs.CommittedRuns.{HasFrameTeams}
use Rattle.lf_floor_model.proofs.Forms.{answer_by}
use Rattle.lf_floor_model.proofs.Answering.{step_of_answer}
use Rattle.lf_floor_model.proofs.Committing.{order_keeps}
use Rattle.lf_floor_model.proofs.Isolation.{step_frame}
use Rattle.lf_floor_model.proofs.Kept.{verb_keeps}
use Rattle.lf_floor_model.proofs.Parts.{each, all_there, legal_teams}
use Rattle.lf_floor_model.proofs.LegalPlaces.{some_one}

-- ---- the state of each team before a step

-- the state of the team of that number is the old one, or the result of a command on the old one
pub record Was (l : Legalizer) (f : Frame) (teams : List TeamState) (number : ℕ) (new : TeamState) : Type 0 where
  pub old : TeamState
  pub there : slice_get teams number ≡ Some old
  pub is : (new ≡ old) ⊎ ((order : TeamCommand (List ℕ) Place) × (new ≡ (outcome_by_rules l f number order old).team))

set_there : {X : Type 0} (xs : List X) (i k : ℕ) (x y : X) → slice_get (slice_set xs i x) k ≡ Some y → ((i ≡ k) × (y ≡ x)) ⊎ (slice_get xs k ≡ Some y)
set_there [] i k x y e = inr e
set_there (z ∷ zs) zero zero x y e = inl (refl, sym (some_one e))
set_there (z ∷ zs) zero (suc k) x y e = inr e
set_there (z ∷ zs) (suc i) zero x y e = inr e
set_there (z ∷ zs) (suc i) (suc k) x y e = elim (set_there zs i k x y e) [ inl same ↦ inl (ap suc same.0, same.1) | inr other ↦ inr other ]

stays : (l : Legalizer) (f : Frame) (teams : List TeamState) (k : ℕ) (s : TeamState) → slice_get teams k ≡ Some s → Was l f teams k s
stays l f teams k s there = record { old = s; there = there; is = inl refl }

by_each : (l : Legalizer) (floor : FloorState) (number : ℕ) (order : TeamCommand (List ℕ) Place) (o : Option TeamState) → slice_get floor.teams number ≡ o
    → (k : ℕ) (s : TeamState) → slice_get (answer_by o l floor number order).floor.teams k ≡ Some s → Was l floor.frame floor.teams k s
by_each l floor number order None e k s there = stays l floor.frame floor.teams k s there
by_each l floor number order (Some old) e k s there = elim (set_there floor.teams number k (outcome_by_rules l floor.frame number order old).team s there) [
  | inl same ↦ record {
    old = old;
    there = subst (λ (n : ℕ). slice_get floor.teams n ≡ Some old) same.0 e;
    is = inr (order, same.1 ∙ ap (λ (n : ℕ). (outcome_by_rules l floor.frame n order old).team) same.0);
  }
  | inr other ↦ stays l floor.frame floor.teams k s other
]

at_each : (l : Legalizer) (floor : FloorState) (order : TeamCommand (List ℕ) Place) (o : Option ℕ) (k : ℕ) (s : TeamState)
    → slice_get (answer_at o l floor order).floor.teams k ≡ Some s → Was l floor.frame floor.teams k s
at_each l floor order None k s there = stays l floor.frame floor.teams k s there
at_each l floor order (Some number) k s there = by_each l floor number order (slice_get floor.teams number) refl k s there

answer_each : (l : Legalizer) (floor : FloorState) (command : Command (List ℕ) Place) (k : ℕ) (s : TeamState)
    → slice_get (answer_of l floor command).floor.teams k ≡ Some s → Was l floor.frame floor.teams k s
unfolding answer_of
answer_each l floor Bye k s there = stays l floor.frame floor.teams k s there
answer_each l floor (To name order) k s there = at_each l floor order (team_number floor.frame name) k s there

pub step_each : (l : Legalizer) (old new : FloorState) (command : Command (List ℕ) Place) (reply : Reply) (short : Bool)
    → MatchBool short (MayRunOutOfMemory l old command new) (IsAnswerOf l old command reply new)
    → (k : ℕ) (s : TeamState) → slice_get new.teams k ≡ Some s → Was l old.frame old.teams k s
step_each l old new command reply true step k s there =
    stays l old.frame old.teams k s (ap (λ (f : FloorState). slice_get f.teams k) (sym step.short.kept) ∙ there)
step_each l old new command reply false step k s there =
    answer_each l old command k s (ap (λ (f : FloorState). slice_get f.teams k) (sym step.floor_is) ∙ there)

-- ---- what a step keeps

-- the committed places of the team of that number are legal, if there is such a team
abbrev pub CommittedAt : FloorState → ℕ → Type 0
CommittedAt floor number = (s : TeamState) → slice_get floor.teams number ≡ Some s → AreCommittedLegal floor.frame number s

module _ (l : Legalizer) (old new : FloorState) (command : Command (List ℕ) Place) (reply : Reply) (known : HasFrameTeams old)
    (step : Step l old command reply new) where
  frame : new.frame ≡ old.frame
  frame = step_frame l old new command reply (is_short reply) step

  was : (k : ℕ) (s : TeamState) → slice_get new.teams k ≡ Some s → Was l old.frame old.teams k s
  was = step_each l old new command reply (is_short reply) step

  one_of : (k : ℕ) (s : TeamState) → slice_get old.teams k ≡ Some s → IsTeamOf old.frame s
  one_of k s there = each (λ (t : TeamState). IsTeamOf old.frame t) old.teams k s known there

  -- the teams are still teams of the frame
  pub step_teams : HasFrameTeams new
  step_teams = all_there (λ (s : TeamState). IsTeamOf new.frame s) new.teams (λ k s there.
      subst (λ (f : Frame). IsTeamOf f s) (sym frame) (by k s (was k s there))) where
        by : (k : ℕ) (s : TeamState) → Was l old.frame old.teams k s → IsTeamOf old.frame s
        by k s w = elim w.is [
          | inl same ↦ subst (λ (t : TeamState). IsTeamOf old.frame t) (sym same) (one_of k w.old w.there)
          | inr turn ↦ subst (λ (t : TeamState). IsTeamOf old.frame t) (sym turn.1) (verb_keeps (team_rules l old.frame k w.old.padding) turn.0 w.old (one_of k w.old w.there))
        ]

  -- a team's legal committed places stay legal
  pub step_committed : (k : ℕ) → CommittedAt old k → CommittedAt new k
  step_committed k before s there = subst (λ (f : Frame). AreCommittedLegal f k s) (sym frame) (by (was k s there)) where
    by : Was l old.frame old.teams k s → AreCommittedLegal old.frame k s
    by w = elim w.is [
      | inl same ↦ subst (λ (t : TeamState). AreCommittedLegal old.frame k t) (sym same) (before w.old w.there)
      | inr turn ↦ subst (λ (t : TeamState). AreCommittedLegal old.frame k t) (sym turn.1)
          (order_keeps (team_rules l old.frame k w.old.padding) w.old (one_of k w.old w.there) turn.0 (before w.old w.there))
    ]

-- ---- the committed design, team by team

mapped_there : {X Y : Type 0} (f : X → Y) (xs : List X) (k : ℕ) (y : Y) → slice_get (map f xs) k ≡ Some y → (x : X) × (slice_get xs k ≡ Some x) × (f x ≡ y)
mapped_there f [] k y e = absurd cc
mapped_there f (x ∷ xs) zero y e = (x, refl, some_one e)
mapped_there f (x ∷ xs) (suc k) y e = mapped_there f xs k y e

pub committed_teams : (floor : FloorState) → IsCommittedLegal floor → (k : ℕ) → CommittedAt floor k
committed_teams floor legal k s there =
    legal_teams floor.frame (map committed_members floor.teams) legal k (committed_members s)
    (slice_get-map committed_members floor.teams k ∙ ap (λ (o : Option TeamState). option_map committed_members o) there)

pub teams_committed : (floor : FloorState) → ((k : ℕ) → CommittedAt floor k) → IsCommittedLegal floor
teams_committed floor legal = teams_legal floor.frame (map committed_members floor.teams) (λ k cells there own.
    let found = mapped_there committed_members floor.teams k cells there in
    subst (λ (ms : List Member). IsLegalCell floor.frame k 0 ms own) found.2 (legal k found.0 found.1 own))

-- a step keeps a fully legal committed design
pub step_keeps : (l : Legalizer) (old new : FloorState) (command : Command (List ℕ) Place) (reply : Reply) → HasFrameTeams old
    → Step l old command reply new → KeepsCommittedLegal old new
step_keeps l old new command reply known step legal =
    teams_committed new (λ k. step_committed l old new command reply known step k (committed_teams old legal k))

-- a command for which memory sufficed keeps a fully legal committed design
pub answer_keeps : (l : Legalizer) (old new : FloorState) (command : Command (List ℕ) Place) (reply : Reply) → HasFrameTeams old
    → IsAnswerOf l old command reply new → KeepsCommittedLegal old new
answer_keeps l old new command reply known answers = step_keeps l old new command reply known (step_of_answer l old new command reply answers)

-- a command for which memory did not suffice keeps it too
pub short_keeps : (l : Legalizer) (old new : FloorState) (command : Command (List ℕ) Place) → MayRunOutOfMemory l old command new → KeepsCommittedLegal old new
short_keeps l old new command short legal = subst IsCommittedLegal (sym short.short.kept) legal
