-- Runs in which each team is sent the same commands end in the same floor.
use Rattle.std.proofs.Common.{◌≡◌, ◌≢◌, ℕ, zero, suc, ◌<◌, List, [], ◌∷◌, Bool, true, false, eqb, get_or, Option, Some, None, ◌⊎◌, inl, inr, refl, ap, sym, ◌∙◌, subst}
use Rattle.std.specs.Prelude.{bytes_eq, MatchBool, slice_get}
use Rattle.std.proofs.lemmas.Bool.{eq-eqb, eqb-true}
use Rattle.std.proofs.lemmas.List.Quantifiers.{position-Some}
use Rattle.std.proofs.lemmas.Slice.Eq.{bytes_eq-Decides}
use Rattle.lf_floorplan.specs.declared.frame.Frame.{Frame}
use Rattle.lf_floorplan.specs.declared.place.Place.{Place}
use Rattle.lf_rules.specs.Legalizer.{Legalizer}
use Rattle.lf_proto.specs.declared.request.Command.{Command}
use Rattle.lf_proto.specs.declared.request.Command.TheVariants.{Bye, To}
use Rattle.lf_proto.specs.declared.request.TeamCommand.{TeamCommand}
use Rattle.lf_proto.specs.declared.reply.Reply.{Reply}
use Rattle.lf_floor_model.specs.States.{TeamState, FloorState}
use Rattle.lf_floor_model.specs.Teams.{team_names, team_number, state_of}
use Rattle.lf_floor_model.specs.Outcomes.{is_short}
use Rattle.lf_floor_model.specs.Steps.{outcome_by_rules, answer_at, answer_of, IsAnswerOf, MayRunOutOfMemory, Step}
use Rattle.lf_floor_model.specs.Runs.{Run, own_commands, own_state}
use Rattle.lf_floor_model.proofs.Forms.{state_at, answer_by}
use Rattle.lf_floor_model.proofs.Answering.{components_kept, get-set_other}
use Rattle.lf_floor_model.proofs.Isolation.{isolated_from_run, step_frame}
use Rattle.lf_floor_model.proofs.Kept.{false_true}
use Rattle.lf_floor_model.proofs.Stepping.{step_each}

-- ---- what a run keeps

step_components : (l : Legalizer) (old new : FloorState) (c : Command (List ℕ) Place) (r : Reply) (short : Bool)
    → MatchBool short (MayRunOutOfMemory l old c new) (IsAnswerOf l old c r new) → new.components ≡ old.components
step_components l old new c r true step = ap (λ (f : FloorState). f.components) step.short.kept
step_components l old new c r false step = ap (λ (f : FloorState). f.components) step.floor_is ∙ components_kept l old c

is_number : (o : Option ℕ) (k : ℕ) → (o ≡ Some k) ⊎ (o ≢ Some k)
is_number None k = inr (λ e. cc)
is_number (Some j) k = go (eqb j k) refl where
  one : Some j ≡ Some k → j ≡ k
  one e = cc

  go : (b : Bool) → eqb j k ≡ b → (Some j ≡ Some k) ⊎ (Some j ≢ Some k)
  go true same = inl (ap (λ (n : ℕ). Some n) (eqb-true j k same))
  go false other = inr (λ e. false_true (sym other ∙ eq-eqb j k (one e)))

-- if a name has the number, it is this one
has_name : (f : Frame) (k : ℕ) (name : List ℕ) → name ≡ get_or (team_names f) k [] → (team_number f name ≡ Some k) ⊎ (team_number f name ≢ Some k)
    → ((team : List ℕ) × (team_number f team ≡ Some k)) ⊎ ((team : List ℕ) → team_number f team ≢ Some k)
has_name f k name is (inl named) = inl (name, named)
has_name f k name is (inr unnamed) = inr (λ team named.
    let there : get_or (team_names f) k [] ≡ team =
    (bytes_eq-Decides (get_or (team_names f) k []) team).0 (position-Some (λ n. bytes_eq n team) (team_names f) k [] named).1 in
    unnamed (subst (λ (n : List ℕ). team_number f n ≡ Some k) (sym (is ∙ there)) named))

-- the number has a team name, or no name has it
has_team : (f : Frame) (k : ℕ) → ((team : List ℕ) × (team_number f team ≡ Some k)) ⊎ ((team : List ℕ) → team_number f team ≢ Some k)
has_team f k =
    let name : List ℕ = get_or (team_names f) k [] in
    has_name f k name refl (is_number (team_number f name) k)

-- ---- a team number without a name

module _ (l : Legalizer) (floor : FloorState) (k : ℕ) (unnamed : (team : List ℕ) → team_number floor.frame team ≢ Some k) where
  apart_by : (number : ℕ) (order : TeamCommand (List ℕ) Place) (o : Option TeamState) → number ≢ k
      → slice_get (answer_by o l floor number order).floor.teams k ≡ slice_get floor.teams k
  apart_by number order None other = refl
  apart_by number order (Some s) other = get-set_other floor.teams number k (outcome_by_rules l floor.frame number order s).team other

  apart_at : (name : List ℕ) (order : TeamCommand (List ℕ) Place) (o : Option ℕ) → team_number floor.frame name ≡ o
      → slice_get (answer_at o l floor order).floor.teams k ≡ slice_get floor.teams k
  apart_at name order None is = refl
  apart_at name order (Some number) is = apart_by number order (slice_get floor.teams number) (λ same. unnamed name (is ∙ ap (λ (n : ℕ). Some n) same))

  apart : (command : Command (List ℕ) Place) → slice_get (answer_of l floor command).floor.teams k ≡ slice_get floor.teams k
  unfolding answer_of
  apart Bye = refl
  apart (To name order) = apart_at name order (team_number floor.frame name) refl

  step_apart : (new : FloorState) (c : Command (List ℕ) Place) (r : Reply) (short : Bool)
      → MatchBool short (MayRunOutOfMemory l floor c new) (IsAnswerOf l floor c r new) → slice_get new.teams k ≡ slice_get floor.teams k
  step_apart new c r true step = ap (λ (f : FloorState). slice_get f.teams k) step.short.kept
  step_apart new c r false step = ap (λ (f : FloorState). slice_get f.teams k) step.floor_is ∙ apart c

-- no step adds a team
none_stays : (l : Legalizer) (old new : FloorState) (c : Command (List ℕ) Place) (r : Reply) → Step l old c r new → (k : ℕ)
    → slice_get old.teams k ≡ None → slice_get new.teams k ≡ None
none_stays l old new c r step k none = by (slice_get new.teams k) refl where
  never : {X : Type 0} (x : X) → None ≡ Some x → ⊥
  never x e = cc

  by : (o : Option TeamState) → slice_get new.teams k ≡ o → o ≡ None
  by None there = refl
  by (Some s) there =
      let was = step_each l old new c r (is_short r) step k s there in
      absurd (never was.old (sym none ∙ was.there))

-- ---- runs

-- unchanged: the frame, the positions of entries, and each team that no command can address
pub record Rests (old new : FloorState) : Type 0 where
  pub frame : new.frame ≡ old.frame
  pub components : new.components ≡ old.components
  pub unnamed : (k : ℕ) → ((team : List ℕ) → team_number old.frame team ≢ Some k) → slice_get new.teams k ≡ slice_get old.teams k
  pub none : (k : ℕ) → slice_get old.teams k ≡ None → slice_get new.teams k ≡ None

run_rests : (l : Legalizer) (commands : List (Command (List ℕ) Place)) (replies : List Reply) (old new : FloorState) → Run l old commands replies new → Rests old new
run_rests l [] [] old new run = record {
  frame = ap (λ (f : FloorState). f.frame) run;
  components = ap (λ (f : FloorState). f.components) run;
  unnamed = λ k never. ap (λ (f : FloorState). slice_get f.teams k) run;
  none = λ k none. ap (λ (f : FloorState). slice_get f.teams k) run ∙ none;
}
run_rests l [] (r ∷ rs) old new run = absurd run
run_rests l (c ∷ cs) [] old new run = absurd run
run_rests l (c ∷ cs) (r ∷ rs) old new run =
    let mid : FloorState = run.0 in
    let later = run_rests l cs rs mid new run.2 in
    let frame : mid.frame ≡ old.frame = step_frame l old mid c r (is_short r) run.1 in
    record {
      frame = later.frame ∙ frame;
      components = later.components ∙ step_components l old mid c r (is_short r) run.1;
      unnamed = λ k never.
          later.unnamed k (λ team. subst (λ (f : Frame). team_number f team ≢ Some k) (sym frame) (never team))
          ∙ step_apart l old k never mid c r (is_short r) run.1;
      none = λ k none. later.none k (none_stays l old mid c r run.1 k none);
    }

none_some : {X : Type 0} {Y : Type 0} (x : X) → None ≡ Some x → Y
none_some x e = absurd cc

one_item : {X : Type 0} {a b : X} → Some a ≡ Some b → a ≡ b
one_item e = cc

same_items : {X : Type 0} (xs ys : List X) → ((k : ℕ) → slice_get xs k ≡ slice_get ys k) → xs ≡ ys
same_items [] [] each = refl
same_items [] (y ∷ ys) each = none_some y (each zero)
same_items (x ∷ xs) [] each = none_some x (sym (each zero))
same_items {X = X} (x ∷ xs) (y ∷ ys) each =
    ap (λ (z : X). z ∷ xs) (one_item (each zero)) ∙ ap (λ (zs : List X). y ∷ zs) (same_items xs ys (λ k. each (suc k)))

same_floor : (a b : FloorState) → b.frame ≡ a.frame → b.teams ≡ a.teams → b.components ≡ a.components → b ≡ a
same_floor a b frame teams components =
    ap (λ (f : Frame). record b { frame = f }) frame
    ∙ ap (λ (ts : List TeamState). record b { frame = a.frame; teams = ts }) teams
    ∙ ap (λ (cs : List (List ℕ)). record a { components = cs }) components

module _ (l : Legalizer) (old a b : FloorState) (commands others : List (Command (List ℕ) Place)) (replies answers : List Reply)
    (run : Run l old commands replies a) (other : Run l old others answers b)
    (same : (team : List ℕ) (number : ℕ) → team_number old.frame team ≡ Some number → own_commands team commands replies ≡ own_commands team others answers) where
  rests_a : Rests old a
  rests_a = run_rests l commands replies old a run

  rests_b : Rests old b
  rests_b = run_rests l others answers old b other

  -- the state of the team of that number, found by its name
  at_number : (new : FloorState) → new.frame ≡ old.frame → (team : List ℕ) (k : ℕ) → team_number old.frame team ≡ Some k → state_of new team ≡ slice_get new.teams k
  at_number new frame team k named = ap (state_at new.teams) (ap (λ (f : Frame). team_number f team) frame ∙ named)

  served : (k : ℕ) (team : List ℕ) → team_number old.frame team ≡ Some k → (o : Option TeamState) → slice_get old.teams k ≡ o
      → slice_get b.teams k ≡ slice_get a.teams k
  served k team named None there = rests_b.none k there ∙ sym (rests_a.none k there)
  served k team named (Some s) there =
      let has : state_of old team ≡ Some s = at_number old refl team k named ∙ there in
      let here = isolated_from_run l commands replies old a run team k s named has in
      let beside = isolated_from_run l others answers old b other team k s named has in
      sym (at_number b rests_b.frame team k named) ∙ beside.state_is
      ∙ ap (λ (orders : List (TeamCommand (List ℕ) Place)). Some (own_state l old.frame k orders s)) (sym (same team k named))
      ∙ sym here.state_is ∙ at_number a rests_a.frame team k named

  each_same : (k : ℕ) → slice_get b.teams k ≡ slice_get a.teams k
  each_same k = elim (has_team old.frame k) [
    | inl named ↦ served k named.0 named.1 (slice_get old.teams k) refl
    | inr never ↦ rests_b.unnamed k never ∙ sym (rests_a.unnamed k never)
  ]

  -- the two runs end in the same floor
  pub any_order : b ≡ a
  any_order =
      same_floor a b (rests_b.frame ∙ sym rests_a.frame) (same_items b.teams a.teams each_same) (rests_b.components ∙ sym rests_a.components)
