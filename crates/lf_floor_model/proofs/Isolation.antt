-- A run of the floor is, for each team, the run of its own commands.
use Rattle.std.proofs.Common.{◌≡◌, ℕ, zero, suc, ◌+◌, ◌≤◌, List, [], ◌∷◌, ◌++◌, Bool, true, false, ◌&&◌, not, cond, length, drop, Option, Some, None, refl, ap, sym, ◌∙◌, subst, arith, append_assoc, append-nil, add-one}
use Rattle.std.specs.Prelude.{slice_get, bytes_eq, MatchBool}
use Rattle.std.proofs.lemmas.Slice.Eq.{bytes_eq-Decides}
use Rattle.lf_floorplan.specs.declared.frame.Frame.{Frame}
use Rattle.lf_floorplan.specs.declared.place.Place.{Place}
use Rattle.lf_rules.specs.Legalizer.{Legalizer}
use Rattle.lf_proto.specs.declared.request.Command.{Command}
use Rattle.lf_proto.specs.declared.request.Command.TheVariants.{Bye, To}
use Rattle.lf_proto.specs.declared.request.TeamCommand.{TeamCommand}
use Rattle.lf_floor_model.specs.Outcomes.{is_short}
use Rattle.lf_proto.specs.declared.reply.Reply.{Reply}
use Rattle.lf_floor_model.specs.States.{TeamState, FloorState}
use Rattle.lf_floor_model.specs.Teams.{team_number, state_of}
use Rattle.lf_floor_model.specs.Steps.{outcome_by_rules, IsAnswerOf, MayRunOutOfMemory, Step, IsTo}
use Rattle.lf_floor_model.specs.Runs.{Run, own_replies, own_state, own_commands, own_replies_in, IsOwnRun, IsIsolated}
use Rattle.lf_floor_model.proofs.Forms.{state_at}
use Rattle.lf_floor_model.proofs.Answering.{own_answer, others_kept, frame_kept}

-- ---- the loop of a run

next_is : (commands : List (Command (List ℕ) Place)) (i : ℕ) (c : Command (List ℕ) Place) → slice_get commands i ≡ Some c
    → drop i commands ≡ c ∷ drop (suc i) commands
next_is [] i c e = cc
next_is (d ∷ ds) zero c e = cc
next_is (d ∷ ds) (suc i) c e = next_is ds i c e

pub run_more : (l : Legalizer) (old mid next : FloorState) (commands : List (Command (List ℕ) Place)) (replies : List Reply) (i : ℕ) (c : Command (List ℕ) Place) (reply : Reply)
    → ((rest : List Reply) (new : FloorState) → Run l mid (drop i commands) rest new → Run l old commands (replies ++ rest) new)
    → slice_get commands i ≡ Some c → Step l mid c reply next
    → (rest : List Reply) (new : FloorState) → Run l next (drop (i + 1) commands) rest new → Run l old commands ((replies ++ reply ∷ []) ++ rest) new
run_more l old mid next commands replies i c reply so_far e step rest new run =
    let tail : Run l next (drop (suc i) commands) rest new = rw (← add-one) run in
    rw append_assoc (so_far (reply ∷ rest) new (rw (next_is commands i c e) (next, step, tail)))

drop_whole : {X : Type 0} (xs : List X) (i : ℕ) → length xs ≤ i → drop i xs ≡ []
drop_whole [] zero past = refl
drop_whole [] (suc i) past = refl
drop_whole (x ∷ xs) zero past = absurd (omega arith)
drop_whole (x ∷ xs) (suc i) past = drop_whole xs i (omega arith)

pub run_all : (l : Legalizer) (old now : FloorState) (commands : List (Command (List ℕ) Place)) (replies : List Reply) (i : ℕ) → length commands ≤ i
    → ((rest : List Reply) (new : FloorState) → Run l now (drop i commands) rest new → Run l old commands (replies ++ rest) new)
    → Run l old commands replies now
run_all l old now commands replies i past so_far =
    let none : Run l now [] [] now = refl in
    rw append-nil at (so_far [] now (rw (drop_whole commands i past) none))

-- ---- one team

false_true : false ≡ true → ⊥
false_true e = cc

and_false : (b : Bool) → (b && false) ≡ false
and_false true = refl
and_false false = refl

-- a step of a floor of that frame and the run after it, in which the replies and the state of the
-- team of that name and number are those of its own commands
module _ (l : Legalizer) (frame : Frame) (team : List ℕ) (number : ℕ) (named : team_number frame team ≡ Some number) (cs : List (Command (List ℕ) Place)) (rs : List Reply) (old mid new : FloorState) (same_frame : old.frame ≡ frame) (later : (s : TeamState) → state_of mid team ≡ Some s → IsOwnRun l frame number team s cs rs new) where
  -- a command that does not change the team
  skip : (c : Command (List ℕ) Place) (r : Reply) → own_replies_in team (c ∷ cs) (r ∷ rs) ≡ own_replies_in team cs rs
      → own_commands team (c ∷ cs) (r ∷ rs) ≡ own_commands team cs rs → state_of mid team ≡ state_of old team → (s : TeamState) → state_of old team ≡ Some s
      → IsOwnRun l frame number team s (c ∷ cs) (r ∷ rs) new
  skip c r reported_same requested_same same s there =
      let rest = later s (same ∙ there) in
      record {
        replies_are = reported_same ∙ rest.replies_are ∙ ap (λ (os : List (TeamCommand (List ℕ) Place)). own_replies l frame number os s) (sym requested_same);
        state_is = rest.state_is ∙ ap (λ (os : List (TeamCommand (List ℕ) Place)). Some (own_state l frame number os s)) (sym requested_same);
      }

  -- a command of this team
  turn : (name : List ℕ) (order : TeamCommand (List ℕ) Place) (r : Reply) (s : TeamState) → r ≡ (outcome_by_rules l frame number order s).reply
      → state_of mid team ≡ Some (outcome_by_rules l frame number order s).team → (own_replies_in team (To name order ∷ cs) (r ∷ rs) ≡ r ∷ own_replies_in team cs rs)
      → (own_commands team (To name order ∷ cs) (r ∷ rs) ≡ order ∷ own_commands team cs rs)
      → IsOwnRun l frame number team s (To name order ∷ cs) (r ∷ rs) new
  turn name order r s reply_is there reported_is requested_is =
      let next = (outcome_by_rules l frame number order s).team in
      let rest = later next there in
      record {
        replies_are =
            reported_is ∙ ap (λ (x : Reply). x ∷ own_replies_in team cs rs) reply_is
            ∙ ap (λ (xs : List Reply). (outcome_by_rules l frame number order s).reply ∷ xs) rest.replies_are
            ∙ ap (λ (os : List (TeamCommand (List ℕ) Place)). own_replies l frame number os s) (sym requested_is);
        state_is = rest.state_is ∙ ap (λ (os : List (TeamCommand (List ℕ) Place)). Some (own_state l frame number os s)) (sym requested_is);
      }

  counted : (name : List ℕ) (order : TeamCommand (List ℕ) Place) (r : Reply) (b : Bool) → (bytes_eq name team && not (is_short r)) ≡ b
      → (own_replies_in team (To name order ∷ cs) (r ∷ rs) ≡ cond b (r ∷ own_replies_in team cs rs) (own_replies_in team cs rs)) × (own_commands team (To name order ∷ cs) (r ∷ rs) ≡ cond b (order ∷ own_commands team cs rs) (own_commands team cs rs))
  counted name order r b e =
      (ap (λ (b : Bool). cond b (r ∷ own_replies_in team cs rs) (own_replies_in team cs rs)) e, ap (λ (b : Bool). cond b (order ∷ own_commands team cs rs) (own_commands team cs rs)) e)

  when_short : (c : Command (List ℕ) Place) (r : Reply) → is_short r ≡ true → MayRunOutOfMemory l old c mid → (s : TeamState) → state_of old team ≡ Some s
      → IsOwnRun l frame number team s (c ∷ cs) (r ∷ rs) new
  when_short Bye r is step = skip Bye r refl refl (ap (λ (f : FloorState). state_of f team) step.short.kept)
  when_short (To name order) r is step =
      let none = counted name order r false (ap (λ (b : Bool). bytes_eq name team && not b) is ∙ and_false (bytes_eq name team)) in
      skip (To name order) r none.0 none.1 (ap (λ (f : FloorState). state_of f team) step.short.kept)

  kept : (c : Command (List ℕ) Place) (r : Reply) → IsAnswerOf l old c r mid → ¬ IsTo team c → state_of mid team ≡ state_of old team
  kept c r step other = ap (λ (f : FloorState). state_of f team) step.floor_is ∙ others_kept l old c team other

  own : (order : TeamCommand (List ℕ) Place) (r : Reply) (s : TeamState) → IsAnswerOf l old (To team order) r mid → state_of old team ≡ Some s
      → (r ≡ (outcome_by_rules l frame number order s).reply) × (state_of mid team ≡ Some (outcome_by_rules l frame number order s).team)
  own order r s step there =
      let mine = own_answer l old team number order s (ap (λ (f : Frame). team_number f team) same_frame ∙ named) there in (
        step.reply_is ∙ mine.0 ∙ ap (λ (f : Frame). (outcome_by_rules l f number order s).reply) same_frame,
        ap (λ (f : FloorState). state_of f team) step.floor_is ∙ mine.1 ∙ ap (λ (f : Frame). Some (outcome_by_rules l f number order s).team) same_frame,
      )

  when_to : (name : List ℕ) (order : TeamCommand (List ℕ) Place) (r : Reply) → is_short r ≡ false → IsAnswerOf l old (To name order) r mid → (mine : Bool)
      → bytes_eq name team ≡ mine → (s : TeamState) → state_of old team ≡ Some s → IsOwnRun l frame number team s (To name order ∷ cs) (r ∷ rs) new
  when_to name order r is step true same s there =
      let e : name ≡ team = (bytes_eq-Decides name team).0 same in
      let some = counted name order r true (ap (λ (b : Bool). bytes_eq name team && not b) is ∙ ap (λ (b : Bool). b && true) same) in
      let P : List ℕ → Type 0 = λ n. IsAnswerOf l old (To n order) r mid in
      let here = own order r s (subst P e step) there in
      turn name order r s here.0 here.1 some.0 some.1
  when_to name order r is step false other s there =
      let none = counted name order r false (ap (λ (b : Bool). b && not (is_short r)) other) in
      skip (To name order) r none.0 none.1 (kept (To name order) r step (λ e. false_true (sym other ∙ (bytes_eq-Decides name team).1 e))) s there

  when_plain : (c : Command (List ℕ) Place) (r : Reply) → is_short r ≡ false → IsAnswerOf l old c r mid → (s : TeamState) → state_of old team ≡ Some s
      → IsOwnRun l frame number team s (c ∷ cs) (r ∷ rs) new
  when_plain Bye r is step = skip Bye r refl refl (kept Bye r step (λ to. to))
  when_plain (To name order) r is step = when_to name order r is step (bytes_eq name team) refl

  one_more : (c : Command (List ℕ) Place) (r : Reply) (short : Bool) → is_short r ≡ short → MatchBool short (MayRunOutOfMemory l old c mid) (IsAnswerOf l old c r mid)
      → (s : TeamState) → state_of old team ≡ Some s → IsOwnRun l frame number team s (c ∷ cs) (r ∷ rs) new
  one_more c r true is step = when_short c r is step
  one_more c r false is step = when_plain c r is step

-- no step changes the frame
pub step_frame : (l : Legalizer) (old new : FloorState) (c : Command (List ℕ) Place) (r : Reply) (short : Bool)
    → MatchBool short (MayRunOutOfMemory l old c new) (IsAnswerOf l old c r new) → new.frame ≡ old.frame
step_frame l old new c r true step = ap (λ (f : FloorState). f.frame) step.short.kept
step_frame l old new c r false step = ap (λ (f : FloorState). f.frame) step.floor_is ∙ frame_kept l old c

own_run : (l : Legalizer) (frame : Frame) (team : List ℕ) (number : ℕ) → team_number frame team ≡ Some number
    → (commands : List (Command (List ℕ) Place)) (replies : List Reply) (old new : FloorState) → old.frame ≡ frame → Run l old commands replies new
    → (s : TeamState) → state_of old team ≡ Some s → IsOwnRun l frame number team s commands replies new
own_run l frame team number named [] [] old new same run s there =
    record { replies_are = refl; state_is = ap (λ (f : FloorState). state_of f team) run ∙ there }
own_run l frame team number named [] (r ∷ rs) old new same run s there = absurd run
own_run l frame team number named (c ∷ cs) [] old new same run s there = absurd run
own_run l frame team number named (c ∷ cs) (r ∷ rs) old new same run s there =
    let mid_frame : run.0.frame ≡ frame = step_frame l old run.0 c r (is_short r) run.1 ∙ same in
    one_more l frame team number named cs rs old run.0 new same (own_run l frame team number named cs rs run.0 new mid_frame run.2) c r (is_short r) refl run.1 s there

pub isolated_from_run : (l : Legalizer) (commands : List (Command (List ℕ) Place)) (replies : List Reply) (old new : FloorState)
    → Run l old commands replies new → IsIsolated l old commands replies new
isolated_from_run l commands replies old new run = λ team number s named there. own_run l old.frame team number named commands replies old new refl run s there

number_of : (teams : List TeamState) (o : Option ℕ) (s : TeamState) → state_at teams o ≡ Some s → (number : ℕ) × (o ≡ Some number)
number_of teams None s has = absurd cc
number_of teams (Some number) s has = (number, refl)

-- a name with a state has a number
pub has_number : (floor : FloorState) (team : List ℕ) (s : TeamState) → state_of floor team ≡ Some s
    → (number : ℕ) × (team_number floor.frame team ≡ Some number)
has_number floor team s has = number_of floor.teams (team_number floor.frame team) s has
