-- A run without its queries and refusals, and its journal.
use Rattle.std.proofs.Common.{◌≡◌, ℕ, List, [], ◌∷◌, Bool, true, false, not, ◌&&◌, Option, Some, None, refl, ap, sym, ◌∙◌, subst}
use Rattle.std.specs.Prelude.{All, MatchBool, slice_get, slice_set}
use Rattle.std.proofs.lemmas.List.{set-get_or}
use Rattle.std.proofs.lemmas.List.Elements.{All-cons, All-head, All-nil, All-tail}
use Rattle.std.proofs.lemmas.Option.{get_or_from_slice_get}
use Rattle.lf_units.specs.declared.geometry.Point.{Point}
use Rattle.lf_floorplan.specs.declared.place.Place.{Place}
use Rattle.lf_rules.specs.Legalizer.{Legalizer}
use Rattle.lf_proto.specs.declared.request.Command.{Command}
use Rattle.lf_proto.specs.declared.request.Command.TheVariants.{Bye, To}
use Rattle.lf_proto.specs.declared.request.TeamCommand.{TeamCommand}
use Rattle.lf_proto.specs.declared.request.TeamCommand.TheVariants.{Open, Within}
use Rattle.lf_proto.specs.declared.verb.Action.{Action}
use Rattle.lf_proto.specs.declared.verb.Action.TheVariants.{Close, Sync, Check, Def, Where, Find, Change as Changing}
use Rattle.lf_proto.specs.declared.reply.Reply.{Reply}
use Rattle.lf_cells.specs.Cells.{cell_named, working_at}
use Rattle.lf_floor_model.specs.States.{TeamState, FloorState}
use Rattle.lf_floor_model.specs.Teams.{TeamRules, team_rules, team_number}
use Rattle.lf_floor_model.specs.Outcomes.{is_short}
use Rattle.lf_floor_model.specs.Sessions.{seen_at}
use Rattle.lf_floor_model.specs.Queries.{best_at, checked, found, located, written}
use Rattle.lf_floor_model.specs.Verbs.{outcome_of, outcome_within, outcome_by_slot}
use Rattle.lf_floor_model.specs.VerbLaws.{is_ok}
use Rattle.lf_floor_model.specs.Steps.{outcome_by_rules, answer_at, answer_of, IsAnswerOf, MayRunOutOfMemory}
use Rattle.lf_floor_model.specs.Runs.{Run}
use Rattle.lf_floor_model.specs.Journals.{is_query, is_lasting, marked, MarkLasting, which_last, lasting, lasting_replies, IsBackup}
use Rattle.lf_floor_model.proofs.Forms.{found_at, found_own, located_at, located_own, answer_by}
use Rattle.lf_floor_model.proofs.Kept.{false_true, granted_plain}
use Rattle.lf_floor_model.proofs.Promises.{keeps_refused}
use Rattle.lf_floor_model.proofs.Running.{plain_answers}

-- ---- queries leave the team unchanged

module _ (t : TeamRules) (s : TeamState) where
  located_same : (name : List ℕ) → (located name s).team ≡ s
  unfolding located
  located_same name = own (cell_named name s.cells) where
    at : (o : Option Place) (n : ℕ) → (located_at o n s).team ≡ s
    at None n = refl
    at (Some place) n = refl

    own : (o : Option ℕ) → (located_own o s).team ≡ s
    own None = refl
    own (Some n) = at (working_at s.cells n) n

  found_same : (name : List ℕ) (target : Point) → (found t name target s).team ≡ s
  unfolding found
  found_same name target = own (cell_named name s.cells) where
    at : (o : Option Place) (n : ℕ) → (found_at o n s).team ≡ s
    at None n = refl
    at (Some place) n = refl

    own : (o : Option ℕ) → (found_own o t target s).team ≡ s
    own None = refl
    own (Some n) = at (best_at t s.cells n target) n

  within_same : (name : List ℕ) (session seen : ℕ) (action : Action (List ℕ) Place) → is_query (To name (Within session action)) ≡ true
      → (outcome_within seen t session action s).team ≡ s
  unfolding checked written
  within_same name session seen Close look = absurd (false_true look)
  within_same name session seen Sync look = absurd (false_true look)
  within_same name session seen Check look = refl
  within_same name session seen Def look = refl
  within_same name session seen (Where cell) look = located_same cell
  within_same name session seen (Find cell target) look = found_same cell target
  within_same name session seen (Changing change) look = absurd (false_true look)

  slot_same : (name : List ℕ) (session : ℕ) (action : Action (List ℕ) Place) (o : Option ℕ) → is_query (To name (Within session action)) ≡ true
      → (outcome_by_slot o t session action s).team ≡ s
  slot_same name session action None look = refl
  slot_same name session action (Some seen) look = within_same name session seen action look

  look_same : (name : List ℕ) (order : TeamCommand (List ℕ) Place) → is_query (To name order) ≡ true → (outcome_of t order s).team ≡ s
  look_same name Open look = absurd (false_true look)
  look_same name (Within session action) look = slot_same name session action (seen_at s.slots session) look

-- ---- queries and refusals leave the floor unchanged

by_look : (l : Legalizer) (floor : FloorState) (name : List ℕ) (number : ℕ) (order : TeamCommand (List ℕ) Place) (o : Option TeamState) → slice_get floor.teams number ≡ o
    → is_query (To name order) ≡ true → (answer_by o l floor number order).floor ≡ floor
by_look l floor name number order None there look = refl
by_look l floor name number order (Some s) there look =
    let same : (outcome_by_rules l floor.frame number order s).team ≡ s = look_same (team_rules l floor.frame number s.padding) s name order look in
    let read : slice_set floor.teams number s ≡ floor.teams =
    ap (slice_set floor.teams number) (sym (get_or_from_slice_get floor.teams number s s there)) ∙ set-get_or floor.teams number s in
    ap (λ (teams : List TeamState). record floor { teams = teams }) (ap (slice_set floor.teams number) same ∙ read)

at_look : (l : Legalizer) (floor : FloorState) (name : List ℕ) (order : TeamCommand (List ℕ) Place) (o : Option ℕ) → is_query (To name order) ≡ true
    → (answer_at o l floor order).floor ≡ floor
at_look l floor name order None look = refl
at_look l floor name order (Some number) look = by_look l floor name number order (slice_get floor.teams number) refl look

answer_look : (l : Legalizer) (floor : FloorState) (command : Command (List ℕ) Place) → is_query command ≡ true → (answer_of l floor command).floor ≡ floor
unfolding answer_of
answer_look l floor Bye look = refl
answer_look l floor (To name order) look = at_look l floor name order (team_number floor.frame name) look

looks_if : (granted look : Bool) → (granted && not look) ≡ false → granted ≡ true → look ≡ true
looks_if true true idle is = refl
looks_if true false idle is = absurd (false_true (sym idle))
looks_if false look idle is = absurd (false_true is)

-- a command that does not last leaves the floor unchanged
idle_keeps : (l : Legalizer) (old new : FloorState) (command : Command (List ℕ) Place) (reply : Reply) (short : Bool)
    → MatchBool short (MayRunOutOfMemory l old command new) (IsAnswerOf l old command reply new) → is_lasting command reply ≡ false → new ≡ old
idle_keeps l old new command reply true step idle = step.short.kept
idle_keeps l old new command reply false step idle = by (is_ok reply) refl where
  by : (granted : Bool) → is_ok reply ≡ granted → new ≡ old
  by true is = step.floor_is ∙ answer_look l old command (looks_if (is_ok reply) (is_query command) idle is)
  by false is = keeps_refused l old new command reply step is

-- ---- leaving out

unmarked : (last : Bool) → (last ≡ true → false ≡ true) → last ≡ false
unmarked true only = absurd (false_true (only refl))
unmarked false only = refl

pub leave_out : (l : Legalizer) (marks : List Bool) (commands : List (Command (List ℕ) Place)) (replies : List Reply) (old new : FloorState)
    → Run l old commands replies new → MarkLasting marks commands replies → Run l old (marked marks commands) (marked marks replies) new
leave_out l [] [] [] old new run marks = run
leave_out l [] [] (r ∷ rs) old new run marks = absurd run
leave_out l [] (c ∷ cs) [] old new run marks = absurd run
leave_out l [] (c ∷ cs) (r ∷ rs) old new run marks = absurd marks
leave_out l (m ∷ ms) [] [] old new run marks = absurd marks
leave_out l (m ∷ ms) [] (r ∷ rs) old new run marks = absurd run
leave_out l (m ∷ ms) (c ∷ cs) [] old new run marks = absurd run
leave_out l (true ∷ ms) (c ∷ cs) (r ∷ rs) old new run marks = (run.0, run.1, leave_out l ms cs rs run.0 new run.2 marks.1)
leave_out l (false ∷ ms) (c ∷ cs) (r ∷ rs) old new run marks =
    let same : run.0 ≡ old = idle_keeps l old run.0 c r (is_short r) run.1 (unmarked (is_lasting c r) marks.0) in
    subst (λ (f : FloorState). Run l f (marked ms cs) (marked ms rs) new) same (leave_out l ms cs rs run.0 new run.2 marks.1)

-- ---- the journal

lasting_marked : (l : Legalizer) (commands : List (Command (List ℕ) Place)) (replies : List Reply) (old new : FloorState)
    → Run l old commands replies new → MarkLasting (which_last commands replies) commands replies
lasting_marked l [] [] old new run = tt
lasting_marked l [] (r ∷ rs) old new run = absurd run
lasting_marked l (c ∷ cs) [] old new run = absurd run
lasting_marked l (c ∷ cs) (r ∷ rs) old new run = (λ last. last, lasting_marked l cs rs run.0 new run.2)

-- the reply is not OutOfMemory
abbrev IsPlain : Reply → Type 0
IsPlain reply = is_short reply ≡ false

last_plain : (reply : Reply) (look : Bool) → (is_ok reply && not look) ≡ true → IsPlain reply
last_plain reply look last = granted_plain reply (first (is_ok reply) last) where
  first : (granted : Bool) → (granted && not look) ≡ true → granted ≡ true
  first true is = refl
  first false is = is

plain_with : (c : Command (List ℕ) Place) (r : Reply) (cs : List (Command (List ℕ) Place)) (rs : List Reply) (last : Bool) → is_lasting c r ≡ last
    → All IsPlain (lasting_replies cs rs) → All IsPlain (marked (last ∷ which_last cs rs) (r ∷ rs))
plain_with c r cs rs true is later = All-cons IsPlain r (lasting_replies cs rs) (last_plain r (is_query c) is) later
plain_with c r cs rs false is later = later

lasting_plain : (commands : List (Command (List ℕ) Place)) (replies : List Reply) → All IsPlain (lasting_replies commands replies)
lasting_plain [] replies = All-nil IsPlain
lasting_plain (c ∷ cs) [] = All-nil IsPlain
lasting_plain (c ∷ cs) (r ∷ rs) = plain_with c r cs rs (is_lasting c r) refl (lasting_plain cs rs)

-- two runs of the same commands from the same floor have the same replies and floor, if neither ran
-- out of memory
pub one_end : (l : Legalizer) (commands : List (Command (List ℕ) Place)) (replies answers : List Reply) (old new end : FloorState)
    → Run l old commands replies new → Run l old commands answers end → All IsPlain replies → All IsPlain answers → (answers ≡ replies) × (end ≡ new)
one_end l [] [] [] old new end run again plain others = (refl, again ∙ sym run)
one_end l [] [] (a ∷ bs) old new end run again plain others = absurd again
one_end l [] (r ∷ rs) answers old new end run again plain others = absurd run
one_end l (c ∷ cs) [] answers old new end run again plain others = absurd run
one_end l (c ∷ cs) (r ∷ rs) [] old new end run again plain others = absurd again
one_end l (c ∷ cs) (r ∷ rs) (a ∷ bs) old new end run again plain others =
    let first = plain_answers l old run.0 c r (is_short r) (All-head IsPlain r rs plain) run.1 in
    let second = plain_answers l old again.0 c a (is_short a) (All-head IsPlain a bs others) again.1 in
    let same : again.0 ≡ run.0 = second.floor_is ∙ sym first.floor_is in
    let later = one_end l cs rs bs run.0 new end run.2 (subst (λ (f : FloorState). Run l f cs bs end) same again.2)
    (All-tail IsPlain r rs plain) (All-tail IsPlain a bs others) in
    (ap (λ (x : Reply). x ∷ bs) (second.reply_is ∙ sym first.reply_is) ∙ ap (λ (xs : List Reply). r ∷ xs) later.0, later.1)

pub backs_up : (l : Legalizer) (commands : List (Command (List ℕ) Place)) (replies : List Reply) (old new : FloorState)
    → Run l old commands replies new → IsBackup l old (lasting commands replies) (lasting_replies commands replies) new
backs_up l commands replies old new run =
    let runs = leave_out l (which_last commands replies) commands replies old new run (lasting_marked l commands replies old new run) in
    record {
      runs = runs;
      again = λ answers end other plain.
          one_end l (lasting commands replies) (lasting_replies commands replies) answers old new end runs other (lasting_plain commands replies) plain;
    }
