-- A connection gives a team the replies to its own orders.
use Rattle.std.proofs.Common.{◌≡◌, ℕ, List, [], ◌∷◌, ◌++◌, Bool, true, false, ◌&&◌, not, cond, Option, Some, None, refl, ap, sym, ◌∙◌, subst}
use Rattle.std.specs.Prelude.{MatchBool, bytes_eq, option_and_then, unwrap_or}
use Rattle.std.proofs.lemmas.Slice.Eq.{bytes_eq-Decides}
use Rattle.lf_floorplan.specs.declared.frame.Frame.{Frame}
use Rattle.lf_floorplan.specs.declared.place.Place.{Place}
use Rattle.lf_rules.specs.Legalizer.{Legalizer}
use Rattle.lf_proto.specs.declared.request.Command.{Command}
use Rattle.lf_proto.specs.declared.request.Command.TheVariants.{Bye, To}
use Rattle.lf_proto.specs.declared.request.TeamCommand.{TeamCommand}
use Rattle.lf_proto.specs.declared.reply.Reply.{Reply}
use Rattle.lf_proto.specs.ReplyText.{reply_text}
use Rattle.lf_floor_model.specs.States.{TeamState, FloorState}
use Rattle.lf_floor_model.specs.Teams.{team_number, state_of}
use Rattle.lf_floor_model.specs.Outcomes.{is_short, name_at}
use Rattle.lf_floor_model.specs.Steps.{outcome_by_rules, IsAnswerOf, MayRunOutOfMemory, IsTo}
use Rattle.lf_floor_model.specs.Runs.{Run, own_commands}
use Rattle.lf_floor_model.proofs.Answering.{own_answer, others_kept}
use Rattle.lf_floor_model.proofs.Isolation.{step_frame}
use Rattle.lf_server.specs.Devices.{Writer}
use Rattle.lf_floor.specs.Responses.{team_addressed}
use Rattle.lf_server.specs.Exchanges.{AnswersTo, Exchange, AnswersLines, requested_on, reply_cells, name_in, reply_text_of}
use Rattle.lf_server.specs.Endings.{WritesReplies}
use Rattle.lf_server.specs.Laws.{commands, replies, reply_before, reply_texts, with_command, reply_added}
use Rattle.lf_server.specs.declared.serve_loop.Ending.{Ending}
use Rattle.lf_server.specs.declared.serve_loop.Ending.TheVariants.{Done, Bye as Parted, ReadFault, WriteFault, TooManyLines, OutOfMemory}

-- ---- the floor alone

-- Line after line, the floor answers.
abbrev pub Acts : Legalizer → FloorState → List Exchange → FloorState → Type 0
Acts l old [] new = new ≡ old
Acts l old (e ∷ later) new = (mid : FloorState) × AnswersTo l old (requested_on e.line) e.reply e.text mid × Acts l mid later new

acts_of : (l : Legalizer) (old new : FloorState) (before after : Writer) (done : List Exchange) → AnswersLines l old before done new after → Acts l old done new
acts_of l old new before after [] (floor, same) = floor
acts_of l old new before after (e ∷ later) (mid, between, answers, sends, rest) = (mid, answers, acts_of l mid new between after later rest)

acts_last : (l : Legalizer) (old mid new : FloorState) (earlier : List Exchange) (last : Exchange) → Acts l old earlier mid
    → AnswersTo l mid (requested_on last.line) last.reply last.text new → Acts l old (earlier ++ last ∷ []) new
acts_last l old mid new [] last floor answers =
    (new, subst (λ (f : FloorState). AnswersTo l f (requested_on last.line) last.reply last.text new) floor answers, refl)
acts_last l old mid new (e ∷ earlier) last (next, first, rest) answers = (next, first, acts_last l next mid new earlier last rest answers)

pub acts_at : (ending : Ending) (l : Legalizer) (old new : FloorState) (before after : Writer) (done : List Exchange)
    → WritesReplies ending l old before done new after → Acts l old done new
acts_at Done l old new before after done comes = acts_of l old new before after done comes
acts_at Parted l old new before after done comes = acts_of l old new before after done comes
acts_at TooManyLines l old new before after done comes = acts_of l old new before after done comes
acts_at ReadFault l old new before after done comes = acts_of l old new before after done comes
acts_at OutOfMemory l old new before after done comes = acts_of l old new before after done comes
acts_at WriteFault l old new before after done comes =
    subst (λ (x : List Exchange). Acts l old x new) (sym comes.done_are)
    (acts_last l old comes.mid new comes.earlier comes.last
    (acts_of l old comes.mid before comes.between comes.earlier comes.exchanged) comes.answers)

-- ---- a run

run_line : (l : Legalizer) (old mid new : FloorState) (own_commands : Option (Command (List ℕ) Place)) (reply : Reply) (text : List ℕ)
    (cs : List (Command (List ℕ) Place)) (rs : List Reply) → AnswersTo l old own_commands reply text mid → Run l mid cs rs new
    → Run l old (with_command own_commands cs) (reply_added own_commands reply rs) new
run_line l old mid new None reply text cs rs refuses run = subst (λ (f : FloorState). Run l f cs rs new) refuses.kept run
run_line l old mid new (Some command) reply text cs rs steps run = (mid, steps.step, run)

pub run_of : (l : Legalizer) (old new : FloorState) (done : List Exchange) → Acts l old done new → Run l old (commands done) (replies done) new
run_of l old new [] acts = acts
run_of l old new (e ∷ later) (mid, answers, rest) =
    run_line l old mid new (requested_on e.line) e.reply e.text (commands later) (replies later) answers (run_of l mid new later rest)

-- ---- one team's texts

-- The name of the cell at this position in the team's state.
abbrev pub name_for : TeamState → Option ℕ → List ℕ
name_for s None = []
name_for s (Some own) = unwrap_or (name_at s.cells own) []

-- The text of a reply of the team in this state.
abbrev pub text_for : TeamState → Reply → List ℕ
text_for s reply = reply_text reply (name_for s (reply_cells reply).0) (name_for s (reply_cells reply).1)

name_for_is : (floor : FloorState) (team : List ℕ) (s : TeamState) → state_of floor team ≡ Some s → (o : Option ℕ) → name_in floor team o ≡ name_for s o
name_for_is floor team s there None = refl
name_for_is floor team s there (Some own) =
    ap (λ (t : Option TeamState). unwrap_or (option_and_then (λ s. name_at s.cells own) t) []) there

text_for_is : (floor : FloorState) (team : List ℕ) (s : TeamState) → state_of floor team ≡ Some s → (reply : Reply) → reply_text_of floor team reply ≡ text_for s reply
text_for_is floor team s there reply =
    ap (λ (n : List ℕ). reply_text reply n (name_in floor team (reply_cells reply).1)) (name_for_is floor team s there (reply_cells reply).0)
    ∙ ap (λ (n : List ℕ). reply_text reply (name_for s (reply_cells reply).0) n) (name_for_is floor team s there (reply_cells reply).1)

-- The texts of the replies to a team's own orders.
abbrev pub own_texts : Legalizer → Frame → ℕ → List (TeamCommand (List ℕ) Place) → TeamState → List (List ℕ)
own_texts l f number [] s = []
own_texts l f number (order ∷ orders) s =
    text_for (outcome_by_rules l f number order s).team (outcome_by_rules l f number order s).reply ∷ own_texts l f number orders (outcome_by_rules l f number order s).team

false_true : false ≡ true → ⊥
false_true e = cc

and_false : (b : Bool) → (b && false) ≡ false
and_false true = refl
and_false false = refl

-- The orders of a line and of the lines after it.
abbrev orders_with : List ℕ → Option (Command (List ℕ) Place) → Reply → List (Command (List ℕ) Place) → List Reply → List (TeamCommand (List ℕ) Place)
orders_with team requested_now reply cs rs = own_commands team (with_command requested_now cs) (reply_added requested_now reply rs)

-- One line and the lines after it, for which the team got the replies to its own orders.
module _ (l : Legalizer) (frame : Frame) (team : List ℕ) (number : ℕ) (named : team_number frame team ≡ Some number) (old mid : FloorState)
    (same_frame : old.frame ≡ frame) (e : Exchange) (cs : List (Command (List ℕ) Place)) (rs : List Reply) (texts : List (List ℕ))
    (later : (s : TeamState) → state_of mid team ≡ Some s → texts ≡ own_texts l frame number (own_commands team cs rs) s) where
  -- The team gets the replies to the line and the lines after it.
  abbrev Reported : Option (Command (List ℕ) Place) → TeamState → Type 0
  Reported now s = reply_before team now e texts ≡ own_texts l frame number (orders_with team now e.reply cs rs) s

  counted : (name : List ℕ) (order : TeamCommand (List ℕ) Place) (b : Bool) → (bytes_eq name team && not (is_short e.reply)) ≡ b
      → (reply_before team (Some (To name order)) e texts ≡ cond b (e.text ∷ texts) texts)
      × (orders_with team (Some (To name order)) e.reply cs rs ≡ cond b (order ∷ own_commands team cs rs) (own_commands team cs rs))
  counted name order b is =
      (ap (λ (b : Bool). cond b (e.text ∷ texts) texts) is, ap (λ (b : Bool). cond b (order ∷ own_commands team cs rs) (own_commands team cs rs)) is)

  -- The line does not concern the team.
  skip : (now : Option (Command (List ℕ) Place)) (s : TeamState) → state_of old team ≡ Some s → state_of mid team ≡ state_of old team
      → reply_before team now e texts ≡ texts → orders_with team now e.reply cs rs ≡ own_commands team cs rs → Reported now s
  skip now s there kept reported_same requested_same =
      reported_same ∙ (later s (kept ∙ there) ∙ ap (λ (os : List (TeamCommand (List ℕ) Place)). own_texts l frame number os s) (sym requested_same))

  skip_to : (name : List ℕ) (order : TeamCommand (List ℕ) Place) (s : TeamState) → state_of old team ≡ Some s → state_of mid team ≡ state_of old team
      → (bytes_eq name team && not (is_short e.reply)) ≡ false → Reported (Some (To name order)) s
  skip_to name order s there kept none =
      let is = counted name order false none in
      skip (Some (To name order)) s there kept is.0 is.1

  -- The line is the team's own.
  turn : (order : TeamCommand (List ℕ) Place) (s : TeamState) → state_of old team ≡ Some s → is_short e.reply ≡ false
      → IsAnswerOf l old (To team order) e.reply mid → e.text ≡ reply_text_of mid team e.reply → Reported (Some (To team order)) s
  turn order s there plain answers text_is =
      let mine = own_answer l old team number order s (ap (λ (f : Frame). team_number f team) same_frame ∙ named) there in
      let next = (outcome_by_rules l frame number order s).team in
      let reply_is : e.reply ≡ (outcome_by_rules l frame number order s).reply =
      answers.reply_is ∙ (mine.0 ∙ ap (λ (f : Frame). (outcome_by_rules l f number order s).reply) same_frame) in
      let here : state_of mid team ≡ Some next =
      ap (λ (f : FloorState). state_of f team) answers.floor_is ∙ (mine.1 ∙ ap (λ (f : Frame). Some (outcome_by_rules l f number order s).team) same_frame) in
      let text : e.text ≡ text_for next (outcome_by_rules l frame number order s).reply =
      text_is ∙ (text_for_is mid team next here e.reply ∙ ap (text_for next) reply_is) in
      let mark : (bytes_eq team team && not (is_short e.reply)) ≡ true =
      ap (λ (b : Bool). bytes_eq team team && not b) plain ∙ ap (λ (b : Bool). b && true) ((bytes_eq-Decides team team).1 refl) in
      let is = counted team order true mark in
      is.0 ∙ (ap (λ (t : List ℕ). t ∷ texts) text
      ∙ (ap (λ (ts : List (List ℕ)). text_for next (outcome_by_rules l frame number order s).reply ∷ ts) (later next here)
      ∙ ap (λ (os : List (TeamCommand (List ℕ) Place)). own_texts l frame number os s) (sym is.1)))

  short_line : (command : Command (List ℕ) Place) (s : TeamState) → state_of old team ≡ Some s → is_short e.reply ≡ true → MayRunOutOfMemory l old command mid
      → Reported (Some command) s
  short_line Bye s there is step = skip (Some Bye) s there (ap (λ (f : FloorState). state_of f team) step.short.kept) refl refl
  short_line (To name order) s there is step =
      skip_to name order s there (ap (λ (f : FloorState). state_of f team) step.short.kept)
      (ap (λ (b : Bool). bytes_eq name team && not b) is ∙ and_false (bytes_eq name team))

  kept : (command : Command (List ℕ) Place) → IsAnswerOf l old command e.reply mid → ¬ IsTo team command → state_of mid team ≡ state_of old team
  kept command answers other = ap (λ (f : FloorState). state_of f team) answers.floor_is ∙ others_kept l old command team other

  plain_to : (name : List ℕ) (order : TeamCommand (List ℕ) Place) (s : TeamState) → state_of old team ≡ Some s → is_short e.reply ≡ false
      → IsAnswerOf l old (To name order) e.reply mid → e.text ≡ reply_text_of mid name e.reply → (mine : Bool) → bytes_eq name team ≡ mine
      → Reported (Some (To name order)) s
  plain_to name order s there plain answers text_is false other =
      skip_to name order s there (kept (To name order) answers (λ is. false_true (sym other ∙ (bytes_eq-Decides name team).1 is)))
      (ap (λ (b : Bool). b && not (is_short e.reply)) other)
  plain_to name order s there plain answers text_is true same =
      let is : name ≡ team = (bytes_eq-Decides name team).0 same in
      subst (λ (n : List ℕ). Reported (Some (To n order)) s) (sym is)
      (turn order s there plain (subst (λ (n : List ℕ). IsAnswerOf l old (To n order) e.reply mid) is answers)
      (subst (λ (n : List ℕ). e.text ≡ reply_text_of mid n e.reply) is text_is))

  plain_line : (command : Command (List ℕ) Place) (s : TeamState) → state_of old team ≡ Some s → is_short e.reply ≡ false
      → IsAnswerOf l old command e.reply mid → e.text ≡ reply_text_of mid (team_addressed command) e.reply → Reported (Some command) s
  plain_line Bye s there plain answers text_is = skip (Some Bye) s there (kept Bye answers (λ to. to)) refl refl
  plain_line (To name order) s there plain answers text_is = plain_to name order s there plain answers text_is (bytes_eq name team) refl

  step_line : (command : Command (List ℕ) Place) (s : TeamState) → state_of old team ≡ Some s → e.text ≡ reply_text_of mid (team_addressed command) e.reply
      → (short : Bool) → is_short e.reply ≡ short → MatchBool short (MayRunOutOfMemory l old command mid) (IsAnswerOf l old command e.reply mid)
      → Reported (Some command) s
  step_line command s there text_is true is step = short_line command s there is step
  step_line command s there text_is false is step = plain_line command s there is step text_is

  reported_line : (now : Option (Command (List ℕ) Place)) (s : TeamState) → state_of old team ≡ Some s → AnswersTo l old now e.reply e.text mid → Reported now s
  reported_line None s there refuses = skip None s there (ap (λ (f : FloorState). state_of f team) refuses.kept) refl refl
  reported_line (Some command) s there steps = step_line command s there steps.text_is (is_short e.reply) refl steps.step

answered_frame : (l : Legalizer) (old mid : FloorState) (now : Option (Command (List ℕ) Place)) (reply : Reply) (text : List ℕ)
    → AnswersTo l old now reply text mid → mid.frame ≡ old.frame
answered_frame l old mid None reply text refuses = ap (λ (f : FloorState). f.frame) refuses.kept
answered_frame l old mid (Some command) reply text steps = step_frame l old mid command reply (is_short reply) steps.step

-- The team gets the replies to its own orders, byte for byte.
pub reported_own : (l : Legalizer) (frame : Frame) (team : List ℕ) (number : ℕ) → team_number frame team ≡ Some number
    → (done : List Exchange) (old new : FloorState) → old.frame ≡ frame → Acts l old done new → (s : TeamState) → state_of old team ≡ Some s
    → reply_texts team done ≡ own_texts l frame number (own_commands team (commands done) (replies done)) s
reported_own l frame team number named [] old new same acts s there = refl
reported_own l frame team number named (e ∷ later) old new same (mid, answers, rest) s there =
    reported_line l frame team number named old mid same e (commands later) (replies later) (reply_texts team later)
    (reported_own l frame team number named later mid new (answered_frame l old mid (requested_on e.line) e.reply e.text answers ∙ same) rest)
    (requested_on e.line) s there answers
