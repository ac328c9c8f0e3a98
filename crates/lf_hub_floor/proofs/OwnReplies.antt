-- The reply to a line depends on the team's own state and the frame alone.
use Rattle.std.proofs.Common.{◌≡◌, ◌≢◌, ◌⊎◌, inl, inr, ℕ, List, [], Bool, true, false, Option, Some, None, refl, ap, sym, ◌∙◌, subst}
use Rattle.std.specs.Prelude.{MatchBool, MatchOption, option_and_then, slice_get, unwrap_or}
use Rattle.std.proofs.lemmas.Bool.{false≢true}
use Rattle.std.proofs.lemmas.Option.{none-some, same_Some}
use Rattle.std.proofs.lemmas.Slice.Eq.{bytes_eq-Decides}
use Rattle.lf_floorplan.specs.declared.frame.Frame.{Frame}
use Rattle.lf_floorplan.specs.declared.place.Place.{Place}
use Rattle.lf_rules.specs.Legalizer.{Legalizer}
use Rattle.lf_proto.specs.declared.request.Command.{Command}
use Rattle.lf_proto.specs.declared.request.Command.TheVariants.{Bye, To}
use Rattle.lf_proto.specs.declared.request.TeamCommand.{TeamCommand}
use Rattle.lf_proto.specs.declared.reply.Reply.{Reply}
use Rattle.lf_proto.specs.declared.reply.Reply.TheVariants.{Done, Refused}
use Rattle.lf_proto.specs.declared.reply.Refusal.TheVariants.{BadRequest, NoTeam, OutOfMemory}
use Rattle.lf_proto.specs.ReplyText.{reply_text}
use Rattle.lf_proto.specs.Stream.{ended_line}
use Rattle.lf_floor_model.specs.States.{TeamState, FloorState}
use Rattle.lf_floor_model.specs.Teams.{state_of, team_number, team_rules}
use Rattle.lf_floor_model.specs.Outcomes.{is_short, may_be_short, name_at}
use Rattle.lf_floor_model.specs.Steps.{outcome_by_rules}
use Rattle.lf_floor_model.proofs.Answering.{bye_answers, own_answer}
use Rattle.lf_floor_model.proofs.Isolation.{step_frame}
use Rattle.lf_floor_model.proofs.Forms.{state_at}
use Rattle.lf_server.specs.Exchanges.{name_in, reply_cells, reply_text_of}
use Rattle.lf_hub_clients.specs.declared.floor.Outcome.{Outcome}
use Rattle.lf_hub_clients.specs.declared.floor.Outcome.TheVariants.{Unchanged, Named}
use Rattle.lf_hub_clients.specs.Turns.{refusal}
use Rattle.lf_hub_floor.specs.Answers.{AnswersNoRequest, AnswersOwn, AnswersRequest, StaysOut, gives_label, is_own, name_of_team, outcome_of, request_on}
use Rattle.lf_hub_floor.specs.QueryAnswers.{ShowsOrder, ShowsOwn, ShowsReply, query_reply, queries_only}
use Rattle.lf_hub_floor.specs.Laws.{AgreeOn, AreSameFor, QueriesAreOwn, RepliesAreOwn}
use Rattle.lf_hub_floor.proofs.LongReplies.{step_answers}

-- ---- texts

name_same : (a b : FloorState) (name : List ℕ) → state_of a name ≡ state_of b name → (o : Option ℕ) → name_in a name o ≡ name_in b name o
name_same a b name same None = refl
name_same a b name same (Some own) = ap (λ (t : Option TeamState). unwrap_or (option_and_then (λ s. name_at s.cells own) t) []) same

-- The text of a reply depends on the team's state alone.
pub text_same : (a b : FloorState) (name : List ℕ) (reply : Reply) → state_of a name ≡ state_of b name
    → reply_text_of a name reply ≡ reply_text_of b name reply
text_same a b name reply same =
    ap (λ (n : List ℕ). reply_text reply n (name_in a name (reply_cells reply).1)) (name_same a b name same (reply_cells reply).0)
    ∙ ap (λ (n : List ℕ). reply_text reply (name_in b name (reply_cells reply).0) n) (name_same a b name same (reply_cells reply).1)

short_is : (reply : Reply) → is_short reply ≡ true → reply ≡ Refused OutOfMemory
short_is (Refused OutOfMemory) short = refl
short_is _ short = absurd (false≢true short)

not_true : (b : Bool) → (b ≡ true → ⊥) → b ≡ false
not_true true never = absurd (never refl)
not_true false never = refl

-- A reply with another text than `OutOfMemory` is another reply.
plain_text : (floor : FloorState) (name text : List ℕ) (reply : Reply) → text ≡ reply_text_of floor name reply → text ≢ refusal → is_short reply ≡ false
plain_text floor name text reply is differs =
    not_true (is_short reply) (λ short. differs (is ∙ ap (λ (r : Reply). reply_text_of floor name r) (short_is reply short)))

-- ---- two floors

-- The team has a number.
numbered : (floor : FloorState) (name : List ℕ) (s : TeamState) → state_of floor name ≡ Some s → (number : ℕ) × (team_number floor.frame name ≡ Some number)
numbered floor name s there = by (team_number floor.frame name) refl where
  by : (o : Option ℕ) → team_number floor.frame name ≡ o → (number : ℕ) × (team_number floor.frame name ≡ Some number)
  by None none = absurd (none-some s (sym (ap (state_at floor.teams) none) ∙ there))
  by (Some number) some = (number, some)

module _ (l : Legalizer) (team : ℕ) (a b : FloorState) (agree : AgreeOn team a b) where
  -- The team has the same state in both floors, and the first one's frame is as it was.
  same_states : (a' b' : FloorState) → a'.frame ≡ a.frame → state_of a' agree.name ≡ state_of b' agree.name
      → (name : List ℕ) → name_of_team a'.frame team ≡ Some name → state_of a' name ≡ state_of b' name
  same_states a' b' frame same name named =
      let is : agree.name ≡ name =
      same_Some agree.name name (sym agree.named ∙ (sym (ap (λ (f : Frame). name_of_team f team) frame) ∙ named)) in
      subst (λ (n : List ℕ). state_of a' n ≡ state_of b' n) is same

  out_same : (reply : Reply) (meaning : Outcome) (text text' : List ℕ) (outcome outcome' : Outcome) (a' b' : FloorState)
      → StaysOut reply meaning a text outcome a' → StaysOut reply meaning b text' outcome' b' → AreSameFor team text text' outcome outcome' a' b'
  out_same reply meaning text text' outcome outcome' a' b' first second = record {
    texts = first.text_is ∙ sym second.text_is;
    outcomes = first.outcome_is ∙ sym second.outcome_is;
    states = same_states a' b' (ap (λ (f : FloorState). f.frame) first.kept) (ap (λ (f : FloorState). state_of f agree.name) first.kept
        ∙ (agree.in_first ∙ (sym agree.in_second ∙ sym (ap (λ (f : FloorState). state_of f agree.name) second.kept))));
  }

  module _ (text text' : List ℕ) (outcome outcome' : Outcome) (a' b' : FloorState) (plain : text ≢ refusal) (plain' : text' ≢ refusal) where
    bye_same : AnswersOwn l a Bye text outcome a' → AnswersOwn l b Bye text' outcome' b' → AreSameFor team text text' outcome outcome' a' b'
    bye_same first second =
        let one = step_answers l a a' Bye first.reply first.steps.step (plain_text a' [] text first.reply first.steps.text_is plain) in
        let two = step_answers l b b' Bye second.reply second.steps.step (plain_text b' [] text' second.reply second.steps.text_is plain') in
        let done = bye_answers l a in
        let done' = bye_answers l b in
        let reply_is : first.reply ≡ Done = one.reply_is ∙ sym done.reply_is in
        let reply_is' : second.reply ≡ Done = two.reply_is ∙ sym done'.reply_is in
        let kept : a' ≡ a = one.floor_is ∙ sym done.floor_is in
        let kept' : b' ≡ b = two.floor_is ∙ sym done'.floor_is in
        record {
          texts = first.steps.text_is ∙ (ap (λ (r : Reply). reply_text_of a' [] r) reply_is
              ∙ (sym (ap (λ (r : Reply). reply_text_of b' [] r) reply_is') ∙ sym second.steps.text_is));
          outcomes = first.outcome_is ∙ sym second.outcome_is;
          states = same_states a' b' (ap (λ (f : FloorState). f.frame) kept) (ap (λ (f : FloorState). state_of f agree.name) kept
              ∙ (agree.in_first ∙ (sym agree.in_second ∙ sym (ap (λ (f : FloorState). state_of f agree.name) kept'))));
        }

    to_same : (order : TeamCommand (List ℕ) Place) → AnswersOwn l a (To agree.name order) text outcome a'
        → AnswersOwn l b (To agree.name order) text' outcome' b' → AreSameFor team text text' outcome outcome' a' b'
    to_same order first second =
        let name = agree.name in
        let command : Command (List ℕ) Place = To name order in
        let one = step_answers l a a' command first.reply first.steps.step (plain_text a' name text first.reply first.steps.text_is plain) in
        let two = step_answers l b b' command second.reply second.steps.step (plain_text b' name text' second.reply second.steps.text_is plain') in
        let number = (numbered a name agree.state agree.in_first).0 in
        let named = (numbered a name agree.state agree.in_first).1 in
        let named' : team_number b.frame name ≡ Some number = sym (ap (λ (f : Frame). team_number f name) agree.frame) ∙ named in
        let mine = own_answer l a name number order agree.state named agree.in_first in
        let mine' = own_answer l b name number order agree.state named' agree.in_second in
        let replies : first.reply ≡ second.reply =
        one.reply_is ∙ (mine.0 ∙ (ap (λ (f : Frame). (outcome_by_rules l f number order agree.state).reply) agree.frame ∙ (sym mine'.0 ∙ sym two.reply_is))) in
        let states : state_of a' name ≡ state_of b' name =
        ap (λ (f : FloorState). state_of f name) one.floor_is ∙ (mine.1
        ∙ (ap (λ (f : Frame). Some (outcome_by_rules l f number order agree.state).team) agree.frame
        ∙ (sym mine'.1 ∙ sym (ap (λ (f : FloorState). state_of f name) two.floor_is)))) in
        record {
          texts = first.steps.text_is ∙ (text_same a' b' name first.reply states
              ∙ (ap (λ (r : Reply). reply_text_of b' name r) replies ∙ sym second.steps.text_is));
          outcomes = first.outcome_is ∙ (ap (outcome_of command) replies ∙ sym second.outcome_is);
          states = same_states a' b' (step_frame l a a' command first.reply (is_short first.reply) first.steps.step) states;
        }

    named_same : (name : Option (List ℕ)) (command : Command (List ℕ) Place) → name ≡ Some agree.name → is_own name command ≡ true
        → AnswersOwn l a command text outcome a' → AnswersOwn l b command text' outcome' b' → AreSameFor team text text' outcome outcome' a' b'
    named_same name Bye is own first second = bye_same first second
    named_same None (To team order) is own first second = absurd (none-some agree.name is)
    named_same (Some name) (To to order) is own first second =
        let same : to ≡ agree.name = (bytes_eq-Decides to name).0 own ∙ same_Some name agree.name is in
        to_same order (subst (λ (n : List ℕ). AnswersOwn l a (To n order) text outcome a') same first)
        (subst (λ (n : List ℕ). AnswersOwn l b (To n order) text' outcome' b') same second)

    own_same : (command : Command (List ℕ) Place) (own : Bool) → is_own (name_of_team a.frame team) command ≡ own
        → MatchBool own (AnswersOwn l a command text outcome a') (StaysOut (Refused NoTeam) Unchanged a text outcome a')
        → MatchBool own (AnswersOwn l b command text' outcome' b') (StaysOut (Refused NoTeam) Unchanged b text' outcome' b')
        → AreSameFor team text text' outcome outcome' a' b'
    own_same command true own first second = named_same (name_of_team a.frame team) command agree.named own first second
    own_same command false own first second = out_same (Refused NoTeam) Unchanged text text' outcome outcome' a' b' first second

    label_same : (label : Bool)
        → MatchBool label (StaysOut Done Named a text outcome a') (StaysOut (Refused BadRequest) Unchanged a text outcome a')
        → MatchBool label (StaysOut Done Named b text' outcome' b') (StaysOut (Refused BadRequest) Unchanged b text' outcome' b')
        → AreSameFor team text text' outcome outcome' a' b'
    label_same true first second = out_same Done Named text text' outcome outcome' a' b' first second
    label_same false first second = out_same (Refused BadRequest) Unchanged text text' outcome outcome' a' b' first second

    request_same : (line : List ℕ) (o : Option (Command (List ℕ) Place))
        → MatchOption o (AnswersNoRequest (ended_line line) a text outcome a') (λ command. AnswersRequest l team command a text outcome a')
        → MatchOption o (AnswersNoRequest (ended_line line) b text' outcome' b') (λ command. AnswersRequest l team command b text' outcome' b')
        → AreSameFor team text text' outcome outcome' a' b'
    request_same line None first second = label_same (gives_label (ended_line line)) first second
    request_same line (Some command) first second =
        own_same command (is_own (name_of_team a.frame team) command) refl first
        (subst (λ (f : Frame). MatchBool (is_own (name_of_team f team) command) (AnswersOwn l b command text' outcome' b')
        (StaysOut (Refused NoTeam) Unchanged b text' outcome' b')) (sym agree.frame) second)

pub own_replies_same : RepliesAreOwn
own_replies_same l team line text text' outcome outcome' a a' b b' first second agree plain plain' =
    request_same l team a b agree text text' outcome outcome' a' b' plain plain' line (request_on line) first second

-- ---- query sockets

module _ (l : Legalizer) (team : ℕ) (a b : FloorState) (agree : AgreeOn team a b) (text text' : List ℕ) (plain : text ≢ refusal) (plain' : text' ≢ refusal) where
  shown : (floor : FloorState) (name t : List ℕ) (expected : Reply) → t ≢ refusal → ShowsReply floor name expected t → t ≡ reply_text_of floor name expected
  shown floor name t expected differs shows = by shows.is where
    by : ((shows.reply ≡ expected) ⊎ ((shows.reply ≡ Refused OutOfMemory) × (may_be_short expected ≡ true))) → t ≡ reply_text_of floor name expected
    by (inl is) = shows.text_is ∙ ap (λ (r : Reply). reply_text_of floor name r) is
    by (inr out) = absurd (differs (shows.text_is ∙ ap (λ (r : Reply). reply_text_of floor name r) out.0))

  expected_same : (o : Option Reply) → MatchOption o (text ≡ queries_only) (λ expected. ShowsReply a agree.name expected text)
      → MatchOption o (text' ≡ queries_only) (λ expected. ShowsReply b agree.name expected text') → text ≡ text'
  expected_same None first second = first ∙ sym second
  expected_same (Some expected) first second =
      shown a agree.name text expected plain first
      ∙ (text_same a b agree.name expected (agree.in_first ∙ sym agree.in_second) ∙ sym (shown b agree.name text' expected plain' second))

  order_same : (order : TeamCommand (List ℕ) Place) → ShowsOrder l a agree.name order text → ShowsOrder l b agree.name order text' → text ≡ text'
  order_same order first second =
      let number = (numbered a agree.name agree.state agree.in_first).0 in
      let named = (numbered a agree.name agree.state agree.in_first).1 in
      let named' : team_number b.frame agree.name ≡ Some number = sym (ap (λ (f : Frame). team_number f agree.name) agree.frame) ∙ named in
      let there : slice_get a.teams number ≡ Some agree.state = sym (ap (state_at a.teams) named) ∙ agree.in_first in
      let there' : slice_get b.teams number ≡ Some agree.state = sym (ap (state_at b.teams) named') ∙ agree.in_second in
      expected_same (query_reply (team_rules l a.frame number agree.state.padding) order agree.state) (first number agree.state named there)
      (subst (λ (f : Frame). MatchOption (query_reply (team_rules l f number agree.state.padding) order agree.state) (text' ≡ queries_only)
      (λ expected. ShowsReply b agree.name expected text')) (sym agree.frame) (second number agree.state named' there'))

  to_shown : (name : Option (List ℕ)) (command : Command (List ℕ) Place) → name ≡ Some agree.name → is_own name command ≡ true
      → ShowsOwn l a command text → ShowsOwn l b command text' → text ≡ text'
  to_shown name Bye is own first second = first ∙ sym second
  to_shown None (To to order) is own first second = absurd (none-some agree.name is)
  to_shown (Some name) (To to order) is own first second =
      let same : to ≡ agree.name = (bytes_eq-Decides to name).0 own ∙ same_Some name agree.name is in
      order_same order (subst (λ (n : List ℕ). ShowsOrder l a n order text) same first)
      (subst (λ (n : List ℕ). ShowsOrder l b n order text') same second)

  own_shown : (command : Command (List ℕ) Place) (own : Bool) → is_own (name_of_team a.frame team) command ≡ own
      → MatchBool own (ShowsOwn l a command text) (text ≡ reply_text (Refused NoTeam) [] [])
      → MatchBool own (ShowsOwn l b command text') (text' ≡ reply_text (Refused NoTeam) [] []) → text ≡ text'
  own_shown command true own first second = to_shown (name_of_team a.frame team) command agree.named own first second
  own_shown command false own first second = first ∙ sym second

  request_shown : (o : Option (Command (List ℕ) Place))
      → MatchOption o (text ≡ reply_text (Refused BadRequest) [] []) (λ command. MatchBool (is_own (name_of_team a.frame team) command)
      (ShowsOwn l a command text) (text ≡ reply_text (Refused NoTeam) [] []))
      → MatchOption o (text' ≡ reply_text (Refused BadRequest) [] []) (λ command. MatchBool (is_own (name_of_team b.frame team) command)
      (ShowsOwn l b command text') (text' ≡ reply_text (Refused NoTeam) [] [])) → text ≡ text'
  request_shown None first second = first ∙ sym second
  request_shown (Some command) first second =
      own_shown command (is_own (name_of_team a.frame team) command) refl first
      (subst (λ (f : Frame). MatchBool (is_own (name_of_team f team) command) (ShowsOwn l b command text')
      (text' ≡ reply_text (Refused NoTeam) [] [])) (sym agree.frame) second)

pub queries_same : QueriesAreOwn
queries_same l team line text text' a b first second agree plain plain' =
    request_shown l team a b agree text text' plain plain' (request_on line) first second
