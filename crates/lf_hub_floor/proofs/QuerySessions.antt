-- A session is opened for a query, and closed after it: the floor is as it was, and the reply is that of
-- any session.
use Rattle.std.proofs.Common.{◌≡◌, ◌⊎◌, inl, inr, ℕ, ◌<◌, zero, suc, List, [], ◌∷◌, length, set, get_or, Bool, true, false, not, ◌&&◌, cond, Option, Some, None, refl, ap, sym, ◌∙◌, subst, arith}
use Rattle.std.specs.Prelude.{All, MatchBool, MatchOption, option_and_then, position, is_none, nat_lt, slice_get, slice_set, unwrap_or}
use Rattle.std.specs.Option.{option_map_or}
use Rattle.std.proofs.lemmas.Bool.{false≢true}
use Rattle.std.proofs.lemmas.Bool.Decides.{nat_tests}
use Rattle.std.proofs.lemmas.List.{set-get_or, set-set, get_or-set_same}
use Rattle.std.proofs.lemmas.List.Quantifiers.{position-Some}
use Rattle.std.proofs.lemmas.Option.{get_or_from_slice_get, none-some, same_Some, slice_get_within}
use Rattle.lf_units.specs.declared.geometry.Point.{Point}
use Rattle.lf_floorplan.specs.declared.place.Place.{Place}
use Rattle.lf_rules.specs.Legalizer.{Legalizer}
use Rattle.lf_proto.specs.declared.request.Command.{Command}
use Rattle.lf_proto.specs.declared.request.Command.TheVariants.{To}
use Rattle.lf_proto.specs.declared.request.TeamCommand.{TeamCommand}
use Rattle.lf_proto.specs.declared.request.TeamCommand.TheVariants.{Open, Within}
use Rattle.lf_proto.specs.declared.verb.Action.{Action}
use Rattle.lf_proto.specs.declared.verb.Action.TheVariants.{Close, Sync, Check, Def, Where, Find, Change as Changing}
use Rattle.lf_proto.specs.declared.reply.Reply.{Reply}
use Rattle.lf_proto.specs.declared.reply.Reply.TheVariants.{Done, Opened, Revision, Refused}
use Rattle.lf_proto.specs.declared.reply.Refusal.TheVariants.{OutOfMemory}
use Rattle.lf_proto.specs.ReplyText.{reply_text}
use Rattle.lf_cells.specs.declared.cell.Cell.{Cell}
use Rattle.lf_cells.specs.Cells.{cell_named, working_at}
use Rattle.lf_floor_model.specs.States.{TeamState, FloorState}
use Rattle.lf_floor_model.specs.Teams.{IsTeamOf, TeamRules, state_of, team_number, team_rules}
use Rattle.lf_floor_model.specs.Outcomes.{is_short, may_be_short, name_at}
use Rattle.lf_floor_model.specs.Sessions.{closed, opened, opened_at, seen_at, synced}
use Rattle.lf_floor_model.specs.Queries.{best_at, checked, found, located, written}
use Rattle.lf_floor_model.specs.Verbs.{outcome_by_slot, outcome_within}
use Rattle.lf_floor_model.specs.VerbLaws.{is_ok}
use Rattle.lf_floor_model.specs.Journals.{is_query}
use Rattle.lf_floor_model.specs.Steps.{Answer, AllocatesNothing, IsAnswerOf, MayRunOutOfMemory, Step, answer_at, answer_of, answer_of_outcome, outcome_by_rules}
use Rattle.lf_floor_model.proofs.Forms.{answer_by, found_at, found_own, located_at, located_own, state_at}
use Rattle.lf_server.specs.Exchanges.{StepsOn, name_in, reply_cells, reply_text_of}
use Rattle.lf_hub_floor.specs.Answers.{is_query_action}
use Rattle.lf_hub_floor.specs.QuerySessions.{HasNoFreeSlot, OpensSession, session_opened, with_session, with_team}
use Rattle.lf_hub_floor.specs.QueryAnswers.{ShowsOrder, ShowsReply, query_reply, queries_only}
use Rattle.lf_hub_floor.proofs.LongReplies.{kept_unless_lasting}

-- ---- steps that allocate nothing

by_short : (l : Legalizer) (old new : FloorState) (command : Command (List ℕ) Place) (reply : Reply) (short : Bool)
    → MatchBool short (MayRunOutOfMemory l old command new) (IsAnswerOf l old command reply new) → AllocatesNothing command
    → IsAnswerOf l old command reply new
by_short l old new command reply true step none = absurd (step.takes none)
by_short l old new command reply false step none = step

whole_team : (teams : List TeamState) (number : ℕ) (s : TeamState) → slice_get teams number ≡ Some s → slice_set teams number s ≡ teams
whole_team teams number s there =
    ap (slice_set teams number) (sym (get_or_from_slice_get teams number s s there)) ∙ set-get_or teams number s

same_team : (floor : FloorState) (number : ℕ) (s : TeamState) → slice_get floor.teams number ≡ Some s → with_team number s floor ≡ floor
same_team floor number s there = ap (λ (teams : List TeamState). record floor { teams = teams }) (whole_team floor.teams number s there)

-- The answer to a team's command.
team_answer : (l : Legalizer) (floor : FloorState) (team : List ℕ) (number : ℕ) (order : TeamCommand (List ℕ) Place) (s : TeamState)
    → team_number floor.frame team ≡ Some number → slice_get floor.teams number ≡ Some s
    → answer_of l floor (To team order) ≡ answer_of_outcome floor number (outcome_by_rules l floor.frame number order s)
unfolding answer_of
team_answer l floor team number order s named there =
    ap (λ (o : Option ℕ). answer_at o l floor order) named ∙ ap (λ (o : Option TeamState). answer_by o l floor number order) there

-- ---- opening

module _ (old : FloorState) (team : List ℕ) (reply : Reply) (mid : FloorState) where
  -- A session was opened, or not.
  abbrev Opening : Option ℕ → Type 0
  Opening session = MatchOption session (HasNoFreeSlot old team mid) (λ session. OpensSession old team session mid)

  by_slot : (number : ℕ) (s : TeamState) → team_number old.frame team ≡ Some number → slice_get old.teams number ≡ Some s
      → (slot : Option ℕ) → position is_none s.slots ≡ slot → reply ≡ (opened_at slot s).reply → mid ≡ with_team number (opened_at slot s).team old
      → Opening (session_opened reply)
  by_slot number s named there None free reply_is floor_is =
      let full : HasNoFreeSlot old team mid = record {
        kept = floor_is ∙ same_team old number s there;
        full = λ other state named' there'.
            let number_is : number ≡ other = same_Some number other (sym named ∙ named') in
            let state_is : s ≡ state = same_Some s state (sym there ∙ (ap (slice_get old.teams) number_is ∙ there')) in
            subst (λ (t : TeamState). position is_none t.slots ≡ None) state_is free;
      } in
      subst Opening (sym (ap session_opened reply_is)) full
  by_slot number s named there (Some session) free reply_is floor_is =
      let opens : OpensSession old team session mid =
      record { number = number; state = s; named = named; there = there; free = free; is = floor_is } in
      subst Opening (sym (ap session_opened reply_is)) opens

  by_state : (l : Legalizer) (number : ℕ) → team_number old.frame team ≡ Some number → (o : Option TeamState) → slice_get old.teams number ≡ o
      → reply ≡ (answer_by o l old number Open).reply → mid ≡ (answer_by o l old number Open).floor → Opening (session_opened reply)
  unfolding opened
  by_state l number named None none reply_is floor_is =
      let full : HasNoFreeSlot old team mid = record {
        kept = floor_is;
        full = λ other state named' there'.
            let number_is : number ≡ other = same_Some number other (sym named ∙ named') in
            absurd (none-some state (sym none ∙ (ap (slice_get old.teams) number_is ∙ there')));
      } in
      subst Opening (sym (ap session_opened reply_is)) full
  by_state l number named (Some s) there reply_is floor_is = by_slot number s named there (position is_none s.slots) refl reply_is floor_is

  by_number : (l : Legalizer) (o : Option ℕ) → team_number old.frame team ≡ o → reply ≡ (answer_at o l old Open).reply
      → mid ≡ (answer_at o l old Open).floor → Opening (session_opened reply)
  by_number l None none reply_is floor_is =
      let full : HasNoFreeSlot old team mid = record { kept = floor_is; full = λ other state named' there'. absurd (none-some other (sym none ∙ named')) } in
      subst Opening (sym (ap session_opened reply_is)) full
  by_number l (Some number) named reply_is floor_is = by_state l number named (slice_get old.teams number) refl reply_is floor_is

  by_answer : (l : Legalizer) → IsAnswerOf l old (To team Open) reply mid → Opening (session_opened reply)
  unfolding answer_of
  by_answer l answers = by_number l (team_number old.frame team) refl answers.reply_is answers.floor_is

  pub opens_session : (l : Legalizer) → Step l old (To team Open) reply mid → Opening (session_opened reply)
  opens_session l step = by_answer l (by_short l old mid (To team Open) reply (is_short reply) step refl)

-- ---- the team with the session

get_set_same : {X : Type 0} (xs : List X) (i : ℕ) (x : X) → i < length xs → slice_get (set xs i x) i ≡ Some x
get_set_same [] i x l = absurd (omega arith)
get_set_same (y ∷ ys) zero x l = refl
get_set_same (y ∷ ys) (suc i) x l = get_set_same ys i x (omega arith)

is_none_none : (o : Option ℕ) → is_none o ≡ true → o ≡ None
is_none_none None e = refl
is_none_none (Some n) e = absurd (false≢true e)

module _ (old : FloorState) (team : List ℕ) (session : ℕ) (mid : FloorState) (opens : OpensSession old team session mid) where
  abbrev s : TeamState
  s = opens.state

  abbrev looking : TeamState
  looking = with_session session s

  abbrev placed : FloorState
  placed = with_team opens.number looking old

  team_there : slice_get placed.teams opens.number ≡ Some looking
  team_there = get_set_same old.teams opens.number looking (slice_get_within old.teams opens.number s opens.there)

  slot_within : session < length s.slots
  slot_within = (position-Some is_none s.slots session None opens.free).0

  slot_free : get_or s.slots session None ≡ None
  slot_free = is_none_none (get_or s.slots session None) (position-Some is_none s.slots session None opens.free).1

  session_seen : seen_at looking.slots session ≡ Some s.revision
  session_seen = get_or-set_same s.slots session (Some s.revision) None slot_within

  session_outcome : (l : Legalizer) (action : Action (List ℕ) Place)
      → answer_of l placed (To team (Within session action))
      ≡ answer_of_outcome placed opens.number (outcome_within s.revision (team_rules l old.frame opens.number s.padding) session action looking)
  session_outcome l action =
      team_answer l placed team opens.number (Within session action) looking opens.named team_there
      ∙ ap (λ (o : Option ℕ). answer_of_outcome placed opens.number (outcome_by_slot o (team_rules l old.frame opens.number s.padding) session action looking)) session_seen

  slots_back : slice_set (slice_set s.slots session (Some s.revision)) session None ≡ s.slots
  slots_back = set-set s.slots session (Some s.revision) None ∙ (ap (slice_set s.slots session) (sym slot_free) ∙ set-get_or s.slots session None)

  floor_back : with_team opens.number (record looking { slots = slice_set looking.slots session None }) placed ≡ old
  floor_back =
      ap (λ (slots : List (Option ℕ)). with_team opens.number (record s { slots = slots }) placed) slots_back
      ∙ (ap (λ (teams : List TeamState). record old { teams = teams }) (set-set old.teams opens.number looking s)
      ∙ same_team old opens.number s opens.there)

  close_answer : (l : Legalizer) → (answer_of l placed (To team (Within session Close))).floor ≡ old
  unfolding closed
  close_answer l = ap (λ (a : Answer). a.floor) (session_outcome l Close) ∙ floor_back

  pub closes_session : (l : Legalizer) (reply : Reply) (new : FloorState) → Step l mid (To team (Within session Close)) reply new → new ≡ old
  closes_session l reply new step =
      let answers = by_short l mid new (To team (Within session Close)) reply (is_short reply) step refl in
      answers.floor_is ∙ (ap (λ (f : FloorState). (answer_of l f (To team (Within session Close))).floor) opens.is ∙ close_answer l)

short_is : (reply : Reply) → is_short reply ≡ true → reply ≡ Refused OutOfMemory
short_is (Refused OutOfMemory) short = refl
short_is _ short = absurd (false≢true short)

and_false : (b : Bool) → (b && false) ≡ false
and_false true = refl
and_false false = refl

-- ---- queries

located_same : (name : List ℕ) (slots : List (Option ℕ)) (s : TeamState) → (located name (record s { slots = slots })).reply ≡ (located name s).reply
unfolding located
located_same name slots s = own (cell_named name s.cells) where
  at : (o : Option Place) (n : ℕ) → (located_at o n (record s { slots = slots })).reply ≡ (located_at o n s).reply
  at None n = refl
  at (Some place) n = refl

  own : (o : Option ℕ) → (located_own o (record s { slots = slots })).reply ≡ (located_own o s).reply
  own None = refl
  own (Some n) = at (working_at s.cells n) n

found_same : (t : TeamRules) (name : List ℕ) (target : Point) (slots : List (Option ℕ)) (s : TeamState)
    → (found t name target (record s { slots = slots })).reply ≡ (found t name target s).reply
unfolding found
found_same t name target slots s = own (cell_named name s.cells) where
  at : (o : Option Place) (n : ℕ) → (found_at o n (record s { slots = slots })).reply ≡ (found_at o n s).reply
  at None n = refl
  at (Some place) n = refl

  own : (o : Option ℕ) → (found_own o t target (record s { slots = slots })).reply ≡ (found_own o t target s).reply
  own None = refl
  own (Some n) = at (best_at t s.cells n target) n

-- The reply to a query does not depend on its session, nor on the open ones.
query_same : (t : TeamRules) (session seen any : ℕ) (query : Action (List ℕ) Place) (slots : List (Option ℕ)) (s : TeamState) → is_query_action query ≡ true
    → (outcome_within seen t session query (record s { slots = slots })).reply ≡ (outcome_within s.revision t any query s).reply
unfolding checked written
query_same t session seen any Check slots s is = refl
query_same t session seen any Def slots s is = refl
query_same t session seen any (Where name) slots s is = located_same name slots s
query_same t session seen any (Find name target) slots s is = found_same t name target slots s
query_same t session seen any Close slots s is = absurd (false≢true is)
query_same t session seen any Sync slots s is = absurd (false≢true is)
query_same t session seen any (Changing change) slots s is = absurd (false≢true is)

query_reply_is : (t : TeamRules) (session : ℕ) (query : Action (List ℕ) Place) (s : TeamState) → is_query_action query ≡ true
    → query_reply t (Within session query) s ≡ Some (outcome_within s.revision t session query s).reply
query_reply_is t session (Changing change) s is = absurd (false≢true is)
query_reply_is t session Check s is = refl
query_reply_is t session Def s is = refl
query_reply_is t session (Where name) s is = refl
query_reply_is t session (Find name target) s is = refl
query_reply_is t session Close s is = absurd (false≢true is)
query_reply_is t session Sync s is = absurd (false≢true is)

query_not_lasting : (ok : Bool) (team : List ℕ) (session : ℕ) (query : Action (List ℕ) Place) → is_query_action query ≡ true
    → (ok && not (is_query (To team (Within session query)))) ≡ false
query_not_lasting ok team session Check is = and_false ok
query_not_lasting ok team session Def is = and_false ok
query_not_lasting ok team session (Where name) is = and_false ok
query_not_lasting ok team session (Find name target) is = and_false ok
query_not_lasting ok team session Close is = absurd (false≢true is)
query_not_lasting ok team session Sync is = absurd (false≢true is)
query_not_lasting ok team session (Changing change) is = absurd (false≢true is)

-- A query changes nothing.
pub query_keeps : (l : Legalizer) (old new : FloorState) (team : List ℕ) (session : ℕ) (query : Action (List ℕ) Place) (reply : Reply)
    → is_query_action query ≡ true → Step l old (To team (Within session query)) reply new → new ≡ old
query_keeps l old new team session query reply is step =
    kept_unless_lasting l old new (To team (Within session query)) reply step (query_not_lasting (is_ok reply) team session query is)

-- What a step says of its reply, if this is the reply by the rules.
abbrev Said : Reply → Reply → Type 0
Said expected reply = (reply ≡ expected) ⊎ ((reply ≡ Refused OutOfMemory) × (may_be_short expected ≡ true))

said_by : (l : Legalizer) (old new : FloorState) (command : Command (List ℕ) Place) (reply expected : Reply) (short : Bool) → is_short reply ≡ short
    → MatchBool short (MayRunOutOfMemory l old command new) (IsAnswerOf l old command reply new) → (answer_of l old command).reply ≡ expected
    → Said expected reply
said_by l old new command reply expected true short step is = inr (short_is reply short, sym (ap may_be_short is) ∙ step.short.may)
said_by l old new command reply expected false short step is = inl (step.reply_is ∙ is)

-- The text of a reply in a team with the same cells.
cells_name : (floor : FloorState) (team : List ℕ) (s : TeamState) → state_of floor team ≡ Some s → (o : Option ℕ)
    → name_in floor team o ≡ option_map_or (λ own. unwrap_or (name_at s.cells own) []) o []
cells_name floor team s there None = refl
cells_name floor team s there (Some own) = ap (λ (t : Option TeamState). unwrap_or (option_and_then (λ s. name_at s.cells own) t) []) there

cells_text : (a b : FloorState) (team : List ℕ) (s t : TeamState) (reply : Reply) → state_of a team ≡ Some s → state_of b team ≡ Some t → s.cells ≡ t.cells
    → reply_text_of a team reply ≡ reply_text_of b team reply
cells_text a b team s t reply first second cells =
    let name : (o : Option ℕ) → name_in a team o ≡ name_in b team o = λ o.
    cells_name a team s first o ∙ (ap (λ (cs : List Cell). option_map_or (λ own. unwrap_or (name_at cs own) []) o []) cells ∙ sym (cells_name b team t second o)) in
    ap (λ (n : List ℕ). reply_text reply n (name_in a team (reply_cells reply).1)) (name (reply_cells reply).0)
    ∙ ap (λ (n : List ℕ). reply_text reply (name_in b team (reply_cells reply).0) n) (name (reply_cells reply).1)

state_is : (floor : FloorState) (team : List ℕ) (number : ℕ) (s : TeamState) → team_number floor.frame team ≡ Some number → slice_get floor.teams number ≡ Some s
    → state_of floor team ≡ Some s
state_is floor team number s named there = ap (state_at floor.teams) named ∙ there

-- The reply to a command, of the one state that the team has.
pub shows_state : (l : Legalizer) (floor : FloorState) (team : List ℕ) (number : ℕ) (s : TeamState) (order : TeamCommand (List ℕ) Place) (expected : Reply) (text : List ℕ)
    → team_number floor.frame team ≡ Some number → slice_get floor.teams number ≡ Some s
    → query_reply (team_rules l floor.frame number s.padding) order s ≡ Some expected → ShowsReply floor team expected text
    → ShowsOrder l floor team order text
shows_state l floor team number s order expected text named there is shows = λ other t named' there'.
    let number_is : number ≡ other = same_Some number other (sym named ∙ named') in
    let state_is : s ≡ t = same_Some s t (sym there ∙ (ap (slice_get floor.teams) number_is ∙ there')) in
    let P : ℕ → TeamState → Type 0 = λ n u. MatchOption (query_reply (team_rules l floor.frame n u.padding) order u) (text ≡ queries_only)
    (λ expected. ShowsReply floor team expected text) in
    let here : P number s = subst (λ (o : Option Reply). MatchOption o (text ≡ queries_only) (λ expected. ShowsReply floor team expected text)) (sym is) shows in
    subst (P other) state_is (subst (λ (n : ℕ). P n s) number_is here)

-- A query in the session that was opened for it.
pub shows_in_session : (l : Legalizer) (old mid new : FloorState) (team : List ℕ) (session any : ℕ) (query : Action (List ℕ) Place) (reply : Reply) (text : List ℕ)
    → OpensSession old team session mid → is_query_action query ≡ true → StepsOn l mid (To team (Within session query)) reply text new
    → ShowsOrder l old team (Within any query) text
shows_in_session l old mid new team session any query reply text opens is steps =
    let t = team_rules l old.frame opens.number opens.state.padding in
    let expected = (outcome_within opens.state.revision t any query opens.state).reply in
    let command : Command (List ℕ) Place = To team (Within session query) in
    let looking = with_session session opens.state in
    let floor = with_team opens.number looking old in
    let same = query_same t session opens.state.revision any query (slice_set opens.state.slots session (Some opens.state.revision)) opens.state is in
    let answer_is : (answer_of l mid command).reply ≡ expected =
    ap (λ (f : FloorState). (answer_of l f command).reply) opens.is
    ∙ (ap (λ (a : Answer). a.reply) (session_outcome old team session mid opens l query) ∙ same) in
    let there : state_of new team ≡ Some looking =
    ap (λ (f : FloorState). state_of f team) (query_keeps l mid new team session query reply is steps.step ∙ opens.is)
    ∙ state_is floor team opens.number looking opens.named (team_there old team session mid opens) in
    shows_state l old team opens.number opens.state (Within any query) expected text opens.named opens.there (query_reply_is t any query opens.state is)
    record {
      reply = reply;
      is = said_by l mid new command reply expected (is_short reply) refl steps.step answer_is;
      text_is = steps.text_is ∙ cells_text new old team looking opens.state reply there (state_is old team opens.number opens.state opens.named opens.there) refl;
    }

-- ---- a team without a free slot

some_seen : (o : Option ℕ) → is_none o ≡ false → (n : ℕ) × (o ≡ Some n)
some_seen None e = absurd (false≢true (sym e))
some_seen (Some n) e = (n, refl)

zero_within : (n : ℕ) → 0 < n → nat_lt 0 n ≡ true
zero_within n within = grind (arith, nat_tests)

none_is : (slots : List (Option ℕ)) → position is_none slots ≡ None → 0 < length slots → is_none (get_or slots 0 None) ≡ false
none_is [] none some = absurd (omega arith)
none_is (None ∷ slots) none some =
    absurd (none-some 0 (sym none ∙ ap (λ (b : Bool). cond b (Some 0) None) (zero_within (suc (length slots)) some)))
none_is (Some n ∷ slots) none some = refl

sessions_there : (old : FloorState) (number : ℕ) (s : TeamState) → All (λ s. IsTeamOf old.frame s) old.teams → slice_get old.teams number ≡ Some s
    → 0 < length s.slots
sessions_there old number s teams there =
    let within = slice_get_within old.teams number s there in
    let is = subst (λ (t : TeamState). IsTeamOf old.frame t) (get_or_from_slice_get old.teams number s s there) (teams number s within) in
    omega (arith, is.all_slots, old.frame.limits.allowed.sessions_within.least)

-- A query in session 0, if no slot is free.
pub shows_without_slot : (l : Legalizer) (old new : FloorState) (team : List ℕ) (any : ℕ) (query : Action (List ℕ) Place) (reply : Reply) (text : List ℕ)
    → is_query_action query ≡ true → StepsOn l old (To team (Within 0 query)) reply text new
    → HasNoFreeSlot old team old → All (λ s. IsTeamOf old.frame s) old.teams → ShowsOrder l old team (Within any query) text
shows_without_slot l old new team any query reply text is steps full teams = λ number s named there.
    let t = team_rules l old.frame number s.padding in
    let command : Command (List ℕ) Place = To team (Within 0 query) in
    let expected = (outcome_within s.revision t any query s).reply in
    let seen = some_seen (get_or s.slots 0 None) (none_is s.slots (full.full number s named there) (sessions_there old number s teams there)) in
    let answer_is : (answer_of l old command).reply ≡ expected =
    ap (λ (a : Answer). a.reply) (team_answer l old team number (Within 0 query) s named there)
    ∙ (ap (λ (o : Option ℕ). (outcome_by_slot o t 0 query s).reply) seen.1 ∙ query_same t 0 seen.0 any query s.slots s is) in
    shows_state l old team number s (Within any query) expected text named there (query_reply_is t any query s is) record {
      reply = reply;
      is = said_by l old new command reply expected (is_short reply) refl steps.step answer_is;
      text_is = steps.text_is ∙ ap (λ (f : FloorState). reply_text_of f team reply) (query_keeps l old new team 0 query reply is steps.step);
    } number s named there

-- The same, after no session was opened.
pub shows_unopened : (l : Legalizer) (old mid new : FloorState) (team : List ℕ) (any : ℕ) (query : Action (List ℕ) Place) (reply : Reply) (text : List ℕ)
    → is_query_action query ≡ true → StepsOn l mid (To team (Within 0 query)) reply text new
    → HasNoFreeSlot old team mid → All (λ s. IsTeamOf old.frame s) old.teams → ShowsOrder l old team (Within any query) text
shows_unopened l old mid new team any query reply text is steps full teams =
    shows_without_slot l old new team any query reply text is
    (subst (λ (f : FloorState). StepsOn l f (To team (Within 0 query)) reply text new) full.kept steps)
    (subst (λ (f : FloorState). HasNoFreeSlot old team f) full.kept full) teams

-- ---- replies that name the revision, and the reply to `close`

pub revision_shows : (l : Legalizer) (floor : FloorState) (team : List ℕ) (session revision : ℕ) (text : List ℕ)
    → ((number : ℕ) (s : TeamState) → team_number floor.frame team ≡ Some number → slice_get floor.teams number ≡ Some s → revision ≡ s.revision)
    → text ≡ reply_text_of floor team (Revision revision) → ShowsOrder l floor team (Within session Sync) text
unfolding synced
revision_shows l floor team session revision text current is = λ number s named there. record {
  reply = Revision revision;
  is = inl (ap (λ (n : ℕ). Revision n) (current number s named there));
  text_is = is;
}

pub open_shows : (l : Legalizer) (floor : FloorState) (team : List ℕ) (revision : ℕ) (text : List ℕ)
    → ((number : ℕ) (s : TeamState) → team_number floor.frame team ≡ Some number → slice_get floor.teams number ≡ Some s → revision ≡ s.revision)
    → text ≡ reply_text_of floor team (Opened 0 revision) → ShowsOrder l floor team Open text
open_shows l floor team revision text current is = λ number s named there. record {
  reply = Opened 0 revision;
  is = inl (ap (λ (n : ℕ). Opened 0 n) (current number s named there));
  text_is = is;
}

pub close_shows : (l : Legalizer) (floor : FloorState) (team : List ℕ) (session : ℕ) (text : List ℕ)
    → text ≡ reply_text Done [] [] → ShowsOrder l floor team (Within session Close) text
unfolding closed
close_shows l floor team session text is = λ number s named there. record { reply = Done; is = inl refl; text_is = is }

-- The same for an action that is known.
pub shows_same : (l : Legalizer) (floor : FloorState) (team : List ℕ) (session : ℕ) (action known : Action (List ℕ) Place) (text : List ℕ) → action ≡ known
    → ShowsOrder l floor team (Within session known) text → ShowsOrder l floor team (Within session action) text
shows_same l floor team session action known text is shows =
    subst (λ (a : Action (List ℕ) Place). ShowsOrder l floor team (Within session a) text) (sym is) shows
