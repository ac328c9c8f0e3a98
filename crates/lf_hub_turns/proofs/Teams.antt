-- Teams take turns.
use Rattle.std.proofs.Common.{◌≡◌, ℕ, zero, suc, ◌<◌, ◌≤◌, ◌⊎◌, inl, inr, Bool, true, false, not, cond, nat_lt, List, [], ◌∷◌, ◌++◌, length, Option, Some, None, refl, sym, ap, subst, ◌∙◌, arith}
use Rattle.std.specs.Prelude.{◌==◌, slice_set, slice_index_or}
use Rattle.std.proofs.lemmas.Bool.{eq-eqb, true≢false, cases_eq, cases_lt, and_parts, ltb-true, or_left, or_right, not-true}
use Rattle.std.proofs.lemmas.List.{get_or-set_same, get_or-set_other}
use Rattle.lf_hub_turns.specs.Queues.{Queues, queue_of, is_none, first_in, first_done, joining, may_join, joined, client_of, turn_of, next_turn, with_clients, after_turn, turn_done}
use Rattle.lf_hub_turns.specs.Fairness.{TurnEvent, Grows, Joins, Ends, after_event, run_turns, no_client, team_of_turn, team_turns, is_in, TeamsTakeTurns}
use Rattle.lf_hub_turns.proofs.Lists.{Distinct, before, in-front, in-pushed, out-both, distinct-push, distinct-done, front-once, before-push, moves}

-- ---- the client whose turn it is

pub record HasTurn (q : Queues) : Type 0 where
  pub team : ℕ
  pub client : ℕ
  pub teams : List ℕ
  pub clients : List ℕ
  pub first_team : q.teams ≡ team ∷ teams
  pub first_client : queue_of team q ≡ client ∷ clients
  pub next : next_turn q ≡ Some (team, client)

with-client : (q : Queues) (team : ℕ) (teams : List ℕ) → q.teams ≡ team ∷ teams → (clients : List ℕ) → queue_of team q ≡ clients → (next_turn q ≡ None) ⊎ HasTurn q
with-client q team teams e [] f = inl (ap (λ (xs : List ℕ). turn_of q (first_in xs)) e ∙ ap (λ (cs : List ℕ). client_of team (first_in cs)) f)
with-client q team teams e (client ∷ clients) f = inr (record {
  team = team;
  client = client;
  teams = teams;
  clients = clients;
  first_team = e;
  first_client = f;
  next = ap (λ (xs : List ℕ). turn_of q (first_in xs)) e ∙ ap (λ (cs : List ℕ). client_of team (first_in cs)) f;
})

with-team : (q : Queues) (teams : List ℕ) → q.teams ≡ teams → (next_turn q ≡ None) ⊎ HasTurn q
with-team q [] e = inl (ap (λ (xs : List ℕ). turn_of q (first_in xs)) e)
with-team q (team ∷ teams) e = with-client q team teams e (queue_of team q) refl

pub whose : (q : Queues) → (next_turn q ≡ None) ⊎ HasTurn q
whose q = with-team q q.teams refl

pub nobodys : (q : Queues) (stays : Bool) → next_turn q ≡ None → turn_done stays q ≡ q
nobodys q stays none = ap (λ (o : Option (ℕ × ℕ)). after_turn o stays q) none

-- the clients of the team after the turn
pub left : Bool → (q : Queues) → HasTurn q → List ℕ
left stays q t = first_done stays (t.client ∷ t.clients)

pub done : (q : Queues) (stays : Bool) → (t : HasTurn q) → turn_done stays q ≡ with_clients t.team t.client stays (first_done stays (t.client ∷ t.clients)) q
done q stays t =
    ap (λ (o : Option (ℕ × ℕ)). after_turn o stays q) t.next
    ∙ ap (λ (cs : List ℕ). with_clients t.team t.client stays (first_done stays cs) q) t.first_client

-- a team with a client has a queue
beyond : (xs : List (List ℕ)) (i : ℕ) → length xs ≤ i → slice_index_or xs i [] ≡ []
beyond [] i h = refl
beyond (x ∷ xs) zero h = absurd (omega arith)
beyond (x ∷ xs) (suc i) h = beyond xs i (omega arith)

pub within : (xs : List (List ℕ)) (team client : ℕ) (clients : List ℕ) → slice_index_or xs team [] ≡ client ∷ clients → team < length xs
within xs team client clients h = elim (cases_lt team (length xs)) as (λ _. team < length xs)
    [ inl below ↦ below | inr past ↦ absurd (let q : client ∷ clients ≡ [] = sym h ∙ beyond xs team past in cc) ]

-- ---- every event

pub record Fine (q : Queues) : Type 0 where
  pub apart : Distinct q.teams
  pub busy : (u : ℕ) → is_in u q.teams ≡ true → is_none (queue_of u q) ≡ false

push-is-some : (xs : List ℕ) (y : ℕ) → is_none (xs ++ y ∷ []) ≡ false
push-is-some [] y = refl
push-is-some (x ∷ xs) y = refl

module _ (q : Queues) (team client : ℕ) where
  join-teams : (b : Bool) → is_none (queue_of team q) ≡ b → Fine q → Distinct (cond b (q.teams ++ team ∷ []) q.teams)
  join-teams true none fine = distinct-push q.teams team fine.apart (out (is_in team q.teams) refl)
    where
      out : (b : Bool) → is_in team q.teams ≡ b → b ≡ false
      out true h = absurd (true≢false (sym none ∙ fine.busy team h))
      out false h = refl
  join-teams false some fine = fine.apart

  join-member : (b : Bool) (u : ℕ) → (u ≡ team → ⊥) → is_in u (cond b (q.teams ++ team ∷ []) q.teams) ≡ true → is_in u q.teams ≡ true
  join-member true u n h = in-pushed u q.teams team h n
  join-member false u n h = h

  joining-fine : team < length q.clients → Fine q → Fine (joining team client q)
  joining-fine below fine = record {
    apart = join-teams (is_none (queue_of team q)) refl fine;
    busy = λ u h. elim (cases_eq u team) as (λ _. is_none (queue_of u (joining team client q)) ≡ false) [
      | inl e ↦ ap (λ v. is_none (queue_of v (joining team client q))) e
          ∙ ap is_none (get_or-set_same q.clients team (queue_of team q ++ client ∷ []) [] below) ∙ push-is-some (queue_of team q) client
      | inr n ↦ ap is_none (get_or-set_other q.clients team u (queue_of team q ++ client ∷ []) [] n) ∙ fine.busy u (join-member (is_none (queue_of team q)) u n h)
    ];
  }

  joined-fine : (b : Bool) → may_join team client q ≡ b → Fine q → Fine (cond b (joining team client q) q)
  joined-fine true may fine = joining-fine (ltb-true team (length q.clients) (and_parts (nat_lt team (length q.clients)) (not (slice_index_or q.waits client true)) may).0) fine
  joined-fine false may fine = fine

module _ (q : Queues) (stays : Bool) (t : HasTurn q) where
  rest-teams : (b : Bool) (u : ℕ) → (u ≡ t.team → ⊥) → is_in u (first_done b (t.team ∷ t.teams)) ≡ true → is_in u q.teams ≡ true
  rest-teams true u n h = subst (λ xs. is_in u xs ≡ true) (sym t.first_team) (or_right (u == t.team) (is_in u t.teams) (in-pushed u t.teams t.team h n))
  rest-teams false u n h = subst (λ xs. is_in u xs ≡ true) (sym t.first_team) (or_right (u == t.team) (is_in u t.teams) h)

  own-team : (b : Bool) → Fine q → is_in t.team (first_done b (t.team ∷ t.teams)) ≡ true → b ≡ true
  own-team true fine h = refl
  own-team false fine h = absurd (true≢false (sym h ∙ (subst Distinct t.first_team fine.apart).0))

  done-fine : Fine q → Fine (with_clients t.team t.client stays (first_done stays (t.client ∷ t.clients)) q)
  done-fine fine =
      let now = first_done stays (t.client ∷ t.clients) in
      let more = not (is_none now) in
      let below : t.team < length q.clients = within q.clients t.team t.client t.clients t.first_client in
      record {
        apart = subst (λ xs. Distinct (first_done more xs)) (sym t.first_team) (distinct-done more t.team t.teams (subst Distinct t.first_team fine.apart));
        busy = λ u h.
            let here = subst (λ xs. is_in u (first_done more xs) ≡ true) t.first_team h in
            elim (cases_eq u t.team) as (λ _. is_none (slice_index_or (slice_set q.clients t.team now) u []) ≡ false) [
              | inl e ↦ ap (λ v. is_none (slice_index_or (slice_set q.clients t.team now) v [])) e
                  ∙ ap is_none (get_or-set_same q.clients t.team now [] below)
                  ∙ not-true (is_none now) (own-team more fine (subst (λ v. is_in v (first_done more (t.team ∷ t.teams)) ≡ true) e here))
              | inr n ↦ ap is_none (get_or-set_other q.clients t.team u now [] n) ∙ fine.busy u (rest-teams more u n here)
            ];
      }

fine_next : (q : Queues) (e : TurnEvent) → Fine q → Fine (after_event q e)
fine_next q Grows fine = record { apart = fine.apart; busy = fine.busy }
fine_next q (Joins team client) fine = joined-fine q team client (may_join team client q) refl fine
fine_next q (Ends stays) fine =
    elim (whose q) as (λ _. Fine (turn_done stays q))
    [ inl none ↦ subst Fine (sym (nobodys q stays none)) fine | inr t ↦ subst Fine (sym (done q stays t)) (done-fine q stays t fine) ]

pub fine_run : (es : List TurnEvent) (q : Queues) → Fine q → Fine (run_turns es q)
fine_run [] q fine = fine
fine_run (e ∷ es) q fine = fine_run es (after_event q e) (fine_next q e fine)

-- ---- turns

-- the turns while a team waits were of those that stood before it
joined-there : (q : Queues) (team client u : ℕ) (b c : Bool) → is_in u q.teams ≡ true
    → (is_in u (cond b (joining team client q) q).teams ≡ true) × (before u (cond b (joining team client q) q).teams ≡ before u q.teams)
joined-there q team client u false c h = (h, refl)
joined-there q team client u true c h = there (is_none (queue_of team q))
  where
    there : (d : Bool) → (is_in u (cond d (q.teams ++ team ∷ []) q.teams) ≡ true) × (before u (cond d (q.teams ++ team ∷ []) q.teams) ≡ before u q.teams)
    there true = (in-front u q.teams (team ∷ []) h, before-push u q.teams team h)
    there false = (h, refl)

ends-there : (q : Queues) (stays : Bool) (t : HasTurn q) (u : ℕ) → is_in u q.teams ≡ true → (u ≡ t.team → ⊥)
    → (is_in u (turn_done stays q).teams ≡ true) × (before u q.teams ≡ t.team ∷ before u (turn_done stays q).teams)
ends-there q stays t u h n =
    let now = first_done stays (t.client ∷ t.clients) in
    let more = not (is_none now) in
    let teams : (turn_done stays q).teams ≡ first_done more (t.team ∷ t.teams) = ap (λ (r : Queues). r.teams) (done q stays t) ∙ ap (first_done more) t.first_team in
    let m = moves u t.team t.teams more (subst (λ xs. is_in u xs ≡ true) t.first_team h) n in (
      subst (λ xs. is_in u xs ≡ true) (sym teams) m.there,
      ap (before u) t.first_team ∙ m.before_it ∙ ap (λ xs. t.team ∷ before u xs) (sym teams),
    )

-- the turns of a list of events are a front of those that stood before
abbrev pub Front : ℕ → List ℕ → List ℕ → Type 0
Front u turns teams = (rest : List ℕ) × (turns ++ rest ≡ before u teams)

front-turn : (q : Queues) (u : ℕ) (more : List ℕ) (stays : Bool) → is_in u q.teams ≡ true → is_in u (team_of_turn (next_turn q) ++ more) ≡ false
    → (is_in u (turn_done stays q).teams ≡ true → is_in u more ≡ false → Front u more (turn_done stays q).teams) → Front u (team_of_turn (next_turn q) ++ more) q.teams
front-turn q u more stays h out later =
    let parts = out-both u (team_of_turn (next_turn q)) more out in
    elim (whose q) as (λ _. Front u (team_of_turn (next_turn q) ++ more) q.teams) [
      | inl none ↦
          let same = nobodys q stays none in
          let f = later (subst (λ (r : Queues). is_in u r.teams ≡ true) (sym same) h) parts.1 in
          (f.0, ap (λ (o : Option (ℕ × ℕ)). team_of_turn o ++ more ++ f.0) none ∙ f.1 ∙ ap (λ (r : Queues). before u r.teams) same)
      | inr t ↦
          let one : is_in u (t.team ∷ []) ≡ false = subst (λ (o : Option (ℕ × ℕ)). is_in u (team_of_turn o) ≡ false) t.next parts.0 in
          let n : u ≡ t.team → ⊥ = λ e. true≢false (sym (or_left (u == t.team) false (eq-eqb u t.team e)) ∙ one) in
          let moved = ends-there q stays t u h n in
          let f = later moved.0 parts.1 in
          (f.0, ap (λ (o : Option (ℕ × ℕ)). team_of_turn o ++ more ++ f.0) t.next ∙ ap (λ l. t.team ∷ l) f.1 ∙ sym moved.1)
    ]

front-join : (q : Queues) (u team client : ℕ) (more : List ℕ) → is_in u q.teams ≡ true → (is_in u (joined team client q).teams ≡ true → Front u more (joined team client q).teams) → Front u more q.teams
front-join q u team client more h later =
    let there = joined-there q team client u (may_join team client q) true h in
    let f = later there.0 in
    (f.0, f.1 ∙ there.1)

pub team_front : (es : List TurnEvent) (q : Queues) (u : ℕ) → is_in u q.teams ≡ true → is_in u (team_turns es q) ≡ false → Front u (team_turns es q) q.teams
team_front [] q u h out = (before u q.teams, refl)
team_front (Grows ∷ es) q u h out = team_front es (after_event q Grows) u h out
team_front (Joins team client ∷ es) q u h out = front-join q u team client (team_turns es (joined team client q)) h (λ there. team_front es (joined team client q) u there out)
team_front (Ends stays ∷ es) q u h out = front-turn q u (team_turns es (turn_done stays q)) stays h out (λ there no. team_front es (turn_done stays q) u there no)

pub teams_fair : (q : Queues) → Fine q → TeamsTakeTurns q
teams_fair q fine = λ es team other h out. let f = team_front es q team h out in front-once other team (team_turns es q) f.0 q.teams fine.apart f.1

pub fine_start : (teams : ℕ) → Fine (no_client teams)
fine_start teams = record { apart = tt; busy = λ u h. absurd (true≢false (sym h)) }
