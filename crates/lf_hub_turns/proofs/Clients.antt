-- The clients of a team take turns.
use Rattle.std.proofs.Common.{◌≡◌, ℕ, zero, suc, ◌<◌, ◌≤◌, inl, inr, Bool, true, false, not, cond, nat_lt, List, [], ◌∷◌, ◌++◌, length, Option, refl, sym, ap, subst, ◌∙◌, arith, length-append}
use Rattle.std.specs.Prelude.{◌==◌, slice_set, slice_index_or, replicate}
use Rattle.std.proofs.lemmas.Bool.{eq-eqb, ne_eqb, true≢false, cases_eq, and_parts, ltb-true, or_left, or_right, not-true, cases_lt, cond-true, cond-false}
use Rattle.std.proofs.lemmas.List.{get_or-set_same, get_or-set_other, length-set}
use Rattle.lf_hub_turns.specs.Queues.{Queues, queue_of, first_done, joining, may_join, joined, next_turn, with_clients, turn_done}
use Rattle.lf_hub_turns.specs.Fairness.{TurnEvent, Grows, Joins, Ends, after_event, run_turns, no_client, client_of_turn, client_turns, is_in, ClientsTakeTurns}
use Rattle.lf_hub_turns.proofs.Lists.{Distinct, before, in-front, in-pushed, out-both, distinct-push, distinct-done, front-once, before-push, moves}
use Rattle.lf_hub_turns.proofs.Teams.{HasTurn, whose, nobodys, done, within}

-- ---- tables of tests

front-same : (xs : List Bool) (y : Bool) (c : ℕ) → c < length xs → slice_index_or (xs ++ y ∷ []) c true ≡ slice_index_or xs c true
front-same [] y c h = absurd (omega arith)
front-same (x ∷ xs) y zero h = refl
front-same (x ∷ xs) y (suc c) h = front-same xs y c (omega arith)

beyond : (xs : List Bool) (i : ℕ) → length xs ≤ i → slice_index_or xs i true ≡ true
beyond [] i h = refl
beyond (x ∷ xs) zero h = absurd (omega arith)
beyond (x ∷ xs) (suc i) h = beyond xs i (omega arith)

false-within : (xs : List Bool) (c : ℕ) → slice_index_or xs c true ≡ false → c < length xs
false-within xs c h = elim (cases_lt c (length xs)) as (λ _. c < length xs)
    [ inl below ↦ below | inr past ↦ absurd (true≢false (sym (beyond xs c past) ∙ h)) ]

empty-at : (teams u : ℕ) → slice_index_or {A = List ℕ} (replicate teams []) u [] ≡ []
empty-at zero u = refl
empty-at (suc teams) zero = refl
empty-at (suc teams) (suc u) = empty-at teams u

none-at : (teams u c : ℕ) → is_in c (slice_index_or {A = List ℕ} (replicate teams []) u []) ≡ false
none-at teams u c = ap (is_in c) (empty-at teams u)

distinct-at : (teams u : ℕ) → Distinct (slice_index_or {A = List ℕ} (replicate teams []) u [])
distinct-at teams u = subst Distinct (sym (empty-at teams u)) tt

-- ---- every event

pub record Fine (q : Queues) : Type 0 where
  pub apart : (u : ℕ) → Distinct (queue_of u q)
  pub below : (u c : ℕ) → is_in c (queue_of u q) ≡ true → c < length q.waits
  pub waits : (u c : ℕ) → is_in c (queue_of u q) ≡ true → slice_index_or q.waits c true ≡ true
  pub one : (t u c : ℕ) → is_in c (queue_of t q) ≡ true → is_in c (queue_of u q) ≡ true → t ≡ u

grows-fine : (q : Queues) → Fine q → Fine (after_event q Grows)
grows-fine q fine = record {
  apart = fine.apart;
  below = λ u c h. let b = fine.below u c h in omega (arith, b, length-append q.waits (false ∷ []));
  waits = λ u c h. front-same q.waits false c (fine.below u c h) ∙ fine.waits u c h;
  one = fine.one;
}

module _ (q : Queues) (team client : ℕ) where
  joined-other : (u : ℕ) → (u ≡ team → ⊥) → queue_of u (joining team client q) ≡ queue_of u q
  joined-other u n = get_or-set_other q.clients team u (queue_of team q ++ client ∷ []) [] n

  joined-same : team < length q.clients → queue_of team (joining team client q) ≡ queue_of team q ++ client ∷ []
  joined-same below = get_or-set_same q.clients team (queue_of team q ++ client ∷ []) [] below

  -- a client other than the one that joins is where it was
  joined-member : team < length q.clients → (u c : ℕ) → (c ≡ client → ⊥) → is_in c (queue_of u (joining team client q)) ≡ true → is_in c (queue_of u q) ≡ true
  joined-member below u c n h =
      elim (cases_eq u team) as (λ _. is_in c (queue_of u q) ≡ true) [
        | inl e ↦ subst (λ v. is_in c (queue_of v q) ≡ true) (sym e)
            (in-pushed c (queue_of team q) client (subst (λ xs. is_in c xs ≡ true) (joined-same below) (subst (λ v. is_in c (queue_of v (joining team client q)) ≡ true) e h)) n)
        | inr o ↦ subst (λ xs. is_in c xs ≡ true) (joined-other u o) h
      ]

  -- the one that joins is in the queue of its team alone
  joined-only : Fine q → slice_index_or q.waits client true ≡ false → (u : ℕ) → is_in client (queue_of u (joining team client q)) ≡ true → u ≡ team
  joined-only fine idle u h =
      elim (cases_eq u team) as (λ _. u ≡ team) [
        | inl e ↦ e
        | inr o ↦ absurd (true≢false (sym (fine.waits u client (subst (λ xs. is_in client xs ≡ true) (joined-other u o) h)) ∙ idle))
      ]

  idle-out : Fine q → slice_index_or q.waits client true ≡ false → (b : Bool) → is_in client (queue_of team q) ≡ b → b ≡ false
  idle-out fine idle true h = absurd (true≢false (sym (fine.waits team client h) ∙ idle))
  idle-out fine idle false h = refl

  joining-fine : team < length q.clients → slice_index_or q.waits client true ≡ false → Fine q → Fine (joining team client q)
  joining-fine below idle fine =
      let there : client < length q.waits = false-within q.waits client idle in
      let long : length (slice_set q.waits client true) ≡ length q.waits = length-set q.waits client true in
      record {
        apart = λ u. elim (cases_eq u team) as (λ _. Distinct (queue_of u (joining team client q))) [
          | inl e ↦ subst (λ v. Distinct (queue_of v (joining team client q))) (sym e)
              (subst Distinct (sym (joined-same below)) (distinct-push (queue_of team q) client (fine.apart team) (idle-out fine idle (is_in client (queue_of team q)) refl)))
          | inr o ↦ subst Distinct (sym (joined-other u o)) (fine.apart u)
        ];
        below = λ u c h. elim (cases_eq c client) as (λ _. c < length (slice_set q.waits client true)) [
          | inl e ↦ omega (arith, e, there, long)
          | inr n ↦ (let b = fine.below u c (joined-member below u c n h) in omega (arith, b, long))
        ];
        waits = λ u c h. elim (cases_eq c client) as (λ _. slice_index_or (slice_set q.waits client true) c true ≡ true) [
          | inl e ↦ ap (λ v. slice_index_or (slice_set q.waits client true) v true) e ∙ get_or-set_same q.waits client true true there
          | inr n ↦ get_or-set_other q.waits client c true true n ∙ fine.waits u c (joined-member below u c n h)
        ];
        one = λ t u c h g. elim (cases_eq c client) as (λ _. t ≡ u) [
          | inl e ↦ joined-only fine idle t (subst (λ v. is_in v (queue_of t (joining team client q)) ≡ true) e h)
              ∙ sym (joined-only fine idle u (subst (λ v. is_in v (queue_of u (joining team client q)) ≡ true) e g))
          | inr n ↦ fine.one t u c (joined-member below t c n h) (joined-member below u c n g)
        ];
      }

  joined-fine : (b : Bool) → may_join team client q ≡ b → Fine q → Fine (cond b (joining team client q) q)
  joined-fine true may fine =
      let parts = and_parts (nat_lt team (length q.clients)) (not (slice_index_or q.waits client true)) may in
      joining-fine (ltb-true team (length q.clients) parts.0) (not-true (slice_index_or q.waits client true) parts.1) fine
  joined-fine false may fine = fine

-- who is left after a turn was there before, and is not the one that has gone
left-member : (stays : Bool) (x c : ℕ) (xs : List ℕ) → is_in c (first_done stays (x ∷ xs)) ≡ true → is_in c (x ∷ xs) ≡ true
left-member true x c xs h =
    elim (cases_eq c x) as (λ _. is_in c (x ∷ xs) ≡ true)
    [ inl e ↦ or_left (c == x) (is_in c xs) (eq-eqb c x e) | inr n ↦ or_right (c == x) (is_in c xs) (in-pushed c xs x h n) ]
left-member false x c xs h = or_right (c == x) (is_in c xs) h

module _ (q : Queues) (stays : Bool) (t : HasTurn q) where
  now-other : (u : ℕ) → (u ≡ t.team → ⊥) → queue_of u (with_clients t.team t.client stays (first_done stays (t.client ∷ t.clients)) q) ≡ queue_of u q
  now-other u n = get_or-set_other q.clients t.team u (first_done stays (t.client ∷ t.clients)) [] n

  now-same : queue_of t.team (with_clients t.team t.client stays (first_done stays (t.client ∷ t.clients)) q) ≡ first_done stays (t.client ∷ t.clients)
  now-same = get_or-set_same q.clients t.team (first_done stays (t.client ∷ t.clients)) [] (within q.clients t.team t.client t.clients t.first_client)

  now-member : (u c : ℕ) → is_in c (queue_of u (with_clients t.team t.client stays (first_done stays (t.client ∷ t.clients)) q)) ≡ true → is_in c (queue_of u q) ≡ true
  now-member u c h =
      elim (cases_eq u t.team) as (λ _. is_in c (queue_of u q) ≡ true) [
        | inl e ↦ subst (λ v. is_in c (queue_of v q) ≡ true) (sym e) (subst (λ xs. is_in c xs ≡ true) (sym t.first_client)
            (left-member stays t.client c t.clients (subst (λ xs. is_in c xs ≡ true) now-same
            (subst (λ v. is_in c (queue_of v (with_clients t.team t.client stays (first_done stays (t.client ∷ t.clients)) q)) ≡ true) e h))))
        | inr o ↦ subst (λ xs. is_in c xs ≡ true) (now-other u o) h
      ]

  first-there : is_in t.client (queue_of t.team q) ≡ true
  first-there = subst (λ xs. is_in t.client xs ≡ true) (sym t.first_client) (or_left (t.client == t.client) (is_in t.client t.clients) (eq-eqb t.client t.client refl))

gone : (q : Queues) (stays : Bool) (t : HasTurn q) (u : ℕ) → Fine q → is_in t.client (queue_of u (with_clients t.team t.client stays (first_done stays (t.client ∷ t.clients)) q)) ≡ true → stays ≡ true
gone q true t u fine h = refl
gone q false t u fine h =
    let team : u ≡ t.team = fine.one u t.team t.client (now-member q false t u t.client h) (first-there q false t) in
    let here = subst (λ xs. is_in t.client xs ≡ true) (now-same q false t)
    (subst (λ v. is_in t.client (queue_of v (with_clients t.team t.client false (first_done false (t.client ∷ t.clients)) q)) ≡ true) team h) in
    absurd (true≢false (sym here ∙ (subst Distinct t.first_client (fine.apart t.team)).0))

done-fine : (q : Queues) (stays : Bool) (t : HasTurn q) → Fine q → Fine (with_clients t.team t.client stays (first_done stays (t.client ∷ t.clients)) q)
done-fine q stays t fine =
    let now = with_clients t.team t.client stays (first_done stays (t.client ∷ t.clients)) q in
    let there : t.client < length q.waits = fine.below t.team t.client (first-there q stays t) in
    let long : length (slice_set q.waits t.client stays) ≡ length q.waits = length-set q.waits t.client stays in
    record {
      apart = λ u. elim (cases_eq u t.team) as (λ _. Distinct (queue_of u now)) [
        | inl e ↦ subst (λ v. Distinct (queue_of v now)) (sym e) (subst Distinct (sym (now-same q stays t))
            (distinct-done stays t.client t.clients (subst Distinct t.first_client (fine.apart t.team))))
        | inr o ↦ subst Distinct (sym (now-other q stays t u o)) (fine.apart u)
      ];
      below = λ u c h. let b = fine.below u c (now-member q stays t u c h) in omega (arith, b, long);
      waits = λ u c h. elim (cases_eq c t.client) as (λ _. slice_index_or (slice_set q.waits t.client stays) c true ≡ true) [
        | inl e ↦ ap (λ v. slice_index_or (slice_set q.waits t.client stays) v true) e ∙ get_or-set_same q.waits t.client stays true there
            ∙ gone q stays t u fine (subst (λ v. is_in v (queue_of u now) ≡ true) e h)
        | inr n ↦ get_or-set_other q.waits t.client c stays true n ∙ fine.waits u c (now-member q stays t u c h)
      ];
      one = λ a b c h g. fine.one a b c (now-member q stays t a c h) (now-member q stays t b c g);
    }

fine_next : (q : Queues) (e : TurnEvent) → Fine q → Fine (after_event q e)
fine_next q Grows fine = grows-fine q fine
fine_next q (Joins team client) fine = joined-fine q team client (may_join team client q) refl fine
fine_next q (Ends stays) fine =
    elim (whose q) as (λ _. Fine (turn_done stays q))
    [ inl none ↦ subst Fine (sym (nobodys q stays none)) fine | inr t ↦ subst Fine (sym (done q stays t)) (done-fine q stays t fine) ]

pub fine_run : (es : List TurnEvent) (q : Queues) → Fine q → Fine (run_turns es q)
fine_run [] q fine = fine
fine_run (e ∷ es) q fine = fine_run es (after_event q e) (fine_next q e fine)

-- ---- turns

abbrev pub Front : ℕ → List ℕ → List ℕ → Type 0
Front c turns clients = (rest : List ℕ) × (turns ++ rest ≡ before c clients)

joined-there : (q : Queues) (team client of c : ℕ) (b : Bool) → may_join team client q ≡ b → is_in c (queue_of of q) ≡ true
    → (is_in c (queue_of of (cond b (joining team client q) q)) ≡ true) × (before c (queue_of of (cond b (joining team client q) q)) ≡ before c (queue_of of q))
joined-there q team client of c false may h = (h, refl)
joined-there q team client of c true may h =
    let below : team < length q.clients = ltb-true team (length q.clients) (and_parts (nat_lt team (length q.clients)) (not (slice_index_or q.waits client true)) may).0 in
    elim (cases_eq of team) as (λ _. (is_in c (queue_of of (joining team client q)) ≡ true) × (before c (queue_of of (joining team client q)) ≡ before c (queue_of of q))) [
      | inl e ↦
          let is : queue_of of (joining team client q) ≡ queue_of of q ++ client ∷ [] =
          ap (λ v. queue_of v (joining team client q)) e ∙ joined-same q team client below ∙ ap (λ v. queue_of v q ++ client ∷ []) (sym e) in
          (subst (λ xs. is_in c xs ≡ true) (sym is) (in-front c (queue_of of q) (client ∷ []) h), ap (before c) is ∙ before-push c (queue_of of q) client h)
      | inr o ↦ (subst (λ xs. is_in c xs ≡ true) (sym (joined-other q team client of o)) h, ap (before c) (joined-other q team client of o))
    ]

front-join : (q : Queues) (of c team client : ℕ) (more : List ℕ) → is_in c (queue_of of q) ≡ true
    → (is_in c (queue_of of (joined team client q)) ≡ true → Front c more (queue_of of (joined team client q))) → Front c more (queue_of of q)
front-join q of c team client more h later =
    let there = joined-there q team client of c (may_join team client q) refl h in
    let f = later there.0 in
    (f.0, f.1 ∙ there.1)

-- a turn of this team, and one of another
front-own : (q : Queues) (c : ℕ) (more : List ℕ) (stays : Bool) (t : HasTurn q) → is_in c (queue_of t.team q) ≡ true → (c ≡ t.client → ⊥)
    → (is_in c (queue_of t.team (turn_done stays q)) ≡ true → Front c more (queue_of t.team (turn_done stays q))) → Front c (t.client ∷ more) (queue_of t.team q)
front-own q c more stays t h n later =
    let is : queue_of t.team (turn_done stays q) ≡ first_done stays (t.client ∷ t.clients) = ap (queue_of t.team) (done q stays t) ∙ now-same q stays t in
    let m = moves c t.client t.clients stays (subst (λ xs. is_in c xs ≡ true) t.first_client h) n in
    let f = later (subst (λ xs. is_in c xs ≡ true) (sym is) m.there) in
    (f.0, ap (λ l. t.client ∷ l) (f.1 ∙ ap (before c) is) ∙ sym m.before_it ∙ ap (before c) (sym t.first_client))

front-turn : (q : Queues) (of c : ℕ) (more : List ℕ) (stays : Bool) → is_in c (queue_of of q) ≡ true → is_in c (client_of_turn of (next_turn q) ++ more) ≡ false
    → (is_in c (queue_of of (turn_done stays q)) ≡ true → is_in c more ≡ false → Front c more (queue_of of (turn_done stays q))) → Front c (client_of_turn of (next_turn q) ++ more) (queue_of of q)
front-turn q of c more stays h out later =
    let parts = out-both c (client_of_turn of (next_turn q)) more out in
    elim (whose q) as (λ _. Front c (client_of_turn of (next_turn q) ++ more) (queue_of of q)) [
      | inl none ↦
          let same = nobodys q stays none in
          let f = later (subst (λ (r : Queues). is_in c (queue_of of r) ≡ true) (sym same) h) parts.1 in
          (f.0, ap (λ (o : Option (ℕ × ℕ)). client_of_turn of o ++ more ++ f.0) none ∙ f.1 ∙ ap (λ (r : Queues). before c (queue_of of r)) same)
      | inr t ↦ elim (cases_eq t.team of) as (λ _. Front c (client_of_turn of (next_turn q) ++ more) (queue_of of q)) [
        | inl e ↦
            let turn : client_of_turn of (next_turn q) ≡ t.client ∷ [] =
            ap (client_of_turn of) t.next ∙ cond-true (t.team == of) (t.client ∷ []) [] (eq-eqb t.team of e) in
            let n : c ≡ t.client → ⊥ = λ g. true≢false (sym (or_left (c == t.client) false (eq-eqb c t.client g)) ∙ subst (λ xs. is_in c xs ≡ false) turn parts.0) in
            let f : Front c (t.client ∷ more) (queue_of of q) = subst (λ v. Front c (t.client ∷ more) (queue_of v q)) e
            (front-own q c more stays t (subst (λ v. is_in c (queue_of v q) ≡ true) (sym e) h) n
            (λ there. subst (λ v. Front c more (queue_of v (turn_done stays q))) (sym e) (later (subst (λ v. is_in c (queue_of v (turn_done stays q)) ≡ true) e there) parts.1))) in
            subst (λ xs. Front c (xs ++ more) (queue_of of q)) (sym turn) f
        | inr o ↦
            let turn : client_of_turn of (next_turn q) ≡ [] =
            ap (client_of_turn of) t.next ∙ cond-false (t.team == of) (t.client ∷ []) [] (ne_eqb t.team of o) in
            let same : queue_of of (turn_done stays q) ≡ queue_of of q = ap (queue_of of) (done q stays t) ∙ now-other q stays t of (λ g. o (sym g)) in
            let f = later (subst (λ xs. is_in c xs ≡ true) (sym same) h) parts.1 in
            subst (λ xs. Front c (xs ++ more) (queue_of of q)) (sym turn) (f.0, f.1 ∙ ap (before c) same)
      ]
    ]

pub client_front : (es : List TurnEvent) (q : Queues) (of c : ℕ) → is_in c (queue_of of q) ≡ true → is_in c (client_turns of es q) ≡ false → Front c (client_turns of es q) (queue_of of q)
client_front [] q of c h out = (before c (queue_of of q), refl)
client_front (Grows ∷ es) q of c h out = client_front es (after_event q Grows) of c h out
client_front (Joins team client ∷ es) q of c h out = front-join q of c team client (client_turns of es (joined team client q)) h (λ there. client_front es (joined team client q) of c there out)
client_front (Ends stays ∷ es) q of c h out = front-turn q of c (client_turns of es (turn_done stays q)) stays h out (λ there no. client_front es (turn_done stays q) of c there no)

pub clients_fair : (q : Queues) → Fine q → ClientsTakeTurns q
clients_fair q fine = λ es team client other h out.
    let f = client_front es q team client h out in front-once other client (client_turns team es q) f.0 (queue_of team q) (fine.apart team) f.1

pub fine_start : (teams : ℕ) → Fine (no_client teams)
fine_start teams = record {
  apart = λ u. distinct-at teams u;
  below = λ u c h. absurd (true≢false (sym h ∙ none-at teams u c));
  waits = λ u c h. absurd (true≢false (sym h ∙ none-at teams u c));
  one = λ t u c h g. absurd (true≢false (sym h ∙ none-at teams t c));
}
