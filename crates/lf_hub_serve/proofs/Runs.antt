-- The events of a service, as a run of the machine, and what follows for clients and the journal.
use Rattle.std.proofs.Common.{◌≡◌, ◌<◌, ℕ, suc, Bool, true, false, cond, nat_lt, List, [], ◌∷◌, ◌++◌, length, take, refl, sym, ap, subst, ◌∙◌, inl, inr, arith, append_assoc, append-nil}
use Rattle.std.specs.Prelude.{◌==◌, ◌+◌}
use Rattle.std.specs.List.{flat_map}
use Rattle.std.proofs.lemmas.Grind.{flat_map-append}
use Rattle.std.proofs.lemmas.Bool.{eqb-true, false≢true}
use Rattle.lf_hub_clients.specs.declared.client.Access.{Access}
use Rattle.lf_hub_clients.specs.declared.client.Stage.{Stage}
use Rattle.lf_hub_clients.specs.declared.client.Stage.TheVariants.{Open, Done, Leaving, Free}
use Rattle.lf_hub_clients.specs.Connections.{is_open}
use Rattle.lf_hub_clients.specs.Lines.{line_begun, lines_after, lines_sent}
use Rattle.lf_hub_clients.specs.Turns.{Turn}
use Rattle.lf_hub.specs.Machine.{Hub, HubEvent, Opens, Comes, Answers, Closes, Syncs, Sends, Leaves, Frees, after, May, connection_at, is_live, record_text}
use Rattle.lf_hub.specs.World.{World, IsPrefixOf, happens, run, Runs, start, number_at, own_lines, own_replies, turns_in}
use Rattle.lf_hub.specs.Laws.{ActInTurn, ForOwnTeams}
use Rattle.lf_hub.proofs.Crash.{follow-run}
use Rattle.lf_hub.proofs.Kept.{AllOld, Kept, kept_next, kept_run, kept_start, teams_run}
use Rattle.lf_hub.proofs.Slots.{each, entry-same, entry-other}
use Rattle.lf_hub.proofs.Steps.{lines-append}
use Rattle.lf_hub_wire.specs.Calls.{Call, Accepted, Numbered, Came, Ended, Sent, Closed, Ordered, Told, ComesBy, came_after, came_from, came_with, line_end, numbers_by, numbers_in, sent_by, sent_to}
use Rattle.lf_hub_serve.specs.Serving.{Service, Happens, Follow, Serves, Breaks, IsOnWire, brings, saved_by, end_of_line}
use Rattle.lf_hub_serve.specs.Served.{ForSockets, IsNew, IsServed, numbers_below, records_of}
use Rattle.lf_hub_serve.specs.Servers.{service_of}
use Rattle.lf_hub_serve.specs.declared.server.Server.{Server}

open_is_live : (s : Stage) → is_open s ≡ true → is_live s ≡ true
open_is_live Open h = refl
open_is_live Done h = absurd (false≢true h)
open_is_live Leaving h = absurd (false≢true h)
open_is_live Free h = absurd (false≢true h)

-- ---- calls, one after the other

sent-append : (n : ℕ) (a b : List Call) → sent_to n (a ++ b) ≡ sent_to n a ++ sent_to n b
sent-append n [] b = refl
sent-append n (c ∷ a) b = ap (λ l. sent_by n c ++ l) (sent-append n a b) ∙ sym (append_assoc (sent_by n c) (sent_to n a) (sent_to n b))

came-append : (n : ℕ) (before : List ℕ) (a b : List Call) → came_after n before (a ++ b) ≡ came_after n (came_after n before a) b
came-append n before [] b = refl
came-append n before (c ∷ a) b = came-append n (came_with n before c) a b

numbers-append : (a b : List Call) → numbers_in (a ++ b) ≡ numbers_in a ++ numbers_in b
numbers-append [] b = refl
numbers-append (c ∷ a) b = ap (λ l. numbers_by c ++ l) (numbers-append a b) ∙ sym (append_assoc (numbers_by c) (numbers_in a) (numbers_in b))

comes-more : (n team : ℕ) (access : Access) (a b : List Call) → ComesBy n team access a → ComesBy n team access (a ++ b)
comes-more n team access a b c =
    (c.0, c.1 ++ b, ap (λ (l : List Call). l ++ b) c.2 ∙ append_assoc c.0 (Accepted team access ∷ Numbered n ∷ c.1) b)

-- a world shows the same as a service
record Agrees {S : Type 0} (w : World) (s : Service S) : Type 0 where
  hub : s.hub ≡ w.hub
  came : (n : ℕ) → came_from n s.calls ≡ w.came n
  sent : (n : ℕ) → sent_to n s.calls ≡ w.sent n
  numbers : numbers_in s.calls ≡ numbers_below w.hub.made
  sockets : (n : ℕ) → n < w.hub.made → ComesBy n (w.team n) (w.access n) s.calls
  saved : s.saved ≡ flat_map record_text w.synced

happened : (w : World) (e : HubEvent) → (happens w e).hub ≡ after w.hub e
happened w (Opens slot team access) = refl
happened w (Comes slot bytes) = refl
happened w (Answers slot t) = refl
happened w (Closes slot s t) = refl
happened w Syncs = refl
happened w (Sends slot count) = refl
happened w (Leaves slot) = refl
happened w (Frees slot) = refl

-- ---- what was sent

sent-more : (w : World) (n m : ℕ) (bytes : List ℕ) (b : Bool) → (n == m) ≡ b
    → w.sent n ++ (cond b bytes [] ++ []) ≡ cond b (w.sent m ++ bytes) (w.sent n)
sent-more w n m bytes true e = ap (λ l. w.sent n ++ l) (append-nil bytes) ∙ ap (λ k. w.sent k ++ bytes) (eqb-true n m e)
sent-more w n m bytes false e = append-nil (w.sent n)

-- the calls of an event send what it sends
sent-by : (n : ℕ) (w : World) (e : HubEvent) (made : List Call) → IsOnWire w.hub e made → w.sent n ++ sent_to n made ≡ (happens w e).sent n
sent-by n w (Opens slot team access) made is = ap (λ l. w.sent n ++ sent_to n l) is ∙ append-nil (w.sent n)
sent-by n w (Comes slot bytes) made is = elim is as (λ _. w.sent n ++ sent_to n made ≡ w.sent n) [
  | inl came ↦ ap (λ l. w.sent n ++ sent_to n l) came ∙ append-nil (w.sent n)
  | inr ended ↦ ap (λ l. w.sent n ++ sent_to n l) ended.0 ∙ append-nil (w.sent n)
]
sent-by n w (Answers slot t) made is = ap (λ l. w.sent n ++ sent_to n l) is ∙ append-nil (w.sent n)
sent-by n w (Closes slot s t) made is = ap (λ l. w.sent n ++ sent_to n l) is ∙ append-nil (w.sent n)
sent-by n w Syncs made is = ap (λ l. w.sent n ++ sent_to n l) is ∙ append-nil (w.sent n)
sent-by n w (Sends slot count) made is =
    ap (λ l. w.sent n ++ sent_to n l) is
    ∙ sent-more w n (number_at slot w) (take count (connection_at slot w.hub.slots).ready) (n == number_at slot w) refl
sent-by n w (Leaves slot) made is = ap (λ l. w.sent n ++ sent_to n l) is ∙ append-nil (w.sent n)
sent-by n w (Frees slot) made is = ap (λ l. w.sent n ++ sent_to n l) is ∙ append-nil (w.sent n)

-- ---- what came

came-more : (w : World) (n m : ℕ) (bytes : List ℕ) (b : Bool) → (n == m) ≡ b → cond b (w.came n ++ bytes) (w.came n) ≡ cond b (w.came m ++ bytes) (w.came n)
came-more w n m bytes true e = ap (λ k. w.came k ++ bytes) (eqb-true n m e)
came-more w n m bytes false e = refl

came-end : (w : World) (n m : ℕ) (bytes : List ℕ) (b : Bool) → (n == m) ≡ b → bytes ≡ line_end (w.came m)
    → cond b (w.came n ++ line_end (w.came n)) (w.came n) ≡ cond b (w.came m ++ bytes) (w.came n)
came-end w n m bytes true e is = ap (λ k. w.came k ++ line_end (w.came k)) (eqb-true n m e) ∙ ap (λ l. w.came m ++ l) (sym is)
came-end w n m bytes false e is = refl

-- the line that a client has begun is the one that the bytes from it have begun
feed-is : (w : World) (slot : ℕ) → Kept w → slot < length w.hub.slots → is_open (connection_at slot w.hub.slots).stage ≡ true
    → end_of_line (connection_at slot w.hub.slots) ≡ line_end (w.came (number_at slot w))
feed-is w slot kept below is =
    ap (λ (b : List ℕ). cond (nat_lt 0 (length b)) (10 ∷ []) []) ((kept.slots slot below).begun (open_is_live (connection_at slot w.hub.slots).stage is))

came-by : (n : ℕ) (w : World) (e : HubEvent) (made : List Call) → Kept w → May w.hub e → IsOnWire w.hub e made → came_after n (w.came n) made ≡ (happens w e).came n
came-by n w (Opens slot team access) made kept may is = ap (came_after n (w.came n)) is
came-by n w (Comes slot bytes) made kept may is = elim is as (λ _. came_after n (w.came n) made ≡ (happens w (Comes slot bytes)).came n) [
  | inl came ↦ ap (came_after n (w.came n)) came ∙ came-more w n (number_at slot w) bytes (n == number_at slot w) refl
  | inr ended ↦ ap (came_after n (w.came n)) ended.0
      ∙ came-end w n (number_at slot w) bytes (n == number_at slot w) refl (ended.2 ∙ feed-is w slot kept may.0 ended.1)
]
came-by n w (Answers slot t) made kept may is = ap (came_after n (w.came n)) is
came-by n w (Closes slot s t) made kept may is = ap (came_after n (w.came n)) is
came-by n w Syncs made kept may is = ap (came_after n (w.came n)) is
came-by n w (Sends slot count) made kept may is = ap (came_after n (w.came n)) is
came-by n w (Leaves slot) made kept may is = ap (came_after n (w.came n)) is
came-by n w (Frees slot) made kept may is = ap (came_after n (w.came n)) is

-- ---- who came

numbers-by : (w : World) (e : HubEvent) (made : List Call) → IsOnWire w.hub e made → numbers_below w.hub.made ++ numbers_in made ≡ numbers_below (happens w e).hub.made
numbers-by w (Opens slot team access) made is =
    let next : w.hub.made + 1 ≡ suc w.hub.made = omega arith in
    ap (λ l. numbers_below w.hub.made ++ numbers_in l) is ∙ sym (ap numbers_below next)
numbers-by w (Comes slot bytes) made is = elim is as (λ _. numbers_below w.hub.made ++ numbers_in made ≡ numbers_below w.hub.made) [
  | inl came ↦ ap (λ l. numbers_below w.hub.made ++ numbers_in l) came ∙ append-nil (numbers_below w.hub.made)
  | inr ended ↦ ap (λ l. numbers_below w.hub.made ++ numbers_in l) ended.0 ∙ append-nil (numbers_below w.hub.made)
]
numbers-by w (Answers slot t) made is = ap (λ l. numbers_below w.hub.made ++ numbers_in l) is ∙ append-nil (numbers_below w.hub.made)
numbers-by w (Closes slot s t) made is = ap (λ l. numbers_below w.hub.made ++ numbers_in l) is ∙ append-nil (numbers_below w.hub.made)
numbers-by w Syncs made is = ap (λ l. numbers_below w.hub.made ++ numbers_in l) is ∙ append-nil (numbers_below w.hub.made)
numbers-by w (Sends slot count) made is = ap (λ l. numbers_below w.hub.made ++ numbers_in l) is ∙ append-nil (numbers_below w.hub.made)
numbers-by w (Leaves slot) made is = ap (λ l. numbers_below w.hub.made ++ numbers_in l) is ∙ append-nil (numbers_below w.hub.made)
numbers-by w (Frees slot) made is = ap (λ l. numbers_below w.hub.made ++ numbers_in l) is ∙ append-nil (numbers_below w.hub.made)

abbrev pub AllCome : World → List Call → Type 0
AllCome w calls = (n : ℕ) → n < w.hub.made → ComesBy n (w.team n) (w.access n) calls

comes-first : (w : World) (slot team : ℕ) (access : Access) (calls made : List Call) → made ≡ Accepted team access ∷ Numbered w.hub.made ∷ []
    → AllCome w calls → AllCome (happens w (Opens slot team access)) (calls ++ made)
comes-first w slot team access calls made is all n below =
    each (λ m. m < w.hub.made + 1 → ComesBy m ((happens w (Opens slot team access)).team m) ((happens w (Opens slot team access)).access m) (calls ++ made)) n w.hub.made
    (λ _. subst (λ (t : ℕ). ComesBy w.hub.made t ((happens w (Opens slot team access)).access w.hub.made) (calls ++ made)) (sym (entry-same w.hub.made team (w.team w.hub.made)))
    (subst (λ (a : Access). ComesBy w.hub.made team a (calls ++ made)) (sym (entry-same w.hub.made access (w.access w.hub.made)))
    (calls, [], ap (λ (l : List Call). calls ++ l) is)))
    (λ other _. subst (λ (t : ℕ). ComesBy n t ((happens w (Opens slot team access)).access n) (calls ++ made)) (sym (entry-other n w.hub.made team (w.team n) other))
    (subst (λ (a : Access). ComesBy n (w.team n) a (calls ++ made)) (sym (entry-other n w.hub.made access (w.access n) other))
    (comes-more n (w.team n) (w.access n) calls made (all n (omega (arith, below, other))))))
    below

comes-still : (w : World) (calls made : List Call) → AllCome w calls → AllCome w (calls ++ made)
comes-still w calls made all n below = comes-more n (w.team n) (w.access n) calls made (all n below)

sockets-by : (w : World) (e : HubEvent) (calls made : List Call) → IsOnWire w.hub e made → AllCome w calls → AllCome (happens w e) (calls ++ made)
sockets-by w (Opens slot team access) calls made is all = comes-first w slot team access calls made is all
sockets-by w (Comes slot bytes) calls made is all = comes-still w calls made all
sockets-by w (Answers slot t) calls made is all = comes-still w calls made all
sockets-by w (Closes slot s t) calls made is all = comes-still w calls made all
sockets-by w Syncs calls made is all = comes-still w calls made all
sockets-by w (Sends slot count) calls made is all = comes-still w calls made all
sockets-by w (Leaves slot) calls made is all = comes-still w calls made all
sockets-by w (Frees slot) calls made is all = comes-still w calls made all

-- each line was answered for the team of a socket
for-sockets : (w : World) (calls : List Call) (ts : List Turn) → AllCome w calls → AllOld w.hub.made ts → ForOwnTeams w.team w.access ts → ForSockets calls ts
for-sockets w calls [] all old own = tt
for-sockets w calls (t ∷ ts) all old own =
    ((w.access t.number, subst (λ (team : ℕ). ComesBy t.number team (w.access t.number) calls) (sym own.0) (all t.number old.0), own.1), for-sockets w calls ts all old.1 own.2)

more-sockets : (calls more : List Call) (ts : List Turn) → ForSockets calls ts → ForSockets (calls ++ more) ts
more-sockets calls more [] p = tt
more-sockets calls more (t ∷ ts) p = ((p.0.0, comes-more t.number t.team p.0.0 calls more p.0.1, p.0.2), more-sockets calls more ts p.1)

-- ---- what was saved

saved-by : (w : World) (e : HubEvent) → w.hub.records ≡ flat_map record_text w.written
    → flat_map record_text w.synced ++ saved_by w.hub e ≡ flat_map record_text (happens w e).synced
saved-by w (Opens slot team access) text = append-nil (flat_map record_text w.synced)
saved-by w (Comes slot bytes) text = append-nil (flat_map record_text w.synced)
saved-by w (Answers slot t) text = append-nil (flat_map record_text w.synced)
saved-by w (Closes slot s t) text = append-nil (flat_map record_text w.synced)
saved-by w Syncs text = ap (λ l. flat_map record_text w.synced ++ l) text ∙ sym (flat_map-append record_text w.synced w.written)
saved-by w (Sends slot count) text = append-nil (flat_map record_text w.synced)
saved-by w (Leaves slot) text = append-nil (flat_map record_text w.synced)
saved-by w (Frees slot) text = append-nil (flat_map record_text w.synced)

-- a hub with no client, before its first round
abbrev pub beginning : {S : Type 0} → S → Service S
beginning floor = record { hub = start.hub; floor = floor; calls = []; saved = [] }

-- ---- a call that brings what is lost

more-if : (b : Bool) (before bytes : List ℕ) → (more : List ℕ) × (cond b (before ++ bytes) before ≡ before ++ more)
more-if true before bytes = (bytes, refl)
more-if false before bytes = ([], sym (append-nil before))

came-grows : (n : ℕ) (before : List ℕ) (call : Call) → (more : List ℕ) × (came_with n before call ≡ before ++ more)
came-grows n before (Accepted team access) = ([], sym (append-nil before))
came-grows n before (Numbered m) = ([], sym (append-nil before))
came-grows n before (Came m bytes) = more-if (n == m) before bytes
came-grows n before (Ended m) = more-if (n == m) before (line_end before)
came-grows n before (Sent m bytes) = ([], sym (append-nil before))
came-grows n before (Closed m) = ([], sym (append-nil before))
came-grows n before (Ordered line) = ([], sym (append-nil before))
came-grows n before (Told reply) = ([], sym (append-nil before))

brought-is-unsent : (n : ℕ) (call : Call) → brings call ≡ true → sent_by n call ≡ []
brought-is-unsent n (Accepted team access) b = refl
brought-is-unsent n (Numbered m) b = refl
brought-is-unsent n (Came m bytes) b = refl
brought-is-unsent n (Ended m) b = refl
brought-is-unsent n (Sent m bytes) b = absurd (false≢true b)
brought-is-unsent n (Closed m) b = refl
brought-is-unsent n (Ordered line) b = refl
brought-is-unsent n (Told reply) b = refl

brought-has-no-number : (call : Call) → brings call ≡ true → numbers_by call ≡ []
brought-has-no-number (Accepted team access) b = refl
brought-has-no-number (Numbered m) b = absurd (false≢true b)
brought-has-no-number (Came m bytes) b = refl
brought-has-no-number (Ended m) b = refl
brought-has-no-number (Sent m bytes) b = refl
brought-has-no-number (Closed m) b = refl
brought-has-no-number (Ordered line) b = refl
brought-has-no-number (Told reply) b = refl

lines-grow : (lines : List (List ℕ)) (before more all : List ℕ) → all ≡ before ++ more → IsPrefixOf lines (lines_sent before) → IsPrefixOf lines (lines_sent all)
lines-grow lines before more all e p = (
  p.0 ++ lines_after (line_begun before) more,
  sym (append_assoc lines p.0 (lines_after (line_begun before) more)) ∙ ap (λ (l : List (List ℕ)). l ++ lines_after (line_begun before) more) p.1
      ∙ sym (lines-append [] before more) ∙ ap lines_sent (sym e),
)

module _ {S : Type 0} (takes : S → Turn → S → Type 0) where
  agree-step : (w : World) (e : HubEvent) (s t : Service S) → Kept w → May w.hub e → Agrees w s → Happens takes s e t → Agrees (happens w e) t
  agree-step w e s t kept may a h =
      let wire : IsOnWire w.hub e h.made = subst (λ (g : Hub). IsOnWire g e h.made) a.hub h.on_wire in
      record {
        hub = h.hub ∙ ap (λ (g : Hub). after g e) a.hub ∙ sym (happened w e);
        came = λ n. ap (came_from n) h.calls ∙ came-append n [] s.calls h.made ∙ ap (λ l. came_after n l h.made) (a.came n) ∙ came-by n w e h.made kept may wire;
        sent = λ n. ap (sent_to n) h.calls ∙ sent-append n s.calls h.made ∙ ap (λ l. l ++ sent_to n h.made) (a.sent n) ∙ sent-by n w e h.made wire;
        numbers = ap numbers_in h.calls ∙ numbers-append s.calls h.made ∙ ap (λ l. l ++ numbers_in h.made) a.numbers ∙ numbers-by w e h.made wire;
        sockets = subst (AllCome (happens w e)) (sym h.calls) (sockets-by w e s.calls h.made wire a.sockets);
        saved = h.saved ∙ ap (λ l. l ++ saved_by s.hub e) a.saved ∙ ap (λ (g : Hub). flat_map record_text w.synced ++ saved_by g e) a.hub ∙ saved-by w e kept.journal.text;
      }

  -- the events that have led to a service, from a world
  record RunsTo (w : World) (s : Service S) (es : List HubEvent) (t : Service S) : Type 0 where
    runs : Runs es w
    acts : ActInTurn takes s.floor es t.floor
    agrees : Agrees (run es w) t

  runs-to : (es : List HubEvent) (w : World) (s t : Service S) → Kept w → Agrees w s → Follow takes s es t → RunsTo w s es t
  runs-to [] w s t kept a f = record {
    runs = tt;
    acts = ap (λ (u : Service S). u.floor) f;
    agrees = subst (Agrees w) (sym f) a;
  }
  runs-to (e ∷ es) w s t kept a f =
      let may : May w.hub e = subst (λ (g : Hub). May g e) a.hub f.1.may in
      let rest = runs-to es (happens w e) f.0 t (kept_next w e kept may) (agree-step w e s f.0 kept may a f.1) f.2 in
      record {
        runs = (may, rest.runs);
        acts = (f.0.floor, f.1.floor, rest.acts);
        agrees = rest.agrees;
      }

  -- what holds of a hub, and the records in its journal and those that it has
  pub record ServedSo (floor : S) (new : Service S) : Type 0 where
    pub safe : List Turn
    pub held : List Turn
    pub served : IsServed takes floor new.calls safe held new.floor
    pub saved : new.saved ≡ records_of safe
    pub unsaved : new.hub.records ≡ records_of held

  whole : (floor : S) (new : Service S) → Serves takes (beginning floor) new → ServedSo floor new
  whole floor new f =
      let all = runs-to f.0 start (beginning floor) new kept_start
      (record { hub = refl; came = λ n. refl; sent = λ n. refl; numbers = refl; sockets = λ n h. absurd (omega (arith, h)); saved = refl }) f.1 in
      let w = run f.0 start in
      let kept : Kept w = kept_run f.0 start kept_start all.runs in
      let teams = teams_run f.0 start kept_start all.runs (tt, tt) in
      let a = all.agrees in
      record {
        safe = w.safe;
        held = w.held;
        served = record {
          numbers = (w.hub.made, a.numbers);
          sockets = for-sockets w new.calls (turns_in w) a.sockets teams.0 teams.1;
          lines = λ n. subst (λ (l : List ℕ). IsPrefixOf (own_lines n (turns_in w)) (lines_sent l)) (sym (a.came n)) (kept.lines n);
          replies = λ n. subst (λ (l : List ℕ). IsPrefixOf l (own_replies n w.safe)) (sym (a.sent n)) (kept.replies n);
          floor = follow-run takes f.0 start floor floor new.floor refl all.acts;
        };
        saved = a.saved ∙ ap (flat_map record_text) kept.journal.synced;
        unsaved = ap (λ (h : Hub). h.records) a.hub ∙ kept.journal.text ∙ ap (flat_map record_text) kept.journal.written;
      }

  -- the same where one call more has brought what is lost
  one-lost : (floor : S) (last : Service S) (call : Call) → brings call ≡ true → ServedSo floor last → ServedSo floor (record last { calls = last.calls ++ call ∷ [] })
  one-lost floor last call is so =
      let grows : (n : ℕ) → (more : List ℕ) × (came_with n (came_from n last.calls) call ≡ came_from n last.calls ++ more) = λ n. came-grows n (came_from n last.calls) call in
      record {
        safe = so.safe;
        held = so.held;
        served = record {
          numbers = (
            so.served.numbers.0,
            numbers-append last.calls (call ∷ []) ∙ ap (λ l. numbers_in last.calls ++ (l ++ [])) (brought-has-no-number call is)
                ∙ append-nil (numbers_in last.calls) ∙ so.served.numbers.1,
          );
          sockets = more-sockets last.calls (call ∷ []) (so.safe ++ so.held) so.served.sockets;
          lines = λ n. lines-grow (own_lines n (so.safe ++ so.held)) (came_from n last.calls) (grows n).0 (came_from n (last.calls ++ call ∷ []))
              (came-append n [] last.calls (call ∷ []) ∙ (grows n).1) (so.served.lines n);
          replies = λ n. subst (λ (l : List ℕ). IsPrefixOf l (own_replies n so.safe))
              (sym (sent-append n last.calls (call ∷ []) ∙ ap (λ l. sent_to n last.calls ++ (l ++ [])) (brought-is-unsent n call is) ∙ append-nil (sent_to n last.calls)))
              (so.served.replies n);
          floor = so.served.floor;
        };
        saved = so.saved;
        unsaved = so.unsaved;
      }

  pub served_so : (floor : S) (new : Service S) → Breaks takes (beginning floor) new → ServedSo floor new
  served_so floor new b =
      let last = whole floor b.last b.serves in
      elim b.brought as (λ _. ServedSo floor new) [
        | inl none ↦ subst (ServedSo floor)
            (sym (b.is ∙ ap (λ (l : List Call). record b.last { calls = b.last.calls ++ l }) none ∙ ap (λ (l : List Call). record b.last { calls = l }) (append-nil b.last.calls))) last
        | inr some ↦ subst (ServedSo floor) (sym (b.is ∙ ap (λ (l : List Call). record b.last { calls = b.last.calls ++ l }) some.2))
            (one-lost floor b.last some.0 some.1 last)
      ]

-- the same of servers
pub hub_served : {F W : Type 0} (takes : F → Turn → F → Type 0) (calls : W → List Call) (old new : Server F W) (saved : List ℕ)
    → IsNew calls old → Breaks takes (service_of calls old []) (service_of calls new saved) → ServedSo takes old.floor (service_of calls new saved)
hub_served {F = F} takes calls old new saved is b =
    served_so takes old.floor (service_of calls new saved) (subst (λ (s : Service F). Breaks takes s (service_of calls new saved))
    (ap (λ (h : Hub). record { hub = h; floor = old.floor; calls = calls old.wire; saved = [] }) is.hub
    ∙ ap (λ (l : List Call). record { hub = start.hub; floor = old.floor; calls = l; saved = [] }) is.wire) b)
