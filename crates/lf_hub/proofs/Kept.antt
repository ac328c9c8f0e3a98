-- What every event keeps: each client's lines and replies are its own, and the journal is exact.
use Rattle.std.proofs.Common.{◌≡◌, ◌≢◌, ℕ, zero, suc, ◌<◌, ◌≤◌, ◌+◌, Bool, true, false, cond, nat_lt, List, [], ◌∷◌, ◌++◌, length, take, drop, refl, sym, ap, subst, ◌∙◌, arith, append_assoc, append-nil}
use Rattle.std.specs.Prelude.{◌==◌, ◌&&◌, ◌||◌, flat_map}
use Rattle.std.proofs.lemmas.Bool.{and_parts, false≢true, true≢false, or_left, or_parts, or_from, eq-eqb}
use Rattle.std.proofs.lemmas.List.{take-append-drop}
use Rattle.std.proofs.lemmas.List.Elements.{filter-append}
use Rattle.std.proofs.lemmas.Grind.{flat_map-append}
use Rattle.lf_hub_clients.specs.declared.client.Access.{Access}
use Rattle.lf_hub_clients.specs.declared.client.Stage.{Stage}
use Rattle.lf_hub_clients.specs.declared.client.Stage.TheVariants.{Open, Done, Leaving, Free}
use Rattle.lf_hub_clients.specs.declared.floor.Outcome.{Outcome}
use Rattle.lf_hub_clients.specs.declared.floor.Outcome.TheVariants.{Unchanged, Changed, Opened, Closed, Named, Ended}
use Rattle.lf_hub_clients.specs.Connections.{Connection, new_connection, with_bytes, with_answer, released, after_sending, leaving, freed, may_answer, is_open, stage_after, turn_of, unsent_limit}
use Rattle.lf_hub_clients.specs.Lines.{lines_sent, line_begun, lines_after, begun_after}
use Rattle.lf_hub_clients.specs.Turns.{Turn}
use Rattle.lf_hub.specs.declared.open_sessions.OpenSession.{OpenSession}
use Rattle.lf_hub.specs.Machine.{Hub, HubEvent, Opens, Comes, Answers, Closes, Syncs, Sends, Leaves, Frees, after, May, connection_at, changed_at, put_at, released_at, is_live, accepted, is_accepted, record_text, record_of}
use Rattle.lf_hub.specs.World.{World, happens, run, Runs, start, turns_in, own_lines, own_replies, is_line_of, IsPrefixOf, with_entry, number_at}
use Rattle.lf_hub.specs.Laws.{LinesAreOwn, RepliesAreOwn, JournalIsExact, ForOwnTeams}
use Rattle.lf_hub.proofs.Slots.{each, changed-same, changed-other, changed-length, entry-same, entry-other, put-same, put-other, put-length, is_in, released-length, released-all}
use Rattle.lf_hub.proofs.Steps.{lines-append, begun-append, own_lines-append, own_replies-append, is-own, not-own, not-sent, lines-mine, lines-other, replies-mine, replies-other, turns-push}

-- ---- stages

open_is_live : (s : Stage) → is_open s ≡ true → is_live s ≡ true
open_is_live Open h = refl
open_is_live Done h = absurd (false≢true h)
open_is_live Leaving h = absurd (false≢true h)
open_is_live Free h = absurd (false≢true h)

pub answering-is-live : (c : Connection) → may_answer c ≡ true → is_live c.stage ≡ true
answering-is-live c h =
    open_is_live c.stage (and_parts (is_open c.stage) (nat_lt 0 (length c.lines)) (and_parts (is_open c.stage && nat_lt 0 (length c.lines)) (nat_lt (length c.ready + length c.held) unsent_limit) h).0).0

pub after_live : (o : Outcome) (s : Stage) → is_live s ≡ true → is_live (stage_after o s) ≡ true
after_live Unchanged s h = h
after_live Changed s h = h
after_live (Opened n) s h = h
after_live (Closed n) s h = h
after_live Named s h = h
after_live Ended s h = refl

-- ---- one connection

pub record SlotKept (w : World) (c : Connection) : Type 0 where
  pub old : c.number < w.hub.made
  pub lines : is_live c.stage ≡ true → own_lines c.number (turns_in w) ++ c.lines ≡ lines_sent (w.came c.number)
  pub begun : is_live c.stage ≡ true → c.begun ≡ line_begun (w.came c.number)
  pub ready : is_live c.stage ≡ true → w.sent c.number ++ c.ready ≡ own_replies c.number w.safe
  pub held : is_live c.stage ≡ true → c.held ≡ own_replies c.number w.held
  pub gone : is_live c.stage ≡ false → c.ready ≡ []
  pub gone_held : is_live c.stage ≡ false → c.held ≡ []
  pub team : w.team c.number ≡ c.team
  pub access : w.access c.number ≡ c.access

-- an event is about other connections than this one
pub record Agrees (w v : World) (n : ℕ) : Type 0 where
  pub made : w.hub.made ≤ v.hub.made
  pub team : v.team n ≡ w.team n
  pub access : v.access n ≡ w.access n
  pub came : v.came n ≡ w.came n
  pub sent : v.sent n ≡ w.sent n
  pub lines : own_lines n (turns_in v) ≡ own_lines n (turns_in w)
  pub safe : own_replies n v.safe ≡ own_replies n w.safe
  pub held : own_replies n v.held ≡ own_replies n w.held

pub agreeing : (w v : World) (c : Connection) → Agrees w v c.number → SlotKept w c → SlotKept v c
agreeing w v c a k = record {
  old = omega (arith, k.old, a.made);
  lines = λ live. ap (λ l. l ++ c.lines) a.lines ∙ k.lines live ∙ sym (ap lines_sent a.came);
  begun = λ live. k.begun live ∙ sym (ap line_begun a.came);
  ready = λ live. ap (λ l. l ++ c.ready) a.sent ∙ k.ready live ∙ sym a.safe;
  held = λ live. k.held live ∙ sym a.held;
  gone = k.gone;
  gone_held = k.gone_held;
  team = a.team ∙ k.team;
  access = a.access ∙ k.access;
}

-- no connection has had this number yet
pub record IsFresh (w : World) (n : ℕ) : Type 0 where
  pub lines : own_lines n (turns_in w) ≡ []
  pub safe : own_replies n w.safe ≡ []
  pub held : own_replies n w.held ≡ []
  pub came : w.came n ≡ []
  pub sent : w.sent n ≡ []

pub agreeing-fresh : (w v : World) (n : ℕ) → Agrees w v n → IsFresh w n → IsFresh v n
agreeing-fresh w v n a f = record { lines = a.lines ∙ f.lines; safe = a.safe ∙ f.safe; held = a.held ∙ f.held; came = a.came ∙ f.came; sent = a.sent ∙ f.sent }

-- the numbers of all lines were given before
abbrev pub AllOld : ℕ → List Turn → Type 0
AllOld made [] = Unit {0}
AllOld made (t ∷ ts) = (t.number < made) × AllOld made ts

-- ---- all of a world

pub record Kept (w : World) : Type 0 where
  pub slots : (i : ℕ) → i < length w.hub.slots → SlotKept w (connection_at i w.hub.slots)
  pub apart : (i j : ℕ) → i < length w.hub.slots → j < length w.hub.slots → (i ≡ j → ⊥) → (connection_at i w.hub.slots).number ≡ (connection_at j w.hub.slots).number → ⊥
  pub fresh : (n : ℕ) → w.hub.made ≤ n → IsFresh w n
  pub lines : (n : ℕ) → IsPrefixOf (own_lines n (turns_in w)) (lines_sent (w.came n))
  pub replies : (n : ℕ) → IsPrefixOf (w.sent n) (own_replies n w.safe)
  pub held : (i : ℕ) → i < length w.hub.slots → is_in i w.hub.answered ≡ false → (connection_at i w.hub.slots).held ≡ []
  pub journal : JournalIsExact w

-- one connection changes, and the others agree
module _ (w v : World) (k : ℕ) (f : Connection → Connection) where
  same-number : k < length w.hub.slots → (f (connection_at k w.hub.slots)).number ≡ (connection_at k w.hub.slots).number
      → (i : ℕ) → (connection_at i (changed_at k f w.hub.slots)).number ≡ (connection_at i w.hub.slots).number
  same-number below number i =
      each (λ j. (connection_at j (changed_at k f w.hub.slots)).number ≡ (connection_at j w.hub.slots).number) i k
      (ap (λ (c : Connection). c.number) (changed-same w.hub.slots k f below) ∙ number)
      (λ n. ap (λ (c : Connection). c.number) (changed-other w.hub.slots i k f n))

  changed-slot : Kept w → k < length w.hub.slots → SlotKept v (f (connection_at k w.hub.slots))
      → ((n : ℕ) → (n ≡ (connection_at k w.hub.slots).number → ⊥) → Agrees w v n)
      → (i : ℕ) → i < length w.hub.slots → SlotKept v (connection_at i (changed_at k f w.hub.slots))
  changed-slot kept below here others i was =
      each (λ j. SlotKept v (connection_at j (changed_at k f w.hub.slots))) i k
      (subst (SlotKept v) (sym (changed-same w.hub.slots k f below)) here)
      (λ n. subst (SlotKept v) (sym (changed-other w.hub.slots i k f n))
      (agreeing w v (connection_at i w.hub.slots) (others (connection_at i w.hub.slots).number (kept.apart i k was below n)) (kept.slots i was)))

  changed-held : Kept w → k < length w.hub.slots → ((i : ℕ) → is_in i v.hub.answered ≡ false → is_in i w.hub.answered ≡ false)
      → (is_in k v.hub.answered ≡ false → (f (connection_at k w.hub.slots)).held ≡ [])
      → (i : ℕ) → i < length w.hub.slots → is_in i v.hub.answered ≡ false → (connection_at i (changed_at k f w.hub.slots)).held ≡ []
  changed-held kept below answered here i was =
      each (λ j. is_in j v.hub.answered ≡ false → (connection_at j (changed_at k f w.hub.slots)).held ≡ []) i k
      (λ out. ap (λ (c : Connection). c.held) (changed-same w.hub.slots k f below) ∙ here out)
      (λ n out. ap (λ (c : Connection). c.held) (changed-other w.hub.slots i k f n) ∙ kept.held i was (answered i out))

-- a world in which one connection has changed
pub record Change (w v : World) (k : ℕ) (f : Connection → Connection) : Type 0 where
  pub below : k < length w.hub.slots
  pub slots : v.hub.slots ≡ changed_at k f w.hub.slots
  pub number : (f (connection_at k w.hub.slots)).number ≡ (connection_at k w.hub.slots).number
  pub here : SlotKept v (f (connection_at k w.hub.slots))
  pub others : (n : ℕ) → (n ≡ (connection_at k w.hub.slots).number → ⊥) → Agrees w v n
  pub made : w.hub.made ≤ v.hub.made
  pub lines : IsPrefixOf (own_lines (connection_at k w.hub.slots).number (turns_in v)) (lines_sent (v.came (connection_at k w.hub.slots).number))
  pub replies : IsPrefixOf (v.sent (connection_at k w.hub.slots).number) (own_replies (connection_at k w.hub.slots).number v.safe)
  pub answered : (i : ℕ) → is_in i v.hub.answered ≡ false → is_in i w.hub.answered ≡ false
  pub held : is_in k v.hub.answered ≡ false → (f (connection_at k w.hub.slots)).held ≡ []
  pub journal : JournalIsExact v

-- prefixes agree too
lines-agree : (w v : World) (n : ℕ) → Agrees w v n → IsPrefixOf (own_lines n (turns_in w)) (lines_sent (w.came n)) → IsPrefixOf (own_lines n (turns_in v)) (lines_sent (v.came n))
lines-agree w v n a p = (p.0, ap (λ l. l ++ p.0) a.lines ∙ p.1 ∙ sym (ap lines_sent a.came))

replies-agree : (w v : World) (n : ℕ) → Agrees w v n → IsPrefixOf (w.sent n) (own_replies n w.safe) → IsPrefixOf (v.sent n) (own_replies n v.safe)
replies-agree w v n a p = (p.0, ap (λ l. l ++ p.0) a.sent ∙ p.1 ∙ sym a.safe)

pub changed : (w v : World) (k : ℕ) (f : Connection → Connection) → Kept w → Change w v k f → Kept v
changed w v k f kept change =
    let number = (connection_at k w.hub.slots).number in
    let old : number < w.hub.made = (kept.slots k change.below).old in
    let is = change.slots in
    let long = changed-length w.hub.slots k f in
    record {
      slots = λ i h. subst (λ (s : List Connection). SlotKept v (connection_at i s)) (sym is)
          (changed-slot w v k f kept change.below change.here change.others i (omega (arith, ap length is, long)));
      apart = λ i j h g n e. kept.apart i j (omega (arith, ap length is, long)) (omega (arith, ap length is, long)) n
          (sym (same-number w v k f change.below change.number i) ∙ ap (λ (s : List Connection). (connection_at i s).number) (sym is) ∙ e
          ∙ ap (λ (s : List Connection). (connection_at j s).number) is ∙ same-number w v k f change.below change.number j);
      fresh = λ n h. agreeing-fresh w v n (change.others n (λ e. absurd (omega (arith, old, h, e, change.made)))) (kept.fresh n (omega (arith, h, change.made)));
      lines = λ n. each (λ m. IsPrefixOf (own_lines m (turns_in v)) (lines_sent (v.came m))) n number change.lines (λ o. lines-agree w v n (change.others n o) (kept.lines n));
      replies = λ n. each (λ m. IsPrefixOf (v.sent m) (own_replies m v.safe)) n number change.replies (λ o. replies-agree w v n (change.others n o) (kept.replies n));
      held = λ i h out. ap (λ (s : List Connection). (connection_at i s).held) is
          ∙ changed-held w v k f kept change.below change.answered change.held i (omega (arith, ap length is, long)) out;
      journal = change.journal;
    }

-- ---- bytes come

comes-kept : (w : World) (k : ℕ) (bytes : List ℕ) → Kept w → k < length w.hub.slots → Kept (happens w (Comes k bytes))
comes-kept w k bytes kept below =
    let v = happens w (Comes k bytes) in
    let c = connection_at k w.hub.slots in
    let this : SlotKept w c = kept.slots k below in
    let all = w.came c.number ++ bytes in
    let now : v.came c.number ≡ all = entry-same c.number all (w.came c.number) in
    let more : lines_sent all ≡ lines_sent (w.came c.number) ++ lines_after (line_begun (w.came c.number)) bytes = lines-append [] (w.came c.number) bytes in
    let before = kept.lines c.number in
    changed w v k (with_bytes bytes) kept (record {
      below = below;
      slots = refl;
      number = refl;
      here = record {
        old = this.old;
        lines = λ live. sym (append_assoc (own_lines c.number (turns_in w)) c.lines (lines_after c.begun bytes))
            ∙ ap (λ l. l ++ lines_after c.begun bytes) (this.lines live)
            ∙ ap (λ b. lines_sent (w.came c.number) ++ lines_after b bytes) (this.begun live)
            ∙ sym more ∙ ap lines_sent (sym now);
        begun = λ live. ap (λ b. begun_after b bytes) (this.begun live) ∙ sym (begun-append [] (w.came c.number) bytes) ∙ ap line_begun (sym now);
        ready = this.ready;
        held = this.held;
        gone = this.gone;
        gone_held = this.gone_held;
        team = this.team;
        access = this.access;
      };
      others = λ n o. record { made = omega arith; team = refl; access = refl; came = entry-other n c.number all (w.came n) o; sent = refl; lines = refl; safe = refl; held = refl };
      made = omega arith;
      lines = (
        before.0 ++ lines_after (line_begun (w.came c.number)) bytes,
        sym (append_assoc (own_lines c.number (turns_in w)) before.0 (lines_after (line_begun (w.came c.number)) bytes))
            ∙ ap (λ l. l ++ lines_after (line_begun (w.came c.number)) bytes) before.1 ∙ sym more ∙ ap lines_sent (sym now),
      );
      replies = kept.replies c.number;
      answered = λ i out. out;
      held = kept.held k below;
      journal = record { synced = kept.journal.synced; written = kept.journal.written; text = kept.journal.text };
    })

-- ---- bytes are sent

drop-empty : (n : ℕ) → drop {A = ℕ} n [] ≡ []
drop-empty zero = refl
drop-empty (suc n) = refl

take-empty : (n : ℕ) → take {A = ℕ} n [] ≡ []
take-empty zero = refl
take-empty (suc n) = refl

sent-prefix : (w : World) (c : Connection) (count : ℕ) (sent : List ℕ) → SlotKept w c → IsPrefixOf (w.sent c.number) (own_replies c.number w.safe)
    → sent ≡ w.sent c.number ++ take count c.ready → (live : Bool) → is_live c.stage ≡ live → IsPrefixOf sent (own_replies c.number w.safe)
sent-prefix w c count sent this before now true live = (
  drop count c.ready,
  ap (λ l. l ++ drop count c.ready) now ∙ append_assoc (w.sent c.number) (take count c.ready) (drop count c.ready)
      ∙ ap (λ l. w.sent c.number ++ l) (take-append-drop count c.ready) ∙ this.ready live,
)
sent-prefix w c count sent this before now false left = (
  before.0,
  ap (λ l. l ++ before.0) (now ∙ ap (λ r. w.sent c.number ++ take count r) (this.gone left) ∙ ap (λ l. w.sent c.number ++ l) (take-empty count) ∙ append-nil (w.sent c.number)) ∙ before.1,
)

sends-kept : (w : World) (k count : ℕ) → Kept w → k < length w.hub.slots → count ≤ length (connection_at k w.hub.slots).ready → Kept (happens w (Sends k count))
sends-kept w k count kept below within =
    let v = happens w (Sends k count) in
    let c = connection_at k w.hub.slots in
    let this : SlotKept w c = kept.slots k below in
    let all = w.sent c.number ++ take count c.ready in
    let now : v.sent c.number ≡ all = entry-same c.number all (w.sent c.number) in
    let whole : all ++ drop count c.ready ≡ w.sent c.number ++ c.ready =
    append_assoc (w.sent c.number) (take count c.ready) (drop count c.ready) ∙ ap (λ l. w.sent c.number ++ l) (take-append-drop count c.ready) in
    changed w v k (after_sending count) kept (record {
      below = below;
      slots = refl;
      number = refl;
      here = record {
        old = this.old;
        lines = this.lines;
        begun = this.begun;
        ready = λ live. ap (λ l. l ++ drop count c.ready) now ∙ whole ∙ this.ready live;
        held = this.held;
        gone = λ left. ap (drop count) (this.gone left) ∙ drop-empty count;
        gone_held = this.gone_held;
        team = this.team;
        access = this.access;
      };
      others = λ n o. record { made = omega arith; team = refl; access = refl; came = refl; sent = entry-other n c.number all (w.sent n) o; lines = refl; safe = refl; held = refl };
      made = omega arith;
      lines = kept.lines c.number;
      replies = sent-prefix w c count (v.sent c.number) this (kept.replies c.number) now (is_live c.stage) refl;
      answered = λ i out. out;
      held = kept.held k below;
      journal = record { synced = kept.journal.synced; written = kept.journal.written; text = kept.journal.text };
    })

-- ---- a line is answered

-- the text of a record, if the line has one
record-is : (t : Turn) (b : Bool) → cond b (record_text t) [] ≡ flat_map record_text (cond b (t ∷ []) [])
record-is t true = sym (append-nil (record_text t))
record-is t false = refl

-- the journal after another line
journal-push : (w v : World) (t : Turn) → JournalIsExact w → v.safe ≡ w.safe → v.held ≡ w.held ++ t ∷ [] → v.synced ≡ w.synced → v.written ≡ w.written ++ accepted (t ∷ [])
    → v.hub.records ≡ w.hub.records ++ record_of t → JournalIsExact v
journal-push w v t j safe held synced written records = record {
  synced = synced ∙ j.synced ∙ ap accepted (sym safe);
  written = written ∙ ap (λ l. l ++ accepted (t ∷ [])) j.written ∙ sym (filter-append is_accepted w.held (t ∷ [])) ∙ ap accepted (sym held);
  text = records ∙ ap (λ l. l ++ record_of t) j.text ∙ ap (λ l. flat_map record_text w.written ++ l) (record-is t (is_accepted t)) ∙ sym (flat_map-append record_text w.written (accepted (t ∷ []))) ∙ ap (flat_map record_text) (sym written);
}

-- a slot that is among those whose lines were answered, and the others
in-pushed : (i : ℕ) (which : List ℕ) (k : ℕ) → is_in i (which ++ k ∷ []) ≡ false → (is_in i which ≡ false) × (i ≡ k → ⊥)
in-pushed i [] k out = (refl, λ e. true≢false (sym (or_left (i == k) false (eq-eqb i k e)) ∙ out))
in-pushed i (x ∷ which) k out =
    let parts = or_parts (i == x) (is_in i (which ++ k ∷ [])) out in
    let rest = in-pushed i which k parts.1 in
    (or_from (i == x) (is_in i which) parts.0 rest.0, rest.1)

answers-kept : (w : World) (k : ℕ) (t : Turn) → Kept w → May w.hub (Answers k t) → Kept (happens w (Answers k t))
answers-kept w k t kept may =
    let v = happens w (Answers k t) in
    let c = connection_at k w.hub.slots in
    let d = with_answer t c in
    let this : SlotKept w c = kept.slots k may.0 in
    let live : is_live c.stage ≡ true = answering-is-live c may.1 in
    let number : t.number ≡ c.number = ap (λ (u : Turn). u.number) may.3 in
    let mine : is_line_of c.number t ≡ true = is-own c.number t number (ap (λ (u : Turn). u.is_own) may.3) in
    let pushed = turns-push w.safe w.held t in
    let line : own_lines c.number (turns_in v) ++ d.lines ≡ lines_sent (w.came c.number) =
    ap (λ l. own_lines c.number l ++ d.lines) pushed
    ∙ ap (λ l. l ++ d.lines) (lines-mine c.number (turns_in w) t mine)
    ∙ append_assoc (own_lines c.number (turns_in w)) (t.line ∷ []) d.lines
    ∙ ap (λ l. own_lines c.number (turns_in w) ++ l) (sym may.2) ∙ this.lines live in
    changed w v k (with_answer t) kept (record {
      below = may.0;
      slots = refl;
      number = refl;
      here = record {
        old = this.old;
        lines = λ _. line;
        begun = λ _. this.begun live;
        ready = λ _. this.ready live;
        held = λ _. ap (λ l. l ++ t.reply) (this.held live) ∙ sym (replies-mine c.number w.held t mine);
        gone = λ left. absurd (true≢false (sym (after_live t.outcome c.stage live) ∙ left));
        gone_held = λ left. absurd (true≢false (sym (after_live t.outcome c.stage live) ∙ left));
        team = this.team;
        access = this.access;
      };
      others = λ n o.
          let not_mine = not-own n t (λ e. o (sym e ∙ number)) in
          record {
            made = omega arith;
            team = refl;
            access = refl;
            came = refl;
            sent = refl;
            lines = ap (own_lines n) pushed ∙ lines-other n (turns_in w) t not_mine;
            safe = refl;
            held = replies-other n w.held t not_mine;
          };
      made = omega arith;
      lines = (d.lines, line);
      replies = kept.replies c.number;
      answered = λ i out. (in-pushed i w.hub.answered k out).0;
      held = λ out. absurd ((in-pushed k w.hub.answered k out).1 refl);
      journal = journal-push w v t kept.journal refl refl refl refl refl;
    })

-- ---- a session is closed

-- an event that changes no slot, and no line of a client
pub unchanged : (w v : World) → Kept w → v.hub.slots ≡ w.hub.slots → v.hub.answered ≡ w.hub.answered → ((n : ℕ) → Agrees w v n) → v.hub.made ≡ w.hub.made → JournalIsExact v → Kept v
unchanged w v kept slots answered a made journal = record {
  slots = λ i h. subst (λ (s : List Connection). SlotKept v (connection_at i s)) (sym slots)
      (agreeing w v (connection_at i w.hub.slots) (a (connection_at i w.hub.slots).number) (kept.slots i (omega (arith, ap length slots))));
  apart = λ i j h g n e. kept.apart i j (omega (arith, ap length slots)) (omega (arith, ap length slots)) n
      (ap (λ (s : List Connection). (connection_at i s).number) (sym slots) ∙ e ∙ ap (λ (s : List Connection). (connection_at j s).number) slots);
  fresh = λ n h. agreeing-fresh w v n (a n) (kept.fresh n (omega (arith, made)));
  lines = λ n. lines-agree w v n (a n) (kept.lines n);
  replies = λ n. replies-agree w v n (a n) (kept.replies n);
  held = λ i h out. ap (λ (s : List Connection). (connection_at i s).held) slots ∙ kept.held i (omega (arith, ap length slots)) (ap (is_in i) (sym answered) ∙ out);
  journal = journal;
}

closes-kept : (w : World) (k : ℕ) (s : OpenSession) (t : Turn) → Kept w → May w.hub (Closes k s t) → Kept (happens w (Closes k s t))
closes-kept w k s t kept may =
    let v = happens w (Closes k s t) in
    let pushed = turns-push w.safe w.held t in
    let not_sent : t.is_own ≡ false = ap (λ (u : Turn). u.is_own) may.3 in
    unchanged w v kept refl refl
    (λ n. record {
      made = omega arith;
      team = refl;
      access = refl;
      came = refl;
      sent = refl;
      lines = ap (own_lines n) pushed ∙ lines-other n (turns_in w) t (not-sent n t not_sent);
      safe = refl;
      held = replies-other n w.held t (not-sent n t not_sent);
    })
    refl (journal-push w v t kept.journal refl refl refl refl refl)

-- ---- the records are on the disk

syncs-kept : (w : World) → Kept w → Kept (happens w Syncs)
syncs-kept w kept =
    let v = happens w Syncs in
    let long = released-length w.hub.answered w.hub.slots in
    let same : (i : ℕ) → i < length w.hub.slots → connection_at i v.hub.slots ≡ released (connection_at i w.hub.slots) =
    λ i h. released-all w.hub.answered w.hub.slots i h (kept.held i h) in
    let turns : turns_in v ≡ turns_in w = append-nil (w.safe ++ w.held) in
    let j = kept.journal in
    record {
      slots = λ i h.
          let was : i < length w.hub.slots = omega (arith, long) in
          let c = connection_at i w.hub.slots in
          let this : SlotKept w c = kept.slots i was in
          subst (SlotKept v) (sym (same i was)) (record {
            old = this.old;
            lines = λ live. ap (λ l. own_lines c.number l ++ c.lines) turns ∙ this.lines live;
            begun = this.begun;
            ready = λ live. sym (append_assoc (w.sent c.number) c.ready c.held) ∙ ap (λ l. l ++ c.held) (this.ready live)
                ∙ ap (λ l. own_replies c.number w.safe ++ l) (this.held live) ∙ sym (own_replies-append c.number w.safe w.held);
            held = λ live. refl;
            gone = λ left. ap (λ l. l ++ c.held) (this.gone left) ∙ this.gone_held left;
            gone_held = λ _. refl;
            team = this.team;
            access = this.access;
          });
      apart = λ i k h g n e.
          let was_i : i < length w.hub.slots = omega (arith, long) in
          let was_k : k < length w.hub.slots = omega (arith, long) in
          kept.apart i k was_i was_k n
          (ap (λ (c : Connection). c.number) (sym (same i was_i)) ∙ e ∙ ap (λ (c : Connection). c.number) (same k was_k));
      fresh = λ n h. let f = kept.fresh n h in record {
        lines = ap (own_lines n) turns ∙ f.lines;
        safe = own_replies-append n w.safe w.held ∙ ap (λ l. l ++ own_replies n w.held) f.safe ∙ f.held;
        held = refl;
        came = f.came;
        sent = f.sent;
      };
      lines = λ n. let p = kept.lines n in (p.0, ap (λ l. own_lines n l ++ p.0) turns ∙ p.1);
      replies = λ n. let p = kept.replies n in (
        p.0 ++ own_replies n w.held,
        sym (append_assoc (w.sent n) p.0 (own_replies n w.held)) ∙ ap (λ l. l ++ own_replies n w.held) p.1 ∙ sym (own_replies-append n w.safe w.held),
      );
      held = λ i h out. ap (λ (c : Connection). c.held) (same i (omega (arith, long)));
      journal = record {
        synced = ap (λ l. l ++ w.written) j.synced ∙ ap (λ l. accepted w.safe ++ l) j.written ∙ sym (filter-append is_accepted w.safe w.held);
        written = refl;
        text = refl;
      };
    }

-- ---- a client is gone

gone-kept : (w v : World) (k : ℕ) (f : Connection → Connection) → Kept w → k < length w.hub.slots → v ≡ record w { hub = record w.hub { slots = changed_at k f w.hub.slots } }
    → (f (connection_at k w.hub.slots)).number ≡ (connection_at k w.hub.slots).number
    → SlotKept v (f (connection_at k w.hub.slots)) → (f (connection_at k w.hub.slots)).held ≡ [] → Kept v
gone-kept w v k f kept below is number here held =
    let a : (n : ℕ) → Agrees w v n = λ n. record {
      made = omega (arith, ap (λ (u : World). u.hub.made) is);
      team = ap (λ (u : World). u.team n) is;
      access = ap (λ (u : World). u.access n) is;
      came = ap (λ (u : World). u.came n) is;
      sent = ap (λ (u : World). u.sent n) is;
      lines = ap (λ (u : World). own_lines n (turns_in u)) is;
      safe = ap (λ (u : World). own_replies n u.safe) is;
      held = ap (λ (u : World). own_replies n u.held) is;
    } in
    let c = connection_at k w.hub.slots in
    changed w v k f kept (record {
      below = below;
      slots = ap (λ (u : World). u.hub.slots) is;
      number = number;
      here = here;
      others = λ n o. a n;
      made = omega (arith, ap (λ (u : World). u.hub.made) is);
      lines = lines-agree w v c.number (a c.number) (kept.lines c.number);
      replies = replies-agree w v c.number (a c.number) (kept.replies c.number);
      answered = λ i out. ap (λ (u : World). is_in i u.hub.answered) (sym is) ∙ out;
      held = λ _. held;
      journal = subst JournalIsExact (sym is) (record { synced = kept.journal.synced; written = kept.journal.written; text = kept.journal.text });
    })

leaves-kept : (w : World) (k : ℕ) → Kept w → k < length w.hub.slots → Kept (happens w (Leaves k))
leaves-kept w k kept below =
    let c = connection_at k w.hub.slots in
    let this : SlotKept w c = kept.slots k below in
    gone-kept w (happens w (Leaves k)) k leaving kept below refl refl (record {
      old = this.old;
      lines = λ live. absurd (false≢true live);
      begun = λ live. absurd (false≢true live);
      ready = λ live. absurd (false≢true live);
      held = λ live. absurd (false≢true live);
      gone = λ _. refl;
      gone_held = λ _. refl;
      team = this.team;
      access = this.access;
    }) refl

left-not-live : (s : Stage) → s ≡ Leaving → is_live s ≡ false
left-not-live s e = ap is_live e

frees-kept : (w : World) (k : ℕ) → Kept w → k < length w.hub.slots → (connection_at k w.hub.slots).stage ≡ Leaving → Kept (happens w (Frees k))
frees-kept w k kept below left =
    let c = connection_at k w.hub.slots in
    let this : SlotKept w c = kept.slots k below in
    let gone = left-not-live c.stage left in
    gone-kept w (happens w (Frees k)) k freed kept below refl refl (record {
      old = this.old;
      lines = λ live. absurd (false≢true live);
      begun = λ live. absurd (false≢true live);
      ready = λ live. absurd (false≢true live);
      held = λ live. absurd (false≢true live);
      gone = λ _. this.gone gone;
      gone_held = λ _. this.gone_held gone;
      team = this.team;
      access = this.access;
    }) (this.gone_held gone)

-- ---- a client connects

opens-kept : (w : World) (k team : ℕ) (access : Access) → Kept w → k ≤ length w.hub.slots → Kept (happens w (Opens k team access))
opens-kept w k team access kept within =
    let v = happens w (Opens k team access) in
    let made = w.hub.made in
    let c = new_connection made team access in
    let f : IsFresh w made = kept.fresh made (omega arith) in
    let others : (n : ℕ) → (n ≡ made → ⊥) → Agrees w v n = λ n o. record {
      made = omega arith;
      team = entry-other n made team (w.team n) o;
      access = entry-other n made access (w.access n) o;
      came = refl;
      sent = refl;
      lines = refl;
      safe = refl;
      held = refl;
    } in
    let was : (i : ℕ) → i < length v.hub.slots → (i ≡ k → ⊥) → i < length w.hub.slots = λ i h n. put-length w.hub.slots i k c within h n in
    let new : connection_at k v.hub.slots ≡ c = put-same w.hub.slots k c within in
    let old : (i : ℕ) → (i ≡ k → ⊥) → connection_at i v.hub.slots ≡ connection_at i w.hub.slots = λ i n. put-other w.hub.slots i k c within n in
    let number-new = ap (λ (d : Connection). d.number) new in
    let number-old : (i : ℕ) → (i ≡ k → ⊥) → (connection_at i v.hub.slots).number ≡ (connection_at i w.hub.slots).number = λ i n. ap (λ (d : Connection). d.number) (old i n) in
    record {
      slots = λ i. each (λ j. j < length v.hub.slots → SlotKept v (connection_at j v.hub.slots)) i k
          (λ _. subst (SlotKept v) (sym new) (record {
            old = omega arith;
            lines = λ _. ap (λ l. l ++ []) f.lines ∙ sym (ap lines_sent f.came);
            begun = λ _. sym (ap line_begun f.came);
            ready = λ _. ap (λ l. l ++ []) f.sent ∙ sym f.safe;
            held = λ _. sym f.held;
            gone = λ left. absurd (true≢false left);
            gone_held = λ left. absurd (true≢false left);
            team = entry-same made team (w.team made);
            access = entry-same made access (w.access made);
          }))
          (λ n h. let this = kept.slots i (was i h n) in
          subst (SlotKept v) (sym (old i n))
          (agreeing w v (connection_at i w.hub.slots) (others (connection_at i w.hub.slots).number (λ e. absurd (omega (arith, this.old, e)))) this));
      apart = λ i j. each (λ a. a < length v.hub.slots → j < length v.hub.slots → (a ≡ j → ⊥) → (connection_at a v.hub.slots).number ≡ (connection_at j v.hub.slots).number → ⊥) i k
          (λ h g n e.
          let o : j ≡ k → ⊥ = λ q. n (sym q) in
          absurd (omega (arith, (kept.slots j (was j g o)).old, e, number-new, number-old j o)))
          (λ o. each (λ b. i < length v.hub.slots → b < length v.hub.slots → (i ≡ b → ⊥) → (connection_at i v.hub.slots).number ≡ (connection_at b v.hub.slots).number → ⊥) j k
          (λ h g n e. absurd (omega (arith, (kept.slots i (was i h o)).old, e, number-new, number-old i o)))
          (λ p h g n e. kept.apart i j (was i h o) (was j g p) n (sym (number-old i o) ∙ e ∙ number-old j p)));
      fresh = λ n h. agreeing-fresh w v n (others n (λ e. absurd (omega (arith, h, e)))) (kept.fresh n (omega (arith, h)));
      lines = kept.lines;
      replies = kept.replies;
      held = λ i. each (λ j. j < length v.hub.slots → is_in j v.hub.answered ≡ false → (connection_at j v.hub.slots).held ≡ []) i k
          (λ _ _. ap (λ (d : Connection). d.held) new)
          (λ n h out. ap (λ (d : Connection). d.held) (old i n) ∙ kept.held i (was i h n) out);
      journal = record { synced = kept.journal.synced; written = kept.journal.written; text = kept.journal.text };
    }

-- ---- every event

pub kept_next : (w : World) (e : HubEvent) → Kept w → May w.hub e → Kept (happens w e)
kept_next w (Opens k team access) kept may = opens-kept w k team access kept may.0
kept_next w (Comes k bytes) kept may = comes-kept w k bytes kept may.0
kept_next w (Answers k t) kept may = answers-kept w k t kept may
kept_next w (Closes k s t) kept may = closes-kept w k s t kept may
kept_next w Syncs kept may = syncs-kept w kept
kept_next w (Sends k count) kept may = sends-kept w k count kept may.0 may.1
kept_next w (Leaves k) kept may = leaves-kept w k kept may.0
kept_next w (Frees k) kept may = frees-kept w k kept may.0 may.1

pub kept_run : (es : List HubEvent) (w : World) → Kept w → Runs es w → Kept (run es w)
kept_run [] w kept runs = kept
kept_run (e ∷ es) w kept runs = kept_run es (happens w e) (kept_next w e kept runs.0) runs.1

pub kept_start : Kept start
kept_start = record {
  slots = λ i h. absurd (omega (arith, h));
  apart = λ i j h. absurd (omega (arith, h));
  fresh = λ n h. record { lines = refl; safe = refl; held = refl; came = refl; sent = refl };
  lines = λ n. ([], refl);
  replies = λ n. ([], refl);
  held = λ i h. absurd (omega (arith, h));
  journal = record { synced = refl; written = refl; text = refl };
}

pub lines_are_own : (w : World) → Kept w → LinesAreOwn w
lines_are_own w kept = record { live = λ i h. (kept.slots i h).lines; all = kept.lines }

pub replies_are_own : (w : World) → Kept w → RepliesAreOwn w
replies_are_own w kept = record { live = λ i h. (kept.slots i h).ready; held = λ i h. (kept.slots i h).held; all = kept.replies }

-- ---- teams

teams-append : (team : ℕ → ℕ) (access : ℕ → Access) (a b : List Turn) → ForOwnTeams team access a → ForOwnTeams team access b → ForOwnTeams team access (a ++ b)
teams-append team access [] b p q = q
teams-append team access (t ∷ a) b p q = (p.0, p.1, teams-append team access a b p.2 q)

old-append : (made : ℕ) (a b : List Turn) → AllOld made a → AllOld made b → AllOld made (a ++ b)
old-append made [] b p q = q
old-append made (t ∷ a) b p q = (p.0, old-append made a b p.1 q)

old-more : (made : ℕ) (ts : List Turn) → AllOld made ts → AllOld (made + 1) ts
old-more made [] p = tt
old-more made (t ∷ ts) p = (omega (arith, p.0), old-more made ts p.1)

-- what a table has of old numbers stays
teams-more : (w : World) (team : ℕ) (access : Access) (ts : List Turn) → AllOld w.hub.made ts → ForOwnTeams w.team w.access ts
    → ForOwnTeams (with_entry w.hub.made team w.team) (with_entry w.hub.made access w.access) ts
teams-more w team access [] old p = tt
teams-more w team access (t ∷ ts) old p =
    let other : t.number ≡ w.hub.made → ⊥ = λ e. absurd (omega (arith, old.0, e)) in (
      p.0 ∙ sym (entry-other t.number w.hub.made team (w.team t.number) other),
      λ own. p.1 own ∙ sym (entry-other t.number w.hub.made access (w.access t.number) other),
      teams-more w team access ts old.1 p.2,
    )

abbrev pub TeamsKept : World → Type 0
TeamsKept w = AllOld w.hub.made (turns_in w) × ForOwnTeams w.team w.access (turns_in w)

teams-push : (w v : World) (k : ℕ) (t : Turn) → Kept w → k < length w.hub.slots → t.number ≡ (connection_at k w.hub.slots).number → t.team ≡ (connection_at k w.hub.slots).team
    → (t.is_own ≡ true → t.access ≡ (connection_at k w.hub.slots).access) → v.hub.made ≡ w.hub.made → v.team ≡ w.team → v.access ≡ w.access → v.safe ≡ w.safe → v.held ≡ w.held ++ t ∷ [] → TeamsKept w → TeamsKept v
teams-push w v k t kept below number team access made teams accesses safe held p =
    let this = kept.slots k below in
    let turns : turns_in v ≡ turns_in w ++ t ∷ [] = ap (λ l. l ++ v.held) safe ∙ ap (λ l. w.safe ++ l) held ∙ turns-push w.safe w.held t in (
      subst (λ m. AllOld m (turns_in v)) (sym made) (subst (AllOld w.hub.made) (sym turns) (old-append w.hub.made (turns_in w) (t ∷ []) p.0 (omega (arith, this.old, number), tt))),
      subst (λ (a : ℕ → ℕ). ForOwnTeams a v.access (turns_in v)) (sym teams) (subst (λ (a : ℕ → Access). ForOwnTeams w.team a (turns_in v)) (sym accesses)
          (subst (ForOwnTeams w.team w.access) (sym turns) (teams-append w.team w.access (turns_in w) (t ∷ []) p.1
          (team ∙ sym this.team ∙ ap w.team (sym number), λ own. access own ∙ sym this.access ∙ ap w.access (sym number), tt)))),
    )

teams_next : (w : World) (e : HubEvent) → Kept w → May w.hub e → TeamsKept w → TeamsKept (happens w e)
teams_next w (Opens k team access) kept may p = (old-more w.hub.made (turns_in w) p.0, teams-more w team access (turns_in w) p.0 p.1)
teams_next w (Comes k bytes) kept may p = p
teams_next w (Answers k t) kept may p =
    teams-push w (happens w (Answers k t)) k t kept may.0 (ap (λ (u : Turn). u.number) may.3) (ap (λ (u : Turn). u.team) may.3) (λ own. ap (λ (u : Turn). u.access) may.3) refl refl refl refl refl p
teams_next w (Closes k s t) kept may p =
    teams-push w (happens w (Closes k s t)) k t kept may.0 (ap (λ (u : Turn). u.number) may.3) (ap (λ (u : Turn). u.team) may.3) (λ own. absurd (true≢false (sym own ∙ ap (λ (u : Turn). u.is_own) may.3))) refl refl refl refl refl p
teams_next w Syncs kept may p =
    let turns : turns_in (happens w Syncs) ≡ turns_in w = append-nil (w.safe ++ w.held) in
    (subst (AllOld w.hub.made) (sym turns) p.0, subst (ForOwnTeams w.team w.access) (sym turns) p.1)
teams_next w (Sends k count) kept may p = p
teams_next w (Leaves k) kept may p = p
teams_next w (Frees k) kept may p = p

pub teams_run : (es : List HubEvent) (w : World) → Kept w → Runs es w → TeamsKept w → TeamsKept (run es w)
teams_run [] w kept runs p = p
teams_run (e ∷ es) w kept runs p = teams_run es (happens w e) (kept_next w e kept runs.0) runs.1 (teams_next w e kept runs.0 p)
