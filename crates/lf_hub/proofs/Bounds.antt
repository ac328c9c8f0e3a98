-- The memory of a connection is bounded.
use Rattle.std.proofs.Common.{◌≡◌, ℕ, ◌<◌, ◌≤◌, ◌+◌, ◌-◌, Bool, true, false, cond, nat_lt, List, [], ◌∷◌, ◌++◌, length, take, drop, refl, sym, ap, subst, ◌∙◌, arith, append-nil, length-append, length-drop}
use Rattle.std.specs.Prelude.{◌==◌, ◌&&◌, nat_le}
use Rattle.std.proofs.lemmas.Bool.{and_parts, ltb-true, leb-true}
use Rattle.std.proofs.lemmas.List.Folds.{list_all-append}
use Rattle.std.specs.List.{list_all}
use Rattle.lf_hub_clients.specs.declared.client.Access.{Access}
use Rattle.lf_hub_clients.specs.declared.client.Stage.{Stage}
use Rattle.lf_hub_clients.specs.Connections.{Connection, new_connection, with_bytes, with_answer, released, after_sending, leaving, freed, room_of, may_answer, is_open, unsent_limit, without_first}
use Rattle.lf_hub_clients.specs.Lines.{is_line_feed, longer, line_limit, lines_after, begun_after, lines_size, waiting_limit}
use Rattle.lf_hub_clients.specs.Turns.{Turn}
use Rattle.lf_hub.specs.declared.open_sessions.OpenSession.{OpenSession}
use Rattle.lf_hub.specs.Machine.{Hub, HubEvent, Opens, Comes, Answers, Closes, Syncs, Sends, Leaves, Frees, May, connection_at, changed_at, put_at}
use Rattle.lf_hub.specs.World.{World, happens, run, Runs, turns_in}
use Rattle.lf_hub.specs.Laws.{IsBounded, is_within}
use Rattle.lf_hub.proofs.Slots.{each, changed-same, changed-other, changed-length, put-same, put-other, put-length, released-length, released-all}
use Rattle.lf_hub.proofs.Steps.{turns-push}
use Rattle.lf_hub.proofs.Kept.{Kept, kept_next}

-- ---- the size of lines

size-append : (a b : List (List ℕ)) → lines_size (a ++ b) ≡ lines_size a + lines_size b
size-append [] b = omega arith
size-append (l ∷ a) b = let ih = size-append a b in omega arith

longer-by-one-next : (b : Bool) (line : List ℕ) (x : ℕ) → length (cond b (line ++ x ∷ []) line) ≤ length line + 1
longer-by-one-next true line x = omega (arith, length-append line (x ∷ []))
longer-by-one-next false line x = omega arith

longer-by-one : (line : List ℕ) (x : ℕ) → length (longer line x) ≤ length line + 1
longer-by-one line x = longer-by-one-next (nat_lt (length line) line_limit) line x

size-after-next : (begun bytes : List ℕ) (x : ℕ) (ends : Bool)
    → lines_size (lines_after [] bytes) + length (begun_after [] bytes) ≤ length {A = ℕ} [] + length bytes
    → lines_size (lines_after (longer begun x) bytes) + length (begun_after (longer begun x) bytes) ≤ length (longer begun x) + length bytes
    → lines_size (cond ends (begun ∷ lines_after [] bytes) (lines_after (longer begun x) bytes)) + length (cond ends (begun_after [] bytes) (begun_after (longer begun x) bytes)) ≤ length begun + length (x ∷ bytes)
size-after-next begun bytes x true p q = omega arith
size-after-next begun bytes x false p q = let one = longer-by-one begun x in omega arith

size-after : (begun bytes : List ℕ) → lines_size (lines_after begun bytes) + length (begun_after begun bytes) ≤ length begun + length bytes
size-after begun [] = omega arith
size-after begun (x ∷ bytes) = size-after-next begun bytes x (is_line_feed x) (size-after [] bytes) (size-after (longer begun x) bytes)

size-first : (lines : List (List ℕ)) → lines_size (without_first lines) ≤ lines_size lines
size-first [] = omega arith
size-first (l ∷ lines) = omega arith

fits-room : (b : Bool) (size count : ℕ) → size ≤ waiting_limit → count ≤ cond b (waiting_limit - size) 0 → size + count ≤ waiting_limit
fits-room true size count h g = omega arith
fits-room false size count h g = omega arith

-- ---- one connection

pub record Within (w : World) (c : Connection) : Type 0 where
  pub lines : lines_size c.lines + length c.begun ≤ waiting_limit
  pub replies : (most : ℕ) → list_all (is_within most) (turns_in w) ≡ true → length c.ready + length c.held ≤ unsent_limit + most

-- a world with the same lines, or with more of them
abbrev pub Later : World → World → Type 0
Later w v = (most : ℕ) → list_all (is_within most) (turns_in v) ≡ true → list_all (is_within most) (turns_in w) ≡ true

later-within : (w v : World) (c : Connection) → Later w v → Within w c → Within v c
later-within w v c later h = record { lines = h.lines; replies = λ most all. h.replies most (later most all) }

pushed-parts : (w v : World) (t : Turn) (most : ℕ) → turns_in v ≡ turns_in w ++ t ∷ [] → list_all (is_within most) (turns_in v) ≡ true
    → (list_all (is_within most) (turns_in w) ≡ true) × (length t.reply ≤ most)
pushed-parts w v t most is all =
    let both = and_parts (list_all (is_within most) (turns_in w)) (list_all (is_within most) (t ∷ []))
    (sym (list_all-append (is_within most) (turns_in w) (t ∷ [])) ∙ ap (list_all (is_within most)) (sym is) ∙ all) in
    (both.0, leb-true (length t.reply) most (one (is_within most t) both.1))
  where
    one : (b : Bool) → (b && true) ≡ true → b ≡ true
    one true h = refl
    one false h = h

bounded-change : (w v : World) (k : ℕ) (f : Connection → Connection) → k < length w.hub.slots → Later w v → Within v (f (connection_at k w.hub.slots))
    → ((i : ℕ) → i < length w.hub.slots → Within w (connection_at i w.hub.slots))
    → (i : ℕ) → i < length (changed_at k f w.hub.slots) → Within v (connection_at i (changed_at k f w.hub.slots))
bounded-change w v k f below later here all i h =
    let was : i < length w.hub.slots = omega (arith, changed-length w.hub.slots k f) in
    each (λ j. Within v (connection_at j (changed_at k f w.hub.slots))) i k
    (subst (Within v) (sym (changed-same w.hub.slots k f below)) here)
    (λ n. subst (Within v) (sym (changed-other w.hub.slots i k f n)) (later-within w v (connection_at i w.hub.slots) later (all i was)))

abbrev pub AllWithin : World → Type 0
AllWithin w = (i : ℕ) → i < length w.hub.slots → Within w (connection_at i w.hub.slots)

same-turns : (w v : World) → turns_in v ≡ turns_in w → Later w v
same-turns w v is most all = ap (list_all (is_within most)) (sym is) ∙ all

bounded_next : (w : World) (e : HubEvent) → Kept w → May w.hub e → AllWithin w → AllWithin (happens w e)
bounded_next w (Opens k team access) kept may all = λ i.
    let c = new_connection w.hub.made team access in
    let v = happens w (Opens k team access) in
    let slots = put_at k c w.hub.slots in
    each (λ j. j < length slots → Within v (connection_at j slots)) i k
    (λ h. subst (Within v) (sym (put-same w.hub.slots k c may.0)) (record { lines = omega arith; replies = λ most _. omega arith }))
    (λ n h. subst (Within v) (sym (put-other w.hub.slots i k c may.0 n))
    (later-within w v (connection_at i w.hub.slots) (same-turns w v refl) (all i (put-length w.hub.slots i k c may.0 h n))))
bounded_next w (Comes k bytes) kept may all =
    let v = happens w (Comes k bytes) in
    let c = connection_at k w.hub.slots in
    let this = all k may.0 in
    bounded-change w v k (with_bytes bytes) may.0 (same-turns w v refl) (record {
      lines = omega (
        arith,
        size-append c.lines (lines_after c.begun bytes),
        size-after c.begun bytes,
        fits-room (is_open c.stage) (lines_size c.lines + length c.begun) (length bytes) this.lines may.1,
      );
      replies = this.replies;
    }) all
bounded_next w (Answers k t) kept may all =
    let v = happens w (Answers k t) in
    let c = connection_at k w.hub.slots in
    let this = all k may.0 in
    let few : length c.ready + length c.held < unsent_limit = ltb-true (length c.ready + length c.held) unsent_limit
    (and_parts (is_open c.stage && nat_lt 0 (length c.lines)) (nat_lt (length c.ready + length c.held) unsent_limit) may.1).1 in
    let pushed = turns-push w.safe w.held t in
    bounded-change w v k (with_answer t) may.0 (λ most h. (pushed-parts w v t most pushed h).0) (record {
      lines = omega (arith, this.lines, size-first c.lines);
      replies = λ most h. omega (arith, few, length-append c.held t.reply, (pushed-parts w v t most pushed h).1);
    }) all
bounded_next w (Closes k s t) kept may all = λ i h.
    let v = happens w (Closes k s t) in
    later-within w v (connection_at i w.hub.slots) (λ most g. (pushed-parts w v t most (turns-push w.safe w.held t) g).0) (all i h)
bounded_next w Syncs kept may all = λ i h.
    let v = happens w Syncs in
    let c = connection_at i w.hub.slots in
    let was : i < length w.hub.slots = omega (arith, released-length w.hub.answered w.hub.slots) in
    let later : Later w v = same-turns w v (append-nil (w.safe ++ w.held)) in
    subst (Within v) (sym (released-all w.hub.answered w.hub.slots i was (kept.held i was))) (record {
      lines = (all i was).lines;
      replies = λ most g. let before = (all i was).replies most (later most g) in omega (arith, before, length-append c.ready c.held);
    })
bounded_next w (Sends k count) kept may all =
    let v = happens w (Sends k count) in
    let c = connection_at k w.hub.slots in
    let this = all k may.0 in
    bounded-change w v k (after_sending count) may.0 (same-turns w v refl) (record {
      lines = this.lines;
      replies = λ most h. let before = this.replies most h in omega (arith, before, length-drop count c.ready);
    }) all
bounded_next w (Leaves k) kept may all =
    bounded-change w (happens w (Leaves k)) k leaving may.0 (same-turns w (happens w (Leaves k)) refl) (record { lines = omega arith; replies = λ most h. omega arith }) all
bounded_next w (Frees k) kept may all =
    let this = all k may.0 in
    bounded-change w (happens w (Frees k)) k freed may.0 (same-turns w (happens w (Frees k)) refl) (record { lines = this.lines; replies = this.replies }) all

pub bounded_run : (es : List HubEvent) (w : World) → Kept w → Runs es w → AllWithin w → AllWithin (run es w)
bounded_run [] w kept runs all = all
bounded_run (e ∷ es) w kept runs all = bounded_run es (happens w e) (kept_next w e kept runs.0) runs.1 (bounded_next w e kept runs.0 all)

pub bounded : (w : World) → ((i : ℕ) → i < length w.hub.slots → Within w (connection_at i w.hub.slots)) → IsBounded w
bounded w all = record { lines = λ i h. (all i h).lines; replies = λ i most h. (all i h).replies most }
