-- A slot that another client may have has no open session.
use Rattle.std.proofs.Common.{◌≡◌, ℕ, ◌<◌, ◌≤◌, ◌+◌, Bool, true, false, cond, List, [], ◌∷◌, ◌++◌, length, Option, Some, None, refl, sym, ap, subst, ◌∙◌, arith}
use Rattle.std.specs.Prelude.{◌==◌, ◌&&◌}
use Rattle.std.proofs.lemmas.Bool.{true≢false, ne_eqb}
use Rattle.lf_hub_clients.specs.declared.client.Access.{Access}
use Rattle.lf_hub_clients.specs.declared.client.Stage.{Stage}
use Rattle.lf_hub_clients.specs.declared.client.Stage.TheVariants.{Open, Done, Leaving, Free}
use Rattle.lf_hub_clients.specs.declared.floor.Outcome.{Outcome}
use Rattle.lf_hub_clients.specs.declared.floor.Outcome.TheVariants.{Unchanged, Changed, Opened, Closed, Named, Ended}
use Rattle.lf_hub_clients.specs.Connections.{Connection, new_connection, with_bytes, with_answer, released, after_sending, leaving, freed, stage_after}
use Rattle.lf_hub_clients.specs.Turns.{Turn}
use Rattle.lf_hub.specs.declared.open_sessions.OpenSession.{OpenSession}
use Rattle.lf_hub.specs.Machine.{Hub, HubEvent, Opens, Comes, Answers, Closes, Syncs, Sends, Leaves, Frees, May, connection_at, changed_at, put_at, is_live, session_of, without_session, sessions_after}
use Rattle.lf_hub.specs.World.{World, happens, run, Runs}
use Rattle.lf_hub.specs.Laws.{SessionsAreClosed}
use Rattle.lf_hub.proofs.Slots.{each, changed-same, changed-other, changed-length, put-same, put-other, put-length, released-length, released-all}
use Rattle.lf_hub.proofs.Kept.{Kept, kept_next, answering-is-live, after_live}

-- ---- lists of sessions

none-parts : (b : Bool) (s : OpenSession) (o : Option OpenSession) → cond b (Some s) o ≡ None → (b ≡ false) × (o ≡ None)
none-parts true s o h = absurd (cc)
none-parts false s o h = (refl, h)

none-from : (b : Bool) (s : OpenSession) (o : Option OpenSession) → b ≡ false → o ≡ None → cond b (Some s) o ≡ None
none-from b s o p q = rw p q

without-next : (slot : ℕ) (s : OpenSession) (ss rest : List OpenSession) (gone : Bool) → s.slot == slot ≡ false → session_of slot ss ≡ None → session_of slot rest ≡ None
    → session_of slot (cond gone ss (s ∷ rest)) ≡ None
without-next slot s ss rest true other none later = none
without-next slot s ss rest false other none later = none-from (s.slot == slot) s (session_of slot rest) other later

none-without : (slot team session : ℕ) (ss : List OpenSession) → session_of slot ss ≡ None → session_of slot (without_session team session ss) ≡ None
none-without slot team session [] h = refl
none-without slot team session (s ∷ ss) h =
    let parts = none-parts (s.slot == slot) s (session_of slot ss) h in
    without-next slot s ss (without_session team session ss) (s.team == team && s.session == session) parts.0 parts.1 (none-without slot team session ss parts.1)

none-push : (slot : ℕ) (ss : List OpenSession) (s : OpenSession) → s.slot == slot ≡ false → session_of slot ss ≡ None → session_of slot (ss ++ s ∷ []) ≡ None
none-push slot [] s other h = none-from (s.slot == slot) s None other refl
none-push slot (x ∷ ss) s other h =
    let parts = none-parts (x.slot == slot) x (session_of slot ss) h in
    none-from (x.slot == slot) x (session_of slot (ss ++ s ∷ [])) parts.0 (none-push slot ss s other parts.1)

none-after : (i k team : ℕ) (o : Outcome) (ss : List OpenSession) → (k ≡ i → ⊥) → session_of i ss ≡ None → session_of i (sessions_after k team o ss) ≡ None
none-after i k team (Opened session) ss n h = none-push i (without_session team session ss) (record { team = team; session = session; slot = k }) (ne_eqb k i n) (none-without i team session ss h)
none-after i k team (Closed session) ss n h = none-without i team session ss h
none-after i k team Unchanged ss n h = h
none-after i k team Changed ss n h = h
none-after i k team Named ss n h = h
none-after i k team Ended ss n h = h

-- ---- events

-- a slot that is free is not the one that changed, or it was free before
same-stage : (w : World) (k i : ℕ) (f : Connection → Connection) → k < length w.hub.slots → (f (connection_at k w.hub.slots)).stage ≡ (connection_at k w.hub.slots).stage
    → (connection_at i (changed_at k f w.hub.slots)).stage ≡ (connection_at i w.hub.slots).stage
same-stage w k i f below same =
    each (λ j. (connection_at j (changed_at k f w.hub.slots)).stage ≡ (connection_at j w.hub.slots).stage) i k
    (ap (λ (c : Connection). c.stage) (changed-same w.hub.slots k f below) ∙ same)
    (λ n. ap (λ (c : Connection). c.stage) (changed-other w.hub.slots i k f n))

stays-closed : (w : World) (k : ℕ) (f : Connection → Connection) → k < length w.hub.slots → (f (connection_at k w.hub.slots)).stage ≡ (connection_at k w.hub.slots).stage → SessionsAreClosed w
    → (i : ℕ) → i < length (changed_at k f w.hub.slots) → (connection_at i (changed_at k f w.hub.slots)).stage ≡ Free → session_of i w.hub.sessions ≡ None
stays-closed w k f below same closed i h free = closed i (omega (arith, changed-length w.hub.slots k f)) (sym (same-stage w k i f below same) ∙ free)

live-not-free : (s : Stage) → is_live s ≡ true → s ≡ Free → ⊥
live-not-free s live e = true≢false (sym live ∙ ap is_live e)

left-not-free : (s : Stage) → s ≡ Leaving → s ≡ Free → ⊥
left-not-free s left e = let q : Leaving ≡ Free = sym left ∙ e in cc

closed_next : (w : World) (e : HubEvent) → Kept w → May w.hub e → SessionsAreClosed w → SessionsAreClosed (happens w e)
closed_next w (Opens k team access) kept may closed = λ i.
    let c = new_connection w.hub.made team access in
    let slots = put_at k c w.hub.slots in
    each (λ j. j < length slots → (connection_at j slots).stage ≡ Free → session_of j w.hub.sessions ≡ None) i k
    (λ h free. absurd (live-not-free Open refl (sym (ap (λ (d : Connection). d.stage) (put-same w.hub.slots k c may.0)) ∙ free)))
    (λ n h free. closed i (put-length w.hub.slots i k c may.0 h n) (sym (ap (λ (d : Connection). d.stage) (put-other w.hub.slots i k c may.0 n)) ∙ free))
closed_next w (Comes k bytes) kept may closed = stays-closed w k (with_bytes bytes) may.0 refl closed
closed_next w (Answers k t) kept may closed = λ i.
    let c = connection_at k w.hub.slots in
    let slots = changed_at k (with_answer t) w.hub.slots in
    each (λ j. j < length slots → (connection_at j slots).stage ≡ Free → session_of j (sessions_after k t.team t.outcome w.hub.sessions) ≡ None) i k
    (λ h free. absurd (live-not-free (stage_after t.outcome c.stage) (after_live t.outcome c.stage (answering-is-live c may.1))
    (sym (ap (λ (d : Connection). d.stage) (changed-same w.hub.slots k (with_answer t) may.0)) ∙ free)))
    (λ n h free. none-after i k t.team t.outcome w.hub.sessions (λ e. n (sym e))
    (closed i (omega (arith, changed-length w.hub.slots k (with_answer t))) (sym (ap (λ (d : Connection). d.stage) (changed-other w.hub.slots i k (with_answer t) n)) ∙ free)))
closed_next w (Closes k s t) kept may closed = λ i h free. none-without i s.team s.session w.hub.sessions (closed i h free)
closed_next w Syncs kept may closed = λ i h free.
    let was : i < length w.hub.slots = omega (arith, released-length w.hub.answered w.hub.slots) in
    closed i was (sym (ap (λ (d : Connection). d.stage) (released-all w.hub.answered w.hub.slots i was (kept.held i was))) ∙ free)
closed_next w (Sends k count) kept may closed = stays-closed w k (after_sending count) may.0 refl closed
closed_next w (Leaves k) kept may closed = λ i.
    let slots = changed_at k leaving w.hub.slots in
    each (λ j. j < length slots → (connection_at j slots).stage ≡ Free → session_of j w.hub.sessions ≡ None) i k
    (λ h free. absurd (left-not-free Leaving refl (sym (ap (λ (d : Connection). d.stage) (changed-same w.hub.slots k leaving may.0)) ∙ free)))
    (λ n h free. closed i (omega (arith, changed-length w.hub.slots k leaving)) (sym (ap (λ (d : Connection). d.stage) (changed-other w.hub.slots i k leaving n)) ∙ free))
closed_next w (Frees k) kept may closed = λ i.
    let slots = changed_at k freed w.hub.slots in
    each (λ j. j < length slots → (connection_at j slots).stage ≡ Free → session_of j w.hub.sessions ≡ None) i k
    (λ h free. may.2)
    (λ n h free. closed i (omega (arith, changed-length w.hub.slots k freed)) (sym (ap (λ (d : Connection). d.stage) (changed-other w.hub.slots i k freed n)) ∙ free))

pub closed_run : (es : List HubEvent) (w : World) → Kept w → Runs es w → SessionsAreClosed w → SessionsAreClosed (run es w)
closed_run [] w kept runs closed = closed
closed_run (e ∷ es) w kept runs closed = closed_run es (happens w e) (kept_next w e kept runs.0) runs.1 (closed_next w e kept runs.0 closed)
