-- What a crash leaves of a journal.
use Rattle.std.proofs.Common.{◌≡◌, ℕ, zero, suc, ◌<◌, ◌≤◌, ◌+◌, Bool, true, false, cond, List, [], ◌∷◌, ◌++◌, length, take, drop, refl, sym, ap, subst, ◌∙◌, arith, append_assoc, append-nil}
use Rattle.std.proofs.lemmas.List.{take-append-drop}
use Rattle.std.proofs.lemmas.List.Elements.{filter-append}
use Rattle.lf_hub_clients.specs.Turns.{Turn, is_change}
use Rattle.lf_hub_clients.specs.declared.client.Access.{Access}
use Rattle.lf_hub.specs.declared.open_sessions.OpenSession.{OpenSession}
use Rattle.lf_hub.specs.Machine.{HubEvent, Opens, Comes, Answers, Closes, Syncs, Sends, Leaves, Frees, accepted, is_accepted}
use Rattle.lf_hub.specs.World.{World, happens, run, turns_in}
use Rattle.lf_hub.specs.Laws.{JournalIsExact, Follow, Acts, ActInTurn, KeepsAcknowledged}
use Rattle.lf_hub.proofs.Steps.{turns-push}

module _ {S : Type 0} (takes : S → Turn → S → Type 0) where
  -- Only an accepted change changes the floor.
  abbrev pub OthersKeep : Type 0
  OthersKeep = (old : S) (t : Turn) (new : S) → takes old t new → is_accepted t ≡ false → new ≡ old

  follow-front : (a b : List Turn) (old new : S) → Follow takes old (a ++ b) new → (middle : S) × Follow takes old a middle
  follow-front [] b old new f = (old, refl)
  follow-front (t ∷ a) b old new f = let rest = follow-front a b f.0 new f.2 in (rest.0, (f.0, f.1, rest.1))

  follow-accepted-next : (t : Turn) (ts : List Turn) (old next new : S) (b : Bool) → is_accepted t ≡ b → OthersKeep → takes old t next
      → Follow takes next (accepted ts) new → Follow takes old (cond b (t ∷ accepted ts) (accepted ts)) new
  follow-accepted-next t ts old next new true is others one f = (next, one, f)
  follow-accepted-next t ts old next new false is others one f = subst (λ (s : S). Follow takes s (accepted ts) new) (others old t next one is) f

  follow-accepted : (ts : List Turn) (old new : S) → OthersKeep → Follow takes old ts new → Follow takes old (accepted ts) new
  follow-accepted [] old new others f = f
  follow-accepted (t ∷ ts) old new others f = follow-accepted-next t ts old f.0 new (is_accepted t) refl others f.1 (follow-accepted ts f.0 new others f.2)

  -- ---- events are a run of the floor

  follow-push : (ts : List Turn) (old middle new : S) (t : Turn) → Follow takes old ts middle → takes middle t new → Follow takes old (ts ++ t ∷ []) new
  follow-push [] old middle new t f one = (new, subst (λ (s : S). takes s t new) f one, refl)
  follow-push (u ∷ ts) old middle new t f one = (f.0, f.1, follow-push ts f.0 middle new t f.2 one)

  follow-step : (w : World) (e : HubEvent) (old middle new : S) → Follow takes old (turns_in w) middle → Acts takes middle e new → Follow takes old (turns_in (happens w e)) new
  follow-step w (Answers k t) old middle new f a = subst (λ ts. Follow takes old ts new) (sym (turns-push w.safe w.held t)) (follow-push (turns_in w) old middle new t f a)
  follow-step w (Closes k s t) old middle new f a = subst (λ ts. Follow takes old ts new) (sym (turns-push w.safe w.held t)) (follow-push (turns_in w) old middle new t f a)
  follow-step w (Opens k team access) old middle new f a = subst (λ (s : S). Follow takes old (turns_in w) s) (sym a) f
  follow-step w (Comes k bytes) old middle new f a = subst (λ (s : S). Follow takes old (turns_in w) s) (sym a) f
  follow-step w Syncs old middle new f a = subst (λ (s : S). Follow takes old (turns_in (happens w Syncs)) s) (sym a) (subst (λ ts. Follow takes old ts middle) (sym (append-nil (w.safe ++ w.held))) f)
  follow-step w (Sends k count) old middle new f a = subst (λ (s : S). Follow takes old (turns_in w) s) (sym a) f
  follow-step w (Leaves k) old middle new f a = subst (λ (s : S). Follow takes old (turns_in w) s) (sym a) f
  follow-step w (Frees k) old middle new f a = subst (λ (s : S). Follow takes old (turns_in w) s) (sym a) f

  pub follow-run : (es : List HubEvent) (w : World) (old middle new : S) → Follow takes old (turns_in w) middle → ActInTurn takes middle es new → Follow takes old (turns_in (run es w)) new
  follow-run [] w old middle new f a = subst (λ (s : S). Follow takes old (turns_in w) s) (sym a) f
  follow-run (e ∷ es) w old middle new f a = follow-run es (happens w e) old a.0 new (follow-step w e old middle a.0 f a.1) a.2

-- a front of the accepted changes is that of a front of the lines
front-next : (b : Bool) (left : ℕ) (t : Turn) (ts : List Turn) → is_accepted t ≡ b
    → ((k : ℕ) → (count : ℕ) × (take k (accepted ts) ≡ accepted (take count ts)))
    → (count : ℕ) × (take left (cond b (t ∷ accepted ts) (accepted ts)) ≡ accepted (take count (t ∷ ts)))
front-next true zero t ts is ih = (0, refl)
front-next true (suc k) t ts is ih = let h = ih k in (suc h.0, rw is (ap (λ (l : List Turn). t ∷ l) h.1))
front-next false left t ts is ih = let h = ih left in (suc h.0, rw is h.1)

front-accepted : (ts : List Turn) (left : ℕ) → (count : ℕ) × (take left (accepted ts) ≡ accepted (take count ts))
front-accepted [] zero = (0, refl)
front-accepted [] (suc k) = (0, refl)
front-accepted (t ∷ ts) left = front-next (is_accepted t) left t ts refl (λ k. front-accepted ts k)

pub crashed : {S : Type 0} → (takes : S → Turn → S → Type 0) (w : World) (old new : S) (left : ℕ) → OthersKeep takes → JournalIsExact w
    → Follow takes old (turns_in w) new → KeepsAcknowledged takes old w left
crashed takes w old new left others journal follows =
    let front = front-accepted w.held left in
    let kept = w.safe ++ take front.0 w.held in
    let whole : turns_in w ≡ kept ++ drop front.0 w.held =
    ap (λ l. w.safe ++ l) (sym (take-append-drop front.0 w.held)) ∙ sym (append_assoc w.safe (take front.0 w.held) (drop front.0 w.held)) in
    let until = follow-front takes kept (drop front.0 w.held) old new (subst (λ ts. Follow takes old ts new) whole follows) in
    let records : w.synced ++ take left w.written ≡ accepted kept =
    ap (λ l. l ++ take left w.written) journal.synced ∙ ap (λ l. accepted w.safe ++ take left l) journal.written
    ∙ ap (λ l. accepted w.safe ++ l) front.1 ∙ sym (filter-append is_accepted w.safe (take front.0 w.held)) in
    (front.0, until.0, subst (λ ts. Follow takes old ts until.0) (sym records) (follow-accepted takes kept old until.0 others until.1), until.1)
