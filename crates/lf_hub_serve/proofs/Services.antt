-- Services that events lead from one to another.
use Rattle.std.proofs.Common.{◌≡◌, ◌<◌, ◌≤◌, ℕ, List, [], ◌∷◌, ◌++◌, length, take_all, arith, refl, sym, ap, subst, ◌∙◌, inl, inr, true, take, append_assoc, append-nil}
use Rattle.std.specs.Prelude.{min, cond, nat_lt, Bool, false}
use Rattle.lf_hub_clients.specs.Turns.{Turn}
use Rattle.lf_hub_clients.specs.declared.client.Access.{Access}
use Rattle.lf_hub_clients.specs.Connections.{Connection, is_open, new_connection, room_of}
use Rattle.lf_hub.specs.Machine.{Hub, HubEvent, Opens, Comes, Answers, Closes, Syncs, Sends, Leaves, Frees, after, May, connection_at}
use Rattle.lf_hub.proofs.Slots.{put-same}
use Rattle.lf_hub.specs.Progress.{Advances, CoreState, last_turn, last_closing}
use Rattle.lf_hub.specs.declared.hub_core.Progress.{Progress}
use Rattle.lf_hub.specs.declared.hub_core.Progress.TheVariants.{Idle, Passed, Answered, Closed as ClosedOne, Freed}
use Rattle.lf_hub_wire.specs.Calls.{Call, Accepted, Numbered, Came, Ended, Sent, Closed}
use Rattle.lf_hub_serve.specs.Serving.{Service, Happens, Follow, Serves, Breaks, brings, saved_by, number_in, end_of_line}

abbrev pub with_saved : {S : Type 0} → List ℕ → Service S → Service S
with_saved before s = record s { saved = before ++ s.saved }

-- bytes that all have room
taken : (bytes : List ℕ) (n room : ℕ) → n ≡ min (length bytes) room → length bytes ≤ room → take n bytes ≡ bytes
taken bytes n room e h = take_all n bytes (omega (arith, e, h))

-- a line feed has room where there is any
feed_length : (b : Bool) → length {A = ℕ} (cond b (10 ∷ []) []) ≤ 1
feed_length true = omega arith
feed_length false = omega arith

pub feed_fits : (c : Connection) (bytes : List ℕ) (room : ℕ) → bytes ≡ end_of_line c → 0 < room → length bytes ≤ room
feed_fits c bytes room e some = omega (arith, ap (λ (b : List ℕ). length b) e, feed_length (nat_lt 0 (length c.begun)), some)

-- only an open client has room
room_is_open : (b : Bool) (n : ℕ) → 0 < cond b n 0 → b ≡ true
room_is_open true n h = refl
room_is_open false n h = absurd (omega (arith, h))

module _ {S : Type 0} (takes : S → Turn → S → Type 0) where
  pub serves_same : (a b : Service S) → b ≡ a → Serves takes a b
  serves_same a b e = ([], e)

  pub serves_one : (a b : Service S) (e : HubEvent) → Happens takes a e b → Serves takes a b
  serves_one a b e h = (e ∷ [], (b, h, refl))

  follow_then : (es fs : List HubEvent) (a b c : Service S) → Follow takes a es b → Follow takes b fs c → Follow takes a (es ++ fs) c
  follow_then [] fs a b c f g = subst (λ (s : Service S). Follow takes s fs c) f g
  follow_then (e ∷ es) fs a b c f g = (f.0, f.1, follow_then es fs f.0 b c f.2 g)

  pub serves_then : (a b c : Service S) → Serves takes a b → Serves takes b c → Serves takes a c
  serves_then a b c f g = (f.0 ++ g.0, follow_then f.0 g.0 a b c f.1 g.1)

  pub breaks_whole : (a b : Service S) → Serves takes a b → Breaks takes a b
  breaks_whole a b f = record {
    last = b;
    serves = f;
    lost = [];
    brought = inl refl;
    is = ap (λ (l : List Call). record b { calls = l }) (sym (append-nil b.calls));
  }

  pub breaks_lost : (a b : Service S) (call : Call) → brings call ≡ true → b ≡ record a { calls = a.calls ++ call ∷ [] } → Breaks takes a b
  breaks_lost a b call is e = record {
    last = a;
    serves = serves_same a a refl;
    lost = call ∷ [];
    brought = inr (call, is, refl);
    is = e;
  }

  pub serves_breaks : (a b c : Service S) → Serves takes a b → Breaks takes b c → Breaks takes a c
  serves_breaks a b c f g = record {
    last = g.last;
    serves = serves_then a b g.last f g.serves;
    lost = g.lost;
    brought = g.brought;
    is = g.is;
  }

  -- what was saved before stays in front
  happens_later : (before : List ℕ) (a : Service S) (e : HubEvent) (b : Service S) → Happens takes a e b → Happens takes (with_saved before a) e (with_saved before b)
  happens_later before a e b h = record {
    may = h.may;
    hub = h.hub;
    floor = h.floor;
    made = h.made;
    on_wire = h.on_wire;
    calls = h.calls;
    saved = ap (λ l. before ++ l) h.saved ∙ sym (append_assoc before a.saved (saved_by a.hub e));
  }

  follow_later : (before : List ℕ) (es : List HubEvent) (a b : Service S) → Follow takes a es b → Follow takes (with_saved before a) es (with_saved before b)
  follow_later before [] a b f = ap (with_saved before) f
  follow_later before (e ∷ es) a b f = (with_saved before f.0, happens_later before a e f.0 f.1, follow_later before es f.0 b f.2)

  pub serves_later : (before : List ℕ) (a b : Service S) → Serves takes a b → Serves takes (with_saved before a) (with_saved before b)
  serves_later before a b f = (f.0, follow_later before f.0 a b f.1)

  pub breaks_later : (before : List ℕ) (a b : Service S) → Breaks takes a b → Breaks takes (with_saved before a) (with_saved before b)
  breaks_later before a b f = record {
    last = with_saved before f.last;
    serves = serves_later before a f.last f.serves;
    lost = f.lost;
    brought = f.brought;
    is = ap (with_saved before) f.is;
  }

  -- ---- turns

  abbrev pub service : Hub → S → List Call → Service S
  service hub floor calls = record { hub = hub; floor = floor; calls = calls; saved = [] }

  pub same_service : (g h : Hub) (floor next : S) (l m : List Call) → h ≡ g → next ≡ floor → m ≡ l → Serves takes (service g floor l) (service h next m)
  same_service g h floor next l m e f c =
      serves_same (service g floor l) (service h next m)
      (ap (λ (x : Hub). service x next m) e ∙ ap (λ (x : S). service g x m) f ∙ ap (λ (x : List Call). service g floor x) c)

  pub advanced : (old : CoreState) (floor : S) (p : Progress) (new : CoreState) (next : S) (calls : List Call)
      → Advances takes old floor p new next → Serves takes (service old.hub floor calls) (service new.hub next calls)
  advanced old floor Idle new next calls a = same_service old.hub new.hub floor next calls calls a.1 a.3 refl
  advanced old floor (Passed slot stays) new next calls a = same_service old.hub new.hub floor next calls calls a.1 a.3 refl
  advanced old floor (Answered slot outcome stays) new next calls a =
      serves_one (service old.hub floor calls) (service new.hub next calls) (Answers slot (last_turn old.hub slot outcome new)) (record {
        may = a.0.1;
        hub = a.0.2;
        floor = a.1;
        made = [];
        on_wire = refl;
        calls = sym (append-nil calls);
        saved = refl;
      })
  advanced old floor (ClosedOne slot session outcome) new next calls a =
      serves_one (service old.hub floor calls) (service new.hub next calls) (Closes slot session (last_closing old.hub slot outcome new)) (record {
        may = a.0.1;
        hub = a.0.2;
        floor = a.1;
        made = [];
        on_wire = refl;
        calls = sym (append-nil calls);
        saved = refl;
      })
  advanced old floor (Freed slot) new next calls a =
      serves_one (service old.hub floor calls) (service new.hub next calls) (Frees slot) (record {
        may = a.0.1;
        hub = a.0.2;
        floor = a.2;
        made = [];
        on_wire = refl;
        calls = sym (append-nil calls);
        saved = refl;
      })

  -- ---- events on the wire

  pub opened : (g h : Hub) (floor : S) (l m n : List Call) (slot team number : ℕ) (access : Access)
      → May g (Opens slot team access) → h ≡ after g (Opens slot team access) → number ≡ (connection_at slot h.slots).number
      → m ≡ l ++ Accepted team access ∷ [] → n ≡ m ++ Numbered number ∷ [] → Serves takes (service g floor l) (service h floor n)
  opened g h floor l m n slot team number access may e is p q =
      let own : (connection_at slot h.slots).number ≡ g.made =
      ap (λ (x : Hub). (connection_at slot x.slots).number) e
      ∙ ap (λ (c : Connection). c.number) (put-same g.slots slot (new_connection g.made team access) may.0) in
      serves_one (service g floor l) (service h floor n) (Opens slot team access) (record {
        may = may;
        hub = e;
        floor = refl;
        made = Accepted team access ∷ Numbered number ∷ [];
        on_wire = ap (λ k. Accepted team access ∷ Numbered k ∷ []) (is ∙ own);
        calls = q ∙ ap (λ x. x ++ Numbered number ∷ []) p ∙ append_assoc l (Accepted team access ∷ []) (Numbered number ∷ []);
        saved = refl;
      })

  pub came : (g h : Hub) (floor : S) (l m : List Call) (slot number : ℕ) (bytes : List ℕ)
      → May g (Comes slot bytes) → h ≡ after g (Comes slot bytes) → number ≡ number_in slot g
      → m ≡ l ++ Came number bytes ∷ [] → Serves takes (service g floor l) (service h floor m)
  came g h floor l m slot number bytes may e is p =
      serves_one (service g floor l) (service h floor m) (Comes slot bytes) (record {
        may = may;
        hub = e;
        floor = refl;
        made = Came number bytes ∷ [];
        on_wire = inl (ap (λ k. Came k bytes ∷ []) is);
        calls = p;
        saved = refl;
      })

  pub ended : (g h : Hub) (floor : S) (l m : List Call) (slot number : ℕ) (bytes : List ℕ)
      → May g (Comes slot bytes) → h ≡ after g (Comes slot bytes) → number ≡ number_in slot g
      → is_open (connection_at slot g.slots).stage ≡ true → bytes ≡ end_of_line (connection_at slot g.slots) → m ≡ l ++ Ended number ∷ [] → Serves takes (service g floor l) (service h floor m)
  ended g h floor l m slot number bytes may e is is_still_open feed p =
      serves_one (service g floor l) (service h floor m) (Comes slot bytes) (record {
        may = may;
        hub = e;
        floor = refl;
        made = Ended number ∷ [];
        on_wire = inr (ap (λ k. Ended k ∷ []) is, is_still_open, feed);
        calls = p;
        saved = refl;
      })

  -- the same, where the hub takes as many bytes as there is room for
  pub came_whole : (g h : Hub) (floor : S) (l m : List Call) (slot number n : ℕ) (bytes : List ℕ)
      → slot < length g.slots → length bytes ≤ room_of (connection_at slot g.slots) → n ≡ min (length bytes) (room_of (connection_at slot g.slots))
      → h ≡ after g (Comes slot (take n bytes)) → number ≡ number_in slot g → m ≡ l ++ Came number bytes ∷ [] → Serves takes (service g floor l) (service h floor m)
  came_whole g h floor l m slot number n bytes below fits count e is p =
      came g h floor l m slot number bytes (below, fits)
      (e ∙ ap (λ (b : List ℕ). after g (Comes slot b)) (taken bytes n (room_of (connection_at slot g.slots)) count fits)) is p

  pub ended_whole : (g h : Hub) (floor : S) (l m : List Call) (slot number n : ℕ) (bytes : List ℕ)
      → slot < length g.slots → length bytes ≤ room_of (connection_at slot g.slots) → n ≡ min (length bytes) (room_of (connection_at slot g.slots))
      → h ≡ after g (Comes slot (take n bytes)) → number ≡ number_in slot g → 0 < room_of (connection_at slot g.slots)
      → bytes ≡ end_of_line (connection_at slot g.slots) → m ≡ l ++ Ended number ∷ [] → Serves takes (service g floor l) (service h floor m)
  ended_whole g h floor l m slot number n bytes below fits count e is some feed p =
      ended g h floor l m slot number bytes (below, fits)
      (e ∙ ap (λ (b : List ℕ). after g (Comes slot b)) (taken bytes n (room_of (connection_at slot g.slots)) count fits)) is
      (room_is_open (is_open (connection_at slot g.slots).stage) _ some) feed p

  pub sent : (g h : Hub) (floor : S) (l m : List Call) (slot number count : ℕ) (bytes : List ℕ)
      → May g (Sends slot count) → h ≡ after g (Sends slot count) → number ≡ number_in slot g → bytes ≡ (connection_at slot g.slots).ready
      → m ≡ l ++ Sent number (take count bytes) ∷ [] → Serves takes (service g floor l) (service h floor m)
  sent g h floor l m slot number count bytes may e is ready p =
      serves_one (service g floor l) (service h floor m) (Sends slot count) (record {
        may = may;
        hub = e;
        floor = refl;
        made = Sent number (take count bytes) ∷ [];
        on_wire = ap (λ k. Sent k (take count bytes) ∷ []) is ∙ ap (λ b. Sent (number_in slot g) (take count b) ∷ []) ready;
        calls = p;
        saved = refl;
      })

  pub left : (g h : Hub) (floor : S) (l m : List Call) (slot number : ℕ)
      → May g (Leaves slot) → h ≡ after g (Leaves slot) → number ≡ number_in slot g
      → m ≡ l ++ Closed number ∷ [] → Serves takes (service g floor l) (service h floor m)
  left g h floor l m slot number may e is p =
      serves_one (service g floor l) (service h floor m) (Leaves slot) (record {
        may = may;
        hub = e;
        floor = refl;
        made = Closed number ∷ [];
        on_wire = ap (λ k. Closed k ∷ []) is;
        calls = p;
        saved = refl;
      })

  pub synced : (g h : Hub) (floor : S) (l : List Call) → h ≡ after g Syncs
      → Serves takes (service g floor l) (record { hub = h; floor = floor; calls = l; saved = g.records })
  synced g h floor l e =
      serves_one (service g floor l) (record { hub = h; floor = floor; calls = l; saved = g.records }) Syncs (record {
        may = tt;
        hub = e;
        floor = refl;
        made = [];
        on_wire = refl;
        calls = sym (append-nil l);
        saved = refl;
      })

  -- what a call has brought is lost
  pub lost : (g h : Hub) (floor : S) (l m : List Call) (call : Call) → brings call ≡ true → h ≡ g → m ≡ l ++ call ∷ [] → Breaks takes (service g floor l) (service h floor m)
  lost g h floor l m call is e p =
      breaks_lost (service g floor l) (service h floor m) call is (ap (λ (x : Hub). service x floor m) e ∙ ap (λ (x : List Call). service g floor x) p)

  -- ---- with what was saved before

  abbrev pub saving : Hub → S → List Call → List ℕ → Service S
  saving hub floor calls saved = record { hub = hub; floor = floor; calls = calls; saved = saved }

  pub serves_on : (before saved : List ℕ) (g h : Hub) (floor next : S) (l m : List Call)
      → Serves takes (service g floor l) (saving h next m saved) → Serves takes (saving g floor l before) (saving h next m (before ++ saved))
  serves_on before saved g h floor next l m f =
      subst (λ (s : List ℕ). Serves takes (saving g floor l s) (saving h next m (before ++ saved))) (append-nil before)
      (serves_later before (service g floor l) (saving h next m saved) f)

  pub serves_with : (before : List ℕ) (g h : Hub) (floor next : S) (l m : List Call)
      → Serves takes (service g floor l) (service h next m) → Serves takes (saving g floor l before) (saving h next m before)
  serves_with before g h floor next l m f =
      subst (λ (s : List ℕ). Serves takes (saving g floor l before) (saving h next m s)) (append-nil before) (serves_on before [] g h floor next l m f)

  pub breaks_on : (before saved : List ℕ) (g h : Hub) (floor next : S) (l m : List Call)
      → Breaks takes (service g floor l) (saving h next m saved) → Breaks takes (saving g floor l before) (saving h next m (before ++ saved))
  breaks_on before saved g h floor next l m f =
      subst (λ (s : List ℕ). Breaks takes (saving g floor l s) (saving h next m (before ++ saved))) (append-nil before)
      (breaks_later before (service g floor l) (saving h next m saved) f)

  pub breaks_with : (before : List ℕ) (g h : Hub) (floor next : S) (l m : List Call)
      → Breaks takes (service g floor l) (service h next m) → Breaks takes (saving g floor l before) (saving h next m before)
  breaks_with before g h floor next l m f =
      subst (λ (s : List ℕ). Breaks takes (saving g floor l before) (saving h next m s)) (append-nil before) (breaks_on before [] g h floor next l m f)
