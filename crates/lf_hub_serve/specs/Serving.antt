-- A hub that is served: events of the machine, and what they are on the wire and in the journal.
use Rattle.std.specs.Prelude.{◌≡◌, ◌⊎◌, ℕ, Bool, true, false, cond, nat_lt, List, [], ◌∷◌, ◌++◌, length, take}
use Rattle.lf_hub_clients.specs.Connections.{Connection, is_open}
use Rattle.lf_hub_clients.specs.Turns.{Turn}
use Rattle.lf_hub.specs.Machine.{Hub, HubEvent, Opens, Comes, Answers, Closes, Syncs, Sends, Leaves, Frees, after, May, connection_at}
use Rattle.lf_hub.specs.Laws.{Acts}
use Rattle.lf_hub_wire.specs.Calls.{Call, Accepted, Numbered, Came, Ended, Sent, Closed, Ordered, Told}

-- The machine's state, the floor, the calls of the wire so far, and the bytes of the records that were
-- saved since the beginning.
pub record Service (S : Type 0) : Type 0 where
  pub hub : Hub
  pub floor : S
  pub calls : List Call
  pub saved : List ℕ

-- ---- events on the wire

abbrev pub number_in : ℕ → Hub → ℕ
number_in slot h = (connection_at slot h.slots).number

-- The line feed that ends the line that a client has begun, if it has begun one.
abbrev pub end_of_line : Connection → List ℕ
end_of_line c = cond (nat_lt 0 (length c.begun)) (10 ∷ []) []

-- The calls that an event is. Bytes come by a read. If an open client sends no more, the line that it
-- has begun is ended.
abbrev pub IsOnWire : Hub → HubEvent → List Call → Type 0
IsOnWire h (Opens slot team access) calls = calls ≡ Accepted team access ∷ Numbered h.made ∷ []
IsOnWire h (Comes slot bytes) calls = (calls ≡ Came (number_in slot h) bytes ∷ [])
    ⊎ ((calls ≡ Ended (number_in slot h) ∷ []) × (is_open (connection_at slot h.slots).stage ≡ true)
    × (bytes ≡ end_of_line (connection_at slot h.slots)))
IsOnWire h (Answers slot turn) calls = calls ≡ []
IsOnWire h (Closes slot s turn) calls = calls ≡ []
IsOnWire h Syncs calls = calls ≡ []
IsOnWire h (Sends slot count) calls =
    calls ≡ Sent (number_in slot h) (take count (connection_at slot h.slots).ready) ∷ []
IsOnWire h (Leaves slot) calls = calls ≡ Closed (number_in slot h) ∷ []
IsOnWire h (Frees slot) calls = calls ≡ []

-- ---- events in the journal

-- The records that an event saves: a sync saves all since the last one.
abbrev pub saved_by : Hub → HubEvent → List ℕ
saved_by h (Opens slot team access) = []
saved_by h (Comes slot bytes) = []
saved_by h (Answers slot turn) = []
saved_by h (Closes slot s turn) = []
saved_by h Syncs = h.records
saved_by h (Sends slot count) = []
saved_by h (Leaves slot) = []
saved_by h (Frees slot) = []

-- ---- lists of events

-- An event happens to a service.
pub record Happens {S : Type 0} (takes : S → Turn → S → Type 0) (old : Service S) (e : HubEvent) (new : Service S) : Type 0 where
  pub may : May old.hub e
  pub hub : new.hub ≡ after old.hub e
  pub floor : Acts takes old.floor e new.floor
  pub made : List Call
  pub on_wire : IsOnWire old.hub e made
  pub calls : new.calls ≡ old.calls ++ made
  pub saved : new.saved ≡ old.saved ++ saved_by old.hub e

-- Events happen to it, one after the other.
abbrev pub Follow : {S : Type 0} → (S → Turn → S → Type 0) → Service S → List HubEvent → Service S → Type 0
Follow takes old [] new = new ≡ old
Follow {S} takes old (e ∷ es) new = (next : Service S) × Happens takes old e next × Follow takes next es new

-- There are events that lead from the first service to the second.
abbrev pub Serves : {S : Type 0} → (S → Turn → S → Type 0) → Service S → Service S → Type 0
Serves takes old new = (events : List HubEvent) × Follow takes old events new

-- A call that brings something from a client. No reply goes out by it.
abbrev pub brings : Call → Bool
brings (Accepted team access) = true
brings (Numbered number) = false
brings (Came number bytes) = true
brings (Ended number) = true
brings (Sent number bytes) = false
brings (Closed number) = false
brings (Ordered line) = false
brings (Told reply) = false

-- The same, and then at most one call more: there was no memory for what it has brought.
pub record Breaks {S : Type 0} (takes : S → Turn → S → Type 0) (old new : Service S) : Type 0 where
  pub last : Service S
  pub serves : Serves takes old last
  pub lost : List Call
  pub brought : (lost ≡ []) ⊎ ((call : Call) × (brings call ≡ true) × (lost ≡ call ∷ []))
  pub is : new ≡ record last { calls = last.calls ++ lost }
