-- A hub, as a machine: what it has, and what may happen to it.
use Rattle.std.specs.Prelude.{◌≡◌, ◌<◌, ◌≤◌, ◌⊎◌, ℕ, ◌+◌, ◌==◌, ◌&&◌, nat_lt, Bool, true, false, not, cond, decimal, List, [], ◌∷◌, ◌++◌, length, filter, slice_set, slice_index_or, Option, Some, None}
use Rattle.lf_hub_clients.specs.declared.client.Access.{Access}
use Rattle.lf_hub_clients.specs.declared.client.Access.TheVariants.{Changes}
use Rattle.lf_hub_clients.specs.declared.client.Stage.{Stage}
use Rattle.lf_hub_clients.specs.declared.client.Stage.TheVariants.{Open, Done, Leaving, Free}
use Rattle.lf_hub_clients.specs.declared.floor.Outcome.{Outcome}
use Rattle.lf_hub_clients.specs.declared.floor.Outcome.TheVariants.{Unchanged, Changed, Opened, Closed, Named, Ended}
use Rattle.lf_hub_clients.specs.Connections.{Connection, new_connection, with_bytes, with_answer, released, after_sending, leaving, freed, may_answer, room_of, turn_of}
use Rattle.lf_hub_clients.specs.Turns.{Turn, closing_turn, is_change}
use Rattle.lf_hub.specs.declared.open_sessions.OpenSession.{OpenSession}

-- The connections that were made so far; the connection of each slot; the open sessions; the slots
-- whose lines were answered since the last sync, and the bytes of the records since then.
pub record Hub : Type 0 where
  pub made : ℕ
  pub slots : List Connection
  pub sessions : List OpenSession
  pub answered : List ℕ
  pub records : List ℕ

-- ---- records

-- The text of a record: the number of the connection, the line and the reply, a line each.
abbrev pub record_text : Turn → List ℕ
record_text turn = decimal turn.number ++ 10 ∷ [] ++ turn.line ++ 10 ∷ [] ++ turn.reply

-- The accepted changes among lines that were answered. Each of them has a record.
abbrev pub is_accepted : Turn → Bool
is_accepted turn = is_change turn.outcome

abbrev pub accepted : List Turn → List Turn
accepted turns = filter is_accepted turns

abbrev pub record_of : Turn → List ℕ
record_of turn = cond (is_accepted turn) (record_text turn) []

-- ---- sessions

-- The first open session of the client in a slot.
abbrev pub session_of : ℕ → List OpenSession → Option OpenSession
session_of slot [] = None
session_of slot (s ∷ ss) = cond (s.slot == slot) (Some s) (session_of slot ss)

-- The open sessions without this one of the team.
abbrev pub without_session : ℕ → ℕ → List OpenSession → List OpenSession
without_session team session [] = []
without_session team session (s ∷ ss) =
    cond (s.team == team && s.session == session) ss (s ∷ without_session team session ss)

-- The open sessions after a line of the client in a slot.
abbrev pub sessions_after : ℕ → ℕ → Outcome → List OpenSession → List OpenSession
sessions_after slot team (Opened session) ss =
    without_session team session ss ++ record { team = team; session = session; slot = slot } ∷ []
sessions_after slot team (Closed session) ss = without_session team session ss
sessions_after slot team Unchanged ss = ss
sessions_after slot team Changed ss = ss
sessions_after slot team Named ss = ss
sessions_after slot team Ended ss = ss

-- ---- slots

-- A connection where no slot is.
abbrev pub no_connection : Connection
no_connection = freed (new_connection 0 0 Changes)

abbrev pub connection_at : ℕ → List Connection → Connection
connection_at slot slots = slice_index_or slots slot no_connection

abbrev pub changed_at : ℕ → (Connection → Connection) → List Connection → List Connection
changed_at slot change slots = slice_set slots slot (change (connection_at slot slots))

-- The new connection in a slot, which may be one behind the others.
abbrev pub put_at : ℕ → Connection → List Connection → List Connection
put_at slot c slots = cond (nat_lt slot (length slots)) (slice_set slots slot c) (slots ++ c ∷ [])

-- What is held in these slots may be sent.
abbrev pub released_at : List ℕ → List Connection → List Connection
released_at [] slots = slots
released_at (slot ∷ rest) slots = released_at rest (changed_at slot released slots)

-- ---- events

pub data HubEvent : Type 0 where
  -- a client connects to the socket of a team, and gets a slot
  Opens : ℕ → ℕ → Access → HubEvent
  -- bytes come from the client in a slot
  Comes : ℕ → List ℕ → HubEvent
  -- the next line of the client in a slot is answered
  Answers : ℕ → Turn → HubEvent
  -- a session of the client that has left a slot is closed
  Closes : ℕ → OpenSession → Turn → HubEvent
  -- the records are on the disk
  Syncs : HubEvent
  -- this many bytes are sent to the client in a slot
  Sends : ℕ → ℕ → HubEvent
  -- the client in a slot is gone
  Leaves : ℕ → HubEvent
  -- the slot may have another client
  Frees : ℕ → HubEvent

-- The hub after an event.
abbrev pub after : Hub → HubEvent → Hub
after h (Opens slot team access) = record h {
  made = h.made + 1;
  slots = put_at slot (new_connection h.made team access) h.slots;
}
after h (Comes slot bytes) = record h { slots = changed_at slot (with_bytes bytes) h.slots }
after h (Answers slot turn) = record h {
  slots = changed_at slot (with_answer turn) h.slots;
  sessions = sessions_after slot turn.team turn.outcome h.sessions;
  answered = h.answered ++ slot ∷ [];
  records = h.records ++ record_of turn;
}
after h (Closes slot s turn) = record h {
  sessions = without_session s.team s.session h.sessions;
  records = h.records ++ record_of turn;
}
after h Syncs = record h { slots = released_at h.answered h.slots; answered = []; records = [] }
after h (Sends slot count) = record h { slots = changed_at slot (after_sending count) h.slots }
after h (Leaves slot) = record h { slots = changed_at slot leaving h.slots }
after h (Frees slot) = record h { slots = changed_at slot freed h.slots }

-- Whether replies to the connection still go out.
abbrev pub is_live : Stage → Bool
is_live Open = true
is_live Done = true
is_live Leaving = false
is_live Free = false

-- What an event needs:
-- - a slot that nobody uses
-- - no more bytes than there is room for
-- - a line that may be answered, which is answered for the team of the client's socket
-- - a client that has left, and a session that it opened, which is closed for its team
-- - bytes that may be sent
-- - a client that has not left
-- - a client that has left and has no open session
abbrev pub May : Hub → HubEvent → Type 0
May h (Opens slot team access) =
    (slot ≤ length h.slots) × (slot < length h.slots → (connection_at slot h.slots).stage ≡ Free)
May h (Comes slot bytes) = (slot < length h.slots) × (length bytes ≤ room_of (connection_at slot h.slots))
May h (Answers slot turn) = (slot < length h.slots) × (may_answer (connection_at slot h.slots) ≡ true)
    × ((connection_at slot h.slots).lines ≡ turn.line ∷ (with_answer turn (connection_at slot h.slots)).lines)
    × (turn ≡ turn_of (connection_at slot h.slots) turn.line turn.reply turn.outcome)
May h (Closes slot s turn) = (slot < length h.slots) × ((connection_at slot h.slots).stage ≡ Leaving)
    × (session_of slot h.sessions ≡ Some s)
    × (turn ≡ closing_turn (connection_at slot h.slots).number (connection_at slot h.slots).team turn.line turn.reply turn.outcome)
May h Syncs = Unit {0}
May h (Sends slot count) = (slot < length h.slots) × (count ≤ length (connection_at slot h.slots).ready)
May h (Leaves slot) = (slot < length h.slots) × (is_live (connection_at slot h.slots).stage ≡ true)
May h (Frees slot) = (slot < length h.slots) × ((connection_at slot h.slots).stage ≡ Leaving)
    × (session_of slot h.sessions ≡ None)
