-- What a turn does.
use Rattle.std.specs.Prelude.{◌≡◌, ℕ, Bool, true, false, List, Option, Some, None, option_map}
use Rattle.lf_hub_clients.specs.declared.floor.Outcome.{Outcome}
use Rattle.lf_hub_clients.specs.Connections.{may_answer, turn_of}
use Rattle.lf_hub_clients.specs.Turns.{Turn, closing_turn}
use Rattle.lf_hub_turns.specs.Queues.{Queues, next_turn, turn_done}
use Rattle.lf_hub.specs.declared.open_sessions.OpenSession.{OpenSession}
use Rattle.lf_hub.specs.declared.hub_core.Progress.{Progress}
use Rattle.lf_hub.specs.declared.hub_core.Progress.TheVariants.{Idle, Passed, Answered, Closed, Freed}
use Rattle.lf_hub.specs.Machine.{Hub, HubEvent, Answers, Closes, Frees, after, May, connection_at}

-- A hub with the queues of those that wait, and the last line that was answered with its reply.
pub record CoreState : Type 0 where
  pub hub : Hub
  pub turns : Queues
  pub line : List ℕ
  pub reply : List ℕ

-- The client whose turn it is.
abbrev pub next_client : Queues → Option ℕ
next_client q = option_map (λ turn. turn.1) (next_turn q)

-- The last line, as a line of the client in a slot with this outcome.
abbrev pub last_turn : Hub → ℕ → Outcome → CoreState → Turn
last_turn hub slot outcome new = turn_of (connection_at slot hub.slots) new.line new.reply outcome

abbrev pub last_closing : Hub → ℕ → Outcome → CoreState → Turn
last_closing hub slot outcome new =
    closing_turn (connection_at slot hub.slots).number (connection_at slot hub.slots).team new.line new.reply outcome

module _ {S : Type 0} (takes : S → Turn → S → Type 0) where
  -- An event happens, and it is the turn of this slot.
  abbrev pub Happens : CoreState → ℕ → HubEvent → CoreState → Type 0
  Happens old slot e new = (next_client old.turns ≡ Some slot) × May old.hub e × (new.hub ≡ after old.hub e)

  -- What a turn does: nothing if nobody waits; the client whose turn it is has no line that may be
  -- answered; its line is answered; a session of a client that has left is closed; or its slot
  -- becomes free, since none is open.
  abbrev pub Advances : CoreState → S → Progress → CoreState → S → Type 0
  Advances old floor Idle new after_floor =
      (next_turn old.turns ≡ None) × (new.hub ≡ old.hub) × (new.turns ≡ old.turns) × (after_floor ≡ floor)
  Advances old floor (Passed slot stays) new after_floor =
      (next_client old.turns ≡ Some slot) × (new.hub ≡ old.hub) × (new.turns ≡ turn_done stays old.turns)
      × (after_floor ≡ floor)
  Advances old floor (Answered slot outcome stays) new after_floor =
      Happens old slot (Answers slot (last_turn old.hub slot outcome new)) new
      × takes floor (last_turn old.hub slot outcome new) after_floor
      × (new.turns ≡ turn_done stays old.turns)
  Advances old floor (Closed slot session outcome) new after_floor =
      Happens old slot (Closes slot session (last_closing old.hub slot outcome new)) new
      × takes floor (last_closing old.hub slot outcome new) after_floor
      × (new.turns ≡ turn_done true old.turns)
  Advances old floor (Freed slot) new after_floor =
      Happens old slot (Frees slot) new × (new.turns ≡ turn_done false old.turns) × (after_floor ≡ floor)
