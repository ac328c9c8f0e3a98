-- A hub and its history.
use Rattle.std.specs.Prelude.{◌≡◌, ℕ, ◌==◌, ◌+◌, ◌&&◌, Bool, true, false, not, cond, List, [], ◌∷◌, ◌++◌, filter, map, flat_map, take}
use Rattle.lf_hub_clients.specs.declared.client.Access.{Access}
use Rattle.lf_hub_clients.specs.declared.client.Access.TheVariants.{Changes, Queries}
use Rattle.lf_hub_clients.specs.Connections.{Connection}
use Rattle.lf_hub_clients.specs.Turns.{Turn}
use Rattle.lf_hub.specs.Machine.{Hub, HubEvent, Opens, Comes, Answers, Closes, Syncs, Sends, Leaves, Frees, after, May, connection_at, accepted}

-- A hub; of each connection, by its number, its team and access, the bytes that came from its client,
-- and those that were sent to it; the lines answered before the last sync, and those since; the
-- records on the disk, and those since.
pub record World : Type 0 where
  pub hub : Hub
  pub team : ℕ → ℕ
  pub access : ℕ → Access
  pub came : ℕ → List ℕ
  pub sent : ℕ → List ℕ
  pub safe : List Turn
  pub held : List Turn
  pub synced : List Turn
  pub written : List Turn

-- A hub with no client.
abbrev pub start : World
start = record {
  hub = record { made = 0; slots = []; sessions = []; answered = []; records = [] };
  team = λ _. 0;
  access = λ _. Changes;
  came = λ _. [];
  sent = λ _. [];
  safe = [];
  held = [];
  synced = [];
  written = [];
}

-- A table with another entry.
abbrev pub with_entry : {X : Type 0} → ℕ → X → (ℕ → X) → ℕ → X
with_entry number x table n = cond (n == number) x (table n)

abbrev pub number_at : ℕ → World → ℕ
number_at slot w = (connection_at slot w.hub.slots).number

-- The world after an event.
abbrev pub with_turn : Turn → World → World
with_turn turn w = record w { held = w.held ++ turn ∷ []; written = w.written ++ accepted (turn ∷ []) }

abbrev pub with_hub : HubEvent → World → World
with_hub e w = record w { hub = after w.hub e }

abbrev pub happens : World → HubEvent → World
happens w (Opens slot team access) = record (with_hub (Opens slot team access) w) {
  team = with_entry w.hub.made team w.team;
  access = with_entry w.hub.made access w.access;
}
happens w (Comes slot bytes) = record (with_hub (Comes slot bytes) w) {
  came = with_entry (number_at slot w) (w.came (number_at slot w) ++ bytes) w.came;
}
happens w (Answers slot turn) = with_turn turn (with_hub (Answers slot turn) w)
happens w (Closes slot s turn) = with_turn turn (with_hub (Closes slot s turn) w)
happens w Syncs = record (with_hub Syncs w) {
  safe = w.safe ++ w.held;
  held = [];
  synced = w.synced ++ w.written;
  written = [];
}
happens w (Sends slot count) = record (with_hub (Sends slot count) w) {
  sent = with_entry (number_at slot w)
      (w.sent (number_at slot w) ++ take count (connection_at slot w.hub.slots).ready) w.sent;
}
happens w (Leaves slot) = with_hub (Leaves slot) w
happens w (Frees slot) = with_hub (Frees slot) w

-- The world after a list of events.
abbrev pub run : List HubEvent → World → World
run [] w = w
run (e ∷ es) w = run es (happens w e)

-- Holds if each event has what it needs.
abbrev pub Runs : List HubEvent → World → Type 0
Runs [] w = Unit {0}
Runs (e ∷ es) w = May w.hub e × Runs es (happens w e)

-- ---- what is said of a world

-- The lines answered, in order.
abbrev pub turns_in : World → List Turn
turns_in w = w.safe ++ w.held

-- The lines of a connection among those that were answered.
abbrev pub is_line_of : ℕ → Turn → Bool
is_line_of number turn = turn.number == number && turn.is_own

abbrev pub own : ℕ → List Turn → List Turn
own number turns = filter (is_line_of number) turns

abbrev pub own_lines : ℕ → List Turn → List (List ℕ)
own_lines number turns = map (λ turn. turn.line) (own number turns)

abbrev pub own_replies : ℕ → List Turn → List ℕ
own_replies number turns = flat_map (λ turn. turn.reply) (own number turns)

abbrev pub IsPrefixOf : {X : Type 0} → List X → List X → Type 0
IsPrefixOf {X} xs ys = (rest : List X) × (xs ++ rest ≡ ys)
