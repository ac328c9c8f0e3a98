-- What a hub has of one connection, and what may happen to it.
use Rattle.std.specs.Prelude.{ℕ, ◌+◌, ◌-◌, Bool, true, false, ◌&&◌, cond, nat_lt, List, [], ◌∷◌, ◌++◌, drop, length}
use Rattle.lf_hub_clients.specs.declared.client.Access.{Access}
use Rattle.lf_hub_clients.specs.declared.client.Stage.{Stage}
use Rattle.lf_hub_clients.specs.declared.client.Stage.TheVariants.{Open, Done, Leaving, Free}
use Rattle.lf_hub_clients.specs.declared.floor.Outcome.{Outcome}
use Rattle.lf_hub_clients.specs.declared.floor.Outcome.TheVariants.{Unchanged, Changed, Opened, Closed, Named, Ended}
use Rattle.lf_hub_clients.specs.Lines.{lines_after, begun_after, lines_size, waiting_limit}
use Rattle.lf_hub_clients.specs.Turns.{Turn, sent_turn}

-- A connection: its number, team, access and stage; its label; the lines that wait, and the line that
-- has begun; the bytes of replies that may be sent, and those that are held until the next sync.
pub record Connection : Type 0 where
  pub number : ℕ
  pub team : ℕ
  pub access : Access
  pub stage : Stage
  pub label : List ℕ
  pub lines : List (List ℕ)
  pub begun : List ℕ
  pub ready : List ℕ
  pub held : List ℕ

-- A connection that was just made.
abbrev pub new_connection : ℕ → ℕ → Access → Connection
new_connection number team access = record {
  number = number;
  team = team;
  access = access;
  stage = Open;
  label = [];
  lines = [];
  begun = [];
  ready = [];
  held = [];
}

-- The bytes of replies that a client may leave unread before no more of its lines are answered.
abbrev pub unsent_limit : ℕ
unsent_limit = 65536

abbrev pub is_open : Stage → Bool
is_open Open = true
is_open Done = false
is_open Leaving = false
is_open Free = false

-- How many more bytes may come from the client.
abbrev pub room_of : Connection → ℕ
room_of c = cond (is_open c.stage) (waiting_limit - (lines_size c.lines + length c.begun)) 0

-- Whether the next line may be answered: one waits, and the client reads its replies.
abbrev pub may_answer : Connection → Bool
may_answer c = is_open c.stage && nat_lt 0 (length c.lines) && nat_lt (length c.ready + length c.held) unsent_limit

-- The line of a connection, answered.
abbrev pub turn_of : Connection → List ℕ → List ℕ → Outcome → Turn
turn_of c line reply outcome = sent_turn c.number c.team c.access line reply outcome

-- These bytes come from the client.
abbrev pub with_bytes : List ℕ → Connection → Connection
with_bytes bytes c = record c { lines = c.lines ++ lines_after c.begun bytes; begun = begun_after c.begun bytes }

-- The label and the stage after a line with this outcome. The label is the line that gave it.
abbrev pub label_after : Outcome → List ℕ → List ℕ → List ℕ
label_after Named line label = line
label_after Unchanged line label = label
label_after Changed line label = label
label_after (Opened session) line label = label
label_after (Closed session) line label = label
label_after Ended line label = label

abbrev pub stage_after : Outcome → Stage → Stage
stage_after Ended stage = Done
stage_after Unchanged stage = stage
stage_after Changed stage = stage
stage_after (Opened session) stage = stage
stage_after (Closed session) stage = stage
stage_after Named stage = stage

-- The next line is answered: it leaves, and its reply is held.
abbrev pub without_first : List (List ℕ) → List (List ℕ)
without_first [] = []
without_first (line ∷ lines) = lines

abbrev pub with_answer : Turn → Connection → Connection
with_answer turn c = record c {
  stage = stage_after turn.outcome c.stage;
  label = label_after turn.outcome turn.line c.label;
  lines = without_first c.lines;
  held = c.held ++ turn.reply;
}

-- What is held may be sent.
abbrev pub released : Connection → Connection
released c = record c { ready = c.ready ++ c.held; held = [] }

-- This many bytes were sent to the client.
abbrev pub after_sending : ℕ → Connection → Connection
after_sending count c = record c { ready = drop count c.ready }

-- The connection is gone: what waits and what was not sent is dropped.
abbrev pub leaving : Connection → Connection
leaving c = record c { stage = Leaving; lines = []; begun = []; ready = []; held = [] }

-- Nobody uses the slot.
abbrev pub freed : Connection → Connection
freed c = record c { stage = Free }
