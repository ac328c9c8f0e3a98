-- What holds of turns after every list of events.
use Rattle.std.specs.Prelude.{◌≡◌, ◌≤◌, ℕ, ◌+◌, ◌==◌, ◌||◌, Bool, true, false, cond, List, [], ◌∷◌, ◌++◌, replicate, Option, Some, None}
use Rattle.lf_hub_turns.specs.Queues.{Queues, queue_of, joined, next_turn, turn_done}

pub data TurnEvent : Type 0 where
  -- a number of clients that do not wait becomes greater by one
  Grows : TurnEvent
  -- a client of a team waits
  Joins : ℕ → ℕ → TurnEvent
  -- a turn ends, and its client waits on or not
  Ends : Bool → TurnEvent

abbrev pub after_event : Queues → TurnEvent → Queues
after_event q Grows = record q { waits = q.waits ++ false ∷ [] }
after_event q (Joins team client) = joined team client q
after_event q (Ends stays) = turn_done stays q

abbrev pub run_turns : List TurnEvent → Queues → Queues
run_turns [] q = q
run_turns (e ∷ es) q = run_turns es (after_event q e)

-- The queues of this many teams, without a client.
abbrev pub no_client : ℕ → Queues
no_client teams = record { teams = []; clients = replicate teams []; waits = [] }

-- The team whose turn ends.
abbrev pub team_of_turn : Option (ℕ × ℕ) → List ℕ
team_of_turn None = []
team_of_turn (Some turn) = turn.0 ∷ []

-- The client whose turn ends, if it is of this team.
abbrev pub client_of_turn : ℕ → Option (ℕ × ℕ) → List ℕ
client_of_turn team None = []
client_of_turn team (Some turn) = cond (turn.0 == team) (turn.1 ∷ []) []

-- The turns that end, in order: their teams, and their clients of one team.
abbrev pub team_turns : List TurnEvent → Queues → List ℕ
team_turns [] q = []
team_turns (Grows ∷ es) q = team_turns es (after_event q Grows)
team_turns (Joins team client ∷ es) q = team_turns es (joined team client q)
team_turns (Ends stays ∷ es) q = team_of_turn (next_turn q) ++ team_turns es (turn_done stays q)

abbrev pub client_turns : ℕ → List TurnEvent → Queues → List ℕ
client_turns of [] q = []
client_turns of (Grows ∷ es) q = client_turns of es (after_event q Grows)
client_turns of (Joins team client ∷ es) q = client_turns of es (joined team client q)
client_turns of (Ends stays ∷ es) q = client_of_turn of (next_turn q) ++ client_turns of es (turn_done stays q)

abbrev pub is_in : ℕ → List ℕ → Bool
is_in i [] = false
is_in i (x ∷ xs) = (i == x) || is_in i xs

abbrev pub count : ℕ → List ℕ → ℕ
count i [] = 0
count i (x ∷ xs) = cond (i == x) (1 + count i xs) (count i xs)

-- While a team waits that has no turn, each team has at most one.
abbrev pub TeamsTakeTurns : Queues → Type 0
TeamsTakeTurns q = (es : List TurnEvent) (team other : ℕ) → is_in team q.teams ≡ true
    → is_in team (team_turns es q) ≡ false → count other (team_turns es q) ≤ 1

-- While a client of a team waits that has no turn, each client of the team has at most one.
abbrev pub ClientsTakeTurns : Queues → Type 0
ClientsTakeTurns q = (es : List TurnEvent) (team client other : ℕ) → is_in client (queue_of team q) ≡ true
    → is_in client (client_turns team es q) ≡ false → count other (client_turns team es q) ≤ 1
