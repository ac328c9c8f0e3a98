-- Whose turn it is: the queue of teams, and of each team the queue of its clients.
use Rattle.std.specs.Prelude.{ℕ, Bool, true, false, not, ◌&&◌, cond, nat_lt, length, List, [], ◌∷◌, ◌++◌, slice_set, slice_index_or, Option, Some, None}

-- The teams that wait, of each team its clients that wait, and whether each client waits.
pub record Queues : Type 0 where
  pub teams : List ℕ
  pub clients : List (List ℕ)
  pub waits : List Bool

abbrev pub queue_of : ℕ → Queues → List ℕ
queue_of team q = slice_index_or q.clients team []

abbrev pub is_none : List ℕ → Bool
is_none [] = true
is_none (x ∷ xs) = false

abbrev pub first_in : List ℕ → Option ℕ
first_in [] = None
first_in (x ∷ xs) = Some x

-- The first one of a queue goes to its end if it stays, and leaves otherwise.
abbrev pub first_done : Bool → List ℕ → List ℕ
first_done stays [] = []
first_done stays (x ∷ xs) = cond stays (xs ++ x ∷ []) xs

-- A client joins the end of its team's queue, and its team joins the end of the queue of teams if it
-- was not there.
abbrev pub joining : ℕ → ℕ → Queues → Queues
joining team client q = record {
  teams = cond (is_none (queue_of team q)) (q.teams ++ team ∷ []) q.teams;
  clients = slice_set q.clients team (queue_of team q ++ client ∷ []);
  waits = slice_set q.waits client true;
}

-- A client that waits already does not join again.
abbrev pub may_join : ℕ → ℕ → Queues → Bool
may_join team client q = nat_lt team (length q.clients) && not (slice_index_or q.waits client true)

abbrev pub joined : ℕ → ℕ → Queues → Queues
joined team client q = cond (may_join team client q) (joining team client q) q

-- The first team, and its first client.
abbrev pub client_of : ℕ → Option ℕ → Option (ℕ × ℕ)
client_of team None = None
client_of team (Some client) = Some (team, client)

abbrev pub turn_of : Queues → Option ℕ → Option (ℕ × ℕ)
turn_of q None = None
turn_of q (Some team) = client_of team (first_in (queue_of team q))

abbrev pub next_turn : Queues → Option (ℕ × ℕ)
next_turn q = turn_of q (first_in q.teams)

-- The turn is over. Its client goes to the end of its team's queue if it still waits, and its team to
-- the end of the queue of teams if one of its clients still waits.
abbrev pub with_clients : ℕ → ℕ → Bool → List ℕ → Queues → Queues
with_clients team client stays clients q = record {
  teams = first_done (not (is_none clients)) q.teams;
  clients = slice_set q.clients team clients;
  waits = slice_set q.waits client stays;
}

abbrev pub after_turn : Option (ℕ × ℕ) → Bool → Queues → Queues
after_turn None stays q = q
after_turn (Some turn) stays q = with_clients turn.0 turn.1 stays (first_done stays (queue_of turn.0 q)) q

abbrev pub turn_done : Bool → Queues → Queues
turn_done stays q = after_turn (next_turn q) stays q
