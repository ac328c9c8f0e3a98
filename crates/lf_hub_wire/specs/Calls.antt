-- What a wire has done: calls, and their answers.
use Rattle.std.specs.Prelude.{◌≡◌, ℕ, ◌==◌, cond, nat_lt, if◌then◌else◌, List, [], ◌∷◌, ◌++◌, length, slice_index}
use Rattle.lf_hub_clients.specs.declared.client.Access.{Access}
use Rattle.lf_hub_clients.specs.declared.client.Access.TheVariants.{Changes, Queries}
use Rattle.lf_hub_clients.specs.Lines.{line_begun}

pub data Call : Type 0 where
  -- a client connects to the socket of a team
  Accepted : ℕ → Access → Call
  -- it is the connection with this number
  Numbered : ℕ → Call
  -- these bytes come from it
  Came : ℕ → List ℕ → Call
  -- it sends no more
  Ended : ℕ → Call
  -- these bytes are sent to it
  Sent : ℕ → List ℕ → Call
  -- it is closed
  Closed : ℕ → Call
  -- a line comes from the operator
  Ordered : List ℕ → Call
  -- the operator is sent a reply
  Told : List ℕ → Call

-- ---- a call, as numbers and bytes

abbrev pub code_of : Access → ℕ
code_of Changes = 0
code_of Queries = 1

abbrev pub access_of : ℕ → Access
access_of code = if code == 0 then Changes else Queries

-- The kind of the call, then a team or the number of a connection, then an access.
abbrev pub call_of : List ℕ → List ℕ → Call
call_of numbers bytes =
    if slice_index numbers 0 == 0 then Accepted (slice_index numbers 1) (access_of (slice_index numbers 2))
    else if slice_index numbers 0 == 1 then Numbered (slice_index numbers 1)
    else if slice_index numbers 0 == 2 then Came (slice_index numbers 1) bytes
    else if slice_index numbers 0 == 3 then Ended (slice_index numbers 1)
    else if slice_index numbers 0 == 4 then Sent (slice_index numbers 1) bytes
    else if slice_index numbers 0 == 5 then Closed (slice_index numbers 1)
    else if slice_index numbers 0 == 6 then Ordered bytes
    else Told bytes

-- ---- what is said of calls

-- The line feed that ends the line which these bytes have begun, if they have begun one.
abbrev pub line_end : List ℕ → List ℕ
line_end bytes = cond (nat_lt 0 (length (line_begun bytes))) (10 ∷ []) []

-- These bytes, and those that the calls bring from a connection. If it sends no more, the line that it
-- has begun is ended.
abbrev pub came_with : ℕ → List ℕ → Call → List ℕ
came_with number before (Accepted team access) = before
came_with number before (Numbered n) = before
came_with number before (Came n bytes) = cond (number == n) (before ++ bytes) before
came_with number before (Ended n) = cond (number == n) (before ++ line_end before) before
came_with number before (Sent n bytes) = before
came_with number before (Closed n) = before
came_with number before (Ordered line) = before
came_with number before (Told reply) = before

abbrev pub came_after : ℕ → List ℕ → List Call → List ℕ
came_after number before [] = before
came_after number before (call ∷ calls) = came_after number (came_with number before call) calls

-- All bytes that came from a connection, and all that were sent to it.
abbrev pub came_from : ℕ → List Call → List ℕ
came_from number calls = came_after number [] calls

abbrev pub sent_by : ℕ → Call → List ℕ
sent_by number (Accepted team access) = []
sent_by number (Numbered n) = []
sent_by number (Came n bytes) = []
sent_by number (Ended n) = []
sent_by number (Sent n bytes) = cond (number == n) bytes []
sent_by number (Closed n) = []
sent_by number (Ordered line) = []
sent_by number (Told reply) = []

abbrev pub sent_to : ℕ → List Call → List ℕ
sent_to number [] = []
sent_to number (call ∷ calls) = sent_by number call ++ sent_to number calls

-- The numbers that connections were given, in order.
abbrev pub numbers_by : Call → List ℕ
numbers_by (Accepted team access) = []
numbers_by (Numbered n) = n ∷ []
numbers_by (Came n bytes) = []
numbers_by (Ended n) = []
numbers_by (Sent n bytes) = []
numbers_by (Closed n) = []
numbers_by (Ordered line) = []
numbers_by (Told reply) = []

abbrev pub numbers_in : List Call → List ℕ
numbers_in [] = []
numbers_in (call ∷ calls) = numbers_by call ++ numbers_in calls

-- The connection with this number came by the socket of a team, with this access.
abbrev pub ComesBy : ℕ → ℕ → Access → List Call → Type 0
ComesBy number team access calls = (before : List Call) × (after : List Call)
    × (calls ≡ before ++ Accepted team access ∷ Numbered number ∷ after)
