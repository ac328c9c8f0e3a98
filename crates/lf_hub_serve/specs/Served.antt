-- What holds of a hub that was served from its beginning.
use Rattle.std.specs.Prelude.{◌≡◌, ℕ, zero, suc, true, List, [], ◌∷◌, ◌++◌}
use Rattle.std.specs.List.{flat_map}
use Rattle.lf_hub_clients.specs.declared.client.Access.{Access}
use Rattle.lf_hub_clients.specs.Lines.{lines_sent}
use Rattle.lf_hub_clients.specs.Turns.{Turn}
use Rattle.lf_hub.specs.Laws.{Follow}
use Rattle.lf_hub.specs.Machine.{accepted, record_text}
use Rattle.lf_hub.specs.World.{IsPrefixOf, own_lines, own_replies, start}
use Rattle.lf_hub_wire.specs.Calls.{Call, ComesBy, came_from, numbers_in, sent_to}
use Rattle.lf_hub_serve.specs.declared.server.Server.{Server}

-- A hub has no client yet, and its wire was not used.
pub record IsNew {F W : Type 0} (calls : W → List Call) (server : Server F W) : Type 0 where
  pub hub : server.core.hub ≡ start.hub
  pub wire : calls server.wire ≡ []

-- The numbers below `count`, in order.
abbrev pub numbers_below : ℕ → List ℕ
numbers_below zero = []
numbers_below (suc n) = numbers_below n ++ n ∷ []

-- Each line was answered for the team of the socket by which its client came. Each line that the client
-- sent was answered with the access of that socket.
abbrev pub ForSockets : List Call → List Turn → Type 0
ForSockets calls [] = Unit {0}
ForSockets calls (t ∷ ts) =
    ((access : Access) × ComesBy t.number t.team access calls × (t.is_own ≡ true → t.access ≡ access))
    × ForSockets calls ts

-- Lines were answered, those in `safe` before the last sync and those in `held` since then:
-- - the clients have the numbers 0, 1, 2 and so on, in the order in which they came
-- - each line was answered for the team of its client's socket
-- - of each client, the first of the lines that it sent were answered, in their order
-- - each client was sent the replies to its own lines in `safe`, in their order, or the first bytes of them
-- - the lines, one after the other, lead from the first floor to the second
pub record IsServed {S : Type 0} (takes : S → Turn → S → Type 0) (old : S) (calls : List Call) (safe held : List Turn) (new : S) : Type 0 where
  pub numbers : (count : ℕ) × (numbers_in calls ≡ numbers_below count)
  pub sockets : ForSockets calls (safe ++ held)
  pub lines : (number : ℕ) → IsPrefixOf (own_lines number (safe ++ held)) (lines_sent (came_from number calls))
  pub replies : (number : ℕ) → IsPrefixOf (sent_to number calls) (own_replies number safe)
  pub floor : Follow takes old (safe ++ held) new

-- The records of the accepted changes among lines that were answered.
abbrev pub records_of : List Turn → List ℕ
records_of turns = flat_map record_text (accepted turns)
