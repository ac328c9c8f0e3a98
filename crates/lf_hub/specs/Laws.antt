-- What holds of a hub after every list of events.
use Rattle.std.specs.Prelude.{◌≡◌, ◌≢◌, ◌<◌, ◌≤◌, ℕ, ◌+◌, Bool, true, false, nat_le, List, [], ◌∷◌, ◌++◌, length, flat_map, take, None}
use Rattle.std.specs.List.{list_all}
use Rattle.lf_hub_clients.specs.declared.client.Access.{Access}
use Rattle.lf_hub_clients.specs.declared.client.Stage.{Stage}
use Rattle.lf_hub_clients.specs.declared.client.Stage.TheVariants.{Free}
use Rattle.lf_hub_clients.specs.Connections.{Connection, unsent_limit}
use Rattle.lf_hub_clients.specs.Lines.{lines_sent, lines_size, waiting_limit}
use Rattle.lf_hub_clients.specs.Turns.{Turn}
use Rattle.lf_hub.specs.Machine.{Hub, HubEvent, Opens, Comes, Answers, Closes, Syncs, Sends, Leaves, Frees, connection_at, is_live, session_of, accepted, record_text}
use Rattle.lf_hub.specs.World.{World, turns_in, own, own_lines, own_replies, IsPrefixOf}

-- The lines of a client that were answered, and then those that wait, are those that it sent, in
-- order. After the client has left, a prefix of them was answered.
pub record LinesAreOwn (w : World) : Type 0 where
  pub live : (slot : ℕ) → slot < length w.hub.slots → is_live (connection_at slot w.hub.slots).stage ≡ true
      → own_lines (connection_at slot w.hub.slots).number (turns_in w) ++ (connection_at slot w.hub.slots).lines
      ≡ lines_sent (w.came (connection_at slot w.hub.slots).number)
  pub all : (number : ℕ) → IsPrefixOf (own_lines number (turns_in w)) (lines_sent (w.came number))

-- What was sent to a client, and then what may be sent, are the replies to its own lines that were
-- answered before the last sync. The replies to those since are held. After the client has left, a
-- prefix of them was sent.
pub record RepliesAreOwn (w : World) : Type 0 where
  pub live : (slot : ℕ) → slot < length w.hub.slots → is_live (connection_at slot w.hub.slots).stage ≡ true
      → w.sent (connection_at slot w.hub.slots).number ++ (connection_at slot w.hub.slots).ready
      ≡ own_replies (connection_at slot w.hub.slots).number w.safe
  pub held : (slot : ℕ) → slot < length w.hub.slots → is_live (connection_at slot w.hub.slots).stage ≡ true
      → (connection_at slot w.hub.slots).held ≡ own_replies (connection_at slot w.hub.slots).number w.held
  pub all : (number : ℕ) → IsPrefixOf (w.sent number) (own_replies number w.safe)

-- The records on the disk are the accepted changes answered before the last sync, in order. Those
-- written since are the accepted changes since, and the hub has their text.
pub record JournalIsExact (w : World) : Type 0 where
  pub synced : w.synced ≡ accepted w.safe
  pub written : w.written ≡ accepted w.held
  pub text : w.hub.records ≡ flat_map record_text w.written

-- Each line was answered for the team of the socket by which its client came. Each line that the
-- client sent was answered with the access of that socket.
abbrev pub ForOwnTeams : (ℕ → ℕ) → (ℕ → Access) → List Turn → Type 0
ForOwnTeams team access [] = Unit {0}
ForOwnTeams team access (t ∷ ts) =
    (t.team ≡ team t.number) × (t.is_own ≡ true → t.access ≡ access t.number) × ForOwnTeams team access ts

abbrev pub TeamsAreOwn : World → Type 0
TeamsAreOwn w = ForOwnTeams w.team w.access (turns_in w)

-- A slot that another client may have has no open session.
abbrev pub SessionsAreClosed : World → Type 0
SessionsAreClosed w = (slot : ℕ) → slot < length w.hub.slots → (connection_at slot w.hub.slots).stage ≡ Free
    → session_of slot w.hub.sessions ≡ None

-- A client's lines that wait take at most 64 KiB. If no reply is longer than `most`, the replies that
-- it has not been sent take at most 64 KiB and one reply.
abbrev pub is_within : ℕ → Turn → Bool
is_within most turn = nat_le (length turn.reply) most

pub record IsBounded (w : World) : Type 0 where
  pub lines : (slot : ℕ) → slot < length w.hub.slots → lines_size (connection_at slot w.hub.slots).lines
      + length (connection_at slot w.hub.slots).begun ≤ waiting_limit
  pub replies : (slot most : ℕ) → slot < length w.hub.slots → list_all (is_within most) (turns_in w) ≡ true
      → length (connection_at slot w.hub.slots).ready + length (connection_at slot w.hub.slots).held ≤ unsent_limit + most

-- ---- floors

module _ {S : Type 0} (takes : S → Turn → S → Type 0) where
  -- These lines, one after the other, lead from the first floor to the second.
  abbrev pub Follow : S → List Turn → S → Type 0
  Follow old [] new = new ≡ old
  Follow old (t ∷ ts) new = (next : S) × takes old t next × Follow next ts new

  -- What an event does to the floor: a line that is answered is one step of it.
  abbrev pub Acts : S → HubEvent → S → Type 0
  Acts old (Answers slot t) new = takes old t new
  Acts old (Closes slot s t) new = takes old t new
  Acts old (Opens slot team access) new = new ≡ old
  Acts old (Comes slot bytes) new = new ≡ old
  Acts old Syncs new = new ≡ old
  Acts old (Sends slot count) new = new ≡ old
  Acts old (Leaves slot) new = new ≡ old
  Acts old (Frees slot) new = new ≡ old

  abbrev pub ActInTurn : S → List HubEvent → S → Type 0
  ActInTurn old [] new = new ≡ old
  ActInTurn old (e ∷ es) new = (next : S) × Acts old e next × ActInTurn next es new

  -- A crash that leaves this many of the records since the last sync leaves a journal whose floor is
  -- that after the lines answered before the last sync, and some of those since.
  abbrev pub KeepsAcknowledged : S → World → ℕ → Type 0
  KeepsAcknowledged old w left = (count : ℕ) × (floor : S)
      × Follow old (w.synced ++ take left w.written) floor × Follow old (w.safe ++ take count w.held) floor
