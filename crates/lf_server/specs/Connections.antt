-- Connections served one after the other.
use Rattle.std.specs.Prelude.{◌≡◌, ◌⊎◌, ◌++◌, ℕ, Bool, true, false, List, [], ◌∷◌, Option, Some, None, length}
use Rattle.lf_rules.specs.Legalizer.{Legalizer}
use Rattle.lf_floor_model.specs.Committed.{IsCommittedLegal}
use Rattle.lf_floor_model.specs.States.{FloorState}
use Rattle.lf_server.specs.Devices.{Writer, writer}
use Rattle.lf_server.specs.Endings.{ServesLines}
use Rattle.lf_server.specs.declared.serve_loop.Ending.TheVariants.{OutOfMemory, ReadFault, WriteFault}
use Rattle.lf_server.specs.declared.serve_loop.Served.{Served}

-- What serving leaves unchanged: the frame and the positions of entries. A fully legal committed
-- design stays fully legal.
pub record KeepsDesign (old new : FloorState) : Type 0 where
  pub frame : new.frame ≡ old.frame
  pub components : new.components ≡ old.components
  pub legal : IsCommittedLegal old → IsCommittedLegal new

-- ---- what is known of connections

-- A client whose connection is accepted: the bytes it sends, and the bytes sent to it before, if
-- known.
pub record ClientBytes : Type 0 where
  pub sends : Option (List ℕ)
  pub was_sent : Option (List ℕ)

abbrev pub client : Option (List ℕ) → Option (List ℕ) → ClientBytes
client sends was_sent = record { sends = sends; was_sent = was_sent }

-- The state of a connection: the client's bytes not read yet, the reads made, whether a read has
-- failed, and what is sent to the client.
pub record ConnectionState : Type 0 where
  pub left : Option (List ℕ)
  pub reads : ℕ
  pub read_failed : Bool
  pub sent : Writer

abbrev pub connection_state : Option (List ℕ) → ℕ → Bool → Writer → ConnectionState
connection_state left reads read_failed sent = record {
  left = left;
  reads = reads;
  read_failed = read_failed;
  sent = sent;
}

-- Holds if no read was made, nothing waits to be flushed, and no call of the reader or writer has
-- failed.
pub record IsUnused (reads : ℕ) (read_failed is_flushed write_failed : Bool) : Type 0 where
  pub unread : reads ≡ 0
  pub readable : read_failed ≡ false
  pub flushed : is_flushed ≡ true
  pub writable : write_failed ≡ false

-- The clients whose connections were accepted, and the final states of the closed connections. Both
-- lists have the latest first.
pub record Accepted : Type 0 where
  pub clients : List ClientBytes
  pub closed : List ConnectionState

-- Holds if this client's connection was accepted and no other, if what is accepted is known.
abbrev pub Accepts : Option Accepted → Option Accepted → ClientBytes → Type 0
Accepts None after next = Unit {0}
Accepts (Some before) after next = after ≡ Some (record { clients = next ∷ before.clients; closed = before.closed })

-- Holds if one connection was closed, in this state, if what is accepted is known.
abbrev pub Closes : Option Accepted → Option Accepted → ConnectionState → Type 0
Closes None after last = Unit {0}
Closes (Some before) after last = after ≡ Some (record { clients = before.clients; closed = last ∷ before.closed })

-- Holds if the connections of these clients were accepted and connections in these states were
-- closed, and no others, if what is accepted is known.
abbrev pub AcceptsAndCloses : Option Accepted → Option Accepted → List ClientBytes → List ConnectionState → Type 0
AcceptsAndCloses None after clients closed = Unit {0}
AcceptsAndCloses (Some before) after clients closed =
    after ≡ Some (record { clients = clients ++ before.clients; closed = closed ++ before.closed })

-- ---- what is served

-- The client's lines were served on the floor, within the limits `lines` and `reads`, until the
-- connection is in the state `end`. After a fault of the reader the connection has failed to read,
-- or the limit on reads was reached. After a fault of the writer a write has failed. If memory ran
-- out, nothing was read.
pub record ServesClient (l : Legalizer) (lines reads : ℕ) (from : ClientBytes) (end : ConnectionState)
    (old new : FloorState) : Type 0 where
  pub served : Served
  pub serves : ServesLines l lines old from.sends end.left (writer from.was_sent true false) end.sent served new
  pub read_fault : served.ending ≡ ReadFault → (end.read_failed ≡ true) ⊎ (end.reads ≡ reads)
  pub write_fault : served.ending ≡ WriteFault → end.sent.failed ≡ true
  pub unread : served.ending ≡ OutOfMemory → end.reads ≡ 0

-- One connection was accepted, its client's lines were served, and it was closed.
pub record ServesNext (lines reads : ℕ) (before after : Option Accepted) (old new : FloorState) : Type 0 where
  pub from : ClientBytes
  pub end : ConnectionState
  pub passes : AcceptsAndCloses before after (from ∷ []) (end ∷ [])
  pub serves : (l : Legalizer) → ServesClient l lines reads from end old new

-- The connections of these clients, the latest first, were served one after the other, each up to
-- its state in `closed`.
abbrev pub ServesConnections : Legalizer → ℕ → ℕ → List ClientBytes → List ConnectionState → FloorState
    → FloorState → Type 0
ServesConnections l lines reads [] [] old new = new ≡ old
ServesConnections l lines reads (from ∷ clients) (end ∷ closed) old new =
    (mid : FloorState) × ServesConnections l lines reads clients closed old mid
    × ServesClient l lines reads from end mid new
ServesConnections l lines reads _ _ old new = ⊥

-- `count` connections were accepted, and their clients' lines were served, one connection after the
-- other.
pub record AreServed (lines reads count : ℕ) (before after : Option Accepted) (old new : FloorState) : Type 0 where
  pub clients : List ClientBytes
  pub closed : List ConnectionState
  pub counted : length clients ≡ count
  pub passes : AcceptsAndCloses before after clients closed
  pub connects : (l : Legalizer) → ServesConnections l lines reads clients closed old new
