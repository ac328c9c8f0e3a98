-- What the results of a wire's calls mean.
use Rattle.std.specs.Prelude.{◌≡◌, ℕ, Bool, true, false, ◌<◌, ◌≤◌, List, [], ◌∷◌, ◌++◌, length, take}
use Rattle.lf_hub_wire.specs.Calls.{Call, Came, Ended, Sent}
use Rattle.lf_hub_wire.specs.declared.wire.Incoming.{Incoming}
use Rattle.lf_hub_wire.specs.declared.wire.Incoming.TheVariants as incoming
use Rattle.lf_hub_wire.specs.declared.wire.Outgoing.{Outgoing}
use Rattle.lf_hub_wire.specs.declared.wire.Outgoing.TheVariants as outgoing

-- A read into a buffer: the bytes at its front came from the connection, at least one, or it sends no
-- more, or nothing was done.
abbrev pub Reads : ℕ → List ℕ → Incoming → List Call → List Call → Type 0
Reads number buffer (incoming.Bytes count) old new =
    (0 < count) × (count ≤ length buffer) × (new ≡ old ++ Came number (take count buffer) ∷ [])
Reads number buffer incoming.Nothing old new = new ≡ old
Reads number buffer incoming.End old new = new ≡ old ++ Ended number ∷ []
Reads number buffer incoming.Failed old new = new ≡ old

-- A write: the first bytes were sent to the connection, or nothing was done.
abbrev pub Writes : ℕ → List ℕ → Outgoing → List Call → List Call → Type 0
Writes number bytes (outgoing.Bytes count) old new =
    (count ≤ length bytes) × (new ≡ old ++ Sent number (take count bytes) ∷ [])
Writes number bytes outgoing.Nothing old new = new ≡ old
Writes number bytes outgoing.Failed old new = new ≡ old

-- The same of a count and a buffer alone.
abbrev pub CountsRead : Incoming → List ℕ → Type 0
CountsRead (incoming.Bytes count) buffer = (0 < count) × (count ≤ length buffer)
CountsRead incoming.Nothing buffer = Unit {0}
CountsRead incoming.End buffer = Unit {0}
CountsRead incoming.Failed buffer = Unit {0}

abbrev pub CountsWritten : Outgoing → List ℕ → Type 0
CountsWritten (outgoing.Bytes count) bytes = count ≤ length bytes
CountsWritten outgoing.Nothing bytes = Unit {0}
CountsWritten outgoing.Failed bytes = Unit {0}

abbrev pub sends_bytes : Outgoing → Bool
sends_bytes (outgoing.Bytes count) = true
sends_bytes outgoing.Nothing = false
sends_bytes outgoing.Failed = false
