-- What a server shows, and why serving ends.
use Rattle.std.specs.Prelude.{◌≡◌, ◌⊎◌, ◌<◌, ◌≤◌, ◌^◌, ℕ, List, [], ◌∷◌, ◌++◌, codes, length, slice_index}
use Rattle.sqlite_disk.specs.Disk.{MoreFaults}
use Rattle.lf_hub_clients.specs.Turns.{Turn}
use Rattle.lf_hub_wire.specs.Calls.{Call, Ordered, Told}
use Rattle.lf_hub_serve.specs.declared.server.Server.{Server}
use Rattle.lf_hub_serve.specs.declared.server.Ending.{Ending}
use Rattle.lf_hub_serve.specs.declared.server.Ending.TheVariants.{Stopped, Failed, Spent}
use Rattle.lf_hub_serve.specs.declared.server.Failure.{Failure}
use Rattle.lf_hub_serve.specs.declared.server.Failure.TheVariants.{Disk, UnfitRecords, OutOfMemory}
use Rattle.lf_hub_serve.specs.Serving.{Service, Serves, Breaks}

-- A server whose journal has these records since the beginning.
abbrev pub service_of : {F W : Type 0} → (W → List Call) → Server F W → List ℕ → Service F
service_of calls server saved = record {
  hub = server.core.hub;
  floor = server.floor;
  calls = calls server.wire;
  saved = saved;
}

-- Events happen to a server, none of which saves records.
abbrev pub GoesOn : {F W : Type 0} → (F → Turn → F → Type 0) → (W → List Call) → Server F W → Server F W → Type 0
GoesOn takes calls old new = Serves takes (service_of calls old []) (service_of calls new [])

-- The same, and then there was no memory for what one call of the wire has brought.
abbrev pub BreaksOff : {F W : Type 0} → (F → Turn → F → Type 0) → (W → List Call) → Server F W → Server F W → Type 0
BreaksOff takes calls old new = Breaks takes (service_of calls old []) (service_of calls new [])

-- ---- why serving ends

-- The operator's last line was `stop`, and he was told so.
abbrev pub IsStopped : List Call → Type 0
IsStopped orders = (before : List Call)
    × (orders ≡ before ++ Ordered (codes "stop") ∷ Told (codes "ok" ++ 10 ∷ []) ∷ [])

-- Records that no batch can have, since they are too long or one of their bytes is zero, or a segment
-- that is too long for another batch.
abbrev pub AreUnfit : List ℕ → ℕ → Type 0
AreUnfit records end = (100000 ≤ length records) ⊎ ((i : ℕ) × (i < length records) × (slice_index records i ≡ 0)) ⊎ (2 ^ 62 < end)

-- A call of the disk has failed, or the records do not fit in. A lack of memory shows nowhere.
abbrev pub HasFailed : Failure → ℕ → ℕ → List ℕ → ℕ → Type 0
HasFailed (Disk error) old_faults new_faults records end = MoreFaults old_faults new_faults
HasFailed UnfitRecords old_faults new_faults records end = AreUnfit records end
HasFailed OutOfMemory old_faults new_faults records end = Unit {0}

abbrev pub HasCause : Ending → List Call → ℕ → ℕ → List ℕ → ℕ → Type 0
HasCause Stopped orders old_faults new_faults records end = IsStopped orders
HasCause (Failed failure) orders old_faults new_faults records end = HasFailed failure old_faults new_faults records end
HasCause Spent orders old_faults new_faults records end = Unit {0}
