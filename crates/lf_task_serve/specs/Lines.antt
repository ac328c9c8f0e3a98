-- Lines that are answered on a floor.
use Rattle.std.specs.Prelude.{◌≡◌, ◌⊎◌, ◌+◌, ◌*◌, ℕ, Bool, true, false, List, Option}
use Rattle.lf_rules.specs.Legalizer.{Legalizer}
use Rattle.lf_floor_model.specs.States.{FloorState}
use Rattle.lf_server.specs.Devices.{writer}
use Rattle.lf_server.specs.Endings.{ServesLines}
use Rattle.lf_server.specs.declared.serve_loop.Ending.{Ending}
use Rattle.lf_server.specs.declared.serve_loop.Served.{Served}

-- The lines of the input were served on the floor, at most `limit`, up to this ending.
pub record IsServed (l : Legalizer) (limit : ℕ) (old new : FloorState) (input left before after : Option (List ℕ))
    (ending : Ending) : Type 0 where
  pub served : Served
  pub ends : served.ending ≡ ending
  pub begun : Bool
  pub flushed : Bool
  pub failed : Bool
  pub serves : ServesLines l limit old input left (writer before begun false) (writer after flushed failed) served new

-- The limit on the lines of a connection, and of a session if no other limit is given.
abbrev pub default_most_lines : ℕ
default_most_lines = 1000000

-- The limit on reads for this number of lines.
abbrev pub reads_for : ℕ → ℕ
reads_for lines = lines * 4200

-- The reader has failed, or the limit on reads was reached.
abbrev pub ReadsFail : ℕ → Bool → ℕ → ℕ → Type 0
ReadsFail limit failed old new = (failed ≡ true) ⊎ (new ≡ old + reads_for limit)
