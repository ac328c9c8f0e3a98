-- The sessions that an earlier process has left open.
use Rattle.std.specs.Prelude.{◌≡◌, ℕ, cond, List, [], ◌∷◌, ◌++◌, codes}
use Rattle.std.specs.List.{flat_map}
use Rattle.lf_hub_clients.specs.Turns.{Turn}
use Rattle.lf_hub.specs.Laws.{Follow}
use Rattle.lf_hub.specs.Machine.{is_accepted}

-- The text of the record of a line that the start of a hub has sent.
abbrev pub start_record : List ℕ → List ℕ → List ℕ
start_record line reply = codes "start" ++ 10 ∷ [] ++ line ++ 10 ∷ [] ++ reply

-- Only an accepted change has a record.
abbrev pub start_record_of : Turn → List ℕ
start_record_of turn = cond (is_accepted turn) (start_record turn.line turn.reply) []

abbrev pub start_records : List Turn → List ℕ
start_records turns = flat_map start_record_of turns

-- Lines were answered, and lead from the first floor to the second. If the disk is clean, the records of those that
-- were accepted changes are behind the records of the journal.
pub record Closes {S : Type 0} (takes : S → Turn → S → Type 0) (old new : S) (clean : Type 0) (before after : List ℕ) : Type 0 where
  pub turns : List Turn
  pub follow : Follow takes old turns new
  pub saved : clean → after ≡ before ++ start_records turns
