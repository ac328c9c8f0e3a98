-- The records of a journal, and what a crash leaves of them.
use Rattle.std.specs.Prelude.{◌≡◌, ◌⊎◌, ℕ, true, List, ◌++◌, drop}
use Rattle.std.specs.List.{flat_map}
use Rattle.lf_journal_text.specs.Batches.{recovered, is_intact}

-- The records of batches, each of which is given without its gate.
abbrev pub records_in : List (List ℕ) → List ℕ
records_in batches = flat_map (drop 37) batches

-- The records of a file.
abbrev pub records_of_file : List ℕ → List ℕ
records_of_file file = records_in (recovered file)

-- The file can be read, and has these records, and all or none of the last ones.
abbrev pub KeepsRecords : List ℕ → List ℕ → List ℕ → Type 0
KeepsRecords records last file = (is_intact file ≡ true)
    × ((records_of_file file ≡ records) ⊎ (records_of_file file ≡ records ++ last))
