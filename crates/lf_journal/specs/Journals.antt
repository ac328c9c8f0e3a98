-- A segment of a journal on a disk.
use Rattle.std.specs.Prelude.{◌≡◌, ◌⊎◌, ℕ, ◌+◌, ◌<◌, ◌≤◌, true, false, List, [], ◌∷◌, ◌++◌, length, take, drop, slice_index, max}
use Rattle.sqlite_disk.specs.Disk.{Only}
use Rattle.lf_journal_text.specs.Batches.{recovered, whole_end, is_intact, damage_kind, EndsWhole}
use Rattle.lf_journal_text.specs.declared.damage.Damage.{Damage}
use Rattle.lf_journal.specs.declared.start.OpenError.{OpenError}
use Rattle.lf_journal.specs.declared.start.OpenError.TheVariants.{Disk as DiskError, Damaged}

-- Whole batches up to `end`, zeros from there on, at least one, and all of it is on the disk.
pub record IsSettled {D : Type 0} (seen : D → List ℕ) (may_leave : D → List ℕ → Type 0) (disk : D) (end len : ℕ) : Type 0 where
  pub room : end < length (seen disk)
  pub size : len ≡ length (seen disk)
  pub text : EndsWhole (take end (seen disk))
  pub zeros : (i : ℕ) → end ≤ i → slice_index (seen disk) i ≡ 0
  pub durable : Only (seen disk) (may_leave disk)

-- The file stands for these batches, and nothing behind them is damaged: it can be opened.
abbrev pub StandsFor : List (List ℕ) → List ℕ → Type 0
StandsFor batches file = (recovered file ≡ batches) × (is_intact file ≡ true)

-- The file stands for the batches, with one more or without it.
abbrev pub IsBeforeOrAfter : List (List ℕ) → List ℕ → List ℕ → Type 0
IsBeforeOrAfter batches batch file = StandsFor batches file ⊎ StandsFor (batches ++ drop 1 batch ∷ []) file

-- The first damage of the file.
pub record IsFirstDamage (file : List ℕ) (damage : Damage) : Type 0 where
  pub at : damage.at ≡ whole_end file
  pub kind : damage.kind ≡ damage_kind (drop damage.at file)

-- The place behind the batches is shut: a zero is there, as it is far behind.
pub record IsShut (end : ℕ) (old new : List ℕ) : Type 0 where
  pub inside : end < length new
  pub size : length new ≡ max (length old) (end + 1)
  pub text : take end new ≡ take end old
  pub gate : slice_index new end ≡ 0
  pub far : (i : ℕ) → end + 131072 ≤ i → slice_index new i ≡ 0

-- What is said of a refusal to open a segment: damage is the first of an unchanged file.
abbrev pub IsRefusal : {D : Type 0} → (D → List ℕ) → D → D → OpenError → Type 0
IsRefusal seen old new (DiskError error) = Unit {0}
IsRefusal seen old new (Damaged damage) = (seen new ≡ seen old) × (is_intact (seen old) ≡ false) × IsFirstDamage (seen old) damage
