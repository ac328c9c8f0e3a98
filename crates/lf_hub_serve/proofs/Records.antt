-- The records of a file after a batch more.
use Rattle.std.proofs.Common.{◌≡◌, ℕ, List, [], ◌∷◌, ◌++◌, drop, refl, sym, ap, subst, ◌∙◌, inl, inr, append-nil}
use Rattle.std.proofs.lemmas.Grind.{flat_map-append}
use Rattle.std.proofs.lemmas.List.{drop-drop}
use Rattle.lf_journal.specs.Journals.{IsSettled, IsBeforeOrAfter}
use Rattle.lf_journal.proofs.Crash.{settled_stands}
use Rattle.lf_hub_serve.specs.Saving.{records_in, records_of_file, KeepsRecords}

-- the records of batches with one more
pub one_more : (batches : List (List ℕ)) (batch records : List ℕ) → drop 38 batch ≡ records → records_in (batches ++ drop 1 batch ∷ []) ≡ records_in batches ++ records
one_more batches batch records e =
    flat_map-append (drop 37) batches (drop 1 batch ∷ [])
    ∙ ap (λ l. records_in batches ++ l) (append-nil (drop 37 (drop 1 batch)) ∙ drop-drop 37 1 batch ∙ e)

-- what a crash leaves of a batch that is being put
pub before_or_after : (batches : List (List ℕ)) (batch records c : List ℕ) → drop 38 batch ≡ records → IsBeforeOrAfter batches batch c → KeepsRecords (records_in batches) records c
before_or_after batches batch records c e (inl before) = (before.1, inl (ap records_in before.0))
before_or_after batches batch records c e (inr after) = (after.1, inr (ap records_in after.0 ∙ one_more batches batch records e))

-- what a crash leaves of a journal where nothing is being written
pub settled_keeps : {D : Type 0} (seen : D → List ℕ) (may_leave : D → List ℕ → Type 0) (disk : D) (end len : ℕ) (last c : List ℕ)
    → IsSettled seen may_leave disk end len → may_leave disk c → KeepsRecords (records_of_file (seen disk)) last c
settled_keeps seen may_leave disk end len last c s left =
    let same : c ≡ seen disk = s.durable c left in
    subst (λ (f : List ℕ). KeepsRecords (records_of_file (seen disk)) last f) (sym same)
    ((settled_stands end (seen disk) s.text s.zeros s.room).1, inl refl)

-- the same, with nothing saved before
pub keeps_nil : (records last file : List ℕ) → KeepsRecords records last file → KeepsRecords (records ++ []) last file
keeps_nil records last file k = subst (λ (r : List ℕ). KeepsRecords r last file) (sym (append-nil records)) k
