-- Reading items one after another, as a loop does.
use Rattle.std.proofs.Common.{◌≡◌, ℕ, suc, ◌-◌, ◌+◌, ◌≤◌, ◌<◌, List, [], ◌∷◌, ◌++◌, length, drop, get_or, Result, Ok, Err, refl, sym, ap, ◌∙◌, append_assoc, arith}
use Rattle.std.proofs.Math.Seq.{drop-cons}
use Rattle.std.proofs.lemmas.List.{drop_all}
use Rattle.std.proofs.lemmas.List.{append-nil}
use Rattle.std.specs.List.{flat_map, AllByRecursion}
use Rattle.std.proofs.lemmas.List.Concat.{flat_map-cons}
use Rattle.lf_state_text.specs.declared.fault.ReadError.{ReadError}
use Rattle.lf_state_text.specs.declared.fault.ReadError.TheVariants as errors
use Rattle.lf_state_text.specs.Saved.{Both, lines_by}
use Rattle.lf_state_text.specs.Reading.{◌>>=◌, TextFault, FailsAtRest, each_at, many_at}

-- the items read earlier, followed by the result of further reading
abbrev pub with_front : {X : Type 0} → List X → Result (List X × List ℕ) TextFault → Result (List X × List ℕ) TextFault
with_front front read = read >>= λ x. Ok (front ++ x.0, x.1)

module _ {X : Type 0} (item : List ℕ → Result (X × List ℕ) TextFault) where
  regroup : (front : List X) (n : X) (read : Result (List X × List ℕ) TextFault) → with_front front (read >>= λ x. Ok (n ∷ x.0, x.1)) ≡ with_front (front ++ n ∷ []) read
  regroup front n (Ok x) = ap (λ (ns : List X). Ok (ns, x.1)) (simp append_assoc)
  regroup front n (Err f) = refl

  pub goes_on : (front : List X) (count i : ℕ) (bytes : List ℕ) (n : X) (after : List ℕ) (total : Result (List X × List ℕ) TextFault) → i < count → item bytes ≡ Ok (n, after)
      → with_front front (many_at item (count - i) bytes) ≡ total → with_front (front ++ n ∷ []) (many_at item (count - (i + 1)) after) ≡ total
  unfolding many_at
  goes_on front count i bytes n after total lt h so_far =
      let k : count - i ≡ suc (count - (i + 1)) = omega arith in
      let one : with_front front (many_at item (count - i) bytes) ≡ with_front (front ++ n ∷ []) (many_at item (count - (i + 1)) after) = rw (k, h) (regroup front n (many_at item (count - (i + 1)) after)) in
      sym one ∙ so_far

  pub ends : (e : ReadError) (front : List X) (count i : ℕ) (bytes : List ℕ) (total : Result (List X × List ℕ) TextFault) (left : ℕ) → i < count
      → FailsAtRest e (item bytes) left → with_front front (many_at item (count - i) bytes) ≡ total → FailsAtRest e total left
  unfolding many_at
  ends errors.Memory front count i bytes total left lt h so_far = tt
  ends (errors.Fault number) front count i bytes total left lt h so_far =
      let k : count - i ≡ suc (count - (i + 1)) = omega arith in
      let one : with_front front (many_at item (count - i) bytes) ≡ Err (record { number = number; left = left }) = rw (k, h) refl in
      sym so_far ∙ one

  pub is_done : (front : List X) (count i : ℕ) (bytes : List ℕ) (total : Result (List X × List ℕ) TextFault) → count ≤ i → with_front front (many_at item (count - i) bytes) ≡ total → total ≡ Ok (front, bytes)
  unfolding many_at
  is_done front count i bytes total le so_far =
      let k : count - i ≡ 0 = omega arith in
      let one : with_front front (many_at item (count - i) bytes) ≡ Ok (front, bytes) = rw k (ap (λ (ns : List X). Ok (ns, bytes)) (append-nil front)) in
      sym so_far ∙ one

  -- items that are read back one by one are read back as a list
  pub many-again : (text : X → List ℕ) (Fits : X → Type 0) → ((x : X) (rest : List ℕ) → Fits x → item (text x ++ rest) ≡ Ok (x, rest))
      → (xs : List X) (rest : List ℕ) → AllByRecursion Fits xs → many_at item (length xs) (flat_map text xs ++ rest) ≡ Ok (xs, rest)
  unfolding many_at
  many-again text Fits one [] rest fits = refl
  many-again text Fits one (x ∷ xs) rest fits =
      let regrouped : flat_map text (x ∷ xs) ++ rest ≡ text x ++ (flat_map text xs ++ rest) = ap (λ (b : List ℕ). b ++ rest) (flat_map-cons text x xs) ∙ append_assoc (text x) (flat_map text xs) rest in
      ap (many_at item (suc (length xs))) regrouped ∙ rw (one x (flat_map text xs ++ rest) fits.0, many-again text Fits one xs rest fits.1) refl

-- an item for each element of a list
module _ {D X : Type 0} (item : D → List ℕ → Result (X × List ℕ) TextFault) where
  regroup_each : (front : List X) (n : X) (read : Result (List X × List ℕ) TextFault) → with_front front (read >>= λ x. Ok (n ∷ x.0, x.1)) ≡ with_front (front ++ n ∷ []) read
  regroup_each front n (Ok x) = ap (λ (ns : List X). Ok (ns, x.1)) (simp append_assoc)
  regroup_each front n (Err f) = refl

  next_due : (dues : List D) (i : ℕ) (d : D) → i < length dues → drop i dues ≡ get_or dues i d ∷ drop (i + 1) dues
  next_due dues i d lt = let more : i + 1 ≡ suc i = omega arith in rw more (drop-cons dues i d lt)

  pub each_goes_on : (front : List X) (dues : List D) (i : ℕ) (d : D) (bytes : List ℕ) (n : X) (after : List ℕ) (total : Result (List X × List ℕ) TextFault) → i < length dues
      → item (get_or dues i d) bytes ≡ Ok (n, after)
      → with_front front (each_at item (drop i dues) bytes) ≡ total → with_front (front ++ n ∷ []) (each_at item (drop (i + 1) dues) after) ≡ total
  unfolding each_at
  each_goes_on front dues i d bytes n after total lt h so_far =
      let one : with_front front (each_at item (drop i dues) bytes) ≡ with_front (front ++ n ∷ []) (each_at item (drop (i + 1) dues) after) =
      rw (next_due dues i d lt, h) (regroup_each front n (each_at item (drop (i + 1) dues) after)) in
      sym one ∙ so_far

  pub each_ends : (e : ReadError) (front : List X) (dues : List D) (i : ℕ) (d : D) (bytes : List ℕ) (total : Result (List X × List ℕ) TextFault) (left : ℕ)
      → i < length dues → FailsAtRest e (item (get_or dues i d) bytes) left
      → with_front front (each_at item (drop i dues) bytes) ≡ total → FailsAtRest e total left
  unfolding each_at
  each_ends errors.Memory front dues i d bytes total left lt h so_far = tt
  each_ends (errors.Fault number) front dues i d bytes total left lt h so_far =
      let one : with_front front (each_at item (drop i dues) bytes) ≡ Err (record { number = number; left = left }) = rw (next_due dues i d lt, h) refl in
      sym so_far ∙ one

  pub each_is_done : (front : List X) (dues : List D) (i : ℕ) (bytes : List ℕ) (total : Result (List X × List ℕ) TextFault) → length dues ≤ i
      → with_front front (each_at item (drop i dues) bytes) ≡ total → total ≡ Ok (front, bytes)
  unfolding each_at
  each_is_done front dues i bytes total le so_far =
      let none : drop i dues ≡ [] = drop_all i dues le in
      let one : with_front front (each_at item (drop i dues) bytes) ≡ Ok (front, bytes) = rw none (ap (λ (ns : List X). Ok (ns, bytes)) (append-nil front)) in
      sym so_far ∙ one

  -- items that are read back one by one are read back as a list
  pub each-again : (text : D → X → List ℕ) (Fits : D → X → Type 0) → ((d : D) (x : X) (rest : List ℕ) → Fits d x → item d (text d x ++ rest) ≡ Ok (x, rest))
      → (dues : List D) (xs : List X) (rest : List ℕ) → Both Fits dues xs → each_at item dues (lines_by text dues xs ++ rest) ≡ Ok (xs, rest)
  unfolding each_at
  each-again text Fits one [] [] rest fits = refl
  each-again text Fits one (d ∷ dues) (x ∷ xs) rest fits =
      let regrouped : lines_by text (d ∷ dues) (x ∷ xs) ++ rest ≡ text d x ++ (lines_by text dues xs ++ rest) = append_assoc (text d x) (lines_by text dues xs) rest in
      ap (each_at item (d ∷ dues)) regrouped ∙ rw (one d x (lines_by text dues xs ++ rest) fits.0, each-again text Fits one dues xs rest fits.1) refl
  each-again text Fits one [] (x ∷ xs) rest fits = absurd fits
  each-again text Fits one (d ∷ dues) [] rest fits = absurd fits
