-- A search for the first occurrence of a piece, from one end of the name to the next.
use Rattle.std.proofs.Common.{◌≡◌, ℕ, ◌≤◌, List, [], ◌∷◌, ◌++◌, length, drop, sym, ap, ◌∙◌, append_assoc, arith, length-append}
use Rattle.std.proofs.Math.Seq.{drop-append_seam}
use Rattle.std.proofs.lemmas.List.{drop-append-le}
use Rattle.lf_names.specs.Places.{IsAfterFirst}

-- An end of the name in which every occurrence of the piece lies.
pub record IsEndWithAll (name piece end : List ℕ) : Type 0 where
  pub before : List ℕ
  pub is : name ≡ before ++ end
  pub all : (front later : List ℕ) → name ≡ front ++ (piece ++ later) → (ahead : List ℕ) × (end ≡ ahead ++ (piece ++ later))

-- If the piece is not at the front of an end, the end without its first byte has all occurrences
-- too.
pub shorter_end : (name piece end rest : List ℕ) (c : ℕ) → IsEndWithAll name piece end → end ≡ c ∷ rest → ((later : List ℕ) → end ≡ piece ++ later → ⊥) → IsEndWithAll name piece rest
shorter_end name piece end rest c h cut apart = record {
  before = h.before ++ c ∷ [];
  is = h.is ∙ ap (λ l. h.before ++ l) cut ∙ sym (append_assoc h.before (c ∷ []) rest);
  all = λ front later e. let at = h.all front later e in ahead at.0 later at.1;
}
  where
    ahead : (front later : List ℕ) → end ≡ front ++ (piece ++ later) → (other : List ℕ) × (rest ≡ other ++ (piece ++ later))
    ahead [] later e = absurd (apart later e)
    ahead (d ∷ front) later e = (front, cc)

-- If an end has no bytes and the piece is not at its front, the piece does not occur.
pub no_place : (name piece end : List ℕ) → IsEndWithAll name piece end → end ≡ [] → ((later : List ℕ) → end ≡ piece ++ later → ⊥) → (before rest : List ℕ) → name ≡ before ++ (piece ++ rest) → ⊥
no_place name piece end h empty apart before rest e = let at = h.all before rest e in ahead at.0 at.1
  where
    ahead : (front : List ℕ) → end ≡ front ++ (piece ++ rest) → ⊥
    ahead [] is = apart rest is
    ahead (d ∷ front) is = cc

-- The bytes after a later occurrence of the piece are an end of those after an earlier one.
after_it : (piece rest ahead later : List ℕ) → piece ++ rest ≡ ahead ++ (piece ++ later) → (more : List ℕ) × (rest ≡ more ++ later)
after_it piece rest ahead later e =
    let fits : length piece ≤ length (ahead ++ piece) = simp length-append (omega arith) in (
      drop (length piece) (ahead ++ piece),
      sym (drop-append_seam piece rest) ∙ ap (drop (length piece)) (e ∙ sym (append_assoc ahead piece later)) ∙ drop-append-le (length piece) (ahead ++ piece) later fits,
    )

-- The bytes after the piece at the front of an end.
pub first_place : (name piece end rest : List ℕ) → IsEndWithAll name piece end → end ≡ piece ++ rest → IsAfterFirst name piece rest
first_place name piece end rest h at = record {
  found = (h.before, h.is ∙ ap (λ l. h.before ++ l) at);
  first = λ before later e. let other = h.all before later e in after_it piece rest other.0 later (sym at ∙ other.1);
}
