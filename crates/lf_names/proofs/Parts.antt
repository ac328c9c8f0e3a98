-- What the parts of a pattern become.
use Rattle.std.proofs.Common.{◌≡◌, ◌↔◌, ℕ, ◌-◌, Bool, true, false, not, nat_eq, IsTrue, is_some, Option, None, Some, MatchOption, Bor, List, [], ◌∷◌, ◌++◌, length, map, take, drop, refl, sym, ap, subst, ◌∙◌, append_assoc, append-nil}
use Rattle.std.proofs.Math.Seq.{drop-append_seam}
use Rattle.std.proofs.lemmas.Bool.{false≢true}
use Rattle.std.proofs.lemmas.Bool.Decides.{Decides-eqb}
use Rattle.std.proofs.lemmas.Slice.Eq.{ends_is}
use Rattle.std.specs.List.{ends_with}
use Rattle.lf_names.specs.Pattern.{Part, byte, star, parts_of, bytes_before_star, bytes_after_star, Becomes, IsLiteral}
use Rattle.lf_names.specs.Places.{IsAfterFirst}

-- Bytes become themselves.
pub bytes_front : (piece : List ℕ) (parts : List Part) (name : List ℕ) → Becomes (map byte piece ++ parts) name → (rest : List ℕ) × (name ≡ piece ++ rest) × Becomes parts rest
bytes_front [] parts name h = (name, refl, h)
bytes_front (c ∷ piece) parts name h =
    let more = bytes_front piece parts h.0 h.2 in (more.0, h.1 ∙ ap (λ l. c ∷ l) more.1, more.2)

pub front_bytes : (piece : List ℕ) (parts : List Part) (rest : List ℕ) → Becomes parts rest → Becomes (map byte piece ++ parts) (piece ++ rest)
front_bytes [] parts rest h = h
front_bytes (c ∷ piece) parts rest h = (piece ++ rest, refl, front_bytes piece parts rest h)

pub bytes_alone : (piece name : List ℕ) → Becomes (map byte piece) name ↔ (name ≡ piece)
bytes_alone [] name = (λ h. h, λ h. h)
bytes_alone (c ∷ piece) name = (
  λ h. h.1 ∙ ap (λ l. c ∷ l) ((bytes_alone piece h.0).0 h.2),
  λ e. (piece, e, (bytes_alone piece piece).1 refl),
)

-- A pattern without a star matches only its own bytes.
pub own_bytes : (parts : List Part) (pattern name : List ℕ) → parts ≡ map byte pattern → Becomes parts name ↔ (name ≡ pattern)
own_bytes parts pattern name e =
    let P : List Part → Type 0 = λ ps. Becomes ps name ↔ (name ≡ pattern) in subst P (sym e) (bytes_alone pattern name)

module _ (parts more : List Part) (piece : List ℕ) (is : parts ≡ map byte piece ++ star ∷ more) where
  opened : (name : List ℕ) → Becomes parts name → (rest : List ℕ) × (name ≡ piece ++ rest) × Becomes (star ∷ more) rest
  opened name h = let P : List Part → Type 0 = λ ps. Becomes ps name in bytes_front piece (star ∷ more) name (subst P is h)

  closed : (name rest : List ℕ) → name ≡ piece ++ rest → Becomes (star ∷ more) rest → Becomes parts name
  closed name rest e h =
      let P : List Part → Type 0 = λ ps. Becomes ps name in
      let Q : List ℕ → Type 0 = λ n. Becomes (map byte piece ++ star ∷ more) n in
      subst P (sym is) (subst Q (sym e) (front_bytes piece (star ∷ more) rest h))

  -- In front of the first star the name must begin with the piece.
  pub at_front : (name rest : List ℕ) → name ≡ piece ++ rest → Becomes (star ∷ more) rest ↔ Becomes parts name
  at_front name rest e = (
    λ h. closed name rest e h,
    λ h.
        let o = opened name h in
        let same : o.0 ≡ rest = sym (drop-append_seam piece o.0) ∙ ap (drop (length piece)) (sym o.1 ∙ e) ∙ drop-append_seam piece rest in
        let P : List ℕ → Type 0 = λ r. Becomes (star ∷ more) r in subst P same o.2,
  )

  pub not_at_front : (name : List ℕ) → ((rest : List ℕ) → name ≡ piece ++ rest → ⊥) → Becomes parts name → ⊥
  not_at_front name apart h = let o = opened name h in apart o.0 o.1

  -- Between two stars the first occurrence of the piece serves as well as any.
  pub at_first : (name rest : List ℕ) → IsAfterFirst name piece rest → Becomes (star ∷ parts) name ↔ Becomes (star ∷ more) rest
  at_first name rest place = (
    λ h.
        let o = opened h.1 h.3 in
        let later = place.first h.0 o.0 (h.2 ∙ ap (λ l. h.0 ++ l) o.1) in
        (later.0 ++ o.2.0, o.2.1, later.1 ∙ ap (λ l. later.0 ++ l) o.2.2 ∙ sym (append_assoc later.0 o.2.0 o.2.1), o.2.3),
    λ h. (place.found.0, piece ++ rest, place.found.1, closed (piece ++ rest) rest refl h),
  )

  pub nowhere : (name : List ℕ) → ((before rest : List ℕ) → name ≡ before ++ (piece ++ rest) → ⊥) → Becomes (star ∷ parts) name → ⊥
  nowhere name apart h = let o = opened h.1 h.3 in apart h.0 o.0 (h.2 ∙ ap (λ l. h.0 ++ l) o.1)

-- After the last star the name must end with the piece.
pub at_end : (parts : List Part) (piece name : List ℕ) (ends : Bool) → parts ≡ map byte piece → ends ≡ ends_with nat_eq name piece → IsTrue ends ↔ Becomes (star ∷ parts) name
at_end parts piece name ends e is =
    let answer = ends_is Decides-eqb name piece ends is in
    let own : (rest : List ℕ) → Becomes parts rest ↔ (rest ≡ piece) = λ rest. own_bytes parts piece rest e in (
      λ t. (take (length name - length piece) name, piece, answer.0 t, (own piece).1 refl),
      λ h. answer.1 h.0 (h.2 ∙ ap (λ l. h.0 ++ l) ((own h.1).0 h.3)),
    )

-- A list of bytes has no star.
no_star : (bytes piece : List ℕ) (more : List Part) → map byte bytes ≡ map byte piece ++ star ∷ more → ⊥
no_star [] [] more e = cc
no_star [] (c ∷ piece) more e = cc
no_star (b ∷ bytes) [] more e = cc
no_star (b ∷ bytes) (c ∷ piece) more e = no_star bytes piece more (cc)

-- A pattern in which no star is found is literal.
pub none_means_literal : (pattern : List ℕ) (found : Option (Bor (List ℕ) × Bor (List ℕ))) → MatchOption found (IsLiteral pattern) (λ p. parts_of pattern ≡ map byte p.0.now ++ star ∷ parts_of p.1.now)
    → (none : Bool) → is_some found ≡ not none → IsTrue none ↔ IsLiteral pattern
none_means_literal pattern None literal true is = (λ _. literal, λ _. refl)
none_means_literal pattern None literal false is = absurd (false≢true is)
none_means_literal pattern (Some p) parts true is = absurd (false≢true (sym is))
none_means_literal pattern (Some p) parts false is = (
  λ t. absurd (false≢true t),
  λ literal. absurd (no_star pattern p.0.now (parts_of p.1.now) (sym literal ∙ parts)),
)

-- The bytes in front of the first star of parts that are cut there.
pub before_star : (piece : List ℕ) (more : List Part) → bytes_before_star (map byte piece ++ star ∷ more) ≡ piece
before_star [] more = refl
before_star (c ∷ piece) more = ap (λ l. c ∷ l) (before_star piece more)

pub before_no_star : (piece : List ℕ) → bytes_before_star (map byte piece) ≡ piece
before_no_star [] = refl
before_no_star (c ∷ piece) = ap (λ l. c ∷ l) (before_no_star piece)

-- Whatever the parts become begins with the bytes in front of their first star. A caller's proof
-- may cite this.
pub begins_before_star : (parts : List Part) (name : List ℕ) → Becomes parts name → (rest : List ℕ) × (name ≡ bytes_before_star parts ++ rest)
begins_before_star [] name h = (name, refl)
begins_before_star (byte c ∷ parts) name h =
    let more = begins_before_star parts h.0 h.2 in (more.0, h.1 ∙ ap (λ l. c ∷ l) more.1)
begins_before_star (star ∷ parts) name h = (name, refl)

-- The bytes after the last star are found in the parts after any star.
pub after_star : (seen piece : List ℕ) (more : List Part) → bytes_after_star seen (map byte piece ++ star ∷ more) ≡ bytes_after_star [] more
after_star seen [] more = refl
after_star seen (c ∷ piece) more = after_star (seen ++ c ∷ []) piece more

pub after_no_star : (seen piece : List ℕ) → bytes_after_star seen (map byte piece) ≡ seen ++ piece
after_no_star seen [] = sym (append-nil seen)
after_no_star seen (c ∷ piece) = after_no_star (seen ++ c ∷ []) piece ∙ append_assoc seen (c ∷ []) piece

-- Whatever the parts become, with the bytes seen in front of it, ends with the bytes after their
-- last star.
seen_ends_after_star : (parts : List Part) (seen name : List ℕ) → Becomes parts name → (run : List ℕ) × (seen ++ name ≡ run ++ bytes_after_star seen parts)
seen_ends_after_star [] seen name h = ([], ap (λ l. seen ++ l) h ∙ append-nil seen)
seen_ends_after_star (byte c ∷ parts) seen name h =
    let more = seen_ends_after_star parts (seen ++ c ∷ []) h.0 h.2 in
    (more.0, ap (λ l. seen ++ l) h.1 ∙ sym (append_assoc seen (c ∷ []) h.0) ∙ more.1)
seen_ends_after_star (star ∷ parts) seen name h =
    let more = seen_ends_after_star parts [] h.1 h.3 in
    let ends : List ℕ = bytes_after_star [] parts in (
      seen ++ (h.0 ++ more.0),
      ap (λ l. seen ++ l) (h.2 ∙ ap (λ l. h.0 ++ l) more.1 ∙ sym (append_assoc h.0 more.0 ends)) ∙ sym (append_assoc seen (h.0 ++ more.0) ends),
    )

-- Whatever the parts become ends with the bytes after their last star. A caller's proof may cite
-- this.
pub ends_after_star : (parts : List Part) (name : List ℕ) → Becomes parts name → (run : List ℕ) × (name ≡ run ++ bytes_after_star [] parts)
ends_after_star parts name h = seen_ends_after_star parts [] name h
