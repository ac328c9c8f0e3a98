-- The clauses of the components so far.
use Rattle.std.proofs.Common.{◌≡◌, ℕ, ◌+◌, ◌≤◌, List, [], ◌∷◌, ◌++◌, map, length, refl, sym, subst, ap, ◌∙◌, arith}
use Rattle.std.specs.Prelude.{All, IfSome, Option, Some, None}
use Rattle.std.proofs.lemmas.List.{append-nil, get_or_append_left, map-append}
use Rattle.std.proofs.lemmas.List.Elements.{All-cons, All-head, All-nil, All-tail}
use Rattle.lf_def.specs.Laws as def
use Rattle.lf_def.specs.Laws.{ClauseWithin}
use Rattle.lf_def.specs.declared.components.Component.{Component}
use Rattle.lf_def.specs.declared.components.PlacementClause.{PlacementClause}
use Rattle.lf_write.specs.declared.kept_clauses.Entry.{Entry}
use Rattle.lf_write.specs.declared.kept_clauses.Entry.TheVariants.{Plain, Other}
use Rattle.lf_write.specs.Export.{ClauseFacts, no_clause}
use Rattle.lf_write.specs.Keeping.{IsInText, KeepsClause, IsNext, IsEntryWithin, all_in, clause_in}
use Rattle.lf_write.proofs.Apart.{ends_within}

-- These clauses are stored.
pub record AreKept (others : List ClauseFacts) (entries : List Entry) (far clauses : List ClauseFacts) : Type 0 where
  pub are : all_in others entries far ≡ clauses
  pub within : All (IsEntryWithin (length others)) entries

one_stays : (others more : List ClauseFacts) (entry : Entry) → IsEntryWithin (length others) entry → clause_in (others ++ more) entry ≡ clause_in others entry
one_stays others more (Plain bytes start) h = refl
one_stays others more (Other at) h = get_or_append_left others more (no_clause 0) at h

-- Clauses that are appended to the others do not affect the entries.
all_stay : (others more : List ClauseFacts) (entries : List Entry) → All (IsEntryWithin (length others)) entries
    → map (clause_in (others ++ more)) entries ≡ map (clause_in others) entries
all_stay others more [] h = refl
all_stay others more (e ∷ entries) h =
    ap (λ (z : ClauseFacts). z ∷ map (clause_in (others ++ more)) entries) (one_stays others more e (All-head (IsEntryWithin (length others)) e entries h))
    ∙ ap (λ (z : List ClauseFacts). clause_in others e ∷ z) (all_stay others more entries (All-tail (IsEntryWithin (length others)) e entries h))

-- One more entry.

near_is : (old new : List ClauseFacts) (entries : List Entry) (entry : Entry) (clause : ClauseFacts) → KeepsClause old new entry clause
    → All (IsEntryWithin (length old)) entries → map (clause_in new) (entries ++ entry ∷ []) ≡ map (clause_in old) entries ++ clause ∷ []
near_is old new entries entry clause k h =
    map-append (clause_in new) entries (entry ∷ [])
    ∙ ap (λ (z : List ClauseFacts). map (clause_in z) entries ++ clause_in new entry ∷ []) k.grown
    ∙ ap (λ (z : List ClauseFacts). z ++ clause_in new entry ∷ []) (all_stay old k.more entries h)
    ∙ ap (λ (z : ClauseFacts). map (clause_in old) entries ++ z ∷ []) k.is

-- No clause comes after those of the entries.
pub near_more : (old new far : List ClauseFacts) (entries : List Entry) (entry : Entry) (clause : ClauseFacts) → IsNext old new far entry clause
    → All (IsEntryWithin (length old)) entries → all_in new (entries ++ entry ∷ []) far ≡ all_in old entries far ++ clause ∷ []
near_more old new far entries entry clause k h =
    let alone : map (clause_in new) (entries ++ entry ∷ []) ++ [] ≡ (map (clause_in old) entries ++ []) ++ clause ∷ [] =
    append-nil (map (clause_in new) (entries ++ entry ∷ [])) ∙ near_is old new entries entry clause k.kept h
    ∙ ap (λ (z : List ClauseFacts). z ++ clause ∷ []) (sym (append-nil (map (clause_in old) entries))) in
    subst (λ (z : List ClauseFacts). map (clause_in new) (entries ++ entry ∷ []) ++ z ≡ (map (clause_in old) entries ++ z) ++ clause ∷ [])
    (sym k.none) alone

-- The components of a document are in its text.

in_text : (from semicolon len : ℕ) (c : Component) (p : Option PlacementClause) → semicolon ≤ len → ClauseWithin from semicolon p
    → IfSome p (λ p. (p.start ≤ p.stop) × (p.stop ≤ len))
in_text from semicolon len c None le h = tt
in_text from semicolon len c (Some p) le h = (omega (arith, h.1), omega (arith, le, h.2))

pub all_in_text : (from len : ℕ) (cs : List Component) → def.AreInTextOrder from len cs → All (IsInText len) cs
all_in_text from len [] h = All-nil (IsInText len)
all_in_text from len (c ∷ cs) h =
    All-cons (IsInText len) c cs
    (in_text from c.semicolon len c c.placement (omega (arith, ends_within (c.semicolon + 1) len cs h.2)) h.1)
    (all_in_text (c.semicolon + 1) len cs h.2)
