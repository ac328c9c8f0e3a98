-- Printed sites are read as their statements describe them.
use Rattle.std.proofs.Common.{◌≢◌, ℕ, ◌<◌, true, false, List, [], ◌∷◌, All, length, refl, ap, arith}
use Rattle.std.specs.Prelude.{codes}
use Rattle.std.specs.Str.{bytes_eq}
use Rattle.std.proofs.lemmas.List.Elements.{All-head, All-tail, recursion_from_All}
use Rattle.lf_units.specs.declared.geometry.Point.{Point}
use Rattle.lf_orient.specs.declared.Symmetry.{Symmetry}
use Rattle.lf_lex.specs.Splices.{plain_word}
use Rattle.lf_lex.specs.Reading.{◌>>=◌, Turn, taken, turn, finishes, end_name, first_counts}
use Rattle.lf_lex.proofs.Runs.{same}
use Rattle.lf_lex.proofs.Back.{BackAt, TurnsAt, at_map, at_known, at_last, at_more, at_block}
use Rattle.lf_lex.proofs.BackWords.{not_eq, same_bytes, end_back}
use Rattle.lf_lef.specs.declared.sites.SiteParts.{SiteParts}
use Rattle.lf_lef.specs.Lengths.{size}
use Rattle.lf_lef.specs.Sites.{one_word, no_symmetry, symmetry, site_statement_from, site_statement, no_site_parts, site_parts}
use Rattle.lf_lef.specs.PrintedMacros.{symmetry_tokens, with_symmetries}
use Rattle.lf_lef.specs.PrintedSites.{SiteStatement, site_class, site_symmetry, site_size, site_passed, site_statement_tokens, IsSiteStatement}
use Rattle.lf_lef.specs.PrintedSites.{site_body_tokens, with_site_statement, with_site_statements}
use Rattle.lf_lef.proofs.Following.{point_at}
use Rattle.lf_lef.proofs.PrintedLengths.{one_word_back, symmetries_back, size_back, passed_back, some_passed}

site_statement_back : (n : List ℕ) (s : SiteParts) (x : SiteStatement) → IsSiteStatement x
    → BackAt same (site_statement n s) (site_statement_tokens x) (turn (with_site_statement s x) true)
unfolding site_statement site_statement_from
site_statement_back n s (site_class class) h =
    let made : List ℕ → Turn SiteParts = λ z. turn (record s { core = first_counts s.core (bytes_eq z (codes "CORE")) }) true in
    let after_it = plain_word class ∷ plain_word (codes ";") ∷ [] in
    at_known same (site_statement_from n s) (λ l. one_word l >>= λ z. taken (made z.value) z.rest) (plain_word (codes "CLASS")) after_it (made class) (λ t l. refl)
    (at_map same same one_word made after_it class (made class) (one_word_back class h) (λ z e. ap made e))
site_statement_back n s (site_symmetry ws) h =
    let made : Symmetry → Turn SiteParts = λ z. turn (record s { symmetry = first_counts s.symmetry z }) true in
    let v = with_symmetries no_symmetry ws in
    at_known same (site_statement_from n s) (λ l. symmetry l >>= λ z. taken (made z.value) z.rest) (plain_word (codes "SYMMETRY")) (symmetry_tokens ws) (made v)
    (λ t l. refl)
    (at_map same same symmetry made (symmetry_tokens ws) v (made v) (symmetries_back ws) (λ z e. ap made e))
site_statement_back n s (site_size w hh) h =
    let made : Point → Turn SiteParts = λ z. turn (record s { size = first_counts s.size z }) true in
    let v = point_at w.length hh.length in
    let after_it = plain_word w.word ∷ plain_word (codes "BY") ∷ plain_word hh.word ∷ plain_word (codes ";") ∷ [] in
    at_known same (site_statement_from n s) (λ l. size l >>= λ z. taken (made z.value) z.rest) (plain_word (codes "SIZE")) after_it (made v) (λ t l. refl)
    (at_map same same size made after_it v (made v) (size_back w hh h.0 h.1) (λ z e. ap made e))
site_statement_back n s (site_passed ts) h =
    let keywords = codes "END" ∷ codes "CLASS" ∷ codes "SYMMETRY" ∷ codes "SIZE" ∷ [] in
    passed_back (site_statement_from n s) s keywords ts h (λ t l. refl) (λ u d o t l.
    let others = recursion_from_All (λ w. u.text ≢ w) keywords d in
    rw (
      not_eq u.text (codes "END") others.0,
      not_eq u.text (codes "CLASS") others.1.0,
      not_eq u.text (codes "SYMMETRY") others.1.1.0,
      not_eq u.text (codes "SIZE") others.1.1.1.0,
      not_eq u.text (codes ";") o,
    ) refl)

some_statement : (x : SiteStatement) → 0 < length (site_statement_tokens x)
some_statement (site_class class) = omega arith
some_statement (site_symmetry ws) = omega arith
some_statement (site_size w h) = omega arith
some_statement (site_passed ts) = some_passed ts

site_turns : (n : List ℕ) (s : SiteParts) (xs : List SiteStatement) → All IsSiteStatement xs
    → TurnsAt same (site_statement n) s (site_body_tokens n xs) (with_site_statements s xs)
unfolding site_statement site_statement_from
site_turns n s [] h =
    at_last same (site_statement n) s s (plain_word (codes "END") ∷ plain_word n ∷ [])
    (at_known same (site_statement_from n s) (λ l. end_name n l >>= λ stop. finishes s stop.rest) (plain_word (codes "END")) (plain_word n ∷ []) (turn s false)
    (λ t l. refl)
    (at_map same same (end_name n) (λ (z : Unit {0}). turn s false) (plain_word n ∷ []) tt (turn s false) (end_back n (same_bytes n)) (λ z e. refl)))
site_turns n s (x ∷ xs) h =
    at_more same (site_statement n) s (with_site_statement s x) (with_site_statements s (x ∷ xs)) (site_statement_tokens x) (site_body_tokens n xs)
    (some_statement x)
    (site_statement_back n s x (All-head IsSiteStatement x xs h)) (λ s' e. rw e (site_turns n (with_site_statement s x) xs (All-tail IsSiteStatement x xs h)))

pub site_parts_back : (n : List ℕ) (xs : List SiteStatement) → All IsSiteStatement xs
    → BackAt same (site_parts n) (site_body_tokens n xs) (with_site_statements no_site_parts xs)
site_parts_back n xs h =
    at_block same (site_statement n) no_site_parts (with_site_statements no_site_parts xs) (site_body_tokens n xs) (site_turns n no_site_parts xs h)
