-- The shared words are read back, and skipping ends at the right token.
use Rattle.std.proofs.Common.{◌≡◌, ◌≢◌, ℕ, ◌≤◌, Bool, true, false, ◌&&◌, List, [], ◌∷◌, ◌++◌, map, length, refl, ap, sym, ◌∙◌, arith}
use Rattle.std.proofs.lemmas.List.{append-nil}
use Rattle.std.specs.Prelude.{codes, not, nat_lt}
use Rattle.std.specs.Str.{bytes_eq}
use Rattle.std.proofs.lemmas.Bool.Decides.{nat_tests}
use Rattle.std.proofs.lemmas.Slice.Eq.{bytes_eq-Decides}
use Rattle.lf_lex.specs.Tokens.{Lexeme, PlainToken, plain}
use Rattle.lf_lex.specs.Splices.{plain_word}
use Rattle.lf_lex.specs.Passing.{token_text, OccurNowhere}
use Rattle.lf_lex.specs.Reading.{Reader, turn, is, is_word, kind_is_word, keyword, word, name, end_name, passed_token, to_semicolon, passed_to_end, to_end}
use Rattle.lf_lex.specs.Reading.{passed_to_word, to_word}
use Rattle.lf_lex.proofs.Runs.{same}
use Rattle.lf_lex.proofs.Back.{BackAt, Back, TurnsAt, token_with, back_pure, back_bind, back_first, back_yes, back_no, at_first, at_map, at_last, at_more}
use Rattle.lf_lex.proofs.Back.{at_block}

pub no_more : {A B : Type 0} (bare : A → B) (q : Reader A) (y : A) (ws : List (List ℕ)) → Back bare q (ws ++ []) y → Back bare q ws y
no_more bare q y ws f = rw (append-nil ws) at f

-- Comparing a token that has the bytes of a word compares the word.
pub is_at : (due w : List ℕ) (t : Lexeme) → plain t ≡ plain_word w → is due t ≡ bytes_eq w due
is_at due w t e = ap (λ (p : PlainToken). bytes_eq p.text due) e

pub not_eq : (a b : List ℕ) → a ≢ b → bytes_eq a b ≡ false
not_eq a b h = by_test (bytes_eq a b) refl
  where
    by_test : (c : Bool) → bytes_eq a b ≡ c → bytes_eq a b ≡ false
    by_test true e = absurd (h ((bytes_eq-Decides a b).0 e))
    by_test false e = e

pub keyword_back : (due : List ℕ) → bytes_eq due due ≡ true → Back same (keyword due) (due ∷ []) tt
unfolding keyword
keyword_back due own = back_first same _ due [] tt (λ t e. back_yes same (is due t) _ _ [] tt (is_at due due t e ∙ own) (back_pure same tt tt refl))

pub word_test : (b : Bool) → b ≡ false → (true && not b) ≡ true
word_test b e = rw e refl

pub word_back : (n : List ℕ) → n ≢ codes ";" → Back plain word (n ∷ []) (token_with n)
unfolding word
word_back n other =
    back_first plain _ n [] (token_with n) (λ t e. back_yes plain (is_word t) _ _ [] (token_with n)
    (ap (λ (p : PlainToken). kind_is_word p.kind && not (bytes_eq p.text (codes ";"))) e ∙ word_test (bytes_eq n (codes ";")) (not_eq n (codes ";") other))
    (back_pure plain (token_with n) t e))

pub short_test : (n : ℕ) → n ≤ 1024 → nat_lt 1024 n ≡ false
short_test n h = grind (arith, nat_tests)

pub short_name_back : (n : List ℕ) → n ≢ codes ";" → length n ≤ 1024 → Back plain name (n ∷ []) (token_with n)
unfolding name
short_name_back n other short =
    back_bind plain plain word _ (n ∷ []) [] (token_with n) (token_with n) (word_back n other) (λ t e.
    back_no plain (nat_lt 1024 (length t.text)) _ _ [] (token_with n) (ap (λ (p : PlainToken). nat_lt 1024 (length p.text)) e ∙ short_test (length n) short)
    (back_pure plain (token_with n) t e))

pub end_back : (due : List ℕ) → bytes_eq due due ≡ true → Back same (end_name due) (due ∷ []) tt
unfolding end_name
end_back due own =
    back_first same _ due [] tt (λ t e. back_no same (not (kind_is_word t.kind)) _ _ [] tt (ap (λ (p : PlainToken). not (kind_is_word p.kind)) e)
    (back_yes same (is due t) _ _ [] tt (is_at due due t e ∙ own) (back_pure same tt tt refl)))

-- The bytes of a token of a word.
pub text_is : (w : List ℕ) (t : Lexeme) → plain t ≡ plain_word w → t.text ≡ w
text_is w t e = ap (λ (p : PlainToken). p.text) e

-- Comparing a token that has these bytes compares the bytes.
pub is_of : (due : List ℕ) (u : PlainToken) (t : Lexeme) → plain t ≡ u → is due t ≡ bytes_eq u.text due
is_of due u t e = ap (λ (p : PlainToken). bytes_eq p.text due) e

pub bytes_same : (a b : List ℕ) → bytes_eq a b ≡ true → a ≡ b
bytes_same a b h = (bytes_eq-Decides a b).0 h

pub same_bytes : (a : List ℕ) → bytes_eq a a ≡ true
same_bytes a = (bytes_eq-Decides a a).1 refl

-- Words that occur nowhere among tokens occur nowhere among the tokens after the first.
pub later : (words : List (List ℕ)) (u : PlainToken) (ps : List PlainToken) → OccurNowhere words (u ∷ ps) → OccurNowhere words ps
later words u ps h before after e = h (token_text u ∷ before) after (ap (λ (z : List (List ℕ)). token_text u ∷ z) e)

pub not_first : (due : List ℕ) (u : PlainToken) (ps : List PlainToken) → OccurNowhere (due ∷ []) (u ∷ ps) → u.text ≢ due
not_first due u ps h e = h [] (map token_text ps) (ap (λ (z : List ℕ). z ∷ map token_text ps) e)

-- Up to a word.

word_turns : (due : List ℕ) → bytes_eq due due ≡ true → (ps : List PlainToken) → OccurNowhere (due ∷ []) ps
    → TurnsAt same (passed_to_word due) tt (ps ++ plain_word due ∷ []) tt
unfolding passed_to_word
word_turns due own [] h =
    at_last same (passed_to_word due) tt tt (plain_word due ∷ []) (at_first same _ (plain_word due) [] (turn tt false) (λ t e.
    back_yes same (is due t) _ _ [] (turn tt false) (is_of due (plain_word due) t e ∙ own) (back_pure same (turn tt false) (turn tt false) refl)))
word_turns due own (u ∷ ps) h =
    at_more same (passed_to_word due) tt tt tt (u ∷ []) (ps ++ plain_word due ∷ []) (omega arith) (at_first same _ u [] (turn tt true) (λ t e.
    back_no same (is due t) _ _ [] (turn tt true) (is_of due u t e ∙ not_eq u.text due (not_first due u ps h))
    (back_pure same (turn tt true) (turn tt true) refl))) (λ s e.
    word_turns due own ps (later (due ∷ []) u ps h))

pub to_word_at : (due : List ℕ) → bytes_eq due due ≡ true → (ps : List PlainToken) → OccurNowhere (due ∷ []) ps
    → BackAt same (to_word due) (ps ++ plain_word due ∷ []) tt
to_word_at due own ps h = at_block same (passed_to_word due) tt tt (ps ++ plain_word due ∷ []) (word_turns due own ps h)

-- A semicolon is such a word.
pub to_semicolon_at : (ps : List PlainToken) → OccurNowhere (codes ";" ∷ []) ps → BackAt same to_semicolon (ps ++ plain_word (codes ";") ∷ []) tt
unfolding passed_token passed_to_word
to_semicolon_at ps h = to_word_at (codes ";") refl ps h

-- Up to END and a word.

not_both : (a b : Bool) → (a ≡ true → b ≡ true → ⊥) → (a && b) ≡ false
not_both true true h = absurd (h refl refl)
not_both true false h = refl
not_both false b h = refl

-- The word does not directly follow END.
not_end : (due q : List ℕ) (u : PlainToken) (ps : List PlainToken) → OccurNowhere (codes "END" ∷ due ∷ []) (plain_word q ∷ u ∷ ps)
    → (bytes_eq q (codes "END") && bytes_eq u.text due) ≡ false
not_end due q u ps h =
    not_both (bytes_eq q (codes "END")) (bytes_eq u.text due) (λ a b. h [] (map token_text ps)
    (ap (λ (z : List ℕ). z ∷ u.text ∷ map token_text ps) (bytes_same q (codes "END") a)
    ∙ ap (λ (z : List ℕ). codes "END" ∷ z ∷ map token_text ps) (bytes_same u.text due b)))

end_turns : (due : List ℕ) → bytes_eq due due ≡ true → (q : List ℕ) (ps : List PlainToken)
    → OccurNowhere (codes "END" ∷ due ∷ []) (plain_word q ∷ (ps ++ plain_word (codes "END") ∷ []))
    → (state : Bool) → state ≡ bytes_eq q (codes "END") → TurnsAt same (passed_to_end due) state (ps ++ plain_word (codes "END") ∷ plain_word due ∷ []) true
unfolding passed_to_end
end_turns due own q [] h state at =
    at_more same (passed_to_end due) state true true (plain_word (codes "END") ∷ []) (plain_word due ∷ []) (omega arith)
    (at_first same _ (plain_word (codes "END")) [] (turn true true) (λ t e.
    back_no same (state && is due t) _ _ [] (turn true true) (rw (at, is_of due (plain_word (codes "END")) t e) (not_end due q (plain_word (codes "END")) [] h))
    (back_pure same (turn true true) (turn (is (codes "END") t) true) (ap (λ (z : Bool). turn z true) (is_of (codes "END") (plain_word (codes "END")) t e)))))
    (λ s es.
    at_last same (passed_to_end due) s true (plain_word due ∷ []) (at_first same _ (plain_word due) [] (turn true false) (λ t e.
    back_yes same (s && is due t) _ _ [] (turn true false) (rw es (is_of due (plain_word due) t e ∙ own))
    (back_pure same (turn true false) (turn s false) (ap (λ (z : Bool). turn z false) es)))))
end_turns due own q (u ∷ ps) h state at =
    let is_end = bytes_eq u.text (codes "END") in
    at_more same (passed_to_end due) state is_end true (u ∷ []) (ps ++ plain_word (codes "END") ∷ plain_word due ∷ []) (omega arith)
    (at_first same _ u [] (turn is_end true) (λ t e.
    back_no same (state && is due t) _ _ [] (turn is_end true) (rw (at, is_of due u t e) (not_end due q u (ps ++ plain_word (codes "END") ∷ []) h))
    (back_pure same (turn is_end true) (turn (is (codes "END") t) true) (ap (λ (z : Bool). turn z true) (is_of (codes "END") u t e))))) (λ s es.
    end_turns due own u.text ps (λ before after e. later (codes "END" ∷ due ∷ []) (plain_word q) (u ∷ (ps ++ plain_word (codes "END") ∷ [])) h before after e) s es)

-- No END is in front of the first of them.
none_before : (due : List ℕ) (ps : List PlainToken) → OccurNowhere (codes "END" ∷ due ∷ []) ps → OccurNowhere (codes "END" ∷ due ∷ []) (plain_word [] ∷ ps)
none_before due ps h [] after e = absurd cc
none_before due ps h (w ∷ before) after e = h before after cc

-- Up to the first END that the word directly follows.
pub to_end_before : (due : List ℕ) → bytes_eq due due ≡ true → (ps : List PlainToken) → OccurNowhere (codes "END" ∷ due ∷ []) (ps ++ plain_word (codes "END") ∷ [])
    → BackAt same (to_end due) (ps ++ plain_word (codes "END") ∷ plain_word due ∷ []) tt
unfolding to_end
to_end_before due own ps h =
    let all = ps ++ plain_word (codes "END") ∷ plain_word due ∷ [] in
    at_map same same _ (λ (z : Bool). tt) all true tt
    (at_block same (passed_to_end due) false true all (end_turns due own [] ps (none_before due (ps ++ plain_word (codes "END") ∷ []) h) false refl)) (λ x e. refl)

-- An END in front changes nothing if the word is not END.
end_apart : (due : List ℕ) → codes "END" ≢ due → (ps : List PlainToken) → OccurNowhere (codes "END" ∷ due ∷ []) ps
    → OccurNowhere (codes "END" ∷ due ∷ []) (ps ++ plain_word (codes "END") ∷ [])
end_apart due other [] h [] after e = absurd cc
end_apart due other [] h (w ∷ []) after e = absurd cc
end_apart due other [] h (w ∷ (v ∷ before)) after e = absurd cc
end_apart due other (u ∷ []) h [] after e = other cc
end_apart due other (u ∷ (v ∷ ps)) h [] after e =
    let a : u.text ≡ codes "END" = cc in
    let b : v.text ≡ due = cc in
    h [] (map token_text ps) (rw (a, b) refl)
end_apart due other (u ∷ ps) h (w ∷ before) after e = end_apart due other ps (later (codes "END" ∷ due ∷ []) u ps h) before after cc

differ : (due : List ℕ) → bytes_eq (codes "END") due ≡ false → codes "END" ≢ due
differ due other e = not_true (sym ((bytes_eq-Decides (codes "END") due).1 e) ∙ other)
  where
    not_true : true ≡ false → ⊥
    not_true e = cc

pub to_end_at : (due : List ℕ) → bytes_eq due due ≡ true → bytes_eq (codes "END") due ≡ false → (ps : List PlainToken) → OccurNowhere (codes "END" ∷ due ∷ []) ps
    → BackAt same (to_end due) (ps ++ plain_word (codes "END") ∷ plain_word due ∷ []) tt
to_end_at due own other ps h = to_end_before due own ps (end_apart due (differ due other) ps h)
