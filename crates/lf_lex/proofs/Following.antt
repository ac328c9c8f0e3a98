-- The shared words take a run of tokens, and read alike from tokens that differ only in their
-- places.
use Rattle.std.proofs.Common.{◌≡◌, ℕ, Bool, true, false, ◌&&◌, List, length, Result, Ok, Err, refl, ap}
use Rattle.std.specs.Prelude.{not, nat_lt, codes}
use Rattle.std.specs.Str.{bytes_eq}
use Rattle.lf_lex.specs.declared.tokens.TokenKind.{TokenKind}
use Rattle.lf_lex.specs.Tokens.{Lexeme, PlainToken, plain}
use Rattle.lf_lex.specs.Reading.{turn, token, is, kind_is_word, is_word, keyword, word, name, end_name, passed_token, to_semicolon, passed_to_end, to_end}
use Rattle.lf_lex.specs.Reading.{passed_to_word, to_word, block, or_bad_number}
use Rattle.lf_lex.proofs.Runs.{Follows, Goes, same, turn_bare, bind, choose, pure, fault, token_follows, takes_one, block_follows}

pub text_alike : (t t' : Lexeme) → plain t' ≡ plain t → t'.text ≡ t.text
text_alike t t' e = ap (λ (p : PlainToken). p.text) e

pub kind_alike : (t t' : Lexeme) → plain t' ≡ plain t → t'.kind ≡ t.kind
kind_alike t t' e = ap (λ (p : PlainToken). p.kind) e

pub is_alike : (w : List ℕ) (t t' : Lexeme) → plain t' ≡ plain t → is w t' ≡ is w t
is_alike w t t' e = ap (λ (x : List ℕ). bytes_eq x w) (text_alike t t' e)

word_alike : (t t' : Lexeme) → plain t' ≡ plain t → is_word t' ≡ is_word t
word_alike t t' e = ap (λ (p : PlainToken). kind_is_word p.kind && not (bytes_eq p.text (codes ";"))) e

pub keyword_follows : (due : List ℕ) → Follows same (keyword due) (keyword due)
unfolding keyword
keyword_follows due = bind plain same token token _ _ token_follows
    (λ t t' e. choose same (is due t) (is due t') _ _ _ _ (is_alike due t t' e) (pure same tt tt refl) (fault same _ _))

pub word_follows : Follows plain word word
unfolding word
word_follows = bind plain plain token token _ _ token_follows
    (λ t t' e. choose plain (is_word t) (is_word t') _ _ _ _ (word_alike t t' e) (pure plain t t' e) (fault plain _ _))

pub name_follows : Follows plain name name
unfolding name
name_follows =
    bind plain plain word word _ _ word_follows (λ t t' e.
    choose plain (nat_lt 1024 (length t.text)) (nat_lt 1024 (length t'.text)) _ _ _ _ (ap (λ (x : List ℕ). nat_lt 1024 (length x)) (text_alike t t' e))
    (fault plain _ _) (pure plain t t' e))

pub end_name_follows : (due : List ℕ) → Follows same (end_name due) (end_name due)
unfolding end_name
end_name_follows due =
    bind plain same token token _ _ token_follows (λ t t' e.
    choose same (not (kind_is_word t.kind)) (not (kind_is_word t'.kind)) _ _ _ _ (ap (λ (k : TokenKind). not (kind_is_word k)) (kind_alike t t' e))
    (fault same _ _)
    (choose same (is due t) (is due t') _ _ _ _ (is_alike due t t' e) (pure same tt tt refl) (fault same _ _)))

passed_token_follows : (s s' : Unit {0}) → same s' ≡ same s → Follows (turn_bare same) (passed_token s) (passed_token s')
unfolding passed_token
passed_token_follows s s' a =
    bind plain (turn_bare same) token token _ _ token_follows (λ t t' e.
    choose (turn_bare same) (is (codes ";") t) (is (codes ";") t') _ _ _ _ (is_alike (codes ";") t t' e) (pure (turn_bare same) _ _ refl)
    (pure (turn_bare same) _ _ refl))

pub passed_token_goes : Goes passed_token
unfolding passed_token
passed_token_goes s s1 l m e =
    takes_one (turn_bare same) _ _ l m (turn s1 true) (λ t. choose (turn_bare same) (is (codes ";") t) (is (codes ";") t) _ _ _ _ refl
    (pure (turn_bare same) _ _ refl) (pure (turn_bare same) _ _ refl)) e

pub to_semicolon_follows : Follows same to_semicolon to_semicolon
to_semicolon_follows = block_follows same passed_token passed_token_follows passed_token_goes tt tt refl

passed_to_word_follows : (due : List ℕ) (s s' : Unit {0}) → same s' ≡ same s → Follows (turn_bare same) (passed_to_word due s) (passed_to_word due s')
unfolding passed_to_word
passed_to_word_follows due s s' a =
    bind plain (turn_bare same) token token _ _ token_follows (λ t t' e.
    choose (turn_bare same) (is due t) (is due t') _ _ _ _ (is_alike due t t' e) (pure (turn_bare same) _ _ refl) (pure (turn_bare same) _ _ refl))

pub passed_to_word_goes : (due : List ℕ) → Goes (passed_to_word due)
unfolding passed_to_word
passed_to_word_goes due s s1 l m e =
    takes_one (turn_bare same) _ _ l m (turn s1 true) (λ t. choose (turn_bare same) (is due t) (is due t) _ _ _ _ refl (pure (turn_bare same) _ _ refl)
    (pure (turn_bare same) _ _ refl)) e

pub to_word_follows : (due : List ℕ) → Follows same (to_word due) (to_word due)
to_word_follows due = block_follows same (passed_to_word due) (passed_to_word_follows due) (passed_to_word_goes due) tt tt refl

pub both_alike : (b b' c c' : Bool) → b' ≡ b → c' ≡ c → (b' && c') ≡ (b && c)
both_alike b b' c c' e f = rw (e, f) refl

passed_to_end_follows : (due : List ℕ) (s s' : Bool) → same s' ≡ same s → Follows (turn_bare same) (passed_to_end due s) (passed_to_end due s')
unfolding passed_to_end
passed_to_end_follows due s s' a =
    bind plain (turn_bare same) token token _ _ token_follows (λ t t' e.
    choose (turn_bare same) (s && is due t) (s' && is due t') _ _ _ _ (both_alike s s' (is due t) (is due t') a (is_alike due t t' e))
    (pure (turn_bare same) _ _ (ap (λ (b : Bool). turn b false) a))
    (pure (turn_bare same) _ _ (ap (λ (b : Bool). turn b true) (is_alike (codes "END") t t' e))))

pub passed_to_end_goes : (due : List ℕ) → Goes (passed_to_end due)
unfolding passed_to_end
passed_to_end_goes due s s1 l m e =
    takes_one (turn_bare same) _ _ l m (turn s1 true) (λ t. choose (turn_bare same) (s && is due t) (s && is due t) _ _ _ _ refl
    (pure (turn_bare same) _ _ refl) (pure (turn_bare same) _ _ refl)) e

pub to_end_follows : (due : List ℕ) → Follows same (to_end due) (to_end due)
unfolding to_end
to_end_follows due =
    bind same same (block (passed_to_end due) false) (block (passed_to_end due) false) _ _
    (block_follows same (passed_to_end due) (passed_to_end_follows due) (passed_to_end_goes due) false false refl)
    (λ t t' e. pure same tt tt refl)

pub named_end : (n n' : List ℕ) → n' ≡ n → Follows same (to_end n) (to_end n')
named_end n n' e = rw e (to_end_follows n)

-- A number is the same at another line.
pub number_again : {A E : Type 0} (r : Result A E) (line line' : ℕ) (v : A) → or_bad_number r line ≡ Ok v → or_bad_number r line' ≡ Ok v
number_again (Ok x) line line' v e = e
number_again (Err q) line line' v e = absurd cc
