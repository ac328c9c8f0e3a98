-- The bytes of a word, up to the first byte that no word may have.
use Rattle.std.proofs.Common.{◌≡◌, ℕ, suc, ◌+◌, ◌-◌, ◌<◌, Bool, true, false, List, [], ◌∷◌, length, take, drop, get_or, refl, sym, zero-add, ◌∙◌, arith}
use Rattle.std.specs.Prelude.{◌&&◌}
use Rattle.std.specs.List.{list_all, position_or_len}
use Rattle.std.proofs.lemmas.Bool.Decides.{nat_tests}
use Rattle.std.proofs.lemmas.List.Sums.{fails_before_first, position_or_len_is, prefix_len-le-length}
use Rattle.lf_lex.specs.Tokens.{is_line_feed, is_other, is_white, is_word_byte, line_feeds, word_len}
use Rattle.lf_lex.proofs.Scanning.{first_and_rest, line_feeds_cons, one_more}

pub word_byte : (b : ℕ) → is_other b ≡ false → is_word_byte b ≡ true
word_byte b h = grind (arith, nat_tests)

pub no_word_byte : (b : ℕ) → is_other b ≡ true → is_word_byte b ≡ false
no_word_byte b h = grind (arith, nat_tests)

no_white : (b : ℕ) → is_other b ≡ false → is_white b ≡ false
no_white b h = grind (arith, nat_tests)

no_feed : (b : ℕ) → is_word_byte b ≡ true → is_line_feed b ≡ false
no_feed b h = grind (arith, nat_tests)

and_true : (a b : Bool) → (a && b) ≡ true → (a ≡ true) × (b ≡ true)
and_true true b e = (refl, e)
and_true false b e = absurd cc

and_false : (a b : Bool) → b ≡ false → (a && b) ≡ false
and_false true b e = e
and_false false b e = refl

-- If the first byte that no word may have is white space or does not exist, it is the next white
-- space.
pub stops_at_white : (bytes : List ℕ) → (position_or_len is_other bytes < length bytes → is_white (get_or bytes (position_or_len is_other bytes) 0) ≡ true)
    → position_or_len is_other bytes ≡ word_len bytes
stops_at_white bytes white =
    sym (position_or_len_is is_white bytes (position_or_len is_other bytes) 0 (prefix_len-le-length _ bytes)
    (λ k less. no_white (get_or bytes k 0) (fails_before_first is_other bytes k 0 less)) white)

word_step : (b : ℕ) (bytes : List ℕ) (other : Bool) → is_other b ≡ other → list_all is_word_byte (take (position_or_len is_other bytes) bytes) ≡ true
    → list_all is_word_byte (take (position_or_len is_other (b ∷ bytes)) (b ∷ bytes)) ≡ true
word_step b bytes true h all = rw h refl
word_step b bytes false h all = rw (h, one_more (position_or_len is_other bytes)) (rw (word_byte b h) all)

-- A word may have each byte in front of it.
pub each_before : (bytes : List ℕ) → list_all is_word_byte (take (position_or_len is_other bytes) bytes) ≡ true
each_before [] = refl
each_before (b ∷ bytes) = word_step b bytes (is_other b) refl (each_before bytes)

fault_step : (b : ℕ) (bytes : List ℕ) (other : Bool) → is_other b ≡ other
    → (position_or_len is_other bytes < length bytes → is_white (get_or bytes (position_or_len is_other bytes) 0) ≡ false
    → list_all is_word_byte (take (word_len bytes) bytes) ≡ false)
    → position_or_len is_other (b ∷ bytes) < length (b ∷ bytes) → is_white (get_or (b ∷ bytes) (position_or_len is_other (b ∷ bytes)) 0) ≡ false
    → list_all is_word_byte (take (word_len (b ∷ bytes)) (b ∷ bytes)) ≡ false
fault_step b bytes true h again less white =
    let black : is_white b ≡ false = rw h at white in
    rw (black, one_more (word_len bytes)) (rw (no_word_byte b h) refl)
fault_step b bytes false h again less white =
    let inner = rw (h, one_more (position_or_len is_other bytes)) at less in
    let black = rw (h, one_more (position_or_len is_other bytes)) at white in
    rw (no_white b h, one_more (word_len bytes)) (and_false (is_word_byte b) _ (again (omega (arith, inner)) black))

-- If the first byte that no word may have is not white space, it lies in front of the next white
-- space.
pub stops_at_fault : (bytes : List ℕ) → position_or_len is_other bytes < length bytes → is_white (get_or bytes (position_or_len is_other bytes) 0) ≡ false
    → list_all is_word_byte (take (word_len bytes) bytes) ≡ false
stops_at_fault [] less white = absurd (omega (arith, less))
stops_at_fault (b ∷ bytes) less white = fault_step b bytes (is_other b) refl (stops_at_fault bytes) less white

-- A word has no line feed.
pub no_line_feeds : (word : List ℕ) → list_all is_word_byte word ≡ true → line_feeds word ≡ 0
no_line_feeds [] all = refl
no_line_feeds (b ∷ word) all =
    let both = and_true (is_word_byte b) (list_all is_word_byte word) all in
    line_feeds_cons b word ∙ rw (no_feed b both.0) (zero-add (line_feeds word) ∙ no_line_feeds word both.1)

-- A word from an offset on.
pub whole_word : (text word : List ℕ) (at more : ℕ) → at < length text → is_other (get_or text at 0) ≡ false
    → list_all is_word_byte (take more (drop (at + 1) text)) ≡ true → word ≡ take (at + 1 + more - at) (drop at text) → list_all is_word_byte word ≡ true
whole_word text word at more lt first rest e =
    let n : at + 1 + more - at ≡ suc more = omega arith in
    rw (e, n, first_and_rest text at lt) (rw (word_byte _ first) rest)

pub first_is_other : (b : ℕ) (bytes : List ℕ) → is_other b ≡ true → list_all is_word_byte (b ∷ bytes) ≡ false
first_is_other b bytes h = rw (no_word_byte b h) refl

pub rest_is_other : (b : ℕ) (bytes : List ℕ) → list_all is_word_byte bytes ≡ false → list_all is_word_byte (b ∷ bytes) ≡ false
rest_is_other b bytes h = and_false (is_word_byte b) (list_all is_word_byte bytes) h
