-- What a byte, and a line that leaves, do to the lines of stored bytes.
use Rattle.std.proofs.Common.{◌≡◌, ◌≢◌, ℕ, suc, ◌+◌, ◌<◌, ◌≤◌, Bool, true, false, not, cond, nat_lt, List, [], ◌∷◌, ◌++◌, length, take, drop, None, Some, refl, sym, ap, ◌∙◌, arith, append_assoc, append-nil, length-append}
use Rattle.std.proofs.lemmas.Bool.Decides.{nat_tests}
use Rattle.std.proofs.lemmas.List.{drop-append-le}
use Rattle.std.specs.List.{position, position_or_len}
use Rattle.std.proofs.lemmas.Bool.{ltb-true, lt-ltb, cond-true}
use Rattle.lf_hub_clients.specs.Lines.{is_line_feed, line_limit, lines_after, begun_after, lines_size}
use Rattle.lf_hub_clients.specs.Stored.{stored_lines, stored_begun}

lines-feed-next : (begun text : List ℕ) (x b : ℕ) (ends : Bool) → stored_lines [] (text ++ b ∷ []) ≡ stored_lines [] text ++ stored_begun [] text ∷ [] → stored_lines (begun ++ x ∷ []) (text ++ b ∷ []) ≡ stored_lines (begun ++ x ∷ []) text ++ stored_begun (begun ++ x ∷ []) text ∷ []
    → cond ends (begun ∷ stored_lines [] (text ++ b ∷ [])) (stored_lines (begun ++ x ∷ []) (text ++ b ∷ [])) ≡ cond ends (begun ∷ stored_lines [] text) (stored_lines (begun ++ x ∷ []) text) ++ cond ends (stored_begun [] text) (stored_begun (begun ++ x ∷ []) text) ∷ []
lines-feed-next begun text x b true p q = ap (λ l. begun ∷ l) p
lines-feed-next begun text x b false p q = q

-- a line feed at the end ends the line that has begun
pub lines-feed : (begun text : List ℕ) (b : ℕ) → is_line_feed b ≡ true → stored_lines begun (text ++ b ∷ []) ≡ stored_lines begun text ++ stored_begun begun text ∷ []
lines-feed begun [] b h = rw h refl
lines-feed begun (x ∷ text) b h = lines-feed-next begun text x b (is_line_feed x) (lines-feed [] text b h) (lines-feed (begun ++ x ∷ []) text b h)

begun-feed-next : (begun text : List ℕ) (x b : ℕ) (ends : Bool) → stored_begun [] (text ++ b ∷ []) ≡ [] → stored_begun (begun ++ x ∷ []) (text ++ b ∷ []) ≡ []
    → cond ends (stored_begun [] (text ++ b ∷ [])) (stored_begun (begun ++ x ∷ []) (text ++ b ∷ [])) ≡ []
begun-feed-next begun text x b true p q = p
begun-feed-next begun text x b false p q = q

pub begun-feed : (begun text : List ℕ) (b : ℕ) → is_line_feed b ≡ true → stored_begun begun (text ++ b ∷ []) ≡ []
begun-feed begun [] b h = rw h refl
begun-feed begun (x ∷ text) b h = begun-feed-next begun text x b (is_line_feed x) (begun-feed [] text b h) (begun-feed (begun ++ x ∷ []) text b h)

lines-more-next : (begun text : List ℕ) (x b : ℕ) (ends : Bool) → stored_lines [] (text ++ b ∷ []) ≡ stored_lines [] text → stored_lines (begun ++ x ∷ []) (text ++ b ∷ []) ≡ stored_lines (begun ++ x ∷ []) text
    → cond ends (begun ∷ stored_lines [] (text ++ b ∷ [])) (stored_lines (begun ++ x ∷ []) (text ++ b ∷ [])) ≡ cond ends (begun ∷ stored_lines [] text) (stored_lines (begun ++ x ∷ []) text)
lines-more-next begun text x b true p q = ap (λ l. begun ∷ l) p
lines-more-next begun text x b false p q = q

-- another byte makes that line longer
pub lines-more : (begun text : List ℕ) (b : ℕ) → is_line_feed b ≡ false → stored_lines begun (text ++ b ∷ []) ≡ stored_lines begun text
lines-more begun [] b h = rw h refl
lines-more begun (x ∷ text) b h = lines-more-next begun text x b (is_line_feed x) (lines-more [] text b h) (lines-more (begun ++ x ∷ []) text b h)

begun-more-next : (begun text : List ℕ) (x b : ℕ) (ends : Bool) → stored_begun [] (text ++ b ∷ []) ≡ stored_begun [] text ++ b ∷ [] → stored_begun (begun ++ x ∷ []) (text ++ b ∷ []) ≡ stored_begun (begun ++ x ∷ []) text ++ b ∷ []
    → cond ends (stored_begun [] (text ++ b ∷ [])) (stored_begun (begun ++ x ∷ []) (text ++ b ∷ [])) ≡ cond ends (stored_begun [] text) (stored_begun (begun ++ x ∷ []) text) ++ b ∷ []
begun-more-next begun text x b true p q = p
begun-more-next begun text x b false p q = q

pub begun-more : (begun text : List ℕ) (b : ℕ) → is_line_feed b ≡ false → stored_begun begun (text ++ b ∷ []) ≡ stored_begun begun text ++ b ∷ []
begun-more begun [] b h = rw h refl
begun-more begun (x ∷ text) b h = begun-more-next begun text x b (is_line_feed x) (begun-more [] text b h) (begun-more (begun ++ x ∷ []) text b h)

size-next : (begun text : List ℕ) (x : ℕ) (ends : Bool) → lines_size (stored_lines [] text) + length (stored_begun [] text) ≡ length {A = ℕ} [] + length text → lines_size (stored_lines (begun ++ x ∷ []) text) + length (stored_begun (begun ++ x ∷ []) text) ≡ length (begun ++ x ∷ []) + length text
    → lines_size (cond ends (begun ∷ stored_lines [] text) (stored_lines (begun ++ x ∷ []) text)) + length (cond ends (stored_begun [] text) (stored_begun (begun ++ x ∷ []) text)) ≡ length begun + length (x ∷ text)
size-next begun text x true p q = omega arith
size-next begun text x false p q = let len = length-append begun (x ∷ []) in omega arith

-- the size of the lines is the number of bytes
pub stored_size : (begun text : List ℕ) → lines_size (stored_lines begun text) + length (stored_begun begun text) ≡ length begun + length text
stored_size begun [] = omega arith
stored_size begun (x ∷ text) = size-next begun text x (is_line_feed x) (stored_size [] text) (stored_size (begun ++ x ∷ []) text)

-- the first line leaves with its line feed
module _ (x : ℕ) (begun text : List ℕ) where
  lines-first-more : (ends : Bool) (k : ℕ) → is_line_feed x ≡ ends → k ≡ cond (not ends) (1 + position_or_len is_line_feed text) 0 → k < length (x ∷ text)
      → ((b : List ℕ) → position_or_len is_line_feed text < length text → stored_lines b text ≡ (b ++ take (position_or_len is_line_feed text) text) ∷ stored_lines [] (drop (position_or_len is_line_feed text + 1) text))
      → cond ends (begun ∷ stored_lines [] text) (stored_lines (begun ++ x ∷ []) text) ≡ (begun ++ take k (x ∷ text)) ∷ stored_lines [] (drop (k + 1) (x ∷ text))
  lines-first-more true k is at some ih = rw at (ap (λ l. l ∷ stored_lines [] text) (sym (append-nil begun)))
  lines-first-more false k is at some ih =
      let front : k ≡ suc (position_or_len is_line_feed text) = omega arith in
      let after_it : k + 1 ≡ suc (position_or_len is_line_feed text + 1) = omega arith in
      rw (after_it, front) (ih (begun ++ x ∷ []) (omega arith) ∙ ap (λ l. l ∷ stored_lines [] (drop (position_or_len is_line_feed text + 1) text)) (append_assoc begun (x ∷ []) (take (position_or_len is_line_feed text) text)))

  begun-first-more : (ends : Bool) (k : ℕ) → is_line_feed x ≡ ends → k ≡ cond (not ends) (1 + position_or_len is_line_feed text) 0 → k < length (x ∷ text)
      → ((b : List ℕ) → position_or_len is_line_feed text < length text → stored_begun b text ≡ stored_begun [] (drop (position_or_len is_line_feed text + 1) text))
      → cond ends (stored_begun [] text) (stored_begun (begun ++ x ∷ []) text) ≡ stored_begun [] (drop (k + 1) (x ∷ text))
  begun-first-more true k is at some ih = rw at refl
  begun-first-more false k is at some ih =
      let after_it : k + 1 ≡ suc (position_or_len is_line_feed text + 1) = omega arith in
      rw after_it (ih (begun ++ x ∷ []) (omega arith))

pub lines-first : (begun text : List ℕ) → position_or_len is_line_feed text < length text → stored_lines begun text ≡ (begun ++ take (position_or_len is_line_feed text) text) ∷ stored_lines [] (drop (position_or_len is_line_feed text + 1) text)
lines-first begun [] some = absurd (omega arith)
lines-first begun (x ∷ text) some = lines-first-more x begun text (is_line_feed x) (position_or_len is_line_feed (x ∷ text)) refl refl some (λ b. lines-first b text)

pub begun-first : (begun text : List ℕ) → position_or_len is_line_feed text < length text → stored_begun begun text ≡ stored_begun [] (drop (position_or_len is_line_feed text + 1) text)
begun-first begun [] some = absurd (omega arith)
begun-first begun (x ∷ text) some = begun-first-more x begun text (is_line_feed x) (position_or_len is_line_feed (x ∷ text)) refl refl some (λ b. begun-first b text)

has-feed-next : (begun text : List ℕ) (x : ℕ) (ends : Bool) → (0 < length (stored_lines (begun ++ x ∷ []) text) → position_or_len is_line_feed text < length text)
    → 0 < length (cond ends (begun ∷ stored_lines [] text) (stored_lines (begun ++ x ∷ []) text)) → cond (not ends) (1 + position_or_len is_line_feed text) 0 < length (x ∷ text)
has-feed-next begun text x true ih h = omega arith
has-feed-next begun text x false ih h = let i = ih h in omega arith

-- a line that waits has a line feed
pub line-has-feed : (begun text : List ℕ) → 0 < length (stored_lines begun text) → position_or_len is_line_feed text < length text
line-has-feed begun [] some = absurd (omega arith)
line-has-feed begun (x ∷ text) some = has-feed-next begun text x (is_line_feed x) (line-has-feed (begun ++ x ∷ []) text) some

-- a byte that is stored stands for itself in front of the following ones
pub feed-taken : (text rest : List ℕ) (b : ℕ) → is_line_feed b ≡ true → stored_lines [] (text ++ b ∷ []) ++ lines_after (stored_begun [] (text ++ b ∷ [])) rest ≡ stored_lines [] text ++ lines_after (stored_begun [] text) (b ∷ rest)
feed-taken text rest b h =
    rw (lines-feed [] text b h, begun-feed [] text b h, h) (append_assoc (stored_lines [] text) (stored_begun [] text ∷ []) (lines_after [] rest))

pub more-taken : (text rest : List ℕ) (b : ℕ) → is_line_feed b ≡ false → nat_lt (length (stored_begun [] text)) line_limit ≡ true → stored_lines [] (text ++ b ∷ []) ++ lines_after (stored_begun [] (text ++ b ∷ [])) rest ≡ stored_lines [] text ++ lines_after (stored_begun [] text) (b ∷ rest)
more-taken text rest b h short = rw (lines-more [] text b h, begun-more [] text b h, h, short) refl

pub feed-begun : (text rest : List ℕ) (b : ℕ) → is_line_feed b ≡ true → begun_after (stored_begun [] (text ++ b ∷ [])) rest ≡ begun_after (stored_begun [] text) (b ∷ rest)
feed-begun text rest b h = rw (begun-feed [] text b h, h) refl

pub more-begun : (text rest : List ℕ) (b : ℕ) → is_line_feed b ≡ false → nat_lt (length (stored_begun [] text)) line_limit ≡ true → begun_after (stored_begun [] (text ++ b ∷ [])) rest ≡ begun_after (stored_begun [] text) (b ∷ rest)
more-begun text rest b h short = rw (begun-more [] text b h, h, short) refl

-- the stored bytes with one more
pub one-more : (items more : List ℕ) (start b : ℕ) → more ≡ items ++ b ∷ [] → start ≤ length items → drop start more ≡ drop start items ++ b ∷ []
one-more items more start b is h = ap (drop start) is ∙ drop-append-le start items (b ∷ []) h

pub lines-count : (text : List ℕ) (b : ℕ) → is_line_feed b ≡ true → length (stored_lines [] (text ++ b ∷ [])) ≡ length (stored_lines [] text) + 1
lines-count text b h = ap length (lines-feed [] text b h) ∙ length-append (stored_lines [] text) (stored_begun [] text ∷ [])

pub begun-count : (text : List ℕ) (b : ℕ) → is_line_feed b ≡ false → length (stored_begun [] (text ++ b ∷ [])) ≡ length (stored_begun [] text) + 1
begun-count text b h = ap length (begun-more [] text b h) ∙ length-append (stored_begun [] text) (b ∷ [])

pub is-feed : (b : ℕ) → b ≡ 10 → is_line_feed b ≡ true
is-feed b h = ap is_line_feed h

pub no-feed : (b : ℕ) → b ≢ 10 → is_line_feed b ≡ false
no-feed b h = grind (arith, nat_tests)

pub short : (n : ℕ) → n < 4097 → nat_lt n line_limit ≡ true
short n h = grind (arith, nat_tests)

-- the size of the lines of a buffer
pub view-size : (text : List ℕ) → lines_size (stored_lines [] text) + length (stored_begun [] text) ≡ length text
view-size text = let whole = stored_size [] text in omega arith

-- no more lines than bytes
few-next : (begun text : List ℕ) (x : ℕ) (ends : Bool) → length (stored_lines [] text) ≤ length text → length (stored_lines (begun ++ x ∷ []) text) ≤ length text
    → length (cond ends (begun ∷ stored_lines [] text) (stored_lines (begun ++ x ∷ []) text)) ≤ length (x ∷ text)
few-next begun text x true p q = omega arith
few-next begun text x false p q = omega arith

pub few-lines : (begun text : List ℕ) → length (stored_lines begun text) ≤ length text
few-lines begun [] = omega arith
few-lines begun (x ∷ text) = few-next begun text x (is_line_feed x) (few-lines [] text) (few-lines (begun ++ x ∷ []) text)

-- where the first line feed is
position-some : (b : Bool) (n i : ℕ) → cond b (Some n) None ≡ Some i → (b ≡ true) × (i ≡ n)
position-some true n i h = (refl, cc)
position-some false n i h = absurd (cc)

pub feed-at : (text : List ℕ) (i : ℕ) → position is_line_feed text ≡ Some i → (position_or_len is_line_feed text < length text) × (i ≡ position_or_len is_line_feed text)
feed-at text i h =
    let parts = position-some (nat_lt (position_or_len is_line_feed text) (length text)) (position_or_len is_line_feed text) i h in
    (ltb-true (position_or_len is_line_feed text) (length text) parts.0, parts.1)

pub no-feed-at : (text : List ℕ) → position is_line_feed text ≡ None → position_or_len is_line_feed text < length text → ⊥
no-feed-at text h some =
    let found = cond-true (nat_lt (position_or_len is_line_feed text) (length text)) (Some (position_or_len is_line_feed text)) None (lt-ltb (position_or_len is_line_feed text) (length text) some) in
    let impossible : Some (position_or_len is_line_feed text) ≡ None = sym found ∙ h in
    cc
