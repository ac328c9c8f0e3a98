-- Printed lengths, points and words are read back, and skipping ends at the semicolon.
use Rattle.std.proofs.Common.{◌≡◌, ◌≢◌, ℕ, ◌^◌, ◌<◌, Bool, true, false, cond, List, [], ◌∷◌, ◌++◌, All, map, length, ℤ, Result, Ok, Err, refl, sym, ap, ◌∙◌}
use Rattle.std.proofs.Common.{arith}
use Rattle.std.specs.Prelude.{codes}
use Rattle.std.specs.Str.{bytes_eq}
use Rattle.lf_units.specs.declared.number.NumberFault.{NumberFault}
use Rattle.lf_units.specs.declared.number.NumberFault.TheVariants.{NotANumber}
use Rattle.lf_units.specs.Number.{fixed_of}
use Rattle.lf_units.proofs.Same.{same_point}
use Rattle.lf_orient.specs.declared.Symmetry.{Symmetry}
use Rattle.lf_lex.specs.declared.tokens.TokenKind.TheVariants.{Word}
use Rattle.lf_lex.specs.declared.fault.FaultNumber.TheVariants.{Unexpected}
use Rattle.lf_lex.specs.Tokens.{Lexed, Lexeme, PlainToken, plain}
use Rattle.lf_lex.specs.Splices.{plain_word}
use Rattle.lf_lex.specs.Reading.{◌>>=◌, Reader, Turn, turn, continues, finishes, fault_at, token, is, keyword, word, to_semicolon, or_bad_number}
use Rattle.lf_lex.proofs.Runs.{same}
use Rattle.lf_lex.proofs.Back.{BackAt, TurnsAt, token_with, back_pure, at_bind, at_map, at_first, at_yes, at_no, at_given, at_known, at_last, at_more, at_block}
use Rattle.lf_lex.proofs.BackWords.{text_is, is_of, not_eq, later, not_first, keyword_back, word_back, to_semicolon_at}
use Rattle.lf_lef.specs.Lengths.{micros_of, micros, point_from, lef_point, size, origin}
use Rattle.lf_lef.specs.Sites.{one_word, symmetry_word, no_symmetry, symmetry}
use Rattle.lf_lef.specs.Printed.{Writes, with_semicolon, IsSkippedToSemicolon}
use Rattle.lf_lef.specs.PrintedMacros.{PrintedLength, IsPrintedLength, PrintedPoint, IsPrintedPoint, point_words, printed_point, SymmetryWord, about_x, about_y}
use Rattle.lf_lef.specs.PrintedMacros.{turned, symmetry_tokens, with_symmetries}
use Rattle.lf_lef.proofs.Following.{point_at}

no_value : (x : ℤ) → ◌≡◌ {A = Result ℤ NumberFault} (Ok x) (Err NotANumber) → ⊥
no_value x e = cc

-- A word that denotes a length differs from a word that denotes no number.
pub not_word : (w a : List ℕ) (x : ℤ) → fixed_of w 6 (10 ^ 12) ≡ Err NotANumber → Writes a x → a ≢ w
not_word w a x e h same = no_value x (sym h ∙ ap (λ (z : List ℕ). fixed_of z 6 (10 ^ 12)) same ∙ e)

-- Lengths and points.

micros_of_at : (n : PrintedLength) → IsPrintedLength n → (t : Lexeme) → plain t ≡ plain_word n.word → micros_of t ≡ Ok n.length
micros_of_at n h t e =
    ap (λ (w : List ℕ). or_bad_number (fixed_of w 6 (10 ^ 12)) t.line) (text_is n.word t e) ∙ ap (λ (r : Result ℤ NumberFault). or_bad_number r t.line) h

pub micros_at : (n : PrintedLength) → IsPrintedLength n → BackAt same micros (plain_word n.word ∷ []) n.length
unfolding micros
micros_at n h =
    at_first same _ (plain_word n.word) [] n.length (λ t e. at_given same (micros_of t) _ n.length [] n.length (micros_of_at n h t e)
    (back_pure same n.length n.length refl))

-- A word that denotes a length is no keyword.
pub no_keyword : (n : PrintedLength) → IsPrintedLength n → (w : List ℕ) → fixed_of w 6 (10 ^ 12) ≡ Err NotANumber → bytes_eq n.word w ≡ false
no_keyword n h w e = not_eq n.word w (not_word w n.word n.length e h)

abbrev pub point_with : PrintedLength → PrintedLength → Bool → PrintedPoint
point_with x y b = record { x = x; y = y; in_parentheses = b }

abbrev pub first_word : PrintedLength → Bool → List ℕ
first_word x true = codes "("
first_word x false = x.word

abbrev pub rest_words : PrintedLength → PrintedLength → Bool → List (List ℕ)
rest_words x y true = x.word ∷ y.word ∷ codes ")" ∷ []
rest_words x y false = y.word ∷ []

pub point_from_back : (x y : PrintedLength) (b : Bool) → IsPrintedLength x → IsPrintedLength y → (t : Lexeme) → plain t ≡ plain_word (first_word x b)
    → BackAt same (point_from t) (map plain_word (rest_words x y b)) (point_at x.length y.length)
unfolding point_from
point_from_back x y true hx hy t e =
    let v = point_at x.length y.length in
    at_yes same (is (codes "(") t) _ _ (map plain_word (rest_words x y true)) v (is_of (codes "(") (plain_word (codes "(")) t e)
    (at_bind same same micros _ (plain_word x.word ∷ []) (plain_word y.word ∷ plain_word (codes ")") ∷ []) x.length v (micros_at x hx) (λ a ea.
    at_bind same same micros _ (plain_word y.word ∷ []) (plain_word (codes ")") ∷ []) y.length v (micros_at y hy) (λ b eb.
    at_bind same same (keyword (codes ")")) _ (plain_word (codes ")") ∷ []) [] tt v (keyword_back (codes ")") refl) (λ s es.
    back_pure same v (point_at a b) (same_point (point_at a b) (point_at x.length y.length) ea eb)))))
point_from_back x y false hx hy t e =
    let v = point_at x.length y.length in
    at_no same (is (codes "(") t) _ _ (map plain_word (rest_words x y false)) v (is_of (codes "(") (plain_word x.word) t e ∙ no_keyword x hx (codes "(") refl)
    (at_given same (micros_of t) _ x.length (plain_word y.word ∷ []) v (micros_of_at x hx t e)
    (at_bind same same micros _ (plain_word y.word ∷ []) [] y.length v (micros_at y hy)
    (λ b eb. back_pure same v (point_at x.length b) (same_point (point_at x.length b) (point_at x.length y.length) refl eb))))

point_by : (x y : PrintedLength) (b : Bool) → IsPrintedLength x → IsPrintedLength y
    → BackAt same lef_point (map plain_word (point_words (point_with x y b))) (point_at x.length y.length)
unfolding lef_point
point_by x y true hx hy = at_first same _ (plain_word (codes "(")) (map plain_word (rest_words x y true)) (point_at x.length y.length)
    (λ t e. point_from_back x y true hx hy t e)
point_by x y false hx hy = at_first same _ (plain_word x.word) (map plain_word (rest_words x y false)) (point_at x.length y.length)
    (λ t e. point_from_back x y false hx hy t e)

pub point_back : (p : PrintedPoint) → IsPrintedPoint p → BackAt same lef_point (map plain_word (point_words p)) (printed_point p)
point_back p h = point_by p.x p.y p.in_parentheses h.x h.y

pub size_back : (w h : PrintedLength) → IsPrintedLength w → IsPrintedLength h
    → BackAt same size (plain_word w.word ∷ plain_word (codes "BY") ∷ plain_word h.word ∷ plain_word (codes ";") ∷ []) (point_at w.length h.length)
unfolding size
size_back w h hw hh =
    let v = point_at w.length h.length in
    at_bind same same micros _ (plain_word w.word ∷ []) (plain_word (codes "BY") ∷ plain_word h.word ∷ plain_word (codes ";") ∷ []) w.length v (micros_at w hw) (λ a ea.
    at_bind same same (keyword (codes "BY")) _ (plain_word (codes "BY") ∷ []) (plain_word h.word ∷ plain_word (codes ";") ∷ []) tt v (keyword_back (codes "BY") refl)
    (λ s es.
    at_bind same same micros _ (plain_word h.word ∷ []) (plain_word (codes ";") ∷ []) h.length v (micros_at h hh) (λ b eb.
    at_bind same same (keyword (codes ";")) _ (plain_word (codes ";") ∷ []) [] tt v (keyword_back (codes ";") refl) (λ u eu.
    back_pure same v (point_at a b) (same_point (point_at a b) (point_at w.length h.length) ea eb)))))

pub origin_back : (p : PrintedPoint) → IsPrintedPoint p → BackAt same origin (map plain_word (point_words p) ++ plain_word (codes ";") ∷ []) (printed_point p)
unfolding origin
origin_back p h =
    at_bind same same lef_point _ (map plain_word (point_words p)) (plain_word (codes ";") ∷ []) (printed_point p) (printed_point p) (point_back p h) (λ q eq.
    at_bind same same (keyword (codes ";")) _ (plain_word (codes ";") ∷ []) [] tt (printed_point p) (keyword_back (codes ";") refl)
    (λ u eu. back_pure same (printed_point p) q eq))

pub one_word_back : (w : List ℕ) → w ≢ codes ";" → BackAt same one_word (plain_word w ∷ plain_word (codes ";") ∷ []) w
unfolding one_word
one_word_back w h =
    at_bind plain same word _ (plain_word w ∷ []) (plain_word (codes ";") ∷ []) (token_with w) w (word_back w h) (λ t e.
    at_bind same same (keyword (codes ";")) _ (plain_word (codes ";") ∷ []) [] tt w (keyword_back (codes ";") refl)
    (λ u eu. back_pure same w t.text (text_is w t e)))

abbrev symmetry_from : Symmetry → Lexeme → Reader (Turn Symmetry)
symmetry_from s t l =
    cond (is (codes ";") t) (finishes s l) (cond (is (codes "X") t) (continues (record s { x = true }) l) (cond (is (codes "Y") t) (continues (record s { y = true }) l)
    (cond (is (codes "R90") t) (continues s l) (fault_at Unexpected t.line))))

-- One more word of SYMMETRY.
word_turns : (s s1 y : Symmetry) (u : PlainToken) (rest : List PlainToken)
    → ((t : Lexeme) (l : Lexed) → symmetry_from s (record t { text = u.text; kind = u.kind }) l ≡ continues s1 l)
    → TurnsAt same symmetry_word s1 rest y → TurnsAt same symmetry_word s (u ∷ rest) y
unfolding symmetry_word
word_turns s s1 y u rest is_read next =
    at_more same symmetry_word s s1 y (u ∷ []) rest (omega arith)
    (at_known same (symmetry_from s) (λ l. continues s1 l) u [] (turn s1 true) is_read (back_pure same (turn s1 true) (turn s1 true) refl)) (λ s' e. rw e next)

stop_turns : (s : Symmetry) → TurnsAt same symmetry_word s (plain_word (codes ";") ∷ []) s
unfolding symmetry_word
stop_turns s =
    at_last same symmetry_word s s (plain_word (codes ";") ∷ [])
    (at_known same (symmetry_from s) (λ l. finishes s l) (plain_word (codes ";")) [] (turn s false) (λ t l. refl) (back_pure same (turn s false) (turn s false) refl))

words_turns : (ws : List SymmetryWord) (s : Symmetry) → TurnsAt same symmetry_word s (symmetry_tokens ws) (with_symmetries s ws)
words_turns [] s = stop_turns s
words_turns (about_x ∷ ws) s =
    let s1 : Symmetry = record s { x = true } in
    word_turns s s1 (with_symmetries s1 ws) (plain_word (codes "X")) (symmetry_tokens ws) (λ t l. refl) (words_turns ws s1)
words_turns (about_y ∷ ws) s =
    let s1 : Symmetry = record s { y = true } in
    word_turns s s1 (with_symmetries s1 ws) (plain_word (codes "Y")) (symmetry_tokens ws) (λ t l. refl) (words_turns ws s1)
words_turns (turned ∷ ws) s = word_turns s s (with_symmetries s ws) (plain_word (codes "R90")) (symmetry_tokens ws) (λ t l. refl) (words_turns ws s)

pub symmetries_back : (ws : List SymmetryWord) → BackAt same symmetry (symmetry_tokens ws) (with_symmetries no_symmetry ws)
symmetries_back ws = at_block same symmetry_word no_symmetry (with_symmetries no_symmetry ws) (symmetry_tokens ws) (words_turns ws no_symmetry)

-- Statements that are skipped.

-- A skipped statement: a semicolon alone, or one that begins with no other statement's keyword.
pub passed_back : {S : Type 0} (from : Lexeme → Reader (Turn S)) (s : S) (others : List (List ℕ)) (ts : List PlainToken) → IsSkippedToSemicolon others ts
    → ((t : Lexeme) (l : Lexed) → from (record t { text = codes ";"; kind = Word }) l ≡ continues s l)
    → ((u : PlainToken) → All (λ w. u.text ≢ w) others → u.text ≢ codes ";" → (t : Lexeme) (l : Lexed)
    → from (record t { text = u.text; kind = u.kind }) l ≡ (to_semicolon l >>= λ stop. continues s stop.rest))
    → BackAt same (λ l. token l >>= λ t. from t.value t.rest) (with_semicolon ts) (turn s true)
passed_back from s others [] h empty other =
    at_known same from (λ l. continues s l) (plain_word (codes ";")) [] (turn s true) empty (back_pure same (turn s true) (turn s true) refl)
passed_back from s others (u ∷ us) h empty other =
    at_known same from (λ l. to_semicolon l >>= λ stop. continues s stop.rest) u (with_semicolon us) (turn s true)
    (other u h.0 (not_first (codes ";") u us h.1))
    (at_map same same to_semicolon (λ (z : Unit {0}). turn s true) (with_semicolon us) tt (turn s true) (to_semicolon_at us (later (codes ";" ∷ []) u us h.1))
    (λ x e. refl))

pub some_passed : (ts : List PlainToken) → 0 < length (with_semicolon ts)
some_passed [] = omega arith
some_passed (t ∷ ts) = omega arith
