-- The two names of a component are at the ends of one piece of its text.
use Rattle.std.proofs.Common.{◌≡◌, ℕ, ◌+◌, ◌-◌, ◌≤◌, ◌<◌, Bool, true, false, cond, List, [], ◌∷◌, length, take, drop, Result, Ok, Err, sym, ap, ◌∙◌, arith, min}
use Rattle.std.proofs.lemmas.List.{drop-take, drop-drop, length-take, length-drop}
use Rattle.lf_lex.specs.declared.fault.ReadFault.{ReadFault}
use Rattle.lf_lex.specs.Tokens.{Lexed, Lexeme, AreSlices, AreWithin, with_token}
use Rattle.lf_lex.specs.Reading.{taken, word, name}
use Rattle.lf_lex.proofs.Runs.{ok_is}
use Rattle.lf_def.proofs.Clauses.{bind_ok, token_ok, if_ok}

-- Pieces of a text.

-- The bytes from the first byte of one token to the last byte of another.
abbrev pub piece : List ℕ → Lexeme → Lexeme → List ℕ
piece text t u = take (u.stop - t.start) (drop t.start text)

token_len : (text : List ℕ) (t : Lexeme) → t.start < t.stop → t.text ≡ take (t.stop - t.start) (drop t.start text) → t.stop ≤ length text → length t.text ≡ t.stop - t.start
token_len text t lt is le =
    let len : length t.text ≡ min (t.stop - t.start) (length (drop t.start text)) = ap (λ (z : List ℕ). length z) is ∙ length-take (t.stop - t.start) (drop t.start text) in
    omega (arith, len, length-drop t.start text, lt, le)

piece_len : (text : List ℕ) (t u : Lexeme) → AreSlices text 0 (t ∷ u ∷ []) → AreWithin text (t ∷ u ∷ []) → length (piece text t u) ≡ u.stop - t.start
piece_len text t u s w =
    let len : length (piece text t u) ≡ min (u.stop - t.start) (length (drop t.start text)) = length-take (u.stop - t.start) (drop t.start text) in
    omega (arith, len, length-drop t.start text, s.1, s.3.0, s.3.1, w.1.0)

pub last_is : (text : List ℕ) (t u : Lexeme) → AreSlices text 0 (t ∷ u ∷ []) → AreWithin text (t ∷ u ∷ [])
    → drop (length (piece text t u) - length u.text) (piece text t u) ≡ u.text
last_is text t u s w =
    let before = u.start - t.start in
    let len = u.stop - u.start in
    let from : length (piece text t u) - length u.text ≡ before = omega (arith, piece_len text t u s w, token_len text u s.3.1 s.3.2 w.1.0, s.1, s.3.0, s.3.1) in
    let whole : u.stop - t.start ≡ before + len = omega (arith, s.1, s.3.0, s.3.1) in
    let start : t.start + before ≡ u.start = omega (arith, s.1, s.3.0) in
    ap (λ (n : ℕ). drop n (piece text t u)) from ∙ ap (λ (n : ℕ). drop before (take n (drop t.start text))) whole ∙ drop-take before len (drop t.start text)
    ∙ ap (λ (z : List ℕ). take len z) (drop-drop before t.start text) ∙ ap (λ (n : ℕ). take len (drop n text)) start ∙ sym s.3.2

-- Names that are read in order.

word_ok : (l m : Lexed) (t : Lexeme) → word l ≡ taken t m → l ≡ with_token t m
unfolding word
word_ok l m t e =
    let a = token_ok l _ _ e in
    let b = if_ok _ _ _ _ a.3 in
    let c = ok_is a.0 a.1 t m b.1 in
    a.2 ∙ ap (λ (z : Lexeme). with_token z a.1) c.0 ∙ ap (λ (z : Lexed). with_token t z) c.1

unless_ok : {B : Type 0} (c : Bool) (q : ReadFault) (x : Result B ReadFault) (y : B) → cond c (Err q) x ≡ Ok y → x ≡ Ok y
unless_ok true q x y e = absurd cc
unless_ok false q x y e = e

name_ok : (l m : Lexed) (t : Lexeme) → name l ≡ taken t m → l ≡ with_token t m
unfolding name
name_ok l m t e =
    let a = bind_ok (word l) _ _ e in
    let c = ok_is a.0.value a.0.rest t m (unless_ok _ _ _ _ a.2) in
    word_ok l a.0.rest a.0.value a.1 ∙ ap (λ (z : Lexeme). with_token z a.0.rest) c.0 ∙ ap (λ (z : Lexed). with_token t z) c.1

both_names : (l n m : Lexed) (t u : Lexeme) → name l ≡ taken t n → name n ≡ taken u m → l.tokens ≡ t ∷ u ∷ m.tokens
both_names l n m t u e f = ap (λ (z : Lexed). z.tokens) (name_ok l n t e ∙ ap (λ (z : Lexed). with_token t z) (name_ok n m u f))

pub names_slices : (text : List ℕ) (l n m : Lexed) (t u : Lexeme) → name l ≡ taken t n → name n ≡ taken u m → AreSlices text 0 l.tokens → AreSlices text 0 (t ∷ u ∷ [])
names_slices text l n m t u e f s = let h = rw (both_names l n m t u e f) at s in (h.0, h.1, h.2, (h.3.0, h.3.1, h.3.2, tt))

pub names_within : (text : List ℕ) (l n m : Lexed) (t u : Lexeme) → name l ≡ taken t n → name n ≡ taken u m → AreWithin text l.tokens → AreWithin text (t ∷ u ∷ [])
names_within text l n m t u e f w = let h = rw (both_names l n m t u e f) at w in (h.0, (h.1.0, tt))
