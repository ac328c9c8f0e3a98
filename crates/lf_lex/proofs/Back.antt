-- Reading words back: from tokens with these bytes a reader gives this value, up to offsets and
-- lines, whatever follows.
use Rattle.std.proofs.Common.{◌≡◌, ℕ, suc, ◌<◌, Bool, true, false, cond, List, [], ◌∷◌, ◌++◌, map, length, Result, Ok, Err, refl, ap, sym, ◌∙◌, arith}
use Rattle.std.proofs.lemmas.List.{map-append}
use Rattle.lf_lex.specs.declared.fault.ReadFault.{ReadFault}
use Rattle.lf_lex.specs.Tokens.{Lexed, Lexeme, PlainToken, plain, with_tokens}
use Rattle.lf_lex.specs.Splices.{plain_word}
use Rattle.lf_lex.specs.Reading.{◌>>=◌, Reader, ReadValue, Turn, Statement, taken, turn, token, block}
use Rattle.lf_lex.proofs.Runs.{Again, TurnsAgain, turn_bare, left, nil_plain, plain_head, takes_both, length_both, last_takes, more_takes}

abbrev pub BackAt : {A B : Type 0} → (A → B) → Reader A → List PlainToken → A → Type 0
BackAt bare reader ps x = (p : List Lexeme) → map plain p ≡ ps → Again bare reader p x

-- The same from words.
abbrev pub Back : {A B : Type 0} → (A → B) → Reader A → List (List ℕ) → A → Type 0
Back bare reader ws x = BackAt bare reader (map plain_word ws) x

pub back_pure : {A B : Type 0} (bare : A → B) (x x' : A) → bare x' ≡ bare x → Back bare (λ l. taken x' l) [] x
back_pure bare x x' e p q = record { value = x'; alike = e; takes = λ l. ap (λ (z : List Lexeme). taken x' (with_tokens z l)) (nil_plain p q) }

-- A token with these bytes, at an arbitrary place.
abbrev pub token_of : PlainToken → Lexeme
token_of u = record { text = u.text; kind = u.kind; start = 0; stop = 0; line = 0 }

-- A token with the bytes of a word.
abbrev pub token_with : List ℕ → Lexeme
token_with w = token_of (plain_word w)

pub at_token : (u : PlainToken) → BackAt plain token (u ∷ []) (token_of u)
at_token u [] e = absurd cc
at_token u (t ∷ p) e =
    let h = plain_head (plain t) u (map plain p) [] e in
    record { value = t; alike = h.0; takes = λ l. ap (λ (z : List Lexeme). token (with_tokens (t ∷ z) l)) (nil_plain p h.1) }

pub back_token : (w : List ℕ) → Back plain token (w ∷ []) (token_with w)
back_token w = at_token (plain_word w)

-- Tokens with the bytes of two runs of words are two runs.
pub record Halves (p : List Lexeme) (us vs : List PlainToken) : Type 0 where
  pub front : List Lexeme
  pub back : List Lexeme
  pub whole : p ≡ front ++ back
  pub front_is : map plain front ≡ us
  pub back_is : map plain back ≡ vs

pub halves : (p : List Lexeme) (us vs : List PlainToken) → map plain p ≡ us ++ vs → Halves p us vs
halves p [] vs e = record { front = []; back = p; whole = refl; front_is = refl; back_is = e }
halves [] (u ∷ us) vs e = absurd cc
halves (t ∷ p) (u ∷ us) vs e =
    let h = plain_head (plain t) u (map plain p) (us ++ vs) e in
    let r = halves p us vs h.1 in
    record {
      front = t ∷ r.front;
      back = r.back;
      whole = ap (λ (z : List Lexeme). t ∷ z) r.whole;
      front_is = ap (λ (z : PlainToken). z ∷ map plain r.front) h.0
          ∙ ap (λ (z : List PlainToken). u ∷ z) r.front_is;
      back_is = r.back_is;
    }

pub at_bind : {A B C D : Type 0} (bareA : A → C) (bareB : B → D) (r : Reader A) (k : ReadValue A → Result (ReadValue B) ReadFault) (us vs : List PlainToken) (x : A) (y : B)
    → BackAt bareA r us x → ((x' : A) → bareA x' ≡ bareA x → BackAt bareB (λ l. k (left x' l)) vs y) → BackAt bareB (λ l. r l >>= k) (us ++ vs) y
at_bind bareA bareB r k us vs x y f next p e =
    let s = halves p us vs e in
    let a = f s.front s.front_is in
    let b = next a.value a.alike s.back s.back_is in
    record {
      value = b.value;
      alike = b.alike;
      takes = λ l. takes_both r k p s.front s.back l a.value b.value s.whole (a.takes (with_tokens s.back l))
          (b.takes l);
    }

pub back_bind : {A B C D : Type 0} (bareA : A → C) (bareB : B → D) (r : Reader A) (k : ReadValue A → Result (ReadValue B) ReadFault) (ws vs : List (List ℕ)) (x : A)
    (y : B)
    → Back bareA r ws x → ((x' : A) → bareA x' ≡ bareA x → Back bareB (λ l. k (left x' l)) vs y) → Back bareB (λ l. r l >>= k) (ws ++ vs) y
back_bind bareA bareB r k ws vs x y f next p e = at_bind bareA bareB r k (map plain_word ws) (map plain_word vs) x y f next p (e ∙ map-append plain_word ws vs)

-- The image of a value that is read.
pub at_map : {A B C D : Type 0} (bareA : A → C) (bareB : B → D) (r : Reader A) (f : A → B) (ps : List PlainToken) (x : A) (y : B)
    → BackAt bareA r ps x → ((x' : A) → bareA x' ≡ bareA x → bareB (f x') ≡ bareB y) → BackAt bareB (λ l. r l >>= λ z. taken (f z.value) z.rest) ps y
at_map bareA bareB r f ps x y g alike p e = let a = g p e in record { value = f a.value; alike = alike a.value a.alike; takes = λ l. rw (a.takes l) refl }

-- A reader that is the same one.
pub at_same : {A B : Type 0} (bare : A → B) (r r' : Reader A) (ps : List PlainToken) (x : A) → ((l : Lexed) → r l ≡ r' l) → BackAt bare r' ps x → BackAt bare r ps x
at_same bare r r' ps x h f p e = let a = f p e in record { value = a.value; alike = a.alike; takes = λ l. h (with_tokens p l) ∙ a.takes l }

pub at_first : {B D : Type 0} (bareB : B → D) (k : ReadValue Lexeme → Result (ReadValue B) ReadFault) (u : PlainToken) (vs : List PlainToken) (y : B)
    → ((t : Lexeme) → plain t ≡ u → BackAt bareB (λ l. k (left t l)) vs y) → BackAt bareB (λ l. token l >>= k) (u ∷ vs) y
at_first bareB k u vs y next [] e = absurd cc
at_first bareB k u vs y next (t ∷ p) e =
    let h = plain_head (plain t) u (map plain p) vs e in
    let b = next t h.0 p h.1 in
    record { value = b.value; alike = b.alike; takes = λ l. b.takes l }

-- A first token, and what is read after it.
pub back_first : {B D : Type 0} (bareB : B → D) (k : ReadValue Lexeme → Result (ReadValue B) ReadFault) (w : List ℕ) (vs : List (List ℕ)) (y : B)
    → ((t : Lexeme) → plain t ≡ plain_word w → Back bareB (λ l. k (left t l)) vs y) → Back bareB (λ l. token l >>= k) (w ∷ vs) y
back_first bareB k w vs y next = back_bind plain bareB token k (w ∷ []) vs (token_with w) y (back_token w) next

pub at_yes : {A B : Type 0} (bare : A → B) (c : Bool) (r s : Reader A) (ps : List PlainToken) (x : A) → c ≡ true → BackAt bare r ps x
    → BackAt bare (λ l. cond c (r l) (s l)) ps x
at_yes bare true r s ps x e f = f
at_yes bare false r s ps x e f = absurd cc

pub at_no : {A B : Type 0} (bare : A → B) (c : Bool) (r s : Reader A) (ps : List PlainToken) (x : A) → c ≡ false → BackAt bare s ps x
    → BackAt bare (λ l. cond c (r l) (s l)) ps x
at_no bare true r s ps x e f = absurd cc
at_no bare false r s ps x e f = f

pub back_yes : {A B : Type 0} (bare : A → B) (c : Bool) (r s : Reader A) (ws : List (List ℕ)) (x : A) → c ≡ true → Back bare r ws x
    → Back bare (λ l. cond c (r l) (s l)) ws x
back_yes bare c r s ws x e f = at_yes bare c r s (map plain_word ws) x e f

pub back_no : {A B : Type 0} (bare : A → B) (c : Bool) (r s : Reader A) (ws : List (List ℕ)) (x : A) → c ≡ false → Back bare s ws x
    → Back bare (λ l. cond c (r l) (s l)) ws x
back_no bare c r s ws x e f = at_no bare c r s (map plain_word ws) x e f

pub at_given : {A B D : Type 0} (bare : B → D) (o : Result A ReadFault) (k : A → Reader B) (v : A) (ps : List PlainToken) (x : B)
    → o ≡ Ok v → BackAt bare (k v) ps x → BackAt bare (λ l. o >>= λ v. k v l) ps x
at_given bare (Err q) k v ps x e f = absurd cc
at_given {A = A} bare (Ok u) k v ps x e f = let h : v ≡ u = same_ok e in rw h at f
  where
    same_ok : ◌≡◌ {A = Result A ReadFault} (Ok u) (Ok v) → v ≡ u
    same_ok g = cc

pub back_given : {A B D : Type 0} (bare : B → D) (o : Result A ReadFault) (k : A → Reader B) (v : A) (ws : List (List ℕ)) (x : B)
    → o ≡ Ok v → Back bare (k v) ws x → Back bare (λ l. o >>= λ v. k v l) ws x
back_given bare o k v ws x e f = at_given bare o k v (map plain_word ws) x e f

-- A reader that begins with a token of these bytes continues with the reader of what follows.
pub at_known : {B D : Type 0} (bareB : B → D) (f : Lexeme → Reader B) (r : Reader B) (u : PlainToken) (vs : List PlainToken) (y : B)
    → ((t : Lexeme) (l : Lexed) → f (record t { text = u.text; kind = u.kind }) l ≡ r l) → BackAt bareB r vs y
    → BackAt bareB (λ l. token l >>= λ t. f t.value t.rest) (u ∷ vs) y
at_known bareB f r u vs y is_read back =
    at_first bareB (λ t. f t.value t.rest) u vs y (λ t e.
    at_same bareB (f t) r vs y (λ l. ap (λ (p : PlainToken). f (record t { text = p.text; kind = p.kind }) l) e ∙ is_read t l) back)

-- Blocks of statements.

abbrev pub TurnsAt : {S D : Type 0} → (S → D) → Statement S → S → List PlainToken → S → Type 0
TurnsAt bare statement s ps y = (p : List Lexeme) → map plain p ≡ ps → TurnsAgain bare statement s p y

abbrev pub TurnsBack : {S D : Type 0} → (S → D) → Statement S → S → List (List ℕ) → S → Type 0
TurnsBack bare statement s ws y = TurnsAt bare statement s (map plain_word ws) y

pub at_last : {S D : Type 0} (bare : S → D) (statement : Statement S) (s y : S) (ps : List PlainToken) → BackAt (turn_bare bare) (statement s) ps (turn y false)
    → TurnsAt bare statement s ps y
at_last bare statement s y ps f p e =
    let a = f p e in
    record {
      value = a.value.state;
      alike = ap (λ (z : Turn _). z.state) a.alike;
      takes =
          λ n lt l. last_takes statement s p a.value n l lt (a.takes l) (ap (λ (z : Turn _). z.more) a.alike);
    }

front_some : (front : List Lexeme) (us : List PlainToken) → map plain front ≡ us → 0 < length us → 0 < length front
front_some [] us e h = rw (sym e) at h
front_some (t ∷ front) us e h = omega arith

pub at_more : {S D : Type 0} (bare : S → D) (statement : Statement S) (s s1 y : S) (us vs : List PlainToken) → 0 < length us
    → BackAt (turn_bare bare) (statement s) us (turn s1 true)
    → ((s1' : S) → bare s1' ≡ bare s1 → TurnsAt bare statement s1' vs y) → TurnsAt bare statement s (us ++ vs) y
at_more bare statement s s1 y us vs some f next p e =
    let c = halves p us vs e in
    let a = f c.front c.front_is in
    let b = next a.value.state (ap (λ (z : Turn _). z.state) a.alike) c.back c.back_is in
    record {
      value = b.value;
      alike = b.alike;
      takes = λ n lt l. more_takes statement s b.value p c.front c.back a.value n l c.whole (front_some c.front us c.front_is some) lt
          (a.takes (with_tokens c.back l)) (ap (λ (z : Turn _). z.more) a.alike) (λ j h. b.takes j h l);
    }

pub at_block : {S D : Type 0} (bare : S → D) (statement : Statement S) (s y : S) (ps : List PlainToken) → TurnsAt bare statement s ps y
    → BackAt bare (block statement s) ps y
at_block bare statement s y ps f p e =
    let t = f p e in
    record { value = t.value; alike = t.alike; takes = λ l. t.takes (suc (length (p ++ l.tokens))) (omega (arith, length_both p l.tokens)) l }

pub turns_last : {S D : Type 0} (bare : S → D) (statement : Statement S) (s y : S) (ws : List (List ℕ)) → Back (turn_bare bare) (statement s) ws (turn y false)
    → TurnsBack bare statement s ws y
turns_last bare statement s y ws f = at_last bare statement s y (map plain_word ws) f

pub turns_more : {S D : Type 0} (bare : S → D) (statement : Statement S) (s s1 y : S) (w : List ℕ) (ws vs : List (List ℕ))
    → Back (turn_bare bare) (statement s) (w ∷ ws) (turn s1 true)
    → ((s1' : S) → bare s1' ≡ bare s1 → TurnsBack bare statement s1' vs y) → TurnsBack bare statement s (w ∷ (ws ++ vs)) y
turns_more bare statement s s1 y w ws vs f next p e = at_more bare statement s s1 y (map plain_word (w ∷ ws)) (map plain_word vs) (omega arith) f next p
    (e ∙ map-append plain_word (w ∷ ws) vs)

pub block_back : {S D : Type 0} (bare : S → D) (statement : Statement S) (s y : S) (ws : List (List ℕ)) → TurnsBack bare statement s ws y
    → Back bare (block statement s) ws y
block_back bare statement s y ws f = at_block bare statement s y (map plain_word ws) f
