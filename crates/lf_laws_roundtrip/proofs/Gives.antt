-- The values that a reader gives if the tokens are spelled as in a text: values with some property,
-- followed by tokens that are spelled.
use Rattle.std.proofs.Common.{◌≡◌, ℕ, zero, suc, Bool, true, false, cond, List, [], ◌∷◌, ◌++◌, length, Result, Ok, Err, refl, subst}
use Rattle.std.specs.Prelude.{All}
use Rattle.std.proofs.lemmas.List.Elements.{All-head, All-tail}
use Rattle.lf_lex.specs.declared.fault.ReadFault.{ReadFault}
use Rattle.lf_lex.specs.Tokens.{Lexed, Lexeme}
use Rattle.lf_lex.specs.Reading.{◌>>=◌, Reader, ReadValue, Turn, Statement, taken, turn, token, first_token, lexed_after, statements, block}
use Rattle.lf_lex.proofs.Runs.{left, ok_is}
use Rattle.lf_def.proofs.Local.{Local}
use Rattle.lf_laws_roundtrip.proofs.ReadTokens.{IsSpelledToken}

abbrev pub AreSpelled : Lexed → Type 0
AreSpelled l = All IsSpelledToken l.tokens

abbrev pub Gives : {A : Type 0} → (A → Type 0) → Reader A → Type 0
Gives P reader = (l m : Lexed) (x : _) → AreSpelled l → reader l ≡ taken x m → P x × AreSpelled m

abbrev pub Anything : {A : Type 0} → A → Type 0
Anything x = Unit {0}

all_after : (xs ys : List Lexeme) → All IsSpelledToken (xs ++ ys) → All IsSpelledToken ys
all_after [] ys h = h
all_after (x ∷ xs) ys h = all_after xs ys (All-tail IsSpelledToken x (xs ++ ys) h)

pub gives_local : {A : Type 0} (reader : Reader A) → Local reader → Gives Anything reader
gives_local reader f l m x spelled e =
    let r = f l m x e in
    (tt, all_after r.run m.tokens (subst AreSpelled r.whole spelled))

pub gives_pure : {A : Type 0} (P : A → Type 0) (x : A) → P x → Gives P (λ l. taken x l)
gives_pure P x h l m y spelled e = let r = ok_is x l y m e in (subst P r.0 h, subst AreSpelled r.1 spelled)

pub gives_fault : {A : Type 0} (P : A → Type 0) (f : ReadFault) → Gives P (λ l. Err f)
gives_fault P f l m x spelled e = absurd cc

pub gives_choose : {A : Type 0} (P : A → Type 0) (c : Bool) (r s : Reader A) → (c ≡ true → Gives P r) → (c ≡ false → Gives P s)
    → Gives P (λ l. cond c (r l) (s l))
gives_choose P true r s f g = f refl
gives_choose P false r s f g = g refl

pub gives_given : {A B : Type 0} (P : B → Type 0) (o : Result A ReadFault) (k : A → Reader B) → ((v : A) → o ≡ Ok v → Gives P (k v))
    → Gives P (λ l. o >>= λ v. k v l)
gives_given P (Err q) k next l m x spelled e = absurd cc
gives_given P (Ok v) k next l m x spelled e = next v refl l m x spelled e

bind_by : {A B : Type 0} (P : A → Type 0) (Q : B → Type 0) (r : Reader A) (k : ReadValue A → Result (ReadValue B) ReadFault) → Gives P r
    → ((x : A) → P x → Gives Q (λ l. k (left x l))) → (l m : Lexed) (y : B) → AreSpelled l → (o : Result (ReadValue A) ReadFault) → r l ≡ o → (o >>= k) ≡ taken y m
    → Q y × AreSpelled m
bind_by P Q r k f next l m y spelled (Err q) h e = absurd cc
bind_by P Q r k f next l m y spelled (Ok t) h e = let a = f l t.rest t.value spelled h in next t.value a.0 t.rest m y a.1 e

pub gives_bind : {A B : Type 0} (P : A → Type 0) (Q : B → Type 0) (r : Reader A) (k : ReadValue A → Result (ReadValue B) ReadFault) → Gives P r
    → ((x : A) → P x → Gives Q (λ l. k (left x l))) → Gives Q (λ l. r l >>= k)
gives_bind P Q r k f next l m y spelled e = bind_by P Q r k f next l m y spelled (r l) refl e

first_gives : (ts : List Lexeme) (l m : Lexed) (x : Lexeme) → All IsSpelledToken ts → first_token ts l ≡ taken x m → IsSpelledToken x × AreSpelled m
first_gives [] l m x spelled e = absurd cc
first_gives (t ∷ ts) l m x spelled e =
    let r = ok_is t (lexed_after ts l) x m e in
    (subst IsSpelledToken r.0 (All-head IsSpelledToken t ts spelled), subst AreSpelled r.1 (All-tail IsSpelledToken t ts spelled))

pub token_gives : Gives IsSpelledToken token
token_gives l m x spelled e = first_gives l.tokens l m x spelled e

statements_give : {S : Type 0} (P Q : S → Type 0) (statement : Statement S)
    → ((s : S) → P s → Gives (λ t. P t.state × (t.more ≡ false → Q t.state)) (statement s))
    → (n : ℕ) (s : S) → P s → Gives Q (statements statement n s)
unfolding statements
statements_give P Q statement each zero s h = λ l m x spelled e. absurd cc
statements_give {S = S} P Q statement each (suc n) s h =
    gives_bind (λ (t : Turn S). P t.state × (t.more ≡ false → Q t.state)) Q (statement s)
    (λ (t : ReadValue (Turn S)). cond t.value.more (statements statement n t.value.state t.rest) (taken t.value.state t.rest)) (each s h)
    (λ t k. gives_choose Q t.more (statements statement n t.state) (λ l. taken t.state l) (λ _. statements_give P Q statement each n t.state k.0)
    (λ stop. gives_pure Q t.state (k.1 stop)))

-- Blocks of statements: what each statement preserves, and what holds after the last.
pub block_gives : {S : Type 0} (P Q : S → Type 0) (statement : Statement S)
    → ((s : S) → P s → Gives (λ t. P t.state × (t.more ≡ false → Q t.state)) (statement s))
    → (s : S) → P s → Gives Q (block statement s)
block_gives P Q statement each s h l m x spelled e = statements_give P Q statement each (suc (length l.tokens)) s h l m x spelled e

abbrev pub Keeps : {S : Type 0} → (S → Type 0) → Turn S → Type 0
Keeps P t = P t.state × (t.more ≡ false → P t.state)

pub gives_turn : {S : Type 0} (P : S → Type 0) (s : S) (more : Bool) → P s → Gives (Keeps P) (λ l. taken (turn s more) l)
gives_turn P s more h = gives_pure (Keeps P) (turn s more) (h, λ _. h)
