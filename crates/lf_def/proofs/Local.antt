-- Reading takes a run of tokens, and ignores what follows the run.
use Rattle.std.proofs.Common.{◌≡◌, ℕ, zero, suc, ◌<◌, Bool, true, false, cond, List, [], ◌∷◌, ◌++◌, length, Result, Ok, Err, refl, sym, ap, ◌∙◌, arith}
use Rattle.lf_lex.specs.declared.fault.ReadFault.{ReadFault}
use Rattle.lf_lex.specs.Tokens.{Lexed, Lexeme, with_tokens}
use Rattle.lf_lex.specs.Reading.{◌>>=◌, Reader, ReadValue, Turn, Statement, taken, turn, token, first_token, lexed_after, statements, block}
use Rattle.lf_lex.proofs.Runs.{Follows, Goes, same, left, ok_is, with_both, length_both}

-- The run that was taken, whatever follows.
pub record Takes {A : Type 0} (reader : Reader A) (l m : Lexed) (x : A) : Type 0 where
  pub run : List Lexeme
  pub whole : l ≡ with_tokens run m
  pub still : (k : Lexed) → reader (with_tokens run k) ≡ taken x k

abbrev pub Local : {A : Type 0} → Reader A → Type 0
Local reader = (l m : Lexed) (x : _) → reader l ≡ taken x m → Takes reader l m x

-- A reader that reads alike from alike tokens reads the same from the same tokens.
pub local_of : {A : Type 0} (reader : Reader A) → Follows same reader reader → Local reader
local_of reader f l m x e =
    let r = f l m x e in
    let a = r.again r.run refl in
    record { run = r.run; whole = r.whole; still = λ k. a.takes k ∙ ap (λ (z : _). taken z k) a.alike }

pub local_pure : {A : Type 0} (x : A) → Local (λ l. taken x l)
local_pure x l m y e =
    let r = ok_is x l y m e in
    record { run = []; whole = r.1; still = λ k. ap (λ (z : _). taken z k) r.0 }

pub local_fault : {A : Type 0} (f : ReadFault) → Local {A = A} (λ l. Err f)
local_fault f l m x e = absurd cc

pub local_choose : {A : Type 0} (c : Bool) (r s : Reader A) → Local r → Local s → Local (λ l. cond c (r l) (s l))
local_choose true r s f g l m x h = f l m x h
local_choose false r s f g l m x h = g l m x h

pub local_given : {A B : Type 0} (o : Result A ReadFault) (k : A → Reader B) → ((v : A) → Local (k v)) → Local (λ l. o >>= λ v. k v l)
local_given (Err q) k next l m x e = absurd cc
local_given (Ok v) k next l m x e = next v l m x e

still_both : {A B : Type 0} (r : Reader A) (k : ReadValue A → Result (ReadValue B) ReadFault) (a b : List Lexeme) (x : A) (y : B) → ((n : Lexed) → r (with_tokens a n) ≡ taken x n) → ((n : Lexed) → k (left x (with_tokens b n)) ≡ taken y n)
    → (n : Lexed) → (r (with_tokens (a ++ b) n) >>= k) ≡ taken y n
still_both r k a b x y f g n = rw (with_both a b n, f (with_tokens b n)) (g n)

bind_by : {A B : Type 0} (r : Reader A) (k : ReadValue A → Result (ReadValue B) ReadFault) → Local r → ((x : A) → Local (λ l. k (left x l))) → (l m : Lexed) (y : B)
    → (o : Result (ReadValue A) ReadFault) → r l ≡ o → (o >>= k) ≡ taken y m → Takes (λ l. r l >>= k) l m y
bind_by r k f next l m y (Err q) h e = absurd cc
bind_by r k f next l m y (Ok t) h e =
    let a = f l t.rest t.value h in
    let b = next t.value t.rest m y e in
    record { run = a.run ++ b.run; whole = a.whole ∙ ap (λ (z : Lexed). with_tokens a.run z) b.whole ∙ sym (with_both a.run b.run m); still = still_both r k a.run b.run t.value y a.still b.still }

pub local_bind : {A B : Type 0} (r : Reader A) (k : ReadValue A → Result (ReadValue B) ReadFault) → Local r → ((x : A) → Local (λ l. k (left x l))) → Local (λ l. r l >>= k)
local_bind r k f next l m y e = bind_by r k f next l m y (r l) refl e

first_local : (ts : List Lexeme) (l m : Lexed) (x : Lexeme) → l ≡ lexed_after ts l → first_token ts l ≡ taken x m → Takes token l m x
first_local [] l m x w e = absurd cc
first_local (t ∷ ts) l m x w e =
    let r = ok_is t (lexed_after ts l) x m e in
    record { run = t ∷ []; whole = w ∙ ap (λ (z : Lexed). with_tokens (t ∷ []) z) r.1; still = λ k. ap (λ (z : Lexeme). taken z k) r.0 }

pub token_local : Local token
token_local l m x e = first_local l.tokens l m x refl e

-- Blocks of statements.

pub record TurnsTake {S : Type 0} (statement : Statement S) (s : S) (l m : Lexed) (y : S) : Type 0 where
  pub run : List Lexeme
  pub whole : l ≡ with_tokens run m
  pub still : (n : ℕ) → length run < n → (k : Lexed) → statements statement n s (with_tokens run k) ≡ taken y k

last_still : {S : Type 0} (statement : Statement S) (s s1 : S) (run : List Lexeme) (n : ℕ) (k : Lexed) → length run < n → statement s (with_tokens run k) ≡ taken (turn s1 false) k → statements statement n s (with_tokens run k) ≡ taken s1 k
unfolding statements
last_still statement s s1 run zero k lt e = absurd (omega arith)
last_still statement s s1 run (suc n) k lt e = rw e refl

more_still : {S : Type 0} (statement : Statement S) (s s1 y : S) (a b : List Lexeme) (n : ℕ) (k : Lexed) → 0 < length a → length (a ++ b) < n → statement s (with_tokens a (with_tokens b k)) ≡ taken (turn s1 true) (with_tokens b k)
    → ((j : ℕ) → length b < j → statements statement j s1 (with_tokens b k) ≡ taken y k) → statements statement n s (with_tokens (a ++ b) k) ≡ taken y k
unfolding statements
more_still statement s s1 y a b zero k pos lt e next = absurd (omega arith)
more_still statement s s1 y a b (suc n) k pos lt e next = rw (with_both a b k, e) (next n (omega (arith, length_both a b, lt, pos)))

turns_by : {S : Type 0} (statement : Statement S) (n : ℕ) (s y : S) (l m : Lexed) → ((s : S) → Local (statement s)) → Goes statement
    → ((s1 : S) (l1 : Lexed) → statements statement n s1 l1 ≡ taken y m → TurnsTake statement s1 l1 m y)
    → (more : Bool) (s1 : S) (l1 : Lexed) → statement s l ≡ taken (turn s1 more) l1 → cond more (statements statement n s1 l1) (taken s1 l1) ≡ taken y m → TurnsTake statement s l m y
turns_by statement n s y l m each goes next true s1 l1 h e =
    let a = each s l l1 (turn s1 true) h in
    let b = next s1 l1 e in
    let total = ap (λ (z : Lexed). length z.tokens) a.whole ∙ length_both a.run l1.tokens in
    let positive : 0 < length a.run = omega (arith, total, goes s s1 l l1 h) in
    record {
      run = a.run ++ b.run;
      whole = a.whole ∙ ap (λ (z : Lexed). with_tokens a.run z) b.whole ∙ sym (with_both a.run b.run m);
      still = λ j lt k. more_still statement s s1 y a.run b.run j k positive lt (a.still (with_tokens b.run k)) (λ i h. b.still i h k);
    }
turns_by statement n s y l m each goes next false s1 l1 h e =
    let a = each s l l1 (turn s1 false) h in
    let r = ok_is s1 l1 y m e in
    record {
      run = a.run;
      whole = a.whole ∙ ap (λ (z : Lexed). with_tokens a.run z) r.1;
      still = λ j lt k. last_still statement s s1 a.run j k lt (a.still k) ∙ ap (λ (z : _). taken z k) r.0;
    }

turns_first : {S : Type 0} (statement : Statement S) (n : ℕ) (s y : S) (l m : Lexed) → ((s : S) → Local (statement s)) → Goes statement
    → ((s1 : S) (l1 : Lexed) → statements statement n s1 l1 ≡ taken y m → TurnsTake statement s1 l1 m y)
    → (o : Result (ReadValue (Turn S)) ReadFault) → statement s l ≡ o → (o >>= λ t. cond t.value.more (statements statement n t.value.state t.rest) (taken t.value.state t.rest)) ≡ taken y m → TurnsTake statement s l m y
turns_first statement n s y l m each goes next (Err q) h e = absurd cc
turns_first statement n s y l m each goes next (Ok t) h e = turns_by statement n s y l m each goes next t.value.more t.value.state t.rest h e

turns_local : {S : Type 0} (statement : Statement S) → ((s : S) → Local (statement s)) → Goes statement → (n : ℕ) (s y : S) (l m : Lexed) → statements statement n s l ≡ taken y m → TurnsTake statement s l m y
unfolding statements
turns_local statement each goes zero s y l m e = absurd cc
turns_local statement each goes (suc n) s y l m e = turns_first statement n s y l m each goes (λ s1 l1 f. turns_local statement each goes n s1 y l1 m f) (statement s l) refl e

pub local_block : {S : Type 0} (statement : Statement S) → ((s : S) → Local (statement s)) → Goes statement → (s : S) → Local (block statement s)
local_block statement each goes s l m x e =
    let t = turns_local statement each goes (suc (length l.tokens)) s x l m e in
    record { run = t.run; whole = t.whole; still = λ k. t.still (suc (length (t.run ++ k.tokens))) (omega (arith, length_both t.run k.tokens)) k }
