-- Reading takes a run of tokens, and reads the same from tokens that differ only in their places,
-- whatever follows.
use Rattle.std.proofs.Common.{◌≡◌, ℕ, zero, suc, ◌+◌, ◌≤◌, ◌<◌, Bool, true, false, cond, List, [], ◌∷◌, ◌++◌, map, length, Result, Ok, Err, refl, sym, ap, ◌∙◌}
use Rattle.std.proofs.Common.{arith}
use Rattle.std.proofs.lemmas.List.{append_assoc, append_cancel_right, append-nil}
use Rattle.lf_lex.specs.Tokens.{Lexed, Lexeme, PlainToken, plain, with_tokens}
use Rattle.lf_lex.specs.declared.fault.ReadFault.{ReadFault}
use Rattle.lf_lex.specs.Laws.{TakesTokens, ReadsAlike}
use Rattle.lf_lex.specs.Reading.{◌>>=◌, Reader, ReadValue, Turn, Statement, taken, turn, token, first_token, lexed_after, statements, block}

-- The value read from such tokens, equal up to places.
pub record Again {A B : Type 0} (bare : A → B) (reader : Reader A) (p : List Lexeme) (x : A) : Type 0 where
  pub value : A
  pub alike : bare value ≡ bare x
  pub takes : (l : Lexed) → reader (with_tokens p l) ≡ taken value l

pub record Run {A B : Type 0} (bare : A → B) (reader : Reader A) (l m : Lexed) (x : A) : Type 0 where
  pub run : List Lexeme
  pub whole : l ≡ with_tokens run m
  pub again : (p : List Lexeme) → map plain p ≡ map plain run → Again bare reader p x

-- Holds if the second reader reads again what the first one reads.
abbrev pub Follows : {A B : Type 0} → (A → B) → Reader A → Reader A → Type 0
Follows bare r r' = (l m : Lexed) (x : _) → r l ≡ taken x m → Run bare r' l m x

abbrev pub same : {A : Type 0} → A → A
same x = x

pub nil_plain : (p : List Lexeme) → map plain p ≡ [] → p ≡ []
nil_plain [] e = refl
nil_plain (t ∷ p) e = absurd cc

-- A value with what is left.
abbrev pub left : {A : Type 0} → A → Lexed → ReadValue A
left x l = record { value = x; rest = l }

pub ok_is : {A : Type 0} (x : A) (l : Lexed) (y : A) (m : Lexed) → ◌≡◌ {A = Result (ReadValue A) ReadFault} (taken x l) (taken y m) → (x ≡ y) × (l ≡ m)
ok_is {A = A} x l y m e = let f : ◌≡◌ {A = ReadValue A} (left x l) (left y m) = cc in (ap (λ (z : ReadValue A). z.value) f, ap (λ (z : ReadValue A). z.rest) f)

pub pure : {A B : Type 0} (bare : A → B) (x x' : A) → bare x' ≡ bare x → Follows bare (λ l. taken x l) (λ l. taken x' l)
pure bare x x' alike l m y e =
    let r = ok_is x l y m e in
    record {
      run = [];
      whole = r.1;
      again = λ p q. record {
        value = x';
        alike = alike
            ∙ ap bare r.0;
        takes = λ k. ap (λ (z : List Lexeme). taken x' (with_tokens z k)) (nil_plain p q);
      };
    }

pub fault : {A B : Type 0} (bare : A → B) (f : ReadFault) (r' : Reader A) → Follows bare (λ l. Err f) r'
fault bare f r' l m x e = absurd cc

-- Tokens that are like two runs are two runs.
pub record Split (p xs ys : List Lexeme) : Type 0 where
  pub front : List Lexeme
  pub back : List Lexeme
  pub whole : p ≡ front ++ back
  pub front_alike : map plain front ≡ map plain xs
  pub back_alike : map plain back ≡ map plain ys

pub plain_head : (u t : PlainToken) (us ts : List PlainToken) → ◌≡◌ {A = List PlainToken} (u ∷ us) (t ∷ ts) → (u ≡ t) × (us ≡ ts)
plain_head u t us ts e = (cc, cc)

cons_alike : (u v : PlainToken) (us vs : List PlainToken) → u ≡ v → us ≡ vs → u ∷ us ≡ v ∷ vs
cons_alike u v us vs e f = ap (λ (z : PlainToken). z ∷ us) e ∙ ap (λ (z : List PlainToken). v ∷ z) f

pub split_alike : (p xs ys : List Lexeme) → map plain p ≡ map plain (xs ++ ys) → Split p xs ys
split_alike p [] ys e = record { front = []; back = p; whole = refl; front_alike = refl; back_alike = e }
split_alike [] (x ∷ xs) ys e = absurd cc
split_alike (t ∷ p) (x ∷ xs) ys e =
    let h = plain_head _ _ _ _ e in
    let s = split_alike p xs ys h.1 in
    record {
      front = t ∷ s.front;
      back = s.back;
      whole = ap (λ (z : List Lexeme). t ∷ z) s.whole;
      front_alike =
          cons_alike _ _ _ _ h.0 s.front_alike;
      back_alike = s.back_alike;
    }

pub with_both : (a b : List Lexeme) (l : Lexed) → with_tokens (a ++ b) l ≡ with_tokens a (with_tokens b l)
with_both a b l = rw append_assoc refl

pub same_run : (a b : List Lexeme) (l m : Lexed) → l ≡ with_tokens a m → l ≡ with_tokens b m → a ≡ b
same_run a b l m e f = append_cancel_right a b m.tokens (ap (λ (x : Lexed). x.tokens) (sym e ∙ f))

pub takes_both : {A B : Type 0} (r' : Reader A) (k' : ReadValue A → Result (ReadValue B) ReadFault) (p front back : List Lexeme) (l : Lexed) (x : A) (y : B)
    → p ≡ front ++ back
    → r' (with_tokens front (with_tokens back l)) ≡ taken x (with_tokens back l) → k' (left x (with_tokens back l)) ≡ taken y l
    → (r' (with_tokens p l) >>= k') ≡ taken y l
takes_both r' k' p front back l x y e f g = rw (e, with_both front back l, f) g

and_then : {A B C D : Type 0} (bareA : A → C) (bareB : B → D) (r' : Reader A) (k k' : ReadValue A → Result (ReadValue B) ReadFault) (l m : Lexed) (y : B) (x : A)
    (l1 : Lexed)
    → Run bareA r' l l1 x → ((x' : A) → bareA x' ≡ bareA x → Follows bareB (λ l. k (left x l)) (λ l. k' (left x' l))) → k (left x l1) ≡ taken y m
    → Run bareB (λ l. r' l >>= k') l m y
and_then bareA bareB r' k k' l m y x l1 f next h =
    let g = next x refl l1 m y h in
    record {
      run = f.run ++ g.run;
      whole = f.whole ∙ ap (λ (z : Lexed). with_tokens f.run z) g.whole ∙ sym (with_both f.run g.run m);
      again = λ p e.
          let s = split_alike p f.run g.run e in
          let a = f.again s.front s.front_alike in
          let g' = next a.value a.alike l1 m y h in
          let b = g'.again s.back (s.back_alike ∙ ap (λ (z : List Lexeme). map plain z) (same_run g.run g'.run l1 m g.whole g'.whole)) in
          record {
            value = b.value;
            alike = b.alike;
            takes = λ l2. takes_both r' k' p s.front s.back l2 a.value b.value s.whole
                (a.takes (with_tokens s.back l2)) (b.takes l2);
          };
    }

by_first : {A B C D : Type 0} (bareA : A → C) (bareB : B → D) (r r' : Reader A) (k k' : ReadValue A → Result (ReadValue B) ReadFault) (l m : Lexed) (y : B)
    → Follows bareA r r' → ((x x' : A) → bareA x' ≡ bareA x → Follows bareB (λ l. k (left x l)) (λ l. k' (left x' l)))
    → (o : Result (ReadValue A) ReadFault) → r l ≡ o → (o >>= k) ≡ taken y m → Run bareB (λ l. r' l >>= k') l m y
by_first bareA bareB r r' k k' l m y f next (Err q) h e = absurd cc
by_first bareA bareB r r' k k' l m y f next (Ok x) h e = and_then bareA bareB r' k k' l m y x.value x.rest (f l x.rest x.value h) (next x.value) e

pub bind : {A B C D : Type 0} (bareA : A → C) (bareB : B → D) (r r' : Reader A) (k k' : ReadValue A → Result (ReadValue B) ReadFault)
    → Follows bareA r r' → ((x x' : A) → bareA x' ≡ bareA x → Follows bareB (λ l. k (left x l)) (λ l. k' (left x' l)))
    → Follows bareB (λ l. r l >>= k) (λ l. r' l >>= k')
bind bareA bareB r r' k k' f next l m y e = by_first bareA bareB r r' k k' l m y f next (r l) refl e

-- A token that is like another one.
one_plain : (p : List Lexeme) (t : Lexeme) → map plain p ≡ plain t ∷ [] → (u : Lexeme) × (p ≡ u ∷ []) × (plain u ≡ plain t)
one_plain [] t e = absurd cc
one_plain (u ∷ p) t e = let h = plain_head _ _ _ _ e in (u, ap (λ (z : List Lexeme). u ∷ z) (nil_plain p h.1), h.0)

whole_is : (t : Lexeme) (ts : List Lexeme) (l m : Lexed) → l ≡ with_tokens (t ∷ ts) (record { tokens = []; fault = l.fault; end_line = l.end_line })
    → lexed_after ts l ≡ m → l ≡ with_tokens (t ∷ []) m
whole_is t ts l m w e = w ∙ ap (λ (z : List Lexeme). lexed_after (t ∷ z) l) (append-nil ts) ∙ ap (λ (z : Lexed). with_tokens (t ∷ []) z) e

whole_nil : (l : Lexed) → l ≡ with_tokens l.tokens (record { tokens = []; fault = l.fault; end_line = l.end_line })
whole_nil l = ap (λ (z : List Lexeme). lexed_after z l) (sym (append-nil l.tokens))

first_follows : (ts : List Lexeme) (l m : Lexed) (x : Lexeme) → l ≡ with_tokens ts (record { tokens = []; fault = l.fault; end_line = l.end_line })
    → first_token ts l ≡ taken x m → Run plain token l m x
first_follows [] l m x w e = absurd cc
first_follows (t ∷ ts) l m x w e =
    let r = ok_is t _ x m e in
    record {
      run = t ∷ [];
      whole = whole_is t ts l m w r.1;
      again = λ p q. let o = one_plain p t q in record {
        value = o.0;
        alike = o.2
            ∙ ap plain r.0;
        takes = λ k. ap (λ (z : List Lexeme). token (with_tokens z k)) o.1;
      };
    }

pub token_follows : Follows plain token token
token_follows l m x e = first_follows l.tokens l m x (whole_nil l) e

pub choose : {A B : Type 0} (bare : A → B) (c c' : Bool) (r r' s s' : Reader A) → c' ≡ c → Follows bare r r' → Follows bare s s'
    → Follows bare (λ l. cond c (r l) (s l)) (λ l. cond c' (r' l) (s' l))
choose bare true c' r r' s s' e f g l m x h = rw e (f l m x h)
choose bare false c' r r' s s' e f g l m x h = rw e (g l m x h)

given_of : {A B D : Type 0} (bare : B → D) (o e e' : Result A ReadFault) (k k' : A → Reader B) → e ≡ o → ((v : A) → e ≡ Ok v → e' ≡ Ok v)
    → ((v : A) → Follows bare (λ l. k v l) (λ l. k' v l))
    → Follows bare (λ l. o >>= λ v. k v l) (λ l. e' >>= λ v. k' v l)
given_of bare (Err q) e e' k k' h same_value next l m x f = absurd cc
given_of bare (Ok v) e e' k k' h same_value next l m x f = rw (same_value v h) (next v l m x f)

-- A value that takes no token. It may be a fault.
pub given : {A B D : Type 0} (bare : B → D) (e e' : Result A ReadFault) (k k' : A → Reader B) → ((v : A) → e ≡ Ok v → e' ≡ Ok v)
    → ((v : A) → Follows bare (λ l. k v l) (λ l. k' v l))
    → Follows bare (λ l. e >>= λ v. k v l) (λ l. e' >>= λ v. k' v l)
given bare e e' k k' same_value next = given_of bare e e e' k k' refl same_value next

-- Blocks of statements.

abbrev pub turn_bare : {S D : Type 0} → (S → D) → Turn S → Turn D
turn_bare bare t = turn (bare t.state) t.more

pub record TurnsAgain {S D : Type 0} (bare : S → D) (statement : Statement S) (s : S) (p : List Lexeme) (y : S) : Type 0 where
  pub value : S
  pub alike : bare value ≡ bare y
  pub takes : (n : ℕ) → length p < n → (l : Lexed) → statements statement n s (with_tokens p l) ≡ taken value l

pub record TurnsRun {S D : Type 0} (bare : S → D) (statement : Statement S) (s : S) (l m : Lexed) (y : S) : Type 0 where
  pub run : List Lexeme
  pub whole : l ≡ with_tokens run m
  pub again : (p : List Lexeme) → map plain p ≡ map plain run → TurnsAgain bare statement s p y

-- Holds if a turn that continues takes a token.
abbrev pub Goes : {S : Type 0} → Statement S → Type 0
Goes statement = TakesTokens statement

pub same_length : (p q : List Lexeme) → map plain p ≡ map plain q → length p ≡ length q
same_length [] [] e = refl
same_length [] (t ∷ q) e = absurd cc
same_length (t ∷ p) [] e = absurd cc
same_length (t ∷ p) (u ∷ q) e = omega (arith, same_length p q (plain_head _ _ _ _ e).1)

pub length_both : (p q : List Lexeme) → length (p ++ q) ≡ length p + length q
length_both [] q = omega arith
length_both (t ∷ p) q = omega (arith, length_both p q)

pub last_takes : {S : Type 0} (statement : Statement S) (s : S) (p : List Lexeme) (v : Turn S) (n : ℕ) (l : Lexed) → length p < n
    → statement s (with_tokens p l) ≡ taken v l → v.more ≡ false → statements statement n s (with_tokens p l) ≡ taken v.state l
unfolding statements
last_takes statement s p v zero l lt e f = absurd (omega arith)
last_takes statement s p v (suc n) l lt e f = rw e (rw f refl)

pub more_takes : {S : Type 0} (statement : Statement S) (s y : S) (p front back : List Lexeme) (v : Turn S) (n : ℕ) (l : Lexed) → p ≡ front ++ back
    → 0 < length front → length p < n
    → statement s (with_tokens front (with_tokens back l)) ≡ taken v (with_tokens back l) → v.more ≡ true
    → ((k : ℕ) → length back < k → statements statement k v.state (with_tokens back l) ≡ taken y l) → statements statement n s (with_tokens p l) ≡ taken y l
unfolding statements
more_takes statement s y p front back v zero l w pos lt e f next = absurd (omega arith)
more_takes statement s y p front back v (suc n) l w pos lt e f next =
    let both = ap (λ (z : List Lexeme). length z) w ∙ length_both front back in
    rw (w, with_both front back l, e) (rw f (next n (omega (arith, both, lt, pos))))

turn_last : {S D : Type 0} (bare : S → D) (statement : Statement S) (s s' s1 y : S) (l l1 m : Lexed) → Run (turn_bare bare) (statement s') l l1 (turn s1 false)
    → ◌≡◌ {A = Result (ReadValue S) ReadFault} (taken s1 l1) (taken y m)
    → TurnsRun bare statement s' l m y
turn_last bare statement s s' s1 y l l1 m f e =
    let r = ok_is s1 l1 y m e in
    record {
      run = f.run;
      whole = f.whole ∙ ap (λ (z : Lexed). with_tokens f.run z) r.1;
      again = λ p q.
          let a = f.again p q in
          record {
            value = a.value.state;
            alike = ap (λ (z : Turn _). z.state) a.alike
                ∙ ap bare r.0;
            takes = λ n lt k. last_takes statement s' p a.value n k lt (a.takes k) (ap (λ (z : Turn _). z.more) a.alike);
          };
    }

turn_more : {S D : Type 0} (bare : S → D) (statement : Statement S) (s' s1 y : S) (l l1 m : Lexed) → Run (turn_bare bare) (statement s') l l1 (turn s1 true)
    → length l1.tokens < length l.tokens
    → ((s1' : S) → bare s1' ≡ bare s1 → TurnsRun bare statement s1' l1 m y) → TurnsRun bare statement s' l m y
turn_more bare statement s' s1 y l l1 m f shorter next =
    let g = next s1 refl in
    let total = ap (λ (z : Lexed). length z.tokens) f.whole ∙ length_both f.run l1.tokens in
    record {
      run = f.run ++ g.run;
      whole = f.whole ∙ ap (λ (z : Lexed). with_tokens f.run z) g.whole ∙ sym (with_both f.run g.run m);
      again = λ p e.
          let c = split_alike p f.run g.run e in
          let a = f.again c.front c.front_alike in
          let g' = next a.value.state (ap (λ (z : Turn _). z.state) a.alike) in
          let b = g'.again c.back (c.back_alike ∙ ap (λ (z : List Lexeme). map plain z) (same_run g.run g'.run l1 m g.whole g'.whole)) in
          let positive : 0 < length c.front = omega (arith, same_length c.front f.run c.front_alike, total, shorter) in
          record {
            value = b.value;
            alike = b.alike;
            takes = λ n lt k. more_takes statement s' b.value p c.front c.back a.value n k c.whole positive lt (a.takes (with_tokens c.back k))
                (ap (λ (z : Turn _). z.more) a.alike) (λ j h. b.takes j h k);
          };
    }

turn_by : {S D : Type 0} (bare : S → D) (statement : Statement S) (n : ℕ) (s s' y : S) (l m : Lexed) → bare s' ≡ bare s
    → ((s s' : S) → bare s' ≡ bare s → Follows (turn_bare bare) (statement s) (statement s')) → Goes statement
    → ((s1 s1' : S) (l1 : Lexed) → bare s1' ≡ bare s1 → statements statement n s1 l1 ≡ taken y m → TurnsRun bare statement s1' l1 m y)
    → (more : Bool) (s1 : S) (l1 : Lexed) → statement s l ≡ taken (turn s1 more) l1 → cond more (statements statement n s1 l1) (taken s1 l1) ≡ taken y m
    → TurnsRun bare statement s' l m y
turn_by bare statement n s s' y l m a each goes next true s1 l1 h e =
    turn_more bare statement s' s1 y l l1 m (each s s' a l l1 (turn s1 true) h) (goes s s1 l l1 h) (λ s1' b. next s1 s1' l1 b e)
turn_by bare statement n s s' y l m a each goes next false s1 l1 h e =
    turn_last bare statement s s' s1 y l l1 m (each s s' a l l1 (turn s1 false) h) e

turn_first : {S D : Type 0} (bare : S → D) (statement : Statement S) (n : ℕ) (s s' y : S) (l m : Lexed) → bare s' ≡ bare s
    → ((s s' : S) → bare s' ≡ bare s → Follows (turn_bare bare) (statement s) (statement s')) → Goes statement
    → ((s1 s1' : S) (l1 : Lexed) → bare s1' ≡ bare s1 → statements statement n s1 l1 ≡ taken y m → TurnsRun bare statement s1' l1 m y)
    → (o : Result (ReadValue (Turn S)) ReadFault) → statement s l ≡ o
    → (o >>= λ t. cond t.value.more (statements statement n t.value.state t.rest) (taken t.value.state t.rest)) ≡ taken y m → TurnsRun bare statement s' l m y
turn_first bare statement n s s' y l m a each goes next (Err q) h e = absurd cc
turn_first bare statement n s s' y l m a each goes next (Ok t) h e = turn_by bare statement n s s' y l m a each goes next t.value.more t.value.state t.rest h e

pub turns_follow : {S D : Type 0} (bare : S → D) (statement : Statement S)
    → ((s s' : S) → bare s' ≡ bare s → Follows (turn_bare bare) (statement s) (statement s')) → Goes statement
    → (n : ℕ) (s s' y : S) (l m : Lexed) → bare s' ≡ bare s → statements statement n s l ≡ taken y m → TurnsRun bare statement s' l m y
unfolding statements
turns_follow bare statement each goes zero s s' y l m a e = absurd cc
turns_follow bare statement each goes (suc n) s s' y l m a e =
    turn_first bare statement n s s' y l m a each goes (λ s1 s1' l1 b f. turns_follow bare statement each goes n s1 s1' y l1 m b f) (statement s l) refl e

pub block_follows : {S D : Type 0} (bare : S → D) (statement : Statement S)
    → ((s s' : S) → bare s' ≡ bare s → Follows (turn_bare bare) (statement s) (statement s')) → Goes statement
    → (s s' : S) → bare s' ≡ bare s → Follows bare (block statement s) (block statement s')
block_follows bare statement each goes s s' a l m x e =
    let t = turns_follow bare statement each goes (suc (length l.tokens)) s s' x l m a e in
    record {
      run = t.run;
      whole = t.whole;
      again = λ p q. let b = t.again p q in
          record { value = b.value; alike = b.alike; takes = λ k. b.takes (suc (length (p ++ k.tokens))) (omega (arith, length_both p k.tokens)) k };
    }

-- Reading never increases the number of tokens.
pub leaves : {A B : Type 0} (bare : A → B) (r' : Reader A) (l m : Lexed) (x : A) → Run bare r' l m x → length m.tokens ≤ length l.tokens
leaves bare r' l m x f = omega (arith, ap (λ (z : Lexed). length z.tokens) f.whole ∙ length_both f.run m.tokens)

first_taken : {A B : Type 0} (bare : A → B) (k : ReadValue Lexeme → Result (ReadValue A) ReadFault) (r' : Lexeme → Reader A) (l m : Lexed) (x : A)
    → ((t : Lexeme) → Follows bare (λ l. k (left t l)) (r' t))
    → (ts : List Lexeme) → l.tokens ≡ ts → (first_token ts l >>= k) ≡ taken x m → length m.tokens < length l.tokens
first_taken bare k r' l m x next [] h e = absurd cc
first_taken bare k r' l m x next (t ∷ ts) h e =
    let f = next t (lexed_after ts l) m x e in
    omega (arith, leaves bare (r' t) (lexed_after ts l) m x f, ap (λ (z : List Lexeme). length z) h)

-- A reader that begins with a token takes one.
pub takes_one : {A B : Type 0} (bare : A → B) (k : ReadValue Lexeme → Result (ReadValue A) ReadFault) (r' : Lexeme → Reader A) (l m : Lexed) (x : A)
    → ((t : Lexeme) → Follows bare (λ l. k (left t l)) (r' t))
    → (token l >>= k) ≡ taken x m → length m.tokens < length l.tokens
takes_one bare k r' l m x next e = first_taken bare k r' l m x next l.tokens refl e

-- A reader whose value has no places reads alike.
pub reads_alike : {A : Type 0} (reader : Reader A) → Follows same reader reader → ReadsAlike reader
reads_alike reader f l m x e =
    let r = f l m x e in
    (r.run, r.whole, λ p q k. let a = r.again p q in a.takes k ∙ ap (λ (z : _). taken z k) a.alike)

-- A reader that begins with a token takes one, whatever it reads next.
pub takes_first : {A : Type 0} (k : ReadValue Lexeme → Result (ReadValue A) ReadFault) (l m : Lexed) (x : A) → (token l >>= k) ≡ taken x m
    → ((t : Lexeme) → Follows same (λ l. k (left t l)) (λ l. k (left t l))) → length m.tokens < length l.tokens
takes_first k l m x e next = takes_one same k (λ t l. k (left t l)) l m x next e

-- A statement whose state has no places: states that are alike are equal.
pub alike_states : {S : Type 0} (statement : Statement S) → ((s : S) → Follows same (statement s) (statement s)) → (s s' : S) → same s' ≡ same s
    → Follows (turn_bare same) (statement s) (statement s')
alike_states statement f s s' e = rw e (f s)
