-- A loop that reads statement after statement.
use Rattle.std.proofs.Common.{◌≡◌, ℕ, zero, suc, ◌<◌, Bool, true, false, length, Result, refl, sym, arith}
use Rattle.lf_lex.specs.Tokens.{Lexed}
use Rattle.lf_lex.specs.declared.fault.ReadFault.{ReadFault}
use Rattle.lf_lex.specs.declared.fault.ReadError.{ReadError}
use Rattle.lf_lex.specs.declared.fault.ReadError.TheVariants.{Memory, Fault}
use Rattle.lf_lex.specs.Reading.{Statement, ReadValue, turn, taken, Fails, statements, block, value_of}

-- From here on, with enough turns, the statements give the total.
pub record Going {S : Type 0} (statement : Statement S) (s : S) (l : Lexed) (total : Result (ReadValue S) ReadFault) : Type 0 where
  pub left : ℕ
  pub enough : length l.tokens < left
  pub same : statements statement left s l ≡ total

pub begins : {S : Type 0} (statement : Statement S) (s : S) (l : Lexed) → Going statement s l (block statement s l)
begins statement s l = record { left = suc (length l.tokens); enough = omega arith; same = refl }

next_turn : {S : Type 0} (statement : Statement S) (n : ℕ) (s s' : S) (l l' : Lexed) (total : Result (ReadValue S) ReadFault) → length l.tokens < n
    → statements statement n s l ≡ total
    → statement s l ≡ taken (turn s' true) l' → length l'.tokens < length l.tokens → Going statement s' l' total
unfolding statements
next_turn statement zero s s' l l' total enough same h shorter = absurd (omega arith)
next_turn statement (suc n) s s' l l' total enough same h shorter = record { left = n; enough = omega arith; same = rw h at same }

pub turn_on : {S : Type 0} (statement : Statement S) (s s' : S) (l l' : Lexed) (total : Result (ReadValue S) ReadFault) (more : Bool) → Going statement s l total
    → more ≡ true
    → statement s l ≡ taken (turn s' more) l' → length l'.tokens < length l.tokens → Going statement s' l' total
turn_on statement s s' l l' total true g e h shorter = next_turn statement g.left s s' l l' total g.enough g.same h shorter
turn_on statement s s' l l' total false g e h shorter = absurd cc

last_turn : {S : Type 0} (statement : Statement S) (n : ℕ) (s s' : S) (l l' : Lexed) (total : Result (ReadValue S) ReadFault) → length l.tokens < n
    → statements statement n s l ≡ total
    → statement s l ≡ taken (turn s' false) l' → total ≡ taken s' l'
unfolding statements
last_turn statement zero s s' l l' total enough same h = absurd (omega arith)
last_turn statement (suc n) s s' l l' total enough same h = sym (rw h at same)

pub turn_ends : {S : Type 0} (statement : Statement S) (s s' : S) (l l' : Lexed) (total : Result (ReadValue S) ReadFault) (more : Bool) → Going statement s l total
    → more ≡ false
    → statement s l ≡ taken (turn s' more) l' → total ≡ taken s' l'
turn_ends statement s s' l l' total true g e h = absurd cc
turn_ends statement s s' l l' total false g e h = last_turn statement g.left s s' l l' total g.enough g.same h

failed_turn : {S : Type 0} (statement : Statement S) (e : ReadError) (n : ℕ) (s : S) (l : Lexed) (total : Result (ReadValue S) ReadFault) → length l.tokens < n
    → statements statement n s l ≡ total
    → Fails e (statement s l) → Fails e total
unfolding statements
failed_turn statement Memory n s l total enough same h = tt
failed_turn statement (Fault f) zero s l total enough same h = absurd (omega arith)
failed_turn statement (Fault f) (suc n) s l total enough same h = sym (rw h at same)

pub turn_fails : {S : Type 0} (statement : Statement S) (e : ReadError) (s : S) (l : Lexed) (total : Result (ReadValue S) ReadFault) → Going statement s l total
    → Fails e (statement s l) → Fails e total
turn_fails statement e s l total g h = failed_turn statement e g.left s l total g.enough g.same h

-- A fault of the reader is a fault of its value.
pub fails_too : {A : Type 0} (e : ReadError) (r : Result (ReadValue A) ReadFault) → Fails e r → Fails e (value_of r)
fails_too Memory r h = tt
fails_too (Fault f) r h = rw h refl
