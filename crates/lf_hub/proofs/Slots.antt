-- The slots of a hub after one of them changes.
use Rattle.std.proofs.Common.{◌≡◌, ◌≢◌, ℕ, zero, suc, ◌<◌, ◌≤◌, ◌+◌, ◌⊎◌, inl, inr, Bool, true, false, cond, nat_lt, List, [], ◌∷◌, ◌++◌, length, refl, sym, ap, subst, ◌∙◌, arith, append-nil, length-append}
use Rattle.std.specs.Prelude.{◌==◌, ◌||◌, slice_set, slice_index_or}
use Rattle.std.proofs.lemmas.Bool.{eq-eqb, ne_eqb, cases_eq, cond-true, cond-false, lt-ltb, le-ltb, or_from, cases_lt}
use Rattle.std.proofs.lemmas.Bool.Decides.{nat_tests}
use Rattle.std.proofs.lemmas.List.{get_or-set_same, get_or-set_other, length-set}
use Rattle.lf_hub_clients.specs.Connections.{Connection, released}
use Rattle.lf_hub.specs.Machine.{connection_at, changed_at, put_at, released_at, no_connection}

-- a fact holds of each number if it holds of one and of all others
pub each : (P : ℕ → Type 0) (i k : ℕ) → P k → ((i ≡ k → ⊥) → P i) → P i
each P i k this others = elim (cases_eq i k) as (λ _. P i) [ inl e ↦ subst P (sym e) this | inr n ↦ others n ]

pub changed-same : (slots : List Connection) (k : ℕ) (f : Connection → Connection) → k < length slots → connection_at k (changed_at k f slots) ≡ f (connection_at k slots)
changed-same slots k f h = get_or-set_same slots k (f (connection_at k slots)) no_connection h

pub changed-other : (slots : List Connection) (i k : ℕ) (f : Connection → Connection) → (i ≡ k → ⊥) → connection_at i (changed_at k f slots) ≡ connection_at i slots
changed-other slots i k f n = get_or-set_other slots k i (f (connection_at k slots)) no_connection n

pub changed-length : (slots : List Connection) (k : ℕ) (f : Connection → Connection) → length (changed_at k f slots) ≡ length slots
changed-length slots k f = length-set slots k (f (connection_at k slots))

-- an entry of a table
pub entry-same : {X : Type 0} → (n : ℕ) (x y : X) → cond (n == n) x y ≡ x
entry-same n x y = cond-true (n == n) x y (eq-eqb n n refl)

pub entry-other : {X : Type 0} → (m n : ℕ) (x y : X) → (m ≡ n → ⊥) → cond (m == n) x y ≡ y
entry-other m n x y h = cond-false (m == n) x y (ne_eqb m n h)

-- ---- a new connection

put-new : (slots : List Connection) (k : ℕ) (c : Connection) → length slots ≤ k → put_at k c slots ≡ slots ++ c ∷ []
put-new slots k c h = cond-false (nat_lt k (length slots)) (slice_set slots k c) (slots ++ c ∷ []) (le-ltb k (length slots) h)

put-old : (slots : List Connection) (k : ℕ) (c : Connection) → k < length slots → put_at k c slots ≡ slice_set slots k c
put-old slots k c h = cond-true (nat_lt k (length slots)) (slice_set slots k c) (slots ++ c ∷ []) (lt-ltb k (length slots) h)

last-at : (slots : List Connection) (c : Connection) → connection_at (length slots) (slots ++ c ∷ []) ≡ c
last-at [] c = refl
last-at (x ∷ slots) c = last-at slots c

others-at : (slots : List Connection) (c : Connection) (i : ℕ) → (i ≡ length slots → ⊥) → connection_at i (slots ++ c ∷ []) ≡ connection_at i slots
others-at [] c zero n = absurd (n refl)
others-at [] c (suc i) n = refl
others-at (x ∷ slots) c zero n = refl
others-at (x ∷ slots) c (suc i) n = others-at slots c i (λ e. n (ap suc e))

-- either the slot is there, or it is the one behind the others
by-place : (P : List Connection → Type 0) (slots : List Connection) (k : ℕ) (c : Connection) → k ≤ length slots
    → (k < length slots → P (slice_set slots k c)) → (k ≡ length slots → P (slots ++ c ∷ [])) → P (put_at k c slots)
by-place P slots k c h old new = elim (cases_lt k (length slots)) as (λ _. P (put_at k c slots))
    [ inl below ↦ subst P (sym (put-old slots k c below)) (old below) | inr past ↦ subst P (sym (put-new slots k c past)) (new (omega arith)) ]

pub put-same : (slots : List Connection) (k : ℕ) (c : Connection) → k ≤ length slots → connection_at k (put_at k c slots) ≡ c
put-same slots k c h = by-place (λ s. connection_at k s ≡ c) slots k c h
    (λ below. get_or-set_same slots k c no_connection below)
    (λ e. subst (λ j. connection_at j (slots ++ c ∷ []) ≡ c) (sym e) (last-at slots c))

pub put-other : (slots : List Connection) (i k : ℕ) (c : Connection) → k ≤ length slots → (i ≡ k → ⊥) → connection_at i (put_at k c slots) ≡ connection_at i slots
put-other slots i k c h n = by-place (λ s. connection_at i s ≡ connection_at i slots) slots k c h
    (λ below. get_or-set_other slots k i c no_connection n)
    (λ e. others-at slots c i (λ g. n (g ∙ sym e)))

pub put-length : (slots : List Connection) (i k : ℕ) (c : Connection) → k ≤ length slots → i < length (put_at k c slots) → (i ≡ k → ⊥) → i < length slots
put-length slots i k c h below n = by-place (λ s. i < length s → i < length slots) slots k c h
    (λ _ b. omega (arith, b, length-set slots k c))
    (λ e b. omega (arith, b, e, n, length-append slots (c ∷ []))) below

-- ---- all that is held may be sent

-- whether a number is in a list
abbrev pub is_in : ℕ → List ℕ → Bool
is_in i [] = false
is_in i (x ∷ xs) = (i == x) || is_in i xs

pub released-length : (which : List ℕ) (slots : List Connection) → length (released_at which slots) ≡ length slots
released-length [] slots = refl
released-length (k ∷ which) slots = released-length which (changed_at k released slots) ∙ changed-length slots k released

released-twice : (c : Connection) → released (released c) ≡ released c
released-twice c = ap (λ l. record c { ready = l; held = [] }) (append-nil (c.ready ++ c.held))

-- a slot whose connection holds nothing need not be among those that are released
pub released-all : (which : List ℕ) (slots : List Connection) (i : ℕ) → i < length slots
    → (is_in i which ≡ false → (connection_at i slots).held ≡ []) → connection_at i (released_at which slots) ≡ released (connection_at i slots)
released-all [] slots i below none = idle (connection_at i slots) (none refl)
  where
    idle : (c : Connection) → c.held ≡ [] → c ≡ released c
    idle c h = ap (λ l. record c { held = l }) h ∙ ap (λ l. record c { ready = l; held = [] }) (sym (append-nil c.ready) ∙ ap (λ l. c.ready ++ l) (sym h))
released-all (k ∷ which) slots i below none =
    let later : i < length (changed_at k released slots) = omega (arith, changed-length slots k released) in
    each (λ j. j < length slots → (is_in j (k ∷ which) ≡ false → (connection_at j slots).held ≡ [])
    → ((is_in j which ≡ false → (connection_at j (changed_at k released slots)).held ≡ []) → connection_at j (released_at which (changed_at k released slots)) ≡ released (connection_at j (changed_at k released slots)))
    → connection_at j (released_at which (changed_at k released slots)) ≡ released (connection_at j slots)) i k
    (λ b h ih. ih (λ _. ap (λ (c : Connection). c.held) (changed-same slots k released b)) ∙ ap released (changed-same slots k released b) ∙ released-twice (connection_at k slots))
    (λ n b h ih. ih (λ out. ap (λ (c : Connection). c.held) (changed-other slots i k released n) ∙ h (or_from (i == k) (is_in i which) (ne_eqb i k n) out)) ∙ ap released (changed-other slots i k released n))
    below none (released-all which (changed_at k released slots) i later)
