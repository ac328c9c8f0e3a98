-- What one more line does to each connection's own lines and replies.
use Rattle.std.proofs.Common.{◌≡◌, ◌≢◌, ℕ, ◌<◌, ◌≤◌, ◌+◌, Bool, true, false, cond, nat_lt, List, [], ◌∷◌, ◌++◌, length, refl, sym, ap, ◌∙◌, arith, append_assoc, append-nil, length-append}
use Rattle.std.specs.Prelude.{◌==◌, ◌&&◌, filter, map, flat_map}
use Rattle.std.proofs.lemmas.Bool.{eq-eqb, ne_eqb, and_left, and_right, and_from}
use Rattle.std.proofs.lemmas.List.{map-append}
use Rattle.std.proofs.lemmas.List.Elements.{filter-append}
use Rattle.std.proofs.lemmas.Grind.{flat_map-append}
use Rattle.lf_hub_clients.specs.Lines.{is_line_feed, longer, lines_after, begun_after}
use Rattle.lf_hub_clients.specs.Turns.{Turn}
use Rattle.lf_hub.specs.World.{is_line_of, own, own_lines, own_replies}

-- ---- lines of bytes that come in pieces

lines-append-next : (begun a b : List ℕ) (x : ℕ) (ends : Bool)
    → lines_after [] (a ++ b) ≡ lines_after [] a ++ lines_after (begun_after [] a) b
    → lines_after (longer begun x) (a ++ b) ≡ lines_after (longer begun x) a ++ lines_after (begun_after (longer begun x) a) b
    → cond ends (begun ∷ lines_after [] (a ++ b)) (lines_after (longer begun x) (a ++ b))
    ≡ cond ends (begun ∷ lines_after [] a) (lines_after (longer begun x) a) ++ lines_after (cond ends (begun_after [] a) (begun_after (longer begun x) a)) b
lines-append-next begun a b x true p q = ap (λ l. begun ∷ l) p
lines-append-next begun a b x false p q = q

pub lines-append : (begun a b : List ℕ) → lines_after begun (a ++ b) ≡ lines_after begun a ++ lines_after (begun_after begun a) b
lines-append begun [] b = refl
lines-append begun (x ∷ a) b = lines-append-next begun a b x (is_line_feed x) (lines-append [] a b) (lines-append (longer begun x) a b)

begun-append-next : (begun a b : List ℕ) (x : ℕ) (ends : Bool)
    → begun_after [] (a ++ b) ≡ begun_after (begun_after [] a) b
    → begun_after (longer begun x) (a ++ b) ≡ begun_after (begun_after (longer begun x) a) b
    → cond ends (begun_after [] (a ++ b)) (begun_after (longer begun x) (a ++ b))
    ≡ begun_after (cond ends (begun_after [] a) (begun_after (longer begun x) a)) b
begun-append-next begun a b x true p q = p
begun-append-next begun a b x false p q = q

pub begun-append : (begun a b : List ℕ) → begun_after begun (a ++ b) ≡ begun_after (begun_after begun a) b
begun-append begun [] b = refl
begun-append begun (x ∷ a) b = begun-append-next begun a b x (is_line_feed x) (begun-append [] a b) (begun-append (longer begun x) a b)

-- ---- own lines and replies

pub own-append : (n : ℕ) (a b : List Turn) → own n (a ++ b) ≡ own n a ++ own n b
own-append n a b = filter-append (is_line_of n) a b

pub own_lines-append : (n : ℕ) (a b : List Turn) → own_lines n (a ++ b) ≡ own_lines n a ++ own_lines n b
own_lines-append n a b = ap (map (λ (t : Turn). t.line)) (own-append n a b) ∙ map-append (λ (t : Turn). t.line) (own n a) (own n b)

pub own_replies-append : (n : ℕ) (a b : List Turn) → own_replies n (a ++ b) ≡ own_replies n a ++ own_replies n b
own_replies-append n a b = ap (flat_map (λ (t : Turn). t.reply)) (own-append n a b) ∙ flat_map-append (λ (t : Turn). t.reply) (own n a) (own n b)

-- a line of this connection
pub is-own : (n : ℕ) (t : Turn) → t.number ≡ n → t.is_own ≡ true → is_line_of n t ≡ true
is-own n t h o = and_from (t.number == n) t.is_own (eq-eqb t.number n h) o

-- and one that is not
pub not-own : (n : ℕ) (t : Turn) → (t.number ≡ n → ⊥) → is_line_of n t ≡ false
not-own n t h = and_left (t.number == n) t.is_own (ne_eqb t.number n h)

pub not-sent : (n : ℕ) (t : Turn) → t.is_own ≡ false → is_line_of n t ≡ false
not-sent n t o = and_right (t.number == n) t.is_own o

pub own-one : (n : ℕ) (t : Turn) → is_line_of n t ≡ true → own n (t ∷ []) ≡ t ∷ []
own-one n t h = rw h refl

pub own-none : (n : ℕ) (t : Turn) → is_line_of n t ≡ false → own n (t ∷ []) ≡ []
own-none n t h = rw h refl

pub lines-mine : (n : ℕ) (a : List Turn) (t : Turn) → is_line_of n t ≡ true → own_lines n (a ++ t ∷ []) ≡ own_lines n a ++ t.line ∷ []
lines-mine n a t h = own_lines-append n a (t ∷ []) ∙ ap (λ l. own_lines n a ++ map (λ (u : Turn). u.line) l) (own-one n t h)

pub lines-other : (n : ℕ) (a : List Turn) (t : Turn) → is_line_of n t ≡ false → own_lines n (a ++ t ∷ []) ≡ own_lines n a
lines-other n a t h = own_lines-append n a (t ∷ []) ∙ ap (λ l. own_lines n a ++ map (λ (u : Turn). u.line) l) (own-none n t h) ∙ append-nil (own_lines n a)

pub replies-mine : (n : ℕ) (a : List Turn) (t : Turn) → is_line_of n t ≡ true → own_replies n (a ++ t ∷ []) ≡ own_replies n a ++ t.reply
replies-mine n a t h = own_replies-append n a (t ∷ []) ∙ ap (λ l. own_replies n a ++ flat_map (λ (u : Turn). u.reply) l) (own-one n t h) ∙ ap (λ l. own_replies n a ++ l) (append-nil t.reply)

pub replies-other : (n : ℕ) (a : List Turn) (t : Turn) → is_line_of n t ≡ false → own_replies n (a ++ t ∷ []) ≡ own_replies n a
replies-other n a t h = own_replies-append n a (t ∷ []) ∙ ap (λ l. own_replies n a ++ flat_map (λ (u : Turn). u.reply) l) (own-none n t h) ∙ append-nil (own_replies n a)

-- the lines of a world with one more
pub turns-push : (safe held : List Turn) (t : Turn) → safe ++ (held ++ t ∷ []) ≡ (safe ++ held) ++ t ∷ []
turns-push safe held t = sym (append_assoc safe held (t ∷ []))
