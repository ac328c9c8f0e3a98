-- Properties of the boxes of a team's other cells, cell by cell.
use Rattle.std.proofs.Common.{◌≡◌, ℕ, zero, suc, ◌+◌, Bool, true, false, cond, List, [], ◌∷◌, Option, Some, None, refl, ◌∙◌, ap, subst, arith, slice_get}
use Rattle.std.specs.Prelude.{All, filter, not, ◌==◌}
use Rattle.std.proofs.lemmas.Bool.Decides.{nat_tests}
use Rattle.std.proofs.lemmas.List.Elements.{All-nil, All-cons, All-head, All-tail}
use Rattle.lf_units.specs.declared.geometry.Rect.{Rect}
use Rattle.lf_floorplan.specs.declared.frame.Frame.{Frame}
use Rattle.lf_units.specs.declared.placed.Placed.{Placed}
use Rattle.lf_rules.specs.Choice.{SpotPlace}
use Rattle.lf_rules.specs.Team.{Member, box_in, with_box, boxes_from, boxes_beside}

-- A property of each element that passes the test holds for the filtered list.
pub filtered_hold : {X : Type 0} (P : X → Type 0) (test : X → Bool) (xs : List X) → All (λ x. test x ≡ true → P x) xs → All P (filter test xs)
filtered_hold P test [] h = All-nil P
filtered_hold P test (x ∷ xs) h = by (test x) refl (filtered_hold P test xs (All-tail (λ y. test y ≡ true → P y) x xs h))
  where
    by : (b : Bool) → test x ≡ b → All P (filter test xs) → All P (cond b (x ∷ filter test xs) (filter test xs))
    by true e rest = All-cons P x (filter test xs) (All-head (λ y. test y ≡ true → P y) x xs h e) rest
    by false e rest = rest

filtered_each : {X : Type 0} (P : X → Type 0) (test : X → Bool) (xs : List X) → All P (filter test xs) → All (λ x. test x ≡ true → P x) xs
filtered_each P test [] h = All-nil (λ x. test x ≡ true → P x)
filtered_each P test (x ∷ xs) h = by (test x) refl h (λ g. filtered_each P test xs g)
  where
    by : (b : Bool) → test x ≡ b → All P (cond b (x ∷ filter test xs) (filter test xs)) → (All P (filter test xs) → All (λ y. test y ≡ true → P y) xs) →
        All (λ y. test y ≡ true → P y) (x ∷ xs)
    by true e g rest = All-cons (λ y. test y ≡ true → P y) x xs (λ _. All-head P x (filter test xs) g) (rest (All-tail P x (filter test xs) g))
    by false e g rest = All-cons (λ y. test y ≡ true → P y) x xs (λ t. absurd cc) (rest g)

abbrev numbered : ℕ → Rect → Placed
numbered own rect = record { own = own; rect = rect }

one_hold : (Q : Placed → Type 0) (f : Frame) (own mac : ℕ) (place : Option SpotPlace) (rest : List Placed) →
    ((p : SpotPlace) → place ≡ Some p → Q (numbered own (box_in f mac p))) → All Q rest → All Q (with_box f own mac place rest)
one_hold Q f own mac None rest h all = all
one_hold Q f own mac (Some p) rest h all = All-cons Q (numbered own (box_in f mac p)) rest (h p refl) all

boxes_hold : (Q : Placed → Type 0) (f : Frame) (own : ℕ) (cells : List Member) →
    ((k : ℕ) (m : Member) (p : SpotPlace) → slice_get cells k ≡ Some m → m.place ≡ Some p → Q (numbered (own + k) (box_in f m.mac p))) → All Q (boxes_from f own cells)
boxes_hold Q f own [] h = All-nil Q
boxes_hold Q f own (x ∷ cells) h =
    one_hold Q f own x.mac x.place (boxes_from f (own + 1) cells)
    (λ p is. subst (λ (n : ℕ). Q (numbered n (box_in f x.mac p))) (omega arith) (h 0 x p refl is))
    (boxes_hold Q f (own + 1) cells (λ k m p there is. subst (λ (n : ℕ). Q (numbered n (box_in f m.mac p))) (omega arith) (h (suc k) m p there is)))

first_each : (Q : Placed → Type 0) (f : Frame) (own mac : ℕ) (place : Option SpotPlace) (rest : List Placed) → All Q (with_box f own mac place rest) →
    (p : SpotPlace) → place ≡ Some p → Q (numbered own (box_in f mac p))
first_each Q f own mac None rest all p is = absurd cc
first_each Q f own mac (Some q) rest all p is =
    let same : q ≡ p = cc in
    subst (λ (s : SpotPlace). Q (numbered own (box_in f mac s))) same (All-head Q (numbered own (box_in f mac q)) rest all)

rest_each : (Q : Placed → Type 0) (f : Frame) (own mac : ℕ) (place : Option SpotPlace) (rest : List Placed) → All Q (with_box f own mac place rest) → All Q rest
rest_each Q f own mac None rest all = all
rest_each Q f own mac (Some p) rest all = All-tail Q (numbered own (box_in f mac p)) rest all

boxes_each : (Q : Placed → Type 0) (f : Frame) (own : ℕ) (cells : List Member) → All Q (boxes_from f own cells) →
    (k : ℕ) (m : Member) (p : SpotPlace) → slice_get cells k ≡ Some m → m.place ≡ Some p → Q (numbered (own + k) (box_in f m.mac p))
boxes_each Q f own [] all k m p there is = absurd cc
boxes_each Q f own (x ∷ cells) all zero m p there is =
    let same : x ≡ m = cc in
    let placed : x.place ≡ Some p = ap (λ (y : Member). y.place) same ∙ is in
    let here : Q (numbered own (box_in f x.mac p)) = first_each Q f own x.mac x.place (boxes_from f (own + 1) cells) all p placed in
    subst (λ (n : ℕ). Q (numbered n (box_in f m.mac p))) (omega arith) (subst (λ (y : Member). Q (numbered own (box_in f y.mac p))) same here)
boxes_each Q f own (x ∷ cells) all (suc k) m p there is =
    subst (λ (n : ℕ). Q (numbered n (box_in f m.mac p))) (omega arith)
    (boxes_each Q f (own + 1) cells (rest_each Q f own x.mac x.place (boxes_from f (own + 1) cells) all) k m p there is)

other_number : (k own : ℕ) → not (k == own) ≡ true → k ≡ own → ⊥
other_number k own t e = grind (arith, nat_tests)

is_other : (k own : ℕ) → (k ≡ own → ⊥) → not (k == own) ≡ true
is_other k own differ = grind (arith, nat_tests)

abbrev test_of : ℕ → Placed → Bool
test_of own box = not (box.own == own)

pub beside_hold : (Q : Rect → Type 0) (f : Frame) (cells : List Member) (own : ℕ) →
    ((k : ℕ) (m : Member) (p : SpotPlace) → (k ≡ own → ⊥) → slice_get cells k ≡ Some m → m.place ≡ Some p → Q (box_in f m.mac p)) →
    All (λ box. Q box.rect) (boxes_beside f cells own)
beside_hold Q f cells own h =
    filtered_hold (λ box. Q box.rect) (test_of own) (boxes_from f 0 cells)
    (boxes_hold (λ box. test_of own box ≡ true → Q box.rect) f 0 cells
    (λ k m p there is t. h k m p (λ e. other_number (0 + k) own t (omega arith)) there is))

pub beside_each : (Q : Rect → Type 0) (f : Frame) (cells : List Member) (own : ℕ) → All (λ box. Q box.rect) (boxes_beside f cells own) →
    (k : ℕ) (m : Member) (p : SpotPlace) → (k ≡ own → ⊥) → slice_get cells k ≡ Some m → m.place ≡ Some p → Q (box_in f m.mac p)
beside_each Q f cells own all k m p differ there is =
    boxes_each (λ box. test_of own box ≡ true → Q box.rect) f 0 cells
    (filtered_each (λ box. Q box.rect) (test_of own) (boxes_from f 0 cells) all) k m p there is (is_other (0 + k) own (λ e. differ (omega arith)))
