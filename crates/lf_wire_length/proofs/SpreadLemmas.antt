-- The spread of numbers: its laws.
use Rattle.std.proofs.Common.{◌≡◌, ◌+◌, ◌≤◌, ℤ, ◌+ℤ◌, ◌-ℤ◌, ◌≤ℤ◌, inl, inr, List, [], ◌∷◌, map, Option, Some, None, All, arith, refl, ap, ap₂, ◌∙◌, unsigned_abs, IfSome}
use Rattle.std.specs.Int.{int_max, int_min}
use Rattle.std.specs.List.{fold, filter_map, cons_option}
use Rattle.std.specs.List.Sorted.{IsPermutation}
use Rattle.std.proofs.lemmas.Int.{ints, clamps, fold-int_max_bounds, fold-int_max_reached, fold-int_min_bounds, fold-int_min_reached}
use Rattle.std.proofs.lemmas.List.Elements.{All-cons, All-head, All-tail, All-contains, All-nil, All-map}
use Rattle.std.proofs.lemmas.List.Sorted.{All-permutation, IsPermutation-sym}
use Rattle.lf_wire_length.specs.declared.points.HalfPoint.{HalfPoint}
use Rattle.lf_wire_length.specs.Length.{around, spread, shifted_point}

-- A greatest number is at least each number that each of them is below.
max_below : (z : ℤ) (zs : List ℤ) (g : ℤ) → All (λ x. x ≤ℤ g) (z ∷ zs) → fold int_max z zs ≤ℤ g
max_below z zs g all = elim (fold-int_max_reached z zs (fold int_max z zs) refl) [
  | inl first ↦ rw first (All-head (λ x. x ≤ℤ g) z zs all)
  | inr other ↦ All-contains (λ x. x ≤ℤ g) zs (fold int_max z zs) (All-tail (λ x. x ≤ℤ g) z zs all) other
]

min_above : (z : ℤ) (zs : List ℤ) (g : ℤ) → All (λ x. g ≤ℤ x) (z ∷ zs) → g ≤ℤ fold int_min z zs
min_above z zs g all = elim (fold-int_min_reached z zs (fold int_min z zs) refl) [
  | inl first ↦ rw first (All-head (λ x. g ≤ℤ x) z zs all)
  | inr other ↦ All-contains (λ x. g ≤ℤ x) zs (fold int_min z zs) (All-tail (λ x. g ≤ℤ x) z zs all) other
]

all_below_max : (z : ℤ) (zs : List ℤ) → All (λ x. x ≤ℤ fold int_max z zs) (z ∷ zs)
all_below_max z zs =
    let b : (z ≤ℤ fold int_max z zs) × All (λ x. x ≤ℤ fold int_max z zs) zs = fold-int_max_bounds z zs (fold int_max z zs) refl in
    All-cons (λ x. x ≤ℤ fold int_max z zs) z zs b.0 b.1

all_above_min : (z : ℤ) (zs : List ℤ) → All (λ x. fold int_min z zs ≤ℤ x) (z ∷ zs)
all_above_min z zs =
    let b : (fold int_min z zs ≤ℤ z) × All (λ x. fold int_min z zs ≤ℤ x) zs = fold-int_min_bounds z zs (fold int_min z zs) refl in
    All-cons (λ x. fold int_min z zs ≤ℤ x) z zs b.0 b.1

wider : (low lower high higher : ℤ) → lower ≤ℤ low → low ≤ℤ high → high ≤ℤ higher → unsigned_abs (high -ℤ low) ≤ unsigned_abs (higher -ℤ lower)
wider low lower high higher a b c = grind (arith, ints)

-- One number more never lessens the spread.
pub spread_grows : (z : ℤ) (zs : List ℤ) → spread zs ≤ spread (z ∷ zs)
spread_grows z [] = omega arith
spread_grows z (w ∷ ws) =
    let g = fold int_max z (w ∷ ws) in
    let l = fold int_min z (w ∷ ws) in
    let most : fold int_max w ws ≤ℤ g = max_below w ws g (All-tail (λ x. x ≤ℤ g) z (w ∷ ws) (all_below_max z (w ∷ ws))) in
    let least : l ≤ℤ fold int_min w ws = min_above w ws l (All-tail (λ x. l ≤ℤ x) z (w ∷ ws) (all_above_min z (w ∷ ws))) in
    let over : w ≤ℤ fold int_max w ws = All-head (λ x. x ≤ℤ fold int_max w ws) w ws (all_below_max w ws) in
    let under : fold int_min w ws ≤ℤ w = All-head (λ x. fold int_min w ws ≤ℤ x) w ws (all_above_min w ws) in
    wider (fold int_min w ws) l (fold int_max w ws) g least (omega (arith, ints)) most

one_order : (a b : ℤ) → a ≤ℤ b → b ≤ℤ a → a ≡ b
one_order a b p q = omega (arith, ints)

-- Two lists have the same spread if whatever holds of one list's numbers holds of the other's.
pub same_spread : (zs ws : List ℤ) → ((P : ℤ → Type 0) → All P zs → All P ws) → ((P : ℤ → Type 0) → All P ws → All P zs) → spread zs ≡ spread ws
same_spread [] [] there back = refl
same_spread [] (w ∷ ws) there back = absurd (All-head (λ _. ⊥) w ws (there (λ _. ⊥) (All-nil (λ _. ⊥))))
same_spread (z ∷ zs) [] there back = absurd (All-head (λ _. ⊥) z zs (back (λ _. ⊥) (All-nil (λ _. ⊥))))
same_spread (z ∷ zs) (w ∷ ws) there back =
    let g = fold int_max z zs in
    let h = fold int_max w ws in
    let l = fold int_min z zs in
    let m = fold int_min w ws in
    let greatest : g ≡ h = one_order g h (max_below z zs h (back (λ x. x ≤ℤ h) (all_below_max w ws))) (max_below w ws g (there (λ x. x ≤ℤ g) (all_below_max z zs))) in
    let least : l ≡ m = one_order l m (min_above w ws l (there (λ x. l ≤ℤ x) (all_above_min z zs))) (min_above z zs m (back (λ x. m ≤ℤ x) (all_above_min w ws))) in
    rw (greatest, least) refl

-- ---- numbers that are moved alike

max_moved : (d a b : ℤ) → int_max (d +ℤ a) (d +ℤ b) ≡ d +ℤ int_max a b
max_moved d a b = omega (arith, ints, clamps)

min_moved : (d a b : ℤ) → int_min (d +ℤ a) (d +ℤ b) ≡ d +ℤ int_min a b
min_moved d a b = omega (arith, ints, clamps)

fold_max_moved : (d z : ℤ) (zs : List ℤ) → fold int_max (d +ℤ z) (map (λ x. d +ℤ x) zs) ≡ d +ℤ fold int_max z zs
fold_max_moved d z [] = refl
fold_max_moved d z (w ∷ ws) = ap (λ a. fold int_max a (map (λ x. d +ℤ x) ws)) (max_moved d z w) ∙ fold_max_moved d (int_max z w) ws

fold_min_moved : (d z : ℤ) (zs : List ℤ) → fold int_min (d +ℤ z) (map (λ x. d +ℤ x) zs) ≡ d +ℤ fold int_min z zs
fold_min_moved d z [] = refl
fold_min_moved d z (w ∷ ws) = ap (λ a. fold int_min a (map (λ x. d +ℤ x) ws)) (min_moved d z w) ∙ fold_min_moved d (int_min z w) ws

difference_moved : (d a b : ℤ) → (d +ℤ a) -ℤ (d +ℤ b) ≡ a -ℤ b
difference_moved d a b = omega (arith, ints)

pub spread_moved : (d : ℤ) (zs : List ℤ) → spread (map (λ x. d +ℤ x) zs) ≡ spread zs
spread_moved d [] = refl
spread_moved d (z ∷ zs) =
    ap₂ (λ a b. unsigned_abs (a -ℤ b)) (fold_max_moved d z zs) (fold_min_moved d z zs)
    ∙ ap unsigned_abs (difference_moved d (fold int_max z zs) (fold int_min z zs))

x_moved : (dx dy : ℤ) (points : List HalfPoint) → map (λ p. p.x) (map (shifted_point dx dy) points) ≡ map (λ x. dx +ℤ x) (map (λ p. p.x) points)
x_moved dx dy [] = refl
x_moved dx dy (p ∷ points) = ap (λ zs. (dx +ℤ p.x) ∷ zs) (x_moved dx dy points)

y_moved : (dx dy : ℤ) (points : List HalfPoint) → map (λ p. p.y) (map (shifted_point dx dy) points) ≡ map (λ y. dy +ℤ y) (map (λ p. p.y) points)
y_moved dx dy [] = refl
y_moved dx dy (p ∷ points) = ap (λ zs. (dy +ℤ p.y) ∷ zs) (y_moved dx dy points)

pub around_moved : (dx dy : ℤ) (points : List HalfPoint) → around (map (shifted_point dx dy) points) ≡ around points
around_moved dx dy points =
    ap₂ (λ a b. a + b)
    (ap spread (x_moved dx dy points) ∙ spread_moved dx (map (λ p. p.x) points))
    (ap spread (y_moved dx dy points) ∙ spread_moved dy (map (λ p. p.y) points))

-- ---- one point more

pub around_grows : (o : Option HalfPoint) (points : List HalfPoint) → around points ≤ around (cons_option o points)
around_grows None points = omega arith
around_grows (Some p) points =
    let across : spread (map (λ q. q.x) points) ≤ spread (p.x ∷ map (λ q. q.x) points) = spread_grows p.x (map (λ q. q.x) points) in
    let up : spread (map (λ q. q.y) points) ≤ spread (p.y ∷ map (λ q. q.y) points) = spread_grows p.y (map (λ q. q.y) points) in
    omega arith

no_difference : (z : ℤ) → unsigned_abs (z -ℤ z) ≡ 0
no_difference z = grind (arith, ints)

pub around_one : (o : Option HalfPoint) → around (cons_option o []) ≡ 0
around_one None = refl
around_one (Some p) = ap₂ (λ a b. a + b) (no_difference p.x) (no_difference p.y)

-- ---- the order of pins

holds_first : {X : Type 0} (P : X → Type 0) (o : Option X) (xs : List X) → All P (cons_option o xs) → IfSome o P
holds_first P None xs all = tt
holds_first P (Some x) xs all = All-head P x xs all

holds_rest : {X : Type 0} (P : X → Type 0) (o : Option X) (xs : List X) → All P (cons_option o xs) → All P xs
holds_rest P None xs all = all
holds_rest P (Some x) xs all = All-tail P x xs all

holds_all : {X : Type 0} (P : X → Type 0) (o : Option X) (xs : List X) → IfSome o P → All P xs → All P (cons_option o xs)
holds_all P None xs first rest = rest
holds_all P (Some x) xs first rest = All-cons P x xs first rest

pub holds_before : {A X : Type 0} (P : X → Type 0) (f : A → Option X) (ps : List A) → All P (filter_map f ps) → All (λ a. IfSome (f a) P) ps
holds_before P f [] all = All-nil (λ a. IfSome (f a) P)
holds_before P f (a ∷ ps) all =
    All-cons (λ a. IfSome (f a) P) a ps (holds_first P (f a) (filter_map f ps) all)
    (holds_before P f ps (holds_rest P (f a) (filter_map f ps) all))

pub holds_after : {A X : Type 0} (P : X → Type 0) (f : A → Option X) (ps : List A) → All (λ a. IfSome (f a) P) ps → All P (filter_map f ps)
holds_after P f [] all = All-nil P
holds_after P f (a ∷ ps) all =
    holds_all P (f a) (filter_map f ps) (All-head (λ a. IfSome (f a) P) a ps all)
    (holds_after P f ps (All-tail (λ a. IfSome (f a) P) a ps all))

mapped_back : {X Y : Type 0} (P : X → Type 0) (g : Y → X) (ys : List Y) → All P (map g ys) → All (λ y. P (g y)) ys
mapped_back P g [] all = All-nil (λ y. P (g y))
mapped_back P g (y ∷ ys) all = All-cons (λ y. P (g y)) y ys (All-head P (g y) (map g ys) all) (mapped_back P g ys (All-tail P (g y) (map g ys) all))

-- What holds of the coordinates of one order's points holds of those of the other.
along : {A : Type 0} (g : HalfPoint → ℤ) (f : A → Option HalfPoint) (ps qs : List A) → IsPermutation ps qs → (P : ℤ → Type 0) → All P (map g (filter_map f ps)) → All P (map g (filter_map f qs))
along g f ps qs same P all =
    All-map P g (filter_map f qs)
    (holds_after (λ p. P (g p)) f qs
    (All-permutation (λ a. IfSome (f a) (λ p. P (g p))) ps qs same
    (holds_before (λ p. P (g p)) f ps (mapped_back P g (filter_map f ps) all))))

pub around_permuted : {A : Type 0} (f : A → Option HalfPoint) (ps qs : List A) → IsPermutation ps qs → around (filter_map f ps) ≡ around (filter_map f qs)
around_permuted f ps qs same =
    let other = IsPermutation-sym ps qs same in
    ap₂ (λ a b. a + b)
    (same_spread _ _ (along (λ p. p.x) f ps qs same) (along (λ p. p.x) f qs ps other))
    (same_spread _ _ (along (λ p. p.y) f ps qs same) (along (λ p. p.y) f qs ps other))
