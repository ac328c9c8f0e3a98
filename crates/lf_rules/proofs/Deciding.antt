-- The facts about a candidate that are decided: each holds or does not hold.
use Rattle.std.proofs.Common.{◌≡◌, ◌⊎◌, ℕ, zero, suc, ℤ, pos, negsuc, ◌*◌, ◌%◌, ◌/◌, ◌<◌, ◌≤◌, ◌+ℤ◌, ◌-ℤ◌, ◌*ℤ◌, ◌<ℤ◌, ◌≤ℤ◌, List, [], ◌∷◌, length, Option, Some, None, inl, inr, refl, sym, ap, subst, arith, slice_get}
use Rattle.std.specs.Prelude.{All, Any, MatchOption}
use Rattle.std.proofs.lemmas.Int.{ints}
use Rattle.std.proofs.Math.Nat.{mul-mod_left}
use Rattle.std.proofs.lemmas.List.Elements.{All-nil, All-cons, All-head, All-tail}
use Rattle.lf_units.specs.declared.geometry.Rect.{Rect}
use Rattle.lf_units.specs.Area.{Covers, SharesPoint, CoveredBy}
use Rattle.lf_units.proofs.Edges.{edges_of_shared, shared_of_edges}
use Rattle.lf_floorplan.specs.declared.frame.Frame.{Frame}
use Rattle.lf_floorplan.specs.declared.parts.Row.{Row}
use Rattle.lf_floorplan.specs.declared.parts.Team.{Team}
use Rattle.lf_floorplan.specs.RowSupport.{IsSitesHigh, IsBottomRow, IsRowOfBox, Supports, rail_alternated}
use Rattle.lf_floorplan.specs.Ground.{InGround}
use Rattle.std.specs.Option.{option_map}
use Rattle.lf_orient.specs.declared.Rail.{Rail}
use Rattle.lf_orient.specs.declared.Rail.TheVariants.{Ground, Power}
use Rattle.lf_orient.specs.Orientation.{rail_below}

abbrev pub Settles : Type 0 → Type 0
Settles A = A ⊎ (A → ⊥)

pub both : {A B : Type 0} → Settles A → Settles B → Settles (A × B)
both (inl a) (inl b) = inl (a, b)
both (inl a) (inr n) = inr (λ p. n p.1)
both (inr n) b = inr (λ p. n p.0)

pub implied : {A B : Type 0} → Settles A → Settles B → Settles (A → B)
implied (inr n) b = inl (λ a. absurd (n a))
implied (inl a) (inl b) = inl (λ _. b)
implied (inl a) (inr n) = inr (λ f. n (f a))

pub turned_round : {A B : Type 0} → (A → B) → (B → A) → Settles A → Settles B
turned_round f g (inl a) = inl (f a)
turned_round f g (inr n) = inr (λ b. n (g b))

pub none : {A : Type 0} → Settles A → Settles (A → ⊥)
none (inl a) = inr (λ n. n a)
none (inr n) = inl n

pub at_most : (a b : ℤ) → Settles (a ≤ℤ b)
at_most a b = elim order [ inl h ↦ inl h | inr h ↦ inr (λ g. omega (arith, ints, g, h)) ]
  where
    order : (a ≤ℤ b) ⊎ (b <ℤ a)
    order = grind (arith, ints)

pub below : (a b : ℤ) → Settles (a <ℤ b)
below a b = elim order [ inl h ↦ inl h | inr h ↦ inr (λ g. omega (arith, ints, g, h)) ]
  where
    order : (a <ℤ b) ⊎ (b ≤ℤ a)
    order = grind (arith, ints)

pub same : (a b : ℤ) → Settles (a ≡ b)
same a b = elim (at_most a b) [
  | inl h ↦ elim (at_most b a) [ inl g ↦ inl (omega (arith, ints, g, h)) | inr n ↦ inr (λ e. n (omega (arith, ints, e))) ]
  | inr n ↦ inr (λ e. n (omega (arith, ints, e)))
]

pub each : {X : Type 0} (P : X → Type 0) → ((x : X) → Settles (P x)) → (xs : List X) → Settles (All P xs)
each P d [] = inl (All-nil P)
each P d (x ∷ xs) = elim (d x) [
  | inr n ↦ inr (λ h. n (All-head P x xs h))
  | inl p ↦ elim (each P d xs) [ inl q ↦ inl (All-cons P x xs p q) | inr n ↦ inr (λ h. n (All-tail P x xs h)) ]
]

-- One element of the list has the property, or no element has it.
pub one_or_none : {X : Type 0} (P : X → Type 0) → ((x : X) → Settles (P x)) → (xs : List X) → Any P xs ⊎ All (λ x. P x → ⊥) xs
one_or_none P d [] = inr (All-nil (λ x. P x → ⊥))
one_or_none P d (x ∷ xs) = elim (d x) [
  | inl p ↦ inl (0, x, omega arith, refl, p)
  | inr n ↦ elim (one_or_none P d xs) [
    | inl a ↦ inl (suc a.0, a.1, omega (arith, a.2), a.3, a.4)
    | inr q ↦ inr (All-cons (λ x. P x → ⊥) x xs n q)
  ]
]

pub some : {X : Type 0} (P : X → Type 0) → ((x : X) → Settles (P x)) → (xs : List X) → Settles (Any P xs)
some P d xs = elim (one_or_none P d xs) [
  | inl a ↦ inl a
  | inr n ↦ inr (λ a. n a.0 a.1 a.2 (rw a.3 a.4))
]

-- For each number below n.
pub each_below : (P : ℕ → Type 0) → ((k : ℕ) → Settles (P k)) → (n : ℕ) → Settles ((k : ℕ) → k < n → P k)
each_below P d zero = inl (λ k l. absurd (omega arith))
each_below P d (suc n) = elim (d n) [
  | inr no_one ↦ inr (λ h. no_one (h n (omega arith)))
  | inl p ↦ elim (each_below P d n) [
    | inr no_one ↦ inr (λ h. no_one (λ k l. h k (omega arith)))
    | inl q ↦ inl (λ k l. last P n k p q (omega arith))
  ]
]
  where
    last : (P : ℕ → Type 0) (n k : ℕ) → P n → ((j : ℕ) → j < n → P j) → k ≤ n → P k
    last P n k p q most = elim order [ inl less ↦ q k less | inr is ↦ subst P (sym is) p ]
      where
        order : (k < n) ⊎ (k ≡ n)
        order = grind arith

either_of : (n k : ℕ) → k ≤ n → (k < n) ⊎ (k ≡ n)
either_of n k most = grind arith

pub some_below : (P : ℕ → Type 0) → ((k : ℕ) → Settles (P k)) → (n : ℕ) → Settles ((k : ℕ) × (k < n) × P k)
some_below P d zero = inr (λ s. let l = s.1 in omega arith)
some_below P d (suc n) = elim (d n) [
  | inl p ↦ inl (n, omega arith, p)
  | inr no_one ↦ elim (some_below P d n) [
    | inl s ↦ let l = s.1 in inl (s.0, omega arith, s.2)
    | inr q ↦ inr (λ s. let l = s.1 in elim (either_of n s.0 (omega arith)) [ inl less ↦ q (s.0, less, s.2) | inr is ↦ no_one (subst P is s.2) ])
  ]
]

pub either : {A B : Type 0} → Settles A → Settles B → Settles (A ⊎ B)
either (inl a) b = inl (inl a)
either (inr n) (inl b) = inl (inr b)
either (inr n) (inr m) = inr (λ s. elim s [ inl a ↦ n a | inr b ↦ m b ])

steps_to : (lo z : ℤ) → lo ≤ℤ z → (k : ℕ) × (z ≡ (lo +ℤ pos k))
steps_to lo z l = by (z -ℤ lo) refl
  where
    by : (d : ℤ) → d ≡ (z -ℤ lo) → (k : ℕ) × (z ≡ (lo +ℤ pos k))
    by (pos k) e = (k, omega (arith, ints))
    by (negsuc k) e = absurd (omega (arith, ints))

-- For each number of a range.
pub on_range : (P : ℤ → Type 0) → ((z : ℤ) → Settles (P z)) → (lo hi : ℤ) → Settles ((z : ℤ) → lo ≤ℤ z → z <ℤ hi → P z)
on_range P d lo hi = elim (at_most lo hi) [
  | inr none_there ↦ inl (λ z a b. absurd (none_there (omega (arith, ints, a, b))))
  | inl some_there ↦
      let w = steps_to lo hi some_there in
      let wide = w.1 in
      turned_round
      (λ h z a b. let k = steps_to lo z a in let is = k.1 in subst P (sym is) (h k.0 (omega (arith, ints, is, wide, b))))
      (λ h k l. h (lo +ℤ pos k) (omega (arith, ints)) (omega (arith, ints, wide, l)))
      (each_below (λ k. P (lo +ℤ pos k)) (λ k. d (lo +ℤ pos k)) w.0)
]

pub same_count : (a b : ℕ) → Settles (a ≡ b)
same_count a b = elim order [ inl h ↦ inl h | inr r ↦ elim r [ inl l ↦ inr (λ e. omega arith) | inr m ↦ inr (λ e. omega arith) ] ]
  where
    order : (a ≡ b) ⊎ ((a < b) ⊎ (b < a))
    order = grind arith

-- ---- rows

pub tall : (f : Frame) (box : Rect) (k : ℕ) → Settles (IsSitesHigh f box k)
tall f box k = turned_round (λ p. record { least = p.0.0; most = p.0.1; high = p.1 }) (λ t. ((t.least, t.most), t.high)) (both (both (up 1 k) (up k 8)) (same _ _))
  where
    up : (a b : ℕ) → Settles (a ≤ b)
    up a b = elim order [ inl h ↦ inl h | inr h ↦ inr (λ g. omega arith) ]
      where
        order : (a ≤ b) ⊎ (b < a)
        order = grind arith

pub some_height : (f : Frame) (box : Rect) → Settles ((k : ℕ) × IsSitesHigh f box k)
some_height f box =
    turned_round (λ s. (s.0, s.2)) (λ h. let most = h.1.most in (h.0, omega arith, h.1)) (some_below (λ k. IsSitesHigh f box k) (tall f box) 9)

pub under : (f : Frame) (box : Rect) (j : ℕ) (r : Row) → Settles (IsRowOfBox f box j r)
under f box j r = turned_round (λ p. record { at_level = p.0.0; left = p.0.1; right = p.1 }) (λ u. ((u.at_level, u.left), u.right))
    (both (both (same _ _) (at_most _ _)) (at_most _ _))

on_steps : (v s : ℤ) → pos 0 <ℤ s → Settles ((n : ℕ) × (v ≡ (pos n *ℤ s)))
on_steps (pos v) (pos s) rising = elim order [
  | inl e ↦ inl (v / s, ap pos (omega arith))
  | inr above ↦ inr (λ n. let is : v ≡ n.0 * s = cc in let z : v % s ≡ 0 = rw is (mul-mod_left n.0 s) in omega arith)
]
  where
    order : (v % s ≡ 0) ⊎ (0 < v % s)
    order = grind arith
on_steps (negsuc v) (pos s) rising = inr (λ n. let e = n.1 in omega (arith, ints))
on_steps v (negsuc s) rising = absurd (omega (arith, ints))

pub some_bottom : (f : Frame) (box : Rect) → Settles ((r : Row) × IsBottomRow f box r)
some_bottom f box =
    turned_round
    (λ a. (a.1, record { core_ones = (a.0, a.2, a.3); at_bottom = a.4.0; site = a.4.1.0; on_grid = a.4.1.1 }))
    (λ h. (h.1.core_ones.0, h.0, h.1.core_ones.1, h.1.core_ones.2, (h.1.at_bottom, (h.1.site, h.1.on_grid))))
    (some (λ r. IsRowOfBox f box 0 r × ((site : ℕ) × (box.x1 -ℤ r.x ≡ pos site *ℤ f.pitch.x))) (λ r. both (under f box 0 r) (on_steps (box.x1 -ℤ r.x) f.pitch.x f.pitch_whole.wide)) f.rows)

pub same_rail : (a b : Option Rail) → Settles (a ≡ b)
same_rail None None = inl refl
same_rail None (Some b) = inr (λ e. cc)
same_rail (Some a) None = inr (λ e. cc)
same_rail (Some Ground) (Some Ground) = inl refl
same_rail (Some Ground) (Some Power) = inr (λ e. cc)
same_rail (Some Power) (Some Ground) = inr (λ e. cc)
same_rail (Some Power) (Some Power) = inl refl

pub some_carrying : (f : Frame) (box : Rect) (r : Row) (j : ℕ) → Settles ((s : Row) × Supports f box r j s)
some_carrying f box r j =
    turned_round
    (λ a. (a.1, record { core_ones = (a.0, a.2, a.3); at_row = a.4.0; rail = a.4.1 }))
    (λ h. (h.1.core_ones.0, h.0, h.1.core_ones.1, h.1.core_ones.2, (h.1.at_row, h.1.rail)))
    (some (λ s. IsRowOfBox f box j s × (rail_below s.orient ≡ option_map (rail_alternated j) (rail_below r.orient))) (λ s. both (under f box j s) (same_rail _ _)) f.rows)

-- ---- the areas

pub covers : (r : Rect) (x y : ℤ) → Settles (Covers r x y)
covers r x y = turned_round (λ p. record { left = p.0.0; right = p.0.1; bottom = p.1.0; top = p.1.1 }) (λ c. ((c.left, c.right), (c.bottom, c.top)))
    (both (both (at_most r.x1 x) (below x r.x2)) (both (at_most r.y1 y) (below y r.y2)))

pub in_ground : (f : Frame) (team : ℕ) (x y : ℤ) → Settles (InGround f team x y)
in_ground f team x y = by_team (slice_get f.teams team)
  where
    by_team : (o : Option Team) → Settles (MatchOption o ((team ≡ length f.teams) × All (λ u. CoveredBy u.rects x y → ⊥) f.teams) (λ u. CoveredBy u.rects x y))
    by_team None = both (same_count team (length f.teams)) (each (λ u. CoveredBy u.rects x y → ⊥) (λ u. none (some (λ r. Covers r x y) (λ r. covers r x y) u.rects)) f.teams)
    by_team (Some u) = some (λ r. Covers r x y) (λ r. covers r x y) u.rects

pub shares : (a b : Rect) → Settles (SharesPoint a b)
shares a b = turned_round (shared_of_edges a b) (edges_of_shared a b)
    (turned_round
    (λ p. record { wide_first = p.0.0.0; wide_second = p.0.0.1; high_first = p.0.1.0; high_second = p.0.1.1; left = p.1.0.0; right = p.1.0.1; below = p.1.1.0; above = p.1.1.1 })
    (λ e. (((e.wide_first, e.wide_second), (e.high_first, e.high_second)), ((e.left, e.right), (e.below, e.above))))
    (both (both (both (below _ _) (below _ _)) (both (below _ _) (below _ _))) (both (both (below _ _) (below _ _)) (both (below _ _) (below _ _)))))

pub all_in_ground : (f : Frame) (team : ℕ) (box : Rect) → Settles ((x y : ℤ) → Covers box x y → InGround f team x y)
all_in_ground f team box =
    turned_round
    (λ h x y c. h x c.left c.right y c.bottom c.top)
    (λ h x a b y p q. h x y record { left = a; right = b; bottom = p; top = q })
    (on_range (λ x. (y : ℤ) → box.y1 ≤ℤ y → y <ℤ box.y2 → InGround f team x y)
    (λ x. on_range (λ y. InGround f team x y) (λ y. in_ground f team x y) box.y1 box.y2) box.x1 box.x2)
