-- The last of the rows at a y that do not begin right of an x.
use Rattle.std.proofs.Common.{◌≡◌, ◌⊎◌, inl, inr, ℕ, ℤ, ◌-◌, ◌<◌, ◌≤◌, ◌≤ℤ◌, ◌<ℤ◌, true, false, refl, List, length, get_or, sym, ap, subst, ◌∙◌, arith, int_le, int_lt}
use Rattle.std.specs.Prelude.{Bool, AllPairs, if◌then◌else◌}
use Rattle.std.specs.List.Sorted.{IsPartitionedBy, IsPartitionPoint}
use Rattle.std.proofs.lemmas.Int.{ints}
use Rattle.std.proofs.lemmas.List.{get_or_default}
use Rattle.std.proofs.lemmas.List.Elements.{Contains-get_or}
use Rattle.lf_segments.specs.declared.rows_by_y.RowEntry.{RowEntry}
use Rattle.lf_segments.specs.RowsByY.{BeginsUpTo, IsUpToPoint, is_up_to_point, IsLastAt, PrecedesByY}
use Rattle.lf_units.proofs.Comparisons.{less_of, most_of, not_less_of, of_less, of_most}
use Rattle.lf_segments.proofs.HeightLemmas.{exactly, heights_rise}

-- A choice of three.
pub record IsThird (a b c : Bool) : Type 0 where
  pub first : a ≡ false
  pub second : b ≡ false
  pub third : c ≡ true

parts_of : (a b c : Bool) → (if a then true else (if b then false else c)) ≡ true → (a ≡ true) ⊎ IsThird a b c
parts_of true b c e = inl refl
parts_of false true c e = absurd cc
parts_of false false c e = inr record { first = refl; second = refl; third = e }

of_first : (a b c : Bool) → a ≡ true → (if a then true else (if b then false else c)) ≡ true
of_first true b c e = refl
of_first false b c e = absurd cc

of_third : (a b c : Bool) → b ≡ false → c ≡ true → (if a then true else (if b then false else c)) ≡ true
of_third true b c e g = refl
of_third false false c e g = g
of_third false true c e g = absurd cc

not_less : (a b : ℤ) → b ≤ℤ a → int_lt a b ≡ false
not_less a b h = grind (arith, ints)

comes_of : (y x : ℤ) (e : RowEntry) → is_up_to_point y x e ≡ true → IsUpToPoint y x e
comes_of y x e t = elim (parts_of (int_lt e.y y) (int_lt y e.y) (int_le e.x x) t) [
  | inl below ↦ inl (less_of e.y y below)
  | inr at ↦ inr (exactly e.y y (not_less_of y e.y at.second) (not_less_of e.y y at.first), most_of e.x x at.third)
]

of_comes : (y x : ℤ) (e : RowEntry) → IsUpToPoint y x e → is_up_to_point y x e ≡ true
of_comes y x e (inl below) = of_first (int_lt e.y y) (int_lt y e.y) (int_le e.x x) (of_less e.y y below)
of_comes y x e (inr at) =
    let same = at.0 in
    of_third (int_lt e.y y) (int_lt y e.y) (int_le e.x x) (not_less y e.y (omega (arith, ints, same))) (of_most e.x x at.1)

-- An entry in front of one that lies up to the point lies up to it too.
earlier : (y x : ℤ) (a b : RowEntry) → PrecedesByY a b → IsUpToPoint y x b → IsUpToPoint y x a
earlier y x a b (inl lower) (inl below) = inl (omega (arith, ints, lower, below))
earlier y x a b (inl lower) (inr at) = let same = at.0 in inl (omega (arith, ints, lower, same))
earlier y x a b (inr level) (inl below) = let same = level.0 in inl (omega (arith, ints, same, below))
earlier y x a b (inr level) (inr at) =
    let left = level.1 in
    let by = at.1 in
    inr (level.0 ∙ at.0, omega (arith, ints, left, by))

pub parted_by : (xs : List RowEntry) (y x : ℤ) → AllPairs PrecedesByY xs → IsPartitionedBy (λ e. is_up_to_point y x e) xs
parted_by xs y x pairs i j d order within t = elim same_or [
  | inl same ↦ let At : ℕ → Type 0 = λ n. is_up_to_point y x (get_or xs n d) ≡ true in subst At (sym same) t
  | inr less ↦ of_comes y x (get_or xs i d) (earlier y x (get_or xs i d) (get_or xs j d) (pairs i j d less within) (comes_of y x (get_or xs j d) t))
]
  where
    same_or : (i ≡ j) ⊎ (i < j)
    same_or = grind arith

pub by_point : (xs : List RowEntry) (y x : ℤ) (n : ℕ) → IsPartitionPoint (λ e. is_up_to_point y x e ≡ true) (λ e. is_up_to_point y x e ≡ false) xs n →
    (k : ℕ) (d : RowEntry) → k < n → IsUpToPoint y x (get_or xs k d)
by_point xs y x n point k d less = comes_of y x (get_or xs k d) (point.0 k d (omega arith) less)

pub rest_point : (xs : List RowEntry) (y x : ℤ) (n : ℕ) → IsPartitionPoint (λ e. is_up_to_point y x e ≡ true) (λ e. is_up_to_point y x e ≡ false) xs n →
    (k : ℕ) (d : RowEntry) → n ≤ k → k < length xs → IsUpToPoint y x (get_or xs k d) → ⊥
rest_point xs y x n point k d from within comes =
    let yes = of_comes y x (get_or xs k d) comes in
    let no = point.1 k d from within in
    absurd cc

-- If the last entry in front of a position lies up to the point, all in front of it do.
pub by_last : (xs : List RowEntry) (y x : ℤ) → AllPairs PrecedesByY xs → (n : ℕ) (e : RowEntry) → 0 < n → n ≤ length xs →
    is_up_to_point y x (get_or xs (n - 1) e) ≡ true → (k : ℕ) (d : RowEntry) → k < n → IsUpToPoint y x (get_or xs k d)
by_last xs y x pairs n e some bound here k d less =
    let there : is_up_to_point y x (get_or xs (n - 1) d) ≡ true =
    subst (λ (g : RowEntry). is_up_to_point y x g ≡ true) (get_or_default xs (n - 1) e d (omega arith)) here in
    comes_of y x (get_or xs k d) (parted_by xs y x pairs k (n - 1) d (omega arith) (omega arith) there)

-- If the entry at a position does not lie up to the point, no entry from there on does.
pub rest_first : (xs : List RowEntry) (y x : ℤ) → AllPairs PrecedesByY xs → (n : ℕ) (e : RowEntry) → n < length xs →
    is_up_to_point y x (get_or xs n e) ≡ false → (k : ℕ) (d : RowEntry) → n ≤ k → k < length xs → IsUpToPoint y x (get_or xs k d) → ⊥
rest_first xs y x pairs n e inside here k d from within comes =
    let no : is_up_to_point y x (get_or xs n d) ≡ false =
    subst (λ (g : RowEntry). is_up_to_point y x g ≡ false) (get_or_default xs n e d inside) here in
    let yes : is_up_to_point y x (get_or xs n d) ≡ true = parted_by xs y x pairs n k d from within (of_comes y x (get_or xs k d) comes) in
    absurd cc

-- The last entry that lies up to the point, in a list in order.
pub none_level : (xs : List RowEntry) (y x : ℤ) (n : ℕ) (e : RowEntry) → AllPairs PrecedesByY xs → 0 < n → n ≤ length xs →
    ((k : ℕ) (d : RowEntry) → n ≤ k → k < length xs → IsUpToPoint y x (get_or xs k d) → ⊥) → (get_or xs (n - 1) e).y <ℤ y →
    (k : ℕ) (d : RowEntry) → k < length xs → BeginsUpTo y x (get_or xs k d) → ⊥
none_level xs y x n e pairs some bound rest below k d within begins = elim order [
  | inl less ↦
      let up : (get_or xs k d).y ≤ℤ (get_or xs (n - 1) d).y = heights_rise xs k (n - 1) d pairs (omega arith) (omega arith) in
      let same : (get_or xs (n - 1) d).y ≡ (get_or xs (n - 1) e).y = ap (λ (v : RowEntry). v.y) (get_or_default xs (n - 1) d e (omega arith)) in
      let level = begins.at_level in
      omega (arith, ints, up, same, below, level)
  | inr from ↦ rest k d from within (inr (begins.at_level, begins.left))
]
  where
    order : (k < n) ⊎ (n ≤ k)
    order = grind arith

left_of : (a b : RowEntry) → PrecedesByY a b → a.y ≡ b.y → a.x ≤ℤ b.x
left_of a b (inl lower) same = absurd (omega (arith, ints, lower, same))
left_of a b (inr level) same = level.1

level_of : (y x : ℤ) (e : RowEntry) → y ≤ℤ e.y → IsUpToPoint y x e → BeginsUpTo y x e
level_of y x e above (inl below) = absurd (omega (arith, ints, above, below))
level_of y x e above (inr at) = record { at_level = at.0; left = at.1 }

pub last_level : (xs : List RowEntry) (y x : ℤ) (n : ℕ) (e : RowEntry) → AllPairs PrecedesByY xs → 0 < n → n ≤ length xs →
    ((k : ℕ) (d : RowEntry) → k < n → IsUpToPoint y x (get_or xs k d)) →
    ((k : ℕ) (d : RowEntry) → n ≤ k → k < length xs → IsUpToPoint y x (get_or xs k d) → ⊥) → y ≤ℤ (get_or xs (n - 1) e).y →
    IsLastAt xs y x (get_or xs (n - 1) e)
last_level xs y x n e pairs some bound by rest above = record {
  there = Contains-get_or xs (n - 1) e inside;
  begins = level;
  last = λ k d within begins. elim (order k) [
    | inl less ↦
        let same : get_or xs (n - 1) d ≡ get_or xs (n - 1) e = get_or_default xs (n - 1) d e inside in
        let levels : (get_or xs k d).y ≡ (get_or xs (n - 1) e).y = begins.at_level ∙ sym level.at_level in
        left_of (get_or xs k d) (get_or xs (n - 1) e) (subst (PrecedesByY (get_or xs k d)) same (pairs k (n - 1) d less inside)) levels
    | inr (inl same) ↦
        let is : get_or xs k d ≡ get_or xs (n - 1) e = ap (λ (m : ℕ). get_or xs m d) same ∙ get_or_default xs (n - 1) d e inside in
        let at : (get_or xs k d).x ≡ (get_or xs (n - 1) e).x = ap (λ (v : RowEntry). v.x) is in
        omega (arith, ints, at)
    | inr (inr from) ↦ absurd (rest k d from within (inr (begins.at_level, begins.left)))
  ];
}
  where
    inside : n - 1 < length xs
    inside = omega arith

    level : BeginsUpTo y x (get_or xs (n - 1) e)
    level = level_of y x (get_or xs (n - 1) e) above (by (n - 1) e (omega arith))

    order : (k : ℕ) → (k < n - 1) ⊎ ((k ≡ n - 1) ⊎ (n ≤ k))
    order k = grind arith
