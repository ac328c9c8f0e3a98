-- Rows in order of their y: the order that a sort gives, the entries, and runs found by binary
-- search.
use Rattle.std.proofs.Common.{◌≡◌, ◌≢◌, ◌⊎◌, inl, inr, ℕ, ℤ, pos, ◌+◌, ◌-◌, ◌<◌, ◌≤◌, ◌≤ℤ◌, ◌<ℤ◌, zero, suc, true, false, refl, List, [], ◌∷◌, Some, slice_get, map}
use Rattle.std.proofs.Common.{◌++◌, length, get_or, take, drop, sym, ap, subst, ◌∙◌, arith, int_lt, eqb, Ordering}
use Rattle.std.specs.declared.cmp.Ordering.TheVariants.{Less, Equal, Greater}
use Rattle.std.specs.Prelude.{All, AllPairs, Any, Contains, IsPermutation}
use Rattle.std.specs.Ordering.{int_cmp, is_lt, ordering_then, MatchOrdering}
use Rattle.std.specs.Cmp.{int_ranks}
use Rattle.std.specs.List.Sorted.{IsPartitionedBy, IsPartitionPoint, IsSortedByKey}
use Rattle.std.proofs.lemmas.Bool.Decides.{Decides-eqb, eqb_tells}
use Rattle.std.proofs.lemmas.Cmp.{int_cmp_total, then_total, on_total}
use Rattle.std.proofs.lemmas.Int.{ints}
use Rattle.std.proofs.lemmas.List.{get_or_default, get_or-take, get_or-drop, get_or-map, length-take, length-drop, length-map, take-append-drop}
use Rattle.std.proofs.lemmas.List.Elements.{All-contains, Contains-get_or, Contains-append_left, Contains-append_right, Contains-append_cases}
use Rattle.std.proofs.lemmas.List.Sorted.{sorted_far, ranks_by, All-permutation, Contains-permutation, IsPermutation-map}
use Rattle.std.proofs.lemmas.Map.Keys.{IsDistinct-IsPermutation}
use Rattle.std.proofs.lemmas.Map.Made.{AllPairs-from_IsDistinct, IsDistinct-from_AllPairs}
use Rattle.std.proofs.lemmas.Option.{slice_get-get_or, slice_get_within, get_or_from_slice_get}
use Rattle.lf_units.proofs.Comparisons.{less_of, of_less, not_less_of}
use Rattle.lf_floorplan.specs.declared.frame.Frame.{Frame}
use Rattle.lf_floorplan.specs.declared.parts.Row.{Row}
use Rattle.lf_segments.specs.declared.rows_by_y.RowEntry.{RowEntry}
use Rattle.lf_segments.specs.RowsByY.{entry, entries_from, IsEntryOf, IsRowsByY, IsRunByY, PrecedesByY}

-- An entry that is not less by (y, x) comes no earlier.
not_less : (r s : Ordering) (a b : RowEntry) → MatchOrdering r (b.y <ℤ a.y) (b.y ≡ a.y) (a.y <ℤ b.y) → MatchOrdering s (b.x <ℤ a.x) (b.x ≡ a.x) (a.x <ℤ b.x) →
    is_lt (ordering_then r s) ≡ false → PrecedesByY a b
not_less Less s a b m n e = absurd cc
not_less Greater s a b m n e = inl m
not_less Equal Less a b m n e = absurd cc
not_less Equal Equal a b m n e = inr (sym m, omega (arith, ints, n))
not_less Equal Greater a b m n e = inr (sym m, omega (arith, ints, n))

pub precedes_of_sorted : (xs : List RowEntry) → IsSortedByKey {K = ℤ × ℤ} (λ e. (e.y, e.x)) (λ p q. ordering_then (int_cmp p.0 q.0) (int_cmp p.1 q.1)) xs →
    AllPairs PrecedesByY xs
precedes_of_sorted xs up i j d less within =
    let a : RowEntry = get_or xs i d in
    let b : RowEntry = get_or xs j d in
    let key : RowEntry → ℤ × ℤ = λ e. (e.y, e.x) in
    not_less (int_cmp b.y a.y) (int_cmp b.x a.x) a b (int_ranks b.y a.y) (int_ranks b.x a.x)
    (sorted_far (λ v w. is_lt (ordering_then (int_cmp v.y w.y) (int_cmp v.x w.x)))
    (ranks_by (then_total (on_total (λ (t : ℤ × ℤ). t.0) int_cmp_total) (on_total (λ (t : ℤ × ℤ). t.1) int_cmp_total)) key) xs up i j d (omega arith) within)

-- The entries of rows in their own order.
pub length-entries : (rows : List Row) (n : ℕ) → length (entries_from n rows) ≡ length rows
length-entries [] n = refl
length-entries (r ∷ rows) n = ap (λ (k : ℕ). suc k) (length-entries rows (n + 1))

pub entry_at : (rows : List Row) (n k : ℕ) (d : RowEntry) (e : Row) → k < length rows → get_or (entries_from n rows) k d ≡ entry (n + k) (get_or rows k e)
entry_at [] n k d e within = absurd (omega (arith, within))
entry_at (r ∷ rows) n zero d e within = let same : n ≡ n + 0 = omega arith in ap (λ (m : ℕ). entry m r) same
entry_at (r ∷ rows) n (suc k) d e within =
    let same : (n + 1) + k ≡ n + suc k = omega arith in
    entry_at rows (n + 1) k d e (omega (arith, within)) ∙ ap (λ (m : ℕ). entry m (get_or rows k e)) same

entry_first : (rows : List Row) (k : ℕ) (d : RowEntry) (e : Row) → k < length rows → get_or (entries_from 0 rows) k d ≡ entry k (get_or rows k e)
entry_first rows k d e within =
    let same : 0 + k ≡ k = omega arith in
    entry_at rows 0 k d e within ∙ ap (λ (m : ℕ). entry m (get_or rows k e)) same

pub some_row : (rows : List Row) (k : ℕ) → k < length rows → Row
some_row [] k within = absurd (omega (arith, within))
some_row (r ∷ rows) k within = r

known_first : (f : Frame) → All (IsEntryOf f) (entries_from 0 f.rows)
known_first f k d inside =
    let long = length-entries f.rows 0 in
    let within : k < length f.rows = omega (arith, long, inside) in
    let e = some_row f.rows k within in
    let one : IsEntryOf f (entry k (get_or f.rows k e)) = record { row = get_or f.rows k e; is_in_place = slice_get-get_or f.rows k e within; is = refl } in
    subst (IsEntryOf f) (sym (entry_first f.rows k d e within)) one

number_at : (rows : List Row) (k : ℕ) (d : RowEntry) → k < length rows → (get_or (entries_from 0 rows) k d).row ≡ k
number_at rows k d within = ap (λ (e : RowEntry). e.row) (entry_first rows k d (some_row rows k within) within)

abbrev number_of : RowEntry → ℕ
number_of e = e.row

abbrev pub no_entry : RowEntry
no_entry = record { y = pos 0; x = pos 0; row = 0 }

numbers_at : (rows : List Row) (k d : ℕ) → k < length rows → get_or (map number_of (entries_from 0 rows)) k d ≡ k
numbers_at rows k d within =
    let long = length-entries rows 0 in
    get_or-map number_of (entries_from 0 rows) k no_entry d (omega (arith, long, within)) ∙ number_at rows k no_entry within

-- No position occurs twice, and sorting preserves this.
numbers_differ : (rows : List Row) → AllPairs (λ m n. m ≢ n) (map number_of (entries_from 0 rows))
numbers_differ rows i j d less within same =
    let long = length-entries rows 0 in
    let mapped = length-map (entries_from 0 rows) number_of in
    let first = numbers_at rows i d (omega (arith, long, mapped, less, within)) in
    let second = numbers_at rows j d (omega (arith, long, mapped, within)) in
    omega (arith, first, second, same, less)

eqb_turned : (m n : ℕ) → eqb m n ≡ eqb n m
eqb_turned m n = elim (eqb_tells m n) [
  | inl same ↦ let At : ℕ → Type 0 = λ k. eqb m k ≡ eqb k m in subst At same.1 refl
  | inr apart ↦ elim (eqb_tells n m) [
    | inl other ↦ absurd (apart.1 (sym other.1))
    | inr other ↦ apart.0 ∙ sym other.0
  ]
]

rows_differ : (rows : List Row) (es : List RowEntry) → IsPermutation (entries_from 0 rows) es → AllPairs (λ a b. a.row ≢ b.row) es
rows_differ rows es moved i j d less within same =
    let long = length-map es number_of in
    let distinct = IsDistinct-IsPermutation eqb eqb_turned (map number_of (entries_from 0 rows)) (map number_of es)
    (IsPermutation-map number_of (entries_from 0 rows) es moved)
    (IsDistinct-from_AllPairs Decides-eqb (map number_of (entries_from 0 rows)) (numbers_differ rows)) in
    let apart : AllPairs (λ m n. m ≢ n) (map number_of es) = AllPairs-from_IsDistinct Decides-eqb (map number_of es) distinct in
    let first = get_or-map number_of es i d 0 (omega (arith, less, within)) in
    let second = get_or-map number_of es j d 0 within in
    apart i j 0 less (omega (arith, long, within)) (first ∙ same ∙ sym second)

row_there : (rows : List Row) (es : List RowEntry) (n : ℕ) → IsPermutation (entries_from 0 rows) es → n < length rows → Any (λ e. e.row ≡ n) es
row_there rows es n moved within =
    let long = length-entries rows 0 in
    let e : RowEntry = get_or (entries_from 0 rows) n no_entry in
    let first : Contains (entries_from 0 rows) e = Contains-get_or (entries_from 0 rows) n no_entry (omega (arith, long, within)) in
    let there : Contains es e = Contains-permutation (entries_from 0 rows) es e moved first in
    (there.0, e, there.1, there.2, number_at rows n no_entry within)

-- The entries of a frame's rows, sorted.
pub rows_by_y : (f : Frame) (es : List RowEntry) → IsPermutation (entries_from 0 f.rows) es → AllPairs PrecedesByY es → IsRowsByY f es
rows_by_y f es moved in_order = record {
  known = All-permutation (IsEntryOf f) (entries_from 0 f.rows) es moved (known_first f);
  each = λ n within. row_there f.rows es n moved within;
  once = rows_differ f.rows es moved;
  in_order = in_order;
}

-- The facts that a binary search by y gives about the entries in front of its result and after it.
pub no_lower : (a b : RowEntry) → PrecedesByY a b → a.y ≤ℤ b.y
no_lower a b (inl less) = omega (arith, ints, less)
no_lower a b (inr both) = let same = both.0 in omega (arith, ints, same)

pub heights_rise : (xs : List RowEntry) (i j : ℕ) (d : RowEntry) → AllPairs PrecedesByY xs → i ≤ j → j < length xs → (get_or xs i d).y ≤ℤ (get_or xs j d).y
heights_rise xs i j d pairs order within = elim same_or [
  | inl same ↦ let At : ℕ → Type 0 = λ n. (get_or xs i d).y ≤ℤ (get_or xs n d).y in subst At same (omega (arith, ints))
  | inr less ↦ no_lower (get_or xs i d) (get_or xs j d) (pairs i j d less within)
]
  where
    same_or : (i ≡ j) ⊎ (i < j)
    same_or = grind arith

pub parted_below : (xs : List RowEntry) (y : ℤ) → AllPairs PrecedesByY xs → IsPartitionedBy (λ e. int_lt e.y y) xs
parted_below xs y pairs i j d order within t =
    let later = heights_rise xs i j d pairs order within in
    let low = less_of (get_or xs j d).y y t in
    of_less (get_or xs i d).y y (omega (arith, ints, later, low))

pub below_y : (xs : List RowEntry) (y : ℤ) (n : ℕ) → IsPartitionPoint (λ e. int_lt e.y y ≡ true) (λ e. int_lt e.y y ≡ false) xs n →
    (k : ℕ) (d : RowEntry) → k < n → (get_or xs k d).y <ℤ y
below_y xs y n point k d less = less_of (get_or xs k d).y y (point.0 k d (omega arith) less)

pub from_y : (xs : List RowEntry) (y : ℤ) (n : ℕ) → IsPartitionPoint (λ e. int_lt e.y y ≡ true) (λ e. int_lt e.y y ≡ false) xs n →
    (k : ℕ) (d : RowEntry) → n ≤ k → k < length xs → y ≤ℤ (get_or xs k d).y
from_y xs y n point k d from within = not_less_of (get_or xs k d).y y (point.1 k d from within)

-- If an entry does not lie below y, no entry after it does.
pub from_first : (xs : List RowEntry) (y : ℤ) → AllPairs PrecedesByY xs → (n : ℕ) (e : RowEntry) → n < length xs → y ≤ℤ (get_or xs n e).y →
    (k : ℕ) (d : RowEntry) → n ≤ k → k < length xs → y ≤ℤ (get_or xs k d).y
from_first xs y pairs n e inside here k d from within =
    let there = subst (λ (g : RowEntry). y ≤ℤ g.y) (get_or_default xs n e d inside) here in
    let later = heights_rise xs n k d pairs from within in
    omega (arith, ints, there, later)

-- If the last entry lies below y, all of them do.
pub below_last : (xs : List RowEntry) (y : ℤ) → AllPairs PrecedesByY xs → (n : ℕ) (e : RowEntry) → n ≤ length xs → (0 < n → (get_or xs (n - 1) e).y <ℤ y) →
    (k : ℕ) (d : RowEntry) → k < n → (get_or xs k d).y <ℤ y
below_last xs y pairs n e bound here k d less =
    let there = subst (λ (g : RowEntry). g.y <ℤ y) (get_or_default xs (n - 1) e d (omega arith)) (here (omega arith)) in
    let later = heights_rise xs k (n - 1) d pairs (omega arith) (omega arith) in
    omega (arith, ints, there, later)

-- If an entry lies above y, all entries after it do.
pub above_first : (xs : List RowEntry) (y : ℤ) → AllPairs PrecedesByY xs → (n : ℕ) (e : RowEntry) → n < length xs → y <ℤ (get_or xs n e).y →
    (k : ℕ) (d : RowEntry) → n ≤ k → k < length xs → y <ℤ (get_or xs k d).y
above_first xs y pairs n e inside here k d from within =
    let there = subst (λ (g : RowEntry). y <ℤ g.y) (get_or_default xs n e d inside) here in
    let later = heights_rise xs n k d pairs from within in
    omega (arith, ints, there, later)

-- Two binary searches cut out a run.
pub run_by : (Below Within Above : ℤ → Type 0) (xs ys : List RowEntry) (f c : ℕ) → f ≤ length xs → ys ≡ drop f xs →
    ((k : ℕ) (d : RowEntry) → k < f → Below (get_or xs k d).y) →
    ((k : ℕ) (d : RowEntry) → k < c → k < length ys → Within (get_or ys k d).y) →
    ((k : ℕ) (d : RowEntry) → c ≤ k → k < length ys → Above (get_or ys k d).y) → IsRunByY Below Within Above xs (take c ys)
run_by Below Within Above xs ys f c bound same low inside high = record {
  before = take f xs;
  after_it = drop c ys;
  parts = sym (take-append-drop f xs) ∙ ap (λ (zs : List RowEntry). take f xs ++ zs) (sym same ∙ sym (take-append-drop c ys));
  below = λ k d at.
      let long = length-take f xs in
      let less : k < f = omega (arith, long, at) in
      subst (λ (e : RowEntry). Below e.y) (sym (get_or-take f xs k d less)) (low k d less);
  within = λ k d at.
      let long = length-take c ys in
      let less : k < c = omega (arith, long, at) in
      subst (λ (e : RowEntry). Within e.y) (sym (get_or-take c ys k d less)) (inside k d less (omega (arith, long, at)));
  above = λ k d at.
      let long = length-drop c ys in
      subst (λ (e : RowEntry). Above e.y) (sym (get_or-drop c ys k d)) (high (c + k) d (omega arith) (omega (arith, long, at)));
}

-- What holds from a position on holds for the rest.
pub rest_holds : (P : ℤ → Type 0) (xs ys : List RowEntry) (f : ℕ) → ys ≡ drop f xs →
    ((k : ℕ) (d : RowEntry) → f ≤ k → k < length xs → P (get_or xs k d).y) → All (λ e. P e.y) ys
rest_holds P xs ys f same from = subst (All (λ e. P e.y)) (sym same) rest
  where
    rest : All (λ e. P e.y) (drop f xs)
    rest k d inside =
        let long = length-drop f xs in
        subst (λ (e : RowEntry). P e.y) (sym (get_or-drop f xs k d)) (from (f + k) d (omega arith) (omega (arith, long, inside)))

pub exactly : (a b : ℤ) → a ≤ℤ b → b ≤ℤ a → a ≡ b
exactly a b first second = omega (arith, ints, first, second)

-- The entry that has a row's position has the row's y.
height_of : (f : Frame) (es : List RowEntry) (e : RowEntry) (n : ℕ) (r : Row) → All (IsEntryOf f) es → Contains es e → e.row ≡ n → slice_get f.rows n ≡ Some r →
    e.y ≡ r.y
height_of f es e n r known there number is_in_place =
    let one : IsEntryOf f e = All-contains (IsEntryOf f) es e known there in
    let At : ℕ → Type 0 = λ k. get_or f.rows k r ≡ one.row in
    let same : get_or f.rows n r ≡ one.row = subst At number (get_or_from_slice_get f.rows e.row one.row r one.is_in_place) in
    let rows : one.row ≡ r = sym same ∙ get_or_from_slice_get f.rows n r r is_in_place in
    ap (λ (x : RowEntry). x.y) one.is ∙ ap (λ (q : Row). q.y) rows

-- The entries of a run are in its range, and an entry in the range is in the run.
pub run_in_range : (Below Within Above : ℤ → Type 0) (f : Frame) (es run : List RowEntry) (n : ℕ) (r : Row) → IsRowsByY f es →
    IsRunByY Below Within Above es run → slice_get f.rows n ≡ Some r → Any (λ e. e.row ≡ n) run → Within r.y
run_in_range Below Within Above f es run n r rows part is_in_place (k, e, inside, is, number) =
    let in_run : Contains run e = (k, inside, is) in
    let in_rest : Contains (run ++ part.after_it) e = Contains-append_left run part.after_it e in_run in
    let in_parts : Contains (part.before ++ (run ++ part.after_it)) e = Contains-append_right part.before (run ++ part.after_it) e in_rest in
    let there : Contains es e = subst (λ (xs : List RowEntry). Contains xs e) (sym part.parts) in_parts in
    subst Within (height_of f es e n r rows.known there number is_in_place) (All-contains (λ x. Within x.y) run e part.within in_run)

pub range_in_run : (Below Within Above : ℤ → Type 0) (f : Frame) (es run : List RowEntry) (n : ℕ) (r : Row) → ((v : ℤ) → Below v → Within v → ⊥) →
    ((v : ℤ) → Above v → Within v → ⊥) → IsRowsByY f es → IsRunByY Below Within Above es run → slice_get f.rows n ≡ Some r → Within r.y →
    Any (λ e. e.row ≡ n) run
range_in_run Below Within Above f es run n r not_below not_above rows part is_in_place within =
    elim (Contains-append_cases part.before (run ++ part.after_it) e (subst (λ (xs : List RowEntry). Contains xs e) part.parts there)) [
      | inl before ↦ absurd (not_below r.y (subst Below height (All-contains (λ x. Below x.y) part.before e part.below before)) within)
      | inr rest ↦ elim (Contains-append_cases run part.after_it e rest) [
        | inl inside ↦ (inside.0, e, inside.1, inside.2, number)
        | inr after_it ↦ absurd (not_above r.y (subst Above height (All-contains (λ x. Above x.y) part.after_it e part.above after_it)) within)
      ]
    ]
  where
    found : Any (λ (x : RowEntry). x.row ≡ n) es
    found = rows.each n (slice_get_within f.rows n r is_in_place)

    e : RowEntry
    e = found.1

    there : Contains es e
    there = (found.0, found.2, found.3)

    number : e.row ≡ n
    number = found.4

    height : e.y ≡ r.y
    height = height_of f es e n r rows.known there number is_in_place

pub lower_is_not : (y v : ℤ) → v <ℤ y → v ≡ y → ⊥
lower_is_not y v less same = omega (arith, ints, less, same)

pub higher_is_not : (y v : ℤ) → y <ℤ v → v ≡ y → ⊥
higher_is_not y v more same = omega (arith, ints, more, same)

pub lower_is_out : (from to v : ℤ) → v <ℤ from → (from ≤ℤ v) × (v <ℤ to) → ⊥
lower_is_out from to v less (low, high) = omega (arith, ints, less, low)

pub higher_is_out : (from to v : ℤ) → to ≤ℤ v → (from ≤ℤ v) × (v <ℤ to) → ⊥
higher_is_out from to v more (low, high) = omega (arith, ints, more, high)
