-- The rows of one level, from left to right, and the free spans on the first of them.
use Rattle.std.proofs.Common.{◌≡◌, ◌≢◌, ◌⊎◌, inl, inr, ℕ, ℤ, pos, negsuc, ◌+◌, ◌*◌, ◌<◌, ◌≤◌, ◌+ℤ◌, ◌*ℤ◌, ◌≤ℤ◌, ◌<ℤ◌, List, [], ◌∷◌, ◌++◌, Some}
use Rattle.std.proofs.Common.{length, get_or, take, slice_get, sym, ap, subst, ◌∙◌, arith}
use Rattle.std.specs.Prelude.{◌↔◌, Any}
use Rattle.std.proofs.Math.Nat.{mul-le-mul_right}
use Rattle.std.proofs.lemmas.Int.{ints}
use Rattle.std.proofs.lemmas.List.{get_or_append_left, get_or-append-add, get_or-take, get_or_default, length-append, length-take, take_more, take_all}
use Rattle.std.proofs.lemmas.Option.{get_or_from_slice_get, slice_get_within}
use Rattle.lf_units.specs.Area.{SharesPoint}
use Rattle.lf_units.specs.declared.span.Span.{Span}
use Rattle.lf_units.proofs.Anys.{any_cases, any_head, any_left, any_nil, any_split}
use Rattle.lf_floorplan.specs.declared.frame.Frame.{Frame}
use Rattle.lf_floorplan.specs.declared.parts.Row.{Row}
use Rattle.lf_floorplan.specs.Rows.{IsCoreRow, row_area}
use Rattle.lf_segments.specs.declared.rows_by_y.RowEntry.{RowEntry}
use Rattle.lf_segments.specs.RowsByY.{entry, IsEntryOf, IsRowsByY, IsRunAt, PrecedesByY}
use Rattle.lf_segments.proofs.HeightLemmas.{run_in_range, range_in_run, lower_is_not, higher_is_not}
use Rattle.lf_segments.specs.Indexes.{IsIndexOf}
use Rattle.lf_legalize.specs.declared.row_search.RowSearch.{RowSearch}
use Rattle.lf_legalize.specs.RowSearches.{padding_in}
use Rattle.lf_legalize.specs.Levels.{AddsLevel, AreFreeOn, IsLevelRow, IsRailed}
use Rattle.lf_legalize.proofs.LevelLemmas.{LieLeft, any_right, free_append, free_as, same_row}

-- ---- rows by their positions

share_turned : (f : Frame) (a b : Row) → SharesPoint (row_area f.pitch a) (row_area f.pitch b) → SharesPoint (row_area f.pitch b) (row_area f.pitch a)
share_turned f a b m = record { x = m.x; y = m.y; in_first = m.in_second; in_second = m.in_first }

-- rows of different positions share no point
pub rows_differ : (f : Frame) (m n : ℕ) (a b : Row) → m ≢ n → slice_get f.rows m ≡ Some a → slice_get f.rows n ≡ Some b →
    SharesPoint (row_area f.pitch a) (row_area f.pitch b) → ⊥
rows_differ f m n a b differ p q meet = elim order [
  | inl less ↦ before m n a b less p q meet
  | inr rest ↦ elim rest [ inl same ↦ differ same | inr more ↦ before n m b a more q p (share_turned f a b meet) ]
]
  where
    order : (m < n) ⊎ ((m ≡ n) ⊎ (n < m))
    order = grind arith

    before : (i j : ℕ) (r s : Row) → i < j → slice_get f.rows i ≡ Some r → slice_get f.rows j ≡ Some s →
        SharesPoint (row_area f.pitch r) (row_area f.pitch s) → ⊥
    before i j r s less t u shares =
        let first : get_or f.rows i r ≡ r = get_or_from_slice_get f.rows i r r t in
        let second : get_or f.rows j r ≡ s = get_or_from_slice_get f.rows j s r u in
        f.rows_apart i j r less (slice_get_within f.rows j s u) (rw (first, second) shares)

pub core_at : (f : Frame) (n : ℕ) (r : Row) → slice_get f.rows n ≡ Some r → IsCoreRow f.pitch r
core_at f n r p = subst (IsCoreRow f.pitch) (get_or_from_slice_get f.rows n r r p) (f.rows_are_core n r (slice_get_within f.rows n r p))

some_sites : (sites : ℕ) (p : ℤ) → 1 ≤ sites → pos 0 <ℤ p → pos 0 <ℤ (pos sites *ℤ p)
some_sites sites (pos n) least wide =
    let more : 1 * n ≤ sites * n = mul-le-mul_right n least in
    omega (arith, ints, more, wide)
some_sites sites (negsuc n) least wide = absurd (omega (arith, ints, wide))

-- of two rows with the same y, the one that begins farther left ends no later than the other begins
ends_before : (f : Frame) (m n : ℕ) (a b : Row) → m ≢ n → slice_get f.rows m ≡ Some a → slice_get f.rows n ≡ Some b → a.y ≡ b.y → a.x ≤ℤ b.x →
    (row_area f.pitch a).x2 ≤ℤ b.x
ends_before f m n a b differ p q level left = elim order [ inl done ↦ done | inr over ↦ absurd (rows_differ f m n a b differ p q (shares over)) ]
  where
    order : ((row_area f.pitch a).x2 ≤ℤ b.x) ⊎ (b.x <ℤ (row_area f.pitch a).x2)
    order = grind (arith, ints)

    shares : b.x <ℤ (row_area f.pitch a).x2 → SharesPoint (row_area f.pitch a) (row_area f.pitch b)
    shares over =
        let high : pos 0 <ℤ f.pitch.y = f.pitch_whole.high in
        let long : pos 0 <ℤ (pos b.sites *ℤ f.pitch.x) = some_sites b.sites f.pitch.x (core_at f n b q).has_site f.pitch_whole.wide in
        record {
          x = b.x;
          y = b.y;
          in_first = record { left = left; right = over; bottom = omega (arith, ints, level); top = omega (arith, ints, level, high) };
          in_second = record { left = omega (arith, ints); right = omega (arith, ints, long); bottom = omega (arith, ints); top = omega (arith, ints, high) };
        }

-- ---- entries of a run

at_run : (es run : List RowEntry) (y : ℤ) (p : IsRunAt es y run) (i : ℕ) (d : RowEntry) → i < length run →
    get_or es (length p.before + i) d ≡ get_or run i d
at_run es run y p i d within =
    ap (λ (xs : List RowEntry). get_or xs (length p.before + i) d) p.parts ∙ get_or-append-add p.before (run ++ p.after_it) i d
    ∙ get_or_append_left run p.after_it d i within

inside : (es run : List RowEntry) (y : ℤ) (p : IsRunAt es y run) (i : ℕ) → i < length run → length p.before + i < length es
inside es run y p i within =
    let whole : length es ≡ length (p.before ++ (run ++ p.after_it)) = ap (λ (xs : List RowEntry). length xs) p.parts in
    let first : length (p.before ++ (run ++ p.after_it)) ≡ length p.before + length (run ++ p.after_it) = length-append p.before (run ++ p.after_it) in
    let second : length (run ++ p.after_it) ≡ length run + length p.after_it = length-append run p.after_it in
    omega (arith, whole, first, second, within)

pub entry_known : (f : Frame) (es run : List RowEntry) (y : ℤ) → IsRowsByY f es → IsRunAt es y run → (i : ℕ) (d : RowEntry) → i < length run →
    IsEntryOf f (get_or run i d)
entry_known f es run y rows p i d within =
    subst (IsEntryOf f) (at_run es run y p i d within) (rows.known (length p.before + i) d (inside es run y p i within))

pub entry_within : (f : Frame) (es run : List RowEntry) (y : ℤ) → IsRowsByY f es → IsRunAt es y run → (i : ℕ) (d : RowEntry) → i < length run →
    (get_or run i d).row < length f.rows
entry_within f es run y rows p i d within =
    let known = entry_known f es run y rows p i d within in
    slice_get_within f.rows (get_or run i d).row known.row known.is_in_place

entry_row : (f : Frame) (e : RowEntry) (r : Row) → IsEntryOf f e → slice_get f.rows e.row ≡ Some r → e ≡ entry e.row r
entry_row f e r known is_in_place = known.is ∙ ap (λ (q : Row). entry e.row q) (same_row f e.row known.row r known.is_in_place is_in_place)

goes_left : (a b : RowEntry) → PrecedesByY a b → a.y ≡ b.y → a.x ≤ℤ b.x
goes_left a b (inl less) same = absurd (omega (arith, ints, less, same))
goes_left a b (inr both) same = both.1

-- the row of an earlier entry of a run ends no later than that of a later one begins
entries_apart : (f : Frame) (es run : List RowEntry) (y : ℤ) → IsRowsByY f es → IsRunAt es y run → (i j : ℕ) (d : RowEntry) → i < j → j < length run →
    (a b : Row) → slice_get f.rows (get_or run i d).row ≡ Some a → slice_get f.rows (get_or run j d).row ≡ Some b → (row_area f.pitch a).x2 ≤ℤ b.x
entries_apart f es run y rows p i j d less within a b first second =
    let e : RowEntry = get_or run i d in
    let g : RowEntry = get_or run j d in
    let at_i : get_or es (length p.before + i) d ≡ e = at_run es run y p i d (omega (arith, less, within)) in
    let at_j : get_or es (length p.before + j) d ≡ g = at_run es run y p j d within in
    let later : length p.before + i < length p.before + j = omega (arith, less) in
    let known_i = entry_row f e a (entry_known f es run y rows p i d (omega (arith, less, within))) first in
    let known_j = entry_row f g b (entry_known f es run y rows p j d within) second in
    let y_i : e.y ≡ y = p.within i d (omega (arith, less, within)) in
    let y_j : g.y ≡ y = p.within j d within in
    let before : PrecedesByY e g = rw (← at_i, ← at_j) (rows.in_order (length p.before + i) (length p.before + j) d later (inside es run y p j within)) in
    let differ : e.row ≢ g.row = rw (← at_i, ← at_j) (rows.once (length p.before + i) (length p.before + j) d later (inside es run y p j within)) in
    let left = goes_left e g before (y_i ∙ sym y_j) in
    let x_a : e.x ≡ a.x = ap (λ (t : RowEntry). t.x) known_i in
    let x_b : g.x ≡ b.x = ap (λ (t : RowEntry). t.x) known_j in
    let y_a : e.y ≡ a.y = ap (λ (t : RowEntry). t.y) known_i in
    let y_b : g.y ≡ b.y = ap (λ (t : RowEntry). t.y) known_j in
    ends_before f e.row g.row a b differ first second (omega (arith, ints, y_a, y_b, y_i, y_j)) (omega (arith, ints, left, x_a, x_b))

-- ---- the free spans on the first rows of a run

-- the number is that of one of the first rows, and its rail is the bottom row's, changed j times
abbrev pub IsPassed : Frame → Row → ℕ → List RowEntry → ℕ → ℕ → Type 0
IsPassed f bottom j run count n = Any (λ e. e.row ≡ n) (take count run) × IsRailed f bottom j n

abbrev pub FreeSoFar : RowSearch → Row → ℕ → Span → List RowEntry → ℕ → List Span → Type 0
FreeSoFar s bottom j window run count free = AreFreeOn (IsPassed s.frame.now bottom j run count) s.occupancy.now s.id window (padding_in s) free

next_left : (f : Frame) (es run : List RowEntry) (y : ℤ) (bottom : Row) (j k : ℕ) (d : RowEntry) → IsRowsByY f es → IsRunAt es y run → k < length run →
    LieLeft f (IsPassed f bottom j run k) (λ n. (n ≡ (get_or run k d).row) × IsRailed f bottom j (get_or run k d).row)
next_left f es run y bottom j k d rows p within m n a b ((i, e, below, is, number), railed) (same, also) first second =
    let long : length (take k run) ≤ k = omega (arith, length-take k run) in
    let less : i < k = omega (arith, below, long) in
    let here : get_or run i d ≡ e = get_or_default run i d e (omega (arith, less, within)) ∙ sym (get_or-take k run i e less) ∙ is in
    let at_m : (get_or run i d).row ≡ m = ap (λ (t : RowEntry). t.row) here ∙ number in
    entries_apart f es run y rows p i k d less within a b (rw at_m first) (rw (← same) second)

more_rows : (f : Frame) (bottom : Row) (j : ℕ) (run : List RowEntry) (k : ℕ) (d : RowEntry) → k < length run → (n : ℕ) →
    (IsPassed f bottom j run k n ⊎ ((n ≡ (get_or run k d).row) × IsRailed f bottom j (get_or run k d).row)) ↔ IsPassed f bottom j run (k + 1) n
more_rows f bottom j run k d within n = (
  λ either. elim either [
    | inl p ↦ (rw (take_more run k d within) (any_left (λ e. e.row ≡ n) (take k run) (get_or run k d ∷ []) p.0), p.1)
    | inr q ↦ (
      rw (take_more run k d within) (any_right (λ e. e.row ≡ n) (take k run) (get_or run k d ∷ [])
          (any_head (λ e. e.row ≡ n) (get_or run k d) [] (sym q.0))),
      rw q.0 q.1,
    )
  ],
  λ p.
      let all : Any (λ (e : RowEntry). e.row ≡ n) (take k run ++ get_or run k d ∷ []) = rw (← take_more run k d within) p.0 in
      elim (any_split (λ e. e.row ≡ n) (take k run) (get_or run k d ∷ []) all) [
        | inl a ↦ inl (a, p.1)
        | inr a ↦ elim (any_cases (λ e. e.row ≡ n) (get_or run k d) [] a) [
          | inl same ↦ inr (sym same, rw same p.1)
          | inr none ↦ absurd (any_nil (λ e. e.row ≡ n) none)
        ]
      ],
)

pub free_next : (s : RowSearch) (es run : List RowEntry) (y : ℤ) (bottom : Row) (j : ℕ) (window : Span) (k : ℕ) (d : RowEntry) (old new : List Span) →
    IsIndexOf s.frame.now s.occupancy.now.index → IsRowsByY s.frame.now es → IsRunAt es y run → k < length run → FreeSoFar s bottom j window run k old →
    AddsLevel s bottom j (get_or run k d).row window old new → FreeSoFar s bottom j window run (k + 1) new
free_next s es run y bottom j window k d old new strips rows p within free adds =
    let f = s.frame.now in
    let First = IsPassed f bottom j run k in
    let Second : ℕ → Type 0 = λ n. (n ≡ (get_or run k d).row) × IsRailed f bottom j (get_or run k d).row in
    subst (FreeSoFar s bottom j window run (k + 1)) (sym adds.is)
    (free_as (λ n. First n ⊎ Second n) (IsPassed f bottom j run (k + 1)) s.occupancy.now s.id window (padding_in s) (old ++ adds.added)
    (more_rows f bottom j run k d within)
    (free_append First Second f s.occupancy.now s.id window (padding_in s) old adds.added strips (next_left f es run y bottom j k d rows p within) free adds.free))

level_rows : (f : Frame) (es run : List RowEntry) (y : ℤ) (bottom : Row) (j k : ℕ) → IsRowsByY f es → IsRunAt es y run → length run ≤ k →
    y ≡ bottom.y +ℤ (pos j *ℤ f.pitch.y) → (n : ℕ) → IsPassed f bottom j run k n ↔ IsLevelRow f bottom j n
level_rows f es run y bottom j k rows p all level n = (
  λ passed.
      let in_run : Any (λ (e : RowEntry). e.row ≡ n) run = rw (← take_all k run all) passed.0 in
      let r : Row = passed.1.row in
      let at : r.y ≡ y = run_in_range (λ v. v <ℤ y) (λ v. v ≡ y) (λ v. y <ℤ v) f es run n r rows p passed.1.is_in_place in_run in
      record { row = r; is_in_place = passed.1.is_in_place; at_level = at ∙ level; rail = passed.1.rail },
  λ l. (
    rw (take_all k run all) (range_in_run (λ v. v <ℤ y) (λ v. v ≡ y) (λ v. y <ℤ v) f es run n l.row (lower_is_not y) (higher_is_not y) rows p l.is_in_place
        (l.at_level ∙ sym level)),
    record { row = l.row; is_in_place = l.is_in_place; rail = l.rail },
  ),
)

pub free_end : (s : RowSearch) (es run : List RowEntry) (y : ℤ) (bottom : Row) (j : ℕ) (window : Span) (k : ℕ) (free : List Span) → IsRowsByY s.frame.now es →
    IsRunAt es y run → length run ≤ k → y ≡ bottom.y +ℤ (pos j *ℤ s.frame.now.pitch.y) → FreeSoFar s bottom j window run k free →
    AreFreeOn (IsLevelRow s.frame.now bottom j) s.occupancy.now s.id window (padding_in s) free
free_end s es run y bottom j window k free rows p all level so_far =
    free_as (IsPassed s.frame.now bottom j run k) (IsLevelRow s.frame.now bottom j) s.occupancy.now s.id window (padding_in s) free
    (level_rows s.frame.now es run y bottom j k rows p all level) so_far
