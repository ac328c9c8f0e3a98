-- The free spans on rows: where they lie, and those on more rows.
use Rattle.std.proofs.Common.{◌≡◌, ◌⊎◌, inl, inr, ℕ, zero, suc, ℤ, pos, ◌+◌, ◌<◌, ◌-ℤ◌, ◌≤ℤ◌, List, [], ◌∷◌, ◌++◌, Some}
use Rattle.std.proofs.Common.{length, get_or, map, slice_get, Vec, Global, refl, sym, ap, subst, ◌∙◌, arith}
use Rattle.std.specs.Prelude.{◌↔◌, All, Any}
use Rattle.std.specs.Option.{option_map}
use Rattle.std.proofs.lemmas.Int.{ints}
use Rattle.std.proofs.lemmas.List.{append-nil, get_or_append_left, get_or-append-add, length-append, map-append}
use Rattle.std.proofs.lemmas.List.Elements.{All-head, All-tail, All-append, All-cons}
use Rattle.std.proofs.lemmas.List.Kept.{AllPairs-cons}
use Rattle.lf_units.proofs.Any.{any_mapped}
use Rattle.lf_orient.specs.Orientation.{rail_below}
use Rattle.lf_units.specs.declared.span.Span.{Span}
use Rattle.lf_units.specs.Spans.{HoldsNumber, IsFilled, IsRising, LiesIn, LiesInOneOf}
use Rattle.lf_units.proofs.Anys.{any_nil, any_head, any_tail, any_left, any_split, any_weaker}
use Rattle.lf_units.proofs.SpanEdges.{rising_nil, rising_tail, rising_after}
use Rattle.lf_floorplan.specs.declared.frame.Frame.{Frame}
use Rattle.lf_floorplan.specs.declared.parts.Row.{Row}
use Rattle.lf_floorplan.specs.Rows.{row_area}
use Rattle.lf_floorplan.specs.RowSupport.{rail_alternated}
use Rattle.lf_segments.specs.declared.segment.Segment.{Segment}
use Rattle.lf_segments.specs.Segments.{IsCut, IsOf, IsOpen, IsSegment, LiesInSegment}
use Rattle.lf_cells.specs.declared.cell.CellId.{CellId}
use Rattle.lf_segments.specs.declared.strip.Strip.{Strip}
use Rattle.lf_occupancy.specs.Views.{Occupied, IsFreeOver, IsStripOf}
use Rattle.lf_segments.specs.Indexes.{IsIndexOf}
use Rattle.lf_segments.specs.Strips.{strip_of}
use Rattle.lf_legalize.specs.declared.row_search.RowSearch.{RowSearch}
use Rattle.lf_legalize.specs.RowSearches.{padding_in}
use Rattle.lf_legalize.specs.Levels.{AddsLevel, AreFreeOn, AreLevels, HasBareLevel, IsFreeOnOne, IsFreeOnRow, IsLevel, IsLevelRow, AreOpenInRow, IsRailed}

-- ---- lists of spans

rising_cons : (x : Span) (xs : List Span) → IsFilled x → All (λ t. x.hi ≤ℤ t.lo) xs → IsRising xs → IsRising (x ∷ xs)
rising_cons x xs filled after rising = record {
  filled = All-cons IsFilled x xs filled rising.filled;
  apart = AllPairs-cons (λ s t. s.hi ≤ℤ t.lo) x xs after rising.apart;
}

-- spans that lie left of others, placed in front of them
rising_append : (xs ys : List Span) → IsRising xs → IsRising ys → All (λ x. All (λ y. x.hi ≤ℤ y.lo) ys) xs → IsRising (xs ++ ys)
rising_append [] ys first second left = second
rising_append (x ∷ xs) ys first second left =
    rising_cons x (xs ++ ys) (All-head IsFilled x xs first.filled)
    (All-append (λ t. x.hi ≤ℤ t.lo) xs ys (rising_after x xs first) (All-head (λ t. All (λ y. t.hi ≤ℤ y.lo) ys) x xs left))
    (rising_append xs ys (rising_tail x xs first) second (All-tail (λ t. All (λ y. t.hi ≤ℤ y.lo) ys) x xs left))

pub any_right : {X : Type 0} (P : X → Type 0) (xs ys : List X) → Any P ys → Any P (xs ++ ys)
any_right P [] ys a = a
any_right P (x ∷ xs) ys a = any_tail P x (xs ++ ys) (any_right P xs ys a)

-- a span of a list lies in one of the list's spans
pub own_one : (xs : List Span) (k : ℕ) (d : Span) → k < length xs → LiesInOneOf xs (get_or xs k d)
own_one [] k d within = absurd (omega (arith, within))
own_one (x ∷ xs) zero d within = any_head (λ t. LiesIn x t) x xs (λ y h. h)
own_one (x ∷ xs) (suc k) d within = any_tail (λ t. LiesIn (get_or xs k d) t) x xs (own_one xs k d (omega (arith, within)))

-- ---- where a free span lies

-- the team may use the row of this number over the span
pub record IsOpenOver (f : Frame) (team n : ℕ) (s : Span) : Type 0 where
  pub row : Row
  pub is_in_place : slice_get f.rows n ≡ Some row
  pub is_open : (x : ℤ) → HoldsNumber s x → IsOpen f f.obstacles row team x

row_there : (rows : List Row) (n : ℕ) → n < length rows → (r : Row) × (slice_get rows n ≡ Some r)
row_there [] n within = absurd (omega (arith, within))
row_there (r ∷ rows) zero within = (r, refl)
row_there (r ∷ rows) (suc n) within = row_there rows n (omega (arith, within))

segment_of_strip : (f : Frame) (o : Occupied) (id : CellId) (padding : ℤ) (n : ℕ) (s : Span) (segments : List Segment) →
    Any (λ g. IsStripOf n id.team g × IsFreeOver o id padding g s) (map (strip_of f) segments) → LiesInSegment segments n id.team s
segment_of_strip f o id padding n s segments a =
    any_weaker (λ g. IsStripOf n id.team (strip_of f g) × IsFreeOver o id padding (strip_of f g) s) (λ g. IsOf n id.team g × LiesIn s g.span)
    (λ g both. (record { in_row = both.0.in_row; of_team = both.0.of_team }, both.1.within))
    segments (any_mapped (strip_of f) (λ g. IsStripOf n id.team g × IsFreeOver o id padding g s) segments a)

pub lies_in_segment : (f : Frame) (o : Occupied) (id : CellId) (window : Span) (padding : ℤ) (n : ℕ) (s : Span) → IsIndexOf f o.index →
    IsFreeOnRow o id window padding n s → LiesInSegment o.index.segments n id.team s
lies_in_segment f o id window padding n s h free =
    segment_of_strip f o id padding n s o.index.segments
    (subst (λ (gs : List Strip). Any (λ g. IsStripOf n id.team g × IsFreeOver o id padding g s) gs) h.strips free.in_strip)

number_known : (f : Frame) (segments : List Segment) (n team : ℕ) (s : Span) → IsCut f segments → LiesInSegment segments n team s → n < length f.rows
number_known f segments n team s cut (k, g, below, is, both) =
    let known : IsSegment f g = subst (IsSegment f) is (cut.known k g below) in
    let same : g.row ≡ n = both.0.in_row in
    let within : g.row < length f.rows = known.row_known in
    omega (arith, same, within)

pub open_over : (f : Frame) (o : Occupied) (id : CellId) (window : Span) (padding : ℤ) (n : ℕ) (s : Span) → IsIndexOf f o.index → IsFilled s →
    IsFreeOnRow o id window padding n s → IsOpenOver f id.team n s
open_over f o id window padding n s h filled free =
    let lies = lies_in_segment f o id window padding n s h free in
    let there = row_there f.rows n (number_known f o.index.segments n id.team s h.segments lies) in
    record { row = there.0; is_in_place = there.1; is_open = (h.segments.exact n there.0 id.team s there.1 filled).0 lies }

-- a free span lies within its row
pub record IsOverRow (f : Frame) (n : ℕ) (s : Span) : Type 0 where
  pub row : Row
  pub is_in_place : slice_get f.rows n ≡ Some row
  pub left : row.x ≤ℤ s.lo
  pub right : s.hi ≤ℤ (row_area f.pitch row).x2

pub over_row : (f : Frame) (o : Occupied) (id : CellId) (window : Span) (padding : ℤ) (n : ℕ) (s : Span) → IsIndexOf f o.index → IsFilled s →
    IsFreeOnRow o id window padding n s → IsOverRow f n s
over_row f o id window padding n s h filled free =
    let there = open_over f o id window padding n s h filled free in
    let first = there.is_open s.lo record { low = omega (arith, ints); high = filled } in
    let last = there.is_open (s.hi -ℤ pos 1) record { low = omega (arith, ints); high = omega (arith, ints) } in
    let most = last.clear.right in
    record { row = there.row; is_in_place = there.is_in_place; left = first.clear.left; right = omega (arith, ints, most) }

-- ---- what is free on more rows

-- each row of the first lies left of each of the second
abbrev pub LieLeft : Frame → (ℕ → Type 0) → (ℕ → Type 0) → Type 0
LieLeft f First Second =
    (m n : ℕ) (a b : Row) → First m → Second n → slice_get f.rows m ≡ Some a → slice_get f.rows n ≡ Some b → (row_area f.pitch a).x2 ≤ℤ b.x

free_one : (First Second : ℕ → Type 0) (o : Occupied) (id : CellId) (window : Span) (padding : ℤ) (s : Span) → ((n : ℕ) → First n → Second n) →
    IsFreeOnOne First o id window padding s → IsFreeOnOne Second o id window padding s
free_one First Second o id window padding s f one = record { number = one.number; among = f one.number one.among; free = one.free }

pub free_as : (First Second : ℕ → Type 0) (o : Occupied) (id : CellId) (window : Span) (padding : ℤ) (xs : List Span) → ((n : ℕ) → First n ↔ Second n) →
    AreFreeOn First o id window padding xs → AreFreeOn Second o id window padding xs
free_as First Second o id window padding xs same free = record {
  rising = free.rising;
  exact = λ s filled. (
    λ one. free_one First Second o id window padding s (λ n. (same n).0) ((free.exact s filled).0 one),
    λ one. (free.exact s filled).1 (free_one Second First o id window padding s (λ n. (same n).1) one),
  );
}

spans_left : (First Second : ℕ → Type 0) (f : Frame) (o : Occupied) (id : CellId) (window : Span) (padding : ℤ) (xs ys : List Span) → IsIndexOf f o.index →
    LieLeft f First Second → AreFreeOn First o id window padding xs → AreFreeOn Second o id window padding ys → All (λ x. All (λ y. x.hi ≤ℤ y.lo) ys) xs
spans_left First Second f o id window padding xs ys h left first second i d below j e under =
    let x = get_or xs i d in
    let y = get_or ys j e in
    let one = (first.exact x (first.rising.filled i d below)).0 (own_one xs i d below) in
    let two = (second.exact y (second.rising.filled j e under)).0 (own_one ys j e under) in
    let a = over_row f o id window padding one.number x h (first.rising.filled i d below) one.free in
    let b = over_row f o id window padding two.number y h (second.rising.filled j e under) two.free in
    let between = left one.number two.number a.row b.row one.among two.among a.is_in_place b.is_in_place in
    let from = a.right in
    let to = b.left in
    omega (arith, ints, between, from, to)

pub free_append : (First Second : ℕ → Type 0) (f : Frame) (o : Occupied) (id : CellId) (window : Span) (padding : ℤ) (xs ys : List Span) → IsIndexOf f o.index →
    LieLeft f First Second → AreFreeOn First o id window padding xs → AreFreeOn Second o id window padding ys →
    AreFreeOn (λ n. First n ⊎ Second n) o id window padding (xs ++ ys)
free_append First Second f o id window padding xs ys h left first second = record {
  rising = rising_append xs ys first.rising second.rising (spans_left First Second f o id window padding xs ys h left first second);
  exact = λ s filled. (
    λ lies. elim (any_split (λ t. LiesIn s t) xs ys lies) [
      | inl a ↦ free_one First (λ n. First n ⊎ Second n) o id window padding s (λ n p. inl p) ((first.exact s filled).0 a)
      | inr b ↦ free_one Second (λ n. First n ⊎ Second n) o id window padding s (λ n p. inr p) ((second.exact s filled).0 b)
    ],
    λ one. elim one.among [
      | inl p ↦ any_left (λ t. LiesIn s t) xs ys ((first.exact s filled).1 record { number = one.number; among = p; free = one.free })
      | inr p ↦ any_right (λ t. LiesIn s t) xs ys ((second.exact s filled).1 record { number = one.number; among = p; free = one.free })
    ],
  );
}

pub free_none : (Rows : ℕ → Type 0) (o : Occupied) (id : CellId) (window : Span) (padding : ℤ) → ((n : ℕ) → Rows n → ⊥) → AreFreeOn Rows o id window padding []
free_none Rows o id window padding none = record {
  rising = rising_nil;
  exact = λ s filled. (λ lies. absurd (any_nil (λ t. LiesIn s t) lies), λ one. absurd (none one.number one.among));
}

-- ---- one row

pub free_row : (Rows : ℕ → Type 0) (o : Occupied) (id : CellId) (window : Span) (padding : ℤ) (n : ℕ) (xs : List Span) → Rows n → ((m : ℕ) → Rows m → m ≡ n) →
    AreOpenInRow o n id window padding xs → AreFreeOn Rows o id window padding xs
free_row Rows o id window padding n xs this only free = record {
  rising = free.rising;
  exact = λ s filled. (
    λ lies. record { number = n; among = this; free = (free.exact s filled).0 lies },
    λ one.
        let at = subst (λ (m : ℕ). IsFreeOnRow o id window padding m s) (only one.number one.among) one.free in
        (free.exact s filled).1 at,
  );
}

pub same_row : (f : Frame) (n : ℕ) (a b : Row) → slice_get f.rows n ≡ Some a → slice_get f.rows n ≡ Some b → a ≡ b
same_row f n a b p q = let same : Some a ≡ Some b = sym p ∙ q in cc

-- what holds for a row of this number holds for the row of this number
pub of_row : (f : Frame) (n : ℕ) (a b : Row) (P : Row → Type 0) → slice_get f.rows n ≡ Some a → slice_get f.rows n ≡ Some b → P a → P b
of_row f n a b P p q so = subst P (same_row f n a b p q) so

pub adds_none : (s : RowSearch) (bottom : Row) (j n : ℕ) (window : Span) (old : List Span) (r : Row) → slice_get s.frame.now.rows n ≡ Some r →
    (rail_below r.orient ≡ option_map (rail_alternated j) (rail_below bottom.orient) → ⊥) → AddsLevel s bottom j n window old old
adds_none s bottom j n window old r is_in_place not = record {
  added = [];
  is = sym (append-nil old);
  free = free_none (λ m. (m ≡ n) × IsRailed s.frame.now bottom j n) s.occupancy.now s.id window (padding_in s) (λ m p.
      let q : IsRailed s.frame.now bottom j n = p.1 in
      not (ap (λ (t : Row). rail_below t.orient) (same_row s.frame.now n r q.row is_in_place q.is_in_place) ∙ q.rail));
}

pub adds_row : (s : RowSearch) (bottom : Row) (j n : ℕ) (window : Span) (old new xs : List Span) (r : Row) → slice_get s.frame.now.rows n ≡ Some r →
    rail_below r.orient ≡ option_map (rail_alternated j) (rail_below bottom.orient) → AreOpenInRow s.occupancy.now n s.id window (padding_in s) xs → new ≡ old ++ xs →
    AddsLevel s bottom j n window old new
adds_row s bottom j n window old new xs r is_in_place rail free is = record {
  added = xs;
  is = is;
  free = free_row (λ m. (m ≡ n) × IsRailed s.frame.now bottom j n) s.occupancy.now s.id window (padding_in s) n xs
      (refl, record { row = r; is_in_place = is_in_place; rail = rail }) (λ m p. p.0) free;
}

-- ---- all levels

pub level_bottom : (s : RowSearch) (own : ℕ) (bottom : Row) (window : Span) (j : ℕ) (xs : List Span) → j ≡ 0 →
    AreOpenInRow s.occupancy.now own s.id window (padding_in s) xs → IsLevel s own bottom window j xs
level_bottom s own bottom window zero xs none free =
    free_row (λ n. n ≡ own) s.occupancy.now s.id window (padding_in s) own xs refl (λ m p. p) free
level_bottom s own bottom window (suc j) xs none free = absurd (omega (arith, none))

pub level_above : (s : RowSearch) (own : ℕ) (bottom : Row) (window : Span) (j : ℕ) (xs : List Span) → (j ≡ 0 → ⊥) →
    AreFreeOn (IsLevelRow s.frame.now bottom j) s.occupancy.now s.id window (padding_in s) xs → IsLevel s own bottom window j xs
level_above s own bottom window zero xs some free = absurd (some refl)
level_above s own bottom window (suc j) xs some free = free

-- the lists of the first levels
abbrev pub LevelsSoFar : RowSearch → ℕ → Row → Span → ℕ → List (Vec Span Global) → Type 0
LevelsSoFar s own bottom window count lists = AreLevels s own bottom window count (map (λ v. v.items) lists)

pub levels_next : (s : RowSearch) (own : ℕ) (bottom : Row) (window : Span) (count : ℕ) (old new : List (Vec Span Global)) (v : Vec Span Global) →
    new ≡ old ++ v ∷ [] → IsLevel s own bottom window count v.items → LevelsSoFar s own bottom window count old →
    LevelsSoFar s own bottom window (count + 1) new
levels_next s own bottom window count old new v is free so_far =
    subst (LevelsSoFar s own bottom window (count + 1)) (sym is) (subst At (sym whole) record { number = long; each = each })
  where
    lists : List (List Span)
    lists = map (λ w. w.items) old

    At : List (List Span) → Type 0
    At xs = AreLevels s own bottom window (count + 1) xs

    whole : map (λ (w : Vec Span Global). w.items) (old ++ v ∷ []) ≡ lists ++ v.items ∷ []
    whole = map-append (λ (w : Vec Span Global). w.items) old (v ∷ [])

    known : length lists ≡ count
    known = so_far.number

    long : length (lists ++ v.items ∷ []) ≡ count + 1
    long = length-append lists (v.items ∷ []) ∙ ap (λ (n : ℕ). n + 1) known

    each : (j : ℕ) → j < count + 1 → IsLevel s own bottom window j (get_or (lists ++ v.items ∷ []) j [])
    each j less = elim order [
      | inl before ↦ rw (get_or_append_left lists (v.items ∷ []) [] j (omega (arith, before, known))) (so_far.each j before)
      | inr same ↦
          let last : get_or (lists ++ v.items ∷ []) j [] ≡ v.items =
          ap (λ (n : ℕ). get_or (lists ++ v.items ∷ []) n []) (omega (arith, same, known)) ∙ get_or-append-add lists (v.items ∷ []) 0 [] in
          rw last (rw same free)
    ]
      where
        order : (j < count) ⊎ (j ≡ count)
        order = grind (arith, less)

-- ---- a cell of one row

pub one_level : (s : RowSearch) (own : ℕ) (bottom : Row) (window : Span) (xs : List Span) → s.height ≡ 1 →
    AreOpenInRow s.occupancy.now own s.id window (padding_in s) xs → AreLevels s own bottom window s.height (xs ∷ [])
one_level s own bottom window xs one free = record { number = sym one; each = λ j less. each j (omega (arith, less, one)) }
  where
    each : (j : ℕ) → j ≡ 0 → IsLevel s own bottom window j (get_or (xs ∷ []) j [])
    each zero is = level_bottom s own bottom window 0 xs refl free
    each (suc j) is = absurd (omega (arith, is))

pub bare_bottom : (s : RowSearch) (own : ℕ) (bottom : Row) (window : Span) (xs : List Span) → s.height ≡ 1 → length xs ≡ 0 →
    AreOpenInRow s.occupancy.now own s.id window (padding_in s) xs → HasBareLevel s own bottom window
bare_bottom s own bottom window (x ∷ xs) one none free = absurd (omega (arith, none))
bare_bottom s own bottom window [] one none free =
    record { level = 0; within = omega (arith, one); bare = level_bottom s own bottom window 0 [] refl free }
