-- A frame has one list of segments.
use Rattle.std.proofs.Common.{◌≡◌, ◌⊎◌, inl, inr, ℕ, zero, suc, ℤ, ◌<◌, List, [], ◌∷◌, length, get_or, slice_get, Some, refl, sym, ap, subst, ◌∙◌, arith}
use Rattle.std.specs.Prelude.{All, AllPairs, Contains}
use Rattle.std.proofs.lemmas.Int.{ints}
use Rattle.std.proofs.lemmas.List.{get_or_default}
use Rattle.std.proofs.lemmas.List.Elements.{All-contains, All-head, All-tail, All-weaker}
use Rattle.lf_units.specs.declared.geometry.Rect.{Rect}
use Rattle.lf_units.specs.Spans.{HoldsNumber, IsFilled, LiesIn}
use Rattle.lf_units.specs.Steps.{ContainsSpan}
use Rattle.lf_units.proofs.SpanEdges.{in_of_lies}
use Rattle.lf_floorplan.specs.declared.frame.Frame.{Frame}
use Rattle.lf_floorplan.specs.declared.parts.Row.{Row}
use Rattle.lf_segments.specs.declared.segment.Segment.{Segment}
use Rattle.lf_segments.specs.Segments.{ComesBefore, IsSegment, LiesInSegment, IsCutBeside}

abbrev segment_at : ℕ → ℕ → ℤ → ℤ → Segment
segment_at row team lo hi = record { row = row; team = team; span = record { lo = lo; hi = hi } }

same_segment : (a b : Segment) → a.row ≡ b.row → a.team ≡ b.team → a.span.lo ≡ b.span.lo → a.span.hi ≡ b.span.hi → a ≡ b
same_segment a b p q r s = let e : segment_at a.row a.team a.span.lo a.span.hi ≡ segment_at b.row b.team b.span.lo b.span.hi = cc in e

-- No segment comes before one that comes before it.
never_both : (a b : Segment) → IsFilled a.span → IsFilled b.span → ComesBefore a b → ComesBefore b a → ⊥
never_both a b f g (inl p) (inl q) = omega (arith, p, q)
never_both a b f g (inl p) (inr q) = let same = q.0 in omega (arith, p, same)
never_both a b f g (inr p) (inl q) = let same = p.0 in omega (arith, q, same)
never_both a b f g (inr (p, inl t)) (inr (q, inl u)) = omega (arith, t, u)
never_both a b f g (inr (p, inl t)) (inr (q, inr u)) = let same = u.0 in omega (arith, t, same)
never_both a b f g (inr (p, inr t)) (inr (q, inl u)) = let same = t.0 in omega (arith, u, same)
never_both a b f g (inr (p, inr t)) (inr (q, inr u)) = let first = t.1 in let second = u.1 in omega (arith, ints, f, g, first, second)

-- Two ordered segments of the same row and team share no number.
share_none : (a b : Segment) (x : ℤ) → ComesBefore a b → a.row ≡ b.row → a.team ≡ b.team → HoldsNumber a.span x → HoldsNumber b.span x → ⊥
share_none a b x (inl p) row team h k = omega (arith, p, row)
share_none a b x (inr (p, inl t)) row team h k = omega (arith, t, team)
share_none a b x (inr (p, inr t)) row team h k = let apart = t.1 in let high = h.high in let low = k.low in omega (arith, ints, apart, high, low)

-- In an ordered list, two segments of the same row and team that share a number are the same.
pub one_at : (xs : List Segment) (g h : Segment) (x : ℤ) → AllPairs ComesBefore xs → Contains xs g → Contains xs h → g.row ≡ h.row → g.team ≡ h.team →
    HoldsNumber g.span x → HoldsNumber h.span x → g ≡ h
one_at xs g h x pairs (i, within_i, is_g) (j, within_j, is_h) row team in_g in_h = elim order [
  | inl less ↦
      let before : ComesBefore g h = subst (λ (v : Segment). ComesBefore v h) is_g
      (subst (λ (v : Segment). ComesBefore (get_or xs i g) v) there (pairs i j g less within_j)) in
      absurd (share_none g h x before row team in_g in_h)
  | inr (inl same) ↦ sym is_g ∙ ap (λ (n : ℕ). get_or xs n g) same ∙ there
  | inr (inr more) ↦
      let before : ComesBefore h g = subst (λ (v : Segment). ComesBefore v g) there
      (subst (λ (v : Segment). ComesBefore (get_or xs j g) v) is_g (pairs j i g more within_i)) in
      absurd (share_none h g x before (sym row) (sym team) in_h in_g)
]
  where
    there : get_or xs j g ≡ h
    there = get_or_default xs j g h within_j ∙ is_h

    order : (i < j) ⊎ ((i ≡ j) ⊎ (j < i))
    order = grind arith

row_there : (rows : List Row) (n : ℕ) → n < length rows → (r : Row) × (slice_get rows n ≡ Some r)
row_there [] n within = absurd (omega (arith, within))
row_there (r ∷ rows) zero within = (r, refl)
row_there (r ∷ rows) (suc n) within = row_there rows n (omega (arith, within))

itself : (xs : List Segment) (g : Segment) → Contains xs g → LiesInSegment xs g.row g.team g.span
itself xs g (k, within, is) = (k, g, within, is, (record { in_row = refl; of_team = refl }, λ x h. h))

-- A segment of the first list is in the other.
in_other : (f : Frame) (obstacles : List Rect) (a b : List Segment) → IsCutBeside f obstacles a → IsCutBeside f obstacles b → (g : Segment) → Contains a g → Contains b g
in_other f obstacles a b first second g there =
    let known : IsSegment f g = All-contains (IsSegment f) a g first.known there in
    let row = row_there f.rows g.row known.row_known in
    let wider = (second.exact g.row row.0 g.team g.span row.1 known.filled).1
    ((first.exact g.row row.0 g.team g.span row.1 known.filled).0 (itself a g there)) in
    let h : Segment = wider.1 in
    let in_b : Contains b h = (wider.0, wider.2, wider.3) in
    let h_known : IsSegment f h = All-contains (IsSegment f) b h second.known in_b in
    let same_row : h.row ≡ g.row = wider.4.0.in_row in
    let same_team : h.team ≡ g.team = wider.4.0.of_team in
    let inner : LiesIn g.span h.span = wider.4.1 in
    let lies : LiesInSegment b g.row g.team h.span = (wider.0, h, wider.2, wider.3, (wider.4.0, λ x k. k)) in
    let back = (first.exact g.row row.0 g.team h.span row.1 h_known.filled).1 ((second.exact g.row row.0 g.team h.span row.1 h_known.filled).0 lies) in
    let outer : LiesIn h.span back.1.span = back.4.1 in
    let filled = known.filled in
    let start : HoldsNumber g.span g.span.lo = record { low = omega (arith, ints); high = filled } in
    let one : g ≡ back.1 =
    one_at a g back.1 g.span.lo first.in_order there (back.0, back.2, back.3) (sym back.4.0.in_row) (sym back.4.0.of_team) start
    (outer g.span.lo (inner g.span.lo start)) in
    let outer_g : LiesIn h.span g.span = subst (λ (v : Segment). LiesIn h.span v.span) (sym one) outer in
    let less : ContainsSpan g.span h.span = in_of_lies g.span h.span known.filled inner in
    let more : ContainsSpan h.span g.span = in_of_lies h.span g.span h_known.filled outer_g in
    let whole : h ≡ g = same_segment h g same_row same_team (omega (arith, ints, less.low, more.low)) (omega (arith, ints, less.high, more.high)) in
    subst (Contains b) whole in_b

-- ---- ordered lists with the same segments are equal

cases : (y x : Segment) (ys : List Segment) → Contains (y ∷ ys) x → (y ≡ x) ⊎ Contains ys x
cases y x ys (zero, within, is) = inl is
cases y x ys (suc k, within, is) = inr (k, omega (arith, within), is)

later : (y x : Segment) (ys : List Segment) → Contains ys x → Contains (y ∷ ys) x
later y x ys (k, within, is) = (suc k, omega (arith, within), is)

first_before : (y x : Segment) (ys : List Segment) → AllPairs ComesBefore (y ∷ ys) → Contains ys x → ComesBefore y x
first_before y x ys pairs (k, within, is) = subst (ComesBefore y) is (pairs 0 (suc k) x (omega arith) (omega (arith, within)))

tail_pairs : (y : Segment) (ys : List Segment) → AllPairs ComesBefore (y ∷ ys) → AllPairs ComesBefore ys
tail_pairs y ys pairs i j d less within = pairs (suc i) (suc j) d (omega (arith, less)) (omega (arith, within))

abbrev Filled : Segment → Type 0
Filled g = IsFilled g.span

-- The tail of the first list is in the tail of the other, if their first elements are the same.
tail_there : (x y : Segment) (xs ys : List Segment) → x ≡ y → AllPairs ComesBefore (x ∷ xs) → All Filled (x ∷ xs) →
    ((g : Segment) → Contains (x ∷ xs) g → Contains (y ∷ ys) g) → (g : Segment) → Contains xs g → Contains ys g
tail_there x y xs ys same pairs filled there g inside = elim (cases y g ys (there g (later x g xs inside))) [
  | inl is ↦
      let first : ComesBefore x g = first_before x g xs pairs inside in
      let itself_first : ComesBefore g g = subst (λ (v : Segment). ComesBefore v g) (same ∙ is) first in
      let wide : Filled g = All-contains Filled (x ∷ xs) g filled (later x g xs inside) in
      absurd (never_both g g wide wide itself_first itself_first)
  | inr in_tail ↦ in_tail
]

same_list : (xs ys : List Segment) → AllPairs ComesBefore xs → AllPairs ComesBefore ys → All Filled xs → All Filled ys →
    ((g : Segment) → Contains xs g → Contains ys g) → ((g : Segment) → Contains ys g → Contains xs g) → xs ≡ ys
same_list [] [] p q f g forth back = refl
same_list [] (y ∷ ys) p q f g forth back = let there = back y (0, omega arith, refl) in let within = there.1 in absurd (omega (arith, within))
same_list (x ∷ xs) [] p q f g forth back = let there = forth x (0, omega arith, refl) in let within = there.1 in absurd (omega (arith, within))
same_list (x ∷ xs) (y ∷ ys) p q f g forth back =
    let rest : xs ≡ ys =
    same_list xs ys (tail_pairs x xs p) (tail_pairs y ys q) (All-tail Filled x xs f) (All-tail Filled y ys g) (tail_there x y xs ys heads p f forth)
    (tail_there y x ys xs (sym heads) q g back) in
    ap (λ (v : Segment). v ∷ xs) heads ∙ ap (λ (vs : List Segment). y ∷ vs) rest
  where
    heads : x ≡ y
    heads = elim (cases y x ys (forth x (0, omega arith, refl))) [
      | inl is ↦ sym is
      | inr x_later ↦ elim (cases x y xs (back y (0, omega arith, refl))) [
        | inl is ↦ is
        | inr y_later ↦
            absurd (never_both x y (All-head Filled x xs f) (All-head Filled y ys g) (first_before x y xs p y_later) (first_before y x ys q x_later))
      ]
    ]

pub one_cut : (f : Frame) (obstacles : List Rect) (a b : List Segment) → IsCutBeside f obstacles a → IsCutBeside f obstacles b → a ≡ b
one_cut f obstacles a b first second =
    same_list a b first.in_order second.in_order (All-weaker (IsSegment f) Filled (λ g k. k.filled) a first.known)
    (All-weaker (IsSegment f) Filled (λ g k. k.filled) b second.known)
    (in_other f obstacles a b first second) (in_other f obstacles b a second first)
