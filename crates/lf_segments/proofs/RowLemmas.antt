-- The segments of a row, team by team, and of a frame, row by row.
use Rattle.std.proofs.Common.{◌≡◌, ◌⊎◌, inl, inr, ℕ, ℤ, ◌+◌, ◌-◌, ◌<◌, ◌≤◌, List, [], ◌++◌}
use Rattle.std.proofs.Common.{length, map, get_or, slice_get, Some, refl, sym, ap, subst, ◌∙◌, arith, append_assoc, append-nil}
use Rattle.std.specs.Prelude.{◌↔◌, All, AllPairs}
use Rattle.std.proofs.Math.ListN.{get_or-map}
use Rattle.std.proofs.lemmas.Int.{ints}
use Rattle.std.proofs.lemmas.Option.{slice_get_within}
use Rattle.std.proofs.lemmas.List.{get_or_default, get_or_append_left, get_or-append_right, length-append, length-map}
use Rattle.std.proofs.lemmas.List.Elements.{All-nil, All-append, All-weaker, All-map}
use Rattle.lf_units.proofs.Any.{any_parts, any_left, any_right, any_map, any_mapped}
use Rattle.lf_units.specs.declared.geometry.Rect.{Rect}
use Rattle.lf_units.specs.declared.span.Span.{Span}
use Rattle.lf_units.specs.Spans.{HoldsNumber, IsFilled, LiesIn, LiesInOneOf}
use Rattle.lf_floorplan.specs.declared.frame.Frame.{Frame}
use Rattle.lf_floorplan.specs.declared.parts.Row.{Row}
use Rattle.lf_segments.specs.declared.segment.Segment.{Segment}
use Rattle.lf_segments.specs.Segments.{IsOpen, IsOf, LiesInSegment, ComesFirst, ComesBefore, IsSegment, IsCutBeside}
use Rattle.lf_segments.specs.Boxes.{segment_of, AreOpen, AddsRow}

-- Pairs of two concatenated lists.
pairs_append : {X : Type 0} (R : X → X → Type 0) (xs ys : List X) → AllPairs R xs → AllPairs R ys →
    ((i j : ℕ) (d : X) → i < length xs → j < length ys → R (get_or xs i d) (get_or ys j d)) → AllPairs R (xs ++ ys)
pairs_append {X} R xs ys first second across i j d less within = elim (side i) [
  | inl i_first ↦ elim (side j) [
    | inl j_first ↦ both (get_or_append_left xs ys d i i_first) (get_or_append_left xs ys d j j_first) (first i j d less j_first)
    | inr j_second ↦
        let inside : j - length xs < length ys = omega (arith, long, within, j_second) in
        both (get_or_append_left xs ys d i i_first) (get_or-append_right xs ys (length xs) j d refl j_second) (across i (j - length xs) d i_first inside)
  ]
  | inr i_second ↦
      let j_second : length xs ≤ j = omega (arith, less, i_second) in
      let inside : j - length xs < length ys = omega (arith, long, within, j_second) in
      let order : i - length xs < j - length xs = omega (arith, less, i_second) in
      both (get_or-append_right xs ys (length xs) i d refl i_second) (get_or-append_right xs ys (length xs) j d refl j_second)
      (second (i - length xs) (j - length xs) d order inside)
]
  where
    long : length (xs ++ ys) ≡ length xs + length ys
    long = length-append xs ys

    side : (k : ℕ) → (k < length xs) ⊎ (length xs ≤ k)
    side k = grind arith

    both : {a b c e : X} → a ≡ c → b ≡ e → R c e → R a b
    both {a} {b} {c} {e} p q r = subst (λ (v : X). R v b) (sym p) (subst (λ (v : X). R c v) (sym q) r)

-- ---- a span in segments of a row

in_map : (number team : ℕ) (spans : List Span) (s : Span) → LiesInOneOf spans s → LiesInSegment (map (segment_of number team) spans) number team s
in_map number team spans s a =
    any_map (segment_of number team) (λ g. IsOf number team g × LiesIn s g.span) spans
    (a.0, a.1, a.2, a.3, (record { in_row = refl; of_team = refl }, a.4))

of_map : (number team : ℕ) (spans : List Span) (row u : ℕ) (s : Span) → LiesInSegment (map (segment_of number team) spans) row u s →
    (number ≡ row) × (team ≡ u) × LiesInOneOf spans s
of_map number team spans row u s a =
    let b = any_mapped (segment_of number team) (λ g. IsOf row u g × LiesIn s g.span) spans a in
    let at : IsOf row u (segment_of number team b.1) = b.4.0 in
    (at.in_row, at.of_team, (b.0, b.1, b.2, b.3, b.4.1))

no_team : (xs : List Segment) (row u : ℕ) (s : Span) → All (λ g. IsOf row u g → ⊥) xs → LiesInSegment xs row u s → ⊥
no_team xs row u s none a = none a.0 a.1 a.2 (subst (IsOf row u) (sym a.3) a.4.0)

-- If a team may use nothing, it has no filled span.
nothing_open : (f : Frame) (obstacles : List Rect) (r : Row) (u : ℕ) (s : Span) → ((x : ℤ) → IsOpen f obstacles r u x → ⊥) → IsFilled s → ((x : ℤ) → HoldsNumber s x → IsOpen f obstacles r u x) → ⊥
nothing_open f obstacles r u s none filled each = none s.lo (each s.lo record { low = omega (arith, ints); high = filled })

-- ---- team by team

pub row_start : (f : Frame) (obstacles : List Rect) (number : ℕ) (r : Row) (old : List Segment) → AddsRow f obstacles number r 0 old old
row_start f obstacles number r old = record {
  added = [];
  is = sym (append-nil old);
  cut = record {
    known = All-nil (λ (g : Segment). (g.row ≡ number) × ((g.team < 0) × IsFilled g.span));
    in_order = λ i j d less within. absurd (omega (arith, within));
    exact = λ team s low. absurd (omega (arith, low));
  };
}

-- Teams that may use nothing of the row add nothing.
pub row_skip : (f : Frame) (obstacles : List Rect) (number : ℕ) (r : Row) (limit more : ℕ) (old new : List Segment) → AddsRow f obstacles number r limit old new → limit ≤ more →
    ((u : ℕ) → limit ≤ u → u < more → (x : ℤ) → IsOpen f obstacles r u x → ⊥) → AddsRow f obstacles number r more old new
row_skip f obstacles number r limit more old new a order none = record {
  added = a.added;
  is = a.is;
  cut = record {
    known = All-weaker (λ g. (g.row ≡ number) × ((g.team < limit) × IsFilled g.span)) (λ g. (g.row ≡ number) × ((g.team < more) × IsFilled g.span))
        (λ g k. (k.0, (let low = k.1.0 in omega (arith, low, order), k.1.1))) a.added a.cut.known;
    in_order = a.cut.in_order;
    exact = λ u s low filled. elim (side u) [
      | inl below ↦ a.cut.exact u s below filled
      | inr from ↦ (
        λ h. absurd (no_team a.added number u s (others u from) h),
        λ each. absurd (nothing_open f obstacles r u s (none u from low) filled each),
      )
    ];
  };
}
  where
    side : (u : ℕ) → (u < limit) ⊎ (limit ≤ u)
    side u = grind arith

    others : (u : ℕ) → limit ≤ u → All (λ g. IsOf number u g → ⊥) a.added
    others u from k d within of = let low = (a.cut.known k d within).1.0 in let same = of.of_team in omega (arith, low, same, from)

-- The next team.
pub row_more : (f : Frame) (obstacles : List Rect) (number : ℕ) (r : Row) (own : ℕ) (old new newer : List Segment) (spans : List Span) → AddsRow f obstacles number r own old new →
    AreOpen f obstacles r own spans →
    newer ≡ new ++ map (segment_of number own) spans → AddsRow f obstacles number r (own + 1) old newer
row_more f obstacles number r own old new newer spans a open_spans is = record {
  added = a.added ++ more;
  is = is ∙ ap (λ (xs : List Segment). xs ++ more) a.is ∙ append_assoc old a.added more;
  cut = record {
    known = All-append Known a.added more (All-weaker Knew Known (λ g k. (k.0, (let low = k.1.0 in omega (arith, low), k.1.1))) a.added a.cut.known)
        (All-map Known (segment_of number own) spans (λ k d within. (refl, (omega arith, open_spans.rising.filled k d within))));
    in_order = pairs_append ComesFirst a.added more a.cut.in_order mapped_pairs between;
    exact = λ u s low filled. elim (side u low) [
      | inl below ↦
          let old_one = a.cut.exact u s below filled in (
            λ h. elim (any_parts (Lies u s) a.added more h) [
              | inl early ↦ old_one.0 early
              | inr late ↦ let same = (of_map number own spans number u s late).1 in absurd (omega (arith, same, below))
            ],
            λ each. any_left (Lies u s) a.added more (old_one.1 each),
          )
      | inr same ↦ subst (λ (t : ℕ). LiesInSegment (a.added ++ more) number t s ↔ ((x : ℤ) → HoldsNumber s x → IsOpen f obstacles r t x)) same (
        λ h. elim (any_parts (Lies own s) a.added more h) [
          | inl early ↦ absurd (no_team a.added number own s others early)
          | inr late ↦ (open_spans.exact s filled).0 (of_map number own spans number own s late).2
        ],
        λ each. any_right (Lies own s) a.added more (in_map number own spans s ((open_spans.exact s filled).1 each)),
      )
    ];
  };
}
  where
    more : List Segment
    more = map (segment_of number own) spans

    Knew : Segment → Type 0
    Knew g = (g.row ≡ number) × ((g.team < own) × IsFilled g.span)

    Known : Segment → Type 0
    Known g = (g.row ≡ number) × ((g.team < own + 1) × IsFilled g.span)

    Lies : ℕ → Span → Segment → Type 0
    Lies u s g = IsOf number u g × LiesIn s g.span

    side : (u : ℕ) → u < own + 1 → (u < own) ⊎ (own ≡ u)
    side u low = grind arith

    others : All (λ g. IsOf number own g → ⊥) a.added
    others k d within of = let low = (a.cut.known k d within).1.0 in let same = of.of_team in omega (arith, low, same)

    at : (k : ℕ) (d : Segment) → k < length spans → get_or more k d ≡ segment_of number own (get_or spans k d.span)
    at k d within =
        get_or_default more k d (segment_of number own d.span) (let long = length-map spans (segment_of number own) in omega (arith, long, within))
        ∙ get_or-map (segment_of number own) spans k d.span

    in_spans : (k : ℕ) → k < length more → k < length spans
    in_spans k within = let long = length-map spans (segment_of number own) in omega (arith, long, within)

    mapped_pairs : AllPairs ComesFirst more
    mapped_pairs i j d less within =
        let j_in = in_spans j within in
        let i_in : i < length spans = omega (arith, less, j_in) in
        let there : ComesFirst (segment_of number own (get_or spans i d.span)) (segment_of number own (get_or spans j d.span)) = inr
        (refl, open_spans.rising.apart i j d.span less j_in) in
        subst (λ (g : Segment). ComesFirst g (get_or more j d)) (sym (at i d i_in))
        (subst (λ (g : Segment). ComesFirst (segment_of number own (get_or spans i d.span)) g) (sym (at j d j_in)) there)

    between : (i j : ℕ) (d : Segment) → i < length a.added → j < length more → ComesFirst (get_or a.added i d) (get_or more j d)
    between i j d first second =
        let low : (get_or a.added i d).team < own = (a.cut.known i d first).1.0 in
        subst (λ (g : Segment). ComesFirst (get_or a.added i d) g) (sym (at j d (in_spans j second))) (inl low)

-- ---- row by row

-- The segments of the rows below a number.
pub record IsCutTo (f : Frame) (obstacles : List Rect) (n : ℕ) (segments : List Segment) : Type 0 where
  pub known : All (λ g. (g.row < n) × ((g.team ≤ length f.teams) × IsFilled g.span)) segments
  pub in_order : AllPairs ComesBefore segments
  pub exact : (m : ℕ) (r : Row) (team : ℕ) (s : Span) → m < n → slice_get f.rows m ≡ Some r → IsFilled s →
      (LiesInSegment segments m team s ↔ ((x : ℤ) → HoldsNumber s x → IsOpen f obstacles r team x))

pub cut_more : (f : Frame) (obstacles : List Rect) (n : ℕ) (r : Row) (old new : List Segment) → slice_get f.rows n ≡ Some r → ((u : ℕ) (x : ℤ) → IsOpen f obstacles r u x → u ≤ length f.teams) →
    IsCutTo f obstacles n old → AddsRow f obstacles n r (length f.teams + 1) old new → IsCutTo f obstacles (n + 1) new
cut_more f obstacles n r old new is_row is_team c a = subst (IsCutTo f obstacles (n + 1)) (sym a.is) record {
  known = All-append Known old a.added (All-weaker Knew Known (λ g k. (let low = k.0 in omega (arith, low), k.1)) old c.known)
      (All-weaker Added Known (λ g k. (let same = k.0 in omega (arith, same), (let low = k.1.0 in omega (arith, low), k.1.1))) a.added a.cut.known);
  in_order = pairs_append ComesBefore old a.added c.in_order added_pairs between;
  exact = exact;
}
  where
    Knew : Segment → Type 0
    Knew g = (g.row < n) × ((g.team ≤ length f.teams) × IsFilled g.span)

    Known : Segment → Type 0
    Known g = (g.row < n + 1) × ((g.team ≤ length f.teams) × IsFilled g.span)

    Added : Segment → Type 0
    Added g = (g.row ≡ n) × ((g.team < length f.teams + 1) × IsFilled g.span)

    added_pairs : AllPairs ComesBefore a.added
    added_pairs i j d less within =
        let first : (get_or a.added i d).row ≡ n = (a.cut.known i d (omega (arith, less, within))).0 in
        let second : (get_or a.added j d).row ≡ n = (a.cut.known j d within).0 in
        inr (first ∙ sym second, a.cut.in_order i j d less within)

    between : (i j : ℕ) (d : Segment) → i < length old → j < length a.added → ComesBefore (get_or old i d) (get_or a.added j d)
    between i j d first second =
        let low : (get_or old i d).row < n = (c.known i d first).0 in
        let same : (get_or a.added j d).row ≡ n = (a.cut.known j d second).0 in
        inl (omega (arith, low, same))

    side : (m : ℕ) → m < n + 1 → (m < n) ⊎ (n ≡ m)
    side m low = grind arith

    Lies : ℕ → ℕ → Span → Segment → Type 0
    Lies m u s g = IsOf m u g × LiesIn s g.span

    not_added : (m u : ℕ) → m < n → All (λ g. IsOf m u g → ⊥) a.added
    not_added m u low k d within of = let same = (a.cut.known k d within).0 in let row = of.in_row in omega (arith, low, same, row)

    not_old : (u : ℕ) → All (λ g. IsOf n u g → ⊥) old
    not_old u k d within of = let low = (c.known k d within).0 in let row = of.in_row in omega (arith, low, row)

    team_or : (u : ℕ) → (u < length f.teams + 1) ⊎ (length f.teams < u)
    team_or u = grind arith

    of_added : (u : ℕ) (s : Span) → IsFilled s → (LiesInSegment a.added n u s ↔ ((x : ℤ) → HoldsNumber s x → IsOpen f obstacles r u x))
    of_added u s filled = elim (team_or u) [
      | inl low ↦ a.cut.exact u s low filled
      | inr high ↦ (
        λ h. absurd (no_team a.added n u s
            (λ k d within of. let low = (a.cut.known k d within).1.0 in let same = of.of_team in omega (arith, low, same, high)) h),
        λ each. absurd (nothing_open f obstacles r u s (λ x o. let low = is_team u x o in omega (arith, low, high)) filled each),
      )
    ]

    here : (u : ℕ) (s : Span) → IsFilled s → (LiesInSegment (old ++ a.added) n u s ↔ ((x : ℤ) → HoldsNumber s x → IsOpen f obstacles r u x))
    here u s filled = (
      λ h. elim (any_parts (Lies n u s) old a.added h) [
        | inl early ↦ absurd (no_team old n u s (not_old u) early)
        | inr late ↦ (of_added u s filled).0 late
      ],
      λ each. any_right (Lies n u s) old a.added ((of_added u s filled).1 each),
    )

    exact : (m : ℕ) (q : Row) (team : ℕ) (s : Span) → m < n + 1 → slice_get f.rows m ≡ Some q → IsFilled s →
        (LiesInSegment (old ++ a.added) m team s ↔ ((x : ℤ) → HoldsNumber s x → IsOpen f obstacles q team x))
    exact m q team s low is filled = elim (side m low) [
      | inl below ↦
          let old_one = c.exact m q team s below is filled in (
            λ h. elim (any_parts (Lies m team s) old a.added h) [
              | inl early ↦ old_one.0 early
              | inr late ↦ absurd (no_team a.added m team s (not_added m team below) late)
            ],
            λ each. any_left (Lies m team s) old a.added (old_one.1 each),
          )
      | inr same ↦
          let rows : r ≡ q = some_same (sym is_row ∙ ap (λ (k : ℕ). slice_get f.rows k) same ∙ is) in
          subst (λ (v : Row). LiesInSegment (old ++ a.added) m team s ↔ ((x : ℤ) → HoldsNumber s x → IsOpen f obstacles v team x)) rows
          (subst (λ (k : ℕ). LiesInSegment (old ++ a.added) k team s ↔ ((x : ℤ) → HoldsNumber s x → IsOpen f obstacles r team x)) same (here team s filled))
    ]
      where
        some_same : {a b : Row} → Some a ≡ Some b → a ≡ b
        some_same e = cc

pub cut_whole : (f : Frame) (obstacles : List Rect) (n : ℕ) (segments : List Segment) → length f.rows ≤ n → n ≤ length f.rows → IsCutTo f obstacles n segments → IsCutBeside f obstacles segments
cut_whole f obstacles n segments all within c = record {
  known = All-weaker (λ g. (g.row < n) × ((g.team ≤ length f.teams) × IsFilled g.span)) (IsSegment f)
      (λ g k. record { row_known = let low = k.0 in omega (arith, low, within); team_known = k.1.0; filled = k.1.1 }) segments c.known;
  in_order = c.in_order;
  exact = λ m r team s is filled. c.exact m r team s (let low = slice_get_within f.rows m r is in omega (arith, low, all)) is filled;
}
