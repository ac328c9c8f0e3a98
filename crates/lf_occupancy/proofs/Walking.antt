-- A walk along a range over the other cells' entries, widened by a padding: the free spans so far,
-- and the remaining range.
use Rattle.std.proofs.Common.{◌≡◌, inr, ℕ, ◌+◌, ◌<◌, ◌≤◌, ℤ, List, [], ◌∷◌, ◌++◌, length, get_or, take, drop, eqb, refl, sym, ap, subst, ◌∙◌}
use Rattle.std.proofs.Common.{append_assoc, arith}
use Rattle.std.specs.Int.{int_max, int_min}
use Rattle.std.specs.Prelude.{not}
use Rattle.std.proofs.Math.Seq.{get_or-append_seam}
use Rattle.std.proofs.lemmas.Int.{ints, clamps}
use Rattle.std.proofs.lemmas.List.{get_or-map, length-append, length-map, map-append, take-append-drop, take_all}
use Rattle.std.proofs.lemmas.List.Elements.{filter-append}
use Rattle.lf_units.specs.declared.span.Span.{Span}
use Rattle.lf_units.specs.Spans.{IsFilled, IsFree, IsFreeIn, IsInOrder, LiesIn}
use Rattle.lf_units.specs.Steps.{AddsFilled, IsBefore, IsAfter}
use Rattle.lf_units.proofs.SpanEdges.{rising_nil}
use Rattle.lf_units.proofs.Frees.{Frees, frees_end, frees_more}
use Rattle.lf_occupancy.specs.declared.strip_marks.Entry.{Entry}
use Rattle.lf_occupancy.specs.MarkLists.{all_padded, others_in, widened_entry, spans_in, wider_range, x_range}
use Rattle.lf_occupancy.proofs.Padded.{other_further, other_no_further}

-- the other cells' entries, widened, as spans
abbrev pub taken : ℤ → List Entry → ℕ → List Span
taken by es own = spans_in (others_in (all_padded by es) own)

-- the number of other cells among the first entries
abbrev pub passed : ℤ → List Entry → ℕ → ℕ → ℕ
passed by es own i = length (others_in (all_padded by (take i es)) own)

-- at the first entry all of the range remains
pub walk_begins : (range : Span) (spans free : List Span) → free ≡ [] → Frees range spans free range 0
walk_begins range spans free is = subst (λ (xs : List Span). Frees range spans xs range 0) (sym is) record {
  rising = rising_nil;
  before = λ k d within. absurd (omega (arith, within));
  low = omega (arith, ints);
  high = refl;
  only = λ k d within. absurd (omega (arith, within));
  each = λ s filled inside clear. inr inside.low;
  passed = λ m d less filled. absurd (omega (arith, less));
}

-- an entry of the cell itself is skipped
pub walk_skips : (by : ℤ) (es : List Entry) (i : ℕ) (e : Entry) (own : ℕ) (range : Span) (free : List Span) (rest : Span) → i < length es → e ≡ get_or es i e →
    e.own ≡ own → Frees range (taken by es own) free rest (passed by es own i) → Frees range (taken by es own) free rest (passed by es own (i + 1))
walk_skips by es i e own range free rest within is same f =
    subst (λ (xs : List Entry). Frees range (taken by es own) free rest (length xs)) (sym (other_no_further by es i e own within is same)) f

-- one more entry of another cell
pub walk_goes_on : (by : ℤ) (es : List Entry) (i : ℕ) (e : Entry) (own : ℕ) (range : Span) (free new : List Span) (rest next z s : Span) → i < length es →
    e ≡ get_or es i e → (e.own ≡ own → ⊥) → s ≡ wider_range by (x_range e.area) → IsFilled s → IsInOrder (taken by es own) → IsBefore rest s z →
    IsAfter rest s next → AddsFilled z free new → Frees range (taken by es own) free rest (passed by es own i) →
    Frees range (taken by es own) new next (passed by es own (i + 1))
walk_goes_on by es i e own range free new rest next z s within is apart wide filled order before after_it adds f =
    subst (λ (n : ℕ). Frees range (taken by es own) new next n) (sym more)
    (frees_more range (taken by es own) free new rest next z (length front) s order inside f (subst IsFilled (sym here) filled)
    (subst (λ (u : Span). IsBefore rest u z) (sym here) before) (subst (λ (u : Span). IsAfter rest u next) (sym here) after_it) adds)
  where
    front : List Entry
    front = others_in (all_padded by (take i es)) own

    back : List Entry
    back = others_in (all_padded by (drop (i + 1) es)) own

    further : others_in (all_padded by (take (i + 1) es)) own ≡ front ++ widened_entry by e ∷ []
    further = other_further by es i e own within is apart

    whole : others_in (all_padded by es) own ≡ front ++ widened_entry by e ∷ back
    whole =
        ap (λ (xs : List Entry). others_in (all_padded by xs) own) (sym (take-append-drop (i + 1) es))
        ∙ ap (λ (xs : List Entry). others_in xs own) (map-append (widened_entry by) (take (i + 1) es) (drop (i + 1) es))
        ∙ filter-append (λ (x : Entry). not (eqb x.own own)) (all_padded by (take (i + 1) es)) (all_padded by (drop (i + 1) es))
        ∙ ap (λ (xs : List Entry). xs ++ back) further ∙ append_assoc front (widened_entry by e ∷ []) back

    more : passed by es own (i + 1) ≡ length front + 1
    more = let long = length-append front (widened_entry by e ∷ []) in let same = ap (λ (xs : List Entry). length xs) further in omega (arith, long, same)

    inner : length front < length (front ++ widened_entry by e ∷ back)
    inner = let long = length-append front (widened_entry by e ∷ back) in omega (arith, long)

    inside : length front < length (taken by es own)
    inside =
        let same = ap (λ (xs : List Entry). length (spans_in xs)) whole in
        let long = length-map (front ++ widened_entry by e ∷ back) (λ (z : Entry). x_range z.area) in
        omega (arith, same, long, inner)

    here : get_or (taken by es own) (length front) s ≡ s
    here =
        ap (λ (xs : List Entry). get_or (spans_in xs) (length front) s) whole
        ∙ get_or-map (λ (z : Entry). x_range z.area) (front ++ widened_entry by e ∷ back) (length front) (widened_entry by e) s inner
        ∙ ap (λ (z : Entry). x_range z.area) (get_or-append_seam front (widened_entry by e) back (widened_entry by e)) ∙ sym wide

-- after the last entry the remaining range is free
pub walk_ends : (by : ℤ) (es : List Entry) (i own : ℕ) (range : Span) (free new : List Span) (rest : Span) → length es ≤ i →
    Frees range (taken by es own) free rest (passed by es own i) → AddsFilled rest free new → IsFree range (taken by es own) new
walk_ends by es i own range free new rest all f adds =
    let same = ap (λ (xs : List Entry). length (others_in (all_padded by xs) own)) (take_all i es all) in
    let long = length-map (others_in (all_padded by es) own) (λ (z : Entry). x_range z.area) in
    frees_end range (taken by es own) free new rest (passed by es own i) (omega (arith, same, long)) f adds

-- what is free of the range that a strip and a window have in common
pub free_in_both : (strip window range : Span) (spans free : List Span) → range.lo ≡ int_max window.lo strip.lo → range.hi ≡ int_min window.hi strip.hi →
    IsFree range spans free → IsFreeIn strip spans window free
free_in_both strip window range spans free from to f = record {
  rising = f.rising;
  exact = λ s filled. (
    λ h. let both = (f.exact s filled).0 h in (in_strip s both.0, in_window s both.0, both.1),
    λ h. (f.exact s filled).1 (in_range s h.0 h.1, h.2),
  );
}
  where
    in_strip : (s : Span) → LiesIn s range → LiesIn s strip
    in_strip s lies x holds =
        let both = lies x holds in
        let low = both.low in
        let high = both.high in
        record { low = omega (arith, ints, clamps, low, from); high = omega (arith, ints, clamps, high, to) }

    in_window : (s : Span) → LiesIn s range → LiesIn s window
    in_window s lies x holds =
        let both = lies x holds in
        let low = both.low in
        let high = both.high in
        record { low = omega (arith, ints, clamps, low, from); high = omega (arith, ints, clamps, high, to) }

    in_range : (s : Span) → LiesIn s strip → LiesIn s window → LiesIn s range
    in_range s first second x holds =
        let a = first x holds in
        let b = second x holds in
        let i = a.low in
        let j = a.high in
        let k = b.low in
        let l = b.high in
        record { low = omega (arith, ints, clamps, i, k, from); high = omega (arith, ints, clamps, j, l, to) }
