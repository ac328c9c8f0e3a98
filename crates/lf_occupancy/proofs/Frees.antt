-- What is free in the strips of a row.
use Rattle.std.proofs.Common.{◌≡◌, ◌⊎◌, inl, inr, ℕ, ◌+◌, ◌<◌, ◌≤◌, ℤ, ◌≤ℤ◌, ◌<ℤ◌, List, [], ◌++◌, length, get_or, sym, ap, subst, ◌∙◌, arith}
use Rattle.std.specs.Prelude.{All, AllPairs}
use Rattle.std.proofs.lemmas.Int.{ints}
use Rattle.std.proofs.lemmas.List.{get_or_default}
use Rattle.std.proofs.lemmas.List.Elements.{All-append, All-nil, Contains-get_or}
use Rattle.lf_units.specs.declared.span.Span.{Span}
use Rattle.lf_units.specs.Spans.{IsDisjointFrom, IsFilled, IsFreeIn, IsRising, LiesIn, LiesInOneOf}
use Rattle.lf_units.proofs.Anys.{any_left, any_split}
use Rattle.lf_units.proofs.SpanEdges.{in_of_lies}
use Rattle.lf_segments.specs.declared.strip.Strip.{Strip}
use Rattle.lf_occupancy.specs.MarkLists.{StripView, all_padded, others_in, spans_in, x_range}
use Rattle.lf_occupancy.specs.Views.{strip_extent}
use Rattle.lf_segments.specs.Strips.{AreNear, LiesBefore, IsNear}
use Rattle.lf_cells.specs.declared.cell.CellId.{CellId}
use Rattle.lf_occupancy.specs.Strips.{AreFreeTo, AreFreeSpansOfStrip, LiesFree}
use Rattle.lf_gaps.proofs.Nearest.{any_right}
use Rattle.lf_occupancy.proofs.Lists.{pairs_append}
use Rattle.lf_occupancy.proofs.Finds.{no_strip}

-- the span lies in the strip of this number between two positions, and shares no number with
-- another cell's entry widened by the padding
pub record FreeBetween (xs : List Strip) (mark_lists : List StripView) (own : ℕ) (padding : ℤ) (start k end : ℕ) (s : Span) : Type 0 where
  pub m : ℕ
  pub from : start ≤ m
  pub below : m < k
  pub until : m < end
  pub inside : (d : Strip) → LiesIn s (strip_extent (get_or xs m d))
  pub apart : (d : StripView) → IsDisjointFrom (spans_in (others_in (all_padded padding (get_or mark_lists m d).entries) own)) s

-- the free spans of the strips visited
pub record AreFreeBetween (xs : List Strip) (mark_lists : List StripView) (own : ℕ) (padding : ℤ) (start k end : ℕ) (window : Span) (free : List Span) : Type 0 where
  pub rising : IsRising free
  pub ends : (m : ℕ) (d : Strip) → k ≤ m → m < end → All (λ t. t.hi ≤ℤ (get_or xs m d).area.x1) free
  pub exact : (s : Span) → IsFilled s → (LiesInOneOf free s → LiesIn s window × FreeBetween xs mark_lists own padding start k end s) ×
      (LiesIn s window × FreeBetween xs mark_lists own padding start k end s → LiesInOneOf free s)

pub none_free : (xs : List Strip) (mark_lists : List StripView) (own : ℕ) (padding : ℤ) (start end : ℕ) (window : Span) → AreFreeBetween xs mark_lists own padding start start end window []
none_free xs mark_lists own padding start end window = record {
  rising = record { filled = All-nil IsFilled; apart = λ i j d less within. absurd (omega (arith, within)) };
  ends = λ m d from until. All-nil (λ t. t.hi ≤ℤ (get_or xs m d).area.x1);
  exact = λ s filled. (
    λ any. let h = any.2 in absurd (omega (arith, h)),
    λ both. let f = both.1.from in let b = both.1.below in absurd (omega (arith, f, b)),
  );
}

-- each of the free spans lies in the strip
part_inside : (strip window : Span) (taken part : List Span) → IsFreeIn strip taken window part → All (λ t. (strip.lo ≤ℤ t.lo) × (t.hi ≤ℤ strip.hi)) part
part_inside strip window taken part f k d within =
    let t : Span = get_or part k d in
    let filled = f.rising.filled k d within in
    let lies : LiesInOneOf part t = let h = Contains-get_or part k d within in (h.0, t, h.1, h.2, λ x holds. holds) in
    let i = in_of_lies t strip filled ((f.exact t filled).0 lies).0 in
    (i.low, i.high)

-- of two near strips the first ends before the second begins
near_rise : (row team : ℕ) (lo hi : ℤ) (a b : Strip) → IsNear row team lo hi a → IsNear row team lo hi b → LiesBefore a b → a.area.x2 ≤ℤ b.area.x1
near_rise row team lo hi a b p q (inl less) = let e = p.in_row in let f = q.in_row in absurd (omega (arith, less, e, f))
near_rise row team lo hi a b p q (inr (same, inl less)) = let e = p.of_team in let f = q.of_team in absurd (omega (arith, less, e, f))
near_rise row team lo hi a b p q (inr (same, inr (alike, apart))) = apart

pub free_further : (xs : List Strip) (mark_lists : List StripView) (row team own : ℕ) (padding : ℤ) (start k end : ℕ) (window : Span) (mark_list : StripView) (g : Strip) (free part : List Span) →
    AllPairs LiesBefore xs → AreNear xs row team window.lo window.hi start end → start ≤ k → k < end → k < length mark_lists →
    All (λ x. x.area.x1 <ℤ x.area.x2) xs →
    mark_list ≡ get_or mark_lists k mark_list → ((d : Strip) → g ≡ get_or xs k d) → AreFreeBetween xs mark_lists own padding start k end window free →
    IsFreeIn (x_range g.area) (spans_in (others_in (all_padded padding mark_list.entries) own)) window part → AreFreeBetween xs mark_lists own padding start (k + 1) end window (free ++ part)
free_further xs mark_lists row team own padding start k end window mark_list g free part pairs near from until has wide is at old new = record {
  rising = record {
    filled = All-append IsFilled free part old.rising.filled new.rising.filled;
    apart = pairs_append (λ s t. s.hi ≤ℤ t.lo) free part cross old.rising.apart new.rising.apart;
  };
  ends = λ m d more less.
      All-append (λ t. t.hi ≤ℤ (get_or xs m d).area.x1) free part (old.ends m d (omega (arith, more)) less)
      (λ j e within.
      let i = inside j e within in
      let high = i.1 in
      let up = rises m d more less in
      omega (arith, ints, high, up));
  exact = λ s filled. (λ any. to s filled (any_split (LiesIn s) free part any), λ both. back s filled both.0 both.1);
}
  where
    bound : end ≤ length xs
    bound = near.within

    here : k < length xs
    here = let b = bound in omega (arith, b, until)

    inside : All (λ t. (g.area.x1 ≤ℤ t.lo) × (t.hi ≤ℤ g.area.x2)) part
    inside = part_inside (x_range g.area) window (spans_in (others_in (all_padded padding mark_list.entries) own)) part new

    cross : All (λ s. All (λ t. s.hi ≤ℤ t.lo) part) free
    cross i d within j e inner =
        let a = old.ends k no_strip (omega arith) until i d within in
        let b = (inside j e inner).0 in
        let same : g.area.x1 ≡ (get_or xs k no_strip).area.x1 = ap (λ (x : Strip). x.area.x1) (at no_strip) in
        omega (arith, ints, a, b, same)

    rises : (m : ℕ) (d : Strip) → k + 1 ≤ m → m < end → g.area.x2 ≤ℤ (get_or xs m d).area.x1
    rises m d more less =
        let inner : m < length xs = let b = bound in omega (arith, b, less) in
        let up = near_rise row team window.lo window.hi (get_or xs k d) (get_or xs m d) ((near.exact k d here).0 (from, until))
        ((near.exact m d inner).0 (omega (arith, from, more), less)) (pairs k m d (omega (arith, more)) inner) in
        let same : g.area.x2 ≡ (get_or xs k d).area.x2 = ap (λ (x : Strip). x.area.x2) (at d) in
        omega (arith, ints, up, same)

    to : (s : Span) → IsFilled s → LiesInOneOf free s ⊎ LiesInOneOf part s → LiesIn s window × FreeBetween xs mark_lists own padding start (k + 1) end s
    to s filled (inl first) =
        let h = (old.exact s filled).0 first in
        let f = h.1 in
        (h.0, record { m = f.m; from = f.from; below = (let b = f.below in omega (arith, b)); until = f.until; inside = f.inside; apart = f.apart })
    to s filled (inr second) =
        let h = (new.exact s filled).0 second in (
          h.1,
          record {
            m = k;
            from = from;
            below = omega arith;
            until = until;
            inside = λ d. subst (λ (x : Strip). LiesIn s (strip_extent x)) (at d) h.0;
            apart = λ d. subst (λ (l : StripView). IsDisjointFrom (spans_in (others_in (all_padded padding l.entries) own)) s) (is ∙ get_or_default mark_lists k mark_list d has) h.2;
          },
        )

    back : (s : Span) → IsFilled s → LiesIn s window → FreeBetween xs mark_lists own padding start (k + 1) end s → LiesInOneOf (free ++ part) s
    back s filled shown f = elim order [
      | inl h ↦ any_left (LiesIn s) free part
          ((old.exact s filled).1 (shown, record { m = f.m; from = f.from; below = h; until = f.until; inside = f.inside; apart = f.apart }))
      | inr h ↦ any_right (LiesIn s) free part
          ((new.exact s filled).1 (
            subst (λ (x : Strip). LiesIn s (strip_extent x)) (sym (at no_strip)) (subst (λ (m : ℕ). LiesIn s (strip_extent (get_or xs m no_strip))) h (f.inside no_strip)),
            shown,
            subst (λ (l : StripView). IsDisjointFrom (spans_in (others_in (all_padded padding l.entries) own)) s) (sym is)
                (subst (λ (m : ℕ). IsDisjointFrom (spans_in (others_in (all_padded padding (get_or mark_lists m mark_list).entries) own)) s) h (f.apart mark_list)),
          ))
    ]
      where
        order : (f.m < k) ⊎ (f.m ≡ k)
        order = let b = f.below in grind (arith, b)

-- the free spans between the two positions found by binary search are the free spans in the strips
-- of the row and the team
pub free_of_row : (xs : List Strip) (mark_lists : List StripView) (row team own : ℕ) (padding : ℤ) (start k end : ℕ) (window : Span) (free : List Span) →
    AreNear xs row team window.lo window.hi start end →
    end ≤ k → AreFreeBetween xs mark_lists own padding start k end window free → AreFreeTo xs mark_lists row team own window padding (length xs) free
free_of_row xs mark_lists row team own padding start k end window free near past f = record {
  rising = f.rising;
  exact = λ s filled. (λ lies. to s ((f.exact s filled).0 lies), λ both. (f.exact s filled).1 (back s filled both.0 both.1.0 both.1.1.1));
}
  where
    to : (s : Span) → LiesIn s window × FreeBetween xs mark_lists own padding start k end s → LiesIn s window × ((n : ℕ) ×
        ((n < length xs) × LiesFree xs mark_lists row team own padding s n))
    to s (shown, b) =
        let bound = near.within in
        let until = b.until in
        let within : b.m < length xs = omega (arith, bound, until) in (
          shown,
          (
            b.m,
            (
              within,
              record {
                within = within;
                in_row = λ d. ((near.exact b.m d within).0 (b.from, until)).in_row;
                of_team = λ d. ((near.exact b.m d within).0 (b.from, until)).of_team;
                inside = b.inside;
                apart = b.apart;
              },
            ),
          ),
        )

    back : (s : Span) → IsFilled s → LiesIn s window → (n : ℕ) → LiesFree xs mark_lists row team own padding s n → LiesIn s window × FreeBetween xs mark_lists own padding start k end s
    back s filled shown n l =
        let w = in_of_lies s window filled shown in
        let i = in_of_lies s (strip_extent (get_or xs n no_strip)) filled (l.inside no_strip) in
        let a = w.low in
        let b = w.high in
        let e = i.low in
        let h = i.high in
        let both = (near.exact n no_strip l.within).1 record {
          in_row = l.in_row no_strip;
          of_team = l.of_team no_strip;
          right = omega (arith, ints, a, h, filled);
          left = omega (arith, ints, b, e, filled);
        } in
        let until = both.1 in
        (shown, record { m = n; from = both.0; below = omega (arith, until, past); until = until; inside = l.inside; apart = l.apart })

-- what is free in one strip of the cell's team is free of all other cells
pub left_by_others : (xs : List Strip) (mark_lists : List StripView) (without : CellId) (padding : ℤ) (n : ℕ) (mark_list : StripView) (free : List Span) → n < length xs →
    ((d : Strip) → (get_or xs n d).team ≡ without.team) → ((e : StripView) → mark_list ≡ get_or mark_lists n e) →
    IsFreeIn (x_range (get_or xs n no_strip).area) (spans_in (others_in (all_padded padding mark_list.entries) without.own)) (x_range (get_or xs n no_strip).area) free →
    AreFreeSpansOfStrip xs mark_lists without padding n free
left_by_others xs mark_lists without padding n mark_list free within of_team is f = record {
  rising = f.rising;
  exact = λ s filled. (
    λ lies.
        let h = (f.exact s filled).0 lies in
        record {
          within = within;
          inside = λ d. subst (λ (g : Strip). LiesIn s (strip_extent g)) (sym (get_or_default xs n d no_strip within)) h.0;
          own = λ d e same.
              subst (λ (l : StripView). IsDisjointFrom (spans_in (others_in (all_padded padding l.entries) without.own)) s) (is e) h.2;
          foreign = λ d e away. absurd (away (of_team d));
        },
    λ l.
        (f.exact s filled).1 (
          l.inside no_strip,
          l.inside no_strip,
          subst (λ (x : StripView). IsDisjointFrom (spans_in (others_in (all_padded padding x.entries) without.own)) s) (sym (is mark_list))
              (l.own no_strip mark_list (of_team no_strip)),
        ),
  );
}

-- what is free in one strip of another team is free of all its cells
pub left_by_all : (xs : List Strip) (mark_lists : List StripView) (without : CellId) (padding : ℤ) (n : ℕ) (mark_list : StripView) (free : List Span) → n < length xs →
    ((d : Strip) → (get_or xs n d).team ≡ without.team → ⊥) → ((e : StripView) → mark_list ≡ get_or mark_lists n e) →
    IsFreeIn (x_range (get_or xs n no_strip).area) (spans_in (all_padded padding mark_list.entries)) (x_range (get_or xs n no_strip).area) free →
    AreFreeSpansOfStrip xs mark_lists without padding n free
left_by_all xs mark_lists without padding n mark_list free within other is f = record {
  rising = f.rising;
  exact = λ s filled. (
    λ lies.
        let h = (f.exact s filled).0 lies in
        record {
          within = within;
          inside = λ d. subst (λ (g : Strip). LiesIn s (strip_extent g)) (sym (get_or_default xs n d no_strip within)) h.0;
          own = λ d e same. absurd (other d same);
          foreign = λ d e away. subst (λ (l : StripView). IsDisjointFrom (spans_in (all_padded padding l.entries)) s) (is e) h.2;
        },
    λ l.
        (f.exact s filled).1 (
          l.inside no_strip,
          l.inside no_strip,
          subst (λ (x : StripView). IsDisjointFrom (spans_in (all_padded padding x.entries)) s) (sym (is mark_list)) (l.foreign no_strip mark_list (other no_strip)),
        ),
  );
}
