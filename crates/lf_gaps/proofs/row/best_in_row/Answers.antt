use Rattle.std.proofs.Common.{◌≡◌, List, [], ◌∷◌, Vec, Global, length, map, sym, ap, subst, ◌∙◌, arith, rules}
use Rattle.std.specs.Prelude.{All}
use Rattle.std.proofs.lemmas.Int.{ints}
use Rattle.lf_units.specs.declared.span.Span.{Span}
use Rattle.lf_units.specs.Grids.{FindsNearest, IsBoundedSpan}
use Rattle.lf_units.specs.Spans.{IsMeetAll, IsRising}
use Rattle.lf_gaps.specs.Gaps.{FitsOne}
use Rattle.lf_gaps.specs.Steps.{IsWanted}
use Rattle.lf_gaps.proofs.Nearest.{near_overlapped_of, found_in_rows, meet_of_one, one_list}
use Rattle.lf_gaps.proofs.row.best_in_row.Goals as goal

pub nearest_of-requires : goal.nearest_of-requires
nearest_of-requires c =
    let first : Vec Span Global = c.index-lists-0.result in
    let wanted : IsWanted c.wanted_of-wanted.result = search rules in
    record {
      grid = c.requires.grid;
      rising = subst (λ (xs : List Span). IsRising xs) (ap (λ (v : Vec Span Global). v.items) (sym c.index-lists-0.is) ∙ sym c.as_slice.ensures.value)
          (c.requires.rising 0 first (omega arith));
      bounded = subst (λ (xs : List Span). All IsBoundedSpan xs) (ap (λ (v : Vec Span Global). v.items) (sym c.index-lists-0.is) ∙ sym c.as_slice.ensures.value)
          (c.requires.bounded 0 first (omega arith));
      wanted = wanted;
    }

pub returns-then-lists-eq1 : goal.returns-then-lists-eq1
returns-then-lists-eq1 c =
    let first : Vec Span Global = c.index-lists-0.result in
    let spans = c.as_slice.result.now in
    let rising : IsRising spans = subst (λ (xs : List Span). IsRising xs)
    (ap (λ (v : Vec Span Global). v.items) (sym c.index-lists-0.is) ∙ sym c.as_slice.ensures.value) (c.requires.rising 0 first (omega arith)) in
    let one : length c.args.lists.now ≡ 1 = omega arith in
    let overlapping_one = subst (λ (rows : List (List Span)). IsMeetAll rows spans)
    (ap (λ (xs : List Span). xs ∷ []) c.as_slice.ensures.value ∙ sym (one_list c.args.lists.now first one c.index-lists-0.is)) (meet_of_one spans rising) in
    found_in_rows (map (λ list. list.items) c.args.lists.now) spans c.args.grid.now c.args.width c.args.target c.wanted_of-wanted.result.width
    c.wanted_of-wanted.result.target c.nearest_of.result c.requires.wide (omega (arith, ints)) (omega (arith, ints)) overlapping_one c.nearest_of.ensures

pub nearest_of-requires-2 : goal.nearest_of-requires-2
nearest_of-requires-2 c =
    let wanted : IsWanted c.wanted_of-wanted.result = search rules in
    let rising : IsRising c.as_slice-2.result.now = search rules in
    record {
      grid = c.requires.grid;
      rising = rising;
      bounded = subst (λ (xs : List Span). All IsBoundedSpan xs) (sym c.as_slice-2.ensures.value)
          (near_overlapped_of c.args.lists.now c.in_ok-overlapping_one.overlapping_one.items c.requires.some c.requires.bounded c.in_ok-overlapping_one.ensures);
      wanted = wanted;
    }

pub returns : goal.returns
returns c =
    found_in_rows (map (λ list. list.items) c.args.lists.now) c.in_ok-overlapping_one.overlapping_one.items c.args.grid.now c.args.width c.args.target
    c.wanted_of-wanted.result.width c.wanted_of-wanted.result.target
    c.nearest_of-2.result c.requires.wide (omega (arith, ints)) (omega (arith, ints)) c.in_ok-overlapping_one.ensures
    (subst (λ (xs : List Span). FindsNearest (λ x. FitsOne xs c.args.grid.now c.wanted_of-wanted.result.width x) c.wanted_of-wanted.result.target c.nearest_of-2.result)
    c.as_slice-2.ensures.value c.nearest_of-2.ensures)
