use Rattle.std.proofs.Common.{◌≡◌, ◌<ℤ◌, List, sym, subst}
use Rattle.std.specs.Prelude.{ℕ}
use Rattle.lf_segments.specs.declared.strip.Strip.{Strip}
use Rattle.lf_segments.specs.RowStarts.{IsRangeOf}
use Rattle.lf_segments.specs.Lookups.{AreWideStrips}
use Rattle.lf_segments.specs.Strips.{LiesBefore, rows_in}
use Rattle.lf_segments.proofs.RangeLemmas.{end_within, near_in_row, part, part_all, part_pairs}
use Rattle.lf_segments.proofs.strips.near_strips.Goals as goal

-- The strips of a row are in order too, and have widths above 0.
wide_part : (xs : List Strip) (rows : List ℕ) (row start end : ℕ) → rows_in xs ≡ rows → IsRangeOf rows row start end → AreWideStrips xs →
    AreWideStrips (part xs start end)
wide_part xs rows row start end same of strips =
    let range : IsRangeOf (rows_in xs) row start end = subst (λ (list : List ℕ). IsRangeOf list row start end) (sym same) of in
    record {
      order = part_pairs LiesBefore xs start end range.order (end_within xs row start end range) strips.order;
      wide = part_all (λ g. g.area.x1 <ℤ g.area.x2) xs start end range.order (end_within xs row start end range) strips.wide;
    }

pub count_ended-first-requires : goal.count_ended-first-requires
count_ended-first-requires c =
    wide_part c.args.table.now.strips.now _ c.args.row c.range_of-range.result.start c.range_of-range.result.end c.requires.rows c.range_of-range.ensures c.requires.strips

pub end_of_begun-end-requires-clause-strips : goal.end_of_begun-end-requires-clause-strips
end_of_begun-end-requires-clause-strips c =
    wide_part c.args.table.now.strips.now _ c.args.row c.range_of-range.result.start c.range_of-range.result.end c.requires.rows c.range_of-range.ensures c.requires.strips

pub returns : goal.returns
returns c =
    let start = c.range_of-range.result.start in
    let end = c.range_of-range.result.end in
    let row = c.args.row in
    let ended = c.count_ended-first.ensures in
    let begun = c.end_of_begun-end.ensures in
    let range = subst (λ (rows : List ℕ). IsRangeOf rows row start end) (sym c.requires.rows) c.range_of-range.ensures in
    near_in_row c.args.table.now.strips.now row c.args.team c.args.lo.now c.args.hi.now start end c.count_ended-first.result c.end_of_begun-end.result range
    ended.within begun.within ended.ended ended.rest begun.begun begun.rest
