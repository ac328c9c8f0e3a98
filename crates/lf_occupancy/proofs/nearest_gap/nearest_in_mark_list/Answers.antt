use Rattle.std.proofs.Common.{[], get_or, ℤ, arith}
use Rattle.std.specs.Int.{int_max, int_min}
use Rattle.std.proofs.lemmas.Int.{ints, clamps}
use Rattle.lf_units.specs.Spans.{IsFree, IsFreeIn}
use Rattle.lf_gaps.proofs.Nearest.{found_weaker}
use Rattle.lf_rules.specs.Padding.{HasRoomAround}
use Rattle.lf_occupancy.specs.MarkLists.{HasPoints, all_padded, marked_entries, others_in, strip_view, spans_in}
use Rattle.lf_occupancy.proofs.Laning.{marks_rise}
use Rattle.lf_occupancy.proofs.Showing.{roomy_mark_list}
use Rattle.lf_occupancy.proofs.Padded.{near_each, padded_in_order, padded_near}
use Rattle.lf_occupancy.proofs.Runs.{free_near, others_in_order}
use Rattle.lf_occupancy.proofs.Walking.{free_in_both}
use Rattle.lf_occupancy.proofs.nearest_gap.nearest_in_mark_list.Goals as goal

pub near_marks-near-requires-clause-rising : goal.near_marks-near-requires-clause-rising
near_marks-near-requires-clause-rising c = marks_rise _ _ c.args.strip.now.mark_list.now c.requires.marked

pub near_marks-near-requires-clause-some : goal.near_marks-near-requires-clause-some
near_marks-near-requires-clause-some c = c.requires.marked.mark_list.orderly.some

pub near_marks-near-requires-clause-most : goal.near_marks-near-requires-clause-most
near_marks-near-requires-clause-most c = c.requires.marked.mark_list.orderly.most

pub nearest_beside-requires-clause-around : goal.nearest_beside-requires-clause-around
nearest_beside-requires-clause-around c =
    let cells = get_or c.args.strip.now.boxes.now c.args.strip.now.team [] in
    let area = c.args.strip.now.area in
    near_each (λ e. HasRoomAround e.area) (marked_entries cells area c.args.strip.now.mark_list.now.marks.items) (marked_entries cells area c.near_marks-near.result.now) _ _
    (c.near_marks-near.ensures.near cells area c.requires.marked)
    (roomy_mark_list cells area (strip_view cells area c.args.strip.now.mark_list.now) c.requires.marked.mark_list c.args.strip.now.near)

pub nearest_beside-requires-clause-whole : goal.nearest_beside-requires-clause-whole
nearest_beside-requires-clause-whole c =
    let cells = get_or c.args.strip.now.boxes.now c.args.strip.now.team [] in
    let area = c.args.strip.now.area in
    near_each (λ e. HasPoints e.area) (marked_entries cells area c.args.strip.now.mark_list.now.marks.items) (marked_entries cells area c.near_marks-near.result.now) _ _
    (c.near_marks-near.ensures.near cells area c.requires.marked) c.requires.marked.mark_list.whole

pub nearest_beside-requires-clause-reported : goal.nearest_beside-requires-clause-reported
nearest_beside-requires-clause-reported c =
    c.near_marks-near.ensures.reported (get_or c.args.strip.now.boxes.now c.args.strip.now.team []) c.args.strip.now.area c.requires.marked

pub nearest_beside-requires-clause-order : goal.nearest_beside-requires-clause-order
nearest_beside-requires-clause-order c =
    let es = marked_entries (get_or c.args.strip.now.boxes.now c.args.strip.now.team []) c.args.strip.now.area c.args.strip.now.mark_list.now.marks.items in
    let strip = c.args.extent.now in
    let window = c.args.window.now in
    let padding = c.args.padding.now.length in
    let near = marked_entries (get_or c.args.strip.now.boxes.now c.args.strip.now.team []) c.args.strip.now.area c.near_marks-near.result.now in
    let lo : ℤ = int_max window.lo strip.lo in
    let hi : ℤ = int_min window.hi strip.hi in
    let a = c.common_range-range.ensures.low in
    let b = c.common_range-range.ensures.high in
    let p = c.args.padding.now.short.least in
    let q = c.args.padding.now.short.most in
    let run = padded_near padding es near lo hi _ _ (omega (arith, ints, clamps, a, p, q)) (omega (arith, ints, clamps, b, p, q))
    (c.near_marks-near.ensures.near (get_or c.args.strip.now.boxes.now c.args.strip.now.team []) c.args.strip.now.area c.requires.marked) in
    others_in_order (all_padded padding es) (all_padded padding near) lo hi c.args.own run (padded_in_order padding es c.requires.marked.mark_list.orderly.order)

pub nearest_beside-requires-clause-left : goal.nearest_beside-requires-clause-left
nearest_beside-requires-clause-left c =
    let a = c.common_range-range.ensures.low in
    let left = c.requires.left in
    omega (arith, ints, clamps, a, left)

pub nearest_beside-requires-clause-right : goal.nearest_beside-requires-clause-right
nearest_beside-requires-clause-right c =
    let b = c.common_range-range.ensures.high in
    let right = c.requires.right in
    omega (arith, ints, clamps, b, right)

pub returns : goal.returns
returns c =
    let es = marked_entries (get_or c.args.strip.now.boxes.now c.args.strip.now.team []) c.args.strip.now.area c.args.strip.now.mark_list.now.marks.items in
    let strip = c.args.extent.now in
    let window = c.args.window.now in
    let padding = c.args.padding.now.length in
    let near = marked_entries (get_or c.args.strip.now.boxes.now c.args.strip.now.team []) c.args.strip.now.area c.near_marks-near.result.now in
    let lo : ℤ = int_max window.lo strip.lo in
    let hi : ℤ = int_min window.hi strip.hi in
    let a = c.common_range-range.ensures.low in
    let b = c.common_range-range.ensures.high in
    let p = c.args.padding.now.short.least in
    let q = c.args.padding.now.short.most in
    let run = padded_near padding es near lo hi _ _ (omega (arith, ints, clamps, a, p, q)) (omega (arith, ints, clamps, b, p, q))
    (c.near_marks-near.ensures.near (get_or c.args.strip.now.boxes.now c.args.strip.now.team []) c.args.strip.now.area c.requires.marked) in
    let own = c.args.own in
    let range = c.common_range-range.result in
    found_weaker (IsFree range (spans_in (others_in (all_padded padding near) own)))
    (IsFreeIn strip (spans_in (others_in (all_padded padding es) own)) window) c.args.wanted.now c.nearest_beside.result
    (λ free h.
    free_near (all_padded padding es) (all_padded padding near) own strip window lo hi free run
    (λ x first second.
    let i = first.low in
    let j = first.high in
    let k = second.low in
    let l = second.high in
    (omega (arith, ints, clamps, i, k), omega (arith, ints, clamps, j, l)))
    (free_in_both strip window range (spans_in (others_in (all_padded padding near) own)) free a b h))
    c.nearest_beside.ensures
