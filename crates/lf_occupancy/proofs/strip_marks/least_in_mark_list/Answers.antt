use Rattle.std.proofs.Common.{[], get_or, arith}
use Rattle.std.proofs.lemmas.Int.{ints, clamps}
use Rattle.lf_occupancy.specs.MarkLists.{OverlapsOne, marked_entries}
use Rattle.lf_occupancy.proofs.Laning.{marks_rise}
use Rattle.lf_occupancy.proofs.Leasts.{least_alike}
use Rattle.lf_occupancy.proofs.Runs.{overlapped_near, near_overlapped}
use Rattle.lf_occupancy.proofs.strip_marks.least_in_mark_list.Goals as goal

pub near_marks-near-requires-clause-rising : goal.near_marks-near-requires-clause-rising
near_marks-near-requires-clause-rising c = marks_rise _ _ c.args.strip.now.mark_list.now c.requires

pub near_marks-near-requires-clause-some : goal.near_marks-near-requires-clause-some
near_marks-near-requires-clause-some c = c.requires.mark_list.orderly.some

pub near_marks-near-requires-clause-most : goal.near_marks-near-requires-clause-most
near_marks-near-requires-clause-most c = c.requires.mark_list.orderly.most

pub near_marks-near-requires-clause-low : goal.near_marks-near-requires-clause-low
near_marks-near-requires-clause-low c =
    let is = c.max-lo.ensures.value in
    let low = c.args.strip.now.near.low in
    omega (arith, ints, clamps, is, low)

pub least_in-requires : goal.least_in-requires
least_in-requires c = c.near_marks-near.ensures.reported (get_or c.args.strip.now.boxes.now c.args.strip.now.team []) c.args.strip.now.area c.requires

pub returns : goal.returns
returns c =
    let cells = get_or c.args.strip.now.boxes.now c.args.strip.now.team [] in
    let area = c.args.strip.now.area in
    let es = marked_entries cells area c.args.strip.now.mark_list.now.marks.items in
    let near = marked_entries cells area c.near_marks-near.result.now in
    let run = c.near_marks-near.ensures.near cells area c.requires in
    let rect = c.args.rect.now in
    let but = c.args.but in
    let is = c.max-lo.ensures.value in
    least_alike (OverlapsOne near rect but) (OverlapsOne es rect but) c.args.so_far c.least_in.result
    (λ own overlapping_one. near_overlapped es near _ rect.x2 rect but own run overlapping_one)
    (λ own overlapping_one.
    overlapped_near es near _ area.x1 rect but own run (λ k d within. (c.requires.mark_list.inside k d within).left) (λ x a b. omega (arith, ints, clamps, is, a, b)) overlapping_one)
    c.least_in.ensures
