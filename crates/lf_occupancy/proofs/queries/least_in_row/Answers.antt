use Rattle.std.proofs.Common.{◌<◌, [], arith, get_or, length}
use Rattle.lf_occupancy.specs.MarkLists.{strip_view}
use Rattle.lf_occupancy.specs.Strips.{strip_views}
use Rattle.lf_occupancy.proofs.Leasts.{least_alike, least_of_none}
use Rattle.lf_occupancy.proofs.Finds.{no_strip, nothing_between, least_further, between_in_row, row_in_between}
use Rattle.lf_occupancy.proofs.Reaching.{mark_lists_orderly}
use Rattle.lf_occupancy.proofs.Showing.{mark_lists_shown, one_marked, one_shown, shown_many}
use Rattle.lf_occupancy.specs.Widened.{all_widened}
use Rattle.lf_occupancy.proofs.queries.least_in_row.Goals as goal

pub loop-n-init : goal.loop-n-init
loop-n-init c = least_of_none _ c.args.so_far (λ own m. nothing_between _ _ _ _ _ own m)

pub least_in_mark_list-least-requires : goal.least_in_mark_list-least-requires
least_in_mark_list-least-requires c =
    let xs = all_widened c.args.marked.now.strips.now in
    let n = c.loop-n.n in
    let near = c.widened_strips-near.ensures in
    let bound = near.within in
    let test = c.loop-n-test.true in
    let within : n < length xs = omega (arith, bound, test) in
    one_marked xs c.args.marked.now.boxes.now c.args.marked.now.mark_lists.now n c.args.id.now.team c.widened_area.result c.index-mark_lists-n.result c.requires within
    (λ d. ((near.exact n d within).0 (c.loop-n.auto.n, test)).of_team) (c.widened_area.ensures.is no_strip) c.index-mark_lists-n.is

pub loop-n-preserved : goal.loop-n-preserved
loop-n-preserved c =
    let xs = all_widened c.args.marked.now.strips.now in
    let boxes = c.args.marked.now.boxes.now in
    let mark_lists = c.args.marked.now.mark_lists.now in
    let n = c.loop-n.n in
    let near = c.widened_strips-near.ensures in
    let bound = near.within in
    let test = c.loop-n-test.true in
    let within : n < length xs = omega (arith, bound, test) in
    let many = shown_many xs boxes mark_lists c.requires.many in
    let mark_list = strip_view (get_or boxes c.args.id.now.team []) c.widened_area.result c.index-mark_lists-n.result in
    least_further (strip_views xs boxes mark_lists) c.widened_strips-near.result.start n c.widened_strips-near.result.end c.args.rect.now c.args.id.now.own
    mark_list c.args.so_far c.loop-n.least c.least_in_mark_list-least.result c.loop-n.auto.n test (omega (arith, many, within))
    (one_shown xs boxes mark_lists n c.args.id.now.team c.widened_area.result c.index-mark_lists-n.result c.requires within
    (λ d. ((near.exact n d within).0 (c.loop-n.auto.n, test)).of_team) (c.widened_area.ensures.is no_strip) c.index-mark_lists-n.is mark_list)
    c.loop-n.invariant c.least_in_mark_list-least.ensures

pub returns : goal.returns
returns c =
    let xs = all_widened c.args.marked.now.strips.now in
    let mark_lists = strip_views xs c.args.marked.now.boxes.now c.args.marked.now.mark_lists.now in
    let row = c.args.row in
    let team = c.args.id.now.team in
    let rect = c.args.rect.now in
    let but = c.args.id.now.own in
    let start = c.widened_strips-near.result.start in
    let end = c.widened_strips-near.result.end in
    let near = c.widened_strips-near.ensures in
    let orderly = mark_lists_orderly xs c.args.marked.now.boxes.now mark_lists (mark_lists_shown xs c.args.marked.now.boxes.now c.args.marked.now.mark_lists.now c.requires) in
    least_alike _ _ c.args.so_far c.loop-n.least (λ own m. between_in_row xs mark_lists row team start c.loop-n.n end rect but own near m)
    (λ own m. row_in_between xs mark_lists row team start c.loop-n.n end rect but own near orderly c.loop-n-test.false m) c.loop-n.invariant
