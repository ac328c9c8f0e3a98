use Rattle.std.proofs.Common.{◌≡◌, ◌<◌, ◌++◌, List, [], arith, length, get_or, ap, subst, ◌∙◌}
use Rattle.std.proofs.lemmas.List.{get_or_default}
use Rattle.lf_units.specs.declared.span.Span.{Span}
use Rattle.lf_units.specs.Spans.{IsFreeIn}
use Rattle.lf_segments.specs.declared.strip.Strip.{Strip}
use Rattle.lf_gaps.proofs.Nearest.{lists_joined, none_fits}
use Rattle.lf_occupancy.specs.MarkLists.{all_padded, others_in, strip_view, spans_in, x_range}
use Rattle.lf_occupancy.specs.Strips.{widened_strips, strip_views}
use Rattle.lf_occupancy.proofs.Around.{widened_many}
use Rattle.lf_occupancy.proofs.Frees.{none_free, free_further, free_of_row}
use Rattle.lf_occupancy.proofs.Finds.{no_strip}
use Rattle.lf_occupancy.proofs.Showing.{widened_team, one_marked, one_shown, shown_many}
use Rattle.lf_occupancy.proofs.nearest_gap.nearest_in_strips.Goals as goal

pub loop-n-init : goal.loop-n-init
loop-n-init c =
    let start = c.strips_overlapping-near.result.start in
    let end = c.strips_overlapping-near.result.end in
    let xs = c.args.marked.now.strips.now.index.now.strips in
    let mark_lists = strip_views (widened_strips c.args.marked.now.strips.now.site.now xs) c.args.marked.now.boxes.now c.args.marked.now.mark_lists.now in
    record {
      spans = [];
      is = none_free xs mark_lists c.args.id.now.own c.args.padding.now.length start end c.args.window.now;
      nearest = none_fits c.args.wanted.now;
    }

pub widened_area-requires : goal.widened_area-requires
widened_area-requires c =
    let bound = c.strips_overlapping-near.ensures.within in
    let test = c.loop-n-test.true in
    let long = widened_many c.args.marked.now.strips.now.site.now c.args.marked.now.strips.now.index.now.strips in
    omega (arith, bound, test, long)

pub nearest_in_mark_list-next-requires-clause-marked : goal.nearest_in_mark_list-next-requires-clause-marked
nearest_in_mark_list-next-requires-clause-marked c =
    let xs = c.args.marked.now.strips.now.index.now.strips in
    let n = c.loop-n.n in
    let near = c.strips_overlapping-near.ensures in
    let bound = near.within in
    let test = c.loop-n-test.true in
    let long = widened_many c.args.marked.now.strips.now.site.now xs in
    let within : n < length xs = omega (arith, bound, test) in
    one_marked (widened_strips c.args.marked.now.strips.now.site.now xs) c.args.marked.now.boxes.now c.args.marked.now.mark_lists.now n c.args.id.now.team c.widened_area.result c.index-mark_lists-n.result
    c.requires.mark_lists (omega (arith, within, long))
    (widened_team c.args.marked.now.strips.now.site.now xs n c.args.id.now.team within (λ d. ((near.exact n d within).0 (c.loop-n.auto.n, test)).of_team))
    (c.widened_area.ensures.is no_strip) c.index-mark_lists-n.is

pub loop-n-preserved : goal.loop-n-preserved
loop-n-preserved c =
    let start = c.strips_overlapping-near.result.start in
    let end = c.strips_overlapping-near.result.end in
    let n = c.loop-n.n in
    let site = c.args.marked.now.strips.now.site.now in
    let boxes = c.args.marked.now.boxes.now in
    let xs = c.args.marked.now.strips.now.index.now.strips in
    let mark_lists = strip_views (widened_strips site xs) boxes c.args.marked.now.mark_lists.now in
    let row = c.args.row in
    let team = c.args.id.now.team in
    let own = c.args.id.now.own in
    let padding = c.args.padding.now.length in
    let window = c.args.window.now in
    let area = c.widened_area.result in
    let mark_list = strip_view (get_or boxes team []) area c.index-mark_lists-n.result in
    let list = c.strips-list.ensures in
    let part = c.nearest_in_mark_list-next.ensures in
    let free = c.loop-n.invariant in
    let near = c.strips_overlapping-near.ensures in
    let bound = near.within in
    let test = c.loop-n-test.true in
    let long = widened_many site xs in
    let within : n < length xs = omega (arith, bound, test) in
    let many = shown_many (widened_strips site xs) boxes c.args.marked.now.mark_lists.now c.requires.mark_lists.many in
    let g : Strip = get_or xs n no_strip in
    let is : c.x_range_of-span.result ≡ x_range g.area = c.x_range_of-span.ensures ∙ ap (λ (zs : List Strip). x_range (get_or zs n no_strip).area) list in
    let new = subst (λ (s : Span). IsFreeIn s (spans_in (others_in (all_padded padding mark_list.entries) own)) window part.spans) is part.is in
    let shows = one_shown (widened_strips site xs) boxes c.args.marked.now.mark_lists.now n team area c.index-mark_lists-n.result c.requires.mark_lists (omega (arith, within, long))
    (widened_team site xs n team within (λ d. ((near.exact n d within).0 (c.loop-n.auto.n, test)).of_team))
    (c.widened_area.ensures.is no_strip) c.index-mark_lists-n.is mark_list in
    record {
      spans = free.spans ++ part.spans;
      is =
          free_further xs mark_lists row team own padding start n end window mark_list g free.spans part.spans c.strips_are_placed.ensures.in_order near c.loop-n.auto.n
          test (omega (arith, within, many, long)) (λ k d inner. (c.strips_are_placed.ensures.placed k d inner).wide) shows
          (λ d. get_or_default xs n no_strip d within) free.is new;
      nearest =
          lists_joined free.spans part.spans c.args.wanted.now c.loop-n.best c.nearest_in_mark_list-next.result c.nearer_of-best.result free.nearest part.nearest
          c.nearer_of-best.ensures;
    }

pub returns : goal.returns
returns c =
    let start = c.strips_overlapping-near.result.start in
    let end = c.strips_overlapping-near.result.end in
    let xs = c.args.marked.now.strips.now.index.now.strips in
    let mark_lists = strip_views (widened_strips c.args.marked.now.strips.now.site.now xs) c.args.marked.now.boxes.now c.args.marked.now.mark_lists.now in
    let row = c.args.row in
    let team = c.args.id.now.team in
    let window = c.args.window.now in
    let near = c.strips_overlapping-near.ensures in
    let all = c.loop-n.invariant in
    record {
      spans = all.spans;
      is =
          free_of_row xs mark_lists row team c.args.id.now.own c.args.padding.now.length start c.loop-n.n end window all.spans near c.loop-n-test.false
          all.is;
      nearest = all.nearest;
    }
