use Rattle.std.proofs.Common.{◌≡◌, ◌<◌, List, [], ap, arith, get_or, length, subst, sym, ◌∙◌}
use Rattle.std.proofs.lemmas.List.{get_or_default}
use Rattle.std.proofs.lemmas.Result.{IfOk-weaker}
use Rattle.lf_units.specs.declared.span.Span.{Span}
use Rattle.lf_units.specs.Spans.{IsFreeIn}
use Rattle.lf_segments.specs.declared.strip.Strip.{Strip}
use Rattle.lf_occupancy.specs.MarkLists.{all_padded, others_in, strip_view, spans_in, x_range}
use Rattle.lf_occupancy.specs.Strips.{AreFreeSpansOfStrip, widened_strips, strip_views}
use Rattle.lf_occupancy.proofs.Around.{widened_many}
use Rattle.lf_occupancy.proofs.Finds.{no_strip}
use Rattle.lf_occupancy.proofs.Frees.{left_by_all, left_by_others}
use Rattle.lf_occupancy.proofs.Showing.{widened_team, one_marked, one_shown}
use Rattle.lf_occupancy.proofs.queries.free_in_one.Goals as goal

pub free_in_mark_list-requires-clause-marked : goal.free_in_mark_list-requires-clause-marked
free_in_mark_list-requires-clause-marked c =
    let xs = c.args.marked.now.strips.now.index.now.strips in
    let site = c.args.marked.now.strips.now.site.now in
    let boxes = c.args.marked.now.boxes.now in
    let n = c.args.number in
    let list = c.strips-list.ensures in
    let long = widened_many site xs in
    let count = ap (λ (zs : List Strip). length zs) list in
    let test = c.if-number-list.false in
    let within : n < length xs = omega (arith, test, count) in
    let own = (get_or c.strips-list.result.now n no_strip).team in
    let team : (d : Strip) → (get_or xs n d).team ≡ own = λ d. ap (λ (g : Strip). g.team) (get_or_default xs n d no_strip within)
    ∙ ap (λ (zs : List Strip). (get_or zs n no_strip).team) (sym list) in
    one_marked (widened_strips site xs) boxes c.args.marked.now.mark_lists.now n own c.widened_area.result c.index-mark_lists-number.result
    c.requires (omega (arith, within, long)) (widened_team site xs n own within team) (c.widened_area.ensures.is no_strip)
    c.index-mark_lists-number.is

pub returns-then-team-without : goal.returns-then-team-without
returns-then-team-without c =
    let xs = c.args.marked.now.strips.now.index.now.strips in
    let site = c.args.marked.now.strips.now.site.now in
    let boxes = c.args.marked.now.boxes.now in
    let n = c.args.number in
    let list = c.strips-list.ensures in
    let long = widened_many site xs in
    let count = ap (λ (zs : List Strip). length zs) list in
    let test = c.if-number-list.false in
    let within : n < length xs = omega (arith, test, count) in
    let own = (get_or c.strips-list.result.now n no_strip).team in
    let padding = c.args.padding.now.length in
    let team : (d : Strip) → (get_or xs n d).team ≡ own = λ d. ap (λ (g : Strip). g.team) (get_or_default xs n d no_strip within)
    ∙ ap (λ (zs : List Strip). (get_or zs n no_strip).team) (sym list) in
    let mark_list = strip_view (get_or boxes own []) c.widened_area.result c.index-mark_lists-number.result in
    let is : c.x_range_of-span.result ≡ x_range (get_or xs n no_strip).area =
    c.x_range_of-span.ensures ∙ ap (λ (zs : List Strip). x_range (get_or zs n no_strip).area) list in
    let taken = spans_in (others_in (all_padded padding mark_list.entries) c.args.without.now.own) in
    IfOk-weaker c.free_in_mark_list.result (λ free. IsFreeIn c.x_range_of-span.result taken c.x_range_of-span.result free.items)
    (λ free. AreFreeSpansOfStrip xs (strip_views (widened_strips site xs) boxes c.args.marked.now.mark_lists.now) c.args.without.now padding n free.items)
    (λ free f.
    left_by_others xs (strip_views (widened_strips site xs) boxes c.args.marked.now.mark_lists.now) c.args.without.now padding n mark_list free.items within (λ d. team d ∙ c.if-team-without.true)
    (one_shown (widened_strips site xs) boxes c.args.marked.now.mark_lists.now n own c.widened_area.result c.index-mark_lists-number.result c.requires
    (omega (arith, within, long)) (widened_team site xs n own within team) (c.widened_area.ensures.is no_strip) c.index-mark_lists-number.is)
    (subst (λ (s : Span). IsFreeIn s taken s free.items) is f))
    c.free_in_mark_list.ensures

pub free_of_all-requires-clause-marked : goal.free_of_all-requires-clause-marked
free_of_all-requires-clause-marked c =
    let xs = c.args.marked.now.strips.now.index.now.strips in
    let site = c.args.marked.now.strips.now.site.now in
    let boxes = c.args.marked.now.boxes.now in
    let n = c.args.number in
    let list = c.strips-list.ensures in
    let long = widened_many site xs in
    let count = ap (λ (zs : List Strip). length zs) list in
    let test = c.if-number-list.false in
    let within : n < length xs = omega (arith, test, count) in
    let own = (get_or c.strips-list.result.now n no_strip).team in
    let team : (d : Strip) → (get_or xs n d).team ≡ own = λ d. ap (λ (g : Strip). g.team) (get_or_default xs n d no_strip within)
    ∙ ap (λ (zs : List Strip). (get_or zs n no_strip).team) (sym list) in
    one_marked (widened_strips site xs) boxes c.args.marked.now.mark_lists.now n own c.widened_area.result c.index-mark_lists-number.result
    c.requires (omega (arith, within, long)) (widened_team site xs n own within team) (c.widened_area.ensures.is no_strip)
    c.index-mark_lists-number.is

pub returns : goal.returns
returns c =
    let xs = c.args.marked.now.strips.now.index.now.strips in
    let site = c.args.marked.now.strips.now.site.now in
    let boxes = c.args.marked.now.boxes.now in
    let n = c.args.number in
    let list = c.strips-list.ensures in
    let long = widened_many site xs in
    let count = ap (λ (zs : List Strip). length zs) list in
    let test = c.if-number-list.false in
    let within : n < length xs = omega (arith, test, count) in
    let own = (get_or c.strips-list.result.now n no_strip).team in
    let padding = c.args.padding.now.length in
    let team : (d : Strip) → (get_or xs n d).team ≡ own = λ d. ap (λ (g : Strip). g.team) (get_or_default xs n d no_strip within)
    ∙ ap (λ (zs : List Strip). (get_or zs n no_strip).team) (sym list) in
    let mark_list = strip_view (get_or boxes own []) c.widened_area.result c.index-mark_lists-number.result in
    let is : c.x_range_of-span.result ≡ x_range (get_or xs n no_strip).area =
    c.x_range_of-span.ensures ∙ ap (λ (zs : List Strip). x_range (get_or zs n no_strip).area) list in
    let taken = spans_in (all_padded padding mark_list.entries) in
    IfOk-weaker c.free_of_all.result (λ free. IsFreeIn c.x_range_of-span.result taken c.x_range_of-span.result free.items)
    (λ free. AreFreeSpansOfStrip xs (strip_views (widened_strips site xs) boxes c.args.marked.now.mark_lists.now) c.args.without.now padding n free.items)
    (λ free f.
    left_by_all xs (strip_views (widened_strips site xs) boxes c.args.marked.now.mark_lists.now) c.args.without.now padding n mark_list free.items within
    (λ d same. c.if-team-without.false (sym (team d) ∙ same))
    (one_shown (widened_strips site xs) boxes c.args.marked.now.mark_lists.now n own c.widened_area.result c.index-mark_lists-number.result c.requires
    (omega (arith, within, long)) (widened_team site xs n own within team) (c.widened_area.ensures.is no_strip) c.index-mark_lists-number.is)
    (subst (λ (s : Span). IsFreeIn s taken s free.items) is f))
    c.free_of_all.ensures
