use Rattle.std.proofs.Common.{[], get_or, ℤ, ◌+ℤ◌, ◌-ℤ◌, ◌*ℤ◌, pos, ◌≤ℤ◌, List, ap, map, subst, sym, ◌∙◌, arith}
use Rattle.std.specs.Prelude.{All, AllPairs}
use Rattle.std.proofs.lemmas.Int.{ints}
use Rattle.std.proofs.lemmas.Result.{IfOk-weaker}
use Rattle.std.proofs.lemmas.List.{map-id}
use Rattle.lf_units.specs.declared.span.Span.{Span}
use Rattle.lf_units.specs.Spans.{IsFreeIn}
use Rattle.lf_rules.specs.Padding.{HasRoomAround}
use Rattle.lf_occupancy.specs.declared.strip_marks.Mark.{Mark}
use Rattle.lf_occupancy.specs.MarkLists.{MarksAreOf, all_padded, marked_entries, strip_view, spans_in}
use Rattle.lf_occupancy.proofs.Showing.{roomy_mark_list}
use Rattle.lf_occupancy.proofs.Padded.{padded_in_order, padded_narrow}
use Rattle.lf_occupancy.proofs.Runs.{spans_in_order, spans_narrow}
use Rattle.lf_occupancy.proofs.strip_marks.free_of_all.Goals as goal

pub padded_of-requires-clause-around : goal.padded_of-requires-clause-around
padded_of-requires-clause-around c =
    let cells = get_or c.args.strip.now.boxes.now c.args.strip.now.team [] in
    let area = c.args.strip.now.area in
    subst (λ (ms : List Mark). All (λ e. HasRoomAround e.area) (marked_entries cells area ms)) (sym c.as_slice.ensures.value)
    (roomy_mark_list cells area (strip_view cells area c.args.strip.now.mark_list.now) c.requires.marked.mark_list c.args.strip.now.near)

pub padded_of-requires-clause-reported : goal.padded_of-requires-clause-reported
padded_of-requires-clause-reported c =
    subst (MarksAreOf (get_or c.args.strip.now.boxes.now c.args.strip.now.team []) c.args.strip.now.area) (sym c.as_slice.ensures.value) c.requires.marked.reported

pub free_in-requires-clause-order : goal.free_in-requires-clause-order
free_in-requires-clause-order c =
    let es = marked_entries (get_or c.args.strip.now.boxes.now c.args.strip.now.team []) c.args.strip.now.area c.args.strip.now.mark_list.now.marks.items in
    let padding = c.args.padding.now.length in
    let same = map-id c.as_slice-2.result.now ∙ (c.as_slice-2.ensures.value ∙ (c.in_ok-all.ensures
    ∙ ap (λ (ms : List Mark). spans_in (all_padded padding (marked_entries (get_or c.args.strip.now.boxes.now c.args.strip.now.team []) c.args.strip.now.area ms))) c.as_slice.ensures.value)) in
    subst (λ (xs : List Span). AllPairs (λ s t. s.lo ≤ℤ t.lo) xs) (sym same)
    (spans_in_order (all_padded padding es) (padded_in_order padding es c.requires.marked.mark_list.orderly.order))

pub free_in-requires-clause-wide : goal.free_in-requires-clause-wide
free_in-requires-clause-wide c =
    let es = marked_entries (get_or c.args.strip.now.boxes.now c.args.strip.now.team []) c.args.strip.now.area c.args.strip.now.mark_list.now.marks.items in
    let padding = c.args.padding.now.length in
    let widest : ℤ = c.args.strip.now.mark_list.now.widest +ℤ (pos 2 *ℤ padding) in
    let same = map-id c.as_slice-2.result.now ∙ (c.as_slice-2.ensures.value ∙ (c.in_ok-all.ensures
    ∙ ap (λ (ms : List Mark). spans_in (all_padded padding (marked_entries (get_or c.args.strip.now.boxes.now c.args.strip.now.team []) c.args.strip.now.area ms))) c.as_slice.ensures.value)) in
    let narrow = subst (λ (xs : List Span). All (λ s. (s.hi -ℤ s.lo) ≤ℤ widest) xs) (sym same)
    (spans_narrow (all_padded padding es) widest (padded_narrow padding c.args.strip.now.mark_list.now.widest es c.requires.marked.mark_list.orderly.wide)) in
    let is = c.widest_padded.ensures in
    λ k d within. let h = narrow k d within in omega (arith, ints, h, is)

pub returns : goal.returns
returns c =
    let es = marked_entries (get_or c.args.strip.now.boxes.now c.args.strip.now.team []) c.args.strip.now.area c.args.strip.now.mark_list.now.marks.items in
    let strip = c.args.extent.now in
    let padding = c.args.padding.now.length in
    let same = map-id c.as_slice-2.result.now ∙ (c.as_slice-2.ensures.value ∙ (c.in_ok-all.ensures
    ∙ ap (λ (ms : List Mark). spans_in (all_padded padding (marked_entries (get_or c.args.strip.now.boxes.now c.args.strip.now.team []) c.args.strip.now.area ms))) c.as_slice.ensures.value)) in
    IfOk-weaker c.free_in.result (λ free. IsFreeIn strip (map (λ (s : Span). s) c.as_slice-2.result.now) strip free.items)
    (λ free. IsFreeIn strip (spans_in (all_padded padding es)) strip free.items)
    (λ free h. subst (λ (xs : List Span). IsFreeIn strip xs strip free.items) same h) c.free_in.ensures
