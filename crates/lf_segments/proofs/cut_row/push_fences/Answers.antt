use Rattle.std.proofs.Common.{◌≡◌, ℕ, ◌<◌, ◌≤◌, ◌++◌, List, length, map, get_or, subst, ap, ◌∙◌, arith, rules}
use Rattle.lf_units.specs.declared.span.Span.{Span}
use Rattle.lf_segments.specs.Boxes.{segment_of, AddsRow}
use Rattle.lf_segments.proofs.GroupLemmas.{no_box, first_number, above_all, not_open, fence_spans_of, touch_group, area_high}
use Rattle.lf_segments.proofs.RowLemmas.{row_start, row_skip, row_more}
use Rattle.lf_segments.proofs.cut_row.push_fences.Goals as goal

pub loop-team-init : goal.loop-team-init
loop-team-init g c = (omega arith, row_start c.args.frame.now g.obstacles c.args.number c.args.row.now c.args.segments.now.items)

pub returns-then-is_empty : goal.returns-then-is_empty
returns-then-is_empty g c =
    let group = c.next_group-group.result.now in
    let none : length group ≡ 0 = search rules in
    row_skip c.args.frame.now g.obstacles c.args.number c.args.row.now c.loop-team.team (length c.args.frame.now.teams) c.args.segments.now.items c.loop-team.segments.items
    c.loop-team.invariant.1 c.loop-team.invariant.0
    (λ u from low x. not_open c.args.frame.now g.obstacles c.args.row.now c.args.near.now group c.loop-team.team u c.requires.boxes c.next_group-group.ensures
    (λ k d within. absurd (omega (arith, none, within))) from low x)

pub returns-then-ground-own : goal.returns-then-ground-own
returns-then-ground-own g c =
    let group = c.next_group-group.result.now in
    let some : 0 < length group = search rules in
    let number = first_number group c.next_group-group.ensures.one some in
    let high : length c.args.frame.now.teams ≤ (get_or group 0 no_box).own = omega arith in
    row_skip c.args.frame.now g.obstacles c.args.number c.args.row.now c.loop-team.team (length c.args.frame.now.teams) c.args.segments.now.items c.loop-team.segments.items
    c.loop-team.invariant.1 c.loop-team.invariant.0
    (λ u from low x. not_open c.args.frame.now g.obstacles c.args.row.now c.args.near.now group c.loop-team.team u c.requires.boxes c.next_group-group.ensures
    (above_all group (get_or group 0 no_box).own u number (omega (arith, low, high))) from low x)

pub covered_over-requires-clause-high : goal.covered_over-requires-clause-high
covered_over-requires-clause-high g c = area_high c.args.frame.now c.args.row.now c.area-area.result c.area-area.ensures

pub covered_over-requires-clause-near : goal.covered_over-requires-clause-near
covered_over-requires-clause-near g c =
    touch_group c.args.frame.now g.obstacles c.args.row.now c.args.near.now c.next_group-group.result.now c.loop-team.team c.area-area.result c.requires.boxes
    c.next_group-group.ensures c.area-area.ensures

pub loop-team-preserved : goal.loop-team-preserved
loop-team-preserved g c =
    let f = c.args.frame.now in
    let r = c.args.row.now in
    let near = c.args.near.now in
    let group = c.next_group-group.result.now in
    let some : 0 < length group = search rules in
    let own = (get_or group 0 no_box).own in
    let number = first_number group c.next_group-group.ensures.one some in
    let from : c.loop-team.team ≤ own = (c.next_group-group.ensures.among 0 no_box some).1 in
    let fence : own < length f.teams = omega arith in
    let up_to =
    row_skip f g.obstacles c.args.number r c.loop-team.team own c.args.segments.now.items c.loop-team.segments.items c.loop-team.invariant.1 from
    (λ u least low x. not_open f g.obstacles r near group c.loop-team.team u c.requires.boxes c.next_group-group.ensures (above_all group own u number low) least
    (omega (arith, low, fence)) x) in
    let spans =
    fence_spans_of f g.obstacles r near group c.loop-team.team own c.area-area.result c.in_ok-clear.clear.items c.as_slice.result.now c.in_ok-spans.spans.items
    c.requires.boxes
    c.next_group-group.ensures number from fence c.in_ok-clear.ensures c.area-area.ensures c.as_slice.ensures.value c.in_ok-spans.ensures in (
      omega (arith, fence),
      row_more f g.obstacles c.args.number r own c.args.segments.now.items c.loop-team.segments.items c.push_spans.new.segments.items c.in_ok-spans.spans.items up_to spans
          (c.in_ok-push_spans.ensures ∙ ap (λ (xs : List Span). c.loop-team.segments.items ++ map (segment_of c.args.number own) xs)
          c.as_slice-in-loop-team.ensures.value),
    )

pub returns : goal.returns
returns g c =
    let same : c.loop-team.team ≡ length c.args.frame.now.teams = omega arith in
    subst (λ (n : ℕ). AddsRow c.args.frame.now g.obstacles c.args.number c.args.row.now n c.args.segments.now.items c.loop-team.segments.items) same c.loop-team.invariant.1
