use Rattle.std.proofs.Common.{ℕ, List, ap, length, subst, sym, ◌∙◌}
use Rattle.lf_segments.specs.declared.strip.Strip.{Strip}
use Rattle.lf_occupancy.specs.Building.{HaveNoMarks, PrecedesCell}
use Rattle.lf_occupancy.specs.Strips.{widened_strips}
use Rattle.lf_occupancy.proofs.Around.{widened_many}
use Rattle.lf_occupancy.proofs.Building.{mark_lists_bare, mark_lists_filled}
use Rattle.lf_occupancy.proofs.Parting.{all_passed}
use Rattle.lf_occupancy.proofs.build.marks_of_strips.Goals as goal

pub loop-team-init : goal.loop-team-init
loop-team-init c =
    let f = c.args.placed.now.frame.now in
    let strips = c.args.placed.now.index.now.strips in
    mark_lists_bare f c.args.placed.now.cells.now (widened_strips f.pitch.x strips) c.in_ok-mark_lists.mark_lists.items
    (subst (λ (n : ℕ). HaveNoMarks n c.in_ok-mark_lists.mark_lists.items) (ap (λ (xs : List Strip). length xs) c.strips.ensures ∙ sym (widened_many f.pitch.x strips))
    c.in_ok-mark_lists.ensures)

pub returns : goal.returns
returns c =
    let f = c.args.placed.now.frame.now in
    let cells = c.args.placed.now.cells.now in
    let team = c.loop-team.team in
    mark_lists_filled f cells (widened_strips f.pitch.x c.args.placed.now.index.now.strips) (PrecedesCell team 0) c.loop-team.mark_lists.items
    (all_passed cells c.cell_ids.result.now c.team_count-team-end.result team c.cell_ids.ensures c.team_count-team-end.ensures c.loop-team-test.false) c.loop-team.invariant
