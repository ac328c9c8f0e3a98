use Rattle.std.proofs.Common.{Option, subst, sym, ◌∙◌}
use Rattle.std.specs.Prelude.{OnOk}
use Rattle.lf_units.specs.declared.geometry.Rect.{Rect}
use Rattle.lf_occupancy.specs.Strips.{ShowAllBoxes, boxes_set}
use Rattle.lf_occupancy.proofs.Building.{none_set}
use Rattle.lf_occupancy.specs.Building.{strips_to_mark}
use Rattle.lf_occupancy.proofs.build.mark_cell.Goals as goal

pub returns-in_default : goal.returns-in_default
returns-in_default c = λ boxes nowhere are.
    let xs = strips_to_mark c.args.placed.now in
    let id = c.args.id.now in
    subst (λ (b : Option Rect). ShowAllBoxes xs (boxes_set boxes id b) c.args.mark_lists.now.items) (sym c.in_default.is ∙ c.box_at_work.ensures.is)
    (none_set xs boxes id c.args.mark_lists.now.items nowhere are)

pub returns : goal.returns
returns c = λ boxes nowhere are.
    let xs = strips_to_mark c.args.placed.now in
    let id = c.args.id.now in
    subst (λ (b : Option Rect). OnOk c.reserve_and_mark.result (ShowAllBoxes xs (boxes_set boxes id b) c.reserve_and_mark.new.mark_lists.items))
    (sym c.in-Some.is ∙ c.box_at_work.ensures.is) (c.reserve_and_mark.ensures.ok boxes nowhere are)
