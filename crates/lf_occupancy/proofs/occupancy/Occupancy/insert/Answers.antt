use Rattle.std.proofs.Common.{refl, subst, sym, ◌∙◌}
use Rattle.lf_occupancy.specs.Strips.{CanEnter, MarksBoxes, Marked, widened_strips, with_boxes}
use Rattle.lf_occupancy.proofs.Reaching.{mark_lists_rise, many_still}
use Rattle.lf_occupancy.proofs.Views.{seen_is_room}
use Rattle.lf_occupancy.proofs.occupancy.Occupancy.insert.Goals as goal

pub invariant_of-strips : goal.invariant_of-strips
invariant_of-strips c = record { site_width = c.self.invariant.site }

pub invariant_of-self : goal.invariant_of-self
invariant_of-self c = record {
  site = c.self.invariant.site;
  many = many_still c.self.inside.mark_lists.items c.take_in.new.mark_lists.items c.take_in.ensures.rooms ∙ c.self.invariant.many;
}

pub take_in-requires-clause-marks : goal.take_in-requires-clause-marks
take_in-requires-clause-marks c =
    let o = c.self.inside in
    let enter = subst (λ (m : Marked). CanEnter m c.args.id c.args.rect.now) (sym c.self.view_is) c.requires.enter in
    record { many = c.self.invariant.many; rising = mark_lists_rise (widened_strips o.site o.index.strips) enter.boxes o.mark_lists.items enter.holds }

pub take_in-requires-clause-room : goal.take_in-requires-clause-room
take_in-requires-clause-room c =
    let o = c.self.inside in
    let enter = subst (λ (m : Marked). CanEnter m c.args.id c.args.rect.now) (sym c.self.view_is) c.requires.enter in
    seen_is_room (with_boxes record { index = o.index; site = o.site; mark_lists = o.mark_lists.items } enter.boxes) o.mark_lists.items c.args.id.team c.args.rect.now 1 refl
    enter.holds enter.room

pub returns-clause-holds : goal.returns-clause-holds
returns-clause-holds c = λ boxes nowhere holds.
    c.take_in.ensures.mark_lists boxes nowhere (subst (λ (m : Marked). MarksBoxes m boxes) (sym c.self.view_is) holds)
