use Rattle.std.proofs.Common.{subst, sym, ◌∙◌}
use Rattle.lf_occupancy.specs.Strips.{CanLeave, MarksBoxes, Marked, widened_strips}
use Rattle.lf_occupancy.proofs.Reaching.{many_still}
use Rattle.lf_occupancy.proofs.Ones.{mark_lists_have_one}
use Rattle.lf_occupancy.proofs.occupancy.Occupancy.remove.Goals as goal

pub take_out-requires : goal.take_out-requires
take_out-requires c =
    let o = c.self.inside in
    let leave = subst (λ (m : Marked). CanLeave m c.args.id c.args.rect.now) (sym c.self.view_is) c.requires in
    mark_lists_have_one (widened_strips o.site o.index.strips) leave.boxes o.mark_lists.items c.args.id c.args.rect.now leave.holds leave.is

pub invariant_of-strips : goal.invariant_of-strips
invariant_of-strips c = record { site_width = c.self.invariant.site }

pub invariant_of-self : goal.invariant_of-self
invariant_of-self c = record {
  site = c.self.invariant.site;
  many = many_still c.self.inside.mark_lists.items c.take_out.new.mark_lists.items c.take_out.ensures.rooms ∙ c.self.invariant.many;
}

pub returns-clause-holds : goal.returns-clause-holds
returns-clause-holds c = λ boxes is holds.
    c.take_out.ensures.mark_lists boxes is (subst (λ (m : Marked). MarksBoxes m boxes) (sym c.self.view_is) holds)
