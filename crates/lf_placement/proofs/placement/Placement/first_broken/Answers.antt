use Rattle.std.proofs.Common.{Option, subst}
use Rattle.lf_rules.specs.declared.rule.Rule.{Rule}
use Rattle.lf_placement.specs.Placements.{IsBrokenFrameRule}
use Rattle.lf_placement.proofs.FirstBroken.{broken_alone}
use Rattle.lf_placement.proofs.placement.Placement.first_broken.Goals as goal

pub returns-in-Some : goal.returns-in-Some
returns-in-Some c =
    broken_alone c.args.self.now c.args.padding.sites c.args.id c.args.place.now c.in-Some.rule
    (subst (λ (r : Option Rule). IsBrokenFrameRule c.args.self.now c.args.id c.args.place.now r) c.in-Some.is c.broken_frame_rule.ensures)
