use Rattle.std.proofs.Common.{◌≡◌, ◌∙◌, [], ap, subst, sym}
use Rattle.lf_floorplan.specs.declared.frame.Frame.{Frame}
use Rattle.lf_segments.specs.Indexes.{FrameIndexView, IsIndexOf}
use Rattle.lf_repair_bounds.specs.EmptyFloors.{EmptyFloorView}
use Rattle.lf_repair_bounds.proofs.nearest_place.keeps_rules.Goals as goal

pub new-frame-requires : goal.new-frame-requires
new-frame-requires c =
    let same : c.bare.inside.frame.now ≡ c.args.lone.now.frame.now = ap (λ (v : EmptyFloorView). v.frame) c.bare.view_is ∙ sym c.args.lone.now.of_frame in
    subst (λ (g : FrameIndexView). IsIndexOf c.args.lone.now.frame.now g) (sym c.index.ensures)
    (subst (λ (f : Frame). IsIndexOf f c.bare.inside.occupancy.index) same c.bare.invariant.marked.index)

pub returns-in-None : goal.returns-in-None
returns-in-None c = λ yes. rw (c.new-frame.ensures, c.mac_at-mac.ensures) at (c.in-None.ensures 0 [])
