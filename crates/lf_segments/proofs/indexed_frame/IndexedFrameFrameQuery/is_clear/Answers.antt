use Rattle.std.proofs.Common.{subst, sym}
use Rattle.lf_floorplan.specs.declared.frame.Frame.{Frame}
use Rattle.lf_floorplan.specs.Ground.{StaysInGround}
use Rattle.lf_segments.proofs.indexed_frame.IndexedFrameFrameQuery.is_clear.Goals as goal

pub keeps_clear-requires-clause-inside : goal.keeps_clear-requires-clause-inside
keeps_clear-requires-clause-inside c = subst (λ (f : Frame). StaysInGround f c.args.team c.args.rect.now) (sym c.self.view_is) c.requires.inside
