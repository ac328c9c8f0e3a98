use Rattle.std.proofs.Common.{subst}
use Rattle.std.specs.Prelude.{◌↔◌, IsTrue}
use Rattle.lf_floorplan.specs.declared.frame.Frame.{Frame}
use Rattle.lf_floorplan.specs.Ground.{StaysInGround}
use Rattle.lf_segments.proofs.indexed_frame.IndexedFrameFrameQuery.stays_in_ground.Goals as goal

pub returns : goal.returns
returns c = subst (λ (f : Frame). IsTrue c.keeps_ground.result ↔ StaysInGround f c.args.team c.args.rect.now) c.self.view_is c.keeps_ground.ensures
