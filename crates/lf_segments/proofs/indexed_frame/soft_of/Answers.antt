use Rattle.std.proofs.Common.{subst, sym}
use Rattle.lf_segments.specs.IndexedFrames.{IsSoftOf}
use Rattle.lf_segments.proofs.OnRowLemmas.{soft_of_ground}
use Rattle.lf_segments.proofs.indexed_frame.soft_of.Goals as goal

pub returns : goal.returns
returns c =
    subst (IsSoftOf c.args.frame.now c.args.segment) (sym c.soft_of.ensures)
    (soft_of_ground c.args.frame.now c.args.index.now c.args.segment c.cut_is_unique.ensures c.requires)
