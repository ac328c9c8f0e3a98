use Rattle.lf_frame.proofs.Pieces.{fences_apart}
use Rattle.lf_frame.proofs.fence_checks.first_fence_overlap.Goals as goal

pub returns-then-none_clash : goal.returns-then-none_clash
returns-then-none_clash c =
    fences_apart c.args.regions.now c.in_ok-pieces.pieces.items c.in_ok-pieces.ensures
    (rw c.deref_mut.ensures.value at (c.none_clash.ensures.0 c.if-none_clash.true))
