use Rattle.std.proofs.Common.{◌≡◌, ◌++◌, drop}
use Rattle.lf_repair_bounds.proofs.frame_copy.copy_fences.Given as goal

-- the copies so far, followed by the remaining fences, are all of them
abbrev pub invariant-loop-fence : goal.invariant-loop-fence
invariant-loop-fence l = l.copies ++ drop l.fence-index l.fences ≡ l.fences
