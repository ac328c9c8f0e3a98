use Rattle.std.proofs.Common.{◌≡◌, ◌<◌, ◌≤◌, ℕ, true}
use Rattle.lf_segments.specs.declared.strip.Strip.{Strip}
use Rattle.lf_segments.specs.Strips.{is_begun}
use Rattle.lf_segments.proofs.strips.end_of_begun.Given as goal

-- The strips so far are begun.
abbrev pub invariant-loop-n : goal.invariant-loop-n
invariant-loop-n l = (k : ℕ) → (d : Strip) → l.first ≤ k → k < l.n → is_begun l.strips l.row l.team l.x k d ≡ true
