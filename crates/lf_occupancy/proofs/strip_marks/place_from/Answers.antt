use Rattle.std.proofs.Common.{◌⊎◌, inl, inr, refl, ◌≤◌, ◌<◌, ℕ, arith}
use Rattle.lf_occupancy.proofs.Ones.{none_farther}
use Rattle.lf_occupancy.proofs.strip_marks.place_from.Goals as goal

pub returns-then-is_beyond : goal.returns-then-is_beyond
returns-then-is_beyond c = λ k d from within same.
    elim (order k c.loop-n.n) [
      | inl less ↦ c.loop-n.invariant k d from less same
      | inr after_it ↦
          none_farther c.args.marks.now c.args.own c.loop-n.n c.args.left.now _ c.requires.order c.requires.begins c.loop-n-test.true
          (c.if-is_beyond.ensures.0 refl) k d after_it within same
    ]
  where
    order : (a b : ℕ) → (a < b) ⊎ (b ≤ a)
    order a b = grind arith
