use Rattle.std.proofs.Common.{arith, refl}
use Rattle.std.proofs.lemmas.Int.{ints}
use Rattle.lf_units.proofs.Edges.{shared_of_edges, edges_of_shared}
use Rattle.lf_units.proofs.geometry.Rect.overlaps.Goals as goal
use Rattle.lf_units.proofs.geometry.Rect.overlaps.Goals.{then-self-other-via-then-self-other, then-self-other-via-else-self-other+then-self-other-2, then-other-self-via-then-other-self, then-other-self-via-else-other-self+then-other-self-2}

pub returns-then-self-other : goal.returns-then-self-other
returns-then-self-other c = (
  λ t. cc,
  λ s.
      let e = edges_of_shared _ _ s in
      absurd (elim c.then-self-other.branch [
        | then-self-other-via-then-self-other w ↦ omega (arith, ints)
        | then-self-other-via-else-self-other+then-self-other-2 w ↦ omega (arith, ints)
      ]),
)

pub returns-then-other-self : goal.returns-then-other-self
returns-then-other-self c = (
  λ t. cc,
  λ s.
      let e = edges_of_shared _ _ s in
      absurd (elim c.then-other-self.branch [
        | then-other-self-via-then-other-self w ↦ omega (arith, ints)
        | then-other-self-via-else-other-self+then-other-self-2 w ↦ omega (arith, ints)
      ]),
)

pub returns : goal.returns
returns c = (
  λ t. shared_of_edges _ _ record {
    wide_first = omega (arith, ints);
    wide_second = omega (arith, ints);
    high_first = omega (arith, ints);
    high_second = omega (arith, ints);
    left = omega (arith, ints);
    right = omega (arith, ints);
    below = omega (arith, ints);
    above = omega (arith, ints);
  },
  λ s. refl,
)
