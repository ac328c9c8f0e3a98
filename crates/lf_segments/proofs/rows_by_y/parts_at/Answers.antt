use Rattle.std.proofs.Common.{arith}
use Rattle.std.proofs.lemmas.Int.{ints}
use Rattle.lf_segments.proofs.HeightLemmas.{below_last, from_first, no_entry}
use Rattle.lf_segments.proofs.rows_by_y.parts_at.Goals as goal
use Rattle.lf_segments.proofs.rows_by_y.parts_at.Goals.{else-at-gt0-via-then-at-gt0+else-y-entries, else-at-gt0-via-else-at-gt0}

pub returns-then-at-entries-clause-below : goal.returns-then-at-entries-clause-below
returns-then-at-entries-clause-below c = λ t.
    below_last c.args.entries.now c.args.y.now c.requires c.args.at no_entry (omega arith)
    (λ some. elim c.else-at-gt0.branch [
      | else-at-gt0-via-then-at-gt0+else-y-entries w ↦ omega (arith, ints)
      | else-at-gt0-via-else-at-gt0 w ↦ absurd (omega arith)
    ])

pub returns-else-at-entries-clause-below : goal.returns-else-at-entries-clause-below
returns-else-at-entries-clause-below c = λ t.
    below_last c.args.entries.now c.args.y.now c.requires c.args.at no_entry (omega arith)
    (λ some. elim c.else-at-gt0.branch [
      | else-at-gt0-via-then-at-gt0+else-y-entries w ↦ omega (arith, ints)
      | else-at-gt0-via-else-at-gt0 w ↦ absurd (omega arith)
    ])

pub returns-else-at-entries-clause-rest : goal.returns-else-at-entries-clause-rest
returns-else-at-entries-clause-rest c = λ t.
    from_first c.args.entries.now c.args.y.now c.requires c.args.at no_entry (omega arith) (omega (arith, ints))
