use Rattle.lf_segments.proofs.OnRowLemmas.{at_row_lies, lies_at_row, no_row_lies}
use Rattle.lf_segments.proofs.row_lookup.lies_at.Goals as goal

pub returns-in-Some : goal.returns-in-Some
returns-in-Some c =
    let f = c.args.frame.now in
    let xs = c.args.segments.now in
    let y = c.args.y.now in
    let box = c.args.rect.now in (
      λ yes. lies_at_row f xs c.args.team c.in-Some.row box y c.in-Some.ensures (c.lies_in_one.ensures.0 yes),
      λ lies. c.lies_in_one.ensures.1 (at_row_lies f xs c.args.team c.in-Some.row box y c.in-Some.ensures lies),
    )

pub returns-in-None : goal.returns-in-None
returns-in-None c = (
  λ yes. absurd cc,
  λ lies. absurd (no_row_lies c.args.frame.now c.args.segments.now c.args.team c.args.rect.now c.args.y.now c.in-None.ensures lies),
)
