use Rattle.std.proofs.Common.{rules}
use Rattle.lf_units.proofs.Nears.{adds_no_box, adds_box}
use Rattle.lf_units.proofs.overlapping.push_near.Goals as goal

pub returns-then-not-overlaps : goal.returns-then-not-overlaps
returns-then-not-overlaps c = adds_no_box c.args.placed.now c.args.rect.now c.args.found.now.items (search rules)

pub returns : goal.returns
returns c = adds_box c.args.placed.now c.args.rect.now c.args.found.now.items _ (search rules) (search rules)
