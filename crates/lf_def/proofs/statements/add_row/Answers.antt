use Rattle.std.proofs.lemmas.List.Elements.{All-push}
use Rattle.lf_def.specs.Ranges.{IsRow}
use Rattle.lf_def.proofs.statements.add_row.Goals as goal

pub returns-clause-range : goal.returns-clause-range
returns-clause-range c = rw c.in_ok-push.ensures.ok (All-push IsRow c.args.rows.now c.in_ok-row.row c.requires.range c.in_ok-row.ensures.range)
