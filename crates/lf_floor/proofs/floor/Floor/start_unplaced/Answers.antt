use Rattle.lf_floor.proofs.Unplacing.{bare_design, bare_tables}
use Rattle.lf_floor.proofs.floor.Floor.start_unplaced.Goals as goal

pub invariant_of-result : goal.invariant_of-result
invariant_of-result g c = bare_tables c.args.loaded c.in_ok-tables.tables (c.in_ok-tables.ensures {u = tt})

pub returns : goal.returns
returns g c = record { design = bare_design c.args.loaded c.in_ok-tables.tables (c.in_ok-tables.ensures {u = tt}) }
