use Rattle.lf_floor.proofs.Rows.{opened_as_loaded, opened_floor, opened_legal, opened_tables}
use Rattle.lf_floor.proofs.floor.Floor.start.Goals as goal

pub invariant_of-result : goal.invariant_of-result
invariant_of-result g c = opened_tables c.args.loaded c.in_ok-tables.tables (c.in_ok-tables.ensures {u = tt})

pub returns-clause-opens : goal.returns-clause-opens
returns-clause-opens g c = opened_floor c.args.loaded c.in_ok-tables.tables (c.in_ok-tables.ensures {u = tt})

pub returns-clause-committed : goal.returns-clause-committed
returns-clause-committed g c = opened_as_loaded c.args.loaded c.in_ok-tables.tables (c.in_ok-tables.ensures {u = tt})

pub returns-clause-legal : goal.returns-clause-legal
returns-clause-legal g c = opened_legal c.args.loaded c.in_ok-tables.tables (c.in_ok-tables.ensures {u = tt})
