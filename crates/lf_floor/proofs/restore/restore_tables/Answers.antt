use Rattle.lf_state_text.specs.Saved.{team_views}
use Rattle.lf_floor.proofs.Saving.{of_design}
use Rattle.lf_floor.proofs.restore.restore_tables.Goals as goal

pub returns-in-Ok-clause-design : goal.returns-in-Ok-clause-design
returns-in-Ok-clause-design c =
    of_design c.args.tables c.in-Ok.now (team_views c.in_ok-rows.rows.items) c.in_ok-rows.ensures.due c.in-Ok.ensures.floor
