use Rattle.lf_state_text.specs.Saved.{team_views}
use Rattle.lf_floor.proofs.Saving.{rows_due}
use Rattle.lf_floor.proofs.restore.read_rows.Goals as goal

pub returns-clause-due : goal.returns-clause-due
returns-clause-due c = rows_due (λ rows. team_views rows.items) c.args.tables.now c.requires c.read_state.result c.read_state.ensures.fits
