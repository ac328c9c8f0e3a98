use Rattle.std.proofs.Common.{sym, ◌∙◌}
use Rattle.lf_floor.proofs.Saving.{named_many, reported_many}
use Rattle.lf_floor.proofs.state_view.write_tables.Goals as goal

pub write_state-requires : goal.write_state-requires
write_state-requires g c = reported_many c.args.tables.now ∙ sym (named_many c.args.tables.now c.requires)
