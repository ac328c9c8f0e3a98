use Rattle.lf_hub_serve.proofs.Records.{settled_keeps}
use Rattle.lf_hub_serve.proofs.saving.write_records.Goals as goal

pub returns-then-is_empty-clause-any_moment : goal.returns-then-is_empty-clause-any_moment
returns-then-is_empty-clause-any_moment g c clean f left =
    settled_keeps g.D.Disk.seen g.D.Disk.may_leave c.args.journal.now.disk c.args.journal.now.end c.args.journal.now.len c.args.records.now f (c.requires.settled clean) left
