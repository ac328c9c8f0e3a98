use Rattle.std.proofs.Common.{[], refl}
use Rattle.std.proofs.KnownBytes.{Appends-nil}
use Rattle.lf_task_files.proofs.save.write_snapshot_to.Goals as goal

pub returns : goal.returns
returns g c =
    let had = c.write_text.ensures c.args.writing.now [] (refl, λ _. Appends-nil _) in
    record { same = had.0; text = had.1 }
