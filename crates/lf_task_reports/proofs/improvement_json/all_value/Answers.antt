use Rattle.std.specs.Prelude.{codes}
use Rattle.serde_json.specs.Data.{Members, boolean, put}
use Rattle.lf_task_reports.specs.ImproveReports.{improvement_members, with_pins}
use Rattle.lf_task_reports.proofs.improvement_json.all_value.Goals as goal

pub returns : goal.returns
returns c =
    let ms : Members = improvement_members c.args.sums.now c.args.lengths.before.now c.args.lengths.after.now in
    let checked : Members = put (codes "legal") (boolean c.args.legal) ms in
    c.with_density.ensures (with_pins c.args.pins.now checked) (c.in_ok-counted.ensures checked (c.in_ok-checked.ensures ms c.in_ok-line.ensures))
