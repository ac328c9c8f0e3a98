use Rattle.std.proofs.Common.{refl}
use Rattle.lf_describe.proofs.NoFloat.{neither, text}
use Rattle.lf_describe.specs.Description.{described_team_name}
use Rattle.lf_task_reports.proofs.improvement_report.push_team.Goals as goal

pub push_line-requires : goal.push_line-requires
push_line-requires c =
    rw (c.in_ok-value.ensures, c.in_ok-name.ensures, c.team_name.ensures) (neither _ _ (text (described_team_name c.args.frame.now c.args.team.now.number)) refl)
