use Rattle.std.proofs.Common.{◌∙◌, ℕ, List, codes, ap}
use Rattle.std.proofs.lemmas.Result.{IfOk-weaker}
use Rattle.serde_json.specs.Data.{Data, array, object, put}
use Rattle.serde_json.specs.View.{items_of}
use Rattle.lf_task_reports.specs.RepairReports.{cell_names, cell_reasons, counts_data, names_data, reasons_data, report_text_value, team_members}
use Rattle.lf_task_reports.proofs.repair_report.line_of.Goals as goal

pub returns : goal.returns
returns g c =
    let r = c.args.repaired.now in
    let is = c.in_ok-members.ensures in
    let members = team_members (report_text_value c.args.team.now) (names_data (cell_names c.args.floor.now c.args.team.now r.unrepaired.items)) (counts_data is.0) c.args.least r in
    IfOk-weaker c.with_impossible.result _ _
    (λ v same. (
      is.0,
      is.1,
      same ∙ ap (λ (d : Data). object (put (codes "impossible") d members)) (c.array_value.ensures ∙ ap (λ (ds : List Data). array (items_of ds)) c.in_ok-reasons.ensures
          ∙ ap (λ (owns : List ℕ). reasons_data (cell_reasons c.args.list.now c.args.floor.now c.args.team.now owns)) c.deref.ensures.value),
    ))
    (c.with_impossible.ensures members is.2)
