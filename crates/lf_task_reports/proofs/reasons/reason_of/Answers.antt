use Rattle.std.proofs.Common.{◌∙◌, sym}
use Rattle.lf_task_reports.proofs.ReasonLemmas.{reason_is}
use Rattle.lf_task_reports.proofs.reasons.reason_of.Goals as goal

pub returns : goal.returns
returns g c =
    c.listed_reason.ensures
    ∙ reason_is c.args.list.now c.args.floor.now c.args.team.now c.in_ok-number.number c.args.own c.in_ok-mac.mac c.in_ok-name_of.field-0.now (sym c.team_number.ensures ∙ c.in_ok-number.was)
    (λ s at. sym c.in_ok-mac.was ∙ c.mac_number.ensures s at) (sym c.in_ok-name_of.ensures.name)
