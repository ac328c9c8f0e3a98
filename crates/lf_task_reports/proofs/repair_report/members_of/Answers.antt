use Rattle.std.proofs.Common.{◌≡◌, ◌∙◌, ℕ, List, ap, subst}
use Rattle.std.proofs.lemmas.Result.{IfOk-weaker}
use Rattle.serde_json.specs.Data.{Data, array, object}
use Rattle.serde_json.specs.View.{items_of, view}
use Rattle.lf_repair_bounds.specs.Gaps.{place_at}
use Rattle.lf_task_reports.specs.RepairReports.{AreGapsIn, cell_names, counted_members, counts_data, names_data, report_text_value, with_means}
use Rattle.lf_task_reports.proofs.repair_report.members_of.Goals as goal

pub returns : goal.returns
returns g c =
    let r = c.args.repaired.now in
    let floor = c.args.floor.now in
    let team = c.args.team.now in
    let found = c.in_ok-found.found.items in
    let name = view c.in_ok-name.name in
    let left = view c.array_value-left.result in
    let gaps = view c.array_value-gaps.result in
    let left_is : left ≡ names_data (cell_names floor team r.unrepaired.items) =
    c.array_value-left.ensures ∙ ap (λ (ds : List Data). array (items_of ds)) c.in_ok-name_values.ensures
    ∙ ap (λ (owns : List ℕ). names_data (cell_names floor team owns)) c.deref-3.ensures.value in
    let gaps_are : gaps ≡ counts_data found =
    c.array_value-gaps.ensures ∙ ap (λ (ds : List Data). array (items_of ds)) c.in_ok-count_values.ensures ∙ ap (λ (ns : List ℕ). counts_data ns) c.deref-2.ensures.value in
    IfOk-weaker c.with_means.result _ _
    (λ v same. (
      found,
      subst (λ (owns : List ℕ). AreGapsIn floor team (place_at c.args.old_places.now) owns found) c.deref.ensures.value c.in_ok-found.ensures,
      same ∙ ap (λ (d : Data). object (with_means r.means (counted_members d left gaps c.args.least r))) c.in_ok-name.ensures
          ∙ ap (λ (d : Data). object (with_means r.means (counted_members (report_text_value team) d gaps c.args.least r))) left_is
          ∙ ap (λ (d : Data). object (with_means r.means (counted_members (report_text_value team) (names_data (cell_names floor team r.unrepaired.items)) d c.args.least r))) gaps_are,
    ))
    (c.with_means.ensures (counted_members name left gaps c.args.least r) c.in_ok-line.ensures)
