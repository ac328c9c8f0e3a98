use Rattle.std.proofs.Common.{◌≡◌, ◌∙◌, List, ℕ, ℤ, Option, Some, ap, false, map, rules, subst, sym, true}
use Rattle.std.specs.Prelude.{slice_get}
use Rattle.std.proofs.lemmas.Result.{on_ok_weaker}
use Rattle.lf_floor_model.specs.Teams.{team_names, team_number}
use Rattle.lf_task_repair.specs.Reports.{policy_of, IsRepairOf, reach_of_rows}
use Rattle.lf_task_run.specs.Teams.{is_selected}
use Rattle.lf_task_run.proofs.Named.{numbered}
use Rattle.lf_task_repair.proofs.Staying.{stay_alike}
use Rattle.lf_task_repair.proofs.TeamLines.{one_reported, unselected_reported}
use Rattle.lf_task_repair.proofs.repairing.repair_numbered.Goals as goal

clash : true ≡ false → ⊥
clash e = cc

pub returns-clause-only : goal.returns-clause-only
returns-clause-only g c =
    let teams = map (λ team. team.now) c.args.plan.now.teams.now in
    let requested : is_selected teams c.as_slice-name.result.now ≡ true = sym c.is_selected.ensures ∙ c.if-not-is_selected.false in
    let only = c.repair_named.ensures.only in
    on_ok_weaker c.repair_named.result
    (λ reported. record {
      others = λ team unasked. only.others team (λ same. clash (sym requested ∙ ap (λ (name : List ℕ). is_selected teams name) (sym same) ∙ unasked));
      frame = only.frame;
      components = only.components;
      legal = only.legal;
    })
    c.repair_named.ensures.reported

pub returns-clause-kept : goal.returns-clause-kept
returns-clause-kept g c = λ to_stay team named.
    let there : slice_get (team_names c.args.floor.now.frame) c.args.number ≡ Some c.as_slice-name.result.now = search rules in
    stay_alike team c.as_slice-name.result.now c.args.floor.now c.repair_named.new.floor c.repair_named.ensures.only.frame
    (named ∙ sym (numbered c.args.floor.now.frame c.args.number c.as_slice-name.result.now there)) (c.repair_named.ensures.kept (c.policy_of.ensures ∙ ap policy_of to_stay))

pub returns-clause-others : goal.returns-clause-others
returns-clause-others g c = λ team differ.
    let there : slice_get (team_names c.args.floor.now.frame) c.args.number ≡ Some c.as_slice-name.result.now = search rules in
    c.repair_named.ensures.only.others team
    (λ same. differ (ap (λ (name : List ℕ). team_number c.args.floor.now.frame name) same
    ∙ numbered c.args.floor.now.frame c.args.number c.as_slice-name.result.now there))

pub returns-clause-reported : goal.returns-clause-reported
returns-clause-reported g c =
    let there : slice_get (team_names c.args.floor.now.frame) c.args.number ≡ Some c.as_slice-name.result.now = search rules in
    let reach : c.search_of-search.result.reach ≡ reach_of_rows c.args.floor.now.frame c.args.plan.now.options.now.within = search rules in
    on_ok_weaker c.repair_named.result
    (λ once. one_reported _ c.args.floor.now.frame (map (λ team. team.now) c.args.plan.now.teams.now) c.args.number c.as_slice-name.result.now
    c.args.floor.now c.repair_named.new.floor once.0 c.args.report.now c.repair_named.new.report there (sym c.is_selected.ensures ∙ c.if-not-is_selected.false) once.1
    (subst (λ (r : Option ℤ). IsRepairOf r c.args.report.now.impossible.items c.as_slice-name.result.now c.args.floor.now c.repair_named.new.floor once.0) reach once.2))
    c.repair_named.ensures.reported

pub returns-then-not-is_selected-clause-reported : goal.returns-then-not-is_selected-clause-reported
returns-then-not-is_selected-clause-reported g c =
    let there : slice_get (team_names c.args.floor.now.frame) c.args.number ≡ Some c.as_slice-name.result.now = search rules in
    unselected_reported _ c.args.floor.now.frame (map (λ team. team.now) c.args.plan.now.teams.now) c.args.number c.as_slice-name.result.now
    c.args.floor.now c.args.floor.now c.args.report.now there (sym c.is_selected.ensures ∙ c.if-not-is_selected.true)
