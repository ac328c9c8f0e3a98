use Rattle.std.proofs.Common.{◌≡◌, ◌∙◌, List, ℕ, Some, ap, false, map, rules, sym, true}
use Rattle.std.specs.Prelude.{slice_get}
use Rattle.lf_floor_model.specs.Teams.{team_names, team_number}
use Rattle.lf_task_run.specs.Teams.{is_selected}
use Rattle.lf_task_run.proofs.Named.{numbered}
use Rattle.lf_task_improve.proofs.Results.{one_added, unselected_added}
use Rattle.lf_task_improve.proofs.improving.improve_numbered.Goals as goal

clash : true ≡ false → ⊥
clash e = cc

pub returns-clause-run : goal.returns-clause-run
returns-clause-run g c = λ l. c.in_ok-done.ensures.run l

pub returns-clause-only : goal.returns-clause-only
returns-clause-only g c =
    let teams = map (λ team. team.now) c.args.plan.now.teams.now in
    let requested : is_selected teams c.as_slice-name.result.now ≡ true = sym c.is_selected.ensures ∙ c.if-not-is_selected.false in
    let only = c.improve_named.ensures.only in
    record {
      others = λ team unasked. only.others team (λ same. clash (sym requested ∙ ap (λ (name : List ℕ). is_selected teams name) (sym same) ∙ unasked));
      frame = only.frame;
      components = only.components;
      legal = only.legal;
    }

pub returns-clause-others : goal.returns-clause-others
returns-clause-others g c = λ team differ.
    let there : slice_get (team_names c.args.floor.now.frame) c.args.number ≡ Some c.as_slice-name.result.now = search rules in
    c.improve_named.ensures.only.others team
    (λ same. differ (ap (λ (name : List ℕ). team_number c.args.floor.now.frame name) same
    ∙ numbered c.args.floor.now.frame c.args.number c.as_slice-name.result.now there))

pub returns-in_err-done-clause-others : goal.returns-in_err-done-clause-others
returns-in_err-done-clause-others g c = λ team differ.
    let there : slice_get (team_names c.args.floor.now.frame) c.args.number ≡ Some c.as_slice-name.result.now = search rules in
    c.improve_named.ensures.only.others team
    (λ same. differ (ap (λ (name : List ℕ). team_number c.args.floor.now.frame name) same
    ∙ numbered c.args.floor.now.frame c.args.number c.as_slice-name.result.now there))

pub returns-in_err-add_result-clause-others : goal.returns-in_err-add_result-clause-others
returns-in_err-add_result-clause-others g c = λ team differ.
    let there : slice_get (team_names c.args.floor.now.frame) c.args.number ≡ Some c.as_slice-name.result.now = search rules in
    c.improve_named.ensures.only.others team
    (λ same. differ (ap (λ (name : List ℕ). team_number c.args.floor.now.frame name) same
    ∙ numbered c.args.floor.now.frame c.args.number c.as_slice-name.result.now there))

pub returns-clause-reported : goal.returns-clause-reported
returns-clause-reported g c =
    let there : slice_get (team_names c.args.floor.now.frame) c.args.number ≡ Some c.as_slice-name.result.now = search rules in
    let done = c.in_ok-done.done in
    one_added (map (λ team. team.now) c.args.plan.now.teams.now) c.as_slice-name.result.now c.args.plan.now.options.within c.args.floor.now c.improve_named.new.floor
    (record { number = c.args.number; is_skipped = done.is_skipped; cells = done.cells; stats = done.stats })
    c.args.results.now.teams.items c.add_result.new.results.teams.items there (sym c.is_selected.ensures ∙ c.if-not-is_selected.false)
    c.in_ok-add_result.ensures.teams c.in_ok-done.ensures.done

pub returns-then-not-is_selected-clause-reported : goal.returns-then-not-is_selected-clause-reported
returns-then-not-is_selected-clause-reported g c =
    let there : slice_get (team_names c.args.floor.now.frame) c.args.number ≡ Some c.as_slice-name.result.now = search rules in
    unselected_added (map (λ team. team.now) c.args.plan.now.teams.now) c.args.number c.as_slice-name.result.now c.args.plan.now.options.within
    c.args.floor.now c.args.floor.now c.args.results.now.teams.items there (sym c.is_selected.ensures ∙ c.if-not-is_selected.true)
