use Rattle.std.proofs.Common.{◌≡◌, ◌∙◌, ap, false, is_some, length, rules, Option, ℕ}
use Rattle.std.specs.Prelude.{◌==◌}
use Rattle.lf_task_run.proofs.Running.{requested_named}
use Rattle.lf_task_run.proofs.selected_teams.is_selected.Goals as goal

pub returns : goal.returns
returns c =
    let some : (length c.args.teams.now == 0) ≡ false = search rules in
    requested_named c.args.name.now c.args.teams.now c.is_some.result some (c.is_some.ensures ∙ ap (λ (o : Option ℕ). is_some o) c.position_of.ensures)
