use Rattle.std.proofs.Common.{◌∙◌, ℕ, List, [], ◌∷◌, ◌++◌, ap, arith}
use Rattle.std.proofs.lemmas.List.{length-map, take_all}
use Rattle.lf_task_improve.specs.Openings.{teams_of_cells}
use Rattle.lf_task_improve.proofs.Openings.{one_team_more}
use Rattle.lf_task_improve.proofs.opening.teams_of_cells.Goals as goal

pub loop-at-preserved : goal.loop-at-preserved
loop-at-preserved c =
    c.in_ok-push.ensures.items ∙ ap (λ (list : List ℕ). list ++ c.team_of.result ∷ []) c.loop-at.invariant
    ∙ one_team_more (teams_of_cells c.args.loaded.now) c.loop-at.at c.team_of.result c.team_of.ensures
