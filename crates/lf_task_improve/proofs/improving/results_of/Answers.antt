use Rattle.lf_task_improve.proofs.improving.results_of.Goals as goal

pub returns-clause-run : goal.returns-clause-run
returns-clause-run g c = λ l. c.in_ok-improve_teams.ensures.run l
