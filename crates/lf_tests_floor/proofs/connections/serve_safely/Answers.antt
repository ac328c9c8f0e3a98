use Rattle.lf_tests_floor.proofs.connections.serve_safely.Goals as goal

pub returns-clause-legal : goal.returns-clause-legal
returns-clause-legal g c = λ l legal.
    let served = c.serve.ensures.serves l in
    (served, c.run_stays_legal.ensures l _ _ _ _ c.teams_match_frame.ensures (c.serving_runs.ensures l _ _ _ _ _ served.done served.comes) legal)

pub returns-clause-backed_up : goal.returns-clause-backed_up
returns-clause-backed_up g c = λ l.
    let served = c.serve.ensures.serves l in
    (served, c.journal_restores.ensures l _ _ _ _ (c.serving_runs.ensures l _ _ _ _ _ served.done served.comes))
