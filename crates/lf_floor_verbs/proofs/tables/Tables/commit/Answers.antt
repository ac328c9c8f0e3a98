use Rattle.std.proofs.Common.{◌≡◌, Some, None, refl, sym, subst, ◌∙◌}
use Rattle.lf_cells.specs.Cells.{Cells, cells_of}
use Rattle.lf_proto.proofs.Fronts.{on_err_from}
use Rattle.lf_floor_model.specs.Changes.{first_unplaced}
use Rattle.lf_floor_verbs.specs.Tables.{context_in, team_in}
use Rattle.lf_floor_verbs.proofs.Committing.{commit_illegal, commit_short, commit_unplaced, committed_fit, committed_reaches}
use Rattle.lf_floor_verbs.proofs.tables.Tables.commit.Goals as goal

pub returns-in-Some-clause-ok : goal.returns-in-Some-clause-ok
returns-in-Some-clause-ok g c = λ l.
    rw (commit_unplaced (context_in l c.args.context.now c.args.self.now) c.args.session c.in-Some.cell (team_in c.args.context.now c.args.self.now)
    (subst (λ (cs : Cells). Some c.in-Some.cell ≡ first_unplaced (cells_of cs c.args.context.now.number)) c.cells.ensures (c.in-Some.ensures {u = tt})))
    record { reply_is = refl; team_is = refl }

pub returns-in_err-illegal-clause-err : goal.returns-in_err-illegal-clause-err
returns-in_err-illegal-clause-err g c = λ l.
    on_err_from c.from_residual.result
    (commit_short (context_in l c.args.context.now c.args.self.now) c.args.session (team_in c.args.context.now c.args.self.now)
    (subst (λ (cs : Cells). None ≡ first_unplaced (cells_of cs c.args.context.now.number)) c.cells.ensures (sym c.in_default.is ∙ c.first_unplaced.ensures)))

pub returns-in-Some-2-clause-ok : goal.returns-in-Some-2-clause-ok
returns-in-Some-2-clause-ok g c = λ l.
    rw (commit_illegal (context_in l c.args.context.now c.args.self.now) c.args.session (team_in c.args.context.now c.args.self.now) c.in-Some-2.illegal
    (subst (λ (cs : Cells). None ≡ first_unplaced (cells_of cs c.args.context.now.number)) c.cells.ensures (sym c.in_default.is ∙ c.first_unplaced.ensures))
    (sym c.in-Some-2.is ∙ c.in_ok-illegal.ensures {u = tt} l))
    record { reply_is = refl; team_is = refl }

pub returns-clause-ok : goal.returns-clause-ok
returns-clause-ok g c = λ l.
    committed_reaches (context_in l c.args.context.now c.args.self.now) c.args.context.now.number c.args.session c.count_change.result c.args.self.now
    c.count_change.new.self c.commit_team.new.self c.requires.change.served.rows
    (subst (λ (cs : Cells). None ≡ first_unplaced (cells_of cs c.args.context.now.number)) c.cells.ensures (sym c.in_default.is ∙ c.first_unplaced.ensures))
    (sym c.in_default-2.is ∙ c.in_ok-illegal.ensures {u = tt} l) c.commit_team.ensures.own c.count_change.ensures.tables c.count_change.ensures.revision

pub returns-clause-fit : goal.returns-clause-fit
returns-clause-fit g c =
    committed_fit c.args.context.now.number c.args.session c.args.self.now c.count_change.new.self c.commit_team.new.self c.requires.change.served.rows
    c.commit_team.ensures.own c.commit_team.ensures.rest c.count_change.ensures.tables c.requires.change.served.fit
