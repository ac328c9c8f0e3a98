use Rattle.lf_repair_team.proofs.Runs.{then_cut, then_written}
use Rattle.lf_improve_team.proofs.team.commit_or_move_back.Goals as goal

pub returns-in-Ok-clause-run : goal.returns-in-Ok-clause-run
returns-in-Ok-clause-run g c = λ l.
    then_written l c.args.session.now.team.now c.args.floor.now c.commit_if_better.new.floor c.revert.new.floor (g.K.Sink.contents c.args.lines.now)
    (g.K.Sink.contents c.commit_if_better.new.lines) (g.K.Sink.contents c.revert.new.lines) (c.in-Ok-None.ensures.run l) (c.in-Ok.ensures.run l)

pub returns-clause-err : goal.returns-clause-err
returns-clause-err g c = λ l.
    then_cut l c.args.session.now.team.now c.args.floor.now c.commit_if_better.new.floor c.revert.new.floor (g.K.Sink.contents c.args.lines.now)
    (g.K.Sink.contents c.commit_if_better.new.lines) (g.K.Sink.contents c.revert.new.lines) (c.in-Ok-None.ensures.run l) (c.in-Err-revert.ensures.err l)
