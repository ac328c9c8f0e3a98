use Rattle.lf_repair_team.proofs.Runs.{uncut}
use Rattle.lf_repair_team.proofs.last_pass.unplace_cell.Goals as goal

pub returns-in-Some-clause-err : goal.returns-in-Some-clause-err
returns-in-Some-clause-err g c = λ l.
    uncut l c.args.session.now.team.now c.args.floor.now c.run_edit.new.floor (g.K.Sink.contents c.args.lines.now) (g.K.Sink.contents c.run_edit.new.lines) (c.in-Ok.ensures.run l)
