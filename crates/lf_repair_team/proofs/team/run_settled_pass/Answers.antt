use Rattle.std.proofs.Common.{◌∙◌}
use Rattle.lf_repair_team.specs.Runs.{IsRunWithCutLine, IsWrittenRun}
use Rattle.lf_repair_team.proofs.Results.{err_then, ok_then}
use Rattle.lf_repair_team.proofs.Runs.{then_cut, then_only, then_written}
use Rattle.lf_repair_team.proofs.Settling.{locked_pass, locked_settle, then_unmoved}
use Rattle.lf_repair_team.proofs.team.run_settled_pass.Goals as goal

pub returns-in-Err-clause-marked : goal.returns-in-Err-clause-marked
returns-in-Err-clause-marked g c =
    locked_pass c.args.session.now.team.now c.args.pass.now.locked.items c.args.targets.now c.args.floor.now c.run_pass.new.floor c.in-Err.ensures.marked c.in-Err.ensures.legal

pub returns-in-Err-clause-unmoved : goal.returns-in-Err-clause-unmoved
returns-in-Err-clause-unmoved g c = λ at. c.in-Err.ensures.flagged

pub returns-clause-run : goal.returns-clause-run
returns-clause-run g c = λ l.
    let team = c.args.session.now.team.now in
    let mid = c.run_pass.new.floor in
    let new = c.settle.new.floor in
    ok_then c.settle.result (IsWrittenRun l team mid (g.K.Sink.contents c.run_pass.new.lines) (g.K.Sink.contents c.settle.new.lines) new)
    (IsWrittenRun l team c.args.floor.now (g.K.Sink.contents c.args.lines.now) (g.K.Sink.contents c.settle.new.lines) new)
    (λ last. then_written l team c.args.floor.now mid new (g.K.Sink.contents c.args.lines.now) (g.K.Sink.contents c.run_pass.new.lines) (g.K.Sink.contents c.settle.new.lines)
    (c.in-Ok.ensures.run l) last) (c.settle.ensures.run l)

pub returns-clause-err : goal.returns-clause-err
returns-clause-err g c = λ l.
    let team = c.args.session.now.team.now in
    let mid = c.run_pass.new.floor in
    let new = c.settle.new.floor in
    err_then c.settle.result (IsRunWithCutLine l team mid (g.K.Sink.contents c.run_pass.new.lines) (g.K.Sink.contents c.settle.new.lines) new)
    (IsRunWithCutLine l team c.args.floor.now (g.K.Sink.contents c.args.lines.now) (g.K.Sink.contents c.settle.new.lines) new)
    (λ last. then_cut l team c.args.floor.now mid new (g.K.Sink.contents c.args.lines.now) (g.K.Sink.contents c.run_pass.new.lines) (g.K.Sink.contents c.settle.new.lines)
    (c.in-Ok.ensures.run l) last) (c.settle.ensures.err l)

pub returns-clause-only : goal.returns-clause-only
returns-clause-only g c = then_only c.args.session.now.team.now c.args.floor.now c.run_pass.new.floor c.settle.new.floor c.in-Ok.ensures.only c.settle.ensures.only

pub returns-clause-committed : goal.returns-clause-committed
returns-clause-committed g c = c.settle.ensures.committed ∙ c.in-Ok.ensures.committed

pub returns-clause-marked : goal.returns-clause-marked
returns-clause-marked g c = λ locked.
    let team = c.args.session.now.team.now in
    let marks = c.args.pass.now.locked.items in
    locked_settle team marks c.args.targets.now c.run_pass.new.floor c.settle.new.floor c.settle.ensures.legal
    (locked_pass team marks c.args.targets.now c.args.floor.now c.run_pass.new.floor c.in-Ok.ensures.marked c.in-Ok.ensures.legal locked)

pub returns-clause-unmoved : goal.returns-clause-unmoved
returns-clause-unmoved g c =
    then_unmoved c.args.session.now.team.now c.args.session.now.impossible.now c.args.targets.now c.args.floor.now c.run_pass.new.floor c.settle.new.floor c.in-Ok.ensures.flagged c.settle.ensures.unmoved
