use Rattle.lf_repair_team.proofs.Runs.{then_cut, then_only, then_written}
use Rattle.lf_improve_team.proofs.Improving.{improved_through, same_kept, then_kept}
use Rattle.lf_improve_team.proofs.team.improve_in_session.Goals as goal

pub returns-in-Err-move_cells-clause-err : goal.returns-in-Err-move_cells-clause-err
returns-in-Err-move_cells-clause-err g c = λ l.
    then_cut l c.args.team.now c.args.floor.now c.open.new.floor c.move_cells.new.floor (g.K.Sink.contents c.args.lines.now) (g.K.Sink.contents c.open.new.lines)
    (g.K.Sink.contents c.move_cells.new.lines) (c.in-Ok.ensures.run l) (c.in-Err-move_cells.ensures.err l)

pub returns-in-Ok-close-clause-run : goal.returns-in-Ok-close-clause-run
returns-in-Ok-close-clause-run g c = λ l.
    let team = c.args.team.now in
    then_written l team c.args.floor.now c.move_cells.new.floor c.close.new.floor (g.K.Sink.contents c.args.lines.now) (g.K.Sink.contents c.move_cells.new.lines)
    (g.K.Sink.contents c.close.new.lines)
    (then_written l team c.args.floor.now c.open.new.floor c.move_cells.new.floor (g.K.Sink.contents c.args.lines.now) (g.K.Sink.contents c.open.new.lines)
    (g.K.Sink.contents c.move_cells.new.lines) (c.in-Ok.ensures.run l) (c.in-Ok-move_cells.ensures.run l)) (c.in-Ok-close.ensures.run l)

pub returns-clause-err : goal.returns-clause-err
returns-clause-err g c = λ l.
    let team = c.args.team.now in
    then_cut l team c.args.floor.now c.move_cells.new.floor c.close.new.floor (g.K.Sink.contents c.args.lines.now) (g.K.Sink.contents c.move_cells.new.lines)
    (g.K.Sink.contents c.close.new.lines)
    (then_written l team c.args.floor.now c.open.new.floor c.move_cells.new.floor (g.K.Sink.contents c.args.lines.now) (g.K.Sink.contents c.open.new.lines)
    (g.K.Sink.contents c.move_cells.new.lines) (c.in-Ok.ensures.run l) (c.in-Ok-move_cells.ensures.run l)) (c.in-Err-close.ensures.err l)

pub returns-in-Ok-close-clause-improved : goal.returns-in-Ok-close-clause-improved
returns-in-Ok-close-clause-improved g c =
    let attempt = c.args.attempt.now in
    improved_through attempt.wires.now.netlist.now.nets attempt.goal.now.length attempt.goal.now.options.within attempt.input.now.pass.targets.items c.args.team.now
    c.move_cells.new.floor c.close.new.floor c.in-Ok-close.ensures.only c.in-Ok-close.ensures.cells c.in-Ok-move_cells.found c.in-Ok-move_cells.ensures.improved

pub returns-in-Ok-close-clause-kept : goal.returns-in-Ok-close-clause-kept
returns-in-Ok-close-clause-kept g c = λ none.
    let team = c.args.team.now in
    then_kept team c.args.floor.now c.move_cells.new.floor c.close.new.floor
    (then_kept team c.args.floor.now c.open.new.floor c.move_cells.new.floor (same_kept team c.args.floor.now c.open.new.floor c.in-Ok.ensures.cells)
    (c.in-Ok-move_cells.ensures.kept none)) (same_kept team c.move_cells.new.floor c.close.new.floor c.in-Ok-close.ensures.cells)

pub move_cells-requires-clause-decides : goal.move_cells-requires-clause-decides
move_cells-requires-clause-decides g c = λ later only.
    c.requires.decides later (then_only c.args.team.now c.args.floor.now c.open.new.floor later c.in-Ok.ensures.only only)
