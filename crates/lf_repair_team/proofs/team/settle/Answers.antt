use Rattle.std.proofs.Common.{◌∙◌}
use Rattle.lf_repair_team.specs.CellEdits.{AreUnrepaired, IsSettled, KeepsWithin, MovesOffSoft}
use Rattle.lf_repair_team.specs.Runs.{IsRunWithCutLine, IsWrittenRun}
use Rattle.lf_repair_team.proofs.OffSoft.{flagged_stay, targets_then_off_soft}
use Rattle.lf_repair_team.proofs.Results.{err_then, ok_then, ok_with}
use Rattle.lf_repair_team.proofs.Runs.{none_moves, then_cut, then_only, then_written}
use Rattle.lf_repair_team.proofs.Settling.{targets_keep_legal, then_legal_stay}
use Rattle.lf_repair_team.proofs.team.settle.Goals as goal

pub returns-in-Err-clause-legal : goal.returns-in-Err-clause-legal
returns-in-Err-clause-legal g c = targets_keep_legal c.args.session.now.team.now c.args.targets.now c.args.floor.now c.run_misplaced_pass.new.floor c.in-Err.ensures.targets

pub returns-in-Err-clause-unmoved : goal.returns-in-Err-clause-unmoved
returns-in-Err-clause-unmoved g c = λ at own flag. (c.in-Err.ensures.targets own (at own flag)).0

pub returns-clause-run : goal.returns-clause-run
returns-clause-run g c = λ l.
    let team = c.args.session.now.team.now in
    let mid = c.run_misplaced_pass.new.floor in
    let new = c.run_last_pass.new.floor in
    ok_then c.run_last_pass.result (IsWrittenRun l team mid (g.K.Sink.contents c.run_misplaced_pass.new.lines) (g.K.Sink.contents c.run_last_pass.new.lines) new)
    (IsWrittenRun l team c.args.floor.now (g.K.Sink.contents c.args.lines.now) (g.K.Sink.contents c.run_last_pass.new.lines) new)
    (λ last. then_written l team c.args.floor.now mid new (g.K.Sink.contents c.args.lines.now) (g.K.Sink.contents c.run_misplaced_pass.new.lines)
    (g.K.Sink.contents c.run_last_pass.new.lines) (c.in-Ok.ensures.run l) last) (c.run_last_pass.ensures.run l)

pub returns-clause-err : goal.returns-clause-err
returns-clause-err g c = λ l.
    let team = c.args.session.now.team.now in
    let mid = c.run_misplaced_pass.new.floor in
    let new = c.run_last_pass.new.floor in
    err_then c.run_last_pass.result (IsRunWithCutLine l team mid (g.K.Sink.contents c.run_misplaced_pass.new.lines) (g.K.Sink.contents c.run_last_pass.new.lines) new)
    (IsRunWithCutLine l team c.args.floor.now (g.K.Sink.contents c.args.lines.now) (g.K.Sink.contents c.run_last_pass.new.lines) new)
    (λ last. then_cut l team c.args.floor.now mid new (g.K.Sink.contents c.args.lines.now) (g.K.Sink.contents c.run_misplaced_pass.new.lines)
    (g.K.Sink.contents c.run_last_pass.new.lines) (c.in-Ok.ensures.run l) last) (c.run_last_pass.ensures.err l)

pub returns-clause-only : goal.returns-clause-only
returns-clause-only g c = then_only c.args.session.now.team.now c.args.floor.now c.run_misplaced_pass.new.floor c.run_last_pass.new.floor c.in-Ok.ensures.only c.run_last_pass.ensures.only

pub returns-clause-committed : goal.returns-clause-committed
returns-clause-committed g c = c.run_last_pass.ensures.committed ∙ c.in-Ok.ensures.committed

pub returns-clause-legal : goal.returns-clause-legal
returns-clause-legal g c =
    then_legal_stay c.args.session.now.team.now c.args.targets.now c.args.floor.now c.run_misplaced_pass.new.floor c.run_last_pass.new.floor c.in-Ok.ensures.targets c.run_last_pass.ensures.legal

pub returns-clause-unmoved : goal.returns-clause-unmoved
returns-clause-unmoved g c =
    let team = c.args.session.now.team.now in
    let flags = c.args.session.now.impossible.now in
    flagged_stay team flags c.args.targets.now c.args.floor.now c.args.floor.now c.run_misplaced_pass.new.floor c.run_last_pass.new.floor (none_moves team flags c.args.floor.now)
    c.in-Ok.ensures.targets c.run_last_pass.ensures.flagged

pub returns-clause-settled : goal.returns-clause-settled
returns-clause-settled g c =
    let reach = c.args.search.now.reach in
    let targets = c.args.targets.now in
    let team = c.args.session.now.team.now in
    let flags = c.args.session.now.impossible.now in
    let mid = c.run_misplaced_pass.new.floor in
    let new = c.run_last_pass.new.floor in
    ok_with c.run_last_pass.result (λ left. AreUnrepaired reach targets team flags new left.items) (λ left. IsSettled reach targets team flags new left.items)
    (KeepsWithin reach targets team mid new) (MovesOffSoft team mid new)
    (λ left are within moves. record {
      unrepaired = are;
      within = within c.in-Ok.ensures.within;
      off_soft = targets_then_off_soft team mid new c.run_last_pass.ensures.only targets c.in-Ok.ensures.settled moves;
    }) c.run_last_pass.ensures.unrepaired c.run_last_pass.ensures.within c.run_last_pass.ensures.off_soft
