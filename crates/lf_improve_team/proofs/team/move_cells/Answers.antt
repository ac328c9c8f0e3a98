use Rattle.std.proofs.Common.{◌≡◌}
use Rattle.std.specs.Prelude.{None}
use Rattle.lf_repair_team.specs.Runs.{IsRunWithCutLine, IsWrittenRun}
use Rattle.lf_improve_team.proofs.Results.{err_then, ok_then, ok_weaker}
use Rattle.lf_repair_team.proofs.Runs.{none_cut, then_cut, then_only, then_written}
use Rattle.lf_repair_team.proofs.Settings.{committed_kept}
use Rattle.lf_improve_team.specs.TeamImprovements.{IsMovedBack, KeepsTeamPlaces}
use Rattle.lf_improve_team.proofs.Improving.{back_is_kept}
use Rattle.lf_improve_team.proofs.team.move_cells.Goals as goal

pub returns-in_default-clause-err : goal.returns-in_default-clause-err
returns-in_default-clause-err g c = λ l. none_cut l c.args.session.now.team.now c.args.floor.now (g.K.Sink.contents c.args.lines.now)

pub returns-clause-run : goal.returns-clause-run
returns-clause-run g c = λ l.
    let team = c.args.session.now.team.now in
    let mid = c.run_edits.new.floor in
    let new = c.commit_or_move_back.new.floor in
    ok_then c.commit_or_move_back.result (IsWrittenRun l team mid (g.K.Sink.contents c.run_edits.new.lines) (g.K.Sink.contents c.commit_or_move_back.new.lines) new)
    (IsWrittenRun l team c.args.floor.now (g.K.Sink.contents c.args.lines.now) (g.K.Sink.contents c.commit_or_move_back.new.lines) new)
    (λ last. then_written l team c.args.floor.now mid new (g.K.Sink.contents c.args.lines.now) (g.K.Sink.contents c.run_edits.new.lines)
    (g.K.Sink.contents c.commit_or_move_back.new.lines) (c.in-Ok-run_edits.ensures.run l) last) (c.commit_or_move_back.ensures.run l)

pub returns-clause-err : goal.returns-clause-err
returns-clause-err g c = λ l.
    let team = c.args.session.now.team.now in
    let mid = c.run_edits.new.floor in
    let new = c.commit_or_move_back.new.floor in
    err_then c.commit_or_move_back.result (IsRunWithCutLine l team mid (g.K.Sink.contents c.run_edits.new.lines) (g.K.Sink.contents c.commit_or_move_back.new.lines) new)
    (IsRunWithCutLine l team c.args.floor.now (g.K.Sink.contents c.args.lines.now) (g.K.Sink.contents c.commit_or_move_back.new.lines) new)
    (λ last. then_cut l team c.args.floor.now mid new (g.K.Sink.contents c.args.lines.now) (g.K.Sink.contents c.run_edits.new.lines)
    (g.K.Sink.contents c.commit_or_move_back.new.lines) (c.in-Ok-run_edits.ensures.run l) last) (c.commit_or_move_back.ensures.err l)

pub returns-clause-kept : goal.returns-clause-kept
returns-clause-kept g c =
    let team = c.args.session.now.team.now in
    let old = c.args.floor.now in
    let mid = c.run_edits.new.floor in
    let new = c.commit_or_move_back.new.floor in
    ok_weaker c.commit_or_move_back.result (λ found. found ≡ None → IsMovedBack team mid new) (λ found. found ≡ None → KeepsTeamPlaces team old new)
    (λ found back none. back_is_kept team old mid new c.requires.committed
    (committed_kept team c.args.session.now.session old mid c.in-Ok-run_edits.ensures.committed) (back none)) c.commit_or_move_back.ensures.kept

pub commit_or_move_back-requires-clause-decides : goal.commit_or_move_back-requires-clause-decides
commit_or_move_back-requires-clause-decides g c = λ later only.
    c.requires.decides later (then_only c.args.session.now.team.now c.args.floor.now c.run_edits.new.floor later c.in-Ok-run_edits.ensures.only only)
