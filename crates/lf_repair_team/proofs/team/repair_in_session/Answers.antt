use Rattle.std.proofs.Common.{◌≡◌, ◌≢◌, ◌∙◌, [], Bool, List, ℕ, Option, subst, sym}
use Rattle.std.specs.Prelude.{IfOk}
use Rattle.std.proofs.lemmas.Result.{on_ok_weaker}
use Rattle.lf_floorplan.specs.declared.place.Place.{Place}
use Rattle.lf_repair_team.specs.CellEdits.{AreAtTargetsOrOffSoft, AreFlaggedAtTargets, AreUnrepaired, AreWithin, KeepsCommittedPlaces, KeepsLockedPlaces, NoneIsFlagged, TeamHasLeftTargets, TeamIsAtTargetsExcept, settings_without}
use Rattle.lf_repair_team.specs.TeamRepairs.{settings_in}
use Rattle.lf_repair_team.specs.Runs.{IsRunWithCutLine, IsWrittenRun}
use Rattle.lf_repair_team.proofs.Legal.{same_committed, same_places}
use Rattle.lf_repair_team.proofs.OffSoft.{flagged_in_session, locked_in_session, locked_opened, targets_stay}
use Rattle.lf_repair_team.proofs.ReachLemmas.{reach_stays}
use Rattle.lf_repair_team.proofs.Results.{err_then, ok_then, ok_weaker, on_ok_from}
use Rattle.lf_repair_team.proofs.Runs.{then_cut, then_written}
use Rattle.lf_repair_team.proofs.Settings.{committed_kept, other_settings_kept}
use Rattle.lf_repair_team.proofs.team.repair_in_session.Goals as goal

pub returns-in-Err-run_passes-clause-err : goal.returns-in-Err-run_passes-clause-err
returns-in-Err-run_passes-clause-err g c = λ l.
    then_cut l c.args.team.now c.args.floor.now c.open.new.floor c.run_passes.new.floor (g.K.Sink.contents c.args.lines.now) (g.K.Sink.contents c.open.new.lines)
    (g.K.Sink.contents c.run_passes.new.lines) (c.in-Ok.ensures.run l) (c.in-Err-run_passes.ensures.err l)

pub returns-clause-run : goal.returns-clause-run
returns-clause-run g c = λ l.
    let team = c.args.team.now in
    ok_then c.finish.result (IsWrittenRun l team c.run_passes.new.floor (g.K.Sink.contents c.run_passes.new.lines) (g.K.Sink.contents c.finish.new.lines) c.finish.new.floor)
    (IsWrittenRun l team c.args.floor.now (g.K.Sink.contents c.args.lines.now) (g.K.Sink.contents c.finish.new.lines) c.finish.new.floor)
    (λ last. then_written l team c.args.floor.now c.run_passes.new.floor c.finish.new.floor (g.K.Sink.contents c.args.lines.now) (g.K.Sink.contents c.run_passes.new.lines)
    (g.K.Sink.contents c.finish.new.lines)
    (then_written l team c.args.floor.now c.open.new.floor c.run_passes.new.floor (g.K.Sink.contents c.args.lines.now) (g.K.Sink.contents c.open.new.lines)
    (g.K.Sink.contents c.run_passes.new.lines) (c.in-Ok.ensures.run l) (c.in-Ok-run_passes.ensures.run l)) last) (c.finish.ensures.run l)

pub returns-clause-err : goal.returns-clause-err
returns-clause-err g c = λ l.
    let team = c.args.team.now in
    err_then c.finish.result (IsRunWithCutLine l team c.run_passes.new.floor (g.K.Sink.contents c.run_passes.new.lines) (g.K.Sink.contents c.finish.new.lines) c.finish.new.floor)
    (IsRunWithCutLine l team c.args.floor.now (g.K.Sink.contents c.args.lines.now) (g.K.Sink.contents c.finish.new.lines) c.finish.new.floor)
    (λ last. then_cut l team c.args.floor.now c.run_passes.new.floor c.finish.new.floor (g.K.Sink.contents c.args.lines.now) (g.K.Sink.contents c.run_passes.new.lines)
    (g.K.Sink.contents c.finish.new.lines)
    (then_written l team c.args.floor.now c.open.new.floor c.run_passes.new.floor (g.K.Sink.contents c.args.lines.now) (g.K.Sink.contents c.open.new.lines)
    (g.K.Sink.contents c.run_passes.new.lines) (c.in-Ok.ensures.run l) (c.in-Ok-run_passes.ensures.run l)) last) (c.finish.ensures.err l)

pub returns-in-Err-run_passes-clause-marked : goal.returns-in-Err-run_passes-clause-marked
returns-in-Err-run_passes-clause-marked g c = λ keep.
    locked_in_session c.args.team.now c.args.input.now.pass.locked.items c.args.input.now.pass.targets.items c.args.floor.now c.open.new.floor c.run_passes.new.floor c.in-Ok.ensures.only.frame c.in-Ok.ensures.cells
    (c.in-Err-run_passes.ensures.marked keep)

pub returns-clause-marked : goal.returns-clause-marked
returns-clause-marked g c = λ keep locked own mark.
    c.finish.ensures.places own
    ∙ locked_in_session c.args.team.now c.args.input.now.pass.locked.items c.args.input.now.pass.targets.items c.args.floor.now c.open.new.floor c.run_passes.new.floor c.in-Ok.ensures.only.frame c.in-Ok.ensures.cells
    (c.in-Ok-run_passes.ensures.marked keep) locked own mark

pub returns-clause-changed : goal.returns-clause-changed
returns-clause-changed g c =
    subst (λ (targets : List (Option Place)). IfOk c.finish.result (λ found. TeamIsAtTargetsExcept c.args.team.now targets c.finish.new.floor found.changed.items))
    c.as_slice-targets.ensures.value c.finish.ensures.changed

pub returns-clause-moved : goal.returns-clause-moved
returns-clause-moved g c =
    subst (λ (targets : List (Option Place)). IfOk c.finish.result (λ found. TeamHasLeftTargets c.args.team.now targets c.finish.new.floor found.changed.items))
    c.as_slice-targets.ensures.value c.finish.ensures.moved

pub returns-clause-uncommitted : goal.returns-clause-uncommitted
returns-clause-uncommitted g c =
    let team = c.args.team.now in
    ok_weaker c.finish.result (λ found. found.left.items ≢ [] → KeepsCommittedPlaces team c.run_passes.new.floor c.finish.new.floor)
    (λ found. found.left.items ≢ [] → KeepsCommittedPlaces team c.args.floor.now c.finish.new.floor)
    (λ found stay some. stay some ∙ committed_kept team c.in-Ok.session c.open.new.floor c.run_passes.new.floor c.in-Ok-run_passes.ensures.committed ∙ same_committed team c.args.floor.now c.open.new.floor c.in-Ok.ensures.cells)
    c.finish.ensures.uncommitted

pub returns-clause-settings : goal.returns-clause-settings
returns-clause-settings g c =
    let team = c.args.team.now in
    let session = c.in-Ok.session in
    on_ok_weaker c.finish.result (λ (closed : settings_in c.finish.new.floor team ≡ settings_without session c.run_passes.new.floor team). closed
    ∙ other_settings_kept team session c.open.new.floor c.run_passes.new.floor c.in-Ok-run_passes.ensures.committed ∙ c.in-Ok.ensures.settings)
    c.finish.ensures.settings

pub returns-clause-off_soft : goal.returns-clause-off_soft
returns-clause-off_soft g c =
    on_ok_from c.finish.result (AreAtTargetsOrOffSoft c.args.team.now c.args.input.now.pass.targets.items c.finish.new.floor)
    (targets_stay c.args.team.now c.run_passes.new.floor c.finish.new.floor c.finish.ensures.only c.args.input.now.pass.targets.items
    c.finish.ensures.places c.in-Ok-run_passes.ensures.settled.off_soft)

pub returns-in-Err-run_passes-clause-unmoved : goal.returns-in-Err-run_passes-clause-unmoved
returns-in-Err-run_passes-clause-unmoved g c =
    flagged_in_session c.args.team.now c.args.input.now.pass.impossible.items c.args.input.now.pass.targets.items c.args.floor.now c.open.new.floor c.run_passes.new.floor c.in-Ok.ensures.cells
    (subst (λ (flags : List Bool). AreFlaggedAtTargets c.args.team.now flags c.args.input.now.pass.targets.items c.open.new.floor → KeepsLockedPlaces c.args.team.now flags c.open.new.floor c.run_passes.new.floor)
    c.as_slice.ensures.value c.in-Err-run_passes.ensures.unmoved)

pub returns-clause-unmoved : goal.returns-clause-unmoved
returns-clause-unmoved g c = λ at own flag.
    c.finish.ensures.places own
    ∙ flagged_in_session c.args.team.now c.args.input.now.pass.impossible.items c.args.input.now.pass.targets.items c.args.floor.now c.open.new.floor c.run_passes.new.floor c.in-Ok.ensures.cells
    (subst (λ (flags : List Bool). AreFlaggedAtTargets c.args.team.now flags c.args.input.now.pass.targets.items c.open.new.floor → KeepsLockedPlaces c.args.team.now flags c.open.new.floor c.run_passes.new.floor)
    c.as_slice.ensures.value c.in-Ok-run_passes.ensures.unmoved) at own flag

pub returns-in-Err-clause-unmoved : goal.returns-in-Err-clause-unmoved
returns-in-Err-clause-unmoved g c = λ at own flag. same_places c.args.team.now c.args.floor.now c.open.new.floor c.in-Err.ensures.cells own

pub returns-clause-unrepaired : goal.returns-clause-unrepaired
returns-clause-unrepaired g c =
    let team = c.args.team.now in
    let reach = c.args.search.now.reach in
    let targets = c.args.input.now.pass.targets.items in
    let flags = c.args.input.now.pass.impossible.items in
    let same = c.as_slice-targets.ensures.value in
    subst (λ (places : List (Option Place)). IfOk c.finish.result (λ found. AreUnrepaired reach places team flags c.finish.new.floor found.left.items)) same
    (subst (λ (fs : List Bool). IfOk c.finish.result (λ found. AreUnrepaired reach c.as_slice-targets.result.now team fs c.finish.new.floor found.left.items)) c.as_slice.ensures.value
    (c.finish.ensures.unrepaired reach (subst (λ (places : List (Option Place)). AreUnrepaired reach places team c.as_slice.result.now c.run_passes.new.floor c.in-Ok-run_passes.unrepaired.items) (sym same)
    c.in-Ok-run_passes.ensures.settled.unrepaired)))

pub returns-clause-within : goal.returns-clause-within
returns-clause-within g c =
    on_ok_from c.finish.result (AreWithin c.args.search.now.reach c.args.input.now.pass.targets.items c.args.team.now c.finish.new.floor)
    (reach_stays c.args.search.now.reach c.args.input.now.pass.targets.items c.args.team.now c.run_passes.new.floor c.finish.new.floor c.finish.ensures.places
    c.in-Ok-run_passes.ensures.settled.within)

pub returns-clause-free : goal.returns-clause-free
returns-clause-free g c = λ locked.
    let marks = c.args.input.now.pass.locked.items in
    ok_weaker c.finish.result (λ found. found.left.items ≡ c.in-Ok-run_passes.unrepaired.items) (λ found. NoneIsFlagged marks found.left.items)
    (λ found same. subst (λ (xs : List ℕ). NoneIsFlagged marks xs) (sym same)
    (c.in-Ok-run_passes.ensures.free (locked_opened c.args.team.now marks c.args.input.now.pass.targets.items c.args.floor.now c.open.new.floor c.in-Ok.ensures.only.frame c.in-Ok.ensures.cells locked)))
    c.finish.ensures.left
