use Rattle.std.proofs.Common.{◌∙◌, List, ℕ, Option, ap, refl, subst}
use Rattle.lf_floorplan.specs.declared.frame.Frame.{Frame}
use Rattle.lf_floorplan.specs.declared.place.Place.{Place}
use Rattle.lf_floor_model.specs.Teams.{team_number}
use Rattle.lf_repair_team.specs.CellEdits.{AreFlaggedAtTargets, IsSettled, KeepsLockedPlaces, NoneIsFlagged}
use Rattle.lf_repair_team.specs.Runs.{IsRunWithCutLine, IsWrittenRun}
use Rattle.lf_repair_team.proofs.Results.{err_then, ok_from, ok_then}
use Rattle.lf_repair_team.proofs.Runs.{none_cut, nothing, then_cut, then_only, then_written, unchanged, uncut}
use Rattle.lf_repair_team.proofs.Settling.{both_unmoved}
use Rattle.lf_repair_team.proofs.team.run_local_pass.Goals as goal

pub returns-in-Ok-None-clause-run : goal.returns-in-Ok-None-clause-run
returns-in-Ok-None-clause-run g c = λ l. nothing l c.args.session.now.team.now c.args.floor.now (g.K.Sink.contents c.args.lines.now)

pub returns-in-Ok-None-clause-unmoved : goal.returns-in-Ok-None-clause-unmoved
returns-in-Ok-None-clause-unmoved g c = λ at own flag. refl

pub returns-in-Err-clause-err : goal.returns-in-Err-clause-err
returns-in-Err-clause-err g c = λ l. none_cut l c.args.session.now.team.now c.args.floor.now (g.K.Sink.contents c.args.lines.now)

pub returns-in-Err-clause-unmoved : goal.returns-in-Err-clause-unmoved
returns-in-Err-clause-unmoved g c = λ at own flag. refl

pub returns-in-Err-run_settled_pass-clause-unmoved : goal.returns-in-Err-run_settled_pass-clause-unmoved
returns-in-Err-run_settled_pass-clause-unmoved g c =
    subst (λ (places : List (Option Place)). AreFlaggedAtTargets c.args.session.now.team.now c.args.session.now.impossible.now places c.args.floor.now
    → KeepsLockedPlaces c.args.session.now.team.now c.args.session.now.impossible.now c.args.floor.now c.run_settled_pass.new.floor) c.as_slice.ensures.value c.in-Err-run_settled_pass.ensures.unmoved

pub returns-in-Ok-true-clause-unmoved : goal.returns-in-Ok-true-clause-unmoved
returns-in-Ok-true-clause-unmoved g c =
    subst (λ (places : List (Option Place)). AreFlaggedAtTargets c.args.session.now.team.now c.args.session.now.impossible.now places c.args.floor.now
    → KeepsLockedPlaces c.args.session.now.team.now c.args.session.now.impossible.now c.args.floor.now c.run_settled_pass.new.floor) c.as_slice.ensures.value c.in-Ok.ensures.unmoved

pub returns-in-Ok-true-clause-settled : goal.returns-in-Ok-true-clause-settled
returns-in-Ok-true-clause-settled g c =
    subst (λ (places : List (Option Place)). IsSettled c.args.search.now.reach places c.args.session.now.team.now c.args.session.now.impossible.now c.run_settled_pass.new.floor c.in-Ok.later.items)
    c.as_slice.ensures.value c.in-Ok.ensures.settled

pub returns-in-Ok-true-clause-free : goal.returns-in-Ok-true-clause-free
returns-in-Ok-true-clause-free g c = λ before.
    subst (λ (xs : List ℕ). NoneIsFlagged c.args.input.now.pass.locked.items xs) c.as_slice-2.ensures.value (c.in-Ok-true.ensures c.in-Ok-true.field-0-test)

pub take_back-requires : goal.take_back-requires
take_back-requires g c = ap (λ (f : Frame). team_number f c.args.session.now.team.now) c.in-Ok.ensures.only.frame ∙ c.requires.number

pub returns-in-Ok-false-clause-run : goal.returns-in-Ok-false-clause-run
returns-in-Ok-false-clause-run g c = λ l.
    let team = c.args.session.now.team.now in
    let mid = c.run_settled_pass.new.floor in
    let new = c.take_back.new.floor in
    ok_then c.take_back.result (IsWrittenRun l team mid (g.K.Sink.contents c.run_settled_pass.new.lines) (g.K.Sink.contents c.take_back.new.lines) new)
    (IsWrittenRun l team c.args.floor.now (g.K.Sink.contents c.args.lines.now) (g.K.Sink.contents c.take_back.new.lines) new)
    (λ last. then_written l team c.args.floor.now mid new (g.K.Sink.contents c.args.lines.now) (g.K.Sink.contents c.run_settled_pass.new.lines)
    (g.K.Sink.contents c.take_back.new.lines) (c.in-Ok.ensures.run l) last) (c.take_back.ensures.run l)

pub returns-in-Ok-false-clause-err : goal.returns-in-Ok-false-clause-err
returns-in-Ok-false-clause-err g c = λ l.
    let team = c.args.session.now.team.now in
    let mid = c.run_settled_pass.new.floor in
    let new = c.take_back.new.floor in
    err_then c.take_back.result (IsRunWithCutLine l team mid (g.K.Sink.contents c.run_settled_pass.new.lines) (g.K.Sink.contents c.take_back.new.lines) new)
    (IsRunWithCutLine l team c.args.floor.now (g.K.Sink.contents c.args.lines.now) (g.K.Sink.contents c.take_back.new.lines) new)
    (λ last. then_cut l team c.args.floor.now mid new (g.K.Sink.contents c.args.lines.now) (g.K.Sink.contents c.run_settled_pass.new.lines)
    (g.K.Sink.contents c.take_back.new.lines) (c.in-Ok.ensures.run l) last) (c.take_back.ensures.err l)

pub returns-in-Ok-false-clause-only : goal.returns-in-Ok-false-clause-only
returns-in-Ok-false-clause-only g c = then_only c.args.session.now.team.now c.args.floor.now c.run_settled_pass.new.floor c.take_back.new.floor c.in-Ok.ensures.only c.take_back.ensures.only

pub returns-in-Ok-false-clause-committed : goal.returns-in-Ok-false-clause-committed
returns-in-Ok-false-clause-committed g c = c.take_back.ensures.committed ∙ c.in-Ok.ensures.committed

pub returns-in-Ok-false-clause-unmoved : goal.returns-in-Ok-false-clause-unmoved
returns-in-Ok-false-clause-unmoved g c =
    both_unmoved c.args.session.now.team.now c.args.session.now.impossible.now c.args.input.now.pass.targets.items c.args.floor.now c.run_settled_pass.new.floor c.take_back.new.floor
    (subst (λ (places : List (Option Place)). AreFlaggedAtTargets c.args.session.now.team.now c.args.session.now.impossible.now places c.args.floor.now
    → KeepsLockedPlaces c.args.session.now.team.now c.args.session.now.impossible.now c.args.floor.now c.run_settled_pass.new.floor) c.as_slice.ensures.value c.in-Ok.ensures.unmoved) c.take_back.ensures.unmoved

pub returns-in-Ok-false-clause-free : goal.returns-in-Ok-false-clause-free
returns-in-Ok-false-clause-free g c = λ before. c.take_back.ensures.free

pub returns-clause-err : goal.returns-clause-err
returns-clause-err g c = λ l.
    uncut l c.args.session.now.team.now c.args.floor.now c.run_settled_pass.new.floor (g.K.Sink.contents c.args.lines.now) (g.K.Sink.contents c.run_settled_pass.new.lines) (c.in-Ok.ensures.run l)

pub returns-clause-unmoved : goal.returns-clause-unmoved
returns-clause-unmoved g c =
    subst (λ (places : List (Option Place)). AreFlaggedAtTargets c.args.session.now.team.now c.args.session.now.impossible.now places c.args.floor.now
    → KeepsLockedPlaces c.args.session.now.team.now c.args.session.now.impossible.now c.args.floor.now c.run_settled_pass.new.floor) c.as_slice.ensures.value c.in-Ok.ensures.unmoved
