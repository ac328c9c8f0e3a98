use Rattle.std.proofs.Common.{◌∙◌, List, ℕ, Option, subst}
use Rattle.lf_floorplan.specs.declared.place.Place.{Place}
use Rattle.lf_repair_team.specs.CellEdits.{AreFlaggedAtTargets, IsSettled, KeepsLockedPlaces, NoneIsFlagged}
use Rattle.lf_repair_team.proofs.Runs.{none_cut, then_cut, then_only, then_written, uncut}
use Rattle.lf_repair_team.proofs.Settling.{then_unmoved}
use Rattle.lf_repair_team.proofs.team.take_back.Goals as goal

pub returns-in_default-clause-err : goal.returns-in_default-clause-err
returns-in_default-clause-err g c = λ l. none_cut l c.args.session.now.team.now c.args.floor.now (g.K.Sink.contents c.args.lines.now)

pub returns-in-Err-clause-unmoved : goal.returns-in-Err-clause-unmoved
returns-in-Err-clause-unmoved g c = λ at. c.in-Err.ensures.flagged

pub returns-in-Err-settle-clause-err : goal.returns-in-Err-settle-clause-err
returns-in-Err-settle-clause-err g c = λ l.
    then_cut l c.args.session.now.team.now c.args.floor.now c.run_edits.new.floor c.settle.new.floor (g.K.Sink.contents c.args.lines.now) (g.K.Sink.contents c.run_edits.new.lines)
    (g.K.Sink.contents c.settle.new.lines) (c.in-Ok-run_edits.ensures.run l) (c.in-Err-settle.ensures.err l)

pub returns-then-has_locked-clause-err : goal.returns-then-has_locked-clause-err
returns-then-has_locked-clause-err g c = λ l.
    uncut l c.args.session.now.team.now c.args.floor.now c.settle.new.floor (g.K.Sink.contents c.args.lines.now) (g.K.Sink.contents c.settle.new.lines)
    (then_written l c.args.session.now.team.now c.args.floor.now c.run_edits.new.floor c.settle.new.floor (g.K.Sink.contents c.args.lines.now) (g.K.Sink.contents c.run_edits.new.lines)
    (g.K.Sink.contents c.settle.new.lines) (c.in-Ok-run_edits.ensures.run l) (c.in-Ok-settle.ensures.run l))

pub returns-clause-run : goal.returns-clause-run
returns-clause-run g c = λ l. then_written l c.args.session.now.team.now c.args.floor.now c.run_edits.new.floor c.settle.new.floor (g.K.Sink.contents c.args.lines.now) (g.K.Sink.contents c.run_edits.new.lines)
    (g.K.Sink.contents c.settle.new.lines) (c.in-Ok-run_edits.ensures.run l) (c.in-Ok-settle.ensures.run l)

pub returns-in-Err-settle-clause-only : goal.returns-in-Err-settle-clause-only
returns-in-Err-settle-clause-only g c = then_only c.args.session.now.team.now c.args.floor.now c.run_edits.new.floor c.settle.new.floor c.in-Ok-run_edits.ensures.only c.in-Err-settle.ensures.only

pub returns-in-Err-settle-clause-committed : goal.returns-in-Err-settle-clause-committed
returns-in-Err-settle-clause-committed g c = c.in-Err-settle.ensures.committed ∙ c.in-Ok-run_edits.ensures.committed

pub returns-in-Err-settle-clause-unmoved : goal.returns-in-Err-settle-clause-unmoved
returns-in-Err-settle-clause-unmoved g c =
    then_unmoved c.args.session.now.team.now c.args.session.now.impossible.now c.args.input.now.pass.targets.items c.args.floor.now c.run_edits.new.floor c.settle.new.floor c.in-Ok-run_edits.ensures.flagged
    (subst (λ (places : List (Option Place)). AreFlaggedAtTargets c.args.session.now.team.now c.args.session.now.impossible.now places c.run_edits.new.floor
    → KeepsLockedPlaces c.args.session.now.team.now c.args.session.now.impossible.now c.run_edits.new.floor c.settle.new.floor) c.as_slice-targets.ensures.value c.in-Err-settle.ensures.unmoved)

pub returns-then-has_locked-clause-only : goal.returns-then-has_locked-clause-only
returns-then-has_locked-clause-only g c = then_only c.args.session.now.team.now c.args.floor.now c.run_edits.new.floor c.settle.new.floor c.in-Ok-run_edits.ensures.only c.in-Ok-settle.ensures.only

pub returns-then-has_locked-clause-committed : goal.returns-then-has_locked-clause-committed
returns-then-has_locked-clause-committed g c = c.in-Ok-settle.ensures.committed ∙ c.in-Ok-run_edits.ensures.committed

pub returns-then-has_locked-clause-unmoved : goal.returns-then-has_locked-clause-unmoved
returns-then-has_locked-clause-unmoved g c =
    then_unmoved c.args.session.now.team.now c.args.session.now.impossible.now c.args.input.now.pass.targets.items c.args.floor.now c.run_edits.new.floor c.settle.new.floor c.in-Ok-run_edits.ensures.flagged
    (subst (λ (places : List (Option Place)). AreFlaggedAtTargets c.args.session.now.team.now c.args.session.now.impossible.now places c.run_edits.new.floor
    → KeepsLockedPlaces c.args.session.now.team.now c.args.session.now.impossible.now c.run_edits.new.floor c.settle.new.floor) c.as_slice-targets.ensures.value c.in-Ok-settle.ensures.unmoved)

pub returns-clause-only : goal.returns-clause-only
returns-clause-only g c = then_only c.args.session.now.team.now c.args.floor.now c.run_edits.new.floor c.settle.new.floor c.in-Ok-run_edits.ensures.only c.in-Ok-settle.ensures.only

pub returns-clause-committed : goal.returns-clause-committed
returns-clause-committed g c = c.in-Ok-settle.ensures.committed ∙ c.in-Ok-run_edits.ensures.committed

pub returns-clause-unmoved : goal.returns-clause-unmoved
returns-clause-unmoved g c =
    then_unmoved c.args.session.now.team.now c.args.session.now.impossible.now c.args.input.now.pass.targets.items c.args.floor.now c.run_edits.new.floor c.settle.new.floor c.in-Ok-run_edits.ensures.flagged
    (subst (λ (places : List (Option Place)). AreFlaggedAtTargets c.args.session.now.team.now c.args.session.now.impossible.now places c.run_edits.new.floor
    → KeepsLockedPlaces c.args.session.now.team.now c.args.session.now.impossible.now c.run_edits.new.floor c.settle.new.floor) c.as_slice-targets.ensures.value c.in-Ok-settle.ensures.unmoved)

pub returns-clause-settled : goal.returns-clause-settled
returns-clause-settled g c =
    subst (λ (places : List (Option Place)). IsSettled c.args.search.now.reach places c.args.session.now.team.now c.args.session.now.impossible.now c.settle.new.floor c.in-Ok-settle.unrepaired.items)
    c.as_slice-targets.ensures.value c.in-Ok-settle.ensures.settled

pub returns-clause-free : goal.returns-clause-free
returns-clause-free g c =
    subst (λ (xs : List ℕ). NoneIsFlagged c.args.input.now.pass.locked.items xs) c.as_slice-2.ensures.value (c.has_locked.ensures c.if-has_locked.false)
