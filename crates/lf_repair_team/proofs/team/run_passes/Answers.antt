use Rattle.std.proofs.Common.{◌≡◌, ◌∙◌, List, Option, true, false, ap, subst, sym}
use Rattle.lf_floorplan.specs.declared.frame.Frame.{Frame}
use Rattle.lf_floorplan.specs.declared.place.Place.{Place}
use Rattle.lf_floor_model.specs.Teams.{team_number}
use Rattle.lf_repair_team.specs.CellEdits.{AreFlaggedAtTargets, AreLockedInPlace, IsSettled, KeepsLockedPlaces}
use Rattle.lf_repair_team.specs.Runs.{IsRunWithCutLine, IsWrittenRun}
use Rattle.lf_repair_team.proofs.Results.{err_then, ok_then}
use Rattle.lf_repair_team.proofs.Runs.{then_cut, then_only, then_written}
use Rattle.lf_repair_team.proofs.Settling.{both_unmoved, locked_places, none_left_locked}
use Rattle.lf_repair_team.proofs.team.run_passes.Goals as goal

true_false : true ≡ false → ⊥
true_false e = cc

pub returns-in-Err-clause-marked : goal.returns-in-Err-clause-marked
returns-in-Err-clause-marked g c = λ keep.
    locked_places c.args.session.now.team.now c.args.input.now.pass.locked.items c.args.input.now.pass.targets.items c.args.floor.now c.run_settled_pass.new.floor
    (subst (λ (places : List (Option Place)). AreLockedInPlace c.args.session.now.team.now c.args.input.now.pass.locked.items places c.args.floor.now
    → AreLockedInPlace c.args.session.now.team.now c.args.input.now.pass.locked.items places c.run_settled_pass.new.floor) c.as_slice.ensures.value c.in-Err.ensures.marked)

pub returns-in-Err-clause-unmoved : goal.returns-in-Err-clause-unmoved
returns-in-Err-clause-unmoved g c =
    subst (λ (places : List (Option Place)). AreFlaggedAtTargets c.args.session.now.team.now c.args.session.now.impossible.now places c.args.floor.now
    → KeepsLockedPlaces c.args.session.now.team.now c.args.session.now.impossible.now c.args.floor.now c.run_settled_pass.new.floor) c.as_slice.ensures.value c.in-Err.ensures.unmoved

pub returns-then-not-may_legal_move-clause-marked : goal.returns-then-not-may_legal_move-clause-marked
returns-then-not-may_legal_move-clause-marked g c = λ keep.
    locked_places c.args.session.now.team.now c.args.input.now.pass.locked.items c.args.input.now.pass.targets.items c.args.floor.now c.run_settled_pass.new.floor
    (subst (λ (places : List (Option Place)). AreLockedInPlace c.args.session.now.team.now c.args.input.now.pass.locked.items places c.args.floor.now
    → AreLockedInPlace c.args.session.now.team.now c.args.input.now.pass.locked.items places c.run_settled_pass.new.floor) c.as_slice.ensures.value c.in-Ok.ensures.marked)

pub returns-then-not-may_legal_move-clause-unmoved : goal.returns-then-not-may_legal_move-clause-unmoved
returns-then-not-may_legal_move-clause-unmoved g c =
    subst (λ (places : List (Option Place)). AreFlaggedAtTargets c.args.session.now.team.now c.args.session.now.impossible.now places c.args.floor.now
    → KeepsLockedPlaces c.args.session.now.team.now c.args.session.now.impossible.now c.args.floor.now c.run_settled_pass.new.floor) c.as_slice.ensures.value c.in-Ok.ensures.unmoved

pub returns-then-not-may_legal_move-clause-settled : goal.returns-then-not-may_legal_move-clause-settled
returns-then-not-may_legal_move-clause-settled g c =
    subst (λ (places : List (Option Place)). IsSettled c.args.search.now.reach places c.args.session.now.team.now c.args.session.now.impossible.now c.run_settled_pass.new.floor c.in-Ok.unrepaired.items)
    c.as_slice.ensures.value c.in-Ok.ensures.settled

pub returns-then-not-may_legal_move-clause-free : goal.returns-then-not-may_legal_move-clause-free
returns-then-not-may_legal_move-clause-free g c = λ locked.
    none_left_locked c.args.session.now.team.now c.args.input.now.pass.locked.items c.args.input.now.pass.targets.items c.run_settled_pass.new.floor c.in-Ok.unrepaired.items
    ((subst (λ (places : List (Option Place)). AreLockedInPlace c.args.session.now.team.now c.args.input.now.pass.locked.items places c.args.floor.now
    → AreLockedInPlace c.args.session.now.team.now c.args.input.now.pass.locked.items places c.run_settled_pass.new.floor) c.as_slice.ensures.value c.in-Ok.ensures.marked) locked) c.in-Ok.ensures.settled.unrepaired.illegal

pub run_local_passes-requires : goal.run_local_passes-requires
run_local_passes-requires g c = record {
  number = ap (λ (f : Frame). team_number f c.args.session.now.team.now) c.in-Ok.ensures.only.frame ∙ c.requires;
  settled = subst (λ (places : List (Option Place)). IsSettled c.args.search.now.reach places c.args.session.now.team.now c.args.session.now.impossible.now c.run_settled_pass.new.floor c.in-Ok.unrepaired.items)
      c.as_slice.ensures.value c.in-Ok.ensures.settled;
}

pub returns-clause-run : goal.returns-clause-run
returns-clause-run g c = λ l.
    let team = c.args.session.now.team.now in
    let mid = c.run_settled_pass.new.floor in
    let new = c.run_local_passes.new.floor in
    ok_then c.run_local_passes.result (IsWrittenRun l team mid (g.K.Sink.contents c.run_settled_pass.new.lines) (g.K.Sink.contents c.run_local_passes.new.lines) new)
    (IsWrittenRun l team c.args.floor.now (g.K.Sink.contents c.args.lines.now) (g.K.Sink.contents c.run_local_passes.new.lines) new)
    (λ last. then_written l team c.args.floor.now mid new (g.K.Sink.contents c.args.lines.now) (g.K.Sink.contents c.run_settled_pass.new.lines)
    (g.K.Sink.contents c.run_local_passes.new.lines) (c.in-Ok.ensures.run l) last) (c.run_local_passes.ensures.run l)

pub returns-clause-err : goal.returns-clause-err
returns-clause-err g c = λ l.
    let team = c.args.session.now.team.now in
    let mid = c.run_settled_pass.new.floor in
    let new = c.run_local_passes.new.floor in
    err_then c.run_local_passes.result (IsRunWithCutLine l team mid (g.K.Sink.contents c.run_settled_pass.new.lines) (g.K.Sink.contents c.run_local_passes.new.lines) new)
    (IsRunWithCutLine l team c.args.floor.now (g.K.Sink.contents c.args.lines.now) (g.K.Sink.contents c.run_local_passes.new.lines) new)
    (λ last. then_cut l team c.args.floor.now mid new (g.K.Sink.contents c.args.lines.now) (g.K.Sink.contents c.run_settled_pass.new.lines)
    (g.K.Sink.contents c.run_local_passes.new.lines) (c.in-Ok.ensures.run l) last) (c.run_local_passes.ensures.err l)

pub returns-clause-only : goal.returns-clause-only
returns-clause-only g c = then_only c.args.session.now.team.now c.args.floor.now c.run_settled_pass.new.floor c.run_local_passes.new.floor c.in-Ok.ensures.only c.run_local_passes.ensures.only

pub returns-clause-committed : goal.returns-clause-committed
returns-clause-committed g c = c.run_local_passes.ensures.committed ∙ c.in-Ok.ensures.committed

pub returns-clause-marked : goal.returns-clause-marked
returns-clause-marked g c = λ keep. absurd (true_false (sym c.if-not-may_legal_move.false ∙ c.may_legal_move.ensures keep))

pub returns-clause-unmoved : goal.returns-clause-unmoved
returns-clause-unmoved g c =
    both_unmoved c.args.session.now.team.now c.args.session.now.impossible.now c.args.input.now.pass.targets.items c.args.floor.now c.run_settled_pass.new.floor c.run_local_passes.new.floor
    (subst (λ (places : List (Option Place)). AreFlaggedAtTargets c.args.session.now.team.now c.args.session.now.impossible.now places c.args.floor.now
    → KeepsLockedPlaces c.args.session.now.team.now c.args.session.now.impossible.now c.args.floor.now c.run_settled_pass.new.floor) c.as_slice.ensures.value c.in-Ok.ensures.unmoved) c.run_local_passes.ensures.unmoved

pub returns-clause-free : goal.returns-clause-free
returns-clause-free g c = λ locked.
    c.run_local_passes.ensures.free
    (none_left_locked c.args.session.now.team.now c.args.input.now.pass.locked.items c.args.input.now.pass.targets.items c.run_settled_pass.new.floor c.in-Ok.unrepaired.items
    ((subst (λ (places : List (Option Place)). AreLockedInPlace c.args.session.now.team.now c.args.input.now.pass.locked.items places c.args.floor.now
    → AreLockedInPlace c.args.session.now.team.now c.args.input.now.pass.locked.items places c.run_settled_pass.new.floor) c.as_slice.ensures.value c.in-Ok.ensures.marked) locked) c.in-Ok.ensures.settled.unrepaired.illegal)
