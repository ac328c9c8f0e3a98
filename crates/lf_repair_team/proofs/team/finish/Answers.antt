use Rattle.std.proofs.Common.{◌∙◌, ℕ, List, subst, sym}
use Rattle.lf_repair_team.specs.CellEdits.{AreUnrepaired}
use Rattle.lf_repair_team.proofs.Finding.{elsewhere_through, wanted_place_through}
use Rattle.lf_repair_team.proofs.LastPass.{unrepaired_committed, unrepaired_through}
use Rattle.lf_repair_team.proofs.Legal.{committed_through, same_committed, same_places, uncommitted}
use Rattle.lf_repair_team.proofs.Runs.{none_cut, then_cut, then_written}
use Rattle.lf_repair_team.proofs.team.finish.Goals as goal

pub returns-in-Ok-close-clause-run : goal.returns-in-Ok-close-clause-run
returns-in-Ok-close-clause-run g c = λ l.
    then_written l c.args.session.now.team.now c.args.floor.now c.commit_if_clean.new.floor c.close.new.floor (g.K.Sink.contents c.args.lines.now)
    (g.K.Sink.contents c.commit_if_clean.new.lines) (g.K.Sink.contents c.close.new.lines) (c.in-Ok-commit_if_clean.ensures.run l) (c.in-Ok-close.ensures.run l)

pub returns-in-Err-close-clause-err : goal.returns-in-Err-close-clause-err
returns-in-Err-close-clause-err g c = λ l.
    then_cut l c.args.session.now.team.now c.args.floor.now c.commit_if_clean.new.floor c.close.new.floor (g.K.Sink.contents c.args.lines.now)
    (g.K.Sink.contents c.commit_if_clean.new.lines) (g.K.Sink.contents c.close.new.lines) (c.in-Ok-commit_if_clean.ensures.run l) (c.in-Err-close.ensures.err l)

pub returns-in-Ok-close-clause-changed : goal.returns-in-Ok-close-clause-changed
returns-in-Ok-close-clause-changed g c =
    wanted_place_through c.args.session.now.team.now c.args.targets.now c.args.floor.now c.close.new.floor c.in-Ok.found.changed.items
    (c.in-Ok-close.ensures.only.names ∙ c.in-Ok-commit_if_clean.ensures.only.names)
    (λ own. same_places c.args.session.now.team.now c.commit_if_clean.new.floor c.close.new.floor c.in-Ok-close.ensures.cells own ∙ c.in-Ok-commit_if_clean.ensures.places own)
    c.in-Ok.ensures.changed

pub returns-in-Ok-close-clause-moved : goal.returns-in-Ok-close-clause-moved
returns-in-Ok-close-clause-moved g c =
    elsewhere_through c.args.session.now.team.now c.args.targets.now c.args.floor.now c.close.new.floor c.in-Ok.found.changed.items
    (c.in-Ok-close.ensures.only.names ∙ c.in-Ok-commit_if_clean.ensures.only.names)
    (λ own. same_places c.args.session.now.team.now c.commit_if_clean.new.floor c.close.new.floor c.in-Ok-close.ensures.cells own ∙ c.in-Ok-commit_if_clean.ensures.places own)
    c.in-Ok.ensures.moved

pub returns-in-Ok-close-clause-unrepaired : goal.returns-in-Ok-close-clause-unrepaired
returns-in-Ok-close-clause-unrepaired g c = λ reach are.
    let team = c.args.session.now.team.now in
    let left = c.in-Ok.found.left.items in
    let l = c.legalizer_exists.ensures in
    unrepaired_through reach c.args.targets.now team c.args.session.now.impossible.now c.commit_if_clean.new.floor c.close.new.floor left c.in-Ok-close.ensures.only.frame c.in-Ok-close.ensures.cells
    (unrepaired_committed reach c.args.targets.now team c.args.session.now.impossible.now c.args.floor.now c.commit_if_clean.new.floor c.as_slice.result.now left c.as_slice.ensures.value
    c.in-Ok-commit_if_clean.ensures.kept l (c.in-Ok-commit_if_clean.ensures.committed l)
    (subst (λ (xs : List ℕ). AreUnrepaired reach c.args.targets.now team c.args.session.now.impossible.now c.args.floor.now xs) (sym c.in-Ok.ensures.unrepaired) are))

pub returns-in-Ok-close-clause-committed : goal.returns-in-Ok-close-clause-committed
returns-in-Ok-close-clause-committed g c = λ l none.
    committed_through l c.args.session.now.team.now c.commit_if_clean.new.floor c.close.new.floor c.in-Ok-close.ensures.only.frame c.in-Ok-close.ensures.cells
    (c.in-Ok-commit_if_clean.ensures.committed l (c.as_slice.ensures.value ∙ none))

pub returns-in-Ok-close-clause-uncommitted : goal.returns-in-Ok-close-clause-uncommitted
returns-in-Ok-close-clause-uncommitted g c = λ some.
    same_committed c.args.session.now.team.now c.commit_if_clean.new.floor c.close.new.floor c.in-Ok-close.ensures.cells
    ∙ uncommitted c.args.session.now.team.now c.args.floor.now c.commit_if_clean.new.floor c.as_slice.result.now c.in-Ok.found.left.items c.as_slice.ensures.value
    c.in-Ok-commit_if_clean.ensures.kept some

pub returns-in_default-clause-err : goal.returns-in_default-clause-err
returns-in_default-clause-err g c = λ l. none_cut l c.args.session.now.team.now c.args.floor.now (g.K.Sink.contents c.args.lines.now)

pub returns-in-Ok-close-clause-places : goal.returns-in-Ok-close-clause-places
returns-in-Ok-close-clause-places g c = λ own.
    same_places c.args.session.now.team.now c.commit_if_clean.new.floor c.close.new.floor c.in-Ok-close.ensures.cells own ∙ c.in-Ok-commit_if_clean.ensures.places own

pub returns-in-Err-close-clause-places : goal.returns-in-Err-close-clause-places
returns-in-Err-close-clause-places g c = λ own.
    same_places c.args.session.now.team.now c.commit_if_clean.new.floor c.close.new.floor c.in-Err-close.ensures.cells own ∙ c.in-Ok-commit_if_clean.ensures.places own

pub returns-in-Ok-close-clause-settings : goal.returns-in-Ok-close-clause-settings
returns-in-Ok-close-clause-settings g c = c.in-Ok-close.ensures.settings ∙ c.in-Ok-commit_if_clean.ensures.settings
