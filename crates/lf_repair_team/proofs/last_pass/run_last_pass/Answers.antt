use Rattle.std.proofs.Common.{◌≡◌, ◌∙◌, ℕ, List, None, ap, subst, sym}
use Rattle.std.specs.Prelude.{All}
use Rattle.lf_floorplan.specs.declared.frame.Frame.{Frame}
use Rattle.lf_floor_model.specs.Teams.{team_number}
use Rattle.lf_repair_team.specs.CellEdits.{AreMovable, IsFlagged, IsLegalOrWithoutPlace}
use Rattle.lf_repair_team.specs.TeamRepairs.{IsIllegalIn, place_of_cell_in}
use Rattle.lf_repair_team.proofs.LastPass.{empty_none, illegal_have_none, movable_illegal, none_affected, none_unrepaired, some_there, then_legal}
use Rattle.lf_repair_team.proofs.OffSoft.{none_moves_onto_soft, then_off_soft}
use Rattle.lf_repair_team.proofs.ReachLemmas.{then_within}
use Rattle.lf_repair_team.proofs.Runs.{none_cut, nothing, then_cut, then_only, then_stay, then_written, uncut}
use Rattle.lf_repair_team.proofs.last_pass.run_last_pass.Goals as goal

pub returns-in_default-clause-err : goal.returns-in_default-clause-err
returns-in_default-clause-err g c = λ l. none_cut l c.args.session.now.team.now c.args.floor.now (g.K.Sink.contents c.args.lines.now)

pub returns-then-is_empty-clause-run : goal.returns-then-is_empty-clause-run
returns-then-is_empty-clause-run g c = λ l. nothing l c.args.session.now.team.now c.args.floor.now (g.K.Sink.contents c.args.lines.now)

pub returns-then-is_empty-clause-unrepaired : goal.returns-then-is_empty-clause-unrepaired
returns-then-is_empty-clause-unrepaired g c =
    none_unrepaired c.args.search.now.reach c.args.targets.now c.args.session.now.team.now c.args.session.now.impossible.now c.args.floor.now c.in-Ok.unrepaired.items c.in-Ok-movable_of.movable.items
    (sym c.as_slice-2.ensures.value ∙ empty_none c.as_slice-2.result.now c.is_empty.result c.is_empty.ensures c.if-is_empty.true)
    (subst (λ (xs : List ℕ). AreMovable c.args.session.now.impossible.now xs c.in-Ok-movable_of.movable.items) c.as_slice.ensures.value c.in-Ok-movable_of.ensures)
    c.in-Ok.ensures.named c.in-Ok.ensures.illegal c.in-Ok.ensures.rise

pub returns-then-is_empty-clause-legal : goal.returns-then-is_empty-clause-legal
returns-then-is_empty-clause-legal g c = none_affected c.args.session.now.team.now c.args.floor.now

pub returns-in_default-clause-legal : goal.returns-in_default-clause-legal
returns-in_default-clause-legal g c = none_affected c.args.session.now.team.now c.args.floor.now

pub returns-in_default-movable_of-clause-legal : goal.returns-in_default-movable_of-clause-legal
returns-in_default-movable_of-clause-legal g c = none_affected c.args.session.now.team.now c.args.floor.now

pub unplace_cells-requires : goal.unplace_cells-requires
unplace_cells-requires g c =
    let movables = subst (λ (xs : List ℕ). AreMovable c.args.session.now.impossible.now xs c.in-Ok-movable_of.movable.items) c.as_slice.ensures.value c.in-Ok-movable_of.ensures in
    record {
      illegal = subst (λ (xs : List ℕ). All (λ own. IsIllegalIn c.args.floor.now c.args.session.now.team.now own) xs) (sym c.as_slice-3.ensures.value)
          (movable_illegal c.args.session.now.team.now c.args.session.now.impossible.now c.args.floor.now c.in-Ok.unrepaired.items c.in-Ok-movable_of.movable.items movables c.in-Ok.ensures.illegal);
      free = subst (λ (xs : List ℕ). All (λ own. IsFlagged c.args.session.now.impossible.now own → ⊥) xs) (sym c.as_slice-3.ensures.value) movables.free;
    }

pub legalize_cells-requires : goal.legalize_cells-requires
legalize_cells-requires g c = record {
  number = ap (λ (f : Frame). team_number f c.args.session.now.team.now) c.in-Ok-unplace_cells.ensures.only.frame ∙ c.requires;
  unplaced = subst (λ (xs : List ℕ). All (λ own. place_of_cell_in c.unplace_cells.new.floor c.args.session.now.team.now own ≡ None) xs) (c.as_slice-3.ensures.value ∙ sym c.as_slice-4.ensures.value)
      c.in-Ok-unplace_cells.ensures.unplaced;
  free = subst (λ (xs : List ℕ). All (λ own. IsFlagged c.args.session.now.impossible.now own → ⊥) xs) (sym c.as_slice-4.ensures.value) c.in-Ok-movable_of.ensures.free;
}

pub returns-in-Err-legalize_cells-clause-only : goal.returns-in-Err-legalize_cells-clause-only
returns-in-Err-legalize_cells-clause-only g c =
    then_only c.args.session.now.team.now c.args.floor.now c.unplace_cells.new.floor c.legalize_cells.new.floor c.in-Ok-unplace_cells.ensures.only c.in-Err-legalize_cells.ensures.only

pub returns-in-Err-legalize_cells-clause-legal : goal.returns-in-Err-legalize_cells-clause-legal
returns-in-Err-legalize_cells-clause-legal g c =
    then_legal c.args.session.now.team.now c.args.floor.now c.unplace_cells.new.floor c.legalize_cells.new.floor c.in-Ok-unplace_cells.ensures.legal c.in-Err-legalize_cells.ensures.legal

pub returns-in-Err-legalize_cells-clause-committed : goal.returns-in-Err-legalize_cells-clause-committed
returns-in-Err-legalize_cells-clause-committed g c = c.in-Err-legalize_cells.ensures.committed ∙ c.in-Ok-unplace_cells.ensures.committed

pub returns-in-Ok-illegal_cells-clause-legal : goal.returns-in-Ok-illegal_cells-clause-legal
returns-in-Ok-illegal_cells-clause-legal g c =
    then_legal c.args.session.now.team.now c.args.floor.now c.unplace_cells.new.floor c.legalize_cells.new.floor c.in-Ok-unplace_cells.ensures.legal c.in-Ok-legalize_cells.ensures.legal

pub returns-clause-legal : goal.returns-clause-legal
returns-clause-legal g c =
    then_legal c.args.session.now.team.now c.args.floor.now c.unplace_cells.new.floor c.legalize_cells.new.floor c.in-Ok-unplace_cells.ensures.legal c.in-Ok-legalize_cells.ensures.legal

pub returns-in-Err-legalize_cells-clause-err : goal.returns-in-Err-legalize_cells-clause-err
returns-in-Err-legalize_cells-clause-err g c = λ l.
    then_cut l c.args.session.now.team.now c.args.floor.now c.unplace_cells.new.floor c.legalize_cells.new.floor (g.K.Sink.contents c.args.lines.now) (g.K.Sink.contents c.unplace_cells.new.lines)
    (g.K.Sink.contents c.legalize_cells.new.lines) (c.in-Ok-unplace_cells.ensures.run l) (c.in-Err-legalize_cells.ensures.err l)

pub returns-in-Ok-illegal_cells-clause-run : goal.returns-in-Ok-illegal_cells-clause-run
returns-in-Ok-illegal_cells-clause-run g c = λ l.
    then_written l c.args.session.now.team.now c.args.floor.now c.unplace_cells.new.floor c.legalize_cells.new.floor (g.K.Sink.contents c.args.lines.now) (g.K.Sink.contents c.unplace_cells.new.lines)
    (g.K.Sink.contents c.legalize_cells.new.lines) (c.in-Ok-unplace_cells.ensures.run l) (c.in-Ok-legalize_cells.ensures.run l)

pub returns-clause-err : goal.returns-clause-err
returns-clause-err g c = λ l.
    uncut l c.args.session.now.team.now c.args.floor.now c.legalize_cells.new.floor (g.K.Sink.contents c.args.lines.now) (g.K.Sink.contents c.legalize_cells.new.lines)
    (then_written l c.args.session.now.team.now c.args.floor.now c.unplace_cells.new.floor c.legalize_cells.new.floor (g.K.Sink.contents c.args.lines.now) (g.K.Sink.contents c.unplace_cells.new.lines)
    (g.K.Sink.contents c.legalize_cells.new.lines) (c.in-Ok-unplace_cells.ensures.run l) (c.in-Ok-legalize_cells.ensures.run l))

pub returns-in-Ok-illegal_cells-clause-unrepaired : goal.returns-in-Ok-illegal_cells-clause-unrepaired
returns-in-Ok-illegal_cells-clause-unrepaired g c = record {
  named = c.in-Ok-illegal_cells.ensures.named;
  illegal = c.in-Ok-illegal_cells.ensures.illegal;
  without = illegal_have_none c.args.search.now.reach c.args.targets.now c.args.session.now.team.now c.args.session.now.impossible.now c.args.floor.now c.legalize_cells.new.floor c.in-Ok.unrepaired.items c.in-Ok-movable_of.movable.items
      c.in-Ok-illegal_cells.unrepaired.items (λ none. some_there c.as_slice-2.result.now c.is_empty.result c.is_empty.ensures c.if-is_empty.false (c.as_slice-2.ensures.value ∙ none))
      (c.in-Ok-legalize_cells.ensures.only.names ∙ c.in-Ok-unplace_cells.ensures.only.names) c.in-Ok.ensures.named
      (subst (λ (xs : List ℕ). AreMovable c.args.session.now.impossible.now xs c.in-Ok-movable_of.movable.items) c.as_slice.ensures.value c.in-Ok-movable_of.ensures)
      (then_legal c.args.session.now.team.now c.args.floor.now c.unplace_cells.new.floor c.legalize_cells.new.floor c.in-Ok-unplace_cells.ensures.legal c.in-Ok-legalize_cells.ensures.legal)
      (subst (λ (xs : List ℕ). All (λ own. IsLegalOrWithoutPlace c.args.search.now.reach c.args.targets.now c.legalize_cells.new.floor c.args.session.now.team.now own) xs) c.as_slice-4.ensures.value c.in-Ok-legalize_cells.ensures.done)
      c.in-Ok-illegal_cells.ensures.illegal;
  rise = c.in-Ok-illegal_cells.ensures.rise;
}

pub returns-then-is_empty-clause-off_soft : goal.returns-then-is_empty-clause-off_soft
returns-then-is_empty-clause-off_soft g c = none_moves_onto_soft c.args.session.now.team.now c.args.floor.now

pub returns-in-Ok-illegal_cells-clause-off_soft : goal.returns-in-Ok-illegal_cells-clause-off_soft
returns-in-Ok-illegal_cells-clause-off_soft g c =
    then_off_soft c.args.session.now.team.now c.unplace_cells.new.floor c.legalize_cells.new.floor c.in-Ok-legalize_cells.ensures.only c.args.floor.now c.in-Ok-unplace_cells.ensures.off_soft
    c.in-Ok-legalize_cells.ensures.off_soft

pub returns-in-Err-legalize_cells-clause-flagged : goal.returns-in-Err-legalize_cells-clause-flagged
returns-in-Err-legalize_cells-clause-flagged g c =
    then_stay c.args.session.now.team.now c.args.session.now.impossible.now c.args.floor.now c.unplace_cells.new.floor c.legalize_cells.new.floor c.in-Ok-unplace_cells.ensures.flagged c.in-Err-legalize_cells.ensures.flagged

pub returns-in-Ok-illegal_cells-clause-flagged : goal.returns-in-Ok-illegal_cells-clause-flagged
returns-in-Ok-illegal_cells-clause-flagged g c =
    then_stay c.args.session.now.team.now c.args.session.now.impossible.now c.args.floor.now c.unplace_cells.new.floor c.legalize_cells.new.floor c.in-Ok-unplace_cells.ensures.flagged c.in-Ok-legalize_cells.ensures.flagged

pub returns-clause-flagged : goal.returns-clause-flagged
returns-clause-flagged g c =
    then_stay c.args.session.now.team.now c.args.session.now.impossible.now c.args.floor.now c.unplace_cells.new.floor c.legalize_cells.new.floor c.in-Ok-unplace_cells.ensures.flagged c.in-Ok-legalize_cells.ensures.flagged

pub returns-in_default-movable_of-clause-err : goal.returns-in_default-movable_of-clause-err
returns-in_default-movable_of-clause-err g c = λ l. none_cut l c.args.session.now.team.now c.args.floor.now (g.K.Sink.contents c.args.lines.now)

pub returns-then-is_empty-clause-within : goal.returns-then-is_empty-clause-within
returns-then-is_empty-clause-within g c = λ within. within

pub returns-in-Ok-illegal_cells-clause-within : goal.returns-in-Ok-illegal_cells-clause-within
returns-in-Ok-illegal_cells-clause-within g c =
    then_within c.args.search.now.reach c.args.targets.now c.args.session.now.team.now c.args.floor.now c.unplace_cells.new.floor c.legalize_cells.new.floor c.in-Ok-unplace_cells.ensures.within
    c.in-Ok-legalize_cells.ensures.within
