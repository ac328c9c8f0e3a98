use Rattle.std.proofs.Common.{◌≡◌, ◌∙◌, ℕ, List, None, arith, get_or, inl, refl, subst}
use Rattle.std.specs.Prelude.{All}
use Rattle.std.proofs.lemmas.List.{take_all}
use Rattle.std.proofs.lemmas.List.Elements.{All-get_or, All-nil}
use Rattle.lf_repair_team.specs.CellEdits.{IsFlagged}
use Rattle.lf_repair_team.specs.TeamRepairs.{IsIllegalIn, place_of_cell_in}
use Rattle.lf_repair_team.proofs.LastPass.{flagged_beside, legal_beside_illegal, none_affected, unplaced_more}
use Rattle.lf_repair_team.proofs.OffSoft.{none_moves_onto_soft, one_moves_off_soft, then_off_soft}
use Rattle.lf_repair_team.proofs.ReachLemmas.{one_moves_within, then_within, unplaced_is_within}
use Rattle.lf_repair_team.proofs.Runs.{none_moves, nothing, then_cut, then_only, then_stay, then_written, unchanged}
use Rattle.lf_repair_team.proofs.last_pass.unplace_cells.Goals as goal

pub loop-own-init : goal.loop-own-init
loop-own-init g c = record {
  run = λ l. nothing l c.args.session.now.team.now c.args.floor.now (g.K.Sink.contents c.args.lines.now);
  only = unchanged c.args.session.now.team.now c.args.floor.now;
  legal = none_affected c.args.session.now.team.now c.args.floor.now;
  flagged = none_moves c.args.session.now.team.now c.args.session.now.impossible.now c.args.floor.now;
  committed = refl;
  unplaced = All-nil (λ own. place_of_cell_in c.args.floor.now c.args.session.now.team.now own ≡ None);
  off_soft = none_moves_onto_soft c.args.session.now.team.now c.args.floor.now;
  within = λ within. within;
}

pub returns-in-Err-clause-err : goal.returns-in-Err-clause-err
returns-in-Err-clause-err g c = λ l.
    then_cut l c.args.session.now.team.now c.args.floor.now c.loop-own.floor c.unplace_cell.new.floor (g.K.Sink.contents c.args.lines.now) (g.K.Sink.contents c.loop-own.lines)
    (g.K.Sink.contents c.unplace_cell.new.lines) (c.loop-own.invariant.run l) (c.in-Err.ensures.err l)

pub returns-in-Err-clause-only : goal.returns-in-Err-clause-only
returns-in-Err-clause-only g c = then_only c.args.session.now.team.now c.args.floor.now c.loop-own.floor c.unplace_cell.new.floor c.loop-own.invariant.only c.in-Err.ensures.only

pub returns-in-Err-clause-legal : goal.returns-in-Err-clause-legal
returns-in-Err-clause-legal g c =
    legal_beside_illegal c.args.session.now.team.now c.args.floor.now c.loop-own.floor c.unplace_cell.new.floor (get_or c.args.cells.now c.loop-own.own-index 0)
    (All-get_or (λ own. IsIllegalIn c.args.floor.now c.args.session.now.team.now own) c.args.cells.now c.loop-own.own-index 0 c.loop-own-test.true c.requires.illegal)
    c.loop-own.invariant.legal c.in-Err.ensures.cells c.in-Err.ensures.legal

pub returns-in-Err-clause-flagged : goal.returns-in-Err-clause-flagged
returns-in-Err-clause-flagged g c =
    then_stay c.args.session.now.team.now c.args.session.now.impossible.now c.args.floor.now c.loop-own.floor c.unplace_cell.new.floor c.loop-own.invariant.flagged
    (flagged_beside c.args.session.now.team.now c.args.session.now.impossible.now c.loop-own.floor c.unplace_cell.new.floor (get_or c.args.cells.now c.loop-own.own-index 0)
    (All-get_or (λ own. IsFlagged c.args.session.now.impossible.now own → ⊥) c.args.cells.now c.loop-own.own-index 0 c.loop-own-test.true c.requires.free) c.in-Err.ensures.cells)

pub returns-in-Err-clause-committed : goal.returns-in-Err-clause-committed
returns-in-Err-clause-committed g c = c.in-Err.ensures.committed ∙ c.loop-own.invariant.committed

pub loop-own-preserved : goal.loop-own-preserved
loop-own-preserved g c = record {
  run = λ l. then_written l c.args.session.now.team.now c.args.floor.now c.loop-own.floor c.unplace_cell.new.floor (g.K.Sink.contents c.args.lines.now)
      (g.K.Sink.contents c.loop-own.lines) (g.K.Sink.contents c.unplace_cell.new.lines) (c.loop-own.invariant.run l) (c.in-Ok.ensures.run l);
  only = then_only c.args.session.now.team.now c.args.floor.now c.loop-own.floor c.unplace_cell.new.floor c.loop-own.invariant.only c.in-Ok.ensures.only;
  legal =
      legal_beside_illegal c.args.session.now.team.now c.args.floor.now c.loop-own.floor c.unplace_cell.new.floor (get_or c.args.cells.now c.loop-own.own-index 0)
      (All-get_or (λ own. IsIllegalIn c.args.floor.now c.args.session.now.team.now own) c.args.cells.now c.loop-own.own-index 0 c.loop-own-test.true c.requires.illegal)
      c.loop-own.invariant.legal c.in-Ok.ensures.cells c.in-Ok.ensures.legal;
  flagged = then_stay c.args.session.now.team.now c.args.session.now.impossible.now c.args.floor.now c.loop-own.floor c.unplace_cell.new.floor c.loop-own.invariant.flagged
      (flagged_beside c.args.session.now.team.now c.args.session.now.impossible.now c.loop-own.floor c.unplace_cell.new.floor (get_or c.args.cells.now c.loop-own.own-index 0)
      (All-get_or (λ own. IsFlagged c.args.session.now.impossible.now own → ⊥) c.args.cells.now c.loop-own.own-index 0 c.loop-own-test.true c.requires.free) c.in-Ok.ensures.cells);
  committed = c.in-Ok.ensures.committed ∙ c.loop-own.invariant.committed;
  unplaced = unplaced_more c.args.session.now.team.now c.loop-own.floor c.unplace_cell.new.floor c.args.cells.now c.loop-own.own-index 0 c.loop-own-test.true
      c.loop-own.invariant.unplaced c.in-Ok.ensures.cells c.in-Ok.ensures.unplaced;
  off_soft = then_off_soft c.args.session.now.team.now c.loop-own.floor c.unplace_cell.new.floor c.in-Ok.ensures.only c.args.floor.now c.loop-own.invariant.off_soft
      (one_moves_off_soft c.args.session.now.team.now c.loop-own.floor c.unplace_cell.new.floor (get_or c.args.cells.now c.loop-own.own-index 0) c.in-Ok.ensures.cells (inl c.in-Ok.ensures.unplaced));
  within = then_within c.args.search.now.reach c.args.targets.now c.args.session.now.team.now c.args.floor.now c.loop-own.floor c.unplace_cell.new.floor c.loop-own.invariant.within
      (one_moves_within c.args.search.now.reach c.args.targets.now c.args.session.now.team.now c.loop-own.floor c.unplace_cell.new.floor (get_or c.args.cells.now c.loop-own.own-index 0)
      c.in-Ok.ensures.cells (unplaced_is_within c.args.search.now.reach c.args.targets.now c.args.session.now.team.now c.unplace_cell.new.floor (get_or c.args.cells.now c.loop-own.own-index 0)
      c.in-Ok.ensures.unplaced));
}

pub returns-clause-unplaced : goal.returns-clause-unplaced
returns-clause-unplaced g c =
    subst (λ (xs : List ℕ). All (λ own. place_of_cell_in c.loop-own.floor c.args.session.now.team.now own ≡ None) xs)
    (take_all c.loop-own.own-index c.args.cells.now (omega (arith, c.loop-own-test.false))) c.loop-own.invariant.unplaced
