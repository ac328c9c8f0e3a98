use Rattle.std.proofs.Common.{◌≡◌, ◌∙◌, ℕ, List, None, ap, arith, get_or, inr, refl, subst}
use Rattle.std.specs.Prelude.{All}
use Rattle.std.proofs.lemmas.List.{take_all}
use Rattle.std.proofs.lemmas.List.Elements.{All-get_or, All-nil, All-weaker}
use Rattle.lf_floorplan.specs.declared.frame.Frame.{Frame}
use Rattle.lf_floor_model.specs.Teams.{team_number}
use Rattle.lf_repair_team.specs.CellEdits.{IsFlagged, IsLegalOrUnplaced, IsLegalOrWithoutPlace}
use Rattle.lf_repair_team.specs.TeamRepairs.{place_of_cell_in}
use Rattle.lf_repair_team.proofs.LastPass.{done_more, flagged_beside, none_affected, still_unplaced, then_legal}
use Rattle.lf_repair_team.proofs.OffSoft.{none_moves_onto_soft, then_off_soft}
use Rattle.lf_repair_team.proofs.ReachLemmas.{then_within}
use Rattle.lf_repair_team.proofs.Runs.{none_moves, nothing, then_cut, then_only, then_stay, then_written, unchanged}
use Rattle.lf_repair_team.proofs.last_pass.legalize_cells.Goals as goal

pub loop-own-init : goal.loop-own-init
loop-own-init g c = record {
  run = λ l. nothing l c.args.session.now.team.now c.args.floor.now (g.K.Sink.contents c.args.lines.now);
  only = unchanged c.args.session.now.team.now c.args.floor.now;
  legal = none_affected c.args.session.now.team.now c.args.floor.now;
  flagged = none_moves c.args.session.now.team.now c.args.session.now.impossible.now c.args.floor.now;
  committed = refl;
  all = All-weaker (λ own. place_of_cell_in c.args.floor.now c.args.session.now.team.now own ≡ None) (λ own. IsLegalOrUnplaced c.args.floor.now c.args.session.now.team.now own) (λ own none. inr none)
      c.args.cells.now c.requires.unplaced;
  done = All-nil (λ own. IsLegalOrWithoutPlace c.args.search.now.reach c.args.targets.now c.args.floor.now c.args.session.now.team.now own);
  off_soft = none_moves_onto_soft c.args.session.now.team.now c.args.floor.now;
  within = λ within. within;
}

pub returns-in-Err-clause-err : goal.returns-in-Err-clause-err
returns-in-Err-clause-err g c = λ l.
    then_cut l c.args.session.now.team.now c.args.floor.now c.loop-own.floor c.legalize_cell.new.floor (g.K.Sink.contents c.args.lines.now) (g.K.Sink.contents c.loop-own.lines)
    (g.K.Sink.contents c.legalize_cell.new.lines) (c.loop-own.invariant.run l) (c.in-Err.ensures.err l)

pub returns-in-Err-clause-only : goal.returns-in-Err-clause-only
returns-in-Err-clause-only g c = then_only c.args.session.now.team.now c.args.floor.now c.loop-own.floor c.legalize_cell.new.floor c.loop-own.invariant.only c.in-Err.ensures.only

pub returns-in-Err-clause-legal : goal.returns-in-Err-clause-legal
returns-in-Err-clause-legal g c =
    then_legal c.args.session.now.team.now c.args.floor.now c.loop-own.floor c.legalize_cell.new.floor c.loop-own.invariant.legal c.in-Err.ensures.legal

pub returns-in-Err-clause-flagged : goal.returns-in-Err-clause-flagged
returns-in-Err-clause-flagged g c =
    then_stay c.args.session.now.team.now c.args.session.now.impossible.now c.args.floor.now c.loop-own.floor c.legalize_cell.new.floor c.loop-own.invariant.flagged
    (flagged_beside c.args.session.now.team.now c.args.session.now.impossible.now c.loop-own.floor c.legalize_cell.new.floor (get_or c.args.cells.now c.loop-own.own-index 0)
    (All-get_or (λ own. IsFlagged c.args.session.now.impossible.now own → ⊥) c.args.cells.now c.loop-own.own-index 0 c.loop-own-test.true c.requires.free) c.in-Err.ensures.others)

pub returns-in-Err-clause-committed : goal.returns-in-Err-clause-committed
returns-in-Err-clause-committed g c = c.in-Err.ensures.committed ∙ c.loop-own.invariant.committed

pub loop-own-preserved : goal.loop-own-preserved
loop-own-preserved g c = record {
  run = λ l. then_written l c.args.session.now.team.now c.args.floor.now c.loop-own.floor c.legalize_cell.new.floor (g.K.Sink.contents c.args.lines.now)
      (g.K.Sink.contents c.loop-own.lines) (g.K.Sink.contents c.legalize_cell.new.lines) (c.loop-own.invariant.run l) (c.in-Ok.ensures.run l);
  only = then_only c.args.session.now.team.now c.args.floor.now c.loop-own.floor c.legalize_cell.new.floor c.loop-own.invariant.only c.in-Ok.ensures.only;
  legal =
      then_legal c.args.session.now.team.now c.args.floor.now c.loop-own.floor c.legalize_cell.new.floor c.loop-own.invariant.legal c.in-Ok.ensures.legal;
  flagged = then_stay c.args.session.now.team.now c.args.session.now.impossible.now c.args.floor.now c.loop-own.floor c.legalize_cell.new.floor c.loop-own.invariant.flagged
      (flagged_beside c.args.session.now.team.now c.args.session.now.impossible.now c.loop-own.floor c.legalize_cell.new.floor (get_or c.args.cells.now c.loop-own.own-index 0)
      (All-get_or (λ own. IsFlagged c.args.session.now.impossible.now own → ⊥) c.args.cells.now c.loop-own.own-index 0 c.loop-own-test.true c.requires.free) c.in-Ok.ensures.others);
  committed = c.in-Ok.ensures.committed ∙ c.loop-own.invariant.committed;
  all = still_unplaced c.args.search.now.reach c.args.targets.now c.args.session.now.team.now c.loop-own.floor c.legalize_cell.new.floor c.args.cells.now (get_or c.args.cells.now c.loop-own.own-index 0)
      (record {
        legal = c.in-Ok.ensures.legal;
        places = c.in-Ok.ensures.others;
        without = c.in-Ok.ensures.without (All-get_or (λ own. IsLegalOrUnplaced c.loop-own.floor c.args.session.now.team.now own) c.args.cells.now c.loop-own.own-index 0 c.loop-own-test.true
            c.loop-own.invariant.all);
        done = c.in-Ok.ensures.done (All-get_or (λ own. IsLegalOrUnplaced c.loop-own.floor c.args.session.now.team.now own) c.args.cells.now c.loop-own.own-index 0 c.loop-own-test.true
            c.loop-own.invariant.all);
      }) c.loop-own.invariant.all;
  done = done_more c.args.search.now.reach c.args.targets.now c.args.session.now.team.now c.loop-own.floor c.legalize_cell.new.floor c.args.cells.now c.loop-own.own-index 0 c.loop-own-test.true
      (record {
        legal = c.in-Ok.ensures.legal;
        places = c.in-Ok.ensures.others;
        without = c.in-Ok.ensures.without (All-get_or (λ own. IsLegalOrUnplaced c.loop-own.floor c.args.session.now.team.now own) c.args.cells.now c.loop-own.own-index 0 c.loop-own-test.true
            c.loop-own.invariant.all);
        done = c.in-Ok.ensures.done (All-get_or (λ own. IsLegalOrUnplaced c.loop-own.floor c.args.session.now.team.now own) c.args.cells.now c.loop-own.own-index 0 c.loop-own-test.true
            c.loop-own.invariant.all);
      }) c.loop-own.invariant.done;
  off_soft = then_off_soft c.args.session.now.team.now c.loop-own.floor c.legalize_cell.new.floor c.in-Ok.ensures.only c.args.floor.now c.loop-own.invariant.off_soft c.in-Ok.ensures.off_soft;
  within = then_within c.args.search.now.reach c.args.targets.now c.args.session.now.team.now c.args.floor.now c.loop-own.floor c.legalize_cell.new.floor c.loop-own.invariant.within
      c.in-Ok.ensures.within;
}

pub legalize_cell-requires : goal.legalize_cell-requires
legalize_cell-requires g c = ap (λ (f : Frame). team_number f c.args.session.now.team.now) c.loop-own.invariant.only.frame ∙ c.requires.number

pub returns-clause-done : goal.returns-clause-done
returns-clause-done g c =
    subst (λ (xs : List ℕ). All (λ own. IsLegalOrWithoutPlace c.args.search.now.reach c.args.targets.now c.loop-own.floor c.args.session.now.team.now own) xs)
    (take_all c.loop-own.own-index c.args.cells.now (omega (arith, c.loop-own-test.false))) c.loop-own.invariant.done
