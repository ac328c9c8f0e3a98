use Rattle.std.proofs.Common.{◌≡◌, ◌<◌, ◌+◌, ◌-◌, ℕ, length, take, ap, ◌∙◌, arith}
use Rattle.lf_cells.specs.Cells.{cells_of}
use Rattle.lf_placement.specs.Steps.{moves_reverted}
use Rattle.lf_placement.proofs.Moves.{cells_through, one_less}
use Rattle.lf_placement.proofs.table_sync.revert_in_table.Goals as goal

pub loop-at-preserved : goal.loop-at-preserved
loop-at-preserved c =
    let moves = c.as_slice-moves.result.now in
    let team = c.args.team in
    let n = c.loop-at.at - 1 in
    let more : n + 1 ≡ c.loop-at.at = omega (arith, c.loop-at-test.true) in
    let within : n < length moves = omega (arith, c.loop-at.auto.at, c.loop-at-test.true) in
    record {
      left = rw (c.put_at.ensures.own, c.place.ensures)
          (one_less (cells_of c.loop-at.cells team) moves n c.index-moves-at.result within c.index-moves-at.is
          ∙ ap (λ (k : ℕ). moves_reverted (take k moves) (cells_of c.loop-at.cells team)) more
          ∙ c.loop-at.invariant.left);
      others = cells_through team c.args.cells.now c.loop-at.cells c.put_at.new.cells c.loop-at.invariant.others c.put_at.ensures.others;
    }
