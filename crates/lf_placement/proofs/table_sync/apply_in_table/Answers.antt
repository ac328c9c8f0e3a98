use Rattle.std.proofs.Common.{◌≡◌, ◌<◌, List, ℕ, length, get_or, subst, ap, arith}
use Rattle.lf_cells.specs.Cells.{cells_of}
use Rattle.lf_undo.specs.declared.moves.Move.{Move}
use Rattle.lf_placement.proofs.Moves.{cells_through, making_next, owns_length}
use Rattle.lf_placement.proofs.table_sync.apply_in_table.Goals as goal

pub loop-at-preserved : goal.loop-at-preserved
loop-at-preserved c =
    let team = c.args.team in
    let next = c.index-as_slice-at.result in
    let count = owns_length c.loop-at.moves c.args.moves.now c.loop-at.invariant.making.owns in
    let given = ap {B = ℕ} (λ (ms : List Move). length ms) c.as_slice-at-end.ensures in
    let within : c.loop-at.at < length c.loop-at.moves = omega (arith, count, given, c.loop-at-test.true) in
    record {
      making =
          rw (c.put_at.ensures.own, c.place.ensures, c.replace.ensures)
          (making_next _ _ (cells_of c.loop-at.cells team) c.args.moves.now c.loop-at.moves c.args.from c.loop-at.at next c.place_at-was.result within
          (subst (λ (ms : List Move). next ≡ get_or ms c.loop-at.at next) c.as_slice.ensures c.index-as_slice-at.is) c.place_at-was.ensures
          c.loop-at.invariant.making);
      others = cells_through team c.args.cells.now c.loop-at.cells c.put_at.new.cells c.loop-at.invariant.others c.put_at.ensures.others;
    }
