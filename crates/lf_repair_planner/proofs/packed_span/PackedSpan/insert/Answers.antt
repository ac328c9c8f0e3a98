use Rattle.std.proofs.Common.{◌+◌, ◌≤◌, sym, arith, subst}
use Rattle.std.proofs.lemmas.List.Sums.{sum_by-insert}
use Rattle.std.specs.List.{insert}
use Rattle.lf_repair_planner.specs.declared.packed_cell.PackedCell.{PackedCell}
use Rattle.lf_repair_planner.specs.Packing.{Packing, total_width}
use Rattle.lf_repair_planner.proofs.Shapes.{same_width}
use Rattle.lf_repair_planner.proofs.packed_span.PackedSpan.insert.Goals as goal

pub invariant_of-self-2 : goal.invariant_of-self-2
invariant_of-self-2 c =
    let s = c.self.inside in
    let counted = c.self.invariant.counted in
    let fits = subst (λ (p : Packing). total_width p.cells + c.args.cell.width ≤ p.room) (sym c.self.view_is) c.requires.fits in
    let e = c.in_ok-cost.ensures in
    let grown = same_width (insert s.cells.items c.args.gap c.args.cell) c.insert_cell.new.cells.items e.same in
    let one = sum_by-insert (λ (c : PackedCell). c.width) s.cells.items c.args.gap c.args.cell in
    record {
      packed = e.packed;
      counted = omega (arith, counted, grown, one);
      short = omega (arith, counted, fits);
    }
