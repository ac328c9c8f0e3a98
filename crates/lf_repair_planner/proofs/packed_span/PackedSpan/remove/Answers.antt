use Rattle.std.proofs.Common.{◌<◌, length, sym, ap, arith, subst}
use Rattle.std.proofs.lemmas.List.Sums.{sum_by-remove}
use Rattle.lf_repair_planner.specs.declared.packed_cell.PackedCell.{PackedCell}
use Rattle.lf_repair_planner.specs.Packing.{IsPacked, Packing, total_width}
use Rattle.lf_repair_planner.proofs.Packed.{packed_without}
use Rattle.lf_repair_planner.proofs.packed_span.PackedSpan.remove.Goals as goal

pub invariant_of-self : goal.invariant_of-self
invariant_of-self c =
    let s = c.self.inside in
    let i = c.self.invariant in
    let counted = i.counted in
    let short = i.short in
    let items = c.remove-cell.ensures.items in
    let own = subst (λ (p : Packing). c.args.own < length p.cells) (sym c.self.view_is) c.requires in
    let rest = sum_by-remove (λ (c : PackedCell). c.width) s.cells.items c.args.own c.remove-cell.result own in
    let value = ap (λ (c : PackedCell). c.width) c.remove-cell.ensures.value in
    let width = ap total_width items in
    record {
      packed = subst (λ zs. IsPacked s.room zs) (sym items) (packed_without 0 s.room c.args.own s.cells.items i.packed);
      counted = omega (arith, counted, rest, value, width);
      short = omega (arith, short);
    }
