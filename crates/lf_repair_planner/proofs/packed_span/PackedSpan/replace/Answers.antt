use Rattle.std.proofs.Common.{◌≡◌, ◌<◌, length, refl, sym, ap, ◌∙◌, subst}
use Rattle.std.specs.List.{slice_index_or}
use Rattle.lf_repair_planner.specs.Packing.{IsPacked, Packing, at_place_of, total_width}
use Rattle.lf_repair_planner.proofs.Packed.{packed_replaced, width_replaced}
use Rattle.lf_repair_planner.proofs.packed_span.PackedSpan.replace.Goals as goal

pub invariant_of-self : goal.invariant_of-self
invariant_of-self c =
    let s = c.self.inside in
    let i = c.self.invariant in
    let y = at_place_of (slice_index_or s.cells.items c.args.own c.args.cell) c.args.cell in
    let items = c.replace_cell.ensures in
    let own = subst (λ (p : Packing). c.args.own < length p.cells) (sym c.self.view_is) c.requires.own in
    let wide = sym (subst (λ (p : Packing). (slice_index_or p.cells c.args.own c.args.cell).width ≡ c.args.cell.width) (sym c.self.view_is) c.requires.width) in
    record {
      packed = subst (λ zs. IsPacked s.room zs) (sym items) (packed_replaced 0 s.room c.args.own s.cells.items y c.args.cell own refl wide i.packed);
      counted = i.counted ∙ sym (ap total_width items ∙ width_replaced c.args.own s.cells.items y c.args.cell own wide);
      short = i.short;
    }
