use Rattle.std.proofs.Common.{◌≡◌, ◌+◌, ◌-◌, get_or, refl, sym, ap, ◌∙◌, arith, get_or-set_same, length-set}
use Rattle.lf_repair_planner.specs.declared.packed_cell.PackedCell.{PackedCell}
use Rattle.lf_repair_planner.proofs.Shapes.{same_moved, pushed_kept}
use Rattle.lf_repair_planner.proofs.push_apart.push_left.Goals as goal

pub loop-own-preserved : goal.loop-own-preserved
loop-own-preserved c =
    let s = c.loop-own.invariant in
    let i = c.loop-own.own - 1 in
    let none : PackedCell = record { number = 0; width = 0; wanted = 0; offset = 0; reach = 0; at = 0 } in
    let x : PackedCell = get_or c.loop-own.cells i none in
    let y : PackedCell = record { number = x.number; width = x.width; wanted = x.wanted; offset = x.offset; reach = x.reach; at = c.loop-own.end - x.width } in
    let within = s.within in
    let same_index : i + 1 ≡ c.loop-own.own = omega arith in
    record {
      within = let e = length-set c.loop-own.cells i y in omega (arith, e, within);
      same = same_moved c.args.cells.now c.loop-own.cells i y none s.same refl;
      at = λ d. sym (ap (λ (z : PackedCell). z.at) (get_or-set_same c.loop-own.cells i y d (omega arith)));
      kept = λ start end p. pushed_kept c.args.cells.now c.loop-own.cells i c.loop-own.end y none (omega arith)
          (s.at none ∙ ap (λ n. (get_or c.loop-own.cells n none).at) (sym same_index)) c.if-end-cell.false c.if-cell-end.false s.kept start end p;
    }
