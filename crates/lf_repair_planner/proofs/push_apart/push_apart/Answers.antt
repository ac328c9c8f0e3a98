use Rattle.std.proofs.Common.{◌≡◌, ◌≤◌, ◌+◌, get_or, refl, ap, arith}
use Rattle.lf_repair_planner.specs.declared.packed_cell.PackedCell.{PackedCell}
use Rattle.lf_repair_planner.proofs.Looking.{settles_more}
use Rattle.lf_repair_planner.proofs.push_apart.push_apart.Goals as goal

pub loop-cell-preserved : goal.loop-cell-preserved
loop-cell-preserved c =
    let s = c.loop-cell.invariant in
    let none : PackedCell = record { number = 0; width = 0; wanted = 0; offset = 0; reach = 0; at = 0 } in
    let x : PackedCell = get_or c.loop-cell.cells c.loop-cell.cell-index none in
    let y : PackedCell = record { number = x.number; width = x.width; wanted = x.wanted; offset = x.offset; reach = x.reach; at = c.max-cell.result } in
    let fit = s.fit in
    let low = c.min.ensures in
    let high = c.max-cell.ensures in
    let stays : c.loop-cell.free ≤ x.at → x.at + c.loop-cell.rest ≤ c.args.end → c.max-cell.result ≡ x.at = λ a b. omega (arith, low, high, a, b) in
    let k = c.loop-cell in
    settles_more c.args.start c.args.end c.args.cells.now k.cells k.free k.rest k.cell-index x y none s (omega arith) refl refl refl
    (omega (arith, low, high)) (omega (arith, low, high, fit))
    (λ a b. ap (λ at. record { number = x.number; width = x.width; wanted = x.wanted; offset = x.offset; reach = x.reach; at = at }) (stays a b))
