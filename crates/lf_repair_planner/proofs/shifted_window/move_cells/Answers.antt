use Rattle.std.proofs.Common.{◌≡◌, ◌-◌, length, map, sym, ap, ◌∙◌, arith, subst}
use Rattle.std.proofs.lemmas.List.Edits.{length-between}
use Rattle.std.proofs.lemmas.Slice.{between-put_mid, drop-put_mid, take-put_mid_below}
use Rattle.std.specs.List.{between}
use Rattle.lf_repair_planner.specs.Packing.{IsPackedWithin, shape}
use Rattle.lf_repair_planner.proofs.Shapes.{same_length}
use Rattle.lf_repair_planner.proofs.shifted_window.move_cells.Goals as goal

pub returns : goal.returns
returns c =
    let w = c.args.window.now in
    let xs = c.args.cells.now in
    let ys = c.settle_around.new.cells in
    let s = c.settle_around.ensures in
    let own = c.requires.own in
    let after = c.requires.first in
    let last = c.requires.last in
    let long : length ys ≡ w.last - w.first = sym (same_length (between w.first w.last xs) ys s.same) ∙ length-between xs w.first w.last last in
    let is = between-put_mid w.first (w.last - w.first) xs ys w.last (omega (arith, own, after, last)) long in
    record {
      front = take-put_mid_below w.first (w.last - w.first) xs ys w.first (omega arith) (omega (arith, own, after, last));
      back = drop-put_mid w.first (w.last - w.first) xs ys w.last (omega (arith, own, after)) (omega (arith, own, after, last)) long;
      packed = subst (λ zs. IsPackedWithin w.start w.end zs) (sym is) s.packed;
      same = s.same ∙ ap (map shape) (sym is);
      kept = λ p. is ∙ s.kept p;
    }
