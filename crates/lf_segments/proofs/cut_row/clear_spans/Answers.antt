use Rattle.std.proofs.Common.{ℕ, map, subst}
use Rattle.std.proofs.lemmas.Result.{IfOk-weaker}
use Rattle.lf_units.specs.declared.geometry.Rect.{Rect}
use Rattle.lf_units.specs.Spans.{IsFree}
use Rattle.lf_segments.specs.Boxes.{x_extent, AreClear, IsNextGroup}
use Rattle.lf_segments.proofs.GroupLemmas.{clear_spans_of}
use Rattle.lf_segments.proofs.cut_row.clear_spans.Goals as goal

pub returns : goal.returns
returns g c =
    let group = c.next_group-obstacles.result.now in
    IfOk-weaker c.free_beside.result (λ free. IsFree (x_extent c.area.result) (map (λ p. x_extent p.rect) group) free.items)
    (λ free. AreClear c.args.frame.now g.obstacles c.args.row.now free.items)
    (λ free f.
    clear_spans_of c.args.frame.now g.obstacles c.args.row.now c.args.near.now group free.items c.requires.boxes
    (subst (λ (n : ℕ). IsNextGroup c.args.near.now n group) c.ground_number.ensures c.next_group-obstacles.ensures)
    (subst (λ (a : Rect). IsFree (x_extent a) (map (λ p. x_extent p.rect) group) free.items) c.area.ensures f))
    c.free_beside.ensures
