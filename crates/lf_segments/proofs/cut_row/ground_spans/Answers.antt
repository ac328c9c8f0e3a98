use Rattle.std.proofs.Common.{length, map, subst}
use Rattle.std.proofs.lemmas.Result.{IfOk-weaker}
use Rattle.lf_units.specs.declared.geometry.Rect.{Rect}
use Rattle.lf_units.specs.Spans.{IsFree}
use Rattle.lf_segments.specs.Boxes.{x_extent, AreOpen}
use Rattle.lf_segments.proofs.GroupLemmas.{ground_spans_of}
use Rattle.lf_segments.proofs.cut_row.ground_spans.Goals as goal

pub returns : goal.returns
returns g c =
    let near = c.args.near.now in
    IfOk-weaker c.free_beside.result (λ free. IsFree (x_extent c.area.result) (map (λ p. x_extent p.rect) near) free.items)
    (λ free. AreOpen c.args.frame.now g.obstacles c.args.row.now (length c.args.frame.now.teams) free.items)
    (λ free f.
    ground_spans_of c.args.frame.now g.obstacles c.args.row.now near free.items c.requires.boxes
    (subst (λ (a : Rect). IsFree (x_extent a) (map (λ p. x_extent p.rect) near) free.items) c.area.ensures f))
    c.free_beside.ensures
