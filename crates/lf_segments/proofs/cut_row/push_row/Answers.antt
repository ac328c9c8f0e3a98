use Rattle.std.proofs.Common.{◌++◌, ◌∙◌, List, ℕ, length, map, ap}
use Rattle.lf_units.specs.declared.span.Span.{Span}
use Rattle.lf_segments.specs.Boxes.{segment_of}
use Rattle.lf_segments.proofs.RowLemmas.{row_more}
use Rattle.lf_segments.proofs.cut_row.push_row.Goals as goal

pub returns : goal.returns
returns g c =
    let n = length c.args.frame.now.teams in
    row_more c.args.frame.now g.obstacles c.args.number c.args.row.now n c.args.segments.now.items c.push_fences.new.segments.items
    c.push_spans.new.segments.items c.in_ok-spans.spans.items
    c.in_ok-push_fences.ensures c.in_ok-spans.ensures
    (c.in_ok-push_spans.ensures ∙ ap (λ (xs : List Span). c.push_fences.new.segments.items ++ map (segment_of c.args.number c.len.result) xs)
    c.as_slice.ensures.value
    ∙ ap (λ (m : ℕ). c.push_fences.new.segments.items ++ map (segment_of c.args.number m) c.in_ok-spans.spans.items) c.len.ensures)
