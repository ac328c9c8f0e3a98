use Rattle.std.proofs.lemmas.List.{length-map}
use Rattle.lf_segments.specs.declared.segment.Segment.{Segment}
use Rattle.lf_segments.specs.RowStarts.{rows_of}
use Rattle.lf_segments.proofs.StartLemmas.{range_is_run}
use Rattle.lf_segments.proofs.segment_runs.run_of_row.Goals as goal

pub returns : goal.returns
returns c =
    let xs = c.args.segments.now in
    range_is_run xs c.args.row c.of_row-range.result.start c.of_row-range.result.end
    (c.of_row-range.ensures (rows_of xs) c.requires (length-map xs (λ (g : Segment). g.row)))
