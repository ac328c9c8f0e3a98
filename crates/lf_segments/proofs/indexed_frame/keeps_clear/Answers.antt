use Rattle.std.proofs.Common.{List, subst, sym}
use Rattle.lf_segments.specs.declared.segment.Segment.{Segment}
use Rattle.lf_segments.specs.Segments.{IsCutBeside}
use Rattle.lf_segments.proofs.OnRowLemmas.{clear_of}
use Rattle.lf_segments.proofs.indexed_frame.keeps_clear.Goals as goal

pub returns : goal.returns
returns c =
    let f = c.args.frame.now in
    let cut = subst (λ (xs : List Segment). IsCutBeside f f.obstacles xs) (sym c.segments.ensures) c.requires.index.segments in
    clear_of f c.segments.result.now c.args.team c.args.rect.now c.lies_in.result c.lies_in_segments.ensures cut c.requires.box_on_rows.is_in_place c.requires.box_on_rows.wide
    c.requires.inside c.lies_in.ensures
