use Rattle.std.proofs.Common.{[], List, subst, sym}
use Rattle.lf_segments.specs.declared.segment.Segment.{Segment}
use Rattle.lf_segments.specs.Segments.{IsCutBeside}
use Rattle.lf_segments.proofs.OnRowLemmas.{ground_of}
use Rattle.lf_segments.proofs.indexed_frame.keeps_ground.Goals as goal

pub returns : goal.returns
returns c =
    let f = c.args.frame.now in
    let cut = subst (λ (xs : List Segment). IsCutBeside f [] xs) (sym c.ground_segments.ensures) c.requires.index.land in
    ground_of f c.ground_segments.result.now c.args.team c.args.rect.now c.lies_in.result c.lies_in_segments.ensures cut c.requires.box_on_rows.is_in_place c.requires.box_on_rows.wide c.lies_in.ensures
