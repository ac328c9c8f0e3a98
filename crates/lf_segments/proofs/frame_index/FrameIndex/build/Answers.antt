use Rattle.std.proofs.Common.{◌≡◌, ◌∙◌, List, ap, map, sym, subst, arith, to_z, of_z, w64}
use Rattle.std.proofs.lemmas.Int.{ints}
use Rattle.lf_segments.specs.declared.segment.Segment.{Segment}
use Rattle.lf_segments.specs.declared.strip.Strip.{Strip}
use Rattle.lf_segments.specs.Soft.{AreSoftOver}
use Rattle.lf_segments.specs.Strips.{AreStrips, rows_in, strip_of}
use Rattle.lf_segments.proofs.SoftLemmas.{soft_of_segments}
use Rattle.lf_segments.proofs.StripLemmas.{laid_out, rows_alike, strips_wide}
use Rattle.lf_segments.proofs.frame_index.FrameIndex.build.Goals as goal

pub build-requires : goal.build-requires
build-requires c =
    let f = c.args.frame.now in
    let segments = c.in_ok-segments.field-0.segments in
    strips_wide f segments c.in_ok-strips.strips.items c.as_slice-2.result.now
    (c.in_ok-strips.ensures ∙ ap (λ (gs : List Segment). map (strip_of f) gs) c.as_slice.ensures) c.as_slice-2.ensures.value
    c.in_ok-segments.ensures.segments

pub invariant_of-result : goal.invariant_of-result
invariant_of-result c =
    let f = c.args.frame.now in
    let segments = c.in_ok-segments.field-0.segments in
    let is : c.in_ok-strips.strips.items ≡ map (strip_of f) segments = c.in_ok-strips.ensures ∙ ap (λ (gs : List Segment). map (strip_of f) gs) c.as_slice.ensures in
    let height = to_z w64 (of_z w64 f.pitch.y) in
    let up = f.pitch_whole.high in
    let small = f.pitch_whole.y_small in
    let same : height ≡ f.pitch.y = omega (arith, ints, up, small) in (
      subst (AreStrips c.in_ok-rows.rows height) (sym is) (laid_out f segments c.in_ok-rows.rows height same c.in_ok-segments.ensures.segments c.in_ok-rows.ensures),
      ap (λ (gs : List Strip). rows_in gs) is ∙ rows_alike f segments,
    )

pub returns : goal.returns
returns c =
    let f = c.args.frame.now in
    let segments = c.in_ok-segments.field-0.segments in
    let is : c.in_ok-strips.strips.items ≡ map (strip_of f) segments = c.in_ok-strips.ensures ∙ ap (λ (gs : List Segment). map (strip_of f) gs) c.as_slice.ensures in
    let up = f.pitch_whole.high in
    let small = f.pitch_whole.y_small in
    record {
      rows = c.in_ok-rows.ensures;
      segments = c.in_ok-segments.ensures.segments;
      land = c.in_ok-segments.ensures.land;
      strips = is;
      soft = soft_of_segments f segments c.in_ok-soft.soft
          (subst (λ (gs : List Strip). AreSoftOver f gs c.in_ok-soft.soft) (c.as_slice-2.ensures.value ∙ is) c.in_ok-soft.ensures);
      extent = c.extent_of.ensures;
      height = omega (arith, ints, up, small);
    }
