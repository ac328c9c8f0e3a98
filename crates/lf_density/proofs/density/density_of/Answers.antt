use Rattle.std.proofs.Common.{◌≡◌, ◌∙◌, List, Option, ap, map, sym, subst}
use Rattle.std.specs.Prelude.{MatchOption}
use Rattle.std.proofs.lemmas.Result.{IfOk-weaker}
use Rattle.lf_units.specs.declared.geometry.Rect.{Rect}
use Rattle.lf_segments.specs.declared.strip.Strip.{Strip}
use Rattle.lf_density.specs.declared.grid.BinGrid.{BinGrid}
use Rattle.lf_density.specs.Density.{IsDensityIn, no_density, usable_boxes}
use Rattle.lf_density.proofs.density.density_of.Goals as goal

pub returns : goal.returns
returns c =
    let f = c.args.frame.now in
    let segments = c.args.index.now.segments in
    let boxes = c.args.boxes.now in
    let usable : c.as_slice.result.now ≡ usable_boxes f segments =
    c.as_slice.ensures.value ∙ c.in_ok-usable.ensures ∙ ap (λ (strips : List Strip). map (λ (s : Strip). s.area) strips) (c.strips.ensures ∙ c.requires.strips) in
    IfOk-weaker c.density_in.result _ _
    (λ d is. (
      segments,
      c.requires.segments,
      subst (λ (o : Option BinGrid). MatchOption o (d ≡ no_density) (λ g. IsDensityIn g (usable_boxes f segments) boxes d)) (sym c.in-Some.is ∙ c.grid_of.ensures.is)
          (subst (λ (us : List Rect). IsDensityIn c.in-Some.grid us boxes d) usable is),
    ))
    c.density_in.ensures
