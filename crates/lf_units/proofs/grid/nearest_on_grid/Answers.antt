use Rattle.std.proofs.Common.{◌≡◌, ℤ, Option, w64, to_z, of_z, FitsSigned, refl, subst, ◌∙◌}
use Rattle.std.proofs.lemmas.Int.{to_z-of_z}
use Rattle.lf_units.specs.declared.span.Span.{Span}
use Rattle.lf_units.specs.declared.grid.SiteGrid.{SiteGrid}
use Rattle.lf_units.specs.Grids.{FindsNearest, FitsSpan, grid_of}
use Rattle.lf_units.proofs.grid.nearest_on_grid.Goals as goal

found_at : (span : Span) (g h : SiteGrid) (v width t target : ℤ) (found : Option ℤ) → g ≡ h → v ≡ width → t ≡ target →
    FindsNearest (λ x. FitsSpan span g v x) t found → FindsNearest (λ x. FitsSpan span h width x) target found
found_at span g h v width t target found same_grid same_width same_target near =
    subst (λ (z : ℤ). FindsNearest (λ x. FitsSpan span h width x) z found) same_target
    (subst (λ (w : ℤ). FindsNearest (λ x. FitsSpan span h w x) t found) same_width
    (subst (λ (k : SiteGrid). FindsNearest (λ x. FitsSpan span k v x) t found) same_grid near))

grid_at : (origin step : ℤ) → FitsSigned w64 origin → FitsSigned w64 step →
    grid_of (to_z w64 (of_z w64 origin)) (to_z w64 (of_z w64 step)) ≡ grid_of origin step
grid_at origin step origin_fits step_fits = rw (to_z-of_z w64 origin origin_fits, to_z-of_z w64 step step_fits) refl

pub returns : goal.returns
returns c =
    let grid = c.grid_from.ensures ∙ grid_at c.args.origin c.args.step c.ranges.origin c.ranges.step in
    found_at c.args.span.now c.grid_from.result _ _ _ _ _ c.nearest_fit.result grid (to_z-of_z w64 c.args.width c.ranges.width)
    (to_z-of_z w64 c.args.target c.ranges.target) c.nearest_fit.ensures
