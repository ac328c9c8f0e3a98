use Rattle.std.proofs.Common.{◌≡◌, ◌∙◌, true, false, subst, sym}
use Rattle.lf_units.specs.declared.geometry.Rect.{Rect}
use Rattle.lf_floorplan.specs.RowSupport.{IsSitesHigh}
use Rattle.lf_repair_bounds.specs.ImpossibleMacros.{IsMacroHigh}
use Rattle.lf_repair_bounds.proofs.ReasonLemmas.{has_height, has_row, has_width, no_row, no_width}
use Rattle.lf_repair_bounds.proofs.reasons.reason_of.Goals as goal

true_false : true ≡ false → ⊥
true_false e = cc

pub returns-in_default : goal.returns-in_default
returns-in_default c = λ k high. c.in_default.ensures k (subst (λ (box : Rect). IsSitesHigh c.args.frame.now box k) (sym c.upright_box-rect.ensures.is) high)

pub returns-then-not-fits_a_row : goal.returns-then-not-fits_a_row
returns-then-not-fits_a_row c =
    let f = c.args.frame.now in
    let m = c.args.mac.now in
    let k = c.in-Some.height in
    let high : IsMacroHigh f m k = subst (λ (box : Rect). IsSitesHigh f box k) c.upright_box-rect.ensures.is c.in-Some.ensures in
    (has_height f m k high, no_row c.bottom_row_is_unique.ensures f m k high (λ any. true_false (sym (c.fits_a_row.ensures.1 any) ∙ c.if-not-fits_a_row.true)))

pub returns-then-not-fits_a_segment : goal.returns-then-not-fits_a_segment
returns-then-not-fits_a_segment c =
    let f = c.args.frame.now in
    let m = c.args.mac.now in
    let k = c.in-Some.height in
    let rect = c.upright_box-rect.result in
    let high : IsMacroHigh f m k = subst (λ (box : Rect). IsSitesHigh f box k) c.upright_box-rect.ensures.is c.in-Some.ensures in (
      has_height f m k high,
      has_row f m k high (c.fits_a_row.ensures.0 c.if-not-fits_a_row.false),
      no_width f c.args.index.now c.args.team m rect.x2 c.requires.index c.upright_box-rect.ensures.width c.upright_box-rect.ensures.wide
          (λ any. true_false (sym (c.fits_a_segment.ensures.1 any) ∙ c.if-not-fits_a_segment.true)),
    )

pub returns : goal.returns
returns c =
    let f = c.args.frame.now in
    let m = c.args.mac.now in
    let k = c.in-Some.height in
    let rect = c.upright_box-rect.result in
    let high : IsMacroHigh f m k = subst (λ (box : Rect). IsSitesHigh f box k) c.upright_box-rect.ensures.is c.in-Some.ensures in (
      has_height f m k high,
      has_row f m k high (c.fits_a_row.ensures.0 c.if-not-fits_a_row.false),
      has_width f c.args.index.now c.args.team m rect.x2 c.requires.index c.upright_box-rect.ensures.width c.upright_box-rect.ensures.wide
          (c.fits_a_segment.ensures.0 c.if-not-fits_a_segment.false),
    )
