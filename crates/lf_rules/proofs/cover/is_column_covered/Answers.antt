use Rattle.std.proofs.Common.{◌≡◌, ℕ, ◌<◌, ◌⊎◌, inl, inr, arith, refl, sym, ap, ◌∙◌, get_or}
use Rattle.std.proofs.lemmas.List.{get_or_default}
use Rattle.lf_units.specs.declared.geometry.Rect.{Rect}
use Rattle.lf_units.specs.Area.{Covers, CoveredBy}
use Rattle.lf_rules.proofs.CoverLemmas.{column_covered}
use Rattle.lf_rules.proofs.cover.is_column_covered.Goals as goal

pub loop-edge-preserved : goal.loop-edge-preserved
loop-edge-preserved c k d below inside =
    let cases : (k < c.loop-edge.edge-index) ⊎ (k ≡ c.loop-edge.edge-index) = grind arith in
    elim cases [
      | inl less ↦ c.loop-edge.invariant k d less inside
      | inr is ↦
          let settled : Covers c.args.rect.now c.level_with.result.x c.level_with.result.y → CoveredBy c.args.rects.now c.level_with.result.x c.level_with.result.y = c.if-not-is_settled-2.ensures.0 refl in
          let x_is : c.level_with.result.x ≡ c.args.foot.now.x = ap (λ p. p.x) c.level_with.ensures in
          let y_is : c.level_with.result.y ≡ (get_or c.args.rects.now k d).y2 =
          ap (λ p. p.y) c.level_with.ensures ∙ ap (λ (r : Rect). r.y2) (get_or_default c.args.rects.now c.loop-edge.edge-index _ d c.loop-edge-test.true) ∙ ap (λ (n : ℕ). (get_or c.args.rects.now n d).y2) (sym is) in
          rw (← y_is, ← x_is) (settled (rw (y_is, x_is) inside))
    ]

pub returns : goal.returns
returns c = (
  λ t. column_covered c.args.rect.now c.args.rects.now c.args.foot.now.x c.args.foot.now.y c.requires.lowest
      (c.if-not-is_settled.ensures.0 refl)
      (λ k d within. c.loop-edge.invariant k d (omega arith)),
  λ u. refl,
)
