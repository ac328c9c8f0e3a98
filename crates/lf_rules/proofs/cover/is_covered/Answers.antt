use Rattle.std.proofs.Common.{◌≡◌, ℕ, ℤ, ◌<◌, ◌⊎◌, inl, inr, arith, refl, sym, ap, ◌∙◌, get_or}
use Rattle.std.proofs.lemmas.List.{get_or_default}
use Rattle.lf_units.specs.declared.geometry.Rect.{Rect}
use Rattle.lf_units.specs.Area.{Covers, CoveredBy}
use Rattle.lf_rules.proofs.CoverLemmas.{box_covered}
use Rattle.lf_rules.proofs.cover.is_covered.Goals as goal

pub loop-edge-preserved : goal.loop-edge-preserved
loop-edge-preserved c k d below y inside =
    let cases : (k < c.loop-edge.edge-index) ⊎ (k ≡ c.loop-edge.edge-index) = grind arith in
    elim cases [
      | inl less ↦ c.loop-edge.invariant k d less y inside
      | inr is ↦
          let settled : (v : ℤ) → Covers c.args.rect.now c.foot_of.result.x v → CoveredBy c.args.rects.now c.foot_of.result.x v = c.if-not-is_column_covered-2.ensures.0 refl in
          let x_is : c.foot_of.result.x ≡ (get_or c.args.rects.now k d).x2 =
          ap (λ p. p.x) c.foot_of.ensures ∙ ap (λ (r : Rect). r.x2) (get_or_default c.args.rects.now c.loop-edge.edge-index _ d c.loop-edge-test.true) ∙ ap (λ (n : ℕ). (get_or c.args.rects.now n d).x2) (sym is) in
          rw (← x_is) (settled y (rw x_is inside))
    ]

pub returns : goal.returns
returns c = (
  λ t. box_covered c.args.rect.now c.args.rects.now c.corner_of.result.x (ap (λ p. p.x) c.corner_of.ensures)
      (c.if-not-is_column_covered.ensures.0 refl)
      (λ k d within. c.loop-edge.invariant k d (omega arith)),
  λ u. refl,
)
