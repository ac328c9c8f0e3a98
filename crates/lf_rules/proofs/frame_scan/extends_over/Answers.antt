use Rattle.std.proofs.Common.{◌≡◌, refl, ◌∙◌, arith, rules, FitsSigned, w64}
use Rattle.std.proofs.lemmas.Int.{ints}
use Rattle.lf_units.proofs.Same.{same_number}
use Rattle.lf_rules.proofs.frame_scan.extends_over.Goals as goal

pub returns : goal.returns
returns c =
    let given : FitsSigned w64 c.from.result = search rules in
    let at : FitsSigned w64 c.args.point.now.y = search rules in
    let here : c.args.row.now.y ≡ c.from.result = omega (arith, ints) in (
      λ t. record { at_level = here ∙ same_number _ _ given at c.if-from-point.false; left = omega (arith, ints); right = omega (arith, ints) },
      λ over. refl,
    )
