use Rattle.std.proofs.Common.{◌∙◌, ap, ℤ, Ok, Result, w64, FitsSigned, arith}
use Rattle.std.proofs.lemmas.Int.{ints, to_z-of_z}
use Rattle.lf_units.specs.declared.number.NumberFault.{NumberFault}
use Rattle.lf_units.specs.Number.{with_sign}
use Rattle.lf_units.proofs.Plain.{plain_fixed}
use Rattle.lf_units.proofs.number.read_fixed.Goals as goal

pub returns : goal.returns
returns c =
    let body = c.split_sign-negative.result.1.now in
    let v = c.in-Some.magnitude in
    let plain = c.in-Some.ensures {u = tt} in
    let fits : FitsSigned w64 c.signed.result = omega (arith, ints, c.signed.type_inv) in
    let wrap : ℤ → Result ℤ NumberFault = λ z. Ok z in
    ap wrap (to_z-of_z w64 c.signed.result fits ∙ c.signed.ensures ∙ ap (λ b. with_sign b v) c.split_sign-negative.ensures.sign)
    ∙ plain_fixed c.args.text.now body c.args.max v c.args.decimals c.split_sign-negative.ensures.rest c.if-decimals-eq0.true plain.0 plain.1 plain.2 plain.3
