use Rattle.std.proofs.Common.{◌≡◌, ◌∷◌, ◌∙◌, ℕ, ap, arith, pos, neg_ℤ, ◌-ℤ◌, to_z, of_z, w32}
use Rattle.std.proofs.lemmas.Int.{ints}
use Rattle.lf_state_text.proofs.Fronts.{begins-negative}
use Rattle.lf_state_text.proofs.read_numbers.front_coordinate.Goals as goal

pub returns-in_ok-size_of-in-Some-eq45-default-clause-value : goal.returns-in_ok-size_of-in-Some-eq45-default-clause-value
returns-in_ok-size_of-in-Some-eq45-default-clause-value c =
    let digits = c.in-Some-eq45-default.digits.now in
    let size = c.in_ok-size_of-in-Some-eq45-default.field-0 in
    let n = c.in_ok-size-in-Some-eq45-default.size in
    let sized = c.in_ok-size_of-in-Some-eq45-default.ensures {u = tt} in
    let signed = c.in-Some-eq45-default.ensures.cases.0 ∙ ap (λ (b : ℕ). b ∷ digits) c.in-Some-eq45-default.field-0-0-test in
    let is : size ≡ pos n = sized.0 in
    let small = sized.1 in
    let negated : to_z w32 (of_z w32 (pos 0 -ℤ to_z w32 (of_z w32 size))) ≡ neg_ℤ (pos n) = omega (arith, ints) in
    begins-negative c.args.bytes.now digits c.in_ok-size-in-Some-eq45-default.rest.now _ n signed (c.in_ok-size-in-Some-eq45-default.ensures {u = tt}) sized.1 negated
