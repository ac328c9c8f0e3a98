use Rattle.std.proofs.Common.{◌≡◌, ◌<◌, ◌^◌, ℕ, subst, rules}
use Rattle.lf_proto.specs.Numbers.{digits}
use Rattle.lf_state_text.specs.Words.{Begins}
use Rattle.lf_state_text.proofs.Fronts.{number-in_front, rest-number}
use Rattle.lf_state_text.proofs.read_numbers.front_u32.Goals as goal

pub returns-clause-read : goal.returns-clause-read
returns-clause-read c = λ later.
    let byte = c.args.byte in
    let bytes = c.args.bytes.now in
    let rest = c.in_ok-value.rest.now in
    let n = c.in_ok-number.number in
    let same : c.in_ok-value.value ≡ n = search rules in
    let small : c.in_ok-value.value < 2 ^ 32 = search rules in
    let front = subst (λ (v : ℕ). Begins digits byte bytes v rest) same (c.in_ok-value.ensures {u = tt}) in
    let few : n < 2 ^ 32 = subst (λ (v : ℕ). v < 2 ^ 32) same small in
    rw (rest-number byte n bytes rest front) (number-in_front byte n bytes rest later c.requires few front)
