use Rattle.std.proofs.Common.{◌≡◌, ◌∙◌, ℤ, ap, arith}
use Rattle.std.proofs.lemmas.Int.{ints, clamps}
use Rattle.lf_units.specs.declared.span.Span.{Span}
use Rattle.lf_occupancy.proofs.strip_marks.range_at.Goals as goal

same_span : (a b c d : ℤ) → a ≡ c → b ≡ d → ◌≡◌ {A = Span} (record { lo = a; hi = b }) (record { lo = c; hi = d })
same_span a b c d p q =
    let span : ℤ → ℤ → Span = λ lo hi. record { lo = lo; hi = hi } in
    ap (λ (v : ℤ). span v b) p ∙ ap (λ (v : ℤ). span c v) q

pub overflow_add-result : goal.overflow_add-result
overflow_add-result c =
    let left = c.requires.left in
    let width = c.requires.width in
    let some = c.requires.some in
    let most = c.args.strip.now.near.high in
    omega (arith, ints, clamps, left, width, some, most)

pub returns : goal.returns
returns c =
    let from = c.from-lo.ensures in
    let left = c.requires.left in
    let width = c.requires.width in
    let some = c.requires.some in
    let most = c.args.strip.now.near.high in
    same_span _ _ _ _ (omega (arith, ints, from, left)) (omega (arith, ints, clamps, from, left, width, some, most))
