use Rattle.std.proofs.Common.{◌≡◌, ℤ, ◌<◌, ◌≤◌, List, Some, length, get_or, slice_get, refl, ap, subst, arith, to_z, of_z, w64}
use Rattle.std.proofs.lemmas.Bool.Decides.{nat_tests}
use Rattle.std.proofs.lemmas.Int.{ints}
use Rattle.std.proofs.lemmas.Option.{slice_get_read}
use Rattle.lf_segments.specs.declared.segment.Segment.{Segment}
use Rattle.lf_segments.specs.Segments.{IsAt}
use Rattle.lf_segments.proofs.OnRowLemmas.{at_within, end_of_lies, lies_of_end}
use Rattle.lf_segments.proofs.row_lookup.lies_in_one.Goals as goal

pub returns-in-Some-get : goal.returns-in-Some-get
returns-in-Some-get c =
    let xs = c.args.segments.now in
    let ys = c.as_slice.result.now in
    let n = c.in-Some.number in
    let g = c.in-Some-get.segment.now in
    let test = c.in-Some-get.ensures.lookup.0 in
    let within : n < length ys = grind (arith, nat_tests, test) in
    let read : slice_get ys n ≡ Some g = slice_get_read ys (length ys) n g refl within c.in-Some-get.ensures.lookup.1 in
    let same : to_z w64 (of_z w64 c.args.rect.now.x1) ≡ c.args.rect.now.x1 = omega (arith, ints) in
    let at : (d : Segment) → IsAt c.args.row c.args.team c.args.rect.now.x1 (get_or xs n d) =
    λ d. subst (λ (x : ℤ). IsAt c.args.row c.args.team x (get_or xs n d)) same (c.in-Some.ensures d) in
    let is_in_place : slice_get xs n ≡ Some g = subst (λ (zs : List Segment). slice_get zs n ≡ Some g) c.as_slice.ensures read in (
      λ yes. lies_of_end xs c.args.row c.args.team n g c.args.rect.now at is_in_place (c.ends_in.ensures.0 yes),
      λ lies.
          c.ends_in.ensures.1
          (end_of_lies xs c.args.row c.args.team n g c.args.rect.now c.requires.order c.requires.wide at is_in_place lies),
    )

pub returns-in-None : goal.returns-in-None
returns-in-None c =
    let xs = c.args.segments.now in
    let ys = c.as_slice.result.now in
    let n = c.in-Some.number in
    let test = c.in-None.ensures.lookup.0 in
    let past : length ys ≤ n = grind (arith, nat_tests, test) in
    let same : length ys ≡ length xs = ap (λ (zs : List Segment). length zs) c.as_slice.ensures in
    let within : n < length xs = at_within xs c.args.row c.args.team n _ c.in-Some.ensures in
    absurd (omega (arith, past, same, within))
