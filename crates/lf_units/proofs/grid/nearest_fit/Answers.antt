use Rattle.std.proofs.Common.{ℤ, ◌+ℤ◌, FitsSigned, w64, to_z, of_z, arith, rules, subst}
use Rattle.std.proofs.lemmas.Int.{ints, to_z-of_z}
use Rattle.lf_units.specs.declared.span.Span.{Span}
use Rattle.lf_units.specs.declared.grid.SiteGrid.{SiteGrid}
use Rattle.lf_units.specs.GridSteps.{AreEnds, IsNearer}
use Rattle.lf_units.proofs.Grids.{none_fits, first_nearest, last_nearest, between_nearest, less_from, at_most_from}
use Rattle.lf_units.proofs.Comparisons.{not_less_of, not_most_of}
use Rattle.lf_units.proofs.grid.nearest_fit.Goals as goal

all_ends : (span : Span) (g : SiteGrid) (width first last : ℤ) → FitsSigned w64 width → AreEnds span g (to_z w64 (of_z w64 width)) first last →
    AreEnds span g width first last
all_ends span g width first last fits ends = subst (λ (w : ℤ). AreEnds span g w first last) (to_z-of_z w64 width fits) ends

picked : (left step target x : ℤ) → FitsSigned w64 left → FitsSigned w64 target →
    IsNearer (to_z w64 (of_z w64 left)) (to_z w64 (of_z w64 left) +ℤ step) (to_z w64 (of_z w64 target)) x → IsNearer left (left +ℤ step) target x
picked left step target x f g h =
    subst (λ (t : ℤ). IsNearer left (left +ℤ step) t x) (to_z-of_z w64 target g)
    (subst (λ (l : ℤ). IsNearer l (l +ℤ step) (to_z w64 (of_z w64 target)) x) (to_z-of_z w64 left f) h)

pub returns-then-last-first : goal.returns-then-last-first
returns-then-last-first c x fits =
    let first = c.ends_of-first.result.first in
    let last = c.ends_of-first.result.last in
    let target = c.args.target in
    let ends = all_ends c.args.span.now c.args.grid.now c.args.width first last c.ranges.width c.ends_of-first.ensures in
    let less = less_from (to_z w64 (of_z w64 last)) (to_z w64 (of_z w64 first)) c.if-last-first.true in
    none_fits c.args.span.now c.args.grid.now c.args.width first last x ends (omega (arith, ints, less)) fits

pub returns-then-target-first : goal.returns-then-target-first
returns-then-target-first c =
    let first = c.ends_of-first.result.first in
    let last = c.ends_of-first.result.last in
    let target = c.args.target in
    let ends = all_ends c.args.span.now c.args.grid.now c.args.width first last c.ranges.width c.ends_of-first.ensures in
    let some = not_less_of (to_z w64 (of_z w64 last)) (to_z w64 (of_z w64 first)) c.if-last-first.false in
    let before = at_most_from (to_z w64 (of_z w64 target)) (to_z w64 (of_z w64 first)) c.if-target-first.true in
    let first_fits : FitsSigned w64 c.ends_of-first.result.first = search rules in
    let last_fits : FitsSigned w64 c.ends_of-first.result.last = search rules in
    rw (to_z-of_z w64 c.ends_of-first.result.first first_fits)
    (first_nearest c.args.span.now c.args.grid.now c.args.width first last target ends (omega (arith, ints, some)) (omega (arith, ints, before)))

pub returns-then-last-target : goal.returns-then-last-target
returns-then-last-target c =
    let first = c.ends_of-first.result.first in
    let last = c.ends_of-first.result.last in
    let target = c.args.target in
    let ends = all_ends c.args.span.now c.args.grid.now c.args.width first last c.ranges.width c.ends_of-first.ensures in
    let some = not_less_of (to_z w64 (of_z w64 last)) (to_z w64 (of_z w64 first)) c.if-last-first.false in
    let after = at_most_from (to_z w64 (of_z w64 last)) (to_z w64 (of_z w64 target)) c.if-last-target.true in
    let first_fits : FitsSigned w64 c.ends_of-first.result.first = search rules in
    let last_fits : FitsSigned w64 c.ends_of-first.result.last = search rules in
    rw (to_z-of_z w64 c.ends_of-first.result.last last_fits)
    (last_nearest c.args.span.now c.args.grid.now c.args.width first last target ends (omega (arith, ints, some)) (omega (arith, ints, after)))

pub returns : goal.returns
returns c =
    let first = c.ends_of-first.result.first in
    let last = c.ends_of-first.result.last in
    let target = c.args.target in
    let ends = all_ends c.args.span.now c.args.grid.now c.args.width first last c.ranges.width c.ends_of-first.ensures in
    let after = not_most_of (to_z w64 (of_z w64 target)) (to_z w64 (of_z w64 first)) c.if-target-first.false in
    let before = not_most_of (to_z w64 (of_z w64 last)) (to_z w64 (of_z w64 target)) c.if-last-target.false in
    let left_fits : FitsSigned w64 c.last_to-left.result = search rules in
    let found_fits : FitsSigned w64 c.nearer.result = search rules in
    let left = c.last_to-left.result in
    let left_below = c.last_to-left.ensures.below in
    let left_near = c.last_to-left.ensures.near in
    let pick : IsNearer left (left +ℤ c.args.grid.now.step) target c.nearer.result =
    picked left c.args.grid.now.step target c.nearer.result left_fits c.ranges.target c.nearer.ensures in
    rw (to_z-of_z w64 c.nearer.result found_fits)
    (between_nearest c.args.span.now c.args.grid.now c.args.width first last target left c.nearer.result ends
    (omega (arith, ints, after)) (omega (arith, ints, before)) c.last_to-left.ensures.on_grid (omega (arith, ints, left_below))
    (omega (arith, ints, left_near)) pick)
