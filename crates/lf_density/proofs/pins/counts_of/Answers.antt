use Rattle.std.proofs.Common.{◌≡◌, List, arith, subst, take}
use Rattle.std.proofs.lemmas.List.{take_all}
use Rattle.lf_units.specs.declared.geometry.Point.{Point}
use Rattle.lf_density.proofs.PinLists.{ArePinCounts, counts_are}
use Rattle.lf_density.proofs.pins.counts_of.Goals as goal

pub returns-clause-is : goal.returns-clause-is
returns-clause-is c =
    let g = c.args.grid.now in
    let points = c.args.points.now in
    let all : take c.loop-point.point-index points ≡ points = take_all c.loop-point.point-index points (omega (arith, c.loop-point-test.false)) in
    counts_are g points c.loop-point.counts.items
    (subst (λ (ps : List Point). ArePinCounts g ps c.loop-point.counts.items) all c.loop-point.invariant)
