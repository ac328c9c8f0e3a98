use Rattle.std.proofs.Common.{◌<◌, arith, length, subst}
use Rattle.lf_units.specs.declared.geometry.Rect.{Rect}
use Rattle.lf_occupancy.specs.StripCounting.{IsLess, IsLessAt}
use Rattle.lf_occupancy.proofs.Changes.{none_changed, changed_further}
use Rattle.lf_occupancy.proofs.Settling.{changed_in_run}
use Rattle.lf_occupancy.specs.Widened.{all_widened}
use Rattle.lf_occupancy.proofs.strip_counts.lower_run.Goals as goal

pub loop-n-init : goal.loop-n-init
loop-n-init c = none_changed _ _ _ (λ n b. let f = b.from in let h = b.below in omega (arith, f, h))

pub widened_area-requires : goal.widened_area-requires
widened_area-requires c =
    let bound = c.requires.within in
    let test = c.loop-n-test.true in
    omega (arith, bound, test)

pub loop-n-preserved : goal.loop-n-preserved
loop-n-preserved c =
    let xs = all_widened c.args.strips.now in
    let rect = c.args.rect.now in
    let n = c.loop-n.n in
    let bound = c.requires.within in
    let test = c.loop-n-test.true in
    let many = c.requires.many in
    let same = c.loop-n.invariant.many in
    let inner : n < length xs = omega (arith, bound, test) in
    let less : IsLessAt xs rect n c.index_mut.result.now c.count_less.new.count =
    λ d. subst (λ (a : Rect). IsLess a rect c.index_mut.result.now c.count_less.new.count) (c.widened_area.ensures.is d) c.count_less.ensures in
    changed_further (IsLessAt xs rect) c.args.near.now.start n c.args.near.now.end c.args.counts.now.items c.loop-n.counts.items c.index_mut.result.now
    c.count_less.new.count c.loop-n.auto.n test (omega (arith, inner, many, same)) c.index_mut.ensures.value less c.loop-n.invariant

pub returns : goal.returns
returns c =
    changed_in_run c.args.near.now c.loop-n.n (IsLessAt (all_widened c.args.strips.now) c.args.rect.now)
    c.args.counts.now.items c.loop-n.counts.items c.loop-n-test.false c.loop-n.invariant
