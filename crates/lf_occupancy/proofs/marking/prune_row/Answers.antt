use Rattle.std.proofs.Common.{◌≡◌, ◌<◌, ℤ, arith, ap, get_or, length, of_z, subst, sym, to_z, w64, ◌∙◌}
use Rattle.std.specs.Int.{int_max}
use Rattle.std.proofs.lemmas.Int.{ints, clamps}
use Rattle.lf_units.specs.declared.geometry.Rect.{Rect}
use Rattle.lf_occupancy.specs.MarkLists.{HasAtMostOne, IsUnmarked}
use Rattle.lf_occupancy.proofs.Finds.{no_strip}
use Rattle.lf_occupancy.proofs.Changes.{none_changed, changed_further, between_is_reached}
use Rattle.lf_occupancy.specs.Widened.{all_widened}
use Rattle.lf_occupancy.proofs.marking.prune_row.Goals as goal

pub loop-n-init : goal.loop-n-init
loop-n-init c = none_changed _ _ _ (λ n b. let f = b.from in let h = b.below in omega (arith, f, h))

pub unmark-requires : goal.unmark-requires
unmark-requires c =
    let xs = all_widened c.args.strips.now in
    let rect = c.args.rect.now in
    let own = c.args.id.now.own in
    let n = c.loop-n.n in
    let mark_list = c.index_mut.result.now in
    let near = c.widened_strips-near.ensures in
    let bound = near.within in
    let test = c.loop-n-test.true in
    let many = c.requires.many in
    let within : n < length xs = omega (arith, bound, test) in
    let one = c.requires.one n no_strip mark_list (within, λ d. (near.exact n d within).0 (c.loop-n.auto.n, test)) in
    let same : get_or c.loop-n.mark_lists.items n mark_list ≡ get_or c.args.mark_lists.now.items n mark_list =
    c.loop-n.invariant.others n mark_list (omega (arith, within, many)) (λ b. let h = b.below in omega (arith, h)) in
    let here = subst (HasAtMostOne own (int_max (get_or xs n no_strip).area.x1 rect.x1)) (sym same ∙ sym c.index_mut.ensures.value) one in
    let at = ap (λ (r : Rect). r.x1) (c.widened_area.ensures.is no_strip) in
    let is = c.max.ensures.value in
    let left : to_z w64 (of_z w64 c.max.result) ≡ int_max (get_or xs n no_strip).area.x1 rect.x1 = omega (arith, ints, clamps, is, at) in
    subst (λ (x : ℤ). HasAtMostOne own x mark_list) (sym left) here

pub loop-n-preserved : goal.loop-n-preserved
loop-n-preserved c =
    let bound = c.widened_strips-near.ensures.within in
    let test = c.loop-n-test.true in
    let many = c.requires.many in
    let same = c.loop-n.invariant.many in
    changed_further (λ n. IsUnmarked c.args.id.now.own) c.widened_strips-near.result.start c.loop-n.n c.widened_strips-near.result.end c.args.mark_lists.now.items
    c.loop-n.mark_lists.items c.index_mut.result.now c.unmark.new.mark_list c.loop-n.auto.n test (omega (arith, bound, test, many, same)) c.index_mut.ensures.value
    c.unmark.ensures c.loop-n.invariant

pub returns : goal.returns
returns c =
    let xs = all_widened c.args.strips.now in
    let row = c.args.row in
    let team = c.args.id.now.team in
    let rect = c.args.rect.now in
    let start = c.widened_strips-near.result.start in
    let end = c.widened_strips-near.result.end in
    let near = c.widened_strips-near.ensures in
    between_is_reached xs row team start c.loop-n.n end rect
    (λ n. IsUnmarked c.args.id.now.own) c.args.mark_lists.now.items c.loop-n.mark_lists.items near c.loop-n-test.false
    c.loop-n.invariant
