use Rattle.std.proofs.Common.{◌≡◌, ◌<◌, arith, get_or, length, sym, subst, ◌∙◌}
use Rattle.lf_units.specs.declared.geometry.Rect.{Rect}
use Rattle.lf_occupancy.specs.Strips.{PutsIn}
use Rattle.lf_occupancy.specs.MarkLists.{IsPutIn, TakesPart}
use Rattle.lf_occupancy.proofs.Finds.{no_strip}
use Rattle.lf_occupancy.proofs.Changes.{none_changed, changed_further}
use Rattle.lf_occupancy.proofs.Settling.{changed_in_run}
use Rattle.lf_occupancy.specs.Widened.{all_widened}
use Rattle.lf_occupancy.proofs.marking.put_in_run.Goals as goal

pub loop-n-init : goal.loop-n-init
loop-n-init c = none_changed _ _ _ (λ n b. let f = b.from in let h = b.below in omega (arith, f, h))

pub widened_area-requires : goal.widened_area-requires
widened_area-requires c =
    let bound = c.requires.within in
    let test = c.loop-n-test.true in
    omega (arith, bound, test)

pub put_in-requires : goal.put_in-requires
put_in-requires c =
    let xs = all_widened c.args.strips.now in
    let rect = c.args.cell.now.rect.now in
    let n = c.loop-n.n in
    let mark_list = c.index_mut.result.now in
    let bound = c.requires.within in
    let test = c.loop-n-test.true in
    let many = c.requires.many in
    let within : n < length xs = omega (arith, bound, test) in
    let takes = c.requires.room n no_strip mark_list (c.loop-n.auto.n, test) in
    let same : get_or c.loop-n.mark_lists.items n mark_list ≡ get_or c.args.mark_lists.now.items n mark_list =
    c.loop-n.invariant.others n mark_list (omega (arith, within, many)) (λ b. let h = b.below in omega (arith, h)) in
    let one = subst (TakesPart (get_or xs n no_strip).area rect) (sym same ∙ sym c.index_mut.ensures.value) takes in
    let part = subst (λ (a : Rect). TakesPart a rect mark_list) (sym (c.widened_area.ensures.is no_strip)) one in
    record { within = c.widened_area.ensures.near; takes = part }

pub loop-n-preserved : goal.loop-n-preserved
loop-n-preserved c =
    let xs = all_widened c.args.strips.now in
    let own = c.args.cell.now.id.now.own in
    let rect = c.args.cell.now.rect.now in
    let n = c.loop-n.n in
    let bound = c.requires.within in
    let test = c.loop-n-test.true in
    let many = c.requires.many in
    let same = c.loop-n.invariant.many in
    let inner : n < length xs = omega (arith, bound, test) in
    let put : PutsIn xs own rect n c.index_mut.result.now c.put_in.new.mark_list =
    λ d. subst (λ (a : Rect). IsPutIn own rect a c.index_mut.result.now c.put_in.new.mark_list) (c.widened_area.ensures.is d) c.put_in.ensures in
    changed_further (PutsIn xs own rect) c.args.near.now.start n c.args.near.now.end c.args.mark_lists.now.items c.loop-n.mark_lists.items c.index_mut.result.now
    c.put_in.new.mark_list c.loop-n.auto.n test (omega (arith, inner, many, same)) c.index_mut.ensures.value put c.loop-n.invariant

pub returns : goal.returns
returns c =
    changed_in_run c.args.near.now c.loop-n.n (PutsIn (all_widened c.args.strips.now) c.args.cell.now.id.now.own c.args.cell.now.rect.now)
    c.args.mark_lists.now.items c.loop-n.mark_lists.items c.loop-n-test.false c.loop-n.invariant
