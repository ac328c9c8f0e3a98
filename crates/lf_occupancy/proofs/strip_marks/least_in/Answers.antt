use Rattle.std.proofs.Common.{List, [], get_or, subst, arith}
use Rattle.std.specs.Prelude.{Any}
use Rattle.std.proofs.lemmas.List.{get_or_default, take_all}
use Rattle.lf_occupancy.specs.declared.strip_marks.Mark.{Mark}
use Rattle.lf_occupancy.specs.MarkLists.{IsLeast, OverlapsEntry, marked_entry}
use Rattle.lf_occupancy.proofs.Leasts.{least_alike, least_more, least_of_none}
use Rattle.lf_occupancy.proofs.Lists.{any_made, any_unmade}
use Rattle.lf_units.proofs.Anys.{any_nil}
use Rattle.lf_occupancy.proofs.strip_marks.least_in.Goals as goal

pub lesser-least-requires : goal.lesser-least-requires
lesser-least-requires c = c.requires c.loop-mark.mark-index _ (omega arith)

pub loop-mark-init : goal.loop-mark-init
loop-mark-init c = least_of_none _ c.args.so_far (λ own m. any_nil _ m)

pub loop-mark-preserved : goal.loop-mark-preserved
loop-mark-preserved c =
    let cells = get_or c.args.strip.now.boxes.now c.args.strip.now.team [] in
    least_more (λ own m. OverlapsEntry c.args.rect.now c.args.but own (marked_entry cells c.args.strip.now.area m)) c.args.marks.now c.loop-mark.mark-index _ c.args.so_far
    c.loop-mark.least c.lesser-least.result (omega arith) (get_or_default c.args.marks.now c.loop-mark.mark-index _ _ (omega arith)) c.loop-mark.invariant
    c.lesser-least.ensures

pub returns : goal.returns
returns c =
    let cells = get_or c.args.strip.now.boxes.now c.args.strip.now.team [] in
    let area = c.args.strip.now.area in
    let rect = c.args.rect.now in
    let but = c.args.but in
    let ms = c.args.marks.now in
    let all = subst (λ (xs : List Mark). IsLeast (λ own. Any (λ m. OverlapsEntry rect but own (marked_entry cells area m)) xs) c.args.so_far c.loop-mark.least)
    (take_all c.loop-mark.mark-index ms (omega arith)) c.loop-mark.invariant in
    least_alike _ _ c.args.so_far c.loop-mark.least (λ own m. any_made (OverlapsEntry rect but own) (marked_entry cells area) ms m)
    (λ own m. any_unmade (OverlapsEntry rect but own) (marked_entry cells area) ms m) all
