use Rattle.std.proofs.Common.{◌≡◌, [], get_or, ap, sym, refl, ◌∙◌, arith}
use Rattle.std.proofs.lemmas.Int.{ints}
use Rattle.lf_units.specs.declared.span.Span.{Span}
use Rattle.lf_units.specs.Spans.{IsFilled}
use Rattle.lf_occupancy.specs.declared.strip_marks.Entry.{Entry}
use Rattle.lf_occupancy.specs.MarkLists.{marked_entries, wider_range, x_range}
use Rattle.lf_occupancy.proofs.Gaps.{gap_bounded, search_begins, search_ends, search_goes_on, search_skips}
use Rattle.lf_occupancy.proofs.Laning.{entries_many, entry_there}
use Rattle.lf_occupancy.proofs.Padded.{no_entry, range_there, same_entry}
use Rattle.lf_occupancy.proofs.nearest_gap.nearest_beside.Goals as goal

pub loop-mark-init : goal.loop-mark-init
loop-mark-init c = search_begins c.args.range.now _ c.args.wanted.now

pub range_at-reach-requires : goal.range_at-reach-requires
range_at-reach-requires c = c.requires.reported c.loop-mark.mark-index _ (omega arith)

pub padded_range-span-requires-clause-low : goal.padded_range-span-requires-clause-low
padded_range-span-requires-clause-low c =
    let cells = get_or c.args.strip.now.boxes.now c.args.strip.now.team [] in
    let area = c.args.strip.now.area in
    let ms = c.args.marks.now in
    let i = c.loop-mark.mark-index in
    let many = entries_many cells area ms in
    let is = range_there cells area ms i _ c.range_at-reach.result (omega arith) c.range_at-reach.ensures in
    let at = ap (λ (z : Span). z.lo) is in
    let room = (c.requires.around i no_entry (omega (arith, many))).low in
    omega (arith, ints, at, room)

pub padded_range-span-requires-clause-high : goal.padded_range-span-requires-clause-high
padded_range-span-requires-clause-high c =
    let cells = get_or c.args.strip.now.boxes.now c.args.strip.now.team [] in
    let area = c.args.strip.now.area in
    let ms = c.args.marks.now in
    let i = c.loop-mark.mark-index in
    let many = entries_many cells area ms in
    let is = range_there cells area ms i _ c.range_at-reach.result (omega arith) c.range_at-reach.ensures in
    let at = ap (λ (z : Span). z.hi) is in
    let room = (c.requires.around i no_entry (omega (arith, many))).high in
    omega (arith, ints, at, room)

pub nearer_in_gap-best-requires : goal.nearer_in_gap-best-requires
nearer_in_gap-best-requires c filled =
    gap_bounded c.args.range.now c.loop-mark.rest c.part_before.result _ c.loop-mark.invariant.spans _ c.requires.left c.requires.right
    c.loop-mark.invariant.is c.part_before.ensures.same c.part_before.ensures.within filled

pub loop-mark-preserved-then-mark-own : goal.loop-mark-preserved-then-mark-own
loop-mark-preserved-then-mark-own c =
    let cells = get_or c.args.strip.now.boxes.now c.args.strip.now.team [] in
    let area = c.args.strip.now.area in
    let ms = c.args.marks.now in
    let es = marked_entries cells area ms in
    let i = c.loop-mark.mark-index in
    let many = entries_many cells area ms in
    let e : Entry = get_or es i no_entry in
    let own = ap (λ (z : Entry). z.own) (entry_there cells area ms i no_entry _ (omega arith)) in
    search_skips c.args.padding.now.length es i e c.args.own c.args.range.now c.loop-mark.rest c.args.wanted.now c.loop-mark.best (omega (arith, many))
    (same_entry es i (omega (arith, many))) (own ∙ c.if-mark-own.true) c.loop-mark.invariant

pub loop-mark-preserved : goal.loop-mark-preserved
loop-mark-preserved c =
    let cells = get_or c.args.strip.now.boxes.now c.args.strip.now.team [] in
    let area = c.args.strip.now.area in
    let ms = c.args.marks.now in
    let es = marked_entries cells area ms in
    let i = c.loop-mark.mark-index in
    let many = entries_many cells area ms in
    let by = c.args.padding.now.length in
    let e : Entry = get_or es i no_entry in
    let at : e ≡ get_or es i e = same_entry es i (omega (arith, many)) in
    let is = range_there cells area ms i _ c.range_at-reach.result (omega arith) c.range_at-reach.ensures in
    let span : c.padded_range-span.result ≡ wider_range by (x_range e.area) = c.padded_range-span.ensures ∙ ap (wider_range by) is in
    let lo = ap (λ (z : Span). z.lo) span in
    let hi = ap (λ (z : Span). z.hi) span in
    let wide = (c.requires.whole i no_entry (omega (arith, many))).wide in
    let least = c.args.padding.now.short.least in
    let filled : IsFilled c.padded_range-span.result = omega (arith, ints, lo, hi, wide, least) in
    let own = ap (λ (z : Entry). z.own) (entry_there cells area ms i no_entry _ (omega arith)) in
    search_goes_on by es i e c.args.own c.args.range.now c.loop-mark.rest c.part_after-rest.result c.part_before.result c.padded_range-span.result
    c.args.wanted.now c.loop-mark.best c.nearer_in_gap-best.result (omega (arith, many)) at (λ same. c.if-mark-own.false (sym own ∙ same)) span filled
    c.requires.order c.part_before.ensures c.part_after-rest.ensures c.nearer_in_gap-best.ensures c.loop-mark.invariant

pub nearer_in_gap-requires : goal.nearer_in_gap-requires
nearer_in_gap-requires c filled =
    gap_bounded c.args.range.now c.loop-mark.rest c.loop-mark.rest _ c.loop-mark.invariant.spans _ c.requires.left c.requires.right
    c.loop-mark.invariant.is refl (omega (arith, ints)) filled

pub returns : goal.returns
returns c =
    let cells = get_or c.args.strip.now.boxes.now c.args.strip.now.team [] in
    let es = marked_entries cells c.args.strip.now.area c.args.marks.now in
    let many = entries_many cells c.args.strip.now.area c.args.marks.now in
    search_ends c.args.padding.now.length es c.loop-mark.mark-index c.args.own c.args.range.now c.loop-mark.rest c.args.wanted.now c.loop-mark.best
    c.nearer_in_gap.result (omega (arith, many)) c.nearer_in_gap.ensures c.loop-mark.invariant
