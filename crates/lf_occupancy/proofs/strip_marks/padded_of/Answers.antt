use Rattle.std.proofs.Common.{◌≡◌, [], get_or, ap, ◌∙◌, arith}
use Rattle.std.proofs.lemmas.Int.{ints}
use Rattle.lf_occupancy.specs.declared.strip_marks.Entry.{Entry}
use Rattle.lf_occupancy.specs.MarkLists.{marked_entries, wider_range}
use Rattle.lf_units.specs.declared.span.Span.{Span}
use Rattle.lf_occupancy.proofs.Laning.{entries_many}
use Rattle.lf_occupancy.proofs.Padded.{no_entry, range_there, same_entry, spans_further}
use Rattle.lf_occupancy.proofs.strip_marks.padded_of.Goals as goal

pub range_at-range-requires : goal.range_at-range-requires
range_at-range-requires c = c.requires.reported c.loop-mark.mark-index _ (omega arith)

pub padded_range-requires-clause-low : goal.padded_range-requires-clause-low
padded_range-requires-clause-low c =
    let cells = get_or c.args.strip.now.boxes.now c.args.strip.now.team [] in
    let area = c.args.strip.now.area in
    let ms = c.args.marks.now in
    let i = c.loop-mark.mark-index in
    let many = entries_many cells area ms in
    let is = range_there cells area ms i _ c.range_at-range.result (omega arith) c.range_at-range.ensures in
    let at = ap (λ (z : Span). z.lo) is in
    let room = (c.requires.around i no_entry (omega (arith, many))).low in
    omega (arith, ints, at, room)

pub padded_range-requires-clause-high : goal.padded_range-requires-clause-high
padded_range-requires-clause-high c =
    let cells = get_or c.args.strip.now.boxes.now c.args.strip.now.team [] in
    let area = c.args.strip.now.area in
    let ms = c.args.marks.now in
    let i = c.loop-mark.mark-index in
    let many = entries_many cells area ms in
    let is = range_there cells area ms i _ c.range_at-range.result (omega arith) c.range_at-range.ensures in
    let at = ap (λ (z : Span). z.hi) is in
    let room = (c.requires.around i no_entry (omega (arith, many))).high in
    omega (arith, ints, at, room)

pub loop-mark-preserved : goal.loop-mark-preserved
loop-mark-preserved c =
    let cells = get_or c.args.strip.now.boxes.now c.args.strip.now.team [] in
    let area = c.args.strip.now.area in
    let ms = c.args.marks.now in
    let es = marked_entries cells area ms in
    let i = c.loop-mark.mark-index in
    let many = entries_many cells area ms in
    let by = c.args.padding.now.length in
    let e : Entry = get_or es i no_entry in
    let at : e ≡ get_or es i e = same_entry es i (omega (arith, many)) in
    let is = range_there cells area ms i _ c.range_at-range.result (omega arith) c.range_at-range.ensures in
    spans_further by es i e c.padded_range.result c.loop-mark.list.items _ (omega (arith, many)) at c.loop-mark.invariant
    (c.padded_range.ensures ∙ ap (wider_range by) is) c.in_ok-push.ensures.items
