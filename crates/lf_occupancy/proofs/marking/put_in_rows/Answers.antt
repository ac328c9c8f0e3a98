use Rattle.std.proofs.Common.{◌≡◌, ◌<◌, ◌∙◌, List, arith, get_or, length, sym, subst}
use Rattle.std.proofs.lemmas.List.{get_or_default, take_all}
use Rattle.lf_units.proofs.Anys.{any_nil}
use Rattle.lf_segments.specs.declared.rows_by_y.RowEntry.{RowEntry}
use Rattle.lf_occupancy.specs.Strips.{IsReached, PutsIn}
use Rattle.lf_occupancy.specs.Strips.{AreChanged}
use Rattle.lf_occupancy.proofs.Changes.{none_changed, other_row, rows_further}
use Rattle.lf_occupancy.specs.MarkLists.{TakesPart}
use Rattle.lf_occupancy.specs.Widened.{all_widened}
use Rattle.lf_occupancy.proofs.marking.put_in_rows.Goals as goal

pub loop-entry-init : goal.loop-entry-init
loop-entry-init c = none_changed _ _ _ (λ n r. any_nil _ r.1)

pub put_in_row-requires : goal.put_in_row-requires
put_in_row-requires c = record {
  many = c.loop-entry.invariant.many ∙ c.requires.many;
  room = λ n d e reached.
      let xs = all_widened c.args.strips.now in
      let rows = c.args.rows.now.rows.now in
      let team = c.args.cell.now.id.now.team in
      let rect = c.args.cell.now.rect.now in
      let i = c.loop-entry.entry-index in
      let within : i < length rows = omega arith in
      let many = c.requires.many in
      let inner = reached.0 in
      let there : IsReached xs rows team rect n = (reached.0, (i, _, within, get_or_default rows i _ _ within, reached.1)) in
      let same : get_or c.loop-entry.mark_lists.items n e ≡ get_or c.args.mark_lists.now.items n e =
      c.loop-entry.invariant.others n e (omega (arith, inner, many))
      (λ before. other_row xs rows i _ team rect n c.args.rows.now.once within (get_or_default rows i _ _ within) before reached) in
      subst (TakesPart (get_or xs n d).area rect) (sym same) (c.requires.room n d e there);
}

pub loop-entry-preserved : goal.loop-entry-preserved
loop-entry-preserved c =
    rows_further (PutsIn (all_widened c.args.strips.now) c.args.cell.now.id.now.own c.args.cell.now.rect.now) (all_widened c.args.strips.now) c.args.rows.now.rows.now
    c.loop-entry.entry-index _ c.args.cell.now.id.now.team c.args.cell.now.rect.now
    c.args.mark_lists.now.items c.loop-entry.mark_lists.items c.put_in_row.new.mark_lists.items c.args.rows.now.once (omega arith)
    (get_or_default c.args.rows.now.rows.now c.loop-entry.entry-index _ _ (omega arith)) c.loop-entry.invariant c.put_in_row.ensures

pub returns : goal.returns
returns c =
    subst
    (λ (es : List RowEntry).
    AreChanged (IsReached (all_widened c.args.strips.now) es c.args.cell.now.id.now.team c.args.cell.now.rect.now)
    (PutsIn (all_widened c.args.strips.now) c.args.cell.now.id.now.own c.args.cell.now.rect.now)
    c.args.mark_lists.now.items c.loop-entry.mark_lists.items)
    (take_all c.loop-entry.entry-index c.args.rows.now.rows.now (omega arith)) c.loop-entry.invariant
