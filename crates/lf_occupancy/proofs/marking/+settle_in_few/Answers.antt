use Rattle.std.proofs.Common.{◌-◌, ◌∙◌, arith, get_or, length, pos, rules}
use Rattle.std.proofs.lemmas.List.{get_or_default}
use Rattle.lf_segments.specs.declared.rows_by_y.RowEntry.{RowEntry}
use Rattle.lf_occupancy.proofs.Reaching.{rising_kept}
use Rattle.lf_occupancy.proofs.Settling.{settled_further, settled_takes}
use Rattle.lf_occupancy.specs.Widened.{all_widened}
use Rattle.lf_occupancy.proofs.marking.+settle_in_few.Goals as goal

abbrev no_entry : RowEntry
no_entry = record { y = pos 0; x = pos 0; row = 0 }

pub settle_in_few-requires : goal.settle_in_few-requires
settle_in_few-requires t c = (
  search rules,
  record {
    many = c.in_ok-make_room_in_run.ensures.kept.many ∙ c.requires.many;
    rising = rising_kept c.args.mark_lists.now.items c.make_room_in_run.new.mark_lists.items c.in_ok-make_room_in_run.ensures.kept c.requires.rising;
  },
)

pub put_in_run-requires : goal.put_in_run-requires
put_in_run-requires t c = record {
  many = let s = c.in_ok-settle_in_few.ensures.ok in
      s.put.many ∙ s.kept.many ∙ c.in_ok-make_room_in_run.ensures.kept.many ∙ c.requires.many;
  within = c.widened_strips-near.ensures.within;
  room =
      let rows = c.args.rows.now.rows.now in
      let last = length rows - 1 in
      let some = c.if-rows-eq0.false in
      settled_takes (all_widened c.args.strips.now) rows last (get_or rows last no_entry) c.args.cell.now.id.now.team c.args.cell.now.id.now.own
      c.args.cell.now.rect.now c.widened_strips-near.result c.make_room_in_run.new.mark_lists.items c.settle_in_few.new.mark_lists.items c.args.rows.now.once (omega (arith, some))
      (get_or_default rows last _ _ (omega (arith, some))) c.widened_strips-near.ensures (c.in_ok-make_room_in_run.ensures.kept.many ∙ c.requires.many)
      (rising_kept c.args.mark_lists.now.items c.make_room_in_run.new.mark_lists.items c.in_ok-make_room_in_run.ensures.kept c.requires.rising)
      c.in_ok-make_room_in_run.ensures.ok c.in_ok-settle_in_few.ensures.ok;
}

pub returns-clause-ok : goal.returns-clause-ok
returns-clause-ok t c =
    let rows = c.args.rows.now.rows.now in
    let last = length rows - 1 in
    let some = c.if-rows-eq0.false in
    settled_further (all_widened c.args.strips.now) rows last (get_or rows last no_entry) c.args.cell.now.id.now.team c.args.cell.now.id.now.own
    c.args.cell.now.rect.now c.widened_strips-near.result c.args.mark_lists.now.items c.make_room_in_run.new.mark_lists.items c.settle_in_few.new.mark_lists.items
    c.put_in_run.new.mark_lists.items c.args.rows.now.once (omega (arith, some)) (get_or_default rows last _ _ (omega (arith, some))) c.widened_strips-near.ensures
    c.in_ok-make_room_in_run.ensures.kept c.in_ok-settle_in_few.ensures.ok c.put_in_run.ensures
