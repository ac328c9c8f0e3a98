use Rattle.lf_occupancy.proofs.Around.{around, strips_widened}
use Rattle.lf_occupancy.proofs.Reaching.{mark_lists_in, rooms_put, takes_parts}
use Rattle.lf_occupancy.specs.Widened.{all_widened}
use Rattle.lf_occupancy.proofs.marking.take_in.Goals as goal

pub put_in_rows-requires : goal.put_in_rows-requires
put_in_rows-requires c = record {
  many = c.requires.marks.many;
  room =
      takes_parts (all_widened c.args.strips.now) c.args.cell.now.id.now.team c.args.cell.now.rect.now c.distinct_rows-rows.result.rows.now c.args.mark_lists.now.items
      c.requires.marks.many c.requires.marks.rising c.requires.room;
}

pub returns-clause-mark_lists : goal.returns-clause-mark_lists
returns-clause-mark_lists c = λ boxes nowhere old.
    mark_lists_in (around c.args.strips.now.site.now c.args.strips.now.index.now) boxes c.args.cell.now.id.now.team c.args.cell.now.id.now.own c.args.cell.now.rect.now c.distinct_rows-rows.result.rows.now c.args.mark_lists.now.items
    c.put_in_rows.new.mark_lists.items (strips_widened c.args.strips.now.site.now c.args.strips.now.index.now c.args.strips.now.site_width c.strips_are_placed.ensures) c.distinct_rows-rows.ensures
    nowhere.known.team nowhere.known.own nowhere.at old c.put_in_rows.ensures

pub returns-clause-rooms : goal.returns-clause-rooms
returns-clause-rooms c =
    rooms_put (all_widened c.args.strips.now) c.distinct_rows-rows.result.rows.now c.args.cell.now.id.now.team c.args.cell.now.id.now.own c.args.cell.now.rect.now c.args.mark_lists.now.items
    c.put_in_rows.new.mark_lists.items c.requires.marks.many c.put_in_rows.ensures
