use Rattle.lf_occupancy.proofs.Around.{around, strips_widened}
use Rattle.lf_occupancy.proofs.Reaching.{mark_lists_out, rooms_out}
use Rattle.lf_occupancy.proofs.Ones.{reached_has_one}
use Rattle.lf_occupancy.specs.Widened.{all_widened}
use Rattle.lf_occupancy.proofs.marking.take_out.Goals as goal

pub prune_rows-requires : goal.prune_rows-requires
prune_rows-requires c = record {
  many = c.requires.many;
  one =
      reached_has_one (all_widened c.args.strips.now) c.args.id.now c.args.rect.now c.distinct_rows-rows.result.rows.now c.args.mark_lists.now.items c.requires.one;
}

pub returns-clause-mark_lists : goal.returns-clause-mark_lists
returns-clause-mark_lists c = λ boxes is old.
    mark_lists_out (around c.args.strips.now.site.now c.args.strips.now.index.now) boxes c.args.id.now.team c.args.id.now.own c.args.rect.now c.distinct_rows-rows.result.rows.now c.args.mark_lists.now.items
    c.prune_rows.new.mark_lists.items (strips_widened c.args.strips.now.site.now c.args.strips.now.index.now c.args.strips.now.site_width c.strips_are_placed.ensures) c.distinct_rows-rows.ensures is.known.team
    is.known.own is.at old c.prune_rows.ensures

pub returns-clause-rooms : goal.returns-clause-rooms
returns-clause-rooms c =
    rooms_out (all_widened c.args.strips.now) c.distinct_rows-rows.result.rows.now c.args.id.now.team c.args.id.now.own c.args.rect.now c.args.mark_lists.now.items
    c.prune_rows.new.mark_lists.items c.requires.many c.prune_rows.ensures
