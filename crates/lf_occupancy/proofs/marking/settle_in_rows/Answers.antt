use Rattle.std.proofs.Common.{arith, ◌∙◌}
use Rattle.lf_occupancy.specs.Strips.{IsReached}
use Rattle.lf_occupancy.proofs.Settling.{takes_room}
use Rattle.lf_occupancy.proofs.Reaching.{rising_kept}
use Rattle.lf_occupancy.specs.Widened.{all_widened}
use Rattle.lf_occupancy.proofs.marking.settle_in_rows.Goals as goal

pub put_in_rows-requires : goal.put_in_rows-requires
put_in_rows-requires c = record {
  many = c.in_ok-make_room_in_rows.ensures.kept.many ∙ c.requires.many;
  room =
      let xs = all_widened c.args.strips.now in
      let many = c.requires.many in
      let same = c.in_ok-make_room_in_rows.ensures.kept.many in
      takes_room xs c.args.cell.now.rect.now (IsReached xs c.args.rows.now.rows.now c.args.cell.now.id.now.team c.args.cell.now.rect.now) c.make_room_in_rows.new.mark_lists.items
      (λ n reached. let within = reached.0 in omega (arith, within, many, same))
      (rising_kept c.args.mark_lists.now.items c.make_room_in_rows.new.mark_lists.items c.in_ok-make_room_in_rows.ensures.kept c.requires.rising)
      c.in_ok-make_room_in_rows.ensures.ok;
}

pub returns-clause-ok : goal.returns-clause-ok
returns-clause-ok c = record {
  roomy = c.make_room_in_rows.new.mark_lists.items;
  kept = c.in_ok-make_room_in_rows.ensures.kept;
  put = c.put_in_rows.ensures;
}
