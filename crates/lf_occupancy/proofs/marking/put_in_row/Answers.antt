use Rattle.lf_occupancy.specs.Strips.{PutsIn}
use Rattle.lf_occupancy.proofs.Settling.{changed_in_row, run_is_reached}
use Rattle.lf_occupancy.specs.Widened.{all_widened}
use Rattle.lf_occupancy.proofs.marking.put_in_row.Goals as goal

pub put_in_run-requires : goal.put_in_run-requires
put_in_run-requires c = record {
  many = c.requires.many;
  within = c.widened_strips-near.ensures.within;
  room = λ n d e one.
      c.requires.room n d e
      (run_is_reached (all_widened c.args.strips.now) c.args.row c.args.cell.now.id.now.team c.args.cell.now.rect.now c.widened_strips-near.result
      c.widened_strips-near.ensures n one);
}

pub returns : goal.returns
returns c =
    let xs = all_widened c.args.strips.now in
    let rect = c.args.cell.now.rect.now in
    changed_in_row xs c.args.row c.args.cell.now.id.now.team rect c.widened_strips-near.result (PutsIn xs c.args.cell.now.id.now.own rect) c.args.mark_lists.now.items
    c.put_in_run.new.mark_lists.items c.widened_strips-near.ensures c.put_in_run.ensures
