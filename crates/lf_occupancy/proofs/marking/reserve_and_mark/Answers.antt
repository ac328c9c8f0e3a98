use Rattle.std.proofs.lemmas.Result.{on_ok_weaker}
use Rattle.lf_occupancy.proofs.Around.{around, strips_widened}
use Rattle.lf_occupancy.proofs.Reaching.{mark_lists_in, mark_lists_kept}
use Rattle.lf_occupancy.specs.Widened.{all_widened}
use Rattle.lf_occupancy.proofs.marking.reserve_and_mark.Goals as goal

pub returns-clause-ok : goal.returns-clause-ok
returns-clause-ok c = λ boxes nowhere old.
    on_ok_weaker c.settle_in_rows.result
    (λ s.
    mark_lists_in (around c.args.strips.now.site.now c.args.strips.now.index.now) boxes c.args.cell.now.id.now.team c.args.cell.now.id.now.own c.args.cell.now.rect.now c.distinct_rows-rows.result.rows.now s.roomy
    c.settle_in_rows.new.mark_lists.items (strips_widened c.args.strips.now.site.now c.args.strips.now.index.now c.args.strips.now.site_width c.strips_are_placed.ensures) c.distinct_rows-rows.ensures
    nowhere.known.team nowhere.known.own nowhere.at
    (mark_lists_kept (all_widened c.args.strips.now) boxes c.args.mark_lists.now.items s.roomy s.kept old) s.put)
    c.settle_in_rows.ensures.ok
