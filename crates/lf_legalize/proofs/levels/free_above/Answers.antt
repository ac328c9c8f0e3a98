use Rattle.std.proofs.Common.{refl, arith}
use Rattle.lf_legalize.proofs.RunLemmas.{entry_within, free_next, free_end}
use Rattle.lf_legalize.proofs.levels.free_above.Goals as goal

pub push_row-requires : goal.push_row-requires
push_row-requires c =
    entry_within c.args.search.now.frame.now c.args.search.now.occupancy.now.index.rows c.rows_above-entry-items.result.now _ c.search_is_occupied.ensures.index.rows c.rows_above-entry-items.ensures
    c.loop-entry.entry-index _ c.loop-entry-test.true

pub loop-entry-preserved : goal.loop-entry-preserved
loop-entry-preserved c =
    free_next c.args.search.now c.args.search.now.occupancy.now.index.rows c.rows_above-entry-items.result.now _ c.args.bottom.now.row.now c.args.level
    c.args.bottom.now.window.now.span
    c.loop-entry.entry-index _ c.loop-entry.spans.items c.push_row.new.spans.items c.search_is_occupied.ensures.index c.search_is_occupied.ensures.index.rows c.rows_above-entry-items.ensures
    c.loop-entry-test.true c.loop-entry.invariant c.in_ok-push_row.ensures

pub returns : goal.returns
returns c =
    free_end c.args.search.now c.args.search.now.occupancy.now.index.rows c.rows_above-entry-items.result.now _ c.args.bottom.now.row.now c.args.level
    c.args.bottom.now.window.now.span
    c.loop-entry.entry-index c.loop-entry.spans.items c.search_is_occupied.ensures.index.rows c.rows_above-entry-items.ensures (omega arith) refl c.loop-entry.invariant
