use Rattle.std.proofs.Common.{◌≡◌, vec_len}
use Rattle.lf_repair_planner.specs.Plans.{IsFilledTo}
use Rattle.lf_repair_planner.proofs.plan.note_spans.Given as goal

abbrev pub invariant-loop-span : goal.invariant-loop-span
invariant-loop-span l = record {
  filled : IsFilledTo l.input.free_rows.now.spans.items l.input.cells.now l.span 0 l.planned.items;
  count : vec_len l.planned ≡ vec_len l.fn.planned;
}
