use Rattle.std.proofs.Common.{arith, set, ap, ◌∙◌}
use Rattle.std.proofs.lemmas.List.Edits.{map_over_more}
use Rattle.lf_cells.specs.declared.records.CellRecord.{CellRecord}
use Rattle.lf_cells.specs.Records.{committed_record}
use Rattle.lf_cells.proofs.records.commit_all.Goals as goal

pub loop-i-preserved : goal.loop-i-preserved
loop-i-preserved c =
    ap (λ (s : CellRecord). set c.loop-i.slots.items c.loop-i.i s) c.committed.ensures
    ∙ map_over_more committed_record c.args.slots.now.items c.loop-i.slots.items c.loop-i.i c.index.result.now (omega arith) c.loop-i.invariant c.index.ensures
