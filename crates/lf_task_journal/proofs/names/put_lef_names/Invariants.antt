use Rattle.std.proofs.Common.{drop, map}
use Rattle.lf_task_journal.proofs.Naming.{NamesOn}
use Rattle.lf_task_journal.proofs.names.put_lef_names.Given as goal

abbrev pub invariant-loop-lef : goal.invariant-loop-lef
invariant-loop-lef g l =
    NamesOn (g.T.InputFiles.gives l.texts) (map (λ lef. lef.now) l.lefs) (map (λ lef. lef.now) (drop l.lef-index l.lefs))
    (map (λ name. name.items) l.fn.names.items) (map (λ name. name.items) l.names.items)
