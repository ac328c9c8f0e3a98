use Rattle.std.proofs.Common.{arith, map}
use Rattle.lf_task_journal.proofs.Naming.{names_done, names_more}
use Rattle.lf_task_journal.proofs.names.put_lef_names.Goals as goal

pub loop-lef-preserved : goal.loop-lef-preserved
loop-lef-preserved g c =
    names_more (g.T.InputFiles.gives c.args.texts.now) (map (λ name. name.items) c.args.names.now.items) (map (λ name. name.items) c.loop-lef.names.items) _
    c.args.lefs.now c.loop-lef.lef-index _ c.loop-lef-test.true c.loop-lef.invariant (rw c.lef_file.ensures.path at c.in_ok-put_name_of_file.ensures.ok)

pub returns-clause-ok : goal.returns-clause-ok
returns-clause-ok g c =
    names_done (g.T.InputFiles.gives c.args.texts.now) (map (λ name. name.items) c.args.names.now.items) (map (λ name. name.items) c.loop-lef.names.items)
    c.args.lefs.now c.loop-lef.lef-index (omega (arith, c.loop-lef-test.false)) c.loop-lef.invariant
