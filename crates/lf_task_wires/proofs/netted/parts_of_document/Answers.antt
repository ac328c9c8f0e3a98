use Rattle.lf_task_wires.proofs.netted.parts_of_document.Goals as goal

pub returns-clause-ok : goal.returns-clause-ok
returns-clause-ok c = record {
  loads = c.in_ok-loaded.ensures.ok;
  nets_are = c.nets_over_texts-netlist.ensures.ok;
  refused = c.nets_over_texts-netlist.ensures.err;
  clauses_are = rw c.requires.text at c.in_ok-clauses.ensures;
}
