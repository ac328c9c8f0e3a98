use Rattle.lf_frame.proofs.findings.second_name.Goals as goal

pub returns : goal.returns
returns c = record {
  place = c.first_duplicate.result;
  first = c.first_duplicate.ensures c.args.document.now.regions c.args.document.now.groups c.args.document.now.components c.requires;
  name = rw c.as_slice.ensures at c.component_name.ensures;
}
