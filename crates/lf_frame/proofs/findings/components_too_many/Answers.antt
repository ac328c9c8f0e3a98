use Rattle.lf_frame.proofs.findings.components_too_many.Goals as goal

pub returns : goal.returns
returns c = record {
  place = c.first_component_too_many.result;
  first = rw c.as_slice-components.ensures at c.first_component_too_many.ensures;
  name = rw c.as_slice-components.ensures at c.component_name.ensures;
}
