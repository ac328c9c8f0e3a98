use Rattle.lf_frame.proofs.findings.two_fences.Goals as goal

pub returns : goal.returns
returns c = record {
  place = c.first_claimed_twice-first.result;
  first = rw c.as_slice-components.ensures at c.first_claimed_twice-first.ensures c.args.document.now.regions c.args.document.now.groups c.requires.differ c.requires.claims;
  name = rw c.as_slice-components.ensures at c.component_name.ensures;
}
