use Rattle.lf_frame.proofs.conflicts.claimer.Goals as goal

pub returns : goal.returns
returns c = record {
  place = c.first_claiming-first.result;
  first = rw (c.as_slice-groups.ensures, c.as_slice.ensures) at c.first_claiming-first.ensures;
  name = rw c.as_slice-groups.ensures at c.region_of_group.ensures;
}
