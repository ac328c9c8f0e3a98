use Rattle.lf_placement.proofs.placement.Placement.into_parts.Goals as goal

pub returns-clause-sized : goal.returns-clause-sized
returns-clause-sized c = c.self.invariant.placing.sized

pub returns-clause-few : goal.returns-clause-few
returns-clause-few c = c.self.invariant.placing.few
