use Rattle.lf_proto.specs.declared.verb.Change.TheVariants.{Legalize}
use Rattle.lf_floor_model.proofs.VerbLegal.{verb_legal}
use Rattle.lf_floor_model.proofs.verb_laws.legalize_makes_legal.Goals as goal

pub returns : goal.returns
returns c t session name target s known accepted = verb_legal t s known c.legal_in_range.ensures session (Legalize name target) accepted
