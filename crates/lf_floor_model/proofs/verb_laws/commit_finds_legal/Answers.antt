use Rattle.lf_proto.specs.declared.verb.Change.TheVariants.{Commit}
use Rattle.lf_floor_model.proofs.VerbLegal.{verb_legal}
use Rattle.lf_floor_model.proofs.verb_laws.commit_finds_legal.Goals as goal

pub returns : goal.returns
returns c t session s known accepted = verb_legal t s known c.legal_in_range.ensures session Commit accepted
