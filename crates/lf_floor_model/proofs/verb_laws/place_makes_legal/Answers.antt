use Rattle.lf_proto.specs.declared.verb.Change.TheVariants.{Place as PlaceAt}
use Rattle.lf_floor_model.proofs.VerbLegal.{verb_legal}
use Rattle.lf_floor_model.proofs.verb_laws.place_makes_legal.Goals as goal

pub returns : goal.returns
returns c t session name place s known accepted = verb_legal t s known c.legal_in_range.ensures session (PlaceAt name place) accepted
