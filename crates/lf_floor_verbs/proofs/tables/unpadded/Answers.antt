use Rattle.lf_floor_verbs.proofs.Unpadded.{none_padded}
use Rattle.lf_floor_verbs.proofs.tables.unpadded.Goals as goal

pub returns : goal.returns
returns c = none_padded (λ v. v.items) c.args.teams c.none.result c.vec.result c.none.ensures (λ v y copy. copy) c.vec.ensures.items_if_clones_equal
