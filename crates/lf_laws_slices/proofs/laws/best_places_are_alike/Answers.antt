use Rattle.lf_laws_slices.proofs.Places.{best_same}
use Rattle.lf_laws_slices.proofs.laws.best_places_are_alike.Goals as goal

pub returns : goal.returns
returns c = λ l m cell target g a sized. best_same c.best_place_is_unique.ensures l m cell target g a sized
