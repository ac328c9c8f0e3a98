use Rattle.lf_write.proofs.WrittenLocations.{is_found_there, given_place_is_taken}
use Rattle.lf_write.proofs.laws.places_decide_locations.Goals as goal

pub returns : goal.returns
returns c = record { is_in_place = λ x given. is_found_there x given; given = λ x given. given_place_is_taken x given }
