use Rattle.lf_frame.proofs.AlikeDesigns.{find_alike, accepted_alike, refused_alike, loaded_alike}
use Rattle.lf_frame.proofs.laws.positions_play_no_part.Goals as goal

pub returns : goal.returns
returns c = record { findings = find_alike; accepted = accepted_alike; refused = refused_alike; loaded = loaded_alike }
