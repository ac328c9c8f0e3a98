use Rattle.lf_laws_roundtrip.proofs.Elsewhere.{positions_not_settled, accepted_elsewhere, frame_stays, loaded_elsewhere}
use Rattle.lf_laws_roundtrip.proofs.laws.moved_designs_load_alike.Goals as goal

pub returns : goal.returns
returns c = record { positions = positions_not_settled; accepted = accepted_elsewhere; frame = frame_stays; loaded = loaded_elsewhere }
