use Rattle.lf_laws_roundtrip.proofs.Again.{exports_load_again}
use Rattle.lf_laws_roundtrip.proofs.laws.exported_designs_load_alike.Goals as goal

pub returns : goal.returns
returns c = exports_load_again
