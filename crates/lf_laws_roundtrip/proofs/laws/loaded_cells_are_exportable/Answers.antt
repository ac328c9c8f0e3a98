use Rattle.lf_laws_roundtrip.proofs.Given.{loaded_can_be_given}
use Rattle.lf_laws_roundtrip.proofs.laws.loaded_cells_are_exportable.Goals as goal

pub returns : goal.returns
returns c = loaded_can_be_given
