use Rattle.lf_laws_roundtrip.proofs.ReadNames.{read_is_spelled}
use Rattle.lf_laws_roundtrip.proofs.laws.read_documents_are_spelled.Goals as goal

pub returns : goal.returns
returns c = read_is_spelled
