use Rattle.lf_laws_roundtrip.proofs.TeamParts.{team_reads_back}
use Rattle.lf_laws_roundtrip.proofs.laws.team_text_reads_back.Goals as goal

pub returns : goal.returns
returns c = team_reads_back
