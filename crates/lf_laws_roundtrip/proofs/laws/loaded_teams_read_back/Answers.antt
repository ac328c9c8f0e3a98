use Rattle.lf_laws_roundtrip.proofs.LoadedTeams.{loaded_read_back}
use Rattle.lf_laws_roundtrip.proofs.OwnCells.{own_are_team_cells}
use Rattle.lf_laws_roundtrip.proofs.laws.loaded_teams_read_back.Goals as goal

pub returns : goal.returns
returns c = record { texts = loaded_read_back; cells = own_are_team_cells }
