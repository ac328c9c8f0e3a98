use Rattle.std.proofs.Common.{[]}
use Rattle.lf_team_def.proofs.team_text.team_def_length.Goals as goal

pub returns : goal.returns
returns c = c.write_team_def.ensures c.zero-length.result [] c.zero-length.ensures
