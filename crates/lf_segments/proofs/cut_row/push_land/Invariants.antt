use Rattle.std.proofs.Common.{[]}
use Rattle.lf_segments.proofs.cut_row.push_land.Given as goal

-- Land is cut with no obstacles.
abbrev pub ghost-push_row : goal.ghost-push_row
ghost-push_row a = []
