use Rattle.std.proofs.Common.{◌≡◌, ◌++◌, drop, map}
use Rattle.lf_frame.specs.Teams.{fences}
use Rattle.lf_frame.specs.Loads.{frame_team}
use Rattle.lf_frame.proofs.convert.fence_teams.Given as goal

-- The fences so far, followed by those among the remaining regions, are all of them.
abbrev pub invariant-loop-region : goal.invariant-loop-region
invariant-loop-region l = l.teams ++ map frame_team (fences (drop l.region-index l.regions)) ≡ map frame_team (fences l.regions)
