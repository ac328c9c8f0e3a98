use Rattle.std.proofs.Common.{◌≡◌, ◌<◌, length}
use Rattle.lf_tests_basics.proofs.undo.fill_teams.Given as goal

-- The number of teams is unchanged, and the last one is a team.
abbrev pub invariant-loop-team : goal.invariant-loop-team
invariant-loop-team l = record {
  teams : length l.store.lists ≡ 16;
  last : l.last < 16;
}
