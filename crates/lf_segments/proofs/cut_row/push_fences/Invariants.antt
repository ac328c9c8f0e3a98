use Rattle.std.proofs.Common.{◌-◌, ◌≤◌, length}
use Rattle.lf_segments.specs.Boxes.{AddsRow}
use Rattle.lf_segments.proofs.cut_row.push_fences.Given as goal

abbrev pub ghost-clear_spans : goal.ghost-clear_spans
ghost-clear_spans g a = g.obstacles

-- The segments of the fences below the next one follow the old ones.
abbrev pub invariant-loop-team : goal.invariant-loop-team
invariant-loop-team g l = (l.team ≤ length l.frame.teams) × AddsRow l.frame g.obstacles l.number l.row l.team l.initial.segments.items l.segments.items

abbrev pub decreases-loop-team : goal.decreases-loop-team
decreases-loop-team g l = length l.frame.teams - l.team
