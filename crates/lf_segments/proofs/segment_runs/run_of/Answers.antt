use Rattle.std.proofs.Common.{◌≡◌}
use Rattle.lf_segments.specs.Segments.{ComesBefore, IsOf}
use Rattle.lf_segments.proofs.RunLemmas.{teams_rise, run_pairs, run_within}
use Rattle.lf_segments.proofs.segment_runs.run_of.Goals as goal

pub run_of_team-of_team-requires : goal.run_of_team-of_team-requires
run_of_team-of_team-requires c =
    teams_rise c.run_of_row-in_row.result.segments.now c.args.row
    (run_pairs ComesBefore (λ g. g.row ≡ c.args.row) c.args.segments.now c.run_of_row-in_row.result.segments.now c.run_of_row-in_row.result.start c.requires.order
    c.run_of_row-in_row.ensures)
    c.run_of_row-in_row.ensures.has

pub returns : goal.returns
returns c =
    run_within (λ g. g.row ≡ c.args.row) (λ g. g.team ≡ c.args.team) (IsOf c.args.row c.args.team) c.args.segments.now c.run_of_row-in_row.result.segments.now
    c.run_of_team-of_team.result.segments.now c.run_of_row-in_row.result.start c.run_of_team-of_team.result.start
    (λ g p q. record { in_row = p; of_team = q }) (λ g r. r.in_row) (λ g r. r.of_team) c.run_of_row-in_row.ensures c.run_of_team-of_team.ensures
