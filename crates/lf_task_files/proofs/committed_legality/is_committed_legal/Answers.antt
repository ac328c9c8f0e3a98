use Rattle.std.proofs.Common.{◌≡◌, ◌∙◌, ap, arith, length, refl, rules, sym, false}
use Rattle.std.proofs.lemmas.Bool.{false≢true}
use Rattle.std.proofs.lemmas.Option.{slice_get_within}
use Rattle.lf_floorplan.specs.declared.frame.Frame.{Frame}
use Rattle.lf_floor_model.proofs.Stepping.{committed_teams, teams_committed}
use Rattle.lf_task_files.proofs.CommittedVerdicts.{there_is}
use Rattle.lf_task_files.proofs.committed_legality.is_committed_legal.Goals as goal

pub is_team_legal-requires : goal.is_team_legal-requires
is_team_legal-requires c =
    let floor = c.args.floor.now in
    let many : c.len-teams.result ≡ length floor.frame.teams =
    c.len-teams.ensures ∙ ap (λ (f : Frame). length f.teams) (c.frame.ensures ∙ c.placement.ensures.frame) in
    there_is floor.teams c.loop-number.number (omega (arith, c.loop-number-test.true, many, c.requires))

pub returns-then-not-branch : goal.returns-then-not-branch
returns-then-not-branch c =
    let floor = c.args.floor.now in
    let many : c.len-teams.result ≡ length floor.frame.teams =
    c.len-teams.ensures ∙ ap (λ (f : Frame). length f.teams) (c.frame.ensures ∙ c.placement.ensures.frame) in
    let there = there_is floor.teams c.loop-number.number (omega (arith, c.loop-number-test.true, many, c.requires)) in
    let no : c.in_ok-is_team_legal.field-0 ≡ false = search rules in (
      λ yes. absurd (false≢true yes),
      λ legal. sym no ∙ (c.in_ok-is_team_legal.ensures {u = tt} there.0 there.1).1 (committed_teams floor legal c.loop-number.number there.0 there.1),
    )

pub returns : goal.returns
returns c =
    let floor = c.args.floor.now in
    let many : c.len-teams.result ≡ length floor.frame.teams =
    c.len-teams.ensures ∙ ap (λ (f : Frame). length f.teams) (c.frame.ensures ∙ c.placement.ensures.frame) in (
      λ yes. teams_committed floor (λ k s there.
          let within = slice_get_within floor.teams k s there in
          c.loop-number.invariant k s (omega (arith, within, many, c.requires, c.loop-number-test.false)) there),
      λ legal. refl,
    )
