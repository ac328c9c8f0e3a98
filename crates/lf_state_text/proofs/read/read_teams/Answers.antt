use Rattle.std.proofs.Common.{◌≡◌, ◌<◌, ◌≤◌, ◌++◌, ◌∷◌, [], length, map, arith}
use Rattle.std.proofs.lemmas.List.{map_push}
use Rattle.std.proofs.lemmas.Result.{err_from_is_err_and}
use Rattle.lf_state_text.specs.Pieces.{rest}
use Rattle.lf_state_text.specs.Saved.{team_view}
use Rattle.lf_state_text.specs.Reading.{each_at, team_at}
use Rattle.lf_state_text.proofs.Loop.{each_goes_on, each_ends, each_is_done}
use Rattle.lf_state_text.proofs.read.read_teams.Goals as goal

pub returns-in_err-item-clause-read : goal.returns-in_err-item-clause-read
returns-in_err-item-clause-read g c =
    let design = g.D.DesignSchema.named c.args.design.now in
    let less : c.loop-team.team < length design.teams = omega (arith, c.loop-team-test.true, c.team_count-team-end.ensures) in
    let p = err_from_is_err_and c.from_residual.result c.from_residual.ensures.1 in
    rw (p.1, p.2) (each_ends (team_at design.limits) c.in_err-item.field-0.0 (map team_view c.loop-team.items.items) design.teams c.loop-team.team (record { name = []; cells = [] })
    (rest c.loop-team.cursor) (each_at (team_at design.limits) design.teams (rest c.args.cursor.now)) (length (rest c.read_team.new.cursor)) less c.in_err-item.ensures.read c.loop-team.invariant.read)

pub loop-team-preserved : goal.loop-team-preserved
loop-team-preserved g c =
    let design = g.D.DesignSchema.named c.args.design.now in
    let less : c.loop-team.team < length design.teams = omega (arith, c.loop-team-test.true, c.team_count-team-end.ensures) in
    let e : map team_view c.push.new.self.items ≡ map team_view c.loop-team.items.items ++ team_view c.in_ok-item.item ∷ [] =
    rw c.in_ok-push.ensures.items (map_push _ c.loop-team.items.items c.in_ok-item.item) in
    record {
      read =
          rw e (each_goes_on (team_at design.limits) (map team_view c.loop-team.items.items) design.teams c.loop-team.team (record { name = []; cells = [] }) (rest c.loop-team.cursor)
          (team_view c.in_ok-item.item) (rest c.read_team.new.cursor) (each_at (team_at design.limits) design.teams (rest c.args.cursor.now)) less c.in_ok-item.ensures.read
          c.loop-team.invariant.read);
      ends = λ text end. c.in_ok-item.ensures.ends text (c.loop-team.invariant.ends text end);
    }

pub returns-clause-read : goal.returns-clause-read
returns-clause-read g c =
    let design = g.D.DesignSchema.named c.args.design.now in
    let past : length design.teams ≤ c.loop-team.team = omega (arith, c.loop-team-test.false, c.team_count-team-end.ensures) in
    each_is_done (team_at design.limits) (map team_view c.loop-team.items.items) design.teams c.loop-team.team (rest c.loop-team.cursor)
    (each_at (team_at design.limits) design.teams (rest c.args.cursor.now)) past c.loop-team.invariant.read
