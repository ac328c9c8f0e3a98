use Rattle.std.proofs.Common.{◌≡◌, ◌≤◌, ◌+◌, List, [], ◌∷◌, length, refl, sym, ap, ◌∙◌, arith, rules}
use Rattle.std.proofs.lemmas.List.{length-append}
use Rattle.lf_state_text.specs.declared.saved_rows.SavedTeamRow.{SavedTeamRow}
use Rattle.lf_state_text.specs.Saved.{team_view, team_views}
use Rattle.lf_floor.proofs.Framing.{due_many}
use Rattle.lf_floor_verbs.specs.Tables.{frame_of, teams_in}
use Rattle.lf_floor.specs.SavedStates.{saved_teams_at}
use Rattle.lf_floor.proofs.Placing.{rest_awaits}
use Rattle.lf_floor.proofs.Saving.{first_left, no_views, views_many, views_more}
use Rattle.lf_floor.proofs.RestoredTeams.{all_were_placed, last_is_saved, last_keeps_others, last_team_served}
use Rattle.lf_floor.proofs.restore.restore_teams.Goals as goal

pub loop-alloc-init : goal.loop-alloc-init
loop-alloc-init c =
    let old = c.args.tables.now in
    let saved = saved_teams_at old (team_views c.args.rows.items) in
    record {
      left = first_left old saved c.requires.tables c.requires.due (due_many (frame_of old).limits (teams_in old) saved c.requires.due);
      few = omega (arith, c.requires.many);
      cells = refl;
      room = c.requires.room;
      each = c.requires.each;
    }

pub restore_team-requires : goal.restore_team-requires
restore_team-requires c =
    let start = c.args.tables.now in
    let now = c.loop-alloc.tables in
    let all = saved_teams_at start (team_views c.args.rows.items) in
    let rest = c.pop.new.self.items in
    let left = c.loop-alloc.left.items in
    let k = length c.as_slice-number.result.now in
    let is = views_more rest left c.in-Some.row c.in-Some.ensures.items in
    let here : k ≡ length rest = ap (λ (rows : List SavedTeamRow). length rows) c.as_slice-number.ensures.value in
    let at = here ∙ sym (views_many rest) in
    let few : length (team_views left) ≤ length (teams_in start) = let f = c.loop-alloc.invariant.few in omega (arith, f, views_many left) in
    let more : length left ≡ length rest + 1 = ap (λ (rows : List SavedTeamRow). length rows) c.in-Some.ensures.items ∙ length-append rest (c.in-Some.row ∷ []) in
    record {
      served = last_team_served start now all (team_views left) (team_views rest) (team_view c.in-Some.row) k is at few c.loop-alloc.invariant.cells c.loop-alloc.invariant.left;
      due = last_is_saved start now all (team_views left) (team_views rest) (team_view c.in-Some.row) k is at few c.loop-alloc.invariant.cells c.loop-alloc.invariant.left;
      room = c.loop-alloc.invariant.room;
      awaits = c.loop-alloc.invariant.each k (omega (arith, here, more));
    }

pub loop-alloc-preserved : goal.loop-alloc-preserved
loop-alloc-preserved c =
    let start = c.args.tables.now in
    let now = c.loop-alloc.tables in
    let all = saved_teams_at start (team_views c.args.rows.items) in
    let rest = c.pop.new.self.items in
    let left = c.loop-alloc.left.items in
    let k = length c.as_slice-number.result.now in
    let is = views_more rest left c.in-Some.row c.in-Some.ensures.items in
    let here : k ≡ length rest = ap (λ (rows : List SavedTeamRow). length rows) c.as_slice-number.ensures.value in
    let at = here ∙ sym (views_many rest) in
    let few : length (team_views left) ≤ length (teams_in start) = let f = c.loop-alloc.invariant.few in omega (arith, f, views_many left) in
    let more : length left ≡ length rest + 1 = ap (λ (rows : List SavedTeamRow). length rows) c.in-Some.ensures.items ∙ length-append rest (c.in-Some.row ∷ []) in
    record {
      left =
          last_keeps_others start now all (team_views left) (team_views rest) (team_view c.in-Some.row) k is at few c.loop-alloc.invariant.cells c.loop-alloc.invariant.left
          c.restore_team.new.tables c.in_ok-restore_team.ensures.team c.in_ok-restore_team.ensures.others c.in_ok-restore_team.ensures.fit;
      few = let f = c.loop-alloc.invariant.few in omega (arith, f, more);
      cells = c.in_ok-restore_team.ensures.cells ∙ c.loop-alloc.invariant.cells;
      room = c.in_ok-restore_team.ensures.room;
      each =
          rest_awaits (length rest) (length left) c.loop-alloc.counts c.restore_team.new.counts now c.restore_team.new.tables more c.loop-alloc.invariant.each
          (λ other apart awaits. c.in_ok-restore_team.ensures.awaits other (λ same. apart (same ∙ here)) awaits);
    }

pub returns-clause-tables : goal.returns-clause-tables
returns-clause-tables c = c.loop-alloc.invariant.left.tables

pub returns-clause-floor : goal.returns-clause-floor
returns-clause-floor c =
    all_were_placed c.args.tables.now c.loop-alloc.tables (saved_teams_at c.args.tables.now (team_views c.args.rows.items)) (team_views c.loop-alloc.left.items)
    c.loop-alloc.invariant.left (no_views c.loop-alloc.left.items (search rules))
