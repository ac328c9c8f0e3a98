use Rattle.std.proofs.Common.{◌≡◌, ℕ, Some, false, subst, sym}
use Rattle.std.specs.Prelude.{IfOk, OnErr}
use Rattle.lf_floor_model.specs.Outcomes.{IsOutcome, IsOutOfMemory}
use Rattle.lf_floor_model.specs.Verbs.{is_tested, outcome_of}
use Rattle.std.proofs.lemmas.Result.{IfOk-weaker, on_err_weaker}
use Rattle.lf_proto.specs.Commands.{order_of}
use Rattle.lf_floor_model.specs.States.{FloorState, TeamState}
use Rattle.lf_floor_model.specs.Steps.{IsGivenAnswer, IsOutOfMemoryAnswer, answer_at}
use Rattle.lf_floor_model.specs.Teams.{IsTeamOf, team_rules}
use Rattle.lf_floor_model.proofs.Kept.{verb_keeps}
use Rattle.lf_floor_model.proofs.Serving.{kept_by, gives, stays_short, stays_untested}
use Rattle.lf_floor_verbs.specs.Tables.{floor_in, frame_of, own_team, teams_in}
use Rattle.lf_floor.proofs.Rows.{each_team, floor_changed, served, tables_still, team_there}
use Rattle.lf_floor.proofs.floor.run_team_command.Goals as goal

pub run_command-requires : goal.run_command-requires
run_command-requires g c = record { served = served c.args.tables.now c.args.number c.requires.tables c.requires.within }

pub returns-clause-ok : goal.returns-clause-ok
returns-clause-ok g c = λ l.
    let number = c.args.number in
    let old = c.args.tables.now in
    let new = c.run_command.new.self in
    subst (λ (v : FloorState). IfOk c.run_command.result (λ reply. IsGivenAnswer (answer_at (Some number) l (floor_in old) (order_of c.args.command.now)) reply v))
    (sym (floor_changed old new number c.run_command.ensures.others))
    (IfOk-weaker c.run_command.result _ _ (λ reply reaches.
    gives l (frame_of old) old.placement.cells.components (teams_in old) number (order_of c.args.command.now) (own_team number old) (own_team number new) reply
    (team_there old number (rw c.requires.tables.revisions c.requires.within)) reaches)
    (subst (λ (n : ℕ). IfOk c.run_command.result (λ reply.
    IsOutcome (outcome_of (team_rules l (frame_of old) number n) (order_of c.args.command.now) (own_team number old)) reply (own_team number new))) c.padding.ensures (c.run_command.ensures.ok l)))

pub returns-clause-err : goal.returns-clause-err
returns-clause-err g c = λ l.
    let number = c.args.number in
    let old = c.args.tables.now in
    let new = c.run_command.new.self in
    subst (λ (v : FloorState). OnErr c.run_command.result (IsOutOfMemoryAnswer (answer_at (Some number) l (floor_in old) (order_of c.args.command.now)) (floor_in old) v))
    (sym (floor_changed old new number c.run_command.ensures.others))
    (on_err_weaker c.run_command.result (λ out.
    stays_short l (frame_of old) old.placement.cells.components (teams_in old) number (order_of c.args.command.now) (own_team number old) (own_team number new)
    (team_there old number (rw c.requires.tables.revisions c.requires.within)) out)
    (subst (λ (n : ℕ). OnErr c.run_command.result
    (IsOutOfMemory (outcome_of (team_rules l (frame_of old) number n) (order_of c.args.command.now) (own_team number old)) (own_team number old) (own_team number new))) c.padding.ensures (c.run_command.ensures.err l)))

pub returns-clause-untested : goal.returns-clause-untested
returns-clause-untested g c = λ l.
    let number = c.args.number in
    let old = c.args.tables.now in
    let order = order_of c.args.command.now in
    on_err_weaker c.run_command.result (λ untested.
    stays_untested l (frame_of old) old.placement.cells.components (teams_in old) number order (own_team number old)
    (team_there old number (rw c.requires.tables.revisions c.requires.within)) untested)
    (subst (λ (n : ℕ). OnErr c.run_command.result (is_tested order (outcome_of (team_rules l (frame_of old) number n) order (own_team number old)).reply ≡ false))
    c.padding.ensures (c.run_command.ensures.untested l))

pub returns-clause-tables : goal.returns-clause-tables
returns-clause-tables g c =
    let l = c.legalizer_exists.ensures in
    let f = frame_of c.args.tables.now in
    let number = c.args.number in
    let old = c.args.tables.now in
    let new = c.run_command.new.self in
    let s = own_team number old in
    let order = order_of c.args.command.now in
    let before : IsTeamOf f s = each_team (λ t. IsTeamOf f t) old number c.requires.tables.teams (rw c.requires.tables.revisions c.requires.within) in
    tables_still old new number c.run_command.ensures.others c.requires.tables
    (kept_by (λ (t : TeamState). IsTeamOf f t) (outcome_of (team_rules l f number c.padding.result.sites) order s) s (own_team number new) c.run_command.result (c.run_command.ensures.ok l) (c.run_command.ensures.err l) before
    (verb_keeps (team_rules l f number c.padding.result.sites) order s before))
    c.run_command.ensures.fit
