use Rattle.std.proofs.Common.{◌≡◌, Some, None, false, subst}
use Rattle.std.proofs.lemmas.Result.{IfOk-weaker}
use Rattle.lf_floorplan.specs.declared.frame.Frame.{Frame}
use Rattle.lf_proto.specs.Commands.{order_of}
use Rattle.lf_floor_model.specs.Steps.{IsOutOfMemoryAnswer, answer_at}
use Rattle.lf_floor_model.specs.Teams.{team_number}
use Rattle.lf_floor_model.specs.Verbs.{is_tested}
use Rattle.lf_floor_verbs.specs.Tables.{floor_in}
use Rattle.lf_floor_model.proofs.Answering.{bye_answers, none_answers, some_answers, some_short}
use Rattle.lf_floor_model.proofs.Serving.{on_err_both}
use Rattle.lf_floor.proofs.floor.Floor.try_step.Goals as goal

pub returns-in-Bye-clause-ok : goal.returns-in-Bye-clause-ok
returns-in-Bye-clause-ok g c = λ l. rw c.in-Bye.is (bye_answers l c.args.self.now)

pub returns-in_default-clause-ok : goal.returns-in_default-clause-ok
returns-in_default-clause-ok g c = λ l.
    let old = floor_in c.self.inside.tables in
    rw (← c.self.view_is, c.in-To.is)
    (none_answers l old c.in-To.team.now (order_of c.in-To.order)
    (subst (λ (f : Frame). ◌≡◌ {A = Rattle.std.proofs.Common.Option Rattle.std.proofs.Common.ℕ} None (team_number f c.in-To.team.now)) c.frame.ensures (c.in_default.ensures {u = tt}).found))

pub returns-in-Some-clause-ok : goal.returns-in-Some-clause-ok
returns-in-Some-clause-ok g c = λ l.
    let old = floor_in c.self.inside.tables in
    let new = floor_in c.run_team_command.new.tables in
    rw (← c.self.view_is, c.in-To.is) (IfOk-weaker c.run_team_command.result _ _
    (λ reply given. some_answers l old new c.in-To.team.now (order_of c.in-To.order) c.in-Some.number reply
    (subst (λ (f : Frame). Some c.in-Some.number ≡ team_number f c.in-To.team.now) c.frame.ensures (c.in-Some.ensures {u = tt}).found) given)
    (c.run_team_command.ensures.ok l))

pub returns-in-Some-clause-err : goal.returns-in-Some-clause-err
returns-in-Some-clause-err g c = λ l.
    let old = floor_in c.self.inside.tables in
    let new = floor_in c.run_team_command.new.tables in
    let order = order_of c.in-To.order in
    let number = c.in-Some.number in
    let U : Type 0 = is_tested order (answer_at (Some number) l old order).reply ≡ false in
    let S : Type 0 = IsOutOfMemoryAnswer (answer_at (Some number) l old order) old new in
    rw (← c.self.view_is, c.in-To.is) (on_err_both c.run_team_command.result
    (λ takes (both : U × S). some_short l old new c.in-To.team.now order number
    (subst (λ (f : Frame). Some number ≡ team_number f c.in-To.team.now) c.frame.ensures (c.in-Some.ensures {u = tt}).found) takes both.0 both.1)
    c.run_team_command.ensures.takes (on_err_both c.run_team_command.result (λ (u : U) (s : S). (u, s)) (c.run_team_command.ensures.untested l) (c.run_team_command.ensures.err l)))
