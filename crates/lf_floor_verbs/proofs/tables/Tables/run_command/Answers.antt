use Rattle.std.proofs.Common.{◌≡◌, Option, ℕ, ap, sym}
use Rattle.lf_proto.specs.declared.request.TeamCommand.TheVariants.{Within}
use Rattle.lf_proto.specs.Verbs.{action_of}
use Rattle.lf_floor_model.specs.Verbs.{outcome_of, outcome_within, outcome_by_slot}
use Rattle.lf_floor_verbs.specs.Tables.{context_in, team_in}
use Rattle.lf_floor_verbs.proofs.tables.Tables.run_command.Goals as goal

pub returns-in-Some-clause-untested : goal.returns-in-Some-clause-untested
returns-in-Some-clause-untested g c = λ l.
    let t = context_in l c.args.context.now c.args.self.now in
    let s = team_in c.args.context.now c.args.self.now in
    let session = c.in-Within.session in
    let action = action_of c.in-Within.action in
    let within : outcome_of t (Within session action) s ≡ outcome_within c.in-Some.seen t session action s =
    ap (λ (o : Option ℕ). outcome_by_slot o t session action s) (sym (c.in-Some.ensures {u = tt})) in
    rw (c.in-Within.is, within) (c.run_action.ensures.untested l)

pub returns-in-Some-clause-ok : goal.returns-in-Some-clause-ok
returns-in-Some-clause-ok g c = λ l.
    let t = context_in l c.args.context.now c.args.self.now in
    let s = team_in c.args.context.now c.args.self.now in
    let session = c.in-Within.session in
    let action = action_of c.in-Within.action in
    let within : outcome_of t (Within session action) s ≡ outcome_within c.in-Some.seen t session action s =
    ap (λ (o : Option ℕ). outcome_by_slot o t session action s) (sym (c.in-Some.ensures {u = tt})) in
    rw (c.in-Within.is, within) (c.run_action.ensures.ok l)
