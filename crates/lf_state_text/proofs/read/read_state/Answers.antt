use Rattle.std.proofs.Common.{List, ℕ, ap, subst, ◌∙◌}
use Rattle.lf_state_text.specs.Refused.{ReturnsIn}
use Rattle.lf_state_text.specs.Saved.{team_views}
use Rattle.lf_state_text.specs.Reading.{ReturnsAt, saved_state_of}
use Rattle.lf_state_text.proofs.Again.{state-again}
use Rattle.lf_state_text.proofs.Within.{reported-at}
use Rattle.lf_state_text.proofs.read.read_state.Goals as goal

given : goal.returns-clause-exact
given g c =
    let design = g.D.DesignSchema.named c.args.design.now in
    c.without_end.ensures (saved_state_of design c.args.text.now)
    (subst (λ (t : List ℕ). ReturnsIn (λ rows. team_views rows.items) c.read_chunks-read.result (saved_state_of design t)) c.in-Ok.ensures c.read_chunks-read.ensures.exact)

pub returns-clause-exact : goal.returns-clause-exact
returns-clause-exact = given

pub returns-clause-fits : goal.returns-clause-fits
returns-clause-fits g c = reported-at (λ rows. team_views rows.items) (g.D.DesignSchema.named c.args.design.now) c.args.text.now c.without_end.result (given g c)

pub returns-clause-again : goal.returns-clause-again
returns-clause-again g c = λ teams saved is.
    let design = g.D.DesignSchema.named c.args.design.now in
    subst (λ f. ReturnsAt (λ rows. team_views rows.items) c.without_end.result f) (ap (saved_state_of design) is ∙ state-again design teams saved) (given g c)
