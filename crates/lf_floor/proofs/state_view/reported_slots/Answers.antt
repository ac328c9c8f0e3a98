use Rattle.std.proofs.Common.{ap, sym, ◌∙◌, arith}
use Rattle.lf_state_text.specs.Saved.{SavedTeam}
use Rattle.lf_floor.proofs.Saving.{none_reported, reported_at}
use Rattle.lf_floor.proofs.state_view.reported_slots.Goals as goal

pub returns-then-team-len : goal.returns-then-team-len
returns-then-team-len c = sym (ap (λ (t : SavedTeam). t.slots) (none_reported c.args.tables.now c.args.team (omega (arith, c.if-team-len.true, c.len.ensures, c.args.tables.now.revisions.ok.0))))

pub returns : goal.returns
returns c = c.slots.ensures ∙ sym (ap (λ (t : SavedTeam). t.slots) (reported_at c.args.tables.now c.args.team (omega (arith, c.if-team-len.false, c.len.ensures, c.args.tables.now.revisions.ok.0))))
