use Rattle.std.proofs.Common.{List, ℕ, subst}
use Rattle.lf_state_text.specs.Pieces.{text_of_chunks, rest}
use Rattle.lf_state_text.specs.Saved.{team_views}
use Rattle.lf_state_text.specs.Reading.{ReadsState, all_at}
use Rattle.lf_state_text.proofs.Within.{reported-within}
use Rattle.lf_state_text.proofs.read.read_chunks.Goals as goal

given : goal.returns-clause-exact
given g c =
    let design = g.D.DesignSchema.named c.args.design.now in
    let text = text_of_chunks c.args.pieces.items in
    c.with_text_end.ensures.read text (all_at design text) (c.read_all-read.ensures.ends text c.cursor_at-cursor.ensures.end)
    (subst (λ (t : List ℕ). ReadsState (λ rows _. team_views rows.items) c.read_all-read.result (all_at design t) (rest c.read_all-read.new.cursor)) c.cursor_at-cursor.ensures.rest c.read_all-read.ensures.read)

pub returns-clause-exact : goal.returns-clause-exact
returns-clause-exact = given

pub returns-clause-fits : goal.returns-clause-fits
returns-clause-fits g c = reported-within (λ rows. team_views rows.items) (g.D.DesignSchema.named c.args.design.now) (text_of_chunks c.args.pieces.items) c.with_text_end.result (given g c)
