use Rattle.std.proofs.Common.{◌≡◌, ◌==◌, Some, ap, sym, ◌∙◌, rules}
use Rattle.std.specs.Prelude.{position}
use Rattle.lf_state_text.specs.Pieces.{front, text_of_chunks}
use Rattle.lf_state_text.proofs.Held.{position-on}
use Rattle.lf_state_text.proofs.cursor_steps.find.Goals as goal

pub returns-in-Some-clause-found : goal.returns-in-Some-clause-found
returns-in-Some-clause-found c =
    let here : position (λ b. b == c.args.byte) (front c.loop-at.cursor) ≡ Some c.in-Some.at = search rules in
    sym (ap (position (λ b. b == c.args.byte)) (sym c.loop-at.invariant.same)
    ∙ position-on (λ b. b == c.args.byte) (front c.loop-at.cursor) (text_of_chunks c.loop-at.cursor.later.items) c.in-Some.at here)
