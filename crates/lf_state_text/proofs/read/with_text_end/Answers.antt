use Rattle.std.proofs.Common.{◌≡◌, Err, length, subst, rules}
use Rattle.lf_state_text.specs.declared.fault.ReadError.TheVariants as reading
use Rattle.lf_state_text.specs.Pieces.{rest}
use Rattle.lf_state_text.specs.Saved.{team_views}
use Rattle.lf_state_text.specs.Reading.{ReadsState}
use Rattle.lf_state_text.proofs.Held.{refused-is}
use Rattle.lf_state_text.proofs.read.with_text_end.Goals as goal

pub returns-in-Err-Fault-clause-read : goal.returns-in-Err-Fault-clause-read
returns-in-Err-Fault-clause-read c = λ text found end read.
    let is : c.args.read ≡ Err (reading.Fault c.in-Err-Fault.number) = search rules in
    refused-is text (record { number = c.in-Err-Fault.number; left = length (rest c.args.cursor) }) found c.refusal_at.result
    (subst (λ r. ReadsState (λ rows _. team_views rows.items) r found (rest c.args.cursor)) is read) (c.refusal_at.ensures.fault text end)
