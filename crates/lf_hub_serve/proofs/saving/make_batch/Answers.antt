use Rattle.std.proofs.Common.{ap, arith, drop, length, length-drop, List, ℕ, ◌≡◌, ◌∙◌}
use Rattle.lf_journal_text.specs.Records.{batch_text}
use Rattle.lf_journal_text.proofs.Framing.{payload_there}
use Rattle.lf_hub_serve.proofs.saving.make_batch.Goals as goal

pub returns-clause-records : goal.returns-clause-records
unfolding batch_text
returns-clause-records c =
    ap (drop 38) c.in_ok-batch.ensures.text ∙ payload_there c.args.time c.args.records.now c.requires.time c.requires.some c.requires.small c.requires.nonzero

pub returns-clause-size : goal.returns-clause-size
returns-clause-size c =
    let payload : drop 38 c.in_ok-batch.batch.items ≡ c.args.records.now = returns-clause-records c in
    omega (arith, length-drop 38 c.in_ok-batch.batch.items, ap (λ (b : List ℕ). length b) payload)
