use Rattle.std.proofs.Common.{◌≡◌, ◌<◌, List, ℕ, IfOk, length, slice_index, sym, ap, subst, arith, rules}
use Rattle.lf_journal_text.specs.Records.{batch_text, beginning, entry_text}
use Rattle.lf_journal_text.proofs.Framing.{beginning_nonzero, beginning_size}
use Rattle.lf_journal_text.proofs.beginning.beginning_of.Goals as goal

pub batch_of-requires-clause-small : goal.batch_of-requires-clause-small
batch_of-requires-clause-small c =
    let text : c.deref-2.result.now ≡ entry_text (beginning c.args.design.now c.args.state.now) = search rules in
    omega (arith, ap length text, beginning_size c.args.design.now c.args.state.now, c.requires.small)

pub batch_of-requires-clause-some : goal.batch_of-requires-clause-some
batch_of-requires-clause-some c =
    let text : c.deref-2.result.now ≡ entry_text (beginning c.args.design.now c.args.state.now) = search rules in
    omega (arith, ap length text, beginning_size c.args.design.now c.args.state.now)

pub batch_of-requires-clause-nonzero : goal.batch_of-requires-clause-nonzero
batch_of-requires-clause-nonzero c =
    let text : c.deref-2.result.now ≡ entry_text (beginning c.args.design.now c.args.state.now) = search rules in
    subst (λ (l : List ℕ). (i : ℕ) → i < length l → 0 < slice_index l i) (sym text) (beginning_nonzero c.args.design.now c.args.state.now c.requires.line)

pub returns-clause-text : goal.returns-clause-text
returns-clause-text c =
    let text : c.deref-2.result.now ≡ entry_text (beginning c.args.design.now c.args.state.now) = search rules in
    subst (λ (l : List ℕ). IfOk c.batch_of.result (λ batch. batch.items ≡ batch_text c.args.time l)) text c.batch_of.ensures.text
