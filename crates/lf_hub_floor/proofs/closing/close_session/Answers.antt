use Rattle.std.proofs.Common.{ℕ, List, sym, subst}
use Rattle.lf_hub_floor.proofs.ClosingLines.{ClosesOrEmpty, closes_outcome}
use Rattle.lf_hub_floor.proofs.closing.close_session.Goals as goal

pub returns-clause-closes : goal.returns-clause-closes
returns-clause-closes g c =
    let l = c.legalizer_exists.ensures in
    closes_outcome l c.args.team c.as_slice.result.now c.args.session c.args.floor.now c.answer_line.new.text.items c.answer_line.result
    c.answer_line.new.floor (c.answer_line.ensures.answers l)
    (subst (λ (line : List ℕ). ClosesOrEmpty c.args.session line) (sym c.as_slice.ensures.value) c.write_close.ensures.closes)
