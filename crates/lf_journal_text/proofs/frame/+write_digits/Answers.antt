use Rattle.std.proofs.Common.{◌+◌, ◌%◌, ◌++◌, [], ◌∷◌, List, ℕ, ◌∙◌, ap}
use Rattle.lf_journal_text.proofs.Framing.{digits_none, digits_more}
use Rattle.lf_journal_text.proofs.frame.+write_digits.Goals as goal

pub returns-then-width-eq0 : goal.returns-then-width-eq0
returns-then-width-eq0 t c = digits_none c.args.width c.args.number c.args.text.now.items c.if-width-eq0.true

pub returns : goal.returns
returns t c =
    c.in_ok-push.ensures.items
    ∙ ap (λ (l : List ℕ). l ++ ((48 + c.args.number % 10) ∷ [])) c.in_ok-write_digits.ensures
    ∙ digits_more c.args.width c.args.number c.args.text.now.items c.if-width-eq0.false
