use Rattle.std.proofs.Common.{refl, drop, arith}
use Rattle.std.proofs.lemmas.List.{length-drop}
use Rattle.lf_lex.proofs.Slices.{slices_from, within_from}
use Rattle.lf_lex.proofs.lexer.Lexer.text.Goals as goal

pub returns-clause-slices : goal.returns-clause-slices
returns-clause-slices c =
    let l = c.self.inside in
    rw (← c.self.view_is) (slices_from l.text.now 0 0 l.at l.line (drop l.at l.text.now) refl (omega arith))

pub returns-clause-within : goal.returns-clause-within
returns-clause-within c =
    let l = c.self.inside in
    rw (← c.self.view_is) (within_from l.text.now 0 l.at l.line (drop l.at l.text.now) (omega (arith, length-drop l.at l.text.now, c.self.invariant.0)))
