use Rattle.std.proofs.Common.{refl, ◌∙◌, arith}
use Rattle.lf_lex.proofs.Scanning.{nothing_left}
use Rattle.lf_lex.proofs.lexer.Lexer.next_token.Goals as goal

pub returns-then-at-self-clause-tokens : goal.returns-then-at-self-clause-tokens
returns-then-at-self-clause-tokens c =
    let l = c.self.inside in
    let e = nothing_left c.skip_blank-at.result.0 c.skip_blank-at.result.1 l.text.now _ (omega arith) (c.skip_blank-at.ensures.same ∙ c.self.view_is) in
    (e.0, e.1, refl)
