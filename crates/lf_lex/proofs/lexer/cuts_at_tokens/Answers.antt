use Rattle.lf_lex.proofs.Cutting.{cut_tokens}
use Rattle.lf_lex.proofs.lexer.cuts_at_tokens.Goals as goal

pub returns : goal.returns
returns c = cut_tokens
