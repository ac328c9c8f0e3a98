use Rattle.lf_lex.proofs.Spelling.{spelled_from}
use Rattle.lf_lex.proofs.lexer.kinds_follow_texts.Goals as goal

pub returns : goal.returns
returns c = λ text. spelled_from 0 0 1 text
