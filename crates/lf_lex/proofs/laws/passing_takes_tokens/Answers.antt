use Rattle.lf_lex.proofs.Following.{passed_token_goes, passed_to_end_goes, passed_to_word_goes}
use Rattle.lf_lex.proofs.laws.passing_takes_tokens.Goals as goal

pub returns : goal.returns
returns c = record { to_semicolon = passed_token_goes; to_end = passed_to_end_goes; to_word = passed_to_word_goes }
