use Rattle.lf_lex.specs.Reading.{keyword, end_name, to_semicolon, to_end, to_word}
use Rattle.lf_lex.proofs.Runs.{reads_alike}
use Rattle.lf_lex.proofs.Following.{keyword_follows, end_name_follows, to_semicolon_follows, to_end_follows, to_word_follows}
use Rattle.lf_lex.proofs.laws.words_read_alike.Goals as goal

pub returns : goal.returns
returns c = record {
  keyword = λ due. reads_alike (keyword due) (keyword_follows due);
  end_name = λ due. reads_alike (end_name due) (end_name_follows due);
  to_semicolon = reads_alike to_semicolon to_semicolon_follows;
  to_end = λ due. reads_alike (to_end due) (to_end_follows due);
  to_word = λ due. reads_alike (to_word due) (to_word_follows due);
}
