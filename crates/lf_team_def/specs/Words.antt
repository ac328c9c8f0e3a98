-- The words of a line.
use Rattle.std.specs.Prelude.{ℕ, List, decimal}
use Rattle.std.specs.Fmt.{signed_decimal}
use Rattle.lf_team_def.specs.declared.words.Word.{Word}
use Rattle.lf_team_def.specs.declared.words.Word.TheVariants.{Text, Count, Length}

-- The text of a word.
abbrev pub def_word_text : Word → List ℕ
def_word_text (Text text) = text.now
def_word_text (Count n) = decimal n
def_word_text (Length z) = signed_decimal z
