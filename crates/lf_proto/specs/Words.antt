-- The words of a line.
use Rattle.std.specs.Prelude.{ℕ, List, ◌∷◌, decimal}
use Rattle.std.specs.Fmt.{signed_decimal}
use Rattle.lf_proto.specs.declared.words.Word.{Word}
use Rattle.lf_proto.specs.declared.words.Word.TheVariants.{Text, Number, Length, Signed, Long}

-- the text of a word
abbrev pub word_text : Word → List ℕ
word_text (Text text) = text.now
word_text (Number n) = decimal n
word_text (Length n) = decimal n
word_text (Signed z) = signed_decimal z
word_text (Long z) = signed_decimal z

-- a word with a space in front
abbrev pub spaced_word : Word → List ℕ
spaced_word word = 32 ∷ word_text word
