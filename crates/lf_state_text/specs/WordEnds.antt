-- The bytes that end words.
use Rattle.std.specs.Prelude.{ℕ}
use Rattle.lf_state_text.specs.declared.word_end.WordEnd.{WordEnd}
use Rattle.lf_state_text.specs.declared.word_end.WordEnd.TheVariants.{Space, LineFeed}

abbrev pub end_byte : WordEnd → ℕ
end_byte Space = 32
end_byte LineFeed = 10
