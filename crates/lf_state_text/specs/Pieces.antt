-- The unread rest of a text in chunks, and what was dropped of it.
use Rattle.std.specs.Prelude.{◌≡◌, ◌⊎◌, ℕ, List, [], ◌∷◌, ◌++◌, drop, Vec}
use Rattle.std.specs.List.{flat_map}
use Rattle.lf_lex.specs.Tokens.{line_feeds}
use Rattle.lf_state_text.specs.declared.cursor.Cursor.{Cursor}

-- the text of all chunks
abbrev pub text_of_chunks : {A : Type 0} → List (Vec ℕ A) → List ℕ
text_of_chunks pieces = flat_map (λ piece. piece.items) pieces

-- the bytes that are still held
abbrev pub held_bytes : Cursor → List ℕ
held_bytes c = c.piece.items ++ text_of_chunks c.later.items

-- the unread rest of the chunk
abbrev pub front : Cursor → List ℕ
front c = drop c.at c.piece.items

-- the unread rest of the text
abbrev pub rest : Cursor → List ℕ
rest c = front c ++ text_of_chunks c.later.items

-- whole lines, or nothing
abbrev pub AreLines : List ℕ → Type 0
AreLines text = (text ≡ []) ⊎ ((before : List ℕ) × (text ≡ before ++ 10 ∷ []))

-- the held bytes are the end of the text, after whole lines, whose line feeds are counted
pub record IsEnd (text : List ℕ) (c : Cursor) : Type 0 where
  pub gone : List ℕ
  pub whole : AreLines gone
  pub is : text ≡ gone ++ held_bytes c
  pub lines : line_feeds gone ≡ c.lines
