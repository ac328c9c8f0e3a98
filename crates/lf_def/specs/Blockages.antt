-- DEF BLOCKAGES: - PLACEMENT {+ clause | RECT pt pt} ; and - LAYER, which is skipped.
use Rattle.std.specs.Prelude.{false, ◌||◌, List, [], ◌∷◌, ◌++◌, Option, Some, None, codes, if◌then◌else◌}
use Rattle.lf_lex.specs.declared.fault.FaultNumber.TheVariants.{Unexpected}
use Rattle.lf_lex.specs.Tokens.{Lexeme}
use Rattle.lf_lex.specs.Reading.{◌>>=◌, Reader, Statement, Turn, taken, continues, finishes, fault_at, token, is, end_name, to_semicolon, block}
use Rattle.lf_def.specs.declared.section.Due.{Due}
use Rattle.lf_def.specs.declared.section.Due.TheVariants.{Item, Keyword, Rest}
use Rattle.lf_def.specs.declared.blockages.Blockage.{Blockage}
use Rattle.lf_def.specs.declared.blockages.BlockageParts.{BlockageParts}
use Rattle.lf_def.specs.Coordinates.{def_rectangle}

-- Adds a rectangle, after RECT.
unfoldable pub with_rect : BlockageParts → Reader (Turn BlockageParts)
with_rect parts l = do
  r ← def_rectangle l
  continues (record parts { rects = parts.rects ++ r.value ∷ []; due = Item }) r.rest

-- Records the word of a clause, if it is SOFT or PARTIAL.
abbrev pub noted : BlockageParts → Lexeme → BlockageParts
noted parts t = record parts {
  soft = parts.soft || is (codes "SOFT") t;
  partial = parts.partial || is (codes "PARTIAL") t;
  due = Rest;
}

-- The part of a blockage that begins with a token, which is no separator. What follows the word of
-- a clause is skipped up to RECT.
unfoldable pub blockage_part : Due → BlockageParts → Lexeme → Reader (Turn BlockageParts)
blockage_part Keyword parts t l = continues (noted parts t) l
blockage_part Rest parts t l = if is (codes "RECT") t then with_rect parts l else continues parts l
blockage_part _ parts t l = if is (codes "RECT") t then with_rect parts l else fault_at Unexpected t.line

-- The part of a blockage that begins with a token. A semicolon is the last, and a plus begins a
-- clause.
unfoldable pub blockage_from : BlockageParts → Lexeme → Reader (Turn BlockageParts)
blockage_from parts t l =
    if is (codes ";") t then finishes parts l
    else if is (codes "+") t then continues (record parts { due = Keyword }) l
    else blockage_part parts.due parts t l

unfoldable pub blockage_token : Statement BlockageParts
blockage_token parts l = do
  t ← token l
  blockage_from parts t.value t.rest

abbrev pub no_blockage : BlockageParts
no_blockage = record { soft = false; partial = false; rects = []; due = Item }

abbrev pub blockage_of : BlockageParts → Blockage
blockage_of parts = record { soft = parts.soft; partial = parts.partial; rects = parts.rects }

-- A blockage after its minus, or `None` if it blocks a layer.
unfoldable pub blockage : Reader (Option Blockage)
blockage l = do
  t ← token l
  if is (codes "LAYER") t.value then (to_semicolon t.rest >>= λ stop. taken None stop.rest)
      else if is (codes "PLACEMENT") t.value then
      (block blockage_token no_blockage t.rest >>= λ parts. taken (Some (blockage_of parts.value)) parts.rest)
      else fault_at Unexpected t.value.line

abbrev pub with_blockage : List Blockage → Option Blockage → List Blockage
with_blockage known None = known
with_blockage known (Some b) = known ++ b ∷ []

-- The minus and an entry, or END BLOCKAGES.
unfoldable pub blockage_or_end : Statement (List Blockage)
blockage_or_end known l = do
  t ← token l
  if is (codes "-") t.value then (blockage t.rest >>= λ b. continues (with_blockage known b.value) b.rest)
      else if is (codes "END") t.value then (end_name (codes "BLOCKAGES") t.rest >>= λ stop. finishes known stop.rest)
      else fault_at Unexpected t.value.line

-- BLOCKAGES count ; entries END BLOCKAGES, after its keyword.
unfoldable pub blockages : List Blockage → Reader (List Blockage)
blockages known l = do
  start ← to_semicolon l
  block blockage_or_end known start.rest
