-- DEF GROUPS: - name {pattern} {+ clause} ;
use Rattle.std.specs.Prelude.{List, [], ◌∷◌, ◌++◌, None, codes, if◌then◌else◌}
use Rattle.lf_lex.specs.declared.fault.FaultNumber.TheVariants.{Unexpected}
use Rattle.lf_lex.specs.Tokens.{Lexeme}
use Rattle.lf_lex.specs.Reading.{◌>>=◌, Reader, Statement, Turn, taken, continues, finishes, fault_at, token, name, is, block, first_counts}
use Rattle.lf_def.specs.declared.section.Due.{Due}
use Rattle.lf_def.specs.declared.section.Due.TheVariants.{Item, Keyword, Rest, Separator}
use Rattle.lf_def.specs.declared.groups.Group.{Group}
use Rattle.lf_def.specs.declared.groups.GroupParts.{GroupParts}
use Rattle.lf_def.specs.Entries.{section, name_token}

-- Adds a pattern.
unfoldable pub with_pattern : GroupParts → Lexeme → Reader (Turn GroupParts)
with_pattern parts t l = do
  pattern ← name_token t
  continues (record parts { patterns = parts.patterns ++ pattern ∷ [] }) l

-- REGION name after its word. The first one counts. A parenthesis is no name.
unfoldable pub with_region : GroupParts → Reader (Turn GroupParts)
with_region parts l = do
  n ← name l
  if is (codes "(") n.value then fault_at Unexpected n.value.line
      else continues (record parts { region = first_counts parts.region n.value.text; due = Separator }) n.rest

-- The part of a group that begins with a token, which is no separator. Patterns come first, REGION
-- is read, and other clauses are skipped.
unfoldable pub group_part : Due → GroupParts → Lexeme → Reader (Turn GroupParts)
group_part Item parts t l = with_pattern parts t l
group_part Keyword parts t l = if is (codes "REGION") t then with_region parts l
    else continues (record parts { due = Rest }) l
group_part Rest parts t l = continues parts l
group_part Separator parts t l = fault_at Unexpected t.line

-- The part of a group that begins with a token. A semicolon is the last, and a plus begins a
-- clause.
unfoldable pub group_from : GroupParts → Lexeme → Reader (Turn GroupParts)
group_from parts t l =
    if is (codes ";") t then finishes parts l
    else if is (codes "+") t then continues (record parts { due = Keyword }) l
    else group_part parts.due parts t l

unfoldable pub group_token : Statement GroupParts
group_token parts l = do
  t ← token l
  group_from parts t.value t.rest

abbrev pub no_group : GroupParts
no_group = record { patterns = []; region = None; due = Item }

-- A group after its minus.
unfoldable pub group : Reader Group
group l = do
  n ← name l
  parts ← block group_token no_group n.rest
  taken (record { name = n.value.text; patterns = parts.value.patterns; region = parts.value.region }) parts.rest

-- GROUPS count ; entries END GROUPS, after its keyword.
abbrev pub groups : List Group → Reader (List Group)
groups known l = section (codes "GROUPS") group known l
