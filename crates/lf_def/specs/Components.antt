-- DEF COMPONENTS: - name macro {token} {+ clause} ; with the offsets of its placement clause in the
-- text.
use Rattle.std.specs.Prelude.{ℕ, Bool, false, ◌&&◌, ◌||◌, List, Option, Some, None, codes, if◌then◌else◌}
use Rattle.std.specs.Option.{option_map}
use Rattle.lf_lex.specs.declared.fault.FaultNumber.TheVariants.{Unexpected}
use Rattle.lf_lex.specs.Tokens.{Lexeme}
use Rattle.lf_lex.specs.Reading.{◌>>=◌, Reader, Statement, Turn, taken, continues, finishes, fault_at, token, name, is, keyword, block}
use Rattle.lf_def.specs.declared.section.Due.{Due}
use Rattle.lf_def.specs.declared.section.Due.TheVariants.{Item, Keyword, Rest, Separator}
use Rattle.lf_def.specs.declared.components.Component.{Component}
use Rattle.lf_def.specs.declared.components.ComponentParts.{ComponentParts}
use Rattle.lf_def.specs.declared.components.LocatedPlace.{LocatedPlace}
use Rattle.lf_def.specs.declared.components.PlacementClause.{PlacementClause}
use Rattle.lf_def.specs.declared.components.PlacementKind.{PlacementKind}
use Rattle.lf_def.specs.declared.components.PlacementKind.TheVariants.{Fixed, Cover, Placed, Unplaced}
use Rattle.lf_def.specs.Coordinates.{point_rest, orient_of}
use Rattle.lf_def.specs.Entries.{section}

-- x y ) orient after the first parenthesis, and the offset at which the orientation ends.
unfoldable pub located_rest : Reader LocatedPlace
located_rest l = do
  p ← point_rest l
  t ← token p.rest
  orient ← orient_of t.value
  taken (record { location = record { x = p.value.x; y = p.value.y; orient = orient }; stop = t.value.stop }) t.rest

-- ( x y ) orient after FIXED, COVER or PLACED. The clause extends from its plus to the end of the
-- orientation.
unfoldable pub placed_clause : PlacementKind → ℕ → Reader PlacementClause
placed_clause kind plus l = do
  start ← keyword (codes "(") l
  p ← located_rest start.rest
  taken (record { kind = kind; place = Some p.value.location; start = plus; stop = p.value.stop }) p.rest

-- UNPLACED. The clause extends from its plus to the end of this word.
abbrev pub unplaced_clause : ℕ → Lexeme → PlacementClause
unplaced_clause plus t = record { kind = Unplaced; place = None; start = plus; stop = t.stop }

abbrev pub is_placement_word : Lexeme → Bool
is_placement_word t = is (codes "FIXED") t || is (codes "COVER") t || is (codes "PLACED") t || is (codes "UNPLACED") t

-- A placement clause, after its plus and its word.
unfoldable pub placement : ℕ → Lexeme → Reader PlacementClause
placement plus t l =
    if is (codes "FIXED") t then placed_clause Fixed plus l
    else if is (codes "COVER") t then placed_clause Cover plus l
    else if is (codes "PLACED") t then placed_clause Placed plus l
    else taken (unplaced_clause plus t) l

-- The only placement clause. A second one is a fault.
unfoldable pub only_placement : Option PlacementClause → ℕ → Lexeme → Reader PlacementClause
only_placement None plus t l = placement plus t l
only_placement (Some first) plus t l = fault_at Unexpected t.line

-- A clause, after its plus and its word. A placement is read, and other clauses are skipped.
unfoldable pub clause : ComponentParts → Lexeme → Reader (Turn ComponentParts)
clause parts t l =
    if is_placement_word t then (only_placement parts.placement parts.plus t l >>= λ p.
    continues (record parts { placement = Some p.value; due = Separator; point = is (codes "UNPLACED") t }) p.rest)
    else continues (record parts { due = Rest }) l

abbrev pub up_to_stop : ℕ → PlacementClause → PlacementClause
up_to_stop stop p = record p { stop = stop }

-- The point and the orientation after UNPLACED, which are ignored. The clause extends to their end.
unfoldable pub unplaced_point : ComponentParts → Reader (Turn ComponentParts)
unplaced_point parts l = do
  p ← located_rest l
  continues (record parts { placement = option_map (up_to_stop p.value.stop) parts.placement; point = false }) p.rest

-- The part of a component that begins with a token, which is no separator. Tokens in front of the
-- first clause are skipped.
unfoldable pub component_part : Due → ComponentParts → Lexeme → Reader (Turn ComponentParts)
component_part Item parts t l = continues parts l
component_part Keyword parts t l = clause parts t l
component_part Rest parts t l = continues parts l
component_part Separator parts t l = if parts.point && is (codes "(") t then unplaced_point parts l
    else fault_at Unexpected t.line

-- The part of a component that begins with a token. A semicolon is the last, and a plus begins a
-- clause.
unfoldable pub component_from : ComponentParts → Lexeme → Reader (Turn ComponentParts)
component_from parts t l =
    if is (codes ";") t then finishes (record parts { semicolon = t.start }) l
    else if is (codes "+") t then continues (record parts { due = Keyword; plus = t.start }) l
    else component_part parts.due parts t l

unfoldable pub component_token : Statement ComponentParts
component_token parts l = do
  t ← token l
  component_from parts t.value t.rest

abbrev pub no_component : ComponentParts
no_component = record { placement = None; due = Item; point = false; plus = 0; semicolon = 0 }

-- A component after its minus.
unfoldable pub component : Reader Component
component l = do
  n ← name l
  mac ← name n.rest
  parts ← block component_token no_component mac.rest
  taken (record {
    name = n.value.text;
    mac = mac.value.text;
    placement = parts.value.placement;
    semicolon = parts.value.semicolon;
  }) parts.rest

-- COMPONENTS count ; entries END COMPONENTS, after its keyword.
abbrev pub components : List Component → Reader (List Component)
components known l = section (codes "COMPONENTS") component known l
