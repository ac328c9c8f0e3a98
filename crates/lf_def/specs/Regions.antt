-- DEF REGIONS: - name pt pt {pt pt} {+ clause} ;
use Rattle.std.specs.Prelude.{List, [], ◌∷◌, ◌++◌, None, Result, Ok, codes, if◌then◌else◌}
use Rattle.lf_units.specs.declared.geometry.Rect.{Rect}
use Rattle.lf_lex.specs.declared.fault.FaultNumber.TheVariants.{Unexpected}
use Rattle.lf_lex.specs.declared.fault.ReadFault.{ReadFault}
use Rattle.lf_lex.specs.Tokens.{Lexeme}
use Rattle.lf_lex.specs.Reading.{◌>>=◌, Reader, Statement, Turn, taken, continues, finishes, fault_at, token, name, is, block, first_counts}
use Rattle.lf_def.specs.declared.section.Due.{Due}
use Rattle.lf_def.specs.declared.section.Due.TheVariants.{Item, Keyword, Rest, Separator}
use Rattle.lf_def.specs.declared.regions.Region.{Region}
use Rattle.lf_def.specs.declared.regions.RegionKind.{RegionKind}
use Rattle.lf_def.specs.declared.regions.RegionKind.TheVariants.{Fence, Guide}
use Rattle.lf_def.specs.declared.regions.RegionParts.{RegionParts}
use Rattle.lf_def.specs.Coordinates.{def_rectangle, rect_rest}
use Rattle.lf_def.specs.Entries.{section}

-- The type that the token names.
abbrev pub kind_named : Lexeme → Result RegionKind ReadFault
kind_named t = if is (codes "FENCE") t then Ok Fence else if is (codes "GUIDE") t then Ok Guide
    else fault_at Unexpected t.line

-- Adds a rectangle.
unfoldable pub with_rect : RegionParts → Reader (Turn RegionParts)
with_rect parts l = do
  r ← rect_rest l
  continues (record parts { rects = parts.rects ++ r.value ∷ [] }) r.rest

-- TYPE FENCE or TYPE GUIDE after its word. The first one counts.
unfoldable pub with_kind : RegionParts → Reader (Turn RegionParts)
with_kind parts l = do
  t ← token l
  kind ← kind_named t.value
  continues (record parts { kind = first_counts parts.kind kind; due = Separator }) t.rest

-- The part of a region that begins with a token, which is no separator. Rectangles come first, TYPE
-- is read, and other clauses are skipped.
unfoldable pub region_part : Due → RegionParts → Lexeme → Reader (Turn RegionParts)
region_part Item parts t l = if is (codes "(") t then with_rect parts l else fault_at Unexpected t.line
region_part Keyword parts t l = if is (codes "TYPE") t then with_kind parts l
    else continues (record parts { due = Rest }) l
region_part Rest parts t l = continues parts l
region_part Separator parts t l = fault_at Unexpected t.line

-- The part of a region that begins with a token. A semicolon is the last, and a plus begins a
-- clause.
unfoldable pub region_from : RegionParts → Lexeme → Reader (Turn RegionParts)
region_from parts t l =
    if is (codes ";") t then finishes parts l
    else if is (codes "+") t then continues (record parts { due = Keyword }) l
    else region_part parts.due parts t l

unfoldable pub region_token : Statement RegionParts
region_token parts l = do
  t ← token l
  region_from parts t.value t.rest

abbrev pub first_rect : Rect → RegionParts
first_rect r = record { kind = None; rects = r ∷ []; due = Item }

-- A region after its minus.
unfoldable pub region : Reader Region
region l = do
  n ← name l
  r ← def_rectangle n.rest
  parts ← block region_token (first_rect r.value) r.rest
  taken (record { name = n.value.text; kind = parts.value.kind; rects = parts.value.rects }) parts.rest

-- REGIONS count ; entries END REGIONS, after its keyword.
abbrev pub regions : List Region → Reader (List Region)
regions known l = section (codes "REGIONS") region known l
