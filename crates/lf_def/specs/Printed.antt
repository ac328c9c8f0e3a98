-- Printed DEF texts: the words of a value, with white space between.
use Rattle.std.specs.Prelude.{◌≡◌, ◌≢◌, ℕ, List, [], ◌∷◌, ◌++◌, All, IfSome, map, ℤ, pos, Bool, true, false, Option, Some, None, Ok, codes}
use Rattle.lf_units.specs.declared.geometry.Point.{Point}
use Rattle.lf_units.specs.declared.geometry.Rect.{Rect}
use Rattle.lf_units.specs.Number.{fixed_of}
use Rattle.lf_orient.specs.Words.{orient_word}
use Rattle.lf_lex.specs.Tokens.{Lexed, Lexeme, plain, with_tokens}
use Rattle.lf_lex.specs.Reading.{Reader, taken, IsName}
use Rattle.lf_lex.specs.Splices.{plain_word}
use Rattle.lf_def.specs.declared.rows.RowStatement.{RowStatement}
use Rattle.lf_def.specs.declared.regions.Region.{Region}
use Rattle.lf_def.specs.declared.regions.RegionKind.{RegionKind}
use Rattle.lf_def.specs.declared.regions.RegionKind.TheVariants.{Fence, Guide}
use Rattle.lf_def.specs.declared.groups.Group.{Group}
use Rattle.lf_def.specs.declared.components.Component.{Component}
use Rattle.lf_def.specs.declared.components.Location.{Location}
use Rattle.lf_def.specs.declared.components.PlacementClause.{PlacementClause}
use Rattle.lf_def.specs.declared.components.PlacementKind.{PlacementKind}
use Rattle.lf_def.specs.declared.components.PlacementKind.TheVariants.{Fixed, Cover, Placed, Unplaced}
use Rattle.lf_def.specs.declared.blockages.Blockage.{Blockage}
use Rattle.lf_def.specs.Ranges.{IsDefCoordinate, IsRow, IsRect, IsLocation}
use Rattle.lf_def.specs.Components.{component}
use Rattle.lf_def.specs.Laws.{without_places}

-- Holds if each coordinate that is printed like this reads back.
abbrev pub WritesNumbers : (ℤ → List ℕ) → Type 0
WritesNumbers print = (x : ℤ) → IsDefCoordinate x → fixed_of (print x) 0 2147483647 ≡ Ok x

-- A name other than a semicolon.
pub record IsWord (n : List ℕ) : Type 0 where
  pub name : IsName n
  pub other : n ≢ codes ";"

-- ( x1 y1 ) ( x2 y2 ): the lower left corner, then the upper right one.
abbrev pub rect_words : (ℤ → List ℕ) → Rect → List (List ℕ) → List (List ℕ)
rect_words print r rest =
    codes "(" ∷ print r.x1 ∷ print r.y1 ∷ codes ")" ∷ codes "(" ∷ print r.x2 ∷ print r.y2 ∷ codes ")" ∷ rest

-- Rows (DEF ROW).

abbrev pub step_words : (ℤ → List ℕ) → Option Point → List (List ℕ)
step_words print None = codes ";" ∷ []
step_words print (Some p) = codes "STEP" ∷ print p.x ∷ print p.y ∷ codes ";" ∷ []

-- name site x y orient DO numX BY numY [STEP sx sy] ;
abbrev pub row_words : (ℤ → List ℕ) → RowStatement → List (List ℕ)
row_words print r = r.name ∷ r.site ∷ print r.x ∷ print r.y ∷ orient_word r.orient ∷ codes "DO" ∷ print (pos r.sites_x)
    ∷ codes "BY" ∷ print (pos r.sites_y) ∷ step_words print r.step

pub record IsPrintedRow (r : RowStatement) : Type 0 where
  pub row : IsRow r
  pub name : IsWord r.name
  pub site : IsWord r.site

-- Regions (DEF REGIONS).

abbrev pub region_kind_words : Option RegionKind → List (List ℕ)
region_kind_words None = codes ";" ∷ []
region_kind_words (Some Fence) = codes "+" ∷ codes "TYPE" ∷ codes "FENCE" ∷ codes ";" ∷ []
region_kind_words (Some Guide) = codes "+" ∷ codes "TYPE" ∷ codes "GUIDE" ∷ codes ";" ∷ []

abbrev pub rects_words : (ℤ → List ℕ) → List Rect → List (List ℕ) → List (List ℕ)
rects_words print [] rest = rest
rects_words print (r ∷ rs) rest = rect_words print r (rects_words print rs rest)

-- name pt pt {pt pt} [+ TYPE FENCE | + TYPE GUIDE] ;
abbrev pub region_words : (ℤ → List ℕ) → Region → List (List ℕ)
region_words print r = r.name ∷ rects_words print r.rects (region_kind_words r.kind)

pub record IsPrintedRegion (r : Region) : Type 0 where
  pub name : IsWord r.name
  pub rects : All IsRect r.rects
  pub some : r.rects ≢ []

-- Groups (DEF GROUPS).

abbrev pub group_region_words : Option (List ℕ) → List (List ℕ)
group_region_words None = codes ";" ∷ []
group_region_words (Some n) = codes "+" ∷ codes "REGION" ∷ n ∷ codes ";" ∷ []

-- name {pattern} [+ REGION name] ;
abbrev pub group_words : Group → List (List ℕ)
group_words g = g.name ∷ (g.patterns ++ group_region_words g.region)

-- A pattern is not a plus.
pub record IsPattern (p : List ℕ) : Type 0 where
  pub word : IsWord p
  pub other : p ≢ codes "+"

-- The name of a region is not a parenthesis.
pub record IsRegionName (n : List ℕ) : Type 0 where
  pub word : IsWord n
  pub other : n ≢ codes "("

pub record IsPrintedGroup (g : Group) : Type 0 where
  pub name : IsWord g.name
  pub patterns : All IsPattern g.patterns
  pub region : IfSome g.region (λ n. IsRegionName n)

-- Components (DEF COMPONENTS).

abbrev pub kind_word : PlacementKind → List ℕ
kind_word Fixed = codes "FIXED"
kind_word Cover = codes "COVER"
kind_word Placed = codes "PLACED"
kind_word Unplaced = codes "UNPLACED"

abbrev pub location_words : (ℤ → List ℕ) → Option Location → List (List ℕ)
location_words print None = codes ";" ∷ []
location_words print (Some p) = codes "(" ∷ print p.x ∷ print p.y ∷ codes ")" ∷ orient_word p.orient ∷ codes ";" ∷ []

abbrev pub placement_words : (ℤ → List ℕ) → Option PlacementClause → List (List ℕ)
placement_words print None = codes ";" ∷ []
placement_words print (Some p) = codes "+" ∷ kind_word p.kind ∷ location_words print p.place

-- name macro [+ FIXED pt orient | + COVER pt orient | + PLACED pt orient | + UNPLACED] ;
abbrev pub component_words : (ℤ → List ℕ) → Component → List (List ℕ)
component_words print c = c.name ∷ c.mac ∷ placement_words print c.placement

-- Holds if UNPLACED has no place, or another kind has one.
abbrev pub HasPlace : PlacementKind → Option Location → Type 0
HasPlace Unplaced None = Unit {0}
HasPlace Unplaced (Some p) = ⊥
HasPlace _ None = ⊥
HasPlace _ (Some p) = IsLocation p

pub record IsPrintedComponent (c : Component) : Type 0 where
  pub name : IsWord c.name
  pub mac : IsWord c.mac
  pub placement : IfSome c.placement (λ p. HasPlace p.kind p.place)

-- Blockages (DEF BLOCKAGES).

abbrev pub block_rects_words : (ℤ → List ℕ) → List Rect → List (List ℕ)
block_rects_words print [] = codes ";" ∷ []
block_rects_words print (r ∷ rs) = codes "RECT" ∷ rect_words print r (block_rects_words print rs)

abbrev pub soft_words : Bool → List (List ℕ) → List (List ℕ)
soft_words true rest = codes "+" ∷ codes "SOFT" ∷ rest
soft_words false rest = rest

-- PLACEMENT [+ SOFT] [+ PARTIAL density] {RECT pt pt} ;
abbrev pub partial_words : Bool → List (List ℕ) → List (List ℕ)
partial_words true rest = codes "+" ∷ codes "PARTIAL" ∷ codes "0.5" ∷ rest
partial_words false rest = rest

abbrev pub blockage_words : (ℤ → List ℕ) → Blockage → List (List ℕ)
blockage_words print b =
    codes "PLACEMENT" ∷ soft_words b.soft (partial_words b.partial (block_rects_words print b.rects))

abbrev pub IsPrintedBlockage : Blockage → Type 0
IsPrintedBlockage b = All IsRect b.rects

-- Holds if tokens with these bytes read as this value, whatever follows.
abbrev pub ReadsBack : {A : Type 0} → Reader A → List (List ℕ) → A → Type 0
ReadsBack reader words x = (tokens : List Lexeme) → map plain tokens ≡ map plain_word words
    → (after_it : Lexed) → reader (with_tokens tokens after_it) ≡ taken x after_it

-- The same for a component, except for its offsets.
abbrev pub ComponentReadsBack : List (List ℕ) → Component → Type 0
ComponentReadsBack words c = (tokens : List Lexeme) → map plain tokens ≡ map plain_word words → (after_it : Lexed)
    → (read : Component) × (component (with_tokens tokens after_it) ≡ taken read after_it)
    × (without_places read ≡ without_places c)

-- The same for a list of components.
abbrev pub ComponentsReadBack : Reader (List Component) → List (List ℕ) → List Component → Type 0
ComponentsReadBack reader words cs = (tokens : List Lexeme) → map plain tokens ≡ map plain_word words
    → (after_it : Lexed)
    → (read : List Component) × (reader (with_tokens tokens after_it) ≡ taken read after_it)
    × (map without_places read ≡ map without_places cs)

-- Each entry after its minus.
abbrev pub entries_words : {A : Type 0} → (A → List (List ℕ)) → List A → List (List ℕ) → List (List ℕ)
entries_words words [] rest = rest
entries_words words (x ∷ xs) rest = codes "-" ∷ (words x ++ entries_words words xs rest)

-- count ; entries END and the keyword
abbrev pub section_words : {A : Type 0} → List ℕ → List ℕ → (A → List (List ℕ)) → List A → List (List ℕ)
section_words keyword count words xs = count ∷ codes ";" ∷ entries_words words xs (codes "END" ∷ keyword ∷ [])
