-- The ranges of numbers that the types of a frame keep.
use Rattle.std.specs.Prelude.{ℕ, ℤ, pos, negsuc, ◌≤◌, ◌≤ℤ◌, ◌<ℤ◌, List, All, length}
use Rattle.lf_units.specs.declared.geometry.Point.{Point}
use Rattle.lf_units.specs.declared.geometry.Rect.{Rect}

-- The value is from 1 to the largest.
pub record IsLimit (value largest : ℕ) : Type 0 where
  pub least : 1 ≤ value
  pub most : value ≤ largest

-- Each limit is from 1 to its largest value.
pub record AreLimits (rows fences components sessions undo revisions : ℕ) : Type 0 where
  pub rows_within : IsLimit rows 65535
  pub fences_within : IsLimit fences 1024
  pub components_within : IsLimit components 4000000
  pub sessions_within : IsLimit sessions 64
  pub undo_within : IsLimit undo 1024
  pub revisions_within : IsLimit revisions 4000000000

-- A coordinate that a DEF text can hold: from -2147483647 to 2147483647.
pub record IsDefNumber (v : ℤ) : Type 0 where
  pub above : negsuc 2147483647 <ℤ v
  pub most : v ≤ℤ pos 2147483647

-- A length that a LEF text can hold, in millionths of a micron: its absolute value is at most a
-- million microns.
pub record IsLefLength (v : ℤ) : Type 0 where
  pub least : negsuc 999999999999 ≤ℤ v
  pub most : v ≤ℤ pos 1000000000000

-- Both lengths of a size or an offset.
pub record IsLefSize (p : Point) : Type 0 where
  pub across : IsLefLength p.x
  pub up : IsLefLength p.y

-- Two coordinates that a DEF text can hold, the lesser one first.
pub record IsDefRange (lo hi : ℤ) : Type 0 where
  pub from : IsDefNumber lo
  pub to : IsDefNumber hi
  pub in_order : lo ≤ℤ hi

-- A rectangle of a DEF text; its lower left corner is not above or right of its upper right one.
pub record IsDefRect (r : Rect) : Type 0 where
  pub across : IsDefRange r.x1 r.x2
  pub up : IsDefRange r.y1 r.y2

-- A range that begins at a coordinate that a DEF text can hold. It may reach past the largest one
-- by the largest size of a macro.
pub record IsNearDefRange (lo hi : ℤ) : Type 0 where
  pub from : IsDefNumber lo
  pub to : hi ≤ℤ pos 22147483647
  pub in_order : lo ≤ℤ hi

-- A rectangle whose lower left corner a DEF text can hold. It reaches past the largest coordinate
-- by at most the largest size of a macro.
pub record IsNearDefRect (r : Rect) : Type 0 where
  pub across : IsNearDefRange r.x1 r.x2
  pub up : IsNearDefRange r.y1 r.y2

-- A byte that a word of a text may have.
pub record IsPrinted (byte : ℕ) : Type 0 where
  pub least : 33 ≤ byte
  pub most : byte ≤ 126

-- A name of at most 1,024 bytes; a word may have each of these bytes.
pub record IsDesignName (name : List ℕ) : Type 0 where
  pub short : length name ≤ 1024
  pub printed : All IsPrinted name
