-- The contents of a component, and how they are stored.
use Rattle.std.specs.Prelude.{ℕ, ℤ, ◌<◌, List, Option, Some, None}
use Rattle.lf_orient.specs.declared.Orient.{Orient}
use Rattle.lf_def.specs.declared.components.Location.{Location}
use Rattle.lf_def.specs.declared.components.PlacementClause.{PlacementClause}
use Rattle.lf_def.specs.declared.components.PlacementKind.{PlacementKind}
use Rattle.lf_def.specs.declared.offsets.Offsets.{Offsets}
use Rattle.lf_def.specs.declared.offsets.Kept.{Kept}
use Rattle.lf_def.specs.declared.offsets.Kept.TheVariants.{Near, Far}

-- The names of a component and of its macro, and the kind and the place of its placement clause.
pub record ComponentWords : Type 0 where
  pub name : List ℕ
  pub mac : List ℕ
  pub kind : Option PlacementKind
  pub place : Option Location

-- A component (DEF COMPONENTS): its name, its macro's name, its placement clause, and the offset of
-- its semicolon.
pub record ComponentFacts : Type 0 where
  pub name : List ℕ
  pub mac : List ℕ
  pub placement : Option PlacementClause
  pub semicolon : ℕ

-- The place at these coordinates, if there is an orientation.
abbrev pub place_from : ℤ → ℤ → Option Orient → Option Location
place_from x y None = None
place_from x y (Some orient) = Some (record { x = x; y = y; orient = orient })

-- The placement clause with this place and these offsets, if there is a kind.
abbrev pub placement_from : Option PlacementKind → Option Location → ℕ → ℕ → Option PlacementClause
placement_from None place start stop = None
placement_from (Some kind) place start stop = Some (record { kind = kind; place = place; start = start; stop = stop })

-- The kind of a placement clause, if there is one.
abbrev pub kind_named : Option PlacementClause → Option PlacementKind
kind_named None = None
kind_named (Some clause) = Some clause.kind

-- The offsets that are stored in this form.
abbrev pub offsets_of : Kept → Offsets
offsets_of (Near start stop semicolon) = record { start = start; stop = stop; semicolon = semicolon }
offsets_of (Far offsets) = offsets.value

-- Holds if the offset fits into 32 bits.
abbrev pub OffsetFits : ℕ → Type 0
OffsetFits offset = offset < 4294967296

-- Holds if each of the offsets fits into 32 bits.
pub record OffsetsFit (offsets : Offsets) : Type 0 where
  pub start : OffsetFits offsets.start
  pub stop : OffsetFits offsets.stop
  pub semicolon : OffsetFits offsets.semicolon
