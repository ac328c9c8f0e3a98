-- The place that a cell gets: the key of a place, the best place, and the anchor of a team.
use Rattle.std.specs.Prelude.{◌≡◌, ◌⊎◌, ℕ, ℤ, pos, ◌+◌, ◌<◌, ◌-ℤ◌, ◌<ℤ◌, List, [], ◌∷◌, Option, slice_get, IsSome, MatchOption}
use Rattle.std.specs.Int.RustNames.{unsigned_abs}
use Rattle.std.specs.Option.{option_map_or}
use Rattle.lf_units.specs.declared.geometry.Point.{Point}
use Rattle.lf_units.specs.declared.geometry.Rect.{Rect}
use Rattle.lf_orient.specs.declared.Orient.{Orient}
use Rattle.lf_orient.specs.declared.Orient.TheVariants.{N, S, FN, FS}
use Rattle.lf_orient.specs.Orientation.{rail_below}
use Rattle.lf_floorplan.specs.declared.frame.Frame.{Frame}
use Rattle.lf_floorplan.specs.declared.macros.Macro.{Macro}
use Rattle.lf_floorplan.specs.declared.parts.Row.{Row}
use Rattle.lf_floorplan.specs.declared.place.Place.{Place}
use Rattle.lf_floorplan.specs.Bounds.{IsDefNumber}
use Rattle.lf_floorplan.specs.Boxes.{IsSized}
use Rattle.lf_floorplan.specs.Ground.{OverlapsSoft}
use Rattle.lf_units.specs.declared.placed.Placed.{Placed}
use Rattle.lf_rules.specs.Legality.{Candidate, box_of, IsTeamLegal}

-- A place with unbounded coordinates.
pub record SpotPlace : Type 0 where
  pub x : ℤ
  pub y : ℤ
  pub orient : Orient

-- A place of the program, with unbounded coordinates.
abbrev pub spot_of : Place → SpotPlace
spot_of p = record { x = p.x; y = p.y; orient = p.orient }

-- A cell without its place: its frame, its team, the team's padding, its macro, and the team's
-- other placed cells.
pub record PlacementQuery : Type 0 where
  pub frame : Frame
  pub team : ℕ
  pub padding : ℕ
  pub mac : Macro
  pub others : List Placed

-- The cell at a candidate place.
abbrev pub candidate_at : PlacementQuery → SpotPlace → Candidate
candidate_at c p =
    record {
      frame = c.frame;
      team = c.team;
      padding = c.padding;
      mac = c.mac;
      x = p.x;
      y = p.y;
      orient = p.orient;
      others = c.others;
    }

-- The place is team-legal for the cell.
abbrev pub IsLegalAt : PlacementQuery → SpotPlace → Type 0
IsLegalAt c p = IsTeamLegal (candidate_at c p)

-- A search may put the cell at the place: it is team-legal, and the cell's box there shares no
-- point with a soft blockage.
pub record IsAllowedPlace (c : PlacementQuery) (p : SpotPlace) : Type 0 where
  pub legal : IsLegalAt c p
  pub off_soft : OverlapsSoft c.frame (box_of (candidate_at c p)) → ⊥

-- A legal place of a macro of whole size has coordinates that a DEF text can hold.
abbrev pub LegalInRange : Type 0
LegalInRange = (t : Candidate) → IsSized t.frame t.mac → IsTeamLegal t → IsDefNumber t.x × IsDefNumber t.y

-- ---- the best place

-- The rank of an orientation. Of places that differ only in their orientation, N comes first, then
-- S, FN and FS.
abbrev pub rank : Orient → ℕ
rank N = 0
rank S = 1
rank FN = 2
rank FS = 3
rank _ = 4

-- The distance of the place from the target along x plus that along y.
abbrev pub distance : Point → SpotPlace → ℕ
distance target p = unsigned_abs (p.x -ℤ target.x) + unsigned_abs (p.y -ℤ target.y)

-- p has the lesser key: by distance, then y, then x, then rank.
abbrev pub Precedes : Point → SpotPlace → SpotPlace → Type 0
Precedes target p q =
    (distance target p < distance target q)
    ⊎ ((distance target p ≡ distance target q)
    × ((p.y <ℤ q.y) ⊎ ((p.y ≡ q.y) × ((p.x <ℤ q.x) ⊎ ((p.x ≡ q.x) × (rank p.orient < rank q.orient))))))

-- Both places have the same key.
pub record SameKey (target : Point) (p q : SpotPlace) : Type 0 where
  pub as_far : distance target p ≡ distance target q
  pub y_is : p.y ≡ q.y
  pub x_is : p.x ≡ q.x
  pub rank_is : rank p.orient ≡ rank q.orient

-- The orientation is N, S, FN or FS, as that of each legal place.
abbrev pub IsUpright : Orient → Type 0
IsUpright o = IsSome (rail_below o)

-- Two upright places with the same key are equal.
abbrev pub KeysDiffer : Type 0
KeysDiffer = (target : Point) (p q : SpotPlace) → IsUpright p.orient → IsUpright q.orient → SameKey target p q → p ≡ q

-- The keys order the upright places: no place precedes itself, the order is transitive, and of two
-- different places one precedes the other.
pub record KeyOrders : Type 0 where
  pub not_itself : (target : Point) (p : SpotPlace) → Precedes target p p → ⊥
  pub through : (target : Point) (p q r : SpotPlace) → Precedes target p q → Precedes target q r → Precedes target p r
  pub total : (target : Point) (p q : SpotPlace) → IsUpright p.orient → IsUpright q.orient
      → (p ≡ q) ⊎ (Precedes target p q ⊎ Precedes target q p)

-- A legal place is upright.
abbrev pub LegalIsUpright : Type 0
LegalIsUpright = (c : PlacementQuery) (p : SpotPlace) → IsLegalAt c p → IsUpright p.orient

-- The place of least key among those where a search may put the cell.
pub record IsBest (c : PlacementQuery) (target : Point) (best : SpotPlace) : Type 0 where
  pub may_go : IsAllowedPlace c best
  pub least : (p : SpotPlace) → IsAllowedPlace c p → (p ≡ best) ⊎ Precedes target best p

-- The result of a search for the best place: that place, or `None` only if there is no place where
-- it may put the cell.
abbrev pub IsChoice : PlacementQuery → Point → Option SpotPlace → Type 0
IsChoice c target found = MatchOption found ((p : SpotPlace) → IsAllowedPlace c p → ⊥) (λ best. IsBest c target best)

-- A search has one result.
abbrev pub BestPlaceIsUnique : Type 0
BestPlaceIsUnique = (c : PlacementQuery) (target : Point) (a b : Option SpotPlace) → IsChoice c target a
    → IsChoice c target b → a ≡ b

-- ---- the anchor

-- The lower left corner of the first rectangle. A fence has at least one.
abbrev pub first_corner : List Rect → Point
first_corner [] = record { x = pos 0; y = pos 0 }
first_corner (r ∷ _) = record { x = r.x1; y = r.y1 }

-- The origin of the first row. A frame has at least one.
abbrev pub first_origin : List Row → Point
first_origin [] = record { x = pos 0; y = pos 0 }
first_origin (r ∷ _) = record { x = r.x; y = r.y }

-- The target of a team's unplaced cells: the lower left corner of its fence's first rectangle. For
-- the ground team, the origin of the frame's first row.
abbrev pub anchor : Frame → ℕ → Point
anchor f team = option_map_or (λ fence. first_corner fence.rects) (slice_get f.teams team) (first_origin f.rows)
