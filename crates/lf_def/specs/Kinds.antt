-- Regions that are fences, and components that are FIXED, COVER or movable by teams (DEF REGIONS,
-- COMPONENTS).
use Rattle.std.specs.Prelude.{Bool, true, false, not, ◌&&◌, Option, Some, None}
use Rattle.lf_def.specs.declared.regions.Region.{Region}
use Rattle.lf_def.specs.declared.regions.RegionKind.{RegionKind}
use Rattle.lf_def.specs.declared.regions.RegionKind.TheVariants.{Fence, Guide}
use Rattle.lf_def.specs.declared.components.Component.{Component}
use Rattle.lf_def.specs.declared.components.PlacementClause.{PlacementClause}
use Rattle.lf_def.specs.declared.components.PlacementKind.{PlacementKind}
use Rattle.lf_def.specs.declared.components.PlacementKind.TheVariants.{Fixed, Cover, Placed, Unplaced}

abbrev pub is_fence_kind : Option RegionKind → Bool
is_fence_kind (Some Fence) = true
is_fence_kind (Some Guide) = false
is_fence_kind None = false

-- True if the region is a fence: its TYPE is FENCE.
abbrev pub is_fence : Region → Bool
is_fence r = is_fence_kind r.kind

abbrev pub is_fixed_kind : PlacementKind → Bool
is_fixed_kind Fixed = true
is_fixed_kind Cover = false
is_fixed_kind Placed = false
is_fixed_kind Unplaced = false

abbrev pub is_cover_kind : PlacementKind → Bool
is_cover_kind Fixed = false
is_cover_kind Cover = true
is_cover_kind Placed = false
is_cover_kind Unplaced = false

-- True if there is a placement clause of this kind.
abbrev pub has_kind : (PlacementKind → Bool) → Option PlacementClause → Bool
has_kind is_kind None = false
has_kind is_kind (Some p) = is_kind p.kind

abbrev pub is_fixed : Component → Bool
is_fixed c = has_kind is_fixed_kind c.placement

abbrev pub is_cover : Component → Bool
is_cover c = has_kind is_cover_kind c.placement

-- True if teams may move the component: it is neither FIXED nor COVER.
abbrev pub is_movable : Component → Bool
is_movable c = not (is_fixed c) && not (is_cover c)
