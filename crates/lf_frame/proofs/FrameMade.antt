-- The parts of an accepted design make a frame.
use Rattle.std.proofs.Common.{◌≡◌, ◌≢◌, ℕ, ℤ, pos, ◌<ℤ◌, ◌≤ℤ◌, ◌⊎◌, inl, inr, ◌<◌, ◌≤◌, length, Bool, true, false, List, map, get_or, Option, None, Some}
use Rattle.std.proofs.Common.{refl, arith}
use Rattle.std.specs.Prelude.{All, AllPairs, Any, Contains, IsSome, IfSome, filter, filter_map, flat_map, cond, ◌||◌, ◌&&◌, not}
use Rattle.std.specs.Str.{bytes_eq}
use Rattle.std.proofs.lemmas.Bool.{false≢true}
use Rattle.std.proofs.lemmas.Grind.{merely}
use Rattle.std.proofs.lemmas.Int.{ints}
use Rattle.std.proofs.lemmas.Option.{slice_get_within, get_or_from_slice_get}
use Rattle.std.proofs.lemmas.List.Elements.{All-nil, All-append, All-weaker}
use Rattle.lf_units.specs.declared.geometry.Point.{Point}
use Rattle.lf_units.specs.declared.geometry.Rect.{Rect}
use Rattle.lf_units.specs.Area.{SharesPoint}
use Rattle.lf_orient.specs.declared.Rail.{Rail}
use Rattle.lf_orient.specs.Orientation.{rail_below}
use Rattle.lf_lex.specs.declared.fault.FaultNumber.TheVariants.{RowOrient, RowsOverlap, SecondRegion, TeamName, FencesOverlap, TooMany}
use Rattle.lf_floorplan.specs.declared.sites.Site.{Site}
use Rattle.lf_floorplan.specs.declared.macros.Macro.{Macro}
use Rattle.lf_names.specs.Names.{position_of}
use Rattle.lf_lef.specs.Contents.{Contents, macro_names, IsMacro}
use Rattle.lf_lef.specs.Lengths.{IsLengthInRange, HasRange}
use Rattle.lf_def.specs.declared.rows.RowStatement.{RowStatement}
use Rattle.lf_def.specs.declared.regions.Region.{Region}
use Rattle.lf_def.specs.declared.components.Component.{Component}
use Rattle.lf_def.specs.declared.components.Location.{Location}
use Rattle.lf_def.specs.declared.components.PlacementClause.{PlacementClause}
use Rattle.lf_def.specs.declared.blockages.Blockage.{Blockage}
use Rattle.lf_def.specs.Ranges.{IsDefCoordinate, IsRect, IsRow, IsRegion, IsComponent, IsBlockage, IsLocation, IsPlacement}
use Rattle.lf_floorplan.specs.Bounds.{IsDefNumber, IsLefLength, IsLefSize, IsDefRect}
use Rattle.lf_floorplan.specs.Obstacles.{IsMacroBox, IsObstacle}
use Rattle.lf_floorplan.specs.Rows.{row_area, IsPitch, IsCoreRow, RowsApart}
use Rattle.lf_floorplan.specs.Fences.{IsFence, AreApart, FencesNamed, FencesApart}
use Rattle.lf_floorplan.specs.Sizes.{turned, box_at, size_in_dbu}
use Rattle.lf_frame.specs.Entries.{NoneBreaks}
use Rattle.lf_def.specs.Kinds.{is_fence, is_fixed}
use Rattle.lf_frame.specs.Teams.{fences}
use Rattle.lf_frame.specs.Loading.{at_place, is_core_row, frame_row, macro_named, has_size, IsWholeSize}
use Rattle.lf_frame.specs.Refusals.{IsSideways, OverlapsEarlierRow, EndsTooFar, HasEarlierFenceName, HasGroundName, SharePoint, OverlapsEarlierFence, IsRowTooMany}
use Rattle.lf_frame.specs.Refusals.{IsFenceTooMany}
use Rattle.lf_frame.specs.Findings.{LoadInputs, units_in, core_in, NameOfFirst, IsAccepted}
use Rattle.lf_frame.specs.Loads.{frame_team, location, IsSizedIn, FixedIsSized, fixed_box, blocked, softly_blocked, obstacles_in, soft_in, AreInRange}
use Rattle.lf_frame.proofs.Gathered.{none_of_name, pairs_from_none, all_kept, pairs_kept, few_kept, all_filter_map, all_flat_map}
use Rattle.lf_frame.proofs.CoreLemmas.{pitch_of_core, core_row_is_core}
use Rattle.lf_frame.proofs.Accepted.{of_core, of_pitch, first_nothing, fixed_sized}

lef_length : (v : ℤ) → IsLengthInRange v → IsLefLength v
lef_length v r = record { least = r.low; most = r.high }

lef_size : (p : Point) → HasRange p → IsLefSize p
lef_size p r = record { across = lef_length p.x r.x; up = lef_length p.y r.y }

def_number : (v : ℤ) → IsDefCoordinate v → IsDefNumber v
def_number v c = record { above = omega (arith, ints, c.low); most = c.high }

upright : (found : Option Rail) → ((IsSome found → ⊥) → ⊥) → IsSome found
upright None there = absurd (there (λ e. false≢true e))
upright (Some rail) there = refl

not_above : (x : ℤ) → (pos 2147483647 <ℤ x → ⊥) → x ≤ℤ pos 2147483647
not_above x near =
    let cases : (x ≤ℤ pos 2147483647) ⊎ (pos 2147483647 <ℤ x) = grind (arith, ints) in
    elim cases [
      | inl low ↦ low
      | inr far ↦ absurd (near far)
    ]

row_of_core : (pitch : Point) (r : RowStatement) → IsRow r → ((IsSome (rail_below r.orient) → ⊥) → ⊥) → (pos 2147483647 <ℤ (row_area pitch (frame_row r)).x2 → ⊥) →
    IsCoreRow pitch (frame_row r)
row_of_core pitch r range none_sideways near = record {
  x_in_def = def_number r.x range.x;
  y_in_def = def_number r.y range.y;
  has_site = range.sites_x.some;
  ends = not_above (row_area pitch (frame_row r)).x2 near;
  upright = upright (rail_below r.orient) none_sideways;
}

rows_are_core : (core : Site) (pitch : Point) (rows : List RowStatement) → All IsRow rows → NoneBreaks (IsSideways core) rows → NoneBreaks (EndsTooFar core pitch) rows →
    All (λ r. IsCoreRow pitch r) (map frame_row (filter (is_core_row core) rows))
rows_are_core core pitch rows range none_sideways near =
    all_kept (λ r. IsCoreRow pitch r) frame_row (is_core_row core) rows (λ k d within is. row_of_core pitch (get_or rows k d) (range k d within) (λ turned. none_sideways k d within (is, turned)) (λ far. near k d within (is, far)))

rows_apart : (core : Site) (pitch : Point) (rows : List RowStatement) → NoneBreaks (OverlapsEarlierRow core pitch) rows →
    RowsApart pitch (map frame_row (filter (is_core_row core) rows))
rows_apart core pitch rows none =
    pairs_kept (λ a b. SharesPoint (row_area pitch a) (row_area pitch b) → ⊥) frame_row (is_core_row core) rows
    (pairs_from_none (is_core_row core) (λ e r. SharesPoint (row_area pitch (frame_row e)) (row_area pitch (frame_row r))) rows none)

def_rect : (r : Rect) → IsRect r → IsDefRect r
def_rect r c = record {
  across = record { from = def_number r.x1 c.x1; to = def_number r.x2 c.x2; in_order = c.across };
  up = record { from = def_number r.y1 c.y1; to = def_number r.y2 c.y2; in_order = c.up };
}

fences_whole : (regions : List Region) → All IsRegion regions → NoneBreaks HasGroundName regions → All IsFence (map frame_team (fences regions))
fences_whole regions range none =
    all_kept IsFence frame_team is_fence regions (λ k d within is. record {
      named = λ same. none k d within (is, same);
      has_rect = (range k d within).has_rect;
      rects_in_def = All-weaker IsRect IsDefRect def_rect (get_or regions k d).rects (range k d within).rects;
    })

fences_named : (regions : List Region) → NoneBreaks HasEarlierFenceName regions → FencesNamed (map frame_team (fences regions))
fences_named regions none = pairs_kept (λ a b. a.name ≢ b.name) frame_team is_fence regions (pairs_from_none is_fence (λ e r. e.name ≡ r.name) regions none)

fences_apart : (regions : List Region) → NoneBreaks OverlapsEarlierFence regions → FencesApart (map frame_team (fences regions))
fences_apart regions none =
    pairs_kept AreApart frame_team is_fence regions
    (λ i j d below within a b. record { no_point = λ x y in_a in_b. pairs_from_none is_fence (λ e r. SharePoint e.rects r.rects) regions none i j d below within a b (record { x = x; y = y; in_first = in_a; in_second = in_b }) })

fixed_at : (units : ℕ) (macros : List Macro) (m : Macro) (at : Location) → IsLocation at → Contains macros m → IsSizedIn units m →
    IsMacroBox units macros (box_at (turned (size_in_dbu units m.size) at.orient) at.x at.y)
fixed_at units macros m at range known sized = record {
  mac = m;
  known = known;
  whole = sized.whole;
  orient = at.orient;
  x_in_def = def_number at.x range.0;
  y_in_def = def_number at.y range.1;
  box = refl;
}

-- The macro with a name is one of the library's.
macro_known : (library : Contents) (name : List ℕ) (m : Macro) → macro_named library name ≡ Some m → Contains library.macros m
macro_known library name m is = by (position_of (macro_names library.macros) name) is
  where
    by : (at : Option ℕ) → at_place library.macros at ≡ Some m → Contains library.macros m
    by None e = absurd (cc)
    by (Some at) e = (at, slice_get_within library.macros at m e, get_or_from_slice_get library.macros at m m e)

fixed_obstacle : (library : Contents) (units : ℕ) (c : Component) → IsComponent c → FixedIsSized library units c →
    IfSome (fixed_box library units c) (IsObstacle units library.macros)
fixed_obstacle library units c range sized = by (is_fixed c) refl
  where
    found : (at : Option Location) (mac : Option Macro) → IfSome at (λ p. IsLocation p) → IfSome mac (IsSizedIn units) →
        ((m : Macro) → mac ≡ Some m → Contains library.macros m) →
        IfSome (Rattle.std.specs.Option.option_and_then (λ p. Rattle.std.specs.Prelude.option_map
        (λ m. box_at (turned (size_in_dbu units m.size) p.orient) p.x p.y) mac) at) (IsObstacle units library.macros)
    found None mac at_range mac_sized known = tt
    found (Some p) None at_range mac_sized known = tt
    found (Some p) (Some m) at_range mac_sized known = merely (inr (fixed_at units library.macros m p at_range (known m refl) mac_sized))

    placed : (p : Option PlacementClause) → IfSome p (λ q. IsPlacement q) →
        IfSome (Rattle.std.specs.Option.option_and_then (λ (q : PlacementClause). q.place) p) (λ at. IsLocation at)
    placed None placement = tt
    placed (Some q) placement = placement

    by : (t : Bool) → is_fixed c ≡ t → IfSome (fixed_box library units c) (IsObstacle units library.macros)
    by false is = rw is tt
    by true is = rw is (found (location c) (macro_named library c.mac) (placed c.placement range.placement) (sized is) (macro_known library c.mac))

blocked_obstacles : (units : ℕ) (macros : List Macro) (b : Blockage) → IsBlockage b → All (IsObstacle units macros) (blocked b)
blocked_obstacles units macros b range = by (b.soft || b.partial) refl
  where
    by : (t : Bool) → (b.soft || b.partial) ≡ t → All (IsObstacle units macros) (blocked b)
    by true is = rw is (All-nil (IsObstacle units macros))
    by false is = rw is (All-weaker IsRect (IsObstacle units macros) (λ r rect. merely (inl (def_rect r rect))) b.rects range.rects)

obstacles_in_range : (i : LoadInputs) → AreInRange i → IsAccepted i → All (IsObstacle (units_in i) i.library.macros) (obstacles_in i)
obstacles_in_range i range a =
    let Obstacle : Rect → Type 0 = IsObstacle (units_in i) i.library.macros in
    All-append Obstacle (filter_map (fixed_box i.library (units_in i)) i.document.components) (flat_map blocked i.document.blockages)
    (all_filter_map Obstacle (fixed_box i.library (units_in i)) i.document.components
    (λ k d within. fixed_obstacle i.library (units_in i) (get_or i.document.components k d) (range.components k d within) (fixed_sized i range a k d within)))
    (all_flat_map Obstacle blocked i.document.blockages (λ k d within. blocked_obstacles (units_in i) i.library.macros (get_or i.document.blockages k d)
    (range.blockages k d within)))

softly_blocked_in_def : (b : Blockage) → IsBlockage b → All IsDefRect (softly_blocked b)
softly_blocked_in_def b range = by (b.soft && not b.partial) refl
  where
    by : (t : Bool) → (b.soft && not b.partial) ≡ t → All IsDefRect (softly_blocked b)
    by false is = rw is (All-nil IsDefRect)
    by true is = rw is (All-weaker IsRect IsDefRect def_rect b.rects range.rects)

soft_in_def : (i : LoadInputs) → AreInRange i → All IsDefRect (soft_in i)
soft_in_def i range =
    all_flat_map IsDefRect softly_blocked i.document.blockages
    (λ k d within. softly_blocked_in_def (get_or i.document.blockages k d) (range.blockages k d within))

macros_in_lef : (macros : List Macro) → All IsMacro macros → All (λ m. IsLefSize m.size × IsLefSize m.origin) macros
macros_in_lef macros range = All-weaker IsMacro (λ m. IsLefSize m.size × IsLefSize m.origin) (λ m is. (lef_size m.size is.size, lef_size m.origin is.origin)) macros range

-- No row ends too far right.
near_rows : (i : LoadInputs) (core : Site) → core_in i ≡ Some core → IsWholeSize (units_in i) core.size → IsAccepted i →
    NoneBreaks (EndsTooFar core (size_in_dbu (units_in i) core.size)) i.document.rows
near_rows i core is whole a =
    let after_rows = (first_nothing (a TooMany)).1 in
    let after_fences = (first_nothing after_rows).1 in
    none_of_name (of_pitch i core (λ s pitch. NameOfFirst (λ r. r.name) (EndsTooFar s pitch) i.document.rows) is whole (first_nothing after_fences).1)

-- The number of core rows is at most the limit.
few_rows : (i : LoadInputs) (core : Site) → core_in i ≡ Some core → IsAccepted i → length (map frame_row (filter (is_core_row core) i.document.rows)) ≤ i.limits.rows
few_rows i core is a =
    few_kept frame_row (is_core_row core) i.limits.rows i.document.rows
    (none_of_name (of_core i core (λ s. NameOfFirst (λ r. r.name) (IsRowTooMany s i.limits.rows) i.document.rows) is (first_nothing (a TooMany)).0))

-- The number of fences is at most the limit.
pub few_fences : (i : LoadInputs) → IsAccepted i → length (map frame_team (fences i.document.regions)) ≤ i.limits.fences
few_fences i a =
    let after_rows = (first_nothing (a TooMany)).1 in
    few_kept frame_team is_fence i.limits.fences i.document.regions (none_of_name {breaks = IsFenceTooMany i.limits.fences} (first_nothing after_rows).0)

-- The facts about the core rows, the fences, the obstacles, the soft blockages and the macros that
-- a frame of an accepted design with this core site guarantees.
pub record IsFrameKept (i : LoadInputs) (core : Site) : Type 0 where
  pub site_in_lef : IsLefSize core.size
  pub pitch_whole : IsPitch (units_in i) core.size (size_in_dbu (units_in i) core.size)
  pub has_row : 0 < length (map frame_row (filter (is_core_row core) i.document.rows))
  pub few_rows : length (map frame_row (filter (is_core_row core) i.document.rows)) ≤ i.limits.rows
  pub rows_are_core : All (λ r. IsCoreRow (size_in_dbu (units_in i) core.size) r) (map frame_row (filter (is_core_row core) i.document.rows))
  pub rows_apart : RowsApart (size_in_dbu (units_in i) core.size) (map frame_row (filter (is_core_row core) i.document.rows))
  pub few_fences : length (map frame_team (fences i.document.regions)) ≤ i.limits.fences
  pub fences_whole : All IsFence (map frame_team (fences i.document.regions))
  pub fences_named : FencesNamed (map frame_team (fences i.document.regions))
  pub fences_apart : FencesApart (map frame_team (fences i.document.regions))
  pub obstacles_in_range : All (IsObstacle (units_in i) i.library.macros) (obstacles_in i)
  pub soft_in_def : All IsDefRect (soft_in i)
  pub macros_in_lef : All (λ m. IsLefSize m.size × IsLefSize m.origin) i.library.macros

pub frame_kept : (i : LoadInputs) (core : Site) → AreInRange i → IsAccepted i → core_in i ≡ Some core → HasRange core.size → has_size core.size ≡ true →
    IsWholeSize (units_in i) core.size → IsFrameKept i core
frame_kept i core range a is site sized whole =
    let at : Point = size_in_dbu (units_in i) core.size in
    let turned = none_of_name (of_core i core (λ s. NameOfFirst (λ r. r.name) (IsSideways s) i.document.rows) is (a RowOrient)) in
    let meeting = none_of_name (of_pitch i core (λ s pitch. NameOfFirst (λ r. r.name) (OverlapsEarlierRow s pitch) i.document.rows) is whole (a RowsOverlap)) in
    record {
      site_in_lef = lef_size core.size site;
      pitch_whole = pitch_of_core (units_in i) core.size range.units.least range.units.most site sized whole;
      has_row = core_row_is_core i.library i.document.rows core is;
      few_rows = few_rows i core is a;
      rows_are_core = rows_are_core core at i.document.rows range.rows turned (near_rows i core is whole a);
      rows_apart = rows_apart core at i.document.rows meeting;
      few_fences = few_fences i a;
      fences_whole = fences_whole i.document.regions range.regions (none_of_name (a TeamName));
      fences_named = fences_named i.document.regions (none_of_name (a SecondRegion));
      fences_apart = fences_apart i.document.regions (none_of_name (a FencesOverlap));
      obstacles_in_range = obstacles_in_range i range a;
      soft_in_def = soft_in_def i range;
      macros_in_lef = macros_in_lef i.library.macros range.macros;
    }
