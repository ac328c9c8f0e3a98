-- The frames of one design are equal. The proofs in a frame about its fields are propositions.
use Rattle.std.proofs.Common.{◌≡◌, ℕ, ◌<◌, ◌≤◌, List, length, map, All, ℤ, pos, ◌*ℤ◌, ap, sym, ◌∙◌, arith}
use Rattle.std.specs.Prelude.{filter}
use Rattle.std.proofs.Props.{props}
use Rattle.std.proofs.Math.Path.{Σ_path, to_path_p}
use Rattle.std.proofs.lemmas.Int.{ints}
use Rattle.lf_units.specs.declared.geometry.Point.{Point}
use Rattle.lf_units.specs.declared.geometry.Rect.{Rect}
use Rattle.lf_floorplan.specs.declared.frame.Frame.{Frame}
use Rattle.lf_floorplan.specs.declared.limits.Limits.{Limits}
use Rattle.lf_floorplan.specs.declared.macros.Macro.{Macro}
use Rattle.lf_floorplan.specs.declared.parts.Header.{Header}
use Rattle.lf_floorplan.specs.declared.parts.Row.{Row}
use Rattle.lf_floorplan.specs.declared.parts.Team.{Team}
use Rattle.lf_floorplan.specs.declared.sites.Site.{Site}
use Rattle.lf_floorplan.specs.Bounds.{IsDefRect, IsLimit, IsLefSize}
use Rattle.lf_floorplan.specs.Obstacles.{IsObstacle}
use Rattle.lf_floorplan.specs.Rows.{IsPitch, IsCoreRow, RowsApart}
use Rattle.lf_floorplan.specs.Fences.{IsFence, FencesNamed, FencesApart}
use Rattle.lf_frame.specs.Loading.{is_core_row, frame_row}
use Rattle.lf_frame.specs.Findings.{LoadInputs}
use Rattle.lf_frame.specs.Loads.{IsFrameOf}

-- The fields of a frame, without the proofs about them.
record Fields : Type 0 where
  site : Site
  pitch : Point
  rows : List Row
  teams : List Team
  obstacles : List Rect
  soft : List Rect
  macros : List Macro
  header : Header
  limits : Limits

abbrev Kept : Fields → Type 0
Kept x =
    IsLimit x.header.units 20000 × IsLefSize x.site.size × IsPitch x.header.units x.site.size x.pitch × (0 < length x.rows) × (length x.rows ≤ x.limits.rows)
    × All (λ r. IsCoreRow x.pitch r) x.rows × RowsApart x.pitch x.rows × (length x.teams ≤ x.limits.fences) × All IsFence x.teams × FencesNamed x.teams
    × FencesApart x.teams × All (IsObstacle x.header.units x.macros) x.obstacles × All IsDefRect x.soft
    × All (λ m. IsLefSize m.size × IsLefSize m.origin) x.macros

abbrev frame_with : ((x : Fields) × Kept x) → Frame
frame_with (x, k) = record {
  site = x.site;
  pitch = x.pitch;
  rows = x.rows;
  teams = x.teams;
  obstacles = x.obstacles;
  soft = x.soft;
  macros = x.macros;
  header = x.header;
  limits = x.limits;
  units_in_range = k.0;
  site_in_lef = k.1;
  pitch_whole = k.2;
  has_row = k.3;
  few_rows = k.4;
  rows_are_core = k.5;
  rows_apart = k.6;
  few_fences = k.7;
  fences_whole = k.8;
  fences_named = k.9;
  fences_apart = k.10;
  obstacles_in_range = k.11;
  soft_in_def = k.12;
  macros_in_lef = k.13;
}

abbrev fields_of : Frame → Fields
fields_of f = record {
  site = f.site;
  pitch = f.pitch;
  rows = f.rows;
  teams = f.teams;
  obstacles = f.obstacles;
  soft = f.soft;
  macros = f.macros;
  header = f.header;
  limits = f.limits;
}

abbrev kept_of : (f : Frame) → Kept (fields_of f)
kept_of f = (
  f.units_in_range,
  f.site_in_lef,
  f.pitch_whole,
  f.has_row,
  f.few_rows,
  f.rows_are_core,
  f.rows_apart,
  f.few_fences,
  f.fences_whole,
  f.fences_named,
  f.fences_apart,
  f.obstacles_in_range,
  f.soft_in_def,
  f.macros_in_lef,
)

kept_is_one : (x : Fields) (k h : Kept x) → k ≡ h
kept_is_one x = hlevel props

by_fields : (f g : Frame) → fields_of f ≡ fields_of g → f ≡ g
by_fields f g e = ap frame_with
    (Σ_path {u = (fields_of f, kept_of f)} {v = (fields_of g, kept_of g)} e (to_path_p (λ i. Kept (e i)) (kept_is_one (fields_of g) _ (kept_of g))))

length_is_one : (a b t : ℤ) → a *ℤ pos 1000000 ≡ t → b *ℤ pos 1000000 ≡ t → a ≡ b
length_is_one a b t e h = omega (arith, ints)

pitch_is_one : (units : ℕ) (size p q : Point) → IsPitch units size p → IsPitch units size q → p ≡ q
pitch_is_one units size p q h k =
    let x : p.x ≡ q.x = length_is_one p.x q.x (size.x *ℤ pos units) h.across k.across in
    let y : p.y ≡ q.y = length_is_one p.y q.y (size.y *ℤ pos units) h.up k.up in
    λ d. record { x = x d; y = y d }

-- A design has only one frame.
pub frame_is_one : (i : LoadInputs) (f g : Frame) → IsFrameOf i f → IsFrameOf i g → f ≡ g
frame_is_one i f g a b =
    let site : f.site ≡ g.site = cc (a.site, b.site) in
    let header : f.header ≡ g.header = a.header ∙ sym b.header in
    let rows : f.rows ≡ g.rows = a.rows ∙ ap (λ (s : Site). map frame_row (filter (is_core_row s) i.document.rows)) site ∙ sym b.rows in
    let teams : f.teams ≡ g.teams = a.teams ∙ sym b.teams in
    let obstacles : f.obstacles ≡ g.obstacles = a.obstacles ∙ sym b.obstacles in
    let soft : f.soft ≡ g.soft = a.soft ∙ sym b.soft in
    let macros : f.macros ≡ g.macros = a.macros ∙ sym b.macros in
    let limits : f.limits ≡ g.limits = a.limits ∙ sym b.limits in
    let whole : IsPitch f.header.units f.site.size g.pitch = rw (header, site) g.pitch_whole in
    let pitch : f.pitch ≡ g.pitch = pitch_is_one f.header.units f.site.size f.pitch g.pitch f.pitch_whole whole in
    by_fields f g (λ d. record {
      site = site d;
      pitch = pitch d;
      rows = rows d;
      teams = teams d;
      obstacles = obstacles d;
      soft = soft d;
      macros = macros d;
      header = header d;
      limits = limits d;
    })
