-- No line has a number with a fraction.
use Rattle.std.proofs.Common.{◌≡◌, ℕ, zero, suc, ℤ, pos, negsuc, Bool, true, false, List, [], ◌∷◌, map, Option, Some, None, refl, subst, slice_get}
use Rattle.std.specs.Prelude.{◌||◌, if◌then◌else◌}
use Rattle.std.specs.Str.{is_utf8}
use Rattle.serde_json.specs.Data.{Data, null, string}
use Rattle.serde_json.specs.View.{items_of}
use Rattle.serde_json.specs.Written.{has_float, items_have_float}
use Rattle.lf_units.specs.declared.geometry.Rect.{Rect}
use Rattle.lf_floorplan.specs.declared.frame.Frame.{Frame}
use Rattle.lf_floorplan.specs.declared.parts.Row.{Row}
use Rattle.lf_floorplan.specs.declared.parts.Team.{Team}
use Rattle.lf_floorplan.specs.declared.place.Place.{Place}
use Rattle.lf_floorplan.specs.Boxes.{macro_of, size_of}
use Rattle.lf_floorplan.specs.Rows.{row_area}
use Rattle.lf_floorplan.specs.Sizes.{box_at, turned}
use Rattle.lf_rules.specs.declared.rule.Broken.{Broken}
use Rattle.lf_rules.specs.declared.report_types.Listed.{Listed}
use Rattle.lf_reports.specs.Reports.{verdict_at}
use Rattle.lf_describe.specs.declared.described.DescribedDesign.{DescribedDesign}
use Rattle.lf_describe.specs.declared.line_kinds.Part.{Part}
use Rattle.lf_describe.specs.declared.line_kinds.Part.TheVariants.{Design, Rows, Fences, Obstacles, Soft, Cells, Density, Total}
use Rattle.lf_describe.specs.Description.{box_data, cell_data, design_data, orientation_data, fence_data, obstacle_data, other_of, rect_data, row_data, rule_data, soft_data, described_team_name, text_data, text_or_null, whole_data}
use Rattle.lf_describe.specs.Parts.{described_cells, fixed_component_names, part_lines}

pub neither : (a b : Bool) → a ≡ false → b ≡ false → (a || b) ≡ false
neither a b p q = rw p q

whole : (z : ℤ) → has_float (whole_data z) ≡ false
whole (pos n) = refl
whole (negsuc n) = refl

pub text : (name : List ℕ) → has_float (text_data name) ≡ false
text name = by (is_utf8 name)
  where
    by : (b : Bool) → has_float (if b then string name else null) ≡ false
    by true = refl
    by false = refl

name_or_null : (name : Option (List ℕ)) → has_float (text_or_null name) ≡ false
name_or_null None = refl
name_or_null (Some name) = text name

rect : (r : Rect) → has_float (rect_data r) ≡ false
rect r = neither _ _ (whole r.x1) (neither _ _ (whole r.y1) (neither _ _ (whole r.x2) (neither _ _ (whole r.y2) refl)))

rects : (rs : List Rect) → items_have_float (items_of (map rect_data rs)) ≡ false
rects [] = refl
rects (r ∷ rs) = neither _ _ (rect r) (rects rs)

design : (f : Frame) → has_float (design_data f) ≡ false
design f = neither _ _ (text f.header.design) (neither _ _ (text f.site.name) (neither _ _ (whole f.pitch.y) (neither _ _ (whole f.pitch.x) refl)))

row : (f : Frame) (r : Row) → has_float (row_data f r) ≡ false
row f r = neither _ _ (rect (row_area f.pitch r)) (neither _ _ (text r.name) refl)

fence : (t : Team) → has_float (fence_data t) ≡ false
fence t = neither _ _ (text t.name) (neither _ _ (rects t.rects) refl)

obstacle : (name : Option (List ℕ)) (r : Rect) → has_float (obstacle_data name r) ≡ false
obstacle name r = neither _ _ (rect r) (neither _ _ (name_or_null name) refl)

soft : (r : Rect) → has_float (soft_data r) ≡ false
soft r = neither _ _ (rect r) refl

box : (f : Frame) (c : Listed (List ℕ)) → has_float (box_data f c) ≡ false
box f c = by c.place
  where
    by : (place : Option Place) → has_float (box_data f (record c { place = place })) ≡ false
    by None = refl
    by (Some p) = rect (box_at (turned (size_of f (macro_of f c.mac)) p.orient) p.x p.y)

facing : (place : Option Place) → has_float (orientation_data place) ≡ false
facing None = refl
facing (Some p) = refl

rule : (broken : Option Broken) → has_float (rule_data broken) ≡ false
rule None = refl
rule (Some b) = refl

cell : (f : Frame) (cells : List (Listed (List ℕ))) (c : Listed (List ℕ)) (broken : Option Broken) → has_float (cell_data f cells c broken) ≡ false
cell f cells c broken =
    neither _ _ (box f c)
    (neither _ _ (whole (size_of f (macro_of f c.mac)).y)
    (neither _ _ (text (macro_of f c.mac).name)
    (neither _ _ (text c.name)
    (neither _ _ (facing c.place)
    (neither _ _ (name_or_null (other_of cells broken))
    (neither _ _ (rule broken)
    (neither _ _ (text (described_team_name f c.team))
    (neither _ _ (whole (size_of f (macro_of f c.mac)).x) refl))))))))

each : {X : Type 0} (h : X → Data) → ((x : X) → has_float (h x) ≡ false) → (xs : List X) (i : ℕ) (d : Data) → slice_get (map h xs) i ≡ Some d → has_float d ≡ false
each h none [] i d at = absurd cc
each h none (x ∷ xs) zero d at = let same : h x ≡ d = cc in subst (λ (e : Data). has_float e ≡ false) same (none x)
each h none (x ∷ xs) (suc i) d at = each h none xs i d at

only : (x : Data) → has_float x ≡ false → (i : ℕ) (d : Data) → slice_get (x ∷ []) i ≡ Some d → has_float d ≡ false
only x none zero d at = let same : x ≡ d = cc in subst (λ (e : Data). has_float e ≡ false) same none
only x none (suc i) d at = absurd cc

-- No line of a part has a number with a fraction.
pub no_float : (reported : DescribedDesign) (part : Part) (i : ℕ) (d : Data) → slice_get (part_lines reported part) i ≡ Some d → has_float d ≡ false
no_float reported Design i d at = only _ (design reported.frame.now) i d at
no_float reported Rows i d at = each (row_data reported.frame.now) (row reported.frame.now) _ i d at
no_float reported Fences i d at = each fence_data fence _ i d at
no_float reported Obstacles i d at = each _ (λ e. obstacle (slice_get (fixed_component_names reported) e.0) e.1) _ i d at
no_float reported Soft i d at = each soft_data soft _ i d at
no_float reported Cells i d at = each _ (λ e. cell reported.frame.now (described_cells reported) e.1 (verdict_at reported.verdicts.now e.0)) _ i d at
no_float reported Density i d at = only _ refl i d at
no_float reported Total i d at = only _ refl i d at
