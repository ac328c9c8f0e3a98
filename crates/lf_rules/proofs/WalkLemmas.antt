-- The walk through the rules in their order. The code measures a frame `h`, and the results are
-- about `f`, which is the same frame.
use Rattle.std.proofs.Common.{◌≡◌, ◌%◌, ℕ, List, [], None, sym, subst, IsTrue}
use Rattle.lf_units.specs.declared.geometry.Rect.{Rect}
use Rattle.lf_orient.specs.Orientation.{EqualUnder, is_allowed}
use Rattle.lf_floorplan.specs.declared.frame.Frame.{Frame}
use Rattle.lf_floorplan.specs.declared.macros.Macro.{Macro}
use Rattle.lf_floorplan.specs.declared.parts.Row.{Row}
use Rattle.lf_floorplan.specs.declared.place.Place.{Place}
use Rattle.lf_floorplan.specs.Ground.{IsClear, StaysInGround}
use Rattle.lf_floorplan.specs.RowSupport.{IsBottomRow, IsSitesHigh, RestsOnRows}
use Rattle.lf_units.specs.declared.placed.Placed.{Placed}
use Rattle.lf_rules.specs.declared.rule.Rule.TheVariants.{Row as RowRule, Stand, Orient as OrientRule, Rail as RailRule, Fence, Obstacle}
use Rattle.lf_rules.specs.Legality.{IsFirstBroken, Candidate, box_of, candidate_of}
use Rattle.lf_rules.specs.Solid.{IsSolid}
use Rattle.lf_rules.proofs.LegalParts.{KeepsFrame}
use Rattle.lf_rules.proofs.RuleLemmas.{Found, OnRows, OrientedAt, RailAt, IsDesignCellAt, fence_not, frame_at, obstacle_not, on_rows, orient_broken, rail_broken, row_broken, rows_support_at, placed_and_broken}

-- The orientation fits, as measured.
abbrev MeasuredFit : Frame → Macro → Place → ℕ → Row → Type 0
MeasuredFit h mac place k r = IsTrue (is_allowed mac.symmetry place.orient) × (k % 2 ≡ 1 → EqualUnder h.site.symmetry place.orient r.orient)

module _ (h f : Frame) (same : h ≡ f) (team : ℕ) (mac : Macro) (place : Place) (padding : ℕ) (others : List Placed) (box : Rect) (is : box ≡ box_of (candidate_of h team padding mac place others)) where
  abbrev t : Candidate
  t = candidate_of f team padding mac place others

  box_is : box ≡ box_of t
  box_is = subst (λ (g : Frame). box ≡ box_of (candidate_of g team padding mac place others)) same is

  fits : (k : ℕ) (r : Row) → MeasuredFit h mac place k r → OrientedAt t k r
  fits k r o = (o.0, λ odd. subst (λ (g : Frame). EqualUnder g.site.symmetry place.orient r.orient) same (o.1 odd))

  fitted : (k : ℕ) (r : Row) → OrientedAt t k r → MeasuredFit h mac place k r
  fitted k r o = (o.0, λ odd. subst (λ (g : Frame). EqualUnder g.site.symmetry place.orient r.orient) (sym same) (o.1 odd))

  -- ---- the rules on rows

  pub row_first : (k : ℕ) → IsSitesHigh h box k → ((r : Row) → IsBottomRow f box r → ⊥) → IsFirstBroken t record { rule = RowRule; other = None }
  row_first k tall none = row_broken t box box_is k (subst (λ (g : Frame). IsSitesHigh g box k) same tall) none

  module _ (solid : IsSolid box) (k : ℕ) (r : Row) (tall : IsSitesHigh h box k) (bottom : IsBottomRow f box r) where
    found : Found t box k r
    found = record { box_is = box_is; wide = solid.wide; tall = subst (λ (g : Frame). IsSitesHigh g box k) same tall; bottom = bottom }

    pub first_are_placed : (IsDesignCellAt t box k r → ⊥) → IsFirstBroken t record { rule = Stand; other = None }
    first_are_placed not_so = placed_and_broken t box k r found not_so

    pub orient_first : IsDesignCellAt t box k r → (MeasuredFit h mac place k r → ⊥) → IsFirstBroken t record { rule = OrientRule; other = None }
    orient_first s not_so = orient_broken t box k r found s (λ o. not_so (fitted k r o))

    pub rail_first : IsDesignCellAt t box k r → MeasuredFit h mac place k r → (RailAt t k r → ⊥) → IsFirstBroken t record { rule = RailRule; other = None }
    rail_first s o not_so = rail_broken t box k r found s (fits k r o) not_so

    pub rows_kept : IsDesignCellAt t box k r → MeasuredFit h mac place k r → RailAt t k r → OnRows t
    rows_kept s o p = on_rows t box k r found s (fits k r o) p

  -- ---- ground and obstacles

  pub fence_first : OnRows t → (StaysInGround f team box → ⊥) → IsFirstBroken t record { rule = Fence; other = None }
  fence_first rows not_so = fence_not t box box_is rows not_so

  pub clear_first : OnRows t → StaysInGround f team box → (IsClear f box → ⊥) → IsFirstBroken t record { rule = Obstacle; other = None }
  clear_first rows inside not_so = obstacle_not t box box_is rows inside not_so

  pub all_kept : OnRows t → StaysInGround f team box → IsClear f box → KeepsFrame t
  all_kept rows inside clear = frame_at t box box_is rows inside clear

  are_placed_there : OnRows t → RestsOnRows f box
  are_placed_there rows = rows_support_at t box box_is rows

-- The box rests on rows.
pub is_in_place : (h f : Frame) (same : h ≡ f) (team : ℕ) (mac : Macro) (place : Place) (box : Rect) → box ≡ box_of (candidate_of h team 0 mac place []) → IsSolid box →
    (k : ℕ) (r : Row) → IsSitesHigh h box k → IsBottomRow f box r → IsDesignCellAt (candidate_of f team 0 mac place []) box k r → MeasuredFit h mac place k r →
    RailAt (candidate_of f team 0 mac place []) k r → RestsOnRows f box
is_in_place h f same team mac place box is solid k r tall bottom s o p =
    are_placed_there h f same team mac place 0 [] box is (rows_kept h f same team mac place 0 [] box is solid k r tall bottom s o p)
