-- Each rule for a candidate on two frames that are alike.
use Rattle.std.proofs.Common.{◌≡◌, ℕ, ℤ, pos, ◌%◌, ◌+ℤ◌, ◌*ℤ◌, ◌≤ℤ◌, ◌<ℤ◌, List, length, get_or, Some, ap, sym, ◌∙◌, subst, IsTrue}
use Rattle.std.specs.Prelude.{All, Any, Contains, MatchOption, slice_get}
use Rattle.std.proofs.lemmas.List.Elements.{All-contains, Contains-get_or}
use Rattle.lf_units.specs.declared.geometry.Point.{Point}
use Rattle.lf_units.specs.declared.geometry.Rect.{Rect}
use Rattle.lf_units.specs.Area.{SharesPoint, CoveredBy}
use Rattle.lf_units.specs.Length.{IsLength}
use Rattle.lf_orient.specs.Orientation.{is_allowed, EqualUnder, rail_below}
use Rattle.lf_floorplan.specs.declared.frame.Frame.{Frame}
use Rattle.lf_floorplan.specs.declared.macros.Macro.{Macro}
use Rattle.lf_floorplan.specs.declared.parts.Header.{Header}
use Rattle.lf_floorplan.specs.declared.parts.Row.{Row}
use Rattle.lf_floorplan.specs.declared.parts.Team.{Team}
use Rattle.lf_floorplan.specs.declared.sites.Site.{Site}
use Rattle.lf_floorplan.specs.Boxes.{IsSized, size_of}
use Rattle.lf_floorplan.specs.Sizes.{size_in_dbu, turned, box_at}
use Rattle.lf_floorplan.specs.Rows.{row_area}
use Rattle.lf_floorplan.specs.Ground.{InGround, StaysInGround, IsClear, OverlapsSoft}
use Rattle.lf_floorplan.specs.RowSupport.{IsSitesHigh, IsRowOfBox, IsBottomRow, Supports, HasHeight, HasBottomRow, IsSupported}
use Rattle.lf_rules.specs.declared.rule.Rule.{Rule}
use Rattle.lf_rules.specs.declared.rule.Rule.TheVariants.{Height, Row as RowRule, Stand, Orient as OrientRule, Rail as RailRule, Fence, Obstacle, Overlap}
use Rattle.lf_rules.specs.Padding.{length_of, wider}
use Rattle.lf_rules.specs.Legality.{Candidate, box_of, padded_box, Holds}
use Rattle.lf_laws_slices.specs.Alike.{AreFramesAlike}
use Rattle.lf_laws_slices.specs.Laws.{candidate_on}

-- ---- frames

-- being alike is symmetric for frames
pub turned_round : (f g : Frame) → AreFramesAlike f g → AreFramesAlike g f
turned_round f g a = record {
  header = sym a.header;
  site = sym a.site;
  pitch = sym a.pitch;
  rows = sym a.rows;
  fences = sym a.fences;
  limits = sym a.limits;
  obstacles = λ r. ((a.obstacles r).1, (a.obstacles r).0);
  soft = λ r. ((a.soft r).1, (a.soft r).0);
}

pub size_same : (f g : Frame) → AreFramesAlike f g → (m : Macro) → size_of f m ≡ size_of g m
size_same f g a m = ap (λ (h : Header). size_in_dbu h.units m.size) a.header

pub sized_on : (f g : Frame) → AreFramesAlike f g → (m : Macro) → IsSized f m → IsSized g m
sized_on f g a m sized = record {
  in_lef = sized.in_lef;
  across = subst (λ (h : Header). IsLength h.units m.size.x (size_in_dbu h.units m.size).x) a.header sized.across;
  up = subst (λ (h : Header). IsLength h.units m.size.y (size_in_dbu h.units m.size).y) a.header sized.up;
  wide = subst (λ (h : Header). pos 0 <ℤ (size_in_dbu h.units m.size).x) a.header sized.wide;
  high = subst (λ (h : Header). pos 0 <ℤ (size_in_dbu h.units m.size).y) a.header sized.high;
}

-- a fact on each rectangle of a list holds for each rectangle of a list with the same ones
pub all_of_same : (P : Rect → Type 0) (xs ys : List Rect) → ((r : Rect) → Contains ys r → Contains xs r) → All P xs → All P ys
all_of_same P xs ys within all k d less = All-contains P xs (get_or ys k d) all (within (get_or ys k d) (Contains-get_or ys k d less))

any_of_same : (P : Rect → Type 0) (xs ys : List Rect) → ((r : Rect) → Contains xs r → Contains ys r) → Any P xs → Any P ys
any_of_same P xs ys within any =
    let there = within any.1 (any.0, any.2, any.3) in
    (there.0, any.1, there.1, there.2, any.4)

-- ---- rows

module _ (f g : Frame) (a : AreFramesAlike f g) where
  sites_high : (box : Rect) (k : ℕ) → IsSitesHigh f box k → IsSitesHigh g box k
  sites_high box k h = record { least = h.least; most = h.most; high = h.high ∙ ap (λ (p : Point). box.y1 +ℤ (pos k *ℤ p.y)) a.pitch }

  row_of_box : (box : Rect) (j : ℕ) (r : Row) → IsRowOfBox f box j r → IsRowOfBox g box j r
  row_of_box box j r h = record {
    at_level = h.at_level ∙ ap (λ (p : Point). box.y1 +ℤ (pos j *ℤ p.y)) a.pitch;
    left = h.left;
    right = subst (λ (p : Point). box.x2 ≤ℤ (row_area p r).x2) a.pitch h.right;
  }

  a_row : (r : Row) → Contains f.rows r → Contains g.rows r
  a_row r there = subst (λ (rows : List Row). Contains rows r) a.rows there

  bottom_row : (box : Rect) (r : Row) → IsBottomRow f box r → IsBottomRow g box r
  bottom_row box r h = record {
    core_ones = a_row r h.core_ones;
    at_bottom = row_of_box box 0 r h.at_bottom;
    site = h.site;
    on_grid = h.on_grid ∙ ap (λ (p : Point). pos h.site *ℤ p.x) a.pitch;
  }

  carries : (box : Rect) (bottom : Row) (j : ℕ) (s : Row) → Supports f box bottom j s → Supports g box bottom j s
  carries box bottom j s h = record { core_ones = a_row s h.core_ones; at_row = row_of_box box j s h.at_row; rail = h.rail }

  -- ---- ground

  in_ground : (team : ℕ) (x y : ℤ) → InGround f team x y → InGround g team x y
  in_ground team x y h =
      subst (λ (teams : List Team). MatchOption (slice_get teams team) ((team ≡ length teams) × All (λ fence. CoveredBy fence.rects x y → ⊥) teams) (λ fence. CoveredBy fence.rects x y))
      a.fences h

  pub clear_on : (box : Rect) → IsClear f box → IsClear g box
  clear_on box h = all_of_same (λ o. SharesPoint box o → ⊥) f.obstacles g.obstacles (λ r. (a.obstacles r).1) h

  pub soft_on : (box : Rect) → OverlapsSoft f box → OverlapsSoft g box
  soft_on box h = any_of_same (λ r. SharesPoint box r) f.soft g.soft (λ r. (a.soft r).0) h

  -- ---- boxes

  pub length_same : (padding : ℕ) → length_of f padding ≡ length_of g padding
  length_same padding = ap (λ (p : Point). pos padding *ℤ p.x) a.pitch

-- the box of a candidate
pub box_same : (t : Candidate) (g : Frame) → AreFramesAlike t.frame g → box_of t ≡ box_of (candidate_on g t)
box_same t g a = ap (λ (s : Point). box_at (turned s t.orient) t.x t.y) (size_same t.frame g a t.mac)

pub padded_same : (t : Candidate) (g : Frame) → AreFramesAlike t.frame g → padded_box t ≡ padded_box (candidate_on g t)
padded_same t g a =
    ap (λ (by : ℤ). wider by (box_of t)) (length_same t.frame g a t.padding)
    ∙ ap (λ (box : Rect). wider (length_of g t.padding) box) (box_same t g a)

-- ---- the rules

-- the orientation fits if this is the box
abbrev OrientedAt : Candidate → Rect → Type 0
OrientedAt t box =
    IsTrue (is_allowed t.mac.symmetry t.orient)
    × ((k : ℕ) (r : Row) → IsSitesHigh t.frame box k → IsBottomRow t.frame box r → k % 2 ≡ 1 → EqualUnder t.frame.site.symmetry t.orient r.orient)

-- the bottom rail fits if this is the box
abbrev RailAt : Candidate → Rect → Type 0
RailAt t box = (k : ℕ) (r : Row) → IsSitesHigh t.frame box k → IsBottomRow t.frame box r → k % 2 ≡ 0 → rail_below r.orient ≡ Some t.mac.rail

module _ (t : Candidate) (g : Frame) (a : AreFramesAlike t.frame g) where
  back : AreFramesAlike g t.frame
  back = turned_round t.frame g a

  is_in_place : (box : Rect) → IsSupported t.frame box → IsSupported g box
  is_in_place box h k r high bottom j less =
      let s = h k r (sites_high g t.frame back box k high) (bottom_row g t.frame back box r bottom) j less in
      (s.0, carries t.frame g a box r j s.0 s.1)

  oriented : (box : Rect) → OrientedAt t box → OrientedAt (candidate_on g t) box
  oriented box h = (
    h.0,
    λ k r high bottom odd.
        subst (λ (s : Site). EqualUnder s.symmetry t.orient r.orient) a.site
        (h.1 k r (sites_high g t.frame back box k high) (bottom_row g t.frame back box r bottom) odd),
  )

  on_rail : (box : Rect) → RailAt t box → RailAt (candidate_on g t) box
  on_rail box h k r high bottom even = h k r (sites_high g t.frame back box k high) (bottom_row g t.frame back box r bottom) even

-- a rule that holds for a candidate on one frame holds for it on the other
pub rule_on : (t : Candidate) (g : Frame) → AreFramesAlike t.frame g → (r : Rule) → Holds t r → Holds (candidate_on g t) r
rule_on t g a Height h = subst (λ (box : Rect). HasHeight g box) (box_same t g a) (h.0, sites_high t.frame g a (box_of t) h.0 h.1)
rule_on t g a RowRule h = subst (λ (box : Rect). HasBottomRow g box) (box_same t g a) (h.0, bottom_row t.frame g a (box_of t) h.0 h.1)
rule_on t g a Stand h = subst (λ (box : Rect). IsSupported g box) (box_same t g a) (is_in_place t g a (box_of t) h)
rule_on t g a OrientRule h = subst (λ (box : Rect). OrientedAt (candidate_on g t) box) (box_same t g a) (oriented t g a (box_of t) h)
rule_on t g a RailRule h = subst (λ (box : Rect). RailAt (candidate_on g t) box) (box_same t g a) (on_rail t g a (box_of t) h)
rule_on t g a Fence h =
    subst (λ (box : Rect). StaysInGround g t.team box) (box_same t g a) (λ x y covers. in_ground t.frame g a t.team x y (h x y covers))
rule_on t g a Obstacle h = subst (λ (box : Rect). IsClear g box) (box_same t g a) (clear_on t.frame g a (box_of t) h)
rule_on t g a Overlap h = subst (λ (box : Rect). All (λ other. SharesPoint box other.rect → ⊥) t.others) (padded_same t g a) h

pub rule_back : (t : Candidate) (g : Frame) → AreFramesAlike t.frame g → (r : Rule) → Holds (candidate_on g t) r → Holds t r
rule_back t g a r h = rule_on (candidate_on g t) t.frame (turned_round t.frame g a) r h
