-- A place is legal on a frame exactly if it is legal on a copy without soft blockages.
use Rattle.std.proofs.Common.{◌≡◌, ℕ, ℤ, pos, ◌%◌, ◌+ℤ◌, ◌*ℤ◌, ◌≤ℤ◌, List, [], length, Some, ap, sym, ◌∙◌, subst, IsTrue, arith}
use Rattle.std.specs.Prelude.{All, Contains, MatchOption, slice_get, unwrap_or}
use Rattle.lf_units.specs.declared.geometry.Point.{Point}
use Rattle.lf_units.specs.declared.geometry.Rect.{Rect}
use Rattle.lf_units.specs.Area.{SharesPoint, CoveredBy}
use Rattle.lf_orient.specs.Orientation.{is_allowed, EqualUnder, rail_below}
use Rattle.lf_floorplan.specs.declared.frame.Frame.{Frame}
use Rattle.lf_floorplan.specs.declared.macros.Macro.{Macro}
use Rattle.lf_floorplan.specs.declared.parts.Header.{Header}
use Rattle.lf_floorplan.specs.declared.parts.Row.{Row}
use Rattle.lf_floorplan.specs.declared.parts.Team.{Team}
use Rattle.lf_floorplan.specs.declared.sites.Site.{Site}
use Rattle.lf_floorplan.specs.Boxes.{macro_of, no_macro}
use Rattle.lf_floorplan.specs.Sizes.{size_in_dbu, turned, box_at}
use Rattle.lf_floorplan.specs.Rows.{row_area}
use Rattle.lf_floorplan.specs.Ground.{InGround, StaysInGround, IsClear}
use Rattle.lf_floorplan.specs.RowSupport.{IsSitesHigh, IsRowOfBox, IsBottomRow, Supports, HasHeight, HasBottomRow, IsSupported}
use Rattle.lf_rules.specs.declared.rule.Rule.{Rule}
use Rattle.lf_rules.specs.declared.rule.Rule.TheVariants.{Height, Row as RowRule, Stand, Orient as OrientRule, Rail as RailRule, Fence, Obstacle, Overlap}
use Rattle.lf_rules.specs.Choice.{IsAllowedPlace, IsLegalAt, SpotPlace}
use Rattle.lf_rules.specs.Padding.{length_of, wider}
use Rattle.lf_rules.specs.Legality.{Candidate, box_of, padded_box, Holds, IsTeamLegal}
use Rattle.lf_repair_bounds.specs.Copies.{AreCopies}
use Rattle.lf_repair_bounds.specs.ImpossibleMacros.{IsImpossible, macro_alone}
use Rattle.lf_repair_bounds.proofs.Copying.{copies_back}

-- the candidate on another frame
abbrev pub on_frame : Frame → Candidate → Candidate
on_frame g t = record t { frame = g }

-- ---- rows and ground

module _ (f g : Frame) (a : AreCopies f g) where
  sites_high : (box : Rect) (k : ℕ) → IsSitesHigh f box k → IsSitesHigh g box k
  sites_high box k h =
      record { least = h.least; most = h.most; high = h.high ∙ ap (λ (p : Point). box.y1 +ℤ (pos k *ℤ p.y)) (sym a.pitch) }

  row_of_box : (box : Rect) (j : ℕ) (r : Row) → IsRowOfBox f box j r → IsRowOfBox g box j r
  row_of_box box j r h = record {
    at_level = h.at_level ∙ ap (λ (p : Point). box.y1 +ℤ (pos j *ℤ p.y)) (sym a.pitch);
    left = h.left;
    right = subst (λ (p : Point). box.x2 ≤ℤ (row_area p r).x2) (sym a.pitch) h.right;
  }

  a_row : (r : Row) → Contains f.rows r → Contains g.rows r
  a_row r there = subst (λ (rows : List Row). Contains rows r) (sym a.rows) there

  bottom_row : (box : Rect) (r : Row) → IsBottomRow f box r → IsBottomRow g box r
  bottom_row box r h = record {
    core_ones = a_row r h.core_ones;
    at_bottom = row_of_box box 0 r h.at_bottom;
    site = h.site;
    on_grid = h.on_grid ∙ ap (λ (p : Point). pos h.site *ℤ p.x) (sym a.pitch);
  }

  carries : (box : Rect) (bottom : Row) (j : ℕ) (s : Row) → Supports f box bottom j s → Supports g box bottom j s
  carries box bottom j s h = record { core_ones = a_row s h.core_ones; at_row = row_of_box box j s h.at_row; rail = h.rail }

  in_ground : (team : ℕ) (x y : ℤ) → InGround f team x y → InGround g team x y
  in_ground team x y h =
      subst (λ (teams : List Team). MatchOption (slice_get teams team) ((team ≡ length teams) × All (λ fence. CoveredBy fence.rects x y → ⊥) teams) (λ fence. CoveredBy fence.rects x y))
      (sym a.teams) h

  clear_on : (box : Rect) → IsClear f box → IsClear g box
  clear_on box h = subst (λ (rects : List Rect). All (λ o. SharesPoint box o → ⊥) rects) (sym a.obstacles) h

-- ---- boxes

box_same : (t : Candidate) (g : Frame) → AreCopies t.frame g → box_of t ≡ box_of (on_frame g t)
box_same t g a = ap (λ (h : Header). box_at (turned (size_in_dbu h.units t.mac.size) t.orient) t.x t.y) (sym a.header)

padded_same : (t : Candidate) (g : Frame) → AreCopies t.frame g → padded_box t ≡ padded_box (on_frame g t)
padded_same t g a =
    ap (λ (p : Point). wider (pos t.padding *ℤ p.x) (box_of t)) (sym a.pitch) ∙ ap (λ (box : Rect). wider (length_of g t.padding) box) (box_same t g a)

-- ---- the rules

-- the orientation fits if this is the box
abbrev OrientedAt : Candidate → Rect → Type 0
OrientedAt t box =
    IsTrue (is_allowed t.mac.symmetry t.orient)
    × ((k : ℕ) (r : Row) → IsSitesHigh t.frame box k → IsBottomRow t.frame box r → k % 2 ≡ 1 → EqualUnder t.frame.site.symmetry t.orient r.orient)

-- the bottom rail fits if this is the box
abbrev RailAt : Candidate → Rect → Type 0
RailAt t box = (k : ℕ) (r : Row) → IsSitesHigh t.frame box k → IsBottomRow t.frame box r → k % 2 ≡ 0 → rail_below r.orient ≡ Some t.mac.rail

module _ (t : Candidate) (g : Frame) (a : AreCopies t.frame g) where
  back : AreCopies g t.frame
  back = copies_back t.frame g a

  is_in_place : (box : Rect) → IsSupported t.frame box → IsSupported g box
  is_in_place box h k r high bottom j less =
      let s = h k r (sites_high g t.frame back box k high) (bottom_row g t.frame back box r bottom) j less in
      (s.0, carries t.frame g a box r j s.0 s.1)

  oriented : (box : Rect) → OrientedAt t box → OrientedAt (on_frame g t) box
  oriented box h = (
    h.0,
    λ k r high bottom odd.
        subst (λ (s : Site). EqualUnder s.symmetry t.orient r.orient) (sym a.site)
        (h.1 k r (sites_high g t.frame back box k high) (bottom_row g t.frame back box r bottom) odd),
  )

  on_rail : (box : Rect) → RailAt t box → RailAt (on_frame g t) box
  on_rail box h k r high bottom even = h k r (sites_high g t.frame back box k high) (bottom_row g t.frame back box r bottom) even

-- a rule that holds for a candidate holds for it on a copy of the frame
rule_on : (t : Candidate) (g : Frame) → AreCopies t.frame g → (r : Rule) → Holds t r → Holds (on_frame g t) r
rule_on t g a Height h = subst (λ (box : Rect). HasHeight g box) (box_same t g a) (h.0, sites_high t.frame g a (box_of t) h.0 h.1)
rule_on t g a RowRule h = subst (λ (box : Rect). HasBottomRow g box) (box_same t g a) (h.0, bottom_row t.frame g a (box_of t) h.0 h.1)
rule_on t g a Stand h = subst (λ (box : Rect). IsSupported g box) (box_same t g a) (is_in_place t g a (box_of t) h)
rule_on t g a OrientRule h = subst (λ (box : Rect). OrientedAt (on_frame g t) box) (box_same t g a) (oriented t g a (box_of t) h)
rule_on t g a RailRule h = subst (λ (box : Rect). RailAt (on_frame g t) box) (box_same t g a) (on_rail t g a (box_of t) h)
rule_on t g a Fence h =
    subst (λ (box : Rect). StaysInGround g t.team box) (box_same t g a) (λ x y covers. in_ground t.frame g a t.team x y (h x y covers))
rule_on t g a Obstacle h = subst (λ (box : Rect). IsClear g box) (box_same t g a) (clear_on t.frame g a (box_of t) h)
rule_on t g a Overlap h = subst (λ (box : Rect). All (λ other. SharesPoint box other.rect → ⊥) t.others) (padded_same t g a) h

-- ---- a macro alone

-- the macro's cell at the place, on a frame
abbrev macro_at : Frame → ℕ → Macro → SpotPlace → Candidate
macro_at f team m p = record { frame = f; team = team; padding = 0; mac = m; x = p.x; y = p.y; orient = p.orient; others = [] }

-- a place that is legal on the frame is legal on its copy
pub legal_on_copy : (f g : Frame) (team mac : ℕ) (p : SpotPlace) → AreCopies f g → IsLegalAt (macro_alone f team mac) p → IsLegalAt (macro_alone g team mac) p
legal_on_copy f g team mac p a legal =
    subst (λ (ms : List Macro). IsTeamLegal (macro_at g team (macro_in ms) p)) (sym a.macros)
    (λ r. rule_on (macro_at f team (macro_of f mac) p) g a r (legal r))
  where
    macro_in : List Macro → Macro
    macro_in ms = unwrap_or (slice_get ms mac) no_macro

-- a search on the copy, which has no soft blockages, finds no place only if no place is legal on
-- the frame
pub none_on_copy : (f g : Frame) (team mac : ℕ) → AreCopies f g → length g.soft ≡ 0
    → ((p : SpotPlace) → IsAllowedPlace (macro_alone g team mac) p → ⊥) → IsImpossible f team mac
none_on_copy f g team mac a none nowhere p legal =
    nowhere p record {
      legal = legal_on_copy f g team mac p a legal;
      off_soft = λ does_overlap. let within = does_overlap.2 in absurd (omega (arith, within, none));
    }

-- and a place that it finds is legal on the frame
pub one_on_copy : (f g : Frame) (team mac : ℕ) (p : SpotPlace) → AreCopies f g → IsAllowedPlace (macro_alone g team mac) p → IsImpossible f team mac → ⊥
one_on_copy f g team mac p a may impossible = impossible p (legal_on_copy g f team mac p (copies_back f g a) may.legal)
