-- The rules on a candidate, from the facts known at one height and one bottom row.
use Rattle.std.proofs.Common.{◌≡◌, ℕ, ℤ, ◌<◌, ◌≤◌, ◌%◌, ◌<ℤ◌, length, get_or, Option, Some, None, refl, sym, subst, arith, IsTrue}
use Rattle.std.specs.Prelude.{All, MatchOption}
use Rattle.std.specs.Option.{option_map}
use Rattle.std.proofs.lemmas.Option.{slice_get_within, get_or_from_slice_get}
use Rattle.lf_units.specs.declared.geometry.Rect.{Rect}
use Rattle.lf_units.specs.Area.{Covers, SharesPoint}
use Rattle.lf_orient.specs.Orientation.{is_allowed, EqualUnder, rail_below}
use Rattle.lf_floorplan.specs.declared.frame.Frame.{Frame}
use Rattle.lf_floorplan.specs.declared.parts.Row.{Row}
use Rattle.lf_floorplan.proofs.RowSupportLemmas.{height_one, bottom_one}
use Rattle.lf_rules.specs.declared.rule.Rule.{Rule}
use Rattle.lf_rules.specs.declared.rule.Rule.TheVariants.{Height, Row as RowRule, Stand, Orient as OrientRule, Rail as RailRule, Fence, Obstacle, Overlap}
use Rattle.lf_rules.specs.Legality.{IsFirstOverlapping, IsFrameRuleVerdict, Candidate, box_of, padded_box, Holds, number_of, IsTeamLegal, IsFirstBroken}
use Rattle.lf_rules.specs.Legalizer.{IsVerdict}
use Rattle.lf_rules.proofs.LegalParts.{HoldsBelow, KeepsFrame, below_overlap, first_broken_by, frame_below, legal_by_parts, next_below, none_below}
use Rattle.lf_floorplan.specs.RowSupport.{IsSitesHigh, IsBottomRow, Supports, RestsOnRows}
use Rattle.lf_floorplan.specs.Ground.{InGround}

-- What holds at the height and the bottom row holds at each height and each bottom row of the box.
pub at_each : (P : ℕ → Row → Type 0) (f : Frame) (box : Rect) → box.x1 <ℤ box.x2 → (k : ℕ) (r : Row) → IsSitesHigh f box k → IsBottomRow f box r → P k r →
    (m : ℕ) (s : Row) → IsSitesHigh f box m → IsBottomRow f box s → P m s
at_each P f box wide k r tall bottom p m s tall' bottom' =
    subst (λ (q : Row). P m q) (bottom_one f box r s wide bottom bottom')
    (subst (λ (n : ℕ). P n r) (height_one f box k m tall tall') p)

-- ---- the rules in their order

-- The facts that the walk through the rules has found at the box, its height and its bottom row.
pub record Found (t : Candidate) (box : Rect) (k : ℕ) (r : Row) : Type 0 where
  pub box_is : box ≡ box_of t
  pub wide : box.x1 <ℤ box.x2
  pub tall : IsSitesHigh t.frame box k
  pub bottom : IsBottomRow t.frame box r

abbrev pub IsDesignCellAt : Candidate → Rect → ℕ → Row → Type 0
IsDesignCellAt t box k r = (j : ℕ) → j < k → (s : Row) × Supports t.frame box r j s

abbrev pub OrientedAt : Candidate → ℕ → Row → Type 0
OrientedAt t k r = IsTrue (is_allowed t.mac.symmetry t.orient) × (k % 2 ≡ 1 → EqualUnder t.frame.site.symmetry t.orient r.orient)

abbrev pub RailAt : Candidate → ℕ → Row → Type 0
RailAt t k r = k % 2 ≡ 0 → rail_below r.orient ≡ Some t.mac.rail

below_row : (t : Candidate) → Holds t Height → HoldsBelow t RowRule
below_row t height = next_below t Height RowRule refl (none_below t) height

pub height_broken : (t : Candidate) → (Holds t Height → ⊥) → IsFirstBroken t record { rule = Height; other = None }
height_broken t not_so = first_broken_by t Height (none_below t) not_so (λ e. cc)

pub height_holds : (t : Candidate) (box : Rect) → box ≡ box_of t → (k : ℕ) → IsSitesHigh t.frame box k → Holds t Height
height_holds t box is k tall = (k, rw is at tall)

pub row_broken : (t : Candidate) (box : Rect) → box ≡ box_of t → (k : ℕ) → IsSitesHigh t.frame box k → ((r : Row) → IsBottomRow t.frame box r → ⊥) →
    IsFirstBroken t record { rule = RowRule; other = None }
row_broken t box is k tall none =
    first_broken_by t RowRule (below_row t (height_holds t box is k tall)) (λ h. none h.0 (rw is h.1)) (λ e. cc)

-- The facts found, at the candidate's own box.
at_box : (t : Candidate) (box : Rect) (k : ℕ) (r : Row) → Found t box k r → Found t (box_of t) k r
at_box t box k r f = subst (λ (b : Rect). Found t b k r) f.box_is f

row_holds : (t : Candidate) (k : ℕ) (r : Row) → Found t (box_of t) k r → Holds t RowRule
row_holds t k r f = (r, f.bottom)

found_height : (t : Candidate) (k : ℕ) (r : Row) → Found t (box_of t) k r → Holds t Height
found_height t k r f = (k, f.tall)

placed_holds : (t : Candidate) (k : ℕ) (r : Row) → Found t (box_of t) k r → IsDesignCellAt t (box_of t) k r → Holds t Stand
placed_holds t k r f s m q tall bottom = at_each (λ n p. IsDesignCellAt t (box_of t) n p) t.frame (box_of t) f.wide k r f.tall f.bottom s m q tall bottom

orient_holds : (t : Candidate) (k : ℕ) (r : Row) → Found t (box_of t) k r → OrientedAt t k r → Holds t OrientRule
orient_holds t k r f s = (s.0, λ m q tall bottom. at_each (λ n p. n % 2 ≡ 1 → EqualUnder t.frame.site.symmetry t.orient p.orient) t.frame (box_of t) f.wide k r f.tall f.bottom s.1 m q tall bottom)

rail_holds : (t : Candidate) (k : ℕ) (r : Row) → Found t (box_of t) k r → RailAt t k r → Holds t RailRule
rail_holds t k r f s m q tall bottom = at_each (λ n p. RailAt t n p) t.frame (box_of t) f.wide k r f.tall f.bottom s m q tall bottom

-- The rules on rows hold: those with numbers up to 5.
abbrev pub OnRows : Candidate → Type 0
OnRows t = (r : Rule) → number_of r ≤ 5 → Holds t r

-- The box rests on rows.
pub rows_support : (t : Candidate) → OnRows t → RestsOnRows t.frame (box_of t)
rows_support t rows = record { height = rows Height (omega arith); row = rows RowRule (omega arith); are_placed = rows Stand (omega arith) }

-- The box of the code rests on rows too.
pub rows_support_at : (t : Candidate) (box : Rect) → box ≡ box_of t → OnRows t → RestsOnRows t.frame box
rows_support_at t box is rows = subst (RestsOnRows t.frame) (sym is) (rows_support t rows)

below_fence : (t : Candidate) → OnRows t → HoldsBelow t Fence
below_fence t rows r less = rows r (omega (arith, less))

below_are_placed : (t : Candidate) (k : ℕ) (r : Row) → Found t (box_of t) k r → HoldsBelow t Stand
below_are_placed t k r f = next_below t RowRule Stand refl (below_row t (found_height t k r f)) (row_holds t k r f)

below_orient : (t : Candidate) (k : ℕ) (r : Row) → Found t (box_of t) k r → IsDesignCellAt t (box_of t) k r → HoldsBelow t OrientRule
below_orient t k r f s = next_below t Stand OrientRule refl (below_are_placed t k r f) (placed_holds t k r f s)

below_rail : (t : Candidate) (k : ℕ) (r : Row) → Found t (box_of t) k r → IsDesignCellAt t (box_of t) k r → OrientedAt t k r → HoldsBelow t RailRule
below_rail t k r f s o = next_below t OrientRule RailRule refl (below_orient t k r f s) (orient_holds t k r f o)

-- The facts found about the levels at the code's box hold at the candidate's own.
is_placed_at_box : (t : Candidate) (box : Rect) (k : ℕ) (r : Row) → Found t box k r → IsDesignCellAt t box k r → IsDesignCellAt t (box_of t) k r
is_placed_at_box t box k r found s = subst (λ (b : Rect). IsDesignCellAt t b k r) found.box_is s

pub on_rows : (t : Candidate) (box : Rect) (k : ℕ) (r : Row) → Found t box k r → IsDesignCellAt t box k r → OrientedAt t k r → RailAt t k r → OnRows t
on_rows t box k r found s o p =
    let f = at_box t box k r found in
    let below = next_below t RailRule Fence refl (below_rail t k r f (is_placed_at_box t box k r found s) o) (rail_holds t k r f p) in
    λ q few. below q (omega (arith, few))

pub placed_and_broken : (t : Candidate) (box : Rect) (k : ℕ) (r : Row) → Found t box k r → (IsDesignCellAt t box k r → ⊥) →
    IsFirstBroken t record { rule = Stand; other = None }
placed_and_broken t box k r found not_so =
    let f = at_box t box k r found in
    first_broken_by t Stand (below_are_placed t k r f)
    (λ h. not_so (subst (λ (b : Rect). IsDesignCellAt t b k r) (sym found.box_is) (h k r f.tall f.bottom))) (λ e. cc)

pub orient_broken : (t : Candidate) (box : Rect) (k : ℕ) (r : Row) → Found t box k r → IsDesignCellAt t box k r → (OrientedAt t k r → ⊥) →
    IsFirstBroken t record { rule = OrientRule; other = None }
orient_broken t box k r found s not_so =
    let f = at_box t box k r found in
    first_broken_by t OrientRule (below_orient t k r f (is_placed_at_box t box k r found s)) (λ h. not_so (h.0, h.1 k r f.tall f.bottom)) (λ e. cc)

pub rail_broken : (t : Candidate) (box : Rect) (k : ℕ) (r : Row) → Found t box k r → IsDesignCellAt t box k r → OrientedAt t k r → (RailAt t k r → ⊥) →
    IsFirstBroken t record { rule = RailRule; other = None }
rail_broken t box k r found s o not_so =
    let f = at_box t box k r found in
    first_broken_by t RailRule (below_rail t k r f (is_placed_at_box t box k r found s) o) (λ h. not_so (h k r f.tall f.bottom)) (λ e. cc)

pub fence_broken : (t : Candidate) → OnRows t → (Holds t Fence → ⊥) → IsFirstBroken t record { rule = Fence; other = None }
fence_broken t rows not_so = first_broken_by t Fence (below_fence t rows) not_so (λ e. cc)

below_obstacle : (t : Candidate) → OnRows t → Holds t Fence → HoldsBelow t Obstacle
below_obstacle t rows ground = next_below t Fence Obstacle refl (below_fence t rows) ground

pub obstacle_broken : (t : Candidate) → OnRows t → Holds t Fence → (Holds t Obstacle → ⊥) → IsFirstBroken t record { rule = Obstacle; other = None }
obstacle_broken t rows ground not_so = first_broken_by t Obstacle (below_obstacle t rows ground) not_so (λ e. cc)

-- The rules on rows, on ground and on obstacles are the frame's.
pub frame_of : (t : Candidate) → OnRows t → Holds t Fence → Holds t Obstacle → KeepsFrame t
frame_of t rows ground clear = frame_below t (next_below t Obstacle Overlap refl (below_obstacle t rows ground) clear)

-- If a cell overlaps, not all cells are clear.
overlapping_is_found : (t : Candidate) (own : ℕ) → IsFirstOverlapping (padded_box t) t.others own → Holds t Overlap → ⊥
overlapping_is_found t own overlapping_one clear =
    let within : overlapping_one.place < length t.others = slice_get_within t.others overlapping_one.place overlapping_one.cell overlapping_one.there in
    let is : get_or t.others overlapping_one.place overlapping_one.cell ≡ overlapping_one.cell = get_or_from_slice_get t.others overlapping_one.place overlapping_one.cell overlapping_one.cell overlapping_one.there in
    clear overlapping_one.place overlapping_one.cell within (rw is overlapping_one.does_overlap)

pub overlap_broken : (t : Candidate) (own : ℕ) → KeepsFrame t → IsFirstOverlapping (padded_box t) t.others own → IsFirstBroken t record { rule = Overlap; other = Some own }
overlap_broken t own keeps overlapping_one = record {
  broken = λ h. overlapping_is_found t own overlapping_one h;
  lesser = below_overlap t keeps;
  other = (refl, overlapping_one);
}

-- ---- the rules on areas, for the box of the code

abbrev pub InGroundAt : Candidate → Rect → Type 0
InGroundAt t box = (x y : ℤ) → Covers box x y → InGround t.frame t.team x y

abbrev pub ClearAt : Candidate → Rect → Type 0
ClearAt t box = All (λ o. SharesPoint box o → ⊥) t.frame.obstacles

abbrev pub ApartAt : Candidate → Rect → Type 0
ApartAt t box = All (λ p. SharesPoint box p.rect → ⊥) t.others

pub fence_at : (t : Candidate) (box : Rect) → box ≡ box_of t → InGroundAt t box → Holds t Fence
fence_at t box is h = subst (InGroundAt t) is h

pub fence_not : (t : Candidate) (box : Rect) → box ≡ box_of t → OnRows t → (InGroundAt t box → ⊥) → IsFirstBroken t record { rule = Fence; other = None }
fence_not t box is f not_so = fence_broken t f (λ h. not_so (subst (InGroundAt t) (sym is) h))

pub obstacle_at : (t : Candidate) (box : Rect) → box ≡ box_of t → ClearAt t box → Holds t Obstacle
obstacle_at t box is h = subst (ClearAt t) is h

pub obstacle_not : (t : Candidate) (box : Rect) → box ≡ box_of t → OnRows t → InGroundAt t box → (ClearAt t box → ⊥) → IsFirstBroken t record { rule = Obstacle; other = None }
obstacle_not t box is f g not_so = obstacle_broken t f (fence_at t box is g) (λ h. not_so (subst (ClearAt t) (sym is) h))

pub frame_at : (t : Candidate) (box : Rect) → box ≡ box_of t → OnRows t → InGroundAt t box → ClearAt t box → KeepsFrame t
frame_at t box is rows g o = frame_of t rows (fence_at t box is g) (obstacle_at t box is o)

pub overlap_not : (t : Candidate) (box : Rect) (own : ℕ) → box ≡ padded_box t → KeepsFrame t → IsFirstOverlapping box t.others own →
    IsFirstBroken t record { rule = Overlap; other = Some own }
overlap_not t box own is keeps overlapping_one = overlap_broken t own keeps (subst (λ (b : Rect). IsFirstOverlapping b t.others own) is overlapping_one)

pub all_at : (t : Candidate) (box : Rect) → box ≡ padded_box t → KeepsFrame t → ApartAt t box → IsTeamLegal t
all_at t box is keeps a = (legal_by_parts t).1 (keeps, subst (ApartAt t) is a)

-- ---- the verdict

-- A rule other than Overlap that is the first broken.
pub frame_broken : (t : Candidate) (verdict : Option Rule) (rule : Rule) → verdict ≡ Some rule → IsFrameRuleVerdict t verdict →
    IsFirstBroken t record { rule = rule; other = None }
frame_broken t verdict rule is said = subst (IsFrameRuleVerdict t) is said

-- If all rules except Overlap hold, the overlapping cell decides.
pub overlapped_verdict : (t : Candidate) (box : Rect) (verdict : Option Rule) (overlapping_one : Option ℕ) → box ≡ padded_box t → verdict ≡ None → IsFrameRuleVerdict t verdict →
    MatchOption overlapping_one (ApartAt t box) (λ own. IsFirstOverlapping box t.others own) → IsVerdict t (option_map (λ own. record { rule = Overlap; other = Some own }) overlapping_one)
overlapped_verdict t box verdict overlapping_one at none said found = by overlapping_one found
  where
    keeps : KeepsFrame t
    keeps = subst (IsFrameRuleVerdict t) none said

    by : (m : Option ℕ) → MatchOption m (ApartAt t box) (λ own. IsFirstOverlapping box t.others own) →
        IsVerdict t (option_map (λ own. record { rule = Overlap; other = Some own }) m)
    by None apart = all_at t box at keeps apart
    by (Some own) first = overlap_not t box own at keeps first
