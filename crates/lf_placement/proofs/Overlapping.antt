-- The first overlapping cell found in the strips is the first other cell of the team that the box
-- overlaps.
use Rattle.std.proofs.Common.{◌≡◌, ◌≢◌, pos, ◌+ℤ◌, ◌<ℤ◌, ◌≤ℤ◌, ℕ, ℤ, zero, suc, ◌+◌, ◌≤◌, List, [], ◌∷◌, map, Option, Some, None, refl, ap, sym, subst, ◌∙◌, arith}
use Rattle.std.proofs.lemmas.Int.{ints}
use Rattle.std.specs.Prelude.{All, Any, Contains, option_and_then, slice_get}
use Rattle.std.specs.Option.{option_map}
use Rattle.std.proofs.lemmas.List.Elements.{All-nil, All-cons}
use Rattle.std.proofs.lemmas.List.Sorted.{IsPermutation-refl}
use Rattle.lf_units.specs.declared.geometry.Rect.{Rect}
use Rattle.lf_units.specs.Area.{Covers, SharesPoint}
use Rattle.lf_floorplan.specs.declared.frame.Frame.{Frame}
use Rattle.lf_floorplan.specs.declared.place.Place.{Place}
use Rattle.lf_units.specs.declared.placed.Placed.{Placed}
use Rattle.lf_units.specs.Near.{IsLeastOverlapping, IsNoneOverlapping}
use Rattle.lf_rules.specs.declared.rule.Rule.TheVariants.{Overlap}
use Rattle.lf_rules.specs.Choice.{SpotPlace, spot_of}
use Rattle.lf_rules.specs.Legality.{IsFirstOverlapping as IsFirstOverlappingOf, Candidate, box_of as box_of_candidate, padded_box}
use Rattle.lf_rules.specs.Padding.{length_of, wider}
use Rattle.lf_rules.proofs.WiderLemmas.{length_least, length_upto}
use Rattle.lf_floorplan.specs.Boxes.{IsSized, size_of}
use Rattle.lf_floorplan.specs.Sizes.{turned}
use Rattle.lf_floorplan.proofs.SizeBounds.{IsSmall, small_pitch, turned_small, sized_pitch}
use Rattle.lf_rules.specs.Legalizer.{IsVerdict}
use Rattle.lf_rules.specs.Team.{Member, box_in, boxes_beside, boxes_from, with_box}
use Rattle.lf_rules.proofs.LegalParts.{KeepsFrame, IsPlacedInFrame, frame_meant, legal_by_parts}
use Rattle.lf_rules.proofs.RuleLemmas.{overlap_broken}
use Rattle.lf_rules.proofs.LeastOverlappingCell.{first_beside, none_beside}
use Rattle.lf_cells.specs.declared.cell.Cell.{Cell}
use Rattle.lf_cells.specs.declared.cell.CellId.{CellId}
use Rattle.lf_cells.specs.Cells.{Cells, cells_of}
use Rattle.lf_legalize.specs.Members.{member_of}
use Rattle.lf_segments.specs.declared.strip.Strip.{Strip}
use Rattle.lf_occupancy.specs.Views.{IsFirstOverlappingCell, OverlapsInStrips, Occupied, box_in_team, reach}
use Rattle.lf_occupancy.specs.Floorplans.{IsOccupancyOf, WidenedStripsCover, working_box_of}

-- ---- the boxes of cells, by their numbers

abbrev numbered : ℕ → Rect → Placed
numbered own rect = record { own = own; rect = rect }

one_hold : (Q : Placed → Type 0) (f : Frame) (own mac : ℕ) (place : Option SpotPlace) (rest : List Placed)
    → ((p : SpotPlace) → place ≡ Some p → Q (numbered own (box_in f mac p))) → All Q rest → All Q (with_box f own mac place rest)
one_hold Q f own mac None rest h all = all
one_hold Q f own mac (Some p) rest h all = All-cons Q (numbered own (box_in f mac p)) rest (h p refl) all

-- what holds for each placed cell's box holds for all boxes
boxes_hold : (Q : Placed → Type 0) (f : Frame) (own : ℕ) (cells : List Member)
    → ((k : ℕ) (m : Member) (p : SpotPlace) → slice_get cells k ≡ Some m → m.place ≡ Some p → Q (numbered (own + k) (box_in f m.mac p)))
    → All Q (boxes_from f own cells)
boxes_hold Q f own [] h = All-nil Q
boxes_hold Q f own (x ∷ cells) h =
    one_hold Q f own x.mac x.place (boxes_from f (own + 1) cells)
    (λ p is. subst (λ (n : ℕ). Q (numbered n (box_in f x.mac p))) (omega arith) (h 0 x p refl is))
    (boxes_hold Q f (own + 1) cells (λ k m p there is. subst (λ (n : ℕ). Q (numbered n (box_in f m.mac p))) (omega arith) (h (suc k) m p there is)))

first_there : (b : Placed) (boxes : List Placed) → Contains (b ∷ boxes) b
first_there b boxes = (0, omega arith, refl)

later_there : (a b : Placed) (boxes : List Placed) → Contains boxes b → Contains (a ∷ boxes) b
later_there a b boxes (k, within, is) = (suc k, omega (arith, within), is)

after_box : (f : Frame) (n mac : ℕ) (place : Option SpotPlace) (rest : List Placed) (p : Placed) → Contains rest p → Contains (with_box f n mac place rest) p
after_box f n mac None rest p there = there
after_box f n mac (Some at) rest p there = later_there (numbered n (box_in f mac at)) p rest there

-- a placed cell has its box among them
box_there : (f : Frame) (n : ℕ) (cells : List Member) (k : ℕ) (m : Member) (p : SpotPlace) → slice_get cells k ≡ Some m → m.place ≡ Some p
    → Contains (boxes_from f n cells) (numbered (n + k) (box_in f m.mac p))
box_there f n [] k m p there at = absurd cc
box_there f n (c ∷ cells) zero m p there at =
    let same : c ≡ m = cc in
    let placed : c.place ≡ Some p = ap (λ (x : Member). x.place) same ∙ at in
    let number : n ≡ n + 0 = omega arith in
    subst (λ (x : Member). Contains (boxes_from f n (c ∷ cells)) (numbered (n + 0) (box_in f x.mac p))) same
    (subst (λ (i : ℕ). Contains (boxes_from f n (c ∷ cells)) (numbered i (box_in f c.mac p))) number
    (subst (λ (o : Option SpotPlace). Contains (with_box f n c.mac o (boxes_from f (n + 1) cells)) (numbered n (box_in f c.mac p))) (sym placed)
    (first_there (numbered n (box_in f c.mac p)) (boxes_from f (n + 1) cells))))
box_there f n (c ∷ cells) (suc k) m p there at =
    let number : (n + 1) + k ≡ n + suc k = omega arith in
    subst (λ (i : ℕ). Contains (boxes_from f n (c ∷ cells)) (numbered i (box_in f m.mac p))) number
    (after_box f n c.mac c.place (boxes_from f (n + 1) cells) (numbered ((n + 1) + k) (box_in f m.mac p)) (box_there f (n + 1) cells k m p there at))

-- ---- the boxes of an occupancy

-- the box of a cell, as the rules see the cell
abbrev box_of_member : Frame → Member → Option Rect
box_of_member f m = option_map (box_in f m.mac) m.place

member_box : (f : Frame) (mac : ℕ) (place : Option Place)
    → option_map (λ p. box_in f mac (spot_of p)) place ≡ option_map (box_in f mac) (option_map spot_of place)
member_box f mac None = refl
member_box f mac (Some p) = refl

box_read : (f : Frame) (cells : List Cell) (k : ℕ)
    → option_and_then (λ (box : Option Rect). box) (slice_get (map (working_box_of f) cells) k) ≡ option_and_then (box_of_member f) (slice_get (map member_of cells) k)
box_read f [] k = refl
box_read f (c ∷ cs) zero = member_box f c.mac c.working
box_read f (c ∷ cs) (suc k) = box_read f cs k

-- the cell whose box it is
some_box : (f : Frame) (cells : List Member) (k : ℕ) (box : Rect) → option_and_then (box_of_member f) (slice_get cells k) ≡ Some box
    → (m : Member) × (p : SpotPlace) × (slice_get cells k ≡ Some m) × (m.place ≡ Some p) × (box_in f m.mac p ≡ box)
some_box f [] k box e = absurd cc
some_box f (m ∷ cells) zero box e = at m.place refl e where
  at : (place : Option SpotPlace) → m.place ≡ place → option_map (box_in f m.mac) place ≡ Some box
      → (n : Member) × (p : SpotPlace) × (Some m ≡ Some n) × (n.place ≡ Some p) × (box_in f n.mac p ≡ box)
  at None is none = absurd cc
  at (Some p) is some = (m, p, refl, is, cc)
some_box f (m ∷ cells) (suc k) box e = some_box f cells k box e

module _ (f : Frame) (table : Cells) (o : Occupied) (of : IsOccupancyOf f table o) (id : CellId) (rect : Rect) where
  abbrev cells : List Member
  cells = map member_of (cells_of table id.team)

  abbrev boxes : List Placed
  boxes = boxes_from f 0 cells

  box_is : (k : ℕ) → box_in_team o id.team k ≡ option_and_then (box_of_member f) (slice_get cells k)
  box_is k =
      ap (λ (bs : List (Option Rect)). option_and_then (λ (box : Option Rect). box) (slice_get bs k)) (of.boxes id.team)
      ∙ box_read f (cells_of table id.team) k

  placed_is : (k : ℕ) (m : Member) (p : SpotPlace) → slice_get cells k ≡ Some m → m.place ≡ Some p → box_in_team o id.team k ≡ Some (box_in f m.mac p)
  placed_is k m p there at =
      box_is k ∙ ap (λ (x : Option Member). option_and_then (box_of_member f) x) there ∙ ap (λ (x : Option SpotPlace). option_map (box_in f m.mac) x) at

  module _ (covered : (x y : ℤ) → Covers rect x y → Any (λ (g : Strip). (g.team ≡ id.team) × Covers (wider (reach o) g.area) x y) o.index.strips) where
    -- a box that overlaps is found in the strips
    overlaps_in : (k : ℕ) (box : Rect) → k ≢ id.own → box_in_team o id.team k ≡ Some box → SharesPoint rect box → OverlapsInStrips o id rect k
    overlaps_in k box other is_in_place shares = record {
      box = box;
      is = record { other = other; is_in_place = is_in_place };
      x = shares.x;
      y = shares.y;
      in_strip = covered shares.x shares.y shares.in_first;
      in_rect = shares.in_first;
      in_box = shares.in_second;
    }

    none_in : ((own : ℕ) → OverlapsInStrips o id rect own → ⊥) → IsNoneOverlapping boxes rect id.own
    none_in none =
        boxes_hold (λ q. q.own ≢ id.own → SharesPoint rect q.rect → ⊥) f 0 cells
        (λ k m p there at differ shares.
        none k (overlaps_in k (box_in f m.mac p) (λ same. differ (omega (arith, same))) (placed_is k m p there at) shares))

    least_in : (own : ℕ) → OverlapsInStrips o id rect own → ((other : ℕ) → OverlapsInStrips o id rect other → own ≤ other) → IsLeastOverlapping boxes rect id.own own
    least_in own does_overlap least =
        let cell = some_box f cells own does_overlap.box (sym (box_is own) ∙ does_overlap.is.is_in_place) in
        let shares : SharesPoint rect does_overlap.box = record { x = does_overlap.x; y = does_overlap.y; in_first = does_overlap.in_rect; in_second = does_overlap.in_box } in
        let number : 0 + own ≡ own = omega arith in
        record {
          overlapping_one = record {
            placed = numbered own (box_in f cell.0.mac cell.1);
            among =
                subst (λ (n : ℕ). Contains boxes (numbered n (box_in f cell.0.mac cell.1))) number (box_there f 0 cells own cell.0 cell.1 cell.2 cell.3);
            number = refl;
            other = does_overlap.is.other;
            shares = subst (λ (b : Rect). SharesPoint rect b) (sym cell.4) shares;
          };
          least =
              boxes_hold (λ q. q.own ≢ id.own → SharesPoint rect q.rect → own ≤ q.own) f 0 cells
              (λ k m p there at differ shared.
              let no_less = least k (overlaps_in k (box_in f m.mac p) (λ same. differ (omega (arith, same))) (placed_is k m p there at) shared) in
              omega (arith, no_less));
        }

-- ---- the verdict

-- the box of a macro of whole size has a point
wide_candidate : (t : Candidate) → IsSized t.frame t.mac → (box_of_candidate t).x1 <ℤ (box_of_candidate t).x2
wide_candidate t sized =
    let small : IsSmall (turned (size_of t.frame t.mac) t.orient) = turned_small _ _ (small_pitch _ _ _ (sized_pitch t.frame t.mac sized)) in
    wide t.x _ small.wide
  where
    wide : (x w : ℤ) → pos 0 <ℤ w → x <ℤ (x +ℤ w)
    wide x w h = omega (arith, ints)

-- if the rules except overlap hold, the overlapping cell found in the strips decides
pub overlapped_decides : (t : Candidate) (table : Cells) (o : Occupied) (id : CellId) (rect : Rect) (overlapping_one : Option ℕ) → IsOccupancyOf t.frame table o → WidenedStripsCover → t.padding ≤ 16 → IsSized t.frame t.mac
    → id.team ≡ t.team → t.others ≡ boxes_beside t.frame (map member_of (cells_of table t.team)) id.own → rect ≡ padded_box t
    → KeepsFrame t → IsFirstOverlappingCell o id rect overlapping_one
    → IsVerdict t (option_map (λ own. record { rule = Overlap; other = Some own }) overlapping_one)
overlapped_decides t table o id rect overlapping_one of widened_cover few sized team beside at holds found = by overlapping_one found
  where
    members : List Member
    members = map member_of (cells_of table id.team)

    all_boxes : List Placed
    all_boxes = boxes_from t.frame 0 members

    are : t.others ≡ boxes_beside t.frame members id.own
    are = beside ∙ ap (λ (n : ℕ). boxes_beside t.frame (map member_of (cells_of table n)) id.own) (sym team)

    frame : IsPlacedInFrame t
    frame = frame_meant t holds

    upto : length_of t.frame t.padding ≤ℤ reach o
    upto = rw of.site (length_upto t.frame t.padding 16 few)

    covered : (x y : ℤ) → Covers rect x y → Any (λ (g : Strip). (g.team ≡ id.team) × Covers (wider (reach o) g.area) x y) o.index.strips
    covered x y inside =
        subst (λ (n : ℕ). Any (λ (g : Strip). (g.team ≡ n) × Covers (wider (reach o) g.area) x y) o.index.strips) (sym team)
        (widened_cover t.frame o t.team (box_of_candidate t) (length_of t.frame t.padding) of.index of.site frame.is_in_place frame.ground frame.clear
        (wide_candidate t sized) (length_least t.frame t.padding) upto x y (subst (λ (b : Rect). Covers b x y) at inside))

    by : (m : Option ℕ) → IsFirstOverlappingCell o id rect m → IsVerdict t (option_map (λ own. record { rule = Overlap; other = Some own }) m)
    by None none =
        (legal_by_parts t).1 (
          holds,
          subst (λ (b : Rect). All (λ q. SharesPoint b q.rect → ⊥) t.others) at
              (subst (λ (bs : List Placed). All (λ q. SharesPoint rect q.rect → ⊥) bs) (sym are)
              (none_beside t.frame members all_boxes rect id.own (IsPermutation-refl all_boxes) (none_in t.frame table o of id rect covered none))),
        )
    by (Some own) (does_overlap, least) =
        overlap_broken t own holds
        (subst (λ (b : Rect). IsFirstOverlappingOf b t.others own) at
        (subst (λ (bs : List Placed). IsFirstOverlappingOf rect bs own) (sym are)
        (first_beside t.frame members all_boxes rect id.own own (IsPermutation-refl all_boxes) (least_in t.frame table o of id rect covered own does_overlap least))))
