-- If a place with a given bottom row is allowed, the cell's box is free at each of its levels.
use Rattle.std.proofs.Common.{◌≡◌, ◌⊎◌, inl, inr, ℕ, zero, suc, ℤ, pos, negsuc, ◌*◌, ◌<◌, ◌+ℤ◌, ◌*ℤ◌, ◌≤ℤ◌, ◌<ℤ◌}
use Rattle.std.proofs.Common.{List, [], Option, Some, None, get_or, map, slice_get, refl, sym, ap, subst, ◌∙◌, arith}
use Rattle.std.specs.Prelude.{All, Any, Contains}
use Rattle.std.specs.Option.{option_map, option_and_then}
use Rattle.std.proofs.Math.Nat.{suc-mul}
use Rattle.std.proofs.lemmas.Int.{ints}
use Rattle.std.proofs.lemmas.Option.{slice_get-get_or, slice_get-map}
use Rattle.lf_units.proofs.Any.{any_map}
use Rattle.lf_units.specs.declared.geometry.Point.{Point}
use Rattle.lf_units.specs.declared.geometry.Rect.{Rect}
use Rattle.lf_units.specs.Area.{Covers, SharesPoint}
use Rattle.lf_orient.specs.declared.Orient.{Orient}
use Rattle.lf_orient.specs.declared.Rail.{Rail}
use Rattle.lf_orient.specs.Orientation.{rail_below}
use Rattle.lf_units.specs.declared.span.Span.{Span}
use Rattle.lf_units.specs.Spans.{HoldsNumber, IsDisjointFrom, IsFilled, LiesIn, LiesInOneOf}
use Rattle.lf_units.proofs.Anys.{any_weaker}
use Rattle.lf_floorplan.specs.declared.frame.Frame.{Frame}
use Rattle.lf_floorplan.specs.declared.parts.Row.{Row}
use Rattle.lf_floorplan.specs.declared.place.Place.{Place}
use Rattle.lf_floorplan.specs.Boxes.{macro_of, size_of}
use Rattle.lf_floorplan.specs.Sizes.{box_at as box_sized, turned}
use Rattle.lf_floorplan.specs.Ground.{StaysInGround, IsClear, OverlapsSoft}
use Rattle.lf_floorplan.specs.RowSupport.{Supports, IsBottomRow, IsSitesHigh, RestsOnRows, rail_alternated}
use Rattle.lf_segments.specs.declared.segment.Segment.{Segment}
use Rattle.lf_segments.specs.Segments.{IsOf, LiesInSegment}
use Rattle.lf_segments.proofs.LawLemmas.{segments_hold}
use Rattle.lf_rules.specs.Padding.{wider}
use Rattle.lf_rules.specs.Legality.{IsOnRail, IsOriented}
use Rattle.lf_rules.specs.Legality.{box_of as box_tried}
use Rattle.lf_rules.specs.Choice.{SpotPlace, IsLegalAt, IsAllowedPlace, spot_of, candidate_at}
use Rattle.lf_rules.specs.Team.{Member, box_in, boxes_beside}
use Rattle.lf_rules.proofs.BesideLemmas.{beside_each}
use Rattle.lf_rules.proofs.LegalParts.{frame_meant, legal_by_parts}
use Rattle.lf_rules.proofs.SiteLemmas.{OneOfFour, legal_upright}
use Rattle.lf_cells.specs.declared.cell.Cell.{Cell}
use Rattle.lf_cells.specs.declared.cell.CellId.{CellId}
use Rattle.lf_cells.specs.Cells.{Cells, cells_of}
use Rattle.lf_segments.specs.declared.strip.Strip.{Strip}
use Rattle.lf_occupancy.specs.Views.{Occupied, IsFreeOver, IsOther, IsStripOf, boxes_of, part_over}
use Rattle.lf_segments.specs.Strips.{IsNear, row_y, strip_of}
use Rattle.lf_occupancy.specs.Floorplans.{HoldsCells, IsOccupancyOf, working_box_of}
use Rattle.lf_legalize.specs.declared.row_search.RowSearch.{RowSearch}
use Rattle.lf_legalize.specs.Members.{member_of}
use Rattle.lf_legalize.specs.RowSearches.{IsOnRowIn, query_of_search, padding_in}
use Rattle.lf_legalize.specs.Levels.{IsFreeOnRow, IsLevel, FitsRow}
use Rattle.lf_legalize.proofs.LevelLemmas.{own_one}
use Rattle.lf_legalize.proofs.SoftLemmas.{soft_over}

-- ---- levels of a box

-- one level more
one_more : (k : ℕ) (p : ℤ) → pos 0 <ℤ p → (pos (suc k) *ℤ p) ≡ ((pos k *ℤ p) +ℤ p)
one_more k (pos n) high = ap (λ (m : ℕ). pos m) (suc-mul k n)
one_more k (negsuc n) high = absurd (omega (arith, ints, high))

-- a greater level is higher
rises : (p : ℤ) → pos 0 <ℤ p → (j k : ℕ) → j < k → ((pos j *ℤ p) +ℤ p) ≤ℤ (pos k *ℤ p)
rises p high j zero less = absurd (omega (arith, less))
rises p high j (suc k) less = elim order [
  | inl below ↦ let before = rises p high j k below in let more = one_more k p high in omega (arith, ints, before, more, high)
  | inr same ↦
      let more = one_more k p high in
      let At : ℕ → Type 0 = λ n. ((pos n *ℤ p) +ℤ p) ≤ℤ (pos (suc k) *ℤ p) in
      subst At (sym same) (omega (arith, ints, more))
]
  where
    order : (j < k) ⊎ (j ≡ k)
    order = grind (arith, less)

above : (p : ℤ) → pos 0 <ℤ p → (j : ℕ) → pos 0 ≤ℤ (pos j *ℤ p)
above (pos n) high j = omega (arith, ints)
above (negsuc n) high j = absurd (omega (arith, ints, high))

pub none_high : (p : ℤ) → pos 0 <ℤ p → (pos 0 *ℤ p) ≡ pos 0
none_high (pos n) high = let none : 0 * n ≡ 0 = omega arith in ap (λ (m : ℕ). pos m) none
none_high (negsuc n) high = absurd (omega (arith, ints, high))

-- of adjacent levels from bottom to top, one holds y
pub record IsAtLevel (p low y : ℤ) (k : ℕ) : Type 0 where
  pub j : ℕ
  pub less : j < k
  pub from : (low +ℤ (pos j *ℤ p)) ≤ℤ y
  pub below : y <ℤ ((low +ℤ (pos j *ℤ p)) +ℤ p)

pub level_of : (p low y : ℤ) → pos 0 <ℤ p → (k : ℕ) → low ≤ℤ y → y <ℤ (low +ℤ (pos k *ℤ p)) → IsAtLevel p low y k
level_of p low y high zero from below = let none = none_high p high in absurd (omega (arith, ints, from, below, none))
level_of p low y high (suc k) from below = elim order [
  | inl less ↦ let l = level_of p low y high k from less in record { j = l.j; less = let h = l.less in omega (arith, h); from = l.from; below = l.below }
  | inr part_over ↦ record { j = k; less = omega arith; from = part_over; below = let more = one_more k p high in omega (arith, ints, below, more) }
]
  where
    order : (y <ℤ (low +ℤ (pos k *ℤ p))) ⊎ ((low +ℤ (pos k *ℤ p)) ≤ℤ y)
    order = grind (arith, ints)

-- ---- the box of a place

-- the box of the cell at a place, in an upright orientation
abbrev pub upright_box : RowSearch → SpotPlace → Rect
upright_box s p = box_sized s.size p.x p.y

-- the x range of the box
abbrev pub reach : RowSearch → ℤ → Span
reach s x = record { lo = x; hi = x +ℤ s.size.x }

not_turned : (size : Point) (o : Orient) → OneOfFour o → turned size o ≡ size
not_turned size o (inl n) = rw n refl
not_turned size o (inr (inl t)) = rw t refl
not_turned size o (inr (inr (inl fn))) = rw fn refl
not_turned size o (inr (inr (inr fs))) = rw fs refl

pub box_is : (s : RowSearch) (p : SpotPlace) → OneOfFour p.orient → box_tried (candidate_at (query_of_search s) p) ≡ upright_box s p
box_is s p four =
    let size : turned (size_of s.frame.now (macro_of s.frame.now s.mac)) p.orient ≡ s.size =
    not_turned (size_of s.frame.now (macro_of s.frame.now s.mac)) p.orient four ∙ sym s.size_is in
    ap (λ (z : Point). box_sized z p.x p.y) size

pub wide : (s : RowSearch) → pos 0 <ℤ s.size.x
wide s = rw s.size_is s.sized.wide

pub filled : (s : RowSearch) (x : ℤ) → IsFilled (reach s x)
filled s x = let w = wide s in omega (arith, ints, w)

pub sites_high : (s : RowSearch) (p : SpotPlace) → IsSitesHigh s.frame.now (upright_box s p) s.height
sites_high s p = record { least = s.least; most = s.most; high = ap (λ (h : ℤ). p.y +ℤ h) s.high }

-- ---- the other cells of the team

-- a placed cell of a team, with its box
record IsPlaced (f : Frame) (cells : List Cell) (own : ℕ) (box : Rect) : Type 0 where
  cell : Cell
  place : Place
  there : slice_get cells own ≡ Some cell
  is_in_place : cell.working ≡ Some place
  is : box_in f cell.mac (spot_of place) ≡ box

box_of_cell : (f : Frame) (cells : List Cell) (own : ℕ) (box : Rect) (c : Cell) → slice_get cells own ≡ Some c → (w : Option Place) → c.working ≡ w →
    option_map (λ p. box_in f c.mac (spot_of p)) w ≡ Some box → IsPlaced f cells own box
box_of_cell f cells own box c there None is_in_place is = absurd cc
box_of_cell f cells own box c there (Some p) is_in_place is = record { cell = c; place = p; there = there; is_in_place = is_in_place; is = cc }

placed_at : (f : Frame) (cells : List Cell) (own : ℕ) (box : Rect) (found : Option Cell) → slice_get cells own ≡ found →
    option_and_then (λ b. b) (option_map (working_box_of f) found) ≡ Some box → IsPlaced f cells own box
placed_at f cells own box None there is = absurd cc
placed_at f cells own box (Some c) there is = box_of_cell f cells own box c there c.working refl is

other_placed : (f : Frame) (table : Cells) (o : Occupied) (id : CellId) (own : ℕ) (box : Rect) → HoldsCells f table o → IsOther o id own box →
    IsPlaced f (cells_of table id.team) own box
other_placed f table o id own box held other =
    let cells = cells_of table id.team in
    let boxes : slice_get (boxes_of o id.team) own ≡ option_map (working_box_of f) (slice_get cells own) =
    ap (λ (bs : List (Option Rect)). slice_get bs own) (held id.team) ∙ slice_get-map (working_box_of f) cells own in
    placed_at f cells own box (slice_get cells own) refl
    (sym (ap (λ (b : Option (Option Rect)). option_and_then (λ c. c) b) boxes) ∙ other.is_in_place)

-- the same from the rules' side: a member is another cell of the occupancy
member_there : (f : Frame) (cells : List Cell) (k : ℕ) (m : Member) (p : SpotPlace) (found : Option Cell) → slice_get cells k ≡ found →
    option_map member_of found ≡ Some m → m.place ≡ Some p → option_and_then (λ b. b) (option_map (working_box_of f) found) ≡ Some (box_in f m.mac p)
member_there f cells k m p None there is placed = absurd cc
member_there f cells k m p (Some c) there is placed = by c.working refl
  where
    same : member_of c ≡ m
    same = cc

    by : (w : Option Place) → c.working ≡ w → option_map (λ (q : Place). box_in f c.mac (spot_of q)) c.working ≡ Some (box_in f m.mac p)
    by None e = let none : m.place ≡ None = sym (ap (λ (x : Member). x.place) same) ∙ ap (option_map spot_of) e in absurd cc
    by (Some q) e =
        let at : Some (spot_of q) ≡ Some p = sym (ap (option_map spot_of) e) ∙ ap (λ (x : Member). x.place) same ∙ placed in
        let spot : spot_of q ≡ p = cc in
        let mac : c.mac ≡ m.mac = ap (λ (x : Member). x.mac) same in
        ap (option_map (λ (z : Place). box_in f c.mac (spot_of z))) e ∙ ap (λ (z : SpotPlace). Some (box_in f c.mac z)) spot
        ∙ ap (λ (z : ℕ). Some (box_in f z p)) mac

pub is_other : (f : Frame) (table : Cells) (o : Occupied) (id : CellId) (k : ℕ) (m : Member) (p : SpotPlace) → HoldsCells f table o → (k ≡ id.own → ⊥) →
    slice_get (map member_of (cells_of table id.team)) k ≡ Some m → m.place ≡ Some p → IsOther o id k (box_in f m.mac p)
is_other f table o id k m p held differ there placed =
    let cells = cells_of table id.team in
    let boxes : slice_get (boxes_of o id.team) k ≡ option_map (working_box_of f) (slice_get cells k) =
    ap (λ (bs : List (Option Rect)). slice_get bs k) (held id.team) ∙ slice_get-map (working_box_of f) cells k in
    record {
      other = differ;
      is_in_place = ap (λ (b : Option (Option Rect)). option_and_then (λ c. c) b) boxes
          ∙ member_there f cells k m p (slice_get cells k) refl (sym (slice_get-map member_of cells k) ∙ there) placed;
    }

-- ---- from the rules to the levels

-- what is known of the box of an allowed place
record IsGoodBox (s : RowSearch) (box : Rect) : Type 0 where
  is_in_place : RestsOnRows s.frame.now box
  ground : StaysInGround s.frame.now s.id.team box
  clear : IsClear s.frame.now box
  apart : All (λ b. SharesPoint (wider (padding_in s) box) b.rect → ⊥) (boxes_beside s.frame.now (map member_of (cells_of s.occupied.now.cells s.id.team)) s.id.own)
  off_soft : OverlapsSoft s.frame.now box → ⊥

good_box : (s : RowSearch) (p : SpotPlace) → IsAllowedPlace (query_of_search s) p → IsGoodBox s (upright_box s p)
good_box s p may =
    let parts = (legal_by_parts (candidate_at (query_of_search s) p)).0 may.legal in
    let frame = frame_meant (candidate_at (query_of_search s) p) parts.0 in
    subst (IsGoodBox s) (box_is s p (legal_upright (query_of_search s) p may.legal))
    record { is_in_place = frame.is_in_place; ground = frame.ground; clear = frame.clear; apart = parts.1; off_soft = may.off_soft }

pub row_y_is : (f : Frame) (n : ℕ) (r : Row) → slice_get f.rows n ≡ Some r → row_y f n ≡ r.y
row_y_is f n r there = rw there refl

-- a row under the box is free over its reach
free_on_carrier : (s : RowSearch) (bottom : Row) (window : Span) (p : SpotPlace) (j n : ℕ) (r : Row) → IsOccupancyOf s.frame.now s.occupied.now.cells s.occupancy.now →
    IsOnRowIn s.frame.now s.size bottom window p → IsGoodBox s (upright_box s p) → j < s.height → slice_get s.frame.now.rows n ≡ Some r →
    Supports s.frame.now (upright_box s p) bottom j r → IsFreeOnRow s.occupancy.now s.id window (padding_in s) n (reach s p.x)
free_on_carrier s bottom window p j n r held on legal less there carries = record {
  within = λ x h. record {
    low = let a = on.left in let b = h.low in omega (arith, ints, a, b);
    high = let a = on.right in let b = h.high in omega (arith, ints, a, b);
  };
  in_strip = subst (Any Free) (sym held.index.strips)
      (any_map (strip_of f) Free s.occupancy.now.index.segments
      (any_weaker (λ g. IsOf n s.id.team g × LiesIn (reach s p.x) g.span) (λ g. Free (strip_of f g)) free_over s.occupancy.now.index.segments lies));
  off_soft = apart_at;
}
  where
    f : Frame
    f = s.frame.now

    Free : Strip → Type 0
    Free g = IsStripOf n s.id.team g × IsFreeOver s.occupancy.now s.id (padding_in s) g (reach s p.x)

    lies : LiesInSegment s.occupancy.now.index.segments n s.id.team (reach s p.x)
    lies = segments_hold f f.obstacles s.occupancy.now.index.segments s.id.team (upright_box s p) held.index.segments legal.is_in_place (filled s p.x) legal.ground legal.clear
        s.height bottom j n r (sites_high s p) on.bottom less there carries

    q : ℤ
    q = f.pitch.y

    between : (y : ℤ) → r.y ≤ℤ y → y <ℤ (r.y +ℤ q) → (p.y ≤ℤ y) × (y <ℤ (p.y +ℤ s.size.y))
    between y from to =
        let up : pos 0 <ℤ q = f.pitch_whole.high in
        let low = above q up j in
        let top = rises q up j s.height less in
        let level : r.y ≡ p.y +ℤ (pos j *ℤ q) = carries.at_row.at_level in
        let size : s.size.y ≡ pos s.height *ℤ q = s.high in
        (omega (arith, ints, low, level, from), omega (arith, ints, top, level, size, to))

    in_row : (x y : ℤ) → HoldsNumber (reach s p.x) x → r.y ≤ℤ y → y <ℤ (r.y +ℤ q) → Covers (upright_box s p) x y
    in_row x y holds from to =
        let at = between y from to in
        record { left = holds.low; right = holds.high; bottom = at.0; top = at.1 }

    level_is : (row : ℕ) → row ≡ n → row_y f row ≡ r.y
    level_is row of = ap (row_y f) of ∙ row_y_is f n r there

    -- a strip of the row over the reach, widened, lies in the widened box
    point : (g : Segment) (by x y : ℤ) → g.row ≡ n → Covers (wider by (part_over (strip_of f g) (reach s p.x))) x y → Covers (wider by (upright_box s p)) x y
    point g by x y of covers =
        let at = level_is g.row of in
        let from : row_y f g.row ≤ℤ y = covers.bottom in
        let to : y <ℤ (row_y f g.row +ℤ q) = covers.top in
        let inside = between y (omega (arith, ints, at, from)) (omega (arith, ints, at, to)) in
        record { left = covers.left; right = covers.right; bottom = inside.0; top = inside.1 }

    apart_at : (k : ℕ) (g : Strip) → slice_get s.occupancy.now.index.strips k ≡ Some g → IsNear n s.id.team window.lo window.hi g →
        IsDisjointFrom (get_or s.occupancy.now.index.soft k []) (reach s p.x)
    apart_at k g here near i d below x in_reach in_soft =
        let soft : List Span = get_or s.occupancy.now.index.soft k [] in
        let spans = soft_over f s.occupancy.now.index k g held.index here in
        let whole = (spans.exact (get_or soft i d) (spans.rising.filled i d below)).0 (own_one soft i d below) in
        let at = whole.1 x in_soft in
        let level = level_is g.row near.in_row in
        let bottom = spans.bottom in
        let top = spans.top in
        let from = at.covers.bottom in
        let to = at.covers.top in
        let inside = in_row x at.y in_reach (omega (arith, ints, level, bottom, from)) (omega (arith, ints, level, top, to)) in
        legal.off_soft (any_weaker (λ z. Covers z x at.y) (λ z. SharesPoint (upright_box s p) z)
        (λ z covers. record { x = x; y = at.y; in_first = inside; in_second = covers }) f.soft at.soft)

    free_over : (g : Segment) → IsOf n s.id.team g × LiesIn (reach s p.x) g.span → Free (strip_of f g)
    free_over g both = (
      record { in_row = both.0.in_row; of_team = both.0.of_team },
      record {
        within = both.1;
        clear = λ own box other shares.
            let by : ℤ = padding_in s in
            let cell = other_placed f s.occupied.now.cells s.occupancy.now s.id own box held.boxes other in
            let cells = cells_of s.occupied.now.cells s.id.team in
            let apart = beside_each (λ rect. SharesPoint (wider by (upright_box s p)) rect → ⊥) f (map member_of cells) s.id.own legal.apart own
            (member_of cell.cell) (spot_of cell.place) other.other
            (slice_get-map member_of cells own ∙ ap (option_map member_of) cell.there) (ap (option_map spot_of) cell.is_in_place) in
            apart (subst (SharesPoint (wider by (upright_box s p))) (sym cell.is)
            record { x = shares.x; y = shares.y; in_first = point g by shares.x shares.y both.0.in_row shares.in_first; in_second = shares.in_second });
      },
    )

pub same_rail : (o : Option Rail) → o ≡ option_map (rail_alternated 0) o
same_rail None = refl
same_rail (Some r) = refl

row_at : (f : Frame) (r : Row) → Contains f.rows r → (n : ℕ) × (slice_get f.rows n ≡ Some r)
row_at f r (n, within, is) = (n, slice_get-get_or f.rows n r within ∙ ap (λ (t : Row). Some t) is)

-- at each level some row is free over the reach of an allowed place
free_at_level : (s : RowSearch) (own : ℕ) (bottom : Row) (window : Span) (p : SpotPlace) (j : ℕ) (free : List Span) → slice_get s.frame.now.rows own ≡ Some bottom →
    IsOccupancyOf s.frame.now s.occupied.now.cells s.occupancy.now → IsOnRowIn s.frame.now s.size bottom window p → IsGoodBox s (upright_box s p) → j < s.height →
    IsLevel s own bottom window j free → LiesInOneOf free (reach s p.x)
free_at_level s own bottom window p zero free there held on legal less level =
    (level.exact (reach s p.x) (filled s p.x)).1 record {
      number = own;
      among = refl;
      free = free_on_carrier s bottom window p zero own bottom held on legal less there
          record { core_ones = on.bottom.core_ones; at_row = on.bottom.at_bottom; rail = same_rail (rail_below bottom.orient) };
    }
free_at_level s own bottom window p (suc j) free there held on legal less level =
    let f = s.frame.now in
    let carried = legal.is_in_place.are_placed s.height bottom (sites_high s p) on.bottom (suc j) less in
    let r : Row = carried.0 in
    let carries : Supports f (upright_box s p) bottom (suc j) r = carried.1 in
    let at = row_at f r carries.core_ones in
    let base : bottom.y ≡ p.y +ℤ (pos 0 *ℤ f.pitch.y) = on.bottom.at_bottom.at_level in
    let none = none_high f.pitch.y f.pitch_whole.high in
    let level_is : r.y ≡ p.y +ℤ (pos (suc j) *ℤ f.pitch.y) = carries.at_row.at_level in
    (level.exact (reach s p.x) (filled s p.x)).1 record {
      number = at.0;
      among = record { row = r; is_in_place = at.1; at_level = omega (arith, ints, base, none, level_is); rail = carries.rail };
      free = free_on_carrier s bottom window p (suc j) at.0 r held on legal less at.1 carries;
    }

pub may_go_is_free : (s : RowSearch) (own : ℕ) (bottom : Row) (window : Span) (p : SpotPlace) (j : ℕ) (free : List Span) →
    slice_get s.frame.now.rows own ≡ Some bottom → IsOccupancyOf s.frame.now s.occupied.now.cells s.occupancy.now → IsOnRowIn s.frame.now s.size bottom window p →
    IsAllowedPlace (query_of_search s) p → j < s.height → IsLevel s own bottom window j free → LiesInOneOf free (reach s p.x)
may_go_is_free s own bottom window p j free there held on may less level =
    free_at_level s own bottom window p j free there held on (good_box s p may) less level

-- a legal place with this bottom row has the row's y
pub legal_y : (s : RowSearch) (bottom : Row) (window : Span) (p : SpotPlace) → IsOnRowIn s.frame.now s.size bottom window p → p.y ≡ bottom.y
legal_y s bottom window p on =
    let base : bottom.y ≡ p.y +ℤ (pos 0 *ℤ s.frame.now.pitch.y) = on.bottom.at_bottom.at_level in
    let none = none_high s.frame.now.pitch.y s.frame.now.pitch_whole.high in
    omega (arith, ints, base, none)

-- its orientation is one that the row allows the cell
record IsFit (s : RowSearch) (bottom : Row) (o : Orient) (box : Rect) : Type 0 where
  fit : IsSitesHigh s.frame.now box s.height → IsBottomRow s.frame.now box bottom → FitsRow s bottom o

pub legal_may : (s : RowSearch) (bottom : Row) (window : Span) (p : SpotPlace) → IsOnRowIn s.frame.now s.size bottom window p → IsLegalAt (query_of_search s) p →
    FitsRow s bottom p.orient
legal_may s bottom window p on legal =
    let frame = frame_meant (candidate_at (query_of_search s) p) ((legal_by_parts (candidate_at (query_of_search s) p)).0 legal).0 in
    let oriented : IsOriented (candidate_at (query_of_search s) p) = frame.oriented in
    let railed : IsOnRail (candidate_at (query_of_search s) p) = frame.on_rail in
    let fits : IsFit s bottom p.orient (upright_box s p) = subst (IsFit s bottom p.orient) (box_is s p (legal_upright (query_of_search s) p legal)) record {
      fit = λ high at. record {
        allowed = oriented.0;
        equal = λ odd. oriented.1 s.height bottom high at odd;
        rail = λ even. railed s.height bottom high at even;
      };
    } in
    fits.fit (sites_high s p) on.bottom
