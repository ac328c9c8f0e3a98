-- What the tests of a cell at a place say about it.
use Rattle.std.proofs.Common.{◌≡◌, ◌≤◌, ◌≤ℤ◌, ◌*ℤ◌, ℕ, ℤ, pos, zero, suc, [], ◌∷◌, List, get_or, map, Option, Some, None, refl, ap, subst, sym, ◌∙◌}
use Rattle.std.specs.Prelude.{All, MatchOption, option_and_then, slice_get}
use Rattle.std.specs.Option.{option_map}
use Rattle.std.proofs.lemmas.Option.{get_or_from_slice_get, slice_get_within}
use Rattle.lf_units.specs.declared.geometry.Rect.{Rect}
use Rattle.lf_units.specs.Area.{SharesPoint}
use Rattle.lf_floorplan.specs.declared.frame.Frame.{Frame}
use Rattle.lf_floorplan.specs.declared.macros.Macro.{Macro}
use Rattle.lf_floorplan.specs.declared.place.Place.{Place}
use Rattle.lf_floorplan.specs.Boxes.{IsSized, macro_of}
use Rattle.lf_floorplan.proofs.CellLemmas.{macro_there}
use Rattle.lf_units.specs.declared.placed.Placed.{Placed}
use Rattle.lf_rules.specs.declared.rule.Broken.{Broken}
use Rattle.lf_rules.specs.declared.rule.Rule.{Rule}
use Rattle.lf_rules.specs.declared.rule.Rule.TheVariants.{Overlap}
use Rattle.lf_rules.specs.Choice.{spot_of}
use Rattle.lf_rules.specs.Legality.{Candidate, padded_box, candidate_of}
use Rattle.lf_rules.specs.Legalizer.{IsVerdict}
use Rattle.lf_rules.specs.Padding.{length_of, wider}
use Rattle.lf_rules.proofs.WiderLemmas.{length_least, length_upto}
use Rattle.lf_rules.specs.Team.{box_in, boxes_beside}
use Rattle.lf_rules.specs.Legality.{IsFrameRuleVerdict}
use Rattle.lf_cells.specs.declared.cell.Cell.{Cell}
use Rattle.lf_cells.specs.declared.cell.CellId.{CellId}
use Rattle.lf_cells.specs.declared.cell.CellPlacement.{CellPlacement}
use Rattle.lf_cells.specs.Cells.{cell_at, cells_of, placement_of, working_at}
use Rattle.lf_legalize.specs.Members.{IsSizedCell, member_of}
use Rattle.lf_occupancy.specs.Views.{IsFirstOverlappingCell, IsPaddingOf, OverlapsInStrips, OverlapsNoBox, boxes_of, cell_box}
use Rattle.lf_occupancy.specs.Floorplans.{IsOccupancyOf, WidenedStripsCover, working_box_of}
use Rattle.lf_occupancy.proofs.Lists.{made_at}
use Rattle.lf_placement.specs.Placements.{IsBrokenFrameRule, IsBrokenAt, OverlapsNoCell, Placing}
use Rattle.lf_placement.specs.Laws.{SameMacros}
use Rattle.lf_placement.proofs.Overlapping.{overlapped_decides}

abbrev alone : Rule → Option Broken
alone rule = Some record { rule = rule; other = None }

abbrev overlapping : Option ℕ → Option Broken
overlapping overlapping_one = option_map (λ own. record { rule = Overlap; other = Some own }) overlapping_one

abbrev no_rule : Option Rule
no_rule = None

abbrev no_broken : Option Broken
no_broken = None

-- a broken rule except overlap is the first that is broken
alone_is_first : (p : Placing) (padding : ℕ) (id : CellId) (place : Place) (rule : Rule) (o : Option Cell)
    → MatchOption o (Some rule ≡ no_rule)
    (λ c. (sites : ℕ) (others : List Placed) → IsFrameRuleVerdict (candidate_of p.frame id.team sites (macro_of p.frame c.mac) place others) (Some rule))
    → MatchOption o (alone rule ≡ no_broken)
    (λ c. IsVerdict (candidate_of p.frame id.team padding (macro_of p.frame c.mac) place (boxes_beside p.frame (map member_of (cells_of p.cells id.team)) id.own))
    (alone rule))
alone_is_first p padding id place rule None none = absurd cc
alone_is_first p padding id place rule (Some c) verdict = verdict padding (boxes_beside p.frame (map member_of (cells_of p.cells id.team)) id.own)

pub broken_alone : (p : Placing) (padding : ℕ) (id : CellId) (place : Place) (rule : Rule) → IsBrokenFrameRule p id place (Some rule)
    → IsBrokenAt p padding id place (alone rule)
broken_alone p padding id place rule broken = alone_is_first p padding id place rule (cell_at p.cells id) broken

macro_is : (f : Frame) (cells : List Cell) (own : ℕ) (c : Cell) (cell_placement : CellPlacement) (mac : Macro) → All (λ d. IsSizedCell f d) cells
    → slice_get cells own ≡ Some c → Some cell_placement ≡ option_map placement_of (Some c) → mac ≡ get_or f.macros cell_placement.mac mac → mac ≡ macro_of f c.mac
macro_is f cells own c cell_placement mac sized there is_in_place is =
    let same : cell_placement.mac ≡ c.mac = ap {B = ℕ} (λ (s : CellPlacement). s.mac) (one cell_placement (placement_of c) is_in_place) in
    let whole : IsSizedCell f c =
    subst (λ (d : Cell). IsSizedCell f d) (get_or_from_slice_get cells own c c there) (sized own c (slice_get_within cells own c there)) in
    macro_there f c.mac mac whole.known (is ∙ ap (λ (n : ℕ). get_or f.macros n mac) same)
  where
    one : (a b : CellPlacement) → Some a ≡ Some b → a ≡ b
    one a b e = cc

-- the cell's macro is of whole size
macro_sized : (f : Frame) (cells : List Cell) (own : ℕ) (c : Cell) → All (λ d. IsSizedCell f d) cells → slice_get cells own ≡ Some c
    → IsSized f (macro_of f c.mac)
macro_sized f cells own c sized there =
    let whole : IsSizedCell f c =
    subst (λ (d : Cell). IsSizedCell f d) (get_or_from_slice_get cells own c c there) (sized own c (slice_get_within cells own c there)) in
    whole.sized

-- if the rules hold, the overlapping cell found in the strips decides
pub overlapped_at : (p : Placing) (padding : ℕ) (id : CellId) (place : Place) (cell_placement : CellPlacement) (mac : Macro) (rect : Rect) (overlapping_one : Option ℕ)
    → All (λ d. IsSizedCell p.frame d) (cells_of p.cells id.team) → IsOccupancyOf p.frame p.cells p.held → WidenedStripsCover → padding ≤ 16
    → Some cell_placement ≡ option_map placement_of (cell_at p.cells id) → mac ≡ get_or p.frame.macros cell_placement.mac mac
    → rect ≡ padded_box (candidate_of p.frame id.team padding mac place (boxes_beside p.frame (map member_of (cells_of p.cells id.team)) id.own))
    → IsBrokenFrameRule p id place None → IsFirstOverlappingCell p.held id rect overlapping_one
    → IsBrokenAt p padding id place (overlapping overlapping_one)
overlapped_at p padding id place cell_placement mac rect overlapping_one sized follows widened_cover few is_in_place is box holds first = go (cell_at p.cells id) refl is_in_place holds
  where
    others : List Placed
    others = boxes_beside p.frame (map member_of (cells_of p.cells id.team)) id.own

    go : (o : Option Cell) → cell_at p.cells id ≡ o → Some cell_placement ≡ option_map placement_of o
        → MatchOption o (no_rule ≡ no_rule)
        (λ c. (sites : ℕ) (those : List Placed) → IsFrameRuleVerdict (candidate_of p.frame id.team sites (macro_of p.frame c.mac) place those) no_rule)
        → MatchOption o (overlapping overlapping_one ≡ no_broken)
        (λ c. IsVerdict (candidate_of p.frame id.team padding (macro_of p.frame c.mac) place others) (overlapping overlapping_one))
    go None there at those = absurd cc
    go (Some c) there at those =
        let same : mac ≡ macro_of p.frame c.mac = macro_is p.frame (cells_of p.cells id.team) id.own c cell_placement mac sized there at is in
        overlapped_decides (candidate_of p.frame id.team padding (macro_of p.frame c.mac) place others) p.cells p.held id rect overlapping_one follows widened_cover few
        (macro_sized p.frame (cells_of p.cells id.team) id.own c sized there) refl refl
        (subst (λ (m : Macro). rect ≡ padded_box (candidate_of p.frame id.team padding m place others)) same box) (those padding others) first

-- ---- cells that keep the padding from all others

-- the box of a placed cell
box_is : (f : Frame) (cells : List Cell) (boxes : List (Option Rect)) (own : ℕ) (c : Cell) (place : Place) → boxes ≡ map (working_box_of f) cells →
    slice_get cells own ≡ Some c → working_at cells own ≡ Some place → cell_box boxes own ≡ Some (box_in f c.mac (spot_of place))
box_is f cells boxes own c place are there at =
    let working : c.working ≡ Some place = sym (ap (λ (o : Option Cell). option_and_then (λ (x : Cell). x.working) o) there) ∙ at in
    ap (λ (bs : List (Option Rect)). cell_box bs own) are
    ∙ ap (λ (o : Option (Option Rect)). option_and_then (λ (box : Option Rect). box) o) (made_at (working_box_of f) cells own c there)
    ∙ ap (λ (o : Option Place). option_map (λ p. box_in f c.mac (spot_of p)) o) working

-- the length of a padding is from 0 to the greatest one
pub padding_fits : (p : Placing) (padding : ℕ) → IsOccupancyOf p.frame p.cells p.held → padding ≤ 16 → IsPaddingOf p.held (length_of p.frame padding)
padding_fits p padding follows few = record {
  least = length_least p.frame padding;
  most = subst (λ (w : ℤ). length_of p.frame padding ≤ℤ (pos 16 *ℤ w)) (sym follows.site) (length_upto p.frame padding 16 few);
}

-- a cell that is apart in the strips overlaps none
pub apart_overlaps_none : (p : Placing) (padding : ℕ) (id : CellId) → All (λ d. IsSizedCell p.frame d) (cells_of p.cells id.team) →
    IsOccupancyOf p.frame p.cells p.held → WidenedStripsCover → padding ≤ 16 → OverlapsNoBox (boxes_of p.held id.team) (length_of p.frame padding) id.own →
    OverlapsNoCell p padding id
apart_overlaps_none p padding id sized follows widened_cover few apart place at holds = go (cell_at p.cells id) refl holds
  where
    others : List Placed
    others = boxes_beside p.frame (map member_of (cells_of p.cells id.team)) id.own

    one : (a b : Rect) → ◌≡◌ {A = Option Rect} (Some a) (Some b) → a ≡ b
    one a b e = cc

    go : (o : Option Cell) → cell_at p.cells id ≡ o
        → MatchOption o (no_rule ≡ no_rule)
        (λ c. (sites : ℕ) (those : List Placed) → IsFrameRuleVerdict (candidate_of p.frame id.team sites (macro_of p.frame c.mac) place those) no_rule)
        → MatchOption o (no_broken ≡ no_broken)
        (λ c. IsVerdict (candidate_of p.frame id.team padding (macro_of p.frame c.mac) place others) no_broken)
    go None there those = refl
    go (Some c) there those =
        overlapped_decides t p.cells p.held id (padded_box t) None follows widened_cover few
        (macro_sized p.frame (cells_of p.cells id.team) id.own c sized there) refl refl refl (those padding others) none
      where
        t : Candidate
        t = candidate_of p.frame id.team padding (macro_of p.frame c.mac) place others

        box : apart.box ≡ box_in p.frame c.mac (spot_of place)
        box = one _ _ (sym apart.is ∙ box_is p.frame (cells_of p.cells id.team) (boxes_of p.held id.team) id.own c place (follows.boxes id.team) there at)

        none : (own : ℕ) → OverlapsInStrips p.held id (padded_box t) own → ⊥
        none own m = apart.clear own m.box m.is.other m.is.is_in_place
            (subst (λ (b : Rect). SharesPoint (wider (length_of p.frame padding) b) m.box) (sym box)
            record { x = m.x; y = m.y; in_first = m.in_rect; in_second = m.in_box })

-- ---- what stays true while cells keep their macros

mac_still : (old new : List Cell) (own : ℕ) → SameMacros old new
    → option_map (λ (c : Cell). c.mac) (slice_get new own) ≡ option_map (λ (c : Cell). c.mac) (slice_get old own)
mac_still [] [] own same = refl
mac_still [] (c ∷ cs) own same = absurd cc
mac_still (d ∷ ds) [] own same = absurd cc
mac_still (d ∷ ds) (c ∷ cs) zero same = let mac : c.mac ≡ d.mac = cc in ap (λ (n : ℕ). Some n) mac
mac_still (d ∷ ds) (c ∷ cs) (suc own) same = let rest : SameMacros ds cs = cc in mac_still ds cs own rest

by_mac : (P : ℕ → Type 0) (N : Type 0) (a b : Option Cell) → option_map (λ (c : Cell). c.mac) b ≡ option_map (λ (c : Cell). c.mac) a
    → MatchOption a N (λ c. P c.mac) → MatchOption b N (λ c. P c.mac)
by_mac P N None None same held = held
by_mac P N None (Some c) same held = absurd cc
by_mac P N (Some d) None same held = absurd cc
by_mac P N (Some d) (Some c) same held = let mac : c.mac ≡ d.mac = cc in rw mac held

pub alone_lasts : (old new : Placing) (id : CellId) (place : Place) (broken : Option Rule) → new.frame ≡ old.frame
    → SameMacros (cells_of old.cells id.team) (cells_of new.cells id.team) → IsBrokenFrameRule old id place broken → IsBrokenFrameRule new id place broken
alone_lasts old new id place broken frame same held =
    rw frame
    (by_mac (λ mac. (padding : ℕ) (others : List Placed) → IsFrameRuleVerdict (candidate_of old.frame id.team padding (macro_of old.frame mac) place others) broken) (broken ≡ no_rule)
    (cell_at old.cells id) (cell_at new.cells id) (mac_still (cells_of old.cells id.team) (cells_of new.cells id.team) id.own same) held)
