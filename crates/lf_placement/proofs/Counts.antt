-- Room for the boxes of moves is room for the cells at the moves' places.
use Rattle.std.proofs.Common.{◌≡◌, ◌⊎◌, inl, inr, ◌<◌, ◌≤◌, ℕ, zero, suc, ◌+◌, List, [], ◌∷◌, map, length, set, get_or, Bool, true, false, cond, Option, Some, None, refl, ap, sym, subst, ◌∙◌, arith}
use Rattle.std.specs.Prelude.{All, Contains, IfSome, slice_get, option_map, unwrap_or}
use Rattle.std.proofs.lemmas.List.{length-map}
use Rattle.std.proofs.lemmas.List.Sums.{sum_by-cons}
use Rattle.lf_units.specs.declared.geometry.Rect.{Rect}
use Rattle.lf_floorplan.specs.declared.frame.Frame.{Frame}
use Rattle.lf_floorplan.specs.declared.place.Place.{Place}
use Rattle.lf_cells.specs.declared.cell.Cell.{Cell}
use Rattle.lf_cells.specs.declared.cell.CellId.{CellId}
use Rattle.lf_cells.specs.Cells.{id_of, moved}
use Rattle.lf_segments.specs.declared.strip.Strip.{Strip}
use Rattle.lf_occupancy.specs.Views.{FitIn, HasRoomFor, Occupied, boxes_of, count_in, widened, does_overlap, reach}
use Rattle.lf_occupancy.specs.Floorplans.{working_box_of}
use Rattle.lf_occupancy.proofs.Counting.{overlaps_shares, set_is_one_more}
use Rattle.lf_undo.specs.declared.moves.Move.{Move}
use Rattle.lf_placement.specs.Placements.{moves_applied}
use Rattle.lf_placement.specs.Steps.{requested_box, box_moved}

one_more : (g : Strip) (b : Option Rect) (bs : List (Option Rect)) → count_in g (b ∷ bs) ≡ cond (does_overlap g b) 1 0 + count_in g bs
one_more g b bs = sum_by-cons (λ c. cond (does_overlap g c) 1 0) b bs

-- a box that does not share a point with the strip counts no more than the one that it replaces
set_no_more : (g : Strip) (bs : List (Option Rect)) (own : ℕ) (b : Option Rect) → does_overlap g b ≡ false → count_in g (set bs own b) ≤ count_in g bs
set_no_more g [] own b apart = omega arith
set_no_more g (x ∷ bs) zero b apart =
    let before = one_more g x bs in
    let after = one_more g b bs in
    let none = ap {B = ℕ} (λ (t : Bool). cond t 1 0) apart in
    omega (arith, before, after, none)
set_no_more g (x ∷ bs) (suc own) b apart =
    let rest = set_no_more g bs own b apart in
    let before = one_more g x bs in
    let after = one_more g x (set bs own b) in
    omega (arith, rest, before, after)

boxes_moved : (f : Frame) (cells : List Cell) (own : ℕ) (place : Option Place)
    → map (working_box_of f) (moved cells own place) ≡ set (map (working_box_of f) cells) own (box_moved f (slice_get cells own) place)
boxes_moved f [] own place = refl
boxes_moved f (c ∷ cs) zero place = refl
boxes_moved f (c ∷ cs) (suc own) place = ap (λ (r : List (Option Rect)). working_box_of f c ∷ r) (boxes_moved f cs own place)

-- a cell has the same box at a place, whatever cell moved earlier
box_still : (f : Frame) (cells : List Cell) (own k : ℕ) (place to : Option Place)
    → box_moved f (slice_get (moved cells own place) k) to ≡ box_moved f (slice_get cells k) to
box_still f [] own k place to = refl
box_still f (c ∷ cs) zero zero place to = refl
box_still f (c ∷ cs) zero (suc k) place to = refl
box_still f (c ∷ cs) (suc own) zero place to = refl
box_still f (c ∷ cs) (suc own) (suc k) place to = box_still f cs own k place to

-- each move increases the count by at most one
count_made : (g : Strip) (f : Frame) (moves : List Move) (cells : List Cell)
    → count_in g (map (working_box_of f) (moves_applied moves cells)) ≤ count_in g (map (working_box_of f) cells) + length moves
count_made g f [] cells = omega arith
count_made g f (m ∷ ms) cells =
    let rest = count_made g f ms (moved cells m.own m.place) in
    let is = ap (count_in g) (boxes_moved f cells m.own m.place) in
    let one = set_is_one_more g (map (working_box_of f) cells) m.own (box_moved f (slice_get cells m.own) m.place) in
    omega (arith, rest, is, one)

-- one of the moves has a box that shares a point with the strip
record Overlaps (g : Strip) (f : Frame) (moves : List Move) (cells : List Cell) : Type 0 where
  move : Move
  among : Contains moves move
  yes : does_overlap g (box_moved f (slice_get cells move.own) move.place) ≡ true

-- otherwise the count does not increase
overlaps_or_not : (g : Strip) (f : Frame) (moves : List Move) (cells : List Cell)
    → Overlaps g f moves cells ⊎ (count_in g (map (working_box_of f) (moves_applied moves cells)) ≤ count_in g (map (working_box_of f) cells))
overlaps_or_not g f [] cells = inr (omega arith)
overlaps_or_not g f (m ∷ ms) cells = first (does_overlap g (box_moved f (slice_get cells m.own) m.place)) refl (overlaps_or_not g f ms (moved cells m.own m.place)) where
  later : does_overlap g (box_moved f (slice_get cells m.own) m.place) ≡ false
      → Overlaps g f ms (moved cells m.own m.place) ⊎ (count_in g (map (working_box_of f) (moves_applied ms (moved cells m.own m.place))) ≤ count_in g (map (working_box_of f) (moved cells m.own m.place)))
      → Overlaps g f (m ∷ ms) cells ⊎ (count_in g (map (working_box_of f) (moves_applied ms (moved cells m.own m.place))) ≤ count_in g (map (working_box_of f) cells))
  later apart (inl there) = inl record {
    move = there.move;
    among = (suc there.among.0, let h = there.among.1 in omega (arith, h), there.among.2);
    yes = ap (does_overlap g) (sym (box_still f cells m.own there.move.own m.place there.move.place)) ∙ there.yes;
  }
  later apart (inr most) =
      let is = ap (count_in g) (boxes_moved f cells m.own m.place) in
      let still = set_no_more g (map (working_box_of f) cells) m.own (box_moved f (slice_get cells m.own) m.place) apart in
      inr (omega (arith, most, is, still))

  first : (b : Bool) → does_overlap g (box_moved f (slice_get cells m.own) m.place) ≡ b
      → Overlaps g f ms (moved cells m.own m.place) ⊎ (count_in g (map (working_box_of f) (moves_applied ms (moved cells m.own m.place))) ≤ count_in g (map (working_box_of f) (moved cells m.own m.place)))
      → Overlaps g f (m ∷ ms) cells ⊎ (count_in g (map (working_box_of f) (moves_applied ms (moved cells m.own m.place))) ≤ count_in g (map (working_box_of f) cells))
  first true is rest = inl record { move = m; among = (0, omega arith, refl); yes = is }
  first false is rest = later is rest

map_at : {X Y : Type 0} (f : X → Y) (xs : List X) (i : ℕ) (d : Y) (e : X) → i < length xs → get_or (map f xs) i d ≡ f (get_or xs i e)
map_at f [] i d e within = absurd (omega (arith, within))
map_at f (x ∷ xs) zero d e within = refl
map_at f (x ∷ xs) (suc i) d e within = map_at f xs i d e (omega (arith, within))

abbrev no_id : CellId
no_id = record { team = 0; own = 0 }

-- the room made for a box that shares a point with the strip
room_there : (g : Strip) (f : Frame) (team own more n : ℕ) (o : Occupied) (c : Option Cell) (place : Option Place) → slice_get o.index.strips n ≡ Some g
    → g.team ≡ team → does_overlap (widened (reach o) g) (box_moved f c place) ≡ true
    → IfSome (box_moved f c place) (λ r. HasRoomFor o (unwrap_or (option_map (λ (x : Cell). id_of team own) c) no_id).team r more)
    → (count_in (widened (reach o) g) (boxes_of o team) + more) ≤ get_or o.rooms n 0
room_there g f team own more n o None place there of_team overlapping_one room = absurd cc
room_there g f team own more n o (Some c) None there of_team overlapping_one room = absurd cc
room_there g f team own more n o (Some c) (Some p) there of_team overlapping_one room = room n g there of_team (overlaps_shares (widened (reach o) g) _ overlapping_one)

pub room_made : (f : Frame) (team : ℕ) (cells : List Cell) (moves : List Move) (o : Occupied) → boxes_of o team ≡ map (working_box_of f) cells
    → FitIn o team (boxes_of o team)
    → All (λ m. IfSome m.1 (λ r. HasRoomFor o m.0.team r (length (map (requested_box f team cells) moves)))) (map (requested_box f team cells) moves)
    → FitIn o team (map (working_box_of f) (moves_applied moves cells))
room_made f team cells moves o held fits room n g there of_team = go (overlaps_or_not around f moves cells) where
  around : Strip
  around = widened (reach o) g

  same : count_in around (boxes_of o team) ≡ count_in around (map (working_box_of f) cells)
  same = ap (count_in around) held

  count : length (map (requested_box f team cells) moves) ≡ length moves
  count = length-map moves (requested_box f team cells)

  go : Overlaps around f moves cells ⊎ (count_in around (map (working_box_of f) (moves_applied moves cells)) ≤ count_in around (map (working_box_of f) cells))
      → count_in around (map (working_box_of f) (moves_applied moves cells)) ≤ get_or o.rooms n 0
  go (inr most) = let before = fits n g there of_team in omega (arith, most, same, before)
  go (inl one) =
      let m = one.move in
      let k = one.among.0 in
      let inside = one.among.1 in
      let within : k < length (map (requested_box f team cells) moves) = omega (arith, inside, count) in
      let at : get_or (map (requested_box f team cells) moves) k (requested_box f team cells m) ≡ requested_box f team cells m =
      map_at (requested_box f team cells) moves k (requested_box f team cells m) m inside ∙ ap (requested_box f team cells) one.among.2 in
      let requested = subst (λ (a : CellId × Option Rect). IfSome a.1 (λ r. HasRoomFor o a.0.team r (length (map (requested_box f team cells) moves)))) at
      (room k (requested_box f team cells m) within) in
      let left = room_there g f team m.own (length (map (requested_box f team cells) moves)) n o (slice_get cells m.own) m.place there of_team one.yes requested in
      let most = count_made around f moves cells in
      omega (arith, left, most, same, count)
