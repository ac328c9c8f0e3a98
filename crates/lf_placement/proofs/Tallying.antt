-- Boxes of a team that are counted at other places.
use Rattle.std.proofs.Common.{◌≡◌, ◌≢◌, ◌⊎◌, inl, inr, ◌<◌, ◌≤◌, ℕ, zero, suc, ◌+◌, List, [], ◌∷◌, length, get_or, set, take, Option, Some, refl, ap, sym, subst, ◌∙◌, arith}
use Rattle.std.specs.Prelude.{All, Contains, Err, IsSome, Ok, OnOk, Result, slice_get}
use Rattle.std.specs.Option.{option_map}
use Rattle.lf_units.specs.declared.geometry.Rect.{Rect}
use Rattle.lf_floorplan.specs.declared.frame.Frame.{Frame}
use Rattle.lf_floorplan.specs.declared.place.Place.{Place}
use Rattle.lf_rules.specs.Choice.{spot_of}
use Rattle.lf_rules.specs.Team.{box_in}
use Rattle.lf_cells.specs.declared.cell.Cell.{Cell}
use Rattle.lf_cells.specs.declared.cell.CellId.{CellId}
use Rattle.lf_cells.specs.Cells.{AreAllIds, Cells, cells_of, committed_at, working_at}
use Rattle.lf_segments.specs.Indexes.{IsIndexOf}
use Rattle.lf_occupancy.specs.Floorplans.{boxes_in}
use Rattle.lf_occupancy.specs.Views.{Bounds, FitIn, KeepsCapacities, Occupied, cell_box}
use Rattle.lf_occupancy.specs.Strips.{Marked, with_boxes, capacities_in}
use Rattle.lf_occupancy.proofs.Building.{boxes_there}
use Rattle.lf_undo.specs.declared.moves.Move.{Move}
use Rattle.lf_undo.specs.Entries.{Places, moves_taken_back}
use Rattle.lf_placement.specs.Placements.{AreSized, IsPlacing, Placing, SameButRooms, boxes_at, committed_of, placing_of, working_places_of}
use Rattle.lf_placement.specs.Steps.{KeepsMarks, box_moved}
use Rattle.lf_placement.proofs.Changing.{boxes_at_work}

abbrev Boxes : Type 0
Boxes = List (Option Rect)

-- ---- one cell at another place

pub place_box : (f : Frame) (cells : List Cell) (places : Places) (own : ℕ) (place : Option Place) → slice_get places own ≡ Some place
    → cell_box (boxes_at f cells places) own ≡ box_moved f (slice_get cells own) place
place_box f [] places own place is = refl
place_box f (c ∷ cs) [] own place is = absurd cc
place_box f (c ∷ cs) (p ∷ ps) zero place is =
    let same : p ≡ place = cc in ap (λ (q : Option Place). option_map (λ s. box_in f c.mac (spot_of s)) q) same
place_box f (c ∷ cs) (p ∷ ps) (suc own) place is = place_box f cs ps own place is

pub box_put_at : (f : Frame) (cells : List Cell) (places : Places) (own : ℕ) (place : Option Place) → own < length places
    → set (boxes_at f cells places) own (box_moved f (slice_get cells own) place) ≡ boxes_at f cells (set places own place)
box_put_at f [] places own place within = refl
box_put_at f (c ∷ cs) [] own place within = absurd (omega (arith, within))
box_put_at f (c ∷ cs) (p ∷ ps) zero place within = refl
box_put_at f (c ∷ cs) (p ∷ ps) (suc own) place within =
    ap (λ (r : Boxes). option_map (λ (s : Place). box_in f c.mac (spot_of s)) p ∷ r) (box_put_at f cs ps own place (omega (arith, within)))

pub within_places : (places : Places) (own : ℕ) (place : Option Place) → slice_get places own ≡ Some place → own < length places
within_places [] own place is = absurd cc
within_places (p ∷ ps) zero place is = omega arith
within_places (p ∷ ps) (suc own) place is = let h = within_places ps own place is in omega (arith, h)

-- ---- the cells of a team, one after the other

-- the first `n` cells at their committed places, and the others at their working places
abbrev pub half_committed : ℕ → List Cell → Places
half_committed zero cells = working_places_of cells
half_committed (suc n) [] = []
half_committed (suc n) (c ∷ cs) = c.committed ∷ half_committed n cs

pub half_there : (n : ℕ) (cells : List Cell) → n < length cells → slice_get (half_committed n cells) n ≡ Some (working_at cells n)
half_there n [] within = absurd (omega (arith, within))
half_there zero (c ∷ cs) within = refl
half_there (suc n) (c ∷ cs) within = half_there n cs (omega (arith, within))

half_suc : (n : ℕ) (cells : List Cell) → n < length cells → set (half_committed n cells) n (committed_at cells n) ≡ half_committed (suc n) cells
half_suc n [] within = absurd (omega (arith, within))
half_suc zero (c ∷ cs) within = refl
half_suc (suc n) (c ∷ cs) within = ap (λ (r : Places). c.committed ∷ r) (half_suc n cs (omega (arith, within)))

pub half_next : (n : ℕ) (cells : List Cell) → n < length cells → set (half_committed n cells) n (committed_at cells n) ≡ half_committed (n + 1) cells
half_next n cells within =
    let same : suc n ≡ n + 1 = omega arith in half_suc n cells within ∙ ap (λ (k : ℕ). half_committed k cells) same

pub half_all : (n : ℕ) (cells : List Cell) → length cells ≤ n → half_committed n cells ≡ committed_of cells
half_all zero [] past = refl
half_all zero (c ∷ cs) past = absurd (omega (arith, past))
half_all (suc n) [] past = refl
half_all (suc n) (c ∷ cs) past = ap (λ (r : Places). c.committed ∷ r) (half_all n cs (omega (arith, past)))

-- a place written over the same place changes nothing
pub put_same : (places : Places) (own : ℕ) (place : Option Place) → slice_get places own ≡ Some place → set places own place ≡ places
put_same [] own place is = absurd cc
put_same (p ∷ ps) zero place is = let same : p ≡ place = cc in ap (λ (q : Option Place). q ∷ ps) (sym same)
put_same (p ∷ ps) (suc own) place is = ap (λ (r : Places). p ∷ r) (put_same ps own place is)

-- ---- what gains room

pub gains_none : (m : Marked) → KeepsMarks m m
gains_none m = record { holds = λ boxes h. h; index = refl; site = refl; rooms = record { many = refl; each = λ n. omega arith } }

no_less_through : (a b c : List ℕ) → KeepsCapacities a b → KeepsCapacities b c → KeepsCapacities a c
no_less_through a b c first second = record {
  many = second.many ∙ first.many;
  each = λ n. let p = first.each n in let q = second.each n in omega (arith, p, q);
}

pub gains_through : (a b c : Marked) → KeepsMarks a b → KeepsMarks b c → KeepsMarks a c
gains_through a b c first second = record {
  holds = λ boxes h. second.holds boxes (first.holds boxes h);
  index = second.index ∙ first.index;
  site = second.site ∙ first.site;
  rooms = no_less_through (capacities_in a.mark_lists) (capacities_in b.mark_lists) (capacities_in c.mark_lists) first.rooms second.rooms;
}

pub same_through : (a b c : Placing) → SameButRooms a b → SameButRooms b c → SameButRooms a c
same_through a b c first second = record {
  frame = second.frame ∙ first.frame;
  cells = second.cells ∙ first.cells;
  index = second.index ∙ first.index;
  site = second.site ∙ first.site;
  boxes = second.boxes ∙ first.boxes;
  rooms = no_less_through a.held.rooms b.held.rooms c.held.rooms first.rooms second.rooms;
}

pub same_self : (p : Placing) → SameButRooms p p
same_self p = record { frame = refl; cells = refl; index = refl; site = refl; boxes = refl; rooms = record { many = refl; each = λ n. omega arith } }

-- ---- what fits

-- if there is room for the counts, the boxes that they bound fit
pub bounds_fit : (o : Occupied) (team : ℕ) (boxes : Boxes) (tally : List ℕ) → KeepsCapacities tally o.rooms → Bounds o team boxes tally → FitIn o team boxes
bounds_fit o team boxes tally room bounds = λ n g at of_team.
    let a = bounds n g at of_team in
    let b = room.each n in
    omega (arith, a, b)

-- the boxes at their working places
pub bounds_at_work : (f : Frame) (cells : Cells) (team : ℕ) (o : Occupied) (tally : List ℕ) → Bounds o team (get_or (boxes_in f cells) team []) tally
    → Bounds o team (boxes_at f (cells_of cells team) (working_places_of (cells_of cells team))) tally
bounds_at_work f cells team o tally bounds =
    subst (λ (bs : Boxes). Bounds o team bs tally) (boxes_there f cells team ∙ sym (boxes_at_work f (cells_of cells team))) bounds

-- ---- all teams

-- teams with a lesser number are at their committed places, and the others at their working places
pub record HalfCommitted (f : Frame) (cells : Cells) (o : Occupied) (team : ℕ) (tally : List ℕ) : Type 0 where
  pub done : (t : ℕ) → t < team → Bounds o t (boxes_at f (cells_of cells t) (committed_of (cells_of cells t))) tally
  pub rest : (t : ℕ) → team ≤ t → Bounds o t (boxes_at f (cells_of cells t) (working_places_of (cells_of cells t))) tally

order : (a b : ℕ) → (a < b) ⊎ (b ≤ a)
order a b = grind arith

below_or_at : (t team : ℕ) → t < team + 1 → (t < team) ⊎ (t ≡ team)
below_or_at t team less = grind arith

pub team_next : (f : Frame) (cells : Cells) (o p : Occupied) (team : ℕ) (old new : List ℕ) → HalfCommitted f cells o team old
    → Bounds p team (boxes_at f (cells_of cells team) (committed_of (cells_of cells team))) new
    → ((boxes : Boxes) (other : ℕ) → other ≢ team → Bounds o other boxes old → Bounds p other boxes new) → HalfCommitted f cells p (team + 1) new
team_next f cells o p team old new half here others = record {
  done = λ t less. at t (below_or_at t team less);
  rest = λ t past. others (boxes_at f (cells_of cells t) (working_places_of (cells_of cells t))) t (omega (arith, past)) (half.rest t (omega (arith, past)));
}
  where
    at : (t : ℕ) → (t < team) ⊎ (t ≡ team) → Bounds p t (boxes_at f (cells_of cells t) (committed_of (cells_of cells t))) new
    at t (inl less) = others (boxes_at f (cells_of cells t) (committed_of (cells_of cells t))) t (omega (arith, less)) (half.done t less)
    at t (inr same) = subst (λ (u : ℕ). Bounds p u (boxes_at f (cells_of cells u) (committed_of (cells_of cells u))) new) (sym same) here

-- no team with a greater number has cells
no_cells : (cells : Cells) (ids : List CellId) (teams t : ℕ) → AreAllIds cells ids → All (λ id. id.team < teams) ids → teams ≤ t → cells_of cells t ≡ []
no_cells cells ids teams t all below past = go (cells_of cells t) refl where
  first : CellId
  first = record { team = t; own = 0 }

  go : (cs : List Cell) → cells_of cells t ≡ cs → cs ≡ []
  go [] is = refl
  go (c ∷ cs) is =
      let there : Contains ids first = (all.cells first).1 (subst (λ (xs : List Cell). IsSome (slice_get xs 0)) (sym is) refl) in
      let less : (get_or ids there.0 first).team < teams = below there.0 first there.1 in
      let same : (get_or ids there.0 first).team ≡ t = ap (λ (id : CellId). id.team) there.2 in
      absurd (omega (arith, less, same, past))

pub all_committed : (f : Frame) (cells : Cells) (ids : List CellId) (teams team : ℕ) (o : Occupied) (tally : List ℕ) → AreAllIds cells ids
    → All (λ id. id.team < teams) ids → teams ≤ team → HalfCommitted f cells o team tally → (t : ℕ)
    → Bounds o t (boxes_at f (cells_of cells t) (committed_of (cells_of cells t))) tally
all_committed f cells ids teams team o tally all below past half t = at (order t team) where
  at : (t < team) ⊎ (team ≤ t) → Bounds o t (boxes_at f (cells_of cells t) (committed_of (cells_of cells t))) tally
  at (inl less) = half.done t less
  at (inr beyond) =
      subst (λ (cs : List Cell). Bounds o t (boxes_at f cs (committed_of cs)) tally)
      (sym (no_cells cells ids teams t all below (omega (arith, past, beyond)))) (λ n g there of_team. omega arith)

-- the strips with the room that they have gained hold a placement
pub placing_fitted : (f : Frame) (cells : Cells) (m n : Marked) → AreSized f cells → ((team : ℕ) → length (cells_of cells team) ≤ 4000000)
    → IsIndexOf f m.index → m.site ≡ f.pitch.x → KeepsMarks m n
    → ((team : ℕ) → FitIn (with_boxes n []) team (boxes_at f (cells_of cells team) (committed_of (cells_of cells team)))) → IsPlacing (placing_of f cells n)
placing_fitted f cells m n sized few ground site gains fits = record {
  sized = sized;
  few = few;
  follows = record { index = subst (IsIndexOf f) (sym gains.index) ground; site = gains.site ∙ site; boxes = boxes_there f cells };
  committed = fits;
}

-- ---- moves that are undone, the last one first

back_suc : (places : Places) (moves : List Move) (n : ℕ) (m : Move) → n < length moves → m ≡ get_or moves n m
    → moves_taken_back (take n moves) (set places m.own m.place) ≡ moves_taken_back (take (suc n) moves) places
back_suc places [] n m within is = absurd (omega (arith, within))
back_suc places (x ∷ ms) zero m within is = ap (λ (y : Move). set places y.own y.place) is
back_suc places (x ∷ ms) (suc n) m within is = ap (λ (ps : Places). set ps x.own x.place) (back_suc places ms n m (omega (arith, within)) is)

pub back_less : (places : Places) (moves : List Move) (n : ℕ) (m : Move) → n < length moves → m ≡ get_or moves n m
    → moves_taken_back (take n moves) (set places m.own m.place) ≡ moves_taken_back (take (n + 1) moves) places
back_less places moves n m within is =
    let same : suc n ≡ n + 1 = omega arith in
    back_suc places moves n m within is ∙ ap (λ (k : ℕ). moves_taken_back (take k moves) places) same

-- what follows from two facts of a result that is Ok
pub both_ok : {T E P Q R : Type 0} (r : Result T E) → (P → Q → R) → OnOk r P → OnOk r Q → OnOk r R
both_ok (Ok x) both p q = both p q
both_ok (Err e) both p q = tt
