-- The guarantees of a placement, through each change.
use Rattle.std.proofs.Common.{◌≡◌, ◌≢◌, ⊎_elim, ◌<◌, ◌≤◌, ℕ, zero, suc, List, [], ◌∷◌, map, filter, length, eqb, get_or, Bool, true, false, cond, Option, Some, refl, ap, sym, subst, ◌∙◌, arith}
use Rattle.std.specs.Prelude.{All, slice_get, unwrap_or}
use Rattle.std.proofs.lemmas.Bool.{cases_eq}
use Rattle.std.proofs.lemmas.List.{length-map}
use Rattle.std.proofs.lemmas.List.Elements.{All-filter, All-map}
use Rattle.lf_units.specs.declared.geometry.Rect.{Rect}
use Rattle.lf_floorplan.specs.declared.frame.Frame.{Frame}
use Rattle.lf_floorplan.specs.declared.loaded.LoadedCell.{LoadedCell}
use Rattle.lf_floorplan.specs.declared.loaded.Loaded.{Loaded}
use Rattle.lf_floorplan.specs.declared.macros.Macro.{Macro}
use Rattle.lf_floorplan.specs.Boxes.{macro_of, no_macro}
use Rattle.lf_floorplan.specs.Design.{IsCell}
use Rattle.lf_cells.specs.declared.cell.Cell.{Cell}
use Rattle.lf_cells.specs.Cells.{Cells, as_committed, cells_of}
use Rattle.lf_cells.specs.Initial.{initial_cell, initial_cells, own_cells, team_numbers}
use Rattle.lf_legalize.specs.Members.{IsSizedCell}
use Rattle.lf_segments.specs.Indexes.{IsIndexOf, FrameIndexView}
use Rattle.lf_occupancy.specs.Strips.{Marked, capacities_in}
use Rattle.lf_occupancy.specs.Views.{FitIn, KeepsCapacities, Occupied, boxes_of}
use Rattle.lf_occupancy.specs.Floorplans.{IsOccupancyOf, working_box_of, boxes_in}
use Rattle.lf_occupancy.proofs.Building.{boxes_there}
use Rattle.lf_undo.specs.declared.moves.Move.{Move}
use Rattle.lf_undo.specs.Entries.{Places, moves_taken_back}
use Rattle.lf_placement.specs.Placements.{Fits, IsPlacing, OtherCellsStay, Placing, SameButPlaces, boxes_at, committed_of, moves_applied, placing_of, working_places_of}
use Rattle.lf_placement.specs.Steps.{moves_reverted}
use Rattle.lf_placement.specs.Laws.{SameMacros}
use Rattle.lf_placement.proofs.Moves.{first_same, length_same, places_back, rest_same, same_back, same_made}
use Rattle.lf_placement.proofs.Boxes.{fits_still}
use Rattle.lf_placement.proofs.Changing.{boxes_alike_at, boxes_at_new, boxes_at_work, macs_committed, macs_same, sized_in}

-- ---- what fits

pub fits_made : (p : Placing) (team : ℕ) (moves : List Move) → Fits p team (working_places_of (moves_applied moves (cells_of p.cells team)))
    → FitIn p.held team (map (working_box_of p.frame) (moves_applied moves (cells_of p.cells team)))
fits_made p team moves fits =
    let old = cells_of p.cells team in
    subst (λ (bs : List (Option Rect)). FitIn p.held team bs) (boxes_at_new p.frame old (moves_applied moves old) (same_made moves old)) fits

pub made_fits : (p : Placing) (team : ℕ) (moves : List Move) → FitIn p.held team (map (working_box_of p.frame) (moves_applied moves (cells_of p.cells team)))
    → Fits p team (working_places_of (moves_applied moves (cells_of p.cells team)))
made_fits p team moves fits =
    let old = cells_of p.cells team in
    subst (λ (bs : List (Option Rect)). FitIn p.held team bs) (sym (boxes_at_new p.frame old (moves_applied moves old) (same_made moves old))) fits

pub fits_back : (p : Placing) (team : ℕ) (moves : List Move) → Fits p team (moves_taken_back moves (working_places_of (cells_of p.cells team)))
    → FitIn p.held team (map (working_box_of p.frame) (moves_reverted moves (cells_of p.cells team)))
fits_back p team moves fits =
    let old = cells_of p.cells team in
    subst (λ (bs : List (Option Rect)). FitIn p.held team bs)
    (ap (boxes_at p.frame old) (sym (places_back moves old)) ∙ boxes_at_new p.frame old (moves_reverted moves old) (same_back moves old)) fits

pub places_fit : (p : Placing) → IsOccupancyOf p.frame p.cells p.held → ((team : ℕ) → FitIn p.held team (boxes_of p.held team))
    → (team : ℕ) → Fits p team (working_places_of (cells_of p.cells team))
places_fit p held fits team =
    subst (λ (bs : List (Option Rect)). FitIn p.held team bs) (held.boxes team ∙ sym (boxes_at_work p.frame (cells_of p.cells team))) (fits team)

-- ---- through a change of one team's places

committed_same : (old new : List Cell) → SameButPlaces old new → committed_of new ≡ committed_of old
committed_same [] [] same = refl
committed_same [] (c ∷ cs) same = absurd cc
committed_same (d ∷ ds) [] same = absurd cc
committed_same (d ∷ ds) (c ∷ cs) same =
    ap (λ (x : Cell). x.committed ∷ committed_of cs) (first_same same) ∙ ap (λ (r : Places). d.committed ∷ r) (committed_same ds cs (rest_same same))

-- what holds for the team's cells and for those of other teams holds for each team's cells
pub each_team : (P : ℕ → List Cell → Type 0) (team : ℕ) (old new : Cells) → OtherCellsStay team old new → P team (cells_of new team)
    → ((other : ℕ) → P other (cells_of old other)) → (other : ℕ) → P other (cells_of new other)
each_team P team old new others here each other =
    ⊎_elim (λ (same : other ≡ team). rw same here) (λ (differ : other ≢ team). rw (others.cells other differ) (each other)) (cases_eq other team)

fits_as : (f : Frame) (a b : Occupied) (team : ℕ) (old new : List Cell) (places : Places) → SameMacros old new → b.index ≡ a.index → b.site ≡ a.site → b.rooms ≡ a.rooms
    → FitIn a team (boxes_at f old places) → FitIn b team (boxes_at f new places)
fits_as f a b team old new places same index site rooms fits =
    fits_still team (boxes_at f new places) b a index site rooms
    (subst (λ (bs : List (Option Rect)). FitIn a team bs) (sym (boxes_alike_at f old new places same)) fits)

pub placing_moved : (p : Placing) (team : ℕ) (cells : Cells) (held : Occupied) → IsPlacing p → OtherCellsStay team p.cells cells
    → SameButPlaces (cells_of p.cells team) (cells_of cells team) → IsOccupancyOf p.frame cells held → held.index ≡ p.held.index → held.site ≡ p.held.site
    → held.rooms ≡ p.held.rooms → IsPlacing record { frame = p.frame; cells = cells; held = held }
placing_moved p team cells held is others same follows index site rooms = record {
  sized = each_team (λ n cs. All (IsSizedCell p.frame) cs) team p.cells cells others
      (sized_in p.frame (cells_of p.cells team) (cells_of cells team) macros (is.sized team)) is.sized;
  few = each_team (λ n cs. length cs ≤ 4000000) team p.cells cells others
      (rw (length_same (cells_of p.cells team) (cells_of cells team) same) (is.few team)) is.few;
  follows = follows;
  committed = each_team (λ n cs. FitIn held n (boxes_at p.frame cs (committed_of cs))) team p.cells cells others
      (rw (committed_same (cells_of p.cells team) (cells_of cells team) same)
      (fits_as p.frame p.held held team (cells_of p.cells team) (cells_of cells team) (committed_of (cells_of p.cells team)) macros index site rooms
      (is.committed team)))
      (λ other. fits_still other (boxes_at p.frame (cells_of p.cells other) (committed_of (cells_of p.cells other))) held p.held index site rooms
      (is.committed other));
}
  where
    macros : SameMacros (cells_of p.cells team) (cells_of cells team)
    macros = macs_same (cells_of p.cells team) (cells_of cells team) same

-- ---- after a team is committed

boxes_committed : (f : Frame) (cells : List Cell) → map (working_box_of f) (map as_committed cells) ≡ map (working_box_of f) cells
boxes_committed f [] = refl
boxes_committed f (c ∷ cs) = ap (λ (r : List (Option Rect)). working_box_of f c ∷ r) (boxes_committed f cs)

committed_now : (cells : List Cell) → committed_of (map as_committed cells) ≡ working_places_of cells
committed_now [] = refl
committed_now (c ∷ cs) = ap (λ (r : Places). c.working ∷ r) (committed_now cs)

-- committing leaves the cells' boxes unchanged
pub boxes_still_committed : (f : Frame) (team : ℕ) (old new : Cells) → OtherCellsStay team old new → cells_of new team ≡ map as_committed (cells_of old team)
    → (other : ℕ) → get_or (boxes_in f old) other [] ≡ get_or (boxes_in f new) other []
boxes_still_committed f team old new others own other =
    boxes_there f old other
    ∙ sym (each_team (λ n cs. map (working_box_of f) cs ≡ map (working_box_of f) (cells_of old n)) team old new others
    (ap (λ (cs : List Cell). map (working_box_of f) cs) own ∙ boxes_committed f (cells_of old team)) (λ n. refl) other)
    ∙ sym (boxes_there f new other)

pub placing_committed : (p : Placing) (team : ℕ) (cells : Cells) (held : Occupied) → IsPlacing p → OtherCellsStay team p.cells cells
    → cells_of cells team ≡ map as_committed (cells_of p.cells team) → ((other : ℕ) → FitIn p.held other (boxes_of p.held other))
    → IsOccupancyOf p.frame cells held → held.index ≡ p.held.index → held.site ≡ p.held.site → held.rooms ≡ p.held.rooms
    → IsPlacing record { frame = p.frame; cells = cells; held = held }
placing_committed p team cells held is others own fits follows index site rooms = record {
  sized = each_team (λ n cs. All (IsSizedCell p.frame) cs) team p.cells cells others
      (sized_in p.frame old (cells_of cells team) macros (is.sized team)) is.sized;
  few = each_team (λ n cs. length cs ≤ 4000000) team p.cells cells others (rw (own, length-map old as_committed) (is.few team)) is.few;
  follows = follows;
  committed = each_team (λ n cs. FitIn held n (boxes_at p.frame cs (committed_of cs))) team p.cells cells others
      (subst (λ (places : Places). FitIn held team (boxes_at p.frame (cells_of cells team) places)) (sym (ap committed_of own ∙ committed_now old))
      (fits_as p.frame p.held held team old (cells_of cells team) (working_places_of old) macros index site rooms (places_fit p is.follows fits team)))
      (λ other. fits_still other (boxes_at p.frame (cells_of p.cells other) (committed_of (cells_of p.cells other))) held p.held index site rooms
      (is.committed other));
}
  where
    old : List Cell
    old = cells_of p.cells team

    macros : SameMacros old (cells_of cells team)
    macros = rw own (macs_committed old)

-- ---- the design as it is loaded

-- what holds for no cells and for the cells of each team number holds for each team's cells
rows_hold : (P : List Cell → Type 0) (row : ℕ → List Cell) → P [] → ((n : ℕ) → P (row n)) → (ns : List ℕ) (team : ℕ) → P (get_or (map row ns) team [])
rows_hold P row none each [] zero = none
rows_hold P row none each [] (suc team) = none
rows_hold P row none each (n ∷ ns) zero = each n
rows_hold P row none each (n ∷ ns) (suc team) = rows_hold P row none each ns team

slice_get_some : {X : Type 0} (xs : List X) (i : ℕ) → i < length xs → (x : X) × (slice_get xs i ≡ Some x)
slice_get_some [] i within = absurd (omega arith)
slice_get_some (x ∷ xs) zero within = (x, refl)
slice_get_some (x ∷ xs) (suc i) within = slice_get_some xs i (omega arith)

sized_cell : (f : Frame) (c : LoadedCell) → IsCell f c → IsSizedCell f (initial_cell c)
sized_cell f c known = go (slice_get_some f.macros c.mac known.mac_known) where
  go : ((m : Macro) × (slice_get f.macros c.mac ≡ Some m)) → IsSizedCell f (initial_cell c)
  go found =
      let is : macro_of f c.mac ≡ found.0 = ap (λ (o : Option Macro). unwrap_or o no_macro) found.1 in
      record { known = known.mac_known; sized = rw is (known.mac_sized found.0 found.1) }

length-filter-le : {X : Type 0} (p : X → Bool) (xs : List X) → length (filter p xs) ≤ length xs
length-filter-le p [] = omega arith
length-filter-le {X} p (x ∷ xs) = go (p x) (length-filter-le p xs) where
  go : (b : Bool) → length (filter p xs) ≤ length xs → length (cond b (x ∷ filter p xs) (filter p xs)) ≤ suc (length xs)
  go true l = omega (arith, l)
  go false l = omega (arith, l)

own_sized : (design : Loaded) (number : ℕ) → All (IsSizedCell design.frame) (own_cells number design.cells)
own_sized design number =
    let own = filter (λ (c : LoadedCell). eqb c.team number) design.cells in
    let known : All (λ (c : LoadedCell). IsSizedCell design.frame (initial_cell c)) design.cells =
    λ i d within. sized_cell design.frame (get_or design.cells i d) (design.cells_known i d within) in
    All-map (λ (c : Cell). IsSizedCell design.frame c) initial_cell own
    (All-filter (λ (c : LoadedCell). eqb c.team number) (λ (c : LoadedCell). IsSizedCell design.frame (initial_cell c)) design.cells known)

own_few : (design : Loaded) (number : ℕ) → length (own_cells number design.cells) ≤ 4000000
own_few design number =
    let own = filter (λ (c : LoadedCell). eqb c.team number) design.cells in
    let few : length own ≤ length design.cells = length-filter-le (λ (c : LoadedCell). eqb c.team number) design.cells in
    rw (length-map own initial_cell) (omega (arith, few, design.few_cells))

-- the committed places of cells are their working places
AreCommitted : List Cell → Type 0
AreCommitted cells = committed_of cells ≡ working_places_of cells

committed_none : AreCommitted []
unfolding AreCommitted
committed_none = refl

committed_each : (cells : List LoadedCell) → committed_of (map initial_cell cells) ≡ working_places_of (map initial_cell cells)
committed_each [] = refl
committed_each (c ∷ cs) = ap (λ (r : Places). c.place ∷ r) (committed_each cs)

own_committed : (design : Loaded) (number : ℕ) → AreCommitted (own_cells number design.cells)
unfolding AreCommitted
own_committed design number = committed_each (filter (λ (c : LoadedCell). eqb c.team number) design.cells)

each_opening : (P : List Cell → Type 0) (design : Loaded) (cells : Cells) → cells.cells ≡ initial_cells design → P []
    → ((number : ℕ) → P (own_cells number design.cells)) → (team : ℕ) → P (cells_of cells team)
each_opening P design cells is none each team =
    subst (λ (rows : List (List Cell)). P (get_or rows team [])) (sym is)
    (rows_hold P (λ number. own_cells number design.cells) none each (team_numbers design) team)

pub sized_opening : (design : Loaded) (cells : Cells) → cells.cells ≡ initial_cells design → (team : ℕ) → All (IsSizedCell design.frame) (cells_of cells team)
sized_opening design cells is =
    each_opening (λ cs. All (IsSizedCell design.frame) cs) design cells is (λ i d within. absurd (omega (arith, within))) (own_sized design)

pub few_opening : (design : Loaded) (cells : Cells) → cells.cells ≡ initial_cells design → (team : ℕ) → length (cells_of cells team) ≤ 4000000
few_opening design cells is = each_opening (λ cs. length cs ≤ 4000000) design cells is (omega arith) (own_few design)

committed_opening : (design : Loaded) (cells : Cells) → cells.cells ≡ initial_cells design → (team : ℕ)
    → committed_of (cells_of cells team) ≡ working_places_of (cells_of cells team)
unfolding AreCommitted
committed_opening design cells is = each_opening AreCommitted design cells is committed_none (own_committed design)

pub placing_opening : (design : Loaded) (cells : Cells) (held : Occupied) → cells.cells ≡ initial_cells design → IsOccupancyOf design.frame cells held
    → ((team : ℕ) → FitIn held team (boxes_of held team)) → IsPlacing record { frame = design.frame; cells = cells; held = held }
placing_opening design cells held is follows fits = record {
  sized = sized_opening design cells is;
  few = few_opening design cells is;
  follows = follows;
  committed = λ team.
      subst (λ (places : Places). FitIn held team (boxes_at design.frame (cells_of cells team) places)) (sym (committed_opening design cells is team))
      (places_fit record { frame = design.frame; cells = cells; held = held } follows fits team);
}

-- ---- laws

pub last : (old new : Placing) (team : ℕ) (places : Places) → new.frame ≡ old.frame → new.held.index ≡ old.held.index
    → new.held.site ≡ old.held.site → KeepsCapacities old.held.rooms new.held.rooms → SameMacros (cells_of old.cells team) (cells_of new.cells team) → Fits old team places → Fits new team places
last old new team places frame index site rooms same fits = λ n g there of_team.
    let less = rooms.each n in
    let before = fits n g (subst (λ (looked : FrameIndexView). slice_get looked.strips n ≡ Some g) index there) of_team in
    rw (frame, site, boxes_alike_at old.frame (cells_of old.cells team) (cells_of new.cells team) places same) (omega (arith, before, less))

-- after strips have gained room
pub placing_grown : (f : Frame) (cells : Cells) (m n : Marked) → IsPlacing (placing_of f cells m) → n.index ≡ m.index → n.site ≡ m.site
    → KeepsCapacities (capacities_in m.mark_lists) (capacities_in n.mark_lists) → IsPlacing (placing_of f cells n)
placing_grown f cells m n is index site rooms = record {
  sized = is.sized;
  few = is.few;
  follows = record { index = subst (IsIndexOf f) (sym index) is.follows.index; site = site ∙ is.follows.site; boxes = boxes_there f cells };
  committed = λ team.
      last (placing_of f cells m) (placing_of f cells n) team (committed_of (cells_of cells team)) refl index site rooms refl (is.committed team);
}
