-- A saved state of a copy of a design is a saved state of the design, and gives the cells the same
-- places.
use Rattle.std.proofs.Common.{◌≡◌, ◌⊎◌, ◌∙◌, inl, inr, Bool, ℕ, zero, suc, ◌+◌, ◌<◌, List, [], ◌∷◌, ◌++◌, length, map, Option, None, Some, refl, ap, ap₂, sym, arith}
use Rattle.std.specs.Prelude.{All, replicate, slice_get}
use Rattle.std.specs.Option.{option_and_then}
use Rattle.std.specs.Borrow.{Bor}
use Rattle.std.proofs.lemmas.List.{length-map}
use Rattle.std.proofs.lemmas.List.Elements.{All-head, All-tail}
use Rattle.lf_floorplan.specs.declared.frame.Frame.{Frame}
use Rattle.lf_floorplan.specs.declared.limits.Limits.{Limits}
use Rattle.lf_floorplan.specs.declared.loaded.LoadedCell.{LoadedCell}
use Rattle.lf_floorplan.specs.declared.loaded.Loaded.{Loaded}
use Rattle.lf_floorplan.specs.declared.parts.Team.{Team}
use Rattle.lf_floorplan.specs.declared.place.Place.{Place}
use Rattle.lf_floorplan.specs.Design.{IsCell, MakeDesign}
use Rattle.lf_floorplan.specs.Fences.{ground_name}
use Rattle.lf_cells.specs.declared.cell.Cell.{Cell}
use Rattle.lf_cells.specs.Cells.{Cells, cells_of}
use Rattle.lf_cells.specs.Initial.{own_cells}
use Rattle.lf_state_text.specs.Designs.{NamedDesign}
use Rattle.lf_state_text.specs.Reading.{saved_state_of}
use Rattle.lf_floor_model.specs.Designs.{initial_floor, initial_teams}
use Rattle.lf_floor_model.specs.States.{FloorState, TeamState}
use Rattle.lf_floor_model.proofs.Openings.{opening_whole}
use Rattle.lf_floor.specs.Saved.{ShareDesign, fixed_cells, map_two, design_names, named_team, restored_floor, restored_team}
use Rattle.lf_task_faults.specs.declared.faults.Fault.{Fault}
use Rattle.lf_task_faults.specs.declared.faults.Fault.TheVariants.{SetupOutOfMemory}
use Rattle.lf_task_designs.specs.Designs.{ReadsFile}
use Rattle.lf_task_files.specs.PlacedDesigns.{place_named, place_on_floor, placed_on_floor}
use Rattle.lf_task_files.specs.States.{IsFileState, IsStateFileFault}
use Rattle.lf_task_files.specs.Copies.{IsCopyWithCells, placed_by_table}
use Rattle.lf_repair_bounds.proofs.Copying.{AreOneCell, design_moved}

-- ---- a design and its copy

fresh : Limits → List LoadedCell → ℕ → TeamState
fresh limits cells number = record { cells = own_cells number cells; revision = 0; entries = []; slots = replicate limits.sessions None; padding = 0 }

opened_alike : (a b : Loaded) → a.frame.limits ≡ b.frame.limits → a.cells ≡ b.cells → (number more : ℕ) → initial_teams a number more ≡ initial_teams b number more
unfolding fresh
opened_alike a b limits cells number zero = refl
opened_alike a b limits cells number (suc more) =
    ap₂ (λ (s : TeamState) (ss : List TeamState). s ∷ ss) (ap₂ (λ (l : Limits) (cs : List LoadedCell). fresh l cs number) limits cells)
    (opened_alike a b limits cells (number + 1) more)

-- Their floors begin with the same teams.
teams_alike : (design twin : Loaded) → IsCopyWithCells design.frame design.cells twin → (initial_floor twin).teams ≡ (initial_floor design).teams
teams_alike design twin is =
    opened_alike twin design is.frame.limits is.cells 0 (length twin.frame.teams + 1)
    ∙ ap (λ (ts : List Team). initial_teams design 0 (length ts + 1)) is.frame.teams

by_parts : List Team → List TeamState → Limits → NamedDesign
by_parts fences teams limits = record { teams = map_two named_team (map (λ t. t.name) fences ++ ground_name ∷ []) teams; limits = limits }

named_alike : (design twin : Loaded) → IsCopyWithCells design.frame design.cells twin → design_names (initial_floor twin) ≡ design_names (initial_floor design)
unfolding by_parts
named_alike design twin is =
    ap (λ (ts : List Team). by_parts ts (initial_floor twin).teams twin.frame.limits) is.frame.teams
    ∙ ap₂ (λ (ts : List TeamState) (l : Limits). by_parts design.frame.teams ts l) (teams_alike design twin is) is.frame.limits

-- A state of the copy is a state of the design.
pub state_alike : (gives : ReadsFile) (path : List ℕ) (design twin : Loaded) (floor : FloorState) → IsCopyWithCells design.frame design.cells twin
    → IsFileState gives path (initial_floor twin) floor
    → (other : FloorState) × IsFileState gives path (initial_floor design) other × (other.teams ≡ floor.teams)
state_alike gives path design twin floor is (text, given, (saved, read, same)) = (
  restored_floor (initial_floor design) saved,
  (text, given, (saved, ap (λ (n : NamedDesign). saved_state_of n text) (sym (named_alike design twin is)) ∙ read, refl)),
  ap (λ (ts : List TeamState). map_two restored_team ts saved) (sym (teams_alike design twin is)) ∙ sym (ap (λ (f : FloorState). f.teams) same),
)

-- Why a file has no state of the copy is why it has no state of the design.
fault_alike : (gives : ReadsFile) (path : List ℕ) (design twin : Loaded) (fault : Fault) → IsCopyWithCells design.frame design.cells twin
    → IsStateFileFault gives path (initial_floor twin) fault → IsStateFileFault gives path (initial_floor design) fault
fault_alike gives path design twin fault is (inl unread) = inl unread
fault_alike gives path design twin fault is (inr (text, given, inl memory)) = inr (text, given, inl memory)
fault_alike gives path design twin fault is (inr (text, given, inr (why, read, refused))) =
    inr (text, given, inr (why, ap (λ (n : NamedDesign). saved_state_of n text) (sym (named_alike design twin is)) ∙ read, refused))

-- The same for why there is no floor.
pub floor_fails : (gives : ReadsFile) (path : List ℕ) (design twin : Loaded) (fault : Fault) → IsCopyWithCells design.frame design.cells twin
    → (fault ≡ SetupOutOfMemory) ⊎ IsStateFileFault gives path (initial_floor twin) fault → (fault ≡ SetupOutOfMemory) ⊎ IsStateFileFault gives path (initial_floor design) fault
floor_fails gives path design twin fault is (inl memory) = inl memory
floor_fails gives path design twin fault is (inr state) = inr (fault_alike gives path design twin fault is state)

-- A floor of a design has a team for each fence, and one more.
pub teams_many : (design : Loaded) (floor : FloorState) → ShareDesign (initial_floor design) floor → length floor.teams ≡ length design.frame.teams + 1
teams_many design floor same =
    sym (length-map floor.teams fixed_cells) ∙ ap (λ (cells : List (List (List ℕ × ℕ))). length cells) same.cells
    ∙ length-map (initial_floor design).teams fixed_cells ∙ (opening_whole design).0

-- ---- cells at their places on a floor

some_at : {X : Type 0} (xs : List X) (k : ℕ) → k < length xs → (x : X) × (slice_get xs k ≡ Some x)
some_at [] k within = absurd (omega (arith, within))
some_at (x ∷ xs) zero within = (x, refl)
some_at (x ∷ xs) (suc k) within = some_at xs k (omega (arith, within))

-- The table lists the cells of each team of the floor.
abbrev pub AreTabled : Cells → FloorState → Type 0
AreTabled table floor = (number : ℕ) (s : TeamState) → slice_get floor.teams number ≡ Some s → cells_of table number ≡ s.cells

place_alike : (committed : Bool) (f : Frame) (table : Cells) (floor other : FloorState) (c : LoadedCell) → AreTabled table floor → length floor.teams ≡ length f.teams + 1
    → other.teams ≡ floor.teams → IsCell f c → place_named committed c.name (cells_of table c.team) ≡ place_on_floor committed other c
place_alike committed f table floor other c tabled many same is =
    let team = some_at floor.teams c.team (omega (arith, many, is.team_known)) in
    let found = λ (s : TeamState). place_named committed c.name s.cells in
    ap (λ (cs : List Cell). place_named committed c.name cs) (tabled c.team team.0 team.1)
    ∙ sym (ap (λ (ts : List TeamState). option_and_then found (slice_get ts c.team)) same ∙ ap (λ (o : Option TeamState). option_and_then found o) team.1)

-- Cells with their places in a table of the floor have their places on the floor.
pub places_alike : (committed : Bool) (f : Frame) (table : Bor Cells) (floor other : FloorState) (cells : List LoadedCell) → AreTabled table.now floor
    → length floor.teams ≡ length f.teams + 1 → other.teams ≡ floor.teams → All (IsCell f) cells → map (placed_by_table committed (Some table)) cells ≡ map (placed_on_floor committed other) cells
places_alike committed f table floor other [] tabled many same known = refl
places_alike committed f table floor other (c ∷ cells) tabled many same known =
    ap₂ (λ (p : Option Place) (cs : List LoadedCell). record c { place = p } ∷ cs)
    (place_alike committed f table.now floor other c tabled many same (All-head (IsCell f) c cells known))
    (places_alike committed f table floor other cells tabled many same (All-tail (IsCell f) c cells known))

original_one : (committed : Bool) (floor : FloorState) (c : LoadedCell) → AreOneCell c (placed_on_floor committed floor c)
original_one committed floor c = record { name = refl; team = refl; mac = refl; component = refl }

-- Cells that make a design also make one at these places.
pub design_placed : (committed : Bool) (f : Frame) (floor : FloorState) (cells : List LoadedCell) → MakeDesign f cells → MakeDesign f (map (placed_on_floor committed floor) cells)
design_placed committed f floor cells is = design_moved f (placed_on_floor committed floor) (original_one committed floor) cells is
