-- The floor with which a repair begins, from the text of a state that is held in memory.
use Rattle.std.proofs.Common.{◌≡◌, ◌∙◌, inl, inr, zero, suc, ℕ, ◌+◌, Bool, true, false, cond, List, [], ◌∷◌, length, map, None, Option, Some, is_some, refl, ap, ap₂, sym, subst}
use Rattle.std.specs.Prelude.{◌==◌, filter, unwrap_or}
use Rattle.std.specs.List.{range_with_len}
use Rattle.std.proofs.lemmas.Bool.{false≢true}
use Rattle.lf_floorplan.specs.declared.frame.Frame.{Frame}
use Rattle.lf_floorplan.specs.declared.loaded.LoadedCell.{LoadedCell}
use Rattle.lf_floorplan.specs.declared.loaded.Loaded.{Loaded}
use Rattle.lf_cells.specs.Initial.{initial_cell, own_cells, own_components}
use Rattle.lf_floor_model.specs.Designs.{initial_floor, initial_teams}
use Rattle.lf_floor_model.specs.States.{FloorState}
use Rattle.lf_floor.specs.Saved.{ShareDesign, fixed_cells, fixed_part}
use Rattle.lf_task_faults.specs.declared.faults.Fault.{Fault}
use Rattle.lf_task_faults.specs.declared.faults.Fault.TheVariants.{Refused, File, RefusedState, RefusedJournal, NoTeam, RefusedTeam, TeamDiffers, SliceDiffers, ReadFault, WriteFault, TooManyLines, OutOfMemory, Output, Bind, Accept, Hub, NotWritten, SetupOutOfMemory, OutputOutOfMemory}
use Rattle.lf_task_faults.specs.declared.faults.TextKind.TheVariants.{State}
use Rattle.lf_task_designs.specs.Designs.{IsUnread, ReadsFile}
use Rattle.lf_task_files.specs.HeldTexts.{gives_text}
use Rattle.lf_task_files.specs.PlacedDesigns.{IsPlacedOnFloor, placed_on_floor}
use Rattle.lf_task_files.specs.States.{IsFileState, IsNotOpened, IsOpenedFloor, IsViewedDesign}
use Rattle.lf_task_files.proofs.Beginning.{fault_of_design, state_of_design}

-- The frame of a floor with which work begins is that of its design.
pub begun_frame : (gives : ReadsFile) (state : Option (List ℕ)) (opened begin : FloorState) → IsOpenedFloor gives state opened begin
    → begin.frame ≡ opened.frame
begun_frame gives None opened begin is = ap (λ (f : FloorState). f.frame) is
begun_frame gives (Some path) opened begin is = ap (λ (f : FloorState). f.frame) is.2.2

-- Its cells are those of its design.
pub begun_components : (gives : ReadsFile) (state : Option (List ℕ)) (opened begin : FloorState) → IsOpenedFloor gives state opened begin
    → begin.components ≡ opened.components
begun_components gives None opened begin is = ap (λ (f : FloorState). f.components) is
begun_components gives (Some path) opened begin is = ap (λ (f : FloorState). f.components) is.2.2

one_text : (text other : List ℕ) → Some text ≡ Some other → text ≡ other
one_text text other same = ap (λ (o : Option (List ℕ)). unwrap_or o []) same

-- A state of the held text is a state of its file.
pub state_of_held : (gives : ReadsFile) (path text : List ℕ) (opened begin : FloorState) → gives path (Some text)
    → IsFileState (gives_text text) path opened begin → IsFileState gives path opened begin
state_of_held gives path text opened begin given (other, same, is) =
    (other, subst (λ (t : List ℕ). gives path (Some t)) (sym (one_text other text same)) given, is)

-- ---- a design at other places

kept_step : (here : Bool) (a b : LoadedCell) (xs ys : List LoadedCell) → a.component ≡ b.component → map (λ c. c.component) xs ≡ map (λ c. c.component) ys
    → map (λ c. c.component) (cond here (a ∷ xs) xs) ≡ map (λ c. c.component) (cond here (b ∷ ys) ys)
kept_step true a b xs ys one rest = ap₂ (λ (k : ℕ) (ks : List ℕ). k ∷ ks) one rest
kept_step false a b xs ys one rest = rest

same_components : (floor : FloorState) (number : ℕ) (cells : List LoadedCell)
    → own_components number (map (placed_on_floor false floor) cells) ≡ own_components number cells
same_components floor number [] = refl
same_components floor number (c ∷ cells) =
    kept_step (c.team == number) (placed_on_floor false floor c) c (filter (λ d. d.team == number) (map (placed_on_floor false floor) cells))
    (filter (λ d. d.team == number) cells) refl (same_components floor number cells)

fixed_step : (here : Bool) (a b : LoadedCell) (xs ys : List LoadedCell) → fixed_part (initial_cell a) ≡ fixed_part (initial_cell b)
    → map fixed_part (map initial_cell xs) ≡ map fixed_part (map initial_cell ys)
    → map fixed_part (map initial_cell (cond here (a ∷ xs) xs)) ≡ map fixed_part (map initial_cell (cond here (b ∷ ys) ys))
fixed_step true a b xs ys one rest = ap₂ (λ (p : List ℕ × ℕ) (ps : List (List ℕ × ℕ)). p ∷ ps) one rest
fixed_step false a b xs ys one rest = rest

same_fixed : (floor : FloorState) (number : ℕ) (cells : List LoadedCell)
    → map fixed_part (own_cells number (map (placed_on_floor false floor) cells)) ≡ map fixed_part (own_cells number cells)
same_fixed floor number [] = refl
same_fixed floor number (c ∷ cells) =
    fixed_step (c.team == number) (placed_on_floor false floor c) c (filter (λ d. d.team == number) (map (placed_on_floor false floor) cells))
    (filter (λ d. d.team == number) cells) refl (same_fixed floor number cells)

same_teams : (design seen : Loaded) → ((number : ℕ) → map fixed_part (own_cells number seen.cells) ≡ map fixed_part (own_cells number design.cells))
    → (number more : ℕ) → map fixed_cells (initial_teams seen number more) ≡ map fixed_cells (initial_teams design number more)
same_teams design seen same number zero = refl
same_teams design seen same number (suc more) =
    ap₂ (λ (t : List (List ℕ × ℕ)) (ts : List (List (List ℕ × ℕ))). t ∷ ts) (same number) (same_teams design seen same (number + 1) more)

each_same : (f g : ℕ → List ℕ) → ((n : ℕ) → f n ≡ g n) → (ns : List ℕ) → map f ns ≡ map g ns
each_same f g same [] = refl
each_same f g same (n ∷ ns) = ap₂ (λ (x : List ℕ) (xs : List (List ℕ)). x ∷ xs) (same n) (each_same f g same ns)

-- A design with its cells at other places has floors of the same design.
pub share_placed : (floor : FloorState) (design seen : Loaded) → IsPlacedOnFloor false floor design seen
    → ShareDesign (initial_floor design) (initial_floor seen)
share_placed floor design seen is =
    let components = λ (number : ℕ). ap (λ (cs : List LoadedCell). own_components number cs) is.cells ∙ same_components floor number design.cells in
    let fixed = λ (number : ℕ). ap (λ (cs : List LoadedCell). map fixed_part (own_cells number cs)) is.cells ∙ same_fixed floor number design.cells in
    record {
      frame = is.frame;
      components =
          each_same (λ number. own_components number seen.cells) (λ number. own_components number design.cells) components
          (range_with_len 0 (length seen.frame.teams + 1))
          ∙ ap (λ (f : Frame). map (λ number. own_components number design.cells) (range_with_len 0 (length f.teams + 1))) is.frame;
      cells =
          same_teams design seen fixed 0 (length seen.frame.teams + 1)
          ∙ ap (λ (f : Frame). map fixed_cells (initial_teams design 0 (length f.teams + 1))) is.frame;
    }

-- The floor of the seen design in the state of the held text is that of the design.
pub begun_from_held : (gives : ReadsFile) (path : List ℕ) (design seen : Loaded) (begin : FloorState) → IsViewedDesign false gives (Some path) design seen
    → IsFileState gives path (initial_floor seen) begin → IsFileState gives path (initial_floor design) begin
begun_from_held gives path design seen begin (floor, state, placed) is =
    state_of_design gives path (initial_floor design) (initial_floor seen) begin (share_placed floor design seen placed) is

-- The same for why there is no such floor.
pub not_from_held : (gives : ReadsFile) (path : List ℕ) (design seen : Loaded) (fault : Fault) → IsViewedDesign false gives (Some path) design seen
    → IsNotOpened gives (Some path) seen fault → IsNotOpened gives (Some path) design fault
not_from_held gives path design seen fault shown (inl memory) = inl memory
not_from_held gives path design seen fault (floor, state, placed) (inr why) =
    inr (fault_of_design gives path (initial_floor design) (initial_floor seen) fault (share_placed floor design seen placed) why)

-- A design in the state of the held text is in that of its file.
pub viewed_of_held : (gives : ReadsFile) (path text : List ℕ) (design seen : Loaded) → gives path (Some text)
    → IsViewedDesign false (gives_text text) (Some path) design seen → IsViewedDesign false gives (Some path) design seen
viewed_of_held gives path text design seen given (floor, state, placed) =
    (floor, state_of_held gives path text (initial_floor design) floor given state, placed)

none_some : (text : List ℕ) → None ≡ Some text → ⊥
none_some text same = false≢true (ap is_some same)

-- A held text is read, so its faults are those of the text and of memory.
held_read : (text path : List ℕ) (fault : Fault) → IsUnread (gives_text text) State path fault → fault ≡ SetupOutOfMemory
held_read text path (Refused file its) is = absurd is
held_read text path (File file why) is = absurd (none_some text is.1)
held_read text path (RefusedState its_path its) is = absurd is
held_read text path (RefusedJournal its_path its) is = absurd is
held_read text path (NoTeam name) is = absurd is
held_read text path (RefusedTeam name cause) is = absurd is
held_read text path (TeamDiffers differing team) is = absurd is
held_read text path SliceDiffers is = absurd is
held_read text path ReadFault is = absurd is
held_read text path WriteFault is = absurd is
held_read text path TooManyLines is = absurd is
held_read text path OutOfMemory is = absurd is
held_read text path Output is = absurd is
held_read text path (Bind port why) is = absurd is
held_read text path Accept is = absurd is
held_read text path (Hub folder failure) is = absurd is
held_read text path (NotWritten its_kind its_path its_why) is = absurd is
held_read text path SetupOutOfMemory is = refl
held_read text path OutputOutOfMemory is = absurd is

-- Why there is no floor in the state of the held text is why there is none in that of its file.
pub not_of_held : (gives : ReadsFile) (path text : List ℕ) (design : Loaded) (fault : Fault) → gives path (Some text)
    → IsNotOpened (gives_text text) (Some path) design fault → IsNotOpened gives (Some path) design fault
not_of_held gives path text design fault given (inl memory) = inl memory
not_of_held gives path text design fault given (inr (inl unread)) = inl (held_read text path fault unread)
not_of_held gives path text design fault given (inr (inr (other, same, why))) =
    inr (inr (other, subst (λ (t : List ℕ). gives path (Some t)) (sym (one_text other text same)) given, why))
