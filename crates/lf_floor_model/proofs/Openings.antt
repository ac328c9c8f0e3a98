-- The first floor of a design, team by team.
use Rattle.std.proofs.Common.{◌≡◌, ◌≢◌, ℕ, zero, suc, ◌+◌, ◌<◌, ◌≤◌, List, [], ◌∷◌, length, map, filter, get_or, eqb, Bool, true, false, cond, Option, Some, None, refl, ap, sym, ◌∙◌, add-zero, zero-add, arith}
use Rattle.std.specs.Prelude.{slice_get, unwrap_or, bytes_eq, replicate, All, AllPairs, IfSome}
use Rattle.std.proofs.lemmas.List.{length-append, length-map, length-replicate, get_or-replicate}
use Rattle.std.proofs.lemmas.List.Elements.{All-cons, All-filter, All-map}
use Rattle.std.proofs.lemmas.List.Kept.{AllPairs-filter}
use Rattle.std.proofs.lemmas.List.Quantifiers.{position-Some}
use Rattle.lf_floorplan.specs.declared.frame.Frame.{Frame}
use Rattle.lf_floorplan.specs.declared.loaded.LoadedCell.{LoadedCell}
use Rattle.lf_floorplan.specs.declared.loaded.Loaded.{Loaded}
use Rattle.lf_floorplan.specs.declared.macros.Macro.{Macro}
use Rattle.lf_floorplan.specs.declared.parts.Team.{Team}
use Rattle.lf_floorplan.specs.Boxes.{macro_of, no_macro}
use Rattle.lf_floorplan.specs.Design.{IsCell}
use Rattle.lf_floorplan.specs.Fences.{ground_name}
use Rattle.lf_floorplan.specs.Bounds.{IsDesignName}
use Rattle.lf_cells.specs.declared.cell.Cell.{Cell}
use Rattle.lf_floor_model.specs.States.{TeamState}
use Rattle.lf_floor_model.specs.Teams.{team_names, team_number, state_of, IsTeamOf}
use Rattle.lf_legalize.specs.Members.{IsSizedCell}
use Rattle.lf_floor_model.specs.Designs.{initial_team, initial_teams, initial_floor, AgreeFor}
use Rattle.lf_floor_model.proofs.Forms.{state_at}
use Rattle.lf_cells.specs.Initial.{initial_cell, own_cells}

slice_get_some : {X : Type 0} (xs : List X) (i : ℕ) → i < length xs → (x : X) × (slice_get xs i ≡ Some x)
slice_get_some [] i within = absurd (omega arith)
slice_get_some (x ∷ xs) zero within = (x, refl)
slice_get_some (x ∷ xs) (suc i) within = slice_get_some xs i (omega arith)

length-filter-le : {X : Type 0} (p : X → Bool) (xs : List X) → length (filter p xs) ≤ length xs
length-filter-le p [] = omega arith
length-filter-le {X} p (x ∷ xs) = go (p x) (length-filter-le p xs) where
  go : (b : Bool) → length (filter p xs) ≤ length xs → length (cond b (x ∷ filter p xs) (filter p xs)) ≤ suc (length xs)
  go true l = omega (arith, l)
  go false l = omega (arith, l)

pub team_of : (design : Loaded) (from more : ℕ) (i : ℕ) → i < more → slice_get (initial_teams design from more) i ≡ Some (initial_team design (from + i))
team_of design from zero i l = absurd (omega arith)
team_of design from (suc more) zero l = ap (λ (n : ℕ). Some (initial_team design n)) (sym (add-zero from))
team_of design from (suc more) (suc i) l =
    let shift : from + 1 + i ≡ from + suc i = omega arith in
    team_of design (from + 1) more i (omega arith) ∙ ap (λ (n : ℕ). Some (initial_team design n)) shift

named_within : (f : Frame) (team : List ℕ) (number : ℕ) → team_number f team ≡ Some number → number < length f.teams + 1
named_within f team number named =
    let found = position-Some (λ n. bytes_eq n team) (team_names f) number [] named in
    let names : length (team_names f) ≡ length f.teams + 1 = length-append (map (λ (t : Team). t.name) f.teams) (ground_name ∷ []) ∙ ap (λ (n : ℕ). n + 1) (length-map f.teams (λ (t : Team). t.name)) in
    rw names at found.0

-- a team begins with its own cells
pub opening_is : (design : Loaded) (team : List ℕ) (number : ℕ) → team_number design.frame team ≡ Some number
    → state_of (initial_floor design) team ≡ Some (initial_team design number)
opening_is design team number named =
    ap (state_at (initial_floor design).teams) named ∙ team_of design 0 (length design.frame.teams + 1) number (named_within design.frame team number named)
    ∙ ap (λ (n : ℕ). Some (initial_team design n)) (zero-add number)

fresh : ℕ → List Cell → TeamState
fresh sessions cells = record { cells = cells; revision = 0; entries = []; slots = replicate sessions None; padding = 0 }

same_opening : (a b : Loaded) (number : ℕ) → a.frame ≡ b.frame → own_cells number a.cells ≡ own_cells number b.cells
    → initial_team a number ≡ initial_team b number
unfolding fresh
same_opening a b number frames own =
    ap (λ (f : Frame). fresh f.limits.sessions (own_cells number a.cells)) frames ∙ ap (λ (cs : List Cell). fresh b.frame.limits.sessions cs) own

-- two designs that agree for a team have the same first state of it
pub agreeing_is : (a b : Loaded) (team : List ℕ) (agree : AgreeFor team a b) → state_of (initial_floor b) team ≡ Some (initial_team a agree.number)
agreeing_is a b team agree =
    opening_is b team agree.number (ap (λ (f : Frame). team_number f team) (sym agree.frames) ∙ agree.named)
    ∙ ap (λ (s : TeamState). Some s) (sym (same_opening a b agree.number agree.frames agree.cells))

-- ---- each team of the first floor is a team of the frame

sized_cell : (f : Frame) (c : LoadedCell) → IsCell f c → IsSizedCell f (initial_cell c)
sized_cell f c known = go (slice_get_some f.macros c.mac known.mac_known) where
  go : ((m : Macro) × (slice_get f.macros c.mac ≡ Some m)) → IsSizedCell f (initial_cell c)
  go found =
      let is : macro_of f c.mac ≡ found.0 = ap (λ (o : Option Macro). unwrap_or o no_macro) found.1 in
      record { known = known.mac_known; sized = rw is (known.mac_sized found.0 found.1) }

pub map_at : {X Y : Type 0} (f : X → Y) (xs : List X) (i : ℕ) (d : Y) (e : X) → i < length xs → get_or (map f xs) i d ≡ f (get_or xs i e)
map_at f [] i d e within = absurd (omega (arith, within))
map_at f (x ∷ xs) zero d e within = refl
map_at f (x ∷ xs) (suc i) d e within = map_at f xs i d e (omega (arith, within))

-- a relation of each two elements' images holds for each two elements of the mapped list
pub pairs_map : {X Y : Type 0} (f : X → Y) (R : Y → Y → Type 0) (xs : List X) → AllPairs (λ a b. R (f a) (f b)) xs → AllPairs R (map f xs)
pairs_map f R [] all i j d less within = absurd (omega (arith, within))
pairs_map f R (x ∷ xs) all i j d less within =
    let inside : j < length (x ∷ xs) = rw (length-map (x ∷ xs) f) at within in
    rw (map_at f (x ∷ xs) i d x (omega (arith, less, inside)), map_at f (x ∷ xs) j d x inside) (all i j x less inside)

none_seen : (count : ℕ) → All (λ slot. IfSome slot (λ seen. seen ≤ 0)) (replicate {A = Option ℕ} count None)
none_seen count i d within =
    let inside : i < count = rw (length-replicate {A = Option ℕ} count None) at within in
    rw (get_or-replicate {A = Option ℕ} count i None d inside) tt

pub opened_team : (design : Loaded) (number : ℕ) → IsTeamOf design.frame (initial_team design number)
opened_team design number =
    let own = filter (λ (c : LoadedCell). eqb c.team number) design.cells in
    let known : All (λ (c : LoadedCell). IsSizedCell design.frame (initial_cell c)) design.cells = λ i d within. sized_cell design.frame (get_or design.cells i d) (design.cells_known i d within) in
    let few : length own ≤ length design.cells = length-filter-le (λ (c : LoadedCell). eqb c.team number) design.cells in
    record {
      sized =
          All-map (λ (c : Cell). IsSizedCell design.frame c) initial_cell own (All-filter (λ (c : LoadedCell). eqb c.team number) (λ (c : LoadedCell). IsSizedCell design.frame (initial_cell c)) design.cells known);
      printed =
          All-map (λ (c : Cell). IsDesignName c.name) initial_cell own (All-filter (λ (c : LoadedCell). eqb c.team number) (λ (c : LoadedCell). IsDesignName c.name) design.cells (λ i d within. (design.cells_known i d within).name_printed));
      names_differ =
          pairs_map (λ (c : Cell). c.name) (λ a b. a ≢ b) (map initial_cell own)
          (pairs_map initial_cell (λ (a : Cell) (b : Cell). a.name ≢ b.name) own
          (AllPairs-filter (λ (a : LoadedCell) (b : LoadedCell). a.name ≢ b.name) (λ (c : LoadedCell). eqb c.team number) design.cells design.names_differ));
      few_cells = rw (length-map own initial_cell) (omega (arith, few, design.few_cells));
      all_slots = length-replicate {A = Option ℕ} design.frame.limits.sessions None;
      whole_entries = λ i d within. absurd (omega (arith, within));
      few_entries = omega arith;
      few_revisions = omega arith;
      seen_past = none_seen design.frame.limits.sessions;
    }

opened_teams : (design : Loaded) (number more : ℕ) → All (λ s. IsTeamOf design.frame s) (initial_teams design number more)
opened_teams design number zero = λ i d within. absurd (omega arith)
opened_teams design number (suc more) =
    All-cons (λ (s : TeamState). IsTeamOf design.frame s) (initial_team design number) (initial_teams design (number + 1) more) (opened_team design number) (opened_teams design (number + 1) more)

pub count_teams : (design : Loaded) (number more : ℕ) → length (initial_teams design number more) ≡ more
count_teams design number zero = refl
count_teams design number (suc more) = ap suc (count_teams design (number + 1) more)

pub opening_whole : (design : Loaded)
    → (length (initial_floor design).teams ≡ length design.frame.teams + 1) × All (λ s. IsTeamOf design.frame s) (initial_floor design).teams
opening_whole design = (count_teams design 0 (length design.frame.teams + 1), opened_teams design 0 (length design.frame.teams + 1))

-- the team of each number
pub opened_at : (design : Loaded) (from more : ℕ) (i : ℕ) (d : TeamState) → i < more
    → get_or (initial_teams design from more) i d ≡ initial_team design (from + i)
opened_at design from zero i d l = absurd (omega arith)
opened_at design from (suc more) zero d l = ap (λ (n : ℕ). initial_team design n) (sym (add-zero from))
opened_at design from (suc more) (suc i) d l =
    let shift : from + 1 + i ≡ from + suc i = omega arith in
    opened_at design (from + 1) more i d (omega arith) ∙ ap (λ (n : ℕ). initial_team design n) shift
