-- The saved state of a floor's tables, and tables whose teams are restored.
use Rattle.std.proofs.Common.{◌≡◌, ◌≢◌, ◌<◌, ◌≤◌, ℕ, zero, suc, ◌+◌, List, [], ◌∷◌, ◌++◌, length, map, take, drop, set, get_or, Option, Some, None, Result, Ok, Err, refl, ap, sym, subst, ◌∙◌, arith, append-nil, zero-add}
use Rattle.std.specs.Prelude.{◌↔◌, All, IfOk, option_map, slice_get, slice_index_or, slice_set}
use Rattle.std.specs.List.{AllByRecursion, range_with_len}
use Rattle.std.proofs.lemmas.List.{length-append, length-map, length-set, get_or-set_same, get_or-set_other, take_all, take-set-le}
use Rattle.std.proofs.lemmas.List.FromFn.{get_or-map-range_with_len, length-map-range_with_len}
use Rattle.std.proofs.lemmas.List.Elements.{All-from_recursion, All-weaker}
use Rattle.lf_floorplan.specs.declared.frame.Frame.{Frame}
use Rattle.lf_floorplan.specs.declared.parts.Team.{Team}
use Rattle.lf_floorplan.specs.Fences.{ground_name}
use Rattle.lf_cells.specs.declared.cell.Cell.{Cell}
use Rattle.lf_cells.specs.Cells.{cells_of}
use Rattle.lf_sessions.specs.Slots.{slots_of}
use Rattle.lf_undo.specs.declared.moves.Move.{Move}
use Rattle.lf_undo.specs.Entries.{Places, entries_of}
use Rattle.lf_undo.specs.Stacks.{Stacks, stack_of}
use Rattle.lf_placement.specs.Placements.{Fits, Placing}
use Rattle.lf_rules.specs.FullyLegal.{IsFullyLegal}
use Rattle.lf_floor_model.specs.Committed.{IsCommittedLegal}
use Rattle.lf_floor_model.specs.Outcomes.{places_of}
use Rattle.lf_floor_model.specs.States.{FloorState, TeamState}
use Rattle.lf_floor_model.specs.Steps.{floor_of}
use Rattle.lf_floor_model.specs.Teams.{IsTeamOf, team_names}
use Rattle.lf_state_text.specs.Designs.{NamedTeam, named_team_of}
use Rattle.lf_state_text.specs.declared.saved_rows.SavedTeamRow.{SavedTeamRow}
use Rattle.lf_state_text.specs.declared.fault.StateError.{StateError}
use Rattle.lf_state_text.specs.declared.fault.StateError.TheVariants.{Memory, Fault}
use Rattle.lf_state_text.specs.Reading.{FailsAt, saved_state_of}
use Rattle.lf_state_text.specs.Saved.{AreOf, IsSavedInRange, SavedTeam, saved_at, team_view, team_views, IsSavedTeamOf}
use Rattle.lf_floor.specs.Saved.{MatchDesign, ShareDesign, IsRestoredFrom, IsStateText, RestoredIsCommitted, SavedRestores, AreSavedTeams, map_two, design_names, named_team, restored_floor, restored_team, saved_design}
use Rattle.lf_floor.specs.Placed.{saved_entries, SavedEntriesFit as StackFits, OthersStay as CellsStay}
use Rattle.lf_floor.proofs.ReportedTeams.{floor_reported}
use Rattle.lf_floor.proofs.Framing.{all_due, last_due, last_restored, still_of_design, team_restored}
use Rattle.lf_floor_verbs.specs.declared.tables.Tables.{Tables}
use Rattle.lf_floor.specs.SavedStates.{HasNumbers, saved_teams_of, saved_team_of}
use Rattle.lf_floor_verbs.specs.Tables.{AreTables, EntriesFit, HasRows, HasTeamRow, KeepsRooms, KeepsOtherTeams, table_cells, floor_in, frame_of, own_team, padding_of, revision_of, sites_in, teams_in}
use Rattle.lf_floor.proofs.Rows.{count_teams, one_changed, served, tables_still, team_at}

-- ---- the design

two_many : (names : List (List ℕ)) (teams : List TeamState) → length names ≡ length teams → length (map_two named_team names teams) ≡ length teams
two_many [] [] many = refl
two_many [] (s ∷ teams) many = absurd (omega (arith, many))
two_many (n ∷ names) [] many = absurd (omega (arith, many))
two_many (n ∷ names) (s ∷ teams) many = ap suc (two_many names teams (omega (arith, many)))

two_names : (names : List (List ℕ)) (teams : List TeamState) (k : ℕ) → length names ≡ length teams
    → option_map (λ t. t.name) (slice_get (map_two named_team names teams) k) ≡ slice_get names k
two_names [] [] k many = refl
two_names [] (s ∷ teams) k many = absurd (omega (arith, many))
two_names (n ∷ names) [] k many = absurd (omega (arith, many))
two_names (n ∷ names) (s ∷ teams) zero many = refl
two_names (n ∷ names) (s ∷ teams) (suc k) many = two_names names teams k (omega (arith, many))

two_cells : (names : List (List ℕ)) (teams : List TeamState) (k : ℕ) (d : NamedTeam) (e : TeamState) → length names ≡ length teams → k < length teams
    → (slice_index_or (map_two named_team names teams) k d).cells ≡ map (λ c. c.name) (get_or teams k e).cells
two_cells [] [] k d e many less = absurd (omega (arith, less))
two_cells [] (s ∷ teams) k d e many less = absurd (omega (arith, many))
two_cells (n ∷ names) [] k d e many less = absurd (omega (arith, many))
two_cells (n ∷ names) (s ∷ teams) zero d e many less = refl
two_cells (n ∷ names) (s ∷ teams) (suc k) d e many less = two_cells names teams k d e (omega (arith, many)) (omega (arith, less))

past_end : {X : Type 0} (xs : List X) (k : ℕ) (d : X) → length xs ≤ k → slice_index_or xs k d ≡ d
past_end [] k d past = refl
past_end (x ∷ xs) zero d past = absurd (omega (arith, past))
past_end (x ∷ xs) (suc k) d past = past_end xs k d (omega (arith, past))

-- there is one name for each fence, and one for the ground team
pub names_many : (f : Frame) → length (team_names f) ≡ length f.teams + 1
names_many f = length-append (map (λ (t : Team). t.name) f.teams) (ground_name ∷ []) ∙ ap (λ (n : ℕ). n + 1) (length-map f.teams (λ (t : Team). t.name))

module _ (tables : Tables) (are : AreTables tables) where
  as_many : length (team_names (frame_of tables)) ≡ length (teams_in tables)
  as_many = names_many (frame_of tables) ∙ sym are.revisions ∙ sym (count_teams tables)

  pub named_many : length (design_names (floor_in tables)).teams ≡ length tables.revisions.items
  named_many = two_many (team_names (frame_of tables)) (teams_in tables) as_many ∙ count_teams tables

  pub named_at : (k : ℕ) → option_map (λ t. t.name) (slice_get (design_names (floor_in tables)).teams k) ≡ slice_get (team_names (frame_of tables)) k
  named_at k = two_names (team_names (frame_of tables)) (teams_in tables) k as_many

  pub cells_named : (k : ℕ) → k < length tables.revisions.items → (named_team_of (design_names (floor_in tables)) k).cells ≡ map (λ c. c.name) (table_cells k tables)
  cells_named k less =
      let t = own_team k tables in
      two_cells (team_names (frame_of tables)) (teams_in tables) k record { name = []; cells = [] } t as_many (subst (λ (n : ℕ). k < n) (sym (count_teams tables)) less)
      ∙ ap (λ (s : TeamState). map (λ c. c.name) s.cells) (team_at tables k t less)

  pub none_named : (k : ℕ) → length tables.revisions.items ≤ k → (named_team_of (design_names (floor_in tables)) k).cells ≡ []
  none_named k past =
      ap (λ (t : NamedTeam). t.cells) (past_end (design_names (floor_in tables)).teams k record { name = []; cells = [] } (subst (λ (n : ℕ). n ≤ k) (sym named_many) past))

-- ---- saved teams

pub reported_many : (tables : Tables) → length (saved_teams_of tables) ≡ length tables.revisions.items
reported_many tables = length-map-range_with_len (λ (number : ℕ). saved_team_of number tables) 0 (length tables.revisions.items)

pub reported_at : (tables : Tables) (k : ℕ) → k < length tables.revisions.items → saved_at (saved_teams_of tables) k ≡ saved_team_of k tables
reported_at tables k less =
    get_or-map-range_with_len (λ (number : ℕ). saved_team_of number tables) 0 (length tables.revisions.items) k k
    record { revision = 0; padding = 0; slots = []; cells = []; entries = [] } less (zero-add k)

-- no other team is saved
pub none_reported : (tables : Tables) (k : ℕ) → length tables.revisions.items ≤ k → saved_at (saved_teams_of tables) k ≡ record { revision = 0; padding = 0; slots = []; cells = []; entries = [] }
none_reported tables k past =
    past_end (saved_teams_of tables) k record { revision = 0; padding = 0; slots = []; cells = []; entries = [] }
    (subst (λ (n : ℕ). n ≤ k) (sym (reported_many tables)) past)

pub option_twice : {X Y Z : Type 0} (g : X → Y) (f : Y → Z) (o : Option X) → option_map (λ x. f (g x)) o ≡ option_map f (option_map g o)
option_twice g f None = refl
option_twice g f (Some x) = refl

pub get_mapped : {X Y : Type 0} (f : X → Y) (xs : List X) (k : ℕ) → slice_get (map f xs) k ≡ option_map f (slice_get xs k)
get_mapped f [] k = refl
get_mapped f (x ∷ xs) zero = refl
get_mapped f (x ∷ xs) (suc k) = get_mapped f xs k

range_many : (from n : ℕ) → length (range_with_len from n) ≡ n
range_many from n = sym (length-map (range_with_len from n) (λ (k : ℕ). k)) ∙ length-map-range_with_len (λ (k : ℕ). k) from n

pub tables_reported : (tables : Tables) → AreTables tables → length (frame_of tables).teams ≤ 1024 → All IsSavedInRange (saved_teams_of tables) → AreSavedTeams (floor_in tables) (saved_teams_of tables)
tables_reported tables are few range =
    let n = length tables.revisions.items in
    let ks = range_with_len 0 n in
    let many : length ks ≡ n = range_many 0 n in
    let rows = are.revisions in
    floor_reported (frame_of tables) (λ k. stack_of tables.undo k) (λ k. own_team k tables) (λ k. refl) (floor_in tables) ks refl refl
    (names_many (frame_of tables) ∙ sym are.revisions ∙ sym many) (omega (arith, few, rows, many)) are.teams range

-- ---- a team is restored

all_of : {X : Type 0} (P Q : X → Type 0) → ((x : X) → P x → Q x) → (xs : List X) → AllByRecursion P xs → All Q xs
all_of P Q weaker xs all = All-weaker P Q weaker xs (All-from_recursion P xs all)

-- each saved move names a cell
pub own_cells : (cells n : ℕ) (entries : List (List Move)) → n ≡ cells → AllByRecursion (λ moves. AllByRecursion (λ m. m.own < n) moves) entries
    → All (λ moves. All (λ m. m.own < cells) moves) entries
own_cells cells n entries is own =
    subst (λ (k : ℕ). All (λ moves. All (λ m. m.own < k) moves) entries) is
    (all_of (λ (moves : List Move). AllByRecursion (λ m. m.own < n) moves) (λ (moves : List Move). All (λ m. m.own < n) moves)
    (λ moves all. All-from_recursion (λ (m : Move). m.own < n) moves all) entries own)

module _ (k : ℕ) (old new : Tables) (mid : Tables) (revision padding : ℕ) (slots : List (Option ℕ)) (rows : HasRows k old)
    (stay : CellsStay k old.placement mid.placement old.undo mid.undo) (sessions : mid.sessions ≡ old.sessions) (revisions : mid.revisions ≡ old.revisions)
    (paddings : mid.paddings ≡ old.paddings) (undo_many : length mid.undo.lists ≡ length old.undo.lists) (limit : mid.undo.limit ≡ old.undo.limit)
    (numbers : HasNumbers k revision padding slots mid new) where
  own_revision : revision_of new k ≡ revision
  own_revision =
      ap (λ (xs : List ℕ). slice_index_or xs k 0) numbers.revisions
      ∙ get_or-set_same mid.revisions.items k revision 0 (subst (λ rs. k < length rs.items) (sym revisions) rows.revisions)

  own_padding : padding_of new k ≡ padding
  own_padding =
      ap (λ (xs : List ℕ). slice_index_or xs k 0) numbers.paddings
      ∙ get_or-set_same (sites_in mid) k padding 0 (subst (λ ps. k < length (map (λ p. p.sites) ps.items)) (sym paddings) rows.paddings)

  own_slots : slots_of new.sessions k ≡ slots
  own_slots =
      ap (λ (xs : List (List (Option ℕ))). slice_index_or xs k []) numbers.sessions
      ∙ get_or-set_same mid.sessions k slots [] (subst (λ (ss : List (List (Option ℕ))). k < length ss) (sym sessions) rows.sessions)

  pub team_is : (cells : List Cell) (entries : List Places) → cells_of mid.placement.cells k ≡ cells → saved_entries mid.placement mid.undo k ≡ entries
      → own_team k new ≡ record { cells = cells; revision = revision; entries = entries; slots = slots; padding = padding }
  team_is cells entries cells_are entries_are =
      let own : table_cells k new ≡ cells = ap (λ (p : Placing). cells_of p.cells k) numbers.placement ∙ cells_are in
      let stack : entries_of (places_of (table_cells k new)) (stack_of new.undo k) ≡ entries =
      ap (λ (p : Placing). entries_of (places_of (cells_of p.cells k)) (stack_of new.undo k)) numbers.placement
      ∙ ap (λ (u : Stacks (List Move)). entries_of (places_of (cells_of mid.placement.cells k)) (stack_of u k)) numbers.undo
      ∙ entries_are in
      ap (λ (es : List Places). record { cells = table_cells k new; revision = revision_of new k; entries = es; slots = slots_of new.sessions k; padding = padding_of new k }) stack
      ∙ ap (λ (cs : List Cell). record { cells = cs; revision = revision_of new k; entries = entries; slots = slots_of new.sessions k; padding = padding_of new k }) own
      ∙ ap (λ (n : ℕ). record { cells = cells; revision = n; entries = entries; slots = slots_of new.sessions k; padding = padding_of new k }) own_revision
      ∙ ap (λ (ss : List (Option ℕ)). record { cells = cells; revision = revision; entries = entries; slots = ss; padding = padding_of new k }) own_slots
      ∙ ap (λ (n : ℕ). record { cells = cells; revision = revision; entries = entries; slots = slots; padding = n }) own_padding

  pub fit_is : StackFits mid.placement mid.undo k → EntriesFit k new
  fit_is fit =
      subst (λ (p : Placing). All (Fits p k) (entries_of (places_of (cells_of p.cells k)) (stack_of new.undo k))) (sym numbers.placement)
      (subst (λ (u : Stacks (List Move)). All (Fits mid.placement k) (entries_of (places_of (cells_of mid.placement.cells k)) (stack_of u k))) (sym numbers.undo) fit)

  other_team : (other : ℕ) → other ≢ k → own_team other new ≡ own_team other old
  other_team other apart =
      let cells : table_cells other new ≡ table_cells other old = ap (λ (p : Placing). cells_of p.cells other) numbers.placement ∙ stay.cells other apart in
      let stack : stack_of new.undo other ≡ stack_of old.undo other = ap (λ (u : Stacks (List Move)). stack_of u other) numbers.undo ∙ stay.stacks other apart in
      let revision_is : revision_of new other ≡ revision_of old other =
      ap (λ (xs : List ℕ). slice_index_or xs other 0) numbers.revisions ∙ get_or-set_other mid.revisions.items k other revision 0 apart
      ∙ ap (λ rs. slice_index_or rs.items other 0) revisions in
      let padding_is : padding_of new other ≡ padding_of old other =
      ap (λ (xs : List ℕ). slice_index_or xs other 0) numbers.paddings ∙ get_or-set_other (sites_in mid) k other padding 0 apart
      ∙ ap (λ ps. slice_index_or (map (λ p. p.sites) ps.items) other 0) paddings in
      let slots_are : slots_of new.sessions other ≡ slots_of old.sessions other =
      ap (λ (xs : List (List (Option ℕ))). slice_index_or xs other []) numbers.sessions ∙ get_or-set_other mid.sessions k other slots [] apart
      ∙ ap (λ (ss : List (List (Option ℕ))). slice_index_or ss other []) sessions in
      let es = entries_of (places_of (table_cells other old)) (stack_of old.undo other) in
      ap (λ (cs : List Cell). record { cells = cs; revision = revision_of new other; entries = entries_of (places_of cs) (stack_of new.undo other); slots = slots_of new.sessions other; padding = padding_of new other }) cells
      ∙ ap (λ (st : List (List Move)). record { cells = table_cells other old; revision = revision_of new other; entries = entries_of (places_of (table_cells other old)) st; slots = slots_of new.sessions other; padding = padding_of new other }) stack
      ∙ ap (λ (n : ℕ). record { cells = table_cells other old; revision = n; entries = es; slots = slots_of new.sessions other; padding = padding_of new other }) revision_is
      ∙ ap (λ (ss : List (Option ℕ)). record { cells = table_cells other old; revision = revision_of old other; entries = es; slots = ss; padding = padding_of new other }) slots_are
      ∙ ap (λ (n : ℕ). record { cells = table_cells other old; revision = revision_of old other; entries = es; slots = slots_of old.sessions other; padding = n }) padding_is

  pub others_are : KeepsOtherTeams k old new
  others_are = record {
    teams = other_team;
    components = ap (λ (p : Placing). p.cells.components) numbers.placement ∙ stay.components;
    ground =
        subst (λ (p : Placing). KeepsRooms old.placement p) (sym numbers.placement)
        record { frame = stay.frame; index = stay.index; site = stay.site; rooms = stay.rooms };
    undo = ap (λ (u : Stacks (List Move)). length u.lists) numbers.undo ∙ undo_many;
    sessions = ap (λ (ss : List (List (Option ℕ))). length ss) numbers.sessions ∙ length-set mid.sessions k slots ∙ ap (λ (ss : List (List (Option ℕ))). length ss) sessions;
    revisions = ap (λ (xs : List ℕ). length xs) numbers.revisions ∙ length-set mid.revisions.items k revision ∙ ap (λ rs. length rs.items) revisions;
    paddings = ap (λ (xs : List ℕ). length xs) numbers.paddings ∙ length-set (sites_in mid) k padding ∙ ap (λ ps. length (map (λ p. p.sites) ps.items)) paddings;
    limit = ap (λ (u : Stacks (List Move)). u.limit) numbers.undo ∙ limit;
  }

-- ---- all teams

-- restoring the remaining teams completes the restored floor
pub record AreLeft (start now : Tables) (all left : List SavedTeam) : Type 0 where
  pub tables : AreTables now
  pub frame : frame_of now ≡ frame_of start
  pub components : now.placement.cells.components ≡ start.placement.cells.components
  pub few : length left ≤ length (teams_in now)
  pub due : MatchDesign (frame_of now).limits (take (length left) (teams_in now)) left
  pub whole : map_two restored_team (teams_in now) left ++ drop (length left) (teams_in now) ≡ map_two restored_team (teams_in start) all

all_taken : {X : Type 0} (xs : List X) (n : ℕ) → n ≡ length xs → take n xs ≡ xs
all_taken xs n is = take_all n xs (omega (arith, is))

none_left : {X : Type 0} (xs : List X) (n : ℕ) → length xs ≤ n → drop n xs ≡ []
none_left [] zero past = refl
none_left [] (suc n) past = refl
none_left (x ∷ xs) zero past = absurd (omega (arith, past))
none_left (x ∷ xs) (suc n) past = none_left xs n (omega (arith, past))

pub first_left : (tables : Tables) (saved : List SavedTeam) → AreTables tables → MatchDesign (frame_of tables).limits (teams_in tables) saved → length saved ≡ length (teams_in tables)
    → AreLeft tables tables saved saved
first_left tables saved are due many = record {
  tables = are;
  frame = refl;
  components = refl;
  few = omega (arith, many);
  due = subst (λ (ts : List TeamState). MatchDesign (frame_of tables).limits ts saved) (sym (all_taken (teams_in tables) (length saved) many)) due;
  whole =
      ap (λ (ts : List TeamState). map_two restored_team (teams_in tables) saved ++ ts) (none_left (teams_in tables) (length saved) (omega (arith, many)))
      ∙ append-nil (map_two restored_team (teams_in tables) saved);
}

-- the last of the remaining teams
module _ (start now : Tables) (all rest left : List SavedTeam) (t : SavedTeam) (so_far : AreLeft start now all left) (is : left ≡ rest ++ t ∷ []) where
  long : length left ≡ length rest + 1
  long = ap (λ (l : List SavedTeam). length l) is ∙ length-append rest (t ∷ [])

  pub last_there : length rest < length now.revisions.items
  last_there = let few = so_far.few in omega (arith, few, long, count_teams now)

  pub last_served : HasTeamRow (length rest) now
  last_served = served now (length rest) so_far.tables (subst (λ (n : ℕ). length rest < n) so_far.tables.revisions last_there)

  less : length rest < length (teams_in now)
  less = let few = so_far.few in omega (arith, few, long)

  parts : (d : TeamState) → IsSavedTeamOf (frame_of now).limits (named_team [] (get_or (teams_in now) (length rest) d)) t × MatchDesign (frame_of now).limits (take (length rest) (teams_in now)) rest
  parts d =
      last_due (frame_of now).limits (teams_in now) rest t d less
      (subst (λ (l : List SavedTeam). MatchDesign (frame_of now).limits (take (length rest + 1) (teams_in now)) l) is
      (subst (λ (n : ℕ). MatchDesign (frame_of now).limits (take n (teams_in now)) left) long so_far.due))

  pub last_is_due : IsSavedTeamOf (frame_of now).limits (named_team [] (own_team (length rest) now)) t
  last_is_due =
      subst (λ (s : TeamState). IsSavedTeamOf (frame_of now).limits (named_team [] s) t) (team_at now (length rest) (own_team (length rest) now) last_there)
      (parts (own_team (length rest) now)).0

  pub one_less : (after : Tables) → own_team (length rest) after ≡ restored_team (own_team (length rest) now) t → KeepsOtherTeams (length rest) now after
      → EntriesFit (length rest) after → AreLeft start after all rest
  one_less after team others fit =
      let k = length rest in
      let d = own_team k now in
      let here : get_or (teams_in now) k d ≡ d = team_at now k d last_there in
      let set_is : teams_in after ≡ set (teams_in now) k (restored_team (get_or (teams_in now) k d) t) =
      one_changed now after k others
      ∙ ap (λ (s : TeamState). slice_set (teams_in now) k s) (team ∙ ap (λ (s : TeamState). restored_team s t) (sym here)) in
      let frame : frame_of after ≡ frame_of now = others.ground.frame in
      let one : IsTeamOf (frame_of now) (own_team k after) =
      subst (λ (s : TeamState). IsTeamOf (frame_of now) s) (sym team) (team_restored (frame_of now) d t last_served.team last_is_due) in
      record {
        tables = tables_still now after k others so_far.tables one fit;
        frame = frame ∙ so_far.frame;
        components = others.components ∙ so_far.components;
        few = let few = so_far.few in omega (arith, few, long, ap (λ (ts : List TeamState). length ts) set_is, length-set (teams_in now) k (restored_team (get_or (teams_in now) k d) t));
        due =
            subst (λ (f : Frame). MatchDesign f.limits (take k (teams_in after)) rest) (sym frame)
            (subst (λ (ts : List TeamState). MatchDesign (frame_of now).limits (take k ts) rest) (sym set_is)
            (subst (λ (ts : List TeamState). MatchDesign (frame_of now).limits ts rest) (sym (take-set-le k (teams_in now) k (restored_team (get_or (teams_in now) k d) t) (omega arith))) (parts d).1));
        whole =
            ap (λ (ts : List TeamState). map_two restored_team ts rest ++ drop k ts) set_is
            ∙ last_restored (teams_in now) rest t d less
            ∙ ap (λ (l : List SavedTeam). map_two restored_team (teams_in now) l ++ drop (k + 1) (teams_in now)) (sym is)
            ∙ ap (λ (n : ℕ). map_two restored_team (teams_in now) left ++ drop n (teams_in now)) (sym long)
            ∙ so_far.whole;
      }

  -- the team of that number is served
  pub number_served : (k : ℕ) → k ≡ length rest → HasTeamRow k now
  number_served k at = subst (λ (n : ℕ). HasTeamRow n now) (sym at) last_served

  pub number_due : (k : ℕ) → k ≡ length rest → IsSavedTeamOf (frame_of now).limits (named_team [] (own_team k now)) t
  number_due k at = subst (λ (n : ℕ). IsSavedTeamOf (frame_of now).limits (named_team [] (own_team n now)) t) (sym at) last_is_due

  pub number_less : (k : ℕ) → k ≡ length rest → (after : Tables) → own_team k after ≡ restored_team (own_team k now) t → KeepsOtherTeams k now after → EntriesFit k after
      → AreLeft start after all rest
  number_less k at after team others fit =
      one_less after (subst (λ (n : ℕ). own_team n after ≡ restored_team (own_team n now) t) at team) (subst (λ (n : ℕ). KeepsOtherTeams n now after) at others)
      (subst (λ (n : ℕ). EntriesFit n after) at fit)

two_none : (teams : List TeamState) → map_two restored_team teams [] ≡ []
two_none [] = refl
two_none (s ∷ teams) = refl

pub all_left : (start now : Tables) (all left : List SavedTeam) → AreLeft start now all left → left ≡ [] → floor_in now ≡ restored_floor (floor_in start) all
all_left start now all left so_far none =
    let whole : teams_in now ≡ map_two restored_team (teams_in start) all =
    ap (λ (ts : List TeamState). ts ++ teams_in now) (sym (two_none (teams_in now)))
    ∙ ap (λ (l : List SavedTeam). map_two restored_team (teams_in now) l ++ drop (length l) (teams_in now)) (sym none)
    ∙ so_far.whole in
    ap (λ (f : Frame). floor_of f now.placement.cells.components (teams_in now)) so_far.frame
    ∙ ap (λ (cs : List (List ℕ)). floor_of (frame_of start) cs (teams_in now)) so_far.components
    ∙ ap (floor_of (frame_of start) start.placement.cells.components) whole

-- ---- saved teams that were read

-- each team that was read is a team of the floor
due_of : (tables : Tables) → AreTables tables → (saved : List SavedTeam) → AreOf (design_names (floor_in tables)) saved → MatchDesign (frame_of tables).limits (teams_in tables) saved
due_of tables are saved of = all_due (frame_of tables).limits (team_names (frame_of tables)) (teams_in tables) saved (as_many tables are) of

pub rows_due : {X E : Type 0} (view : X → List SavedTeam) (tables : Tables) → AreTables tables → (result : Result X E)
    → IfOk result (λ rows. AreOf (design_names (floor_in tables)) (view rows)) → IfOk result (λ rows. MatchDesign (frame_of tables).limits (teams_in tables) (view rows))
rows_due view tables are (Ok rows) of = due_of tables are (view rows) of
rows_due view tables are (Err e) of = tt

pub views_more : (rest whole : List SavedTeamRow) (row : SavedTeamRow) → whole ≡ rest ++ row ∷ [] → team_views whole ≡ team_views rest ++ team_view row ∷ []
views_more rest whole row is = ap (λ (rows : List SavedTeamRow). team_views rows) is ∙ go rest where
  go : (rows : List SavedTeamRow) → team_views (rows ++ row ∷ []) ≡ team_views rows ++ team_view row ∷ []
  go [] = refl
  go (r ∷ rows) = ap (λ (ts : List SavedTeam). team_view r ∷ ts) (go rows)

pub views_many : (rows : List SavedTeamRow) → length (team_views rows) ≡ length rows
views_many rows = length-map rows team_view

pub no_views : (rows : List SavedTeamRow) → length rows ≤ 0 → team_views rows ≡ []
no_views [] few = refl
no_views (r ∷ rows) few = absurd (omega (arith, few))

-- the restored floor has the same design
pub of_design : (start now : Tables) (saved : List SavedTeam) → MatchDesign (frame_of start).limits (teams_in start) saved → floor_in now ≡ restored_floor (floor_in start) saved
    → ShareDesign (floor_in start) (floor_in now)
of_design start now saved due is =
    subst (λ (f : FloorState). ShareDesign (floor_in start) f) (sym is) (still_of_design (floor_in start) saved due)

-- ---- the contents of a text

same_ok : {X E : Type 0} {x y : X} → ◌≡◌ {A = Result X E} (Ok x) (Ok y) → x ≡ y
same_ok e = cc

pub back_again : SavedRestores → (begin floor now : FloorState) (text : List ℕ) → IsRestoredFrom begin text now → ShareDesign begin floor → IsStateText floor text
    → now ≡ floor
back_again law begin floor now text from one is =
    let saved_teams_of = law begin floor text one is in
    let same : from.0 ≡ saved_teams_of.0 = same_ok (sym from.1 ∙ saved_teams_of.1) in
    from.2 ∙ ap (λ (saved : List SavedTeam). restored_floor begin saved) same ∙ saved_teams_of.2

pub only_memory : SavedRestores → (begin floor : FloorState) (text : List ℕ) (error : StateError) → FailsAt error (saved_state_of (design_names begin) text) → ShareDesign begin floor
    → IsStateText floor text → error ≡ Memory
only_memory law begin floor text Memory fails one is = refl
only_memory law begin floor text (Fault f) fails one is = absurd (differ (sym (law begin floor text one is).1 ∙ fails)) where
  differ : {X E : Type 0} {x : X} {e : E} → ◌≡◌ {A = Result X E} (Ok x) (Err e) → ⊥
  differ e = cc

pub legal_reported : RestoredIsCommitted → (begin now : FloorState) (text : List ℕ) (saved : List SavedTeam) → IsRestoredFrom begin text now
    → saved_state_of (design_names begin) text ≡ Ok saved → IsCommittedLegal now ↔ IsFullyLegal begin.frame (saved_design begin saved)
legal_reported law begin now text saved from read =
    let same : from.0 ≡ saved = same_ok (sym from.1 ∙ read) in
    let is : now ≡ restored_floor begin saved = from.2 ∙ ap (λ (saved : List SavedTeam). restored_floor begin saved) same in
    subst (λ (f : FloorState). IsCommittedLegal f ↔ IsFullyLegal begin.frame (saved_design begin saved)) (sym is) (law begin saved)
