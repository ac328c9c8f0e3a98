-- Saved teams of a floor whose numbers are in range are its saved state.
use Rattle.std.proofs.Common.{◌≡◌, ◌≤◌, ◌<◌, ◌^◌, ℕ, zero, suc, List, [], ◌∷◌, length, map, set, Bool, true, false, cond, nat_lt, Option, refl, ap, sym, subst, ◌∙◌, arith}
use Rattle.std.specs.Prelude.{All, IfSome}
use Rattle.std.specs.List.{AllByRecursion}
use Rattle.std.proofs.lemmas.Bool.{ltb-false, ltb-true}
use Rattle.std.proofs.lemmas.List.{length-map}
use Rattle.std.proofs.lemmas.List.Elements.{All-head, All-tail, recursion_from_All}
use Rattle.lf_floorplan.specs.declared.frame.Frame.{Frame}
use Rattle.lf_cells.specs.declared.cell.Cell.{Cell}
use Rattle.lf_undo.specs.declared.moves.Move.{Move}
use Rattle.lf_undo.specs.Entries.{Places, entries_of, moves_taken_back}
use Rattle.lf_undo.proofs.Undone.{count_entries, taken_back_length}
use Rattle.lf_floor_model.specs.States.{FloorState, TeamState}
use Rattle.lf_floor_model.specs.Teams.{IsTeamOf, team_names}
use Rattle.lf_floor_model.specs.Outcomes.{places_of}
use Rattle.lf_state_text.specs.Designs.{NamedDesign}
use Rattle.lf_state_text.specs.Saved.{AreSaved, Both, HasWords, IsSavedInRange, IsSpottedCell, IsSpottedEntry, SavedTeam, IsSavedTeamOf, moves_within}
use Rattle.lf_floor.specs.Saved.{AreSavedTeams, IsSavedTeam, map_two, design_names, named_team, saved_cell}

-- ---- moves of no cell

set_past : {X : Type 0} (xs : List X) (i : ℕ) (x : X) → length xs ≤ i → set xs i x ≡ xs
set_past [] i x past = refl
set_past (y ∷ xs) zero x past = absurd (omega (arith, past))
set_past (y ∷ xs) (suc i) x past = ap (λ (l : List _). y ∷ l) (set_past xs i x (omega (arith, past)))

-- moves of no cell change nothing
back_within : (cells : ℕ) (moves : List Move) (places : Places) → length places ≡ cells → moves_taken_back (moves_within cells moves) places ≡ moves_taken_back moves places
back_within cells [] places many = refl
back_within cells (m ∷ moves) places many = by (nat_lt m.own cells) refl (back_within cells moves places many) where
  by : (b : Bool) → nat_lt m.own cells ≡ b → moves_taken_back (moves_within cells moves) places ≡ moves_taken_back moves places
      → moves_taken_back (cond b (m ∷ moves_within cells moves) (moves_within cells moves)) places ≡ set (moves_taken_back moves places) m.own m.place
  by true is rest = ap (λ (ps : Places). set ps m.own m.place) rest
  by false is rest =
      let past : cells ≤ m.own = ltb-false m.own cells is in
      rest ∙ sym (set_past (moves_taken_back moves places) m.own m.place (subst (λ (n : ℕ). n ≤ m.own) (sym (taken_back_length moves places ∙ many)) past))

pub entries_within : (cells : ℕ) (stack : List (List Move)) (places : Places) → length places ≡ cells
    → entries_of places (map (moves_within cells) stack) ≡ entries_of places stack
entries_within cells [] places many = refl
entries_within cells (moves ∷ stack) places many =
    let same = back_within cells moves places many in
    ap (λ (ps : Places). ps ∷ entries_of ps (map (moves_within cells) stack)) same
    ∙ ap (λ (l : List Places). moves_taken_back moves places ∷ l) (entries_within cells stack (moves_taken_back moves places) (taken_back_length moves places ∙ many))

own_within : (cells : ℕ) (moves : List Move) → AllByRecursion (λ m. m.own < cells) (moves_within cells moves)
own_within cells [] = tt
own_within cells (m ∷ moves) = by (nat_lt m.own cells) refl (own_within cells moves) where
  by : (b : Bool) → nat_lt m.own cells ≡ b → AllByRecursion (λ m. m.own < cells) (moves_within cells moves)
      → AllByRecursion (λ m. m.own < cells) (cond b (m ∷ moves_within cells moves) (moves_within cells moves))
  by true is rest = (ltb-true m.own cells is, rest)
  by false is rest = rest

all_own_within : (cells : ℕ) (stack : List (List Move)) → AllByRecursion (λ moves. AllByRecursion (λ m. m.own < cells) moves) (map (moves_within cells) stack)
all_own_within cells [] = tt
all_own_within cells (moves ∷ stack) = (own_within cells moves, all_own_within cells stack)

-- ---- a team

-- the saved team of a team whose undo entries are those of a stack
abbrev pub reported_team : TeamState → List (List Move) → SavedTeam
reported_team s stack = record {
  revision = s.revision;
  padding = s.padding;
  slots = s.slots;
  cells = map saved_cell s.cells;
  entries = map (moves_within (length s.cells)) stack;
}

many_places : (cells : List Cell) → length (places_of cells) ≡ length cells
many_places cells = length-map cells (λ (c : Cell). c.working)

pub team_reported : (s : TeamState) (stack : List (List Move)) → s.entries ≡ entries_of (places_of s.cells) stack → IsSavedTeam s (reported_team s stack)
team_reported s stack entries = record {
  revision = refl;
  padding = refl;
  slots = refl;
  cells = refl;
  entries = entries_within (length s.cells) stack (places_of s.cells) (many_places s.cells) ∙ sym entries;
}

pub team_saved : (f : Frame) (name : List ℕ) (s : TeamState) (stack : List (List Move)) → s.entries ≡ entries_of (places_of s.cells) stack → IsTeamOf f s
    → s.padding ≤ 16 → IsSavedTeamOf f.limits (named_team name s) (reported_team s stack)
team_saved f name s stack entries is padding =
    let names : length (map (λ (c : Cell). c.name) s.cells) ≡ length s.cells = length-map s.cells (λ (c : Cell). c.name) in
    record {
      revision = is.few_revisions;
      padding = padding;
      slots = is.all_slots;
      seen = recursion_from_All (λ (slot : Option ℕ). IfSome slot (λ seen. seen ≤ s.revision)) s.slots is.seen_past;
      cells = length-map s.cells saved_cell ∙ sym names;
      entries =
          subst (λ (n : ℕ). n ≤ f.limits.undo)
          (ap (λ (l : List Places). length l) entries ∙ count_entries (places_of s.cells) stack ∙ sym (length-map stack (moves_within (length s.cells)))) is.few_entries;
      own =
          subst (λ (n : ℕ). AllByRecursion (λ moves. AllByRecursion (λ m. m.own < n) moves) (map (moves_within (length s.cells)) stack)) (sym names)
          (all_own_within (length s.cells) stack);
    }

pub team_words : (f : Frame) (s : TeamState) (stack : List (List Move)) → IsTeamOf f s → IsSavedInRange (reported_team s stack) → HasWords (reported_team s stack)
team_words f s stack is range =
    let few = is.few_cells in
    let many = length-map s.cells saved_cell in
    record {
      few = omega (arith, few, many);
      cells = recursion_from_All IsSpottedCell (map saved_cell s.cells) range.cells;
      entries = recursion_from_All IsSpottedEntry (map (moves_within (length s.cells)) stack) range.entries;
    }

-- ---- all teams

module _ (f : Frame) (stack_at : ℕ → List (List Move)) (team_at : ℕ → TeamState)
    (entries : (k : ℕ) → (team_at k).entries ≡ entries_of (places_of (team_at k).cells) (stack_at k)) where
  abbrev pub reported_at : ℕ → SavedTeam
  reported_at k = reported_team (team_at k) (stack_at k)

  all_reported : (ks : List ℕ) → Both IsSavedTeam (map team_at ks) (map reported_at ks)
  all_reported [] = tt
  all_reported (k ∷ ks) = (team_reported (team_at k) (stack_at k) (entries k), all_reported ks)

  all_saved : (names : List (List ℕ)) (ks : List ℕ) → length names ≡ length ks → All (λ s. IsTeamOf f s) (map team_at ks) → All IsSavedInRange (map reported_at ks)
      → Both (IsSavedTeamOf f.limits) (map_two named_team names (map team_at ks)) (map reported_at ks)
  all_saved [] [] many are range = tt
  all_saved [] (k ∷ ks) many are range = absurd (omega (arith, many))
  all_saved (n ∷ names) [] many are range = absurd (omega (arith, many))
  all_saved (n ∷ names) (k ∷ ks) many are range = (
    team_saved f n (team_at k) (stack_at k) (entries k) (All-head (λ (s : TeamState). IsTeamOf f s) (team_at k) (map team_at ks) are)
        (All-head IsSavedInRange (reported_at k) (map reported_at ks) range).padding,
    all_saved names ks (omega (arith, many)) (All-tail (λ (s : TeamState). IsTeamOf f s) (team_at k) (map team_at ks) are)
        (All-tail IsSavedInRange (reported_at k) (map reported_at ks) range),
  )

  all_words : (ks : List ℕ) → All (λ s. IsTeamOf f s) (map team_at ks) → All IsSavedInRange (map reported_at ks) → AllByRecursion HasWords (map reported_at ks)
  all_words [] are range = tt
  all_words (k ∷ ks) are range = (
    team_words f (team_at k) (stack_at k) (All-head (λ (s : TeamState). IsTeamOf f s) (team_at k) (map team_at ks) are) (All-head IsSavedInRange (reported_at k) (map reported_at ks) range),
    all_words ks (All-tail (λ (s : TeamState). IsTeamOf f s) (team_at k) (map team_at ks) are) (All-tail IsSavedInRange (reported_at k) (map reported_at ks) range),
  )

  two_many : (names : List (List ℕ)) (teams : List TeamState) → length names ≡ length teams → length (map_two named_team names teams) ≡ length names
  two_many [] teams many = refl
  two_many (n ∷ names) [] many = absurd (omega (arith, many))
  two_many (n ∷ names) (s ∷ teams) many = ap suc (two_many names teams (omega (arith, many)))

  -- the saved teams of a floor are its saved state
  pub floor_reported : (floor : FloorState) (ks : List ℕ) → floor.frame ≡ f → floor.teams ≡ map team_at ks → length (team_names f) ≡ length ks → length ks < 2 ^ 32
      → All (λ s. IsTeamOf f s) (map team_at ks) → All IsSavedInRange (map reported_at ks) → AreSavedTeams floor (map reported_at ks)
  floor_reported floor ks frame teams many few are range =
      let names = team_names f in
      let design : design_names floor ≡ record { teams = map_two named_team names (map team_at ks); limits = f.limits } =
      ap (λ (g : Frame). record { teams = map_two named_team (team_names g) floor.teams; limits = g.limits }) frame
      ∙ ap (λ (ts : List TeamState). record { teams = map_two named_team names ts; limits = f.limits }) teams in
      let long : length (map_two named_team names (map team_at ks)) ≡ length ks =
      two_many names (map team_at ks) (many ∙ sym (length-map ks team_at)) ∙ many in
      record {
        teams = subst (λ (ts : List TeamState). Both IsSavedTeam ts (map reported_at ks)) (sym teams) (all_reported ks);
        words =
            subst (λ (d : NamedDesign). AreSaved d (map reported_at ks)) (sym design) record {
              few = subst (λ (n : ℕ). n < 2 ^ 32) (sym long) few;
              of_design = all_saved names ks many are range;
              words = all_words ks are range;
            };
      }
