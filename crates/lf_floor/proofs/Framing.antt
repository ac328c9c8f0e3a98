-- A restored team is a team of the frame and of the design.
use Rattle.std.proofs.Common.{◌≡◌, ◌≢◌, ◌≤◌, ◌<◌, ℕ, zero, suc, Bool, true, false, nat_lt, ◌+◌, List, [], ◌∷◌, ◌++◌, length, map, take, drop, set, get_or, Option, refl, ap, sym, subst, ◌∙◌, arith}
use Rattle.std.specs.Prelude.{All, AllPairs, IfSome}
use Rattle.std.proofs.lemmas.Bool.{ltb-false, ltb-true}
use Rattle.std.proofs.lemmas.List.Elements.{All-from_recursion, All-head, All-nil, All-tail, All-cons}
use Rattle.std.proofs.lemmas.List.{length-map}
use Rattle.lf_floorplan.specs.declared.frame.Frame.{Frame}
use Rattle.lf_floorplan.specs.declared.limits.Limits.{Limits}
use Rattle.lf_floorplan.specs.Bounds.{IsDesignName}
use Rattle.lf_cells.specs.declared.cell.Cell.{Cell}
use Rattle.lf_cells.specs.Cells.{Cells, cells_of}
use Rattle.lf_placement.specs.Placements.{AreSized}
use Rattle.lf_legalize.specs.Members.{IsSizedCell}
use Rattle.lf_undo.specs.Entries.{Places, entries_of}
use Rattle.lf_undo.proofs.Undone.{count_entries, whole_entries}
use Rattle.lf_floor_model.specs.States.{FloorState, TeamState}
use Rattle.lf_floor_model.specs.Teams.{IsTeamOf}
use Rattle.lf_floor_model.proofs.Kept.{sized_as}
use Rattle.lf_state_text.specs.declared.saved_rows.SavedCell.{SavedCell}
use Rattle.lf_state_text.specs.Saved.{Both, SavedTeam, saved_at, IsSavedTeamOf}
use Rattle.lf_floor.specs.Saved.{MatchDesign, ShareDesign, fixed_cells, fixed_part, map_two, named_team, restored_floor, restored_cell, restored_team, saved_cell}
use Rattle.lf_floor.specs.Placed.{AreAsMany, ArePlaced}

-- ---- cells

pub cells_many : (cells : List Cell) (saved : List SavedCell) → length saved ≡ length cells → length (map_two restored_cell cells saved) ≡ length cells
cells_many [] saved many = refl
cells_many (c ∷ cells) [] many = absurd (omega (arith, many))
cells_many (c ∷ cells) (s ∷ saved) many = ap suc (cells_many cells saved (omega (arith, many)))

pub cells_names : (cells : List Cell) (saved : List SavedCell) → length saved ≡ length cells → map (λ c. c.name) (map_two restored_cell cells saved) ≡ map (λ c. c.name) cells
cells_names [] saved many = refl
cells_names (c ∷ cells) [] many = absurd (omega (arith, many))
cells_names (c ∷ cells) (s ∷ saved) many = ap (λ (ns : List (List ℕ)). c.name ∷ ns) (cells_names cells saved (omega (arith, many)))

cells_fixed : (cells : List Cell) (saved : List SavedCell) → length saved ≡ length cells → map fixed_part (map_two restored_cell cells saved) ≡ map fixed_part cells
cells_fixed [] saved many = refl
cells_fixed (c ∷ cells) [] many = absurd (omega (arith, many))
cells_fixed (c ∷ cells) (s ∷ saved) many = ap (λ (fs : List (List ℕ × ℕ)). fixed_part c ∷ fs) (cells_fixed cells saved (omega (arith, many)))

pub cells_sized : (f : Frame) (cells : List Cell) (saved : List SavedCell) → All (λ c. IsSizedCell f c) cells → All (λ c. IsSizedCell f c) (map_two restored_cell cells saved)
cells_sized f [] saved all = All-nil (λ (c : Cell). IsSizedCell f c)
cells_sized f (c ∷ cells) [] all = All-nil (λ (c : Cell). IsSizedCell f c)
cells_sized f (c ∷ cells) (s ∷ saved) all =
    All-cons (λ (c : Cell). IsSizedCell f c) (restored_cell c s) (map_two restored_cell cells saved)
    (sized_as f c (restored_cell c s) refl (All-head (λ (c : Cell). IsSizedCell f c) c cells all))
    (cells_sized f cells saved (All-tail (λ (c : Cell). IsSizedCell f c) c cells all))

cells_printed : (cells : List Cell) (saved : List SavedCell) → All (λ c. IsDesignName c.name) cells → All (λ c. IsDesignName c.name) (map_two restored_cell cells saved)
cells_printed [] saved all = All-nil (λ (c : Cell). IsDesignName c.name)
cells_printed (c ∷ cells) [] all = All-nil (λ (c : Cell). IsDesignName c.name)
cells_printed (c ∷ cells) (s ∷ saved) all =
    All-cons (λ (c : Cell). IsDesignName c.name) (restored_cell c s) (map_two restored_cell cells saved)
    (All-head (λ (c : Cell). IsDesignName c.name) c cells all) (cells_printed cells saved (All-tail (λ (c : Cell). IsDesignName c.name) c cells all))

-- ---- cells at their saved places

-- restoring cells twice is restoring them once
pub restored_twice : (cells : List Cell) (saved : List SavedCell) → map_two restored_cell (map_two restored_cell cells saved) saved ≡ map_two restored_cell cells saved
restored_twice [] saved = refl
restored_twice (c ∷ cells) [] = refl
restored_twice (c ∷ cells) (s ∷ saved) = ap (λ (cs : List Cell). restored_cell c s ∷ cs) (restored_twice cells saved)

-- the saved places of restored cells are the saved ones
pub saved_restored : (cells : List Cell) (saved : List SavedCell) → length saved ≡ length cells → map saved_cell (map_two restored_cell cells saved) ≡ saved
saved_restored [] [] many = refl
saved_restored [] (s ∷ saved) many = absurd (omega (arith, many))
saved_restored (c ∷ cells) [] many = absurd (omega (arith, many))
saved_restored (c ∷ cells) (s ∷ saved) many = ap (λ (l : List SavedCell). s ∷ l) (saved_restored cells saved (omega (arith, many)))

-- each team of a table keeps the macros of its cells, and their number
module _ (saved : List SavedTeam) (old new : Cells) (many : AreAsMany saved old) (placed : ArePlaced saved old new) where
  each_placed : (P : List Cell → Type 0) (team : ℕ)
      → (length (saved_at saved team).cells ≡ length (cells_of old team) → P (map_two restored_cell (cells_of old team) (saved_at saved team).cells))
      → P (cells_of old team) → P (cells_of new team)
  each_placed P team here there = by (nat_lt team (length saved)) refl where
    by : (b : Bool) → nat_lt team (length saved) ≡ b → P (cells_of new team)
    by true is =
        let less : team < length saved = ltb-true team (length saved) is in
        subst P (sym (placed.cells team less)) (here (many team less))
    by false is = subst P (sym (placed.others team (ltb-false team (length saved) is))) there

  pub sized_placed : (f : Frame) → AreSized f old → AreSized f new
  sized_placed f sized = λ team.
      each_placed (λ (cs : List Cell). All (IsSizedCell f) cs) team (λ long. cells_sized f (cells_of old team) (saved_at saved team).cells (sized team)) (sized team)

  pub few_placed : ((team : ℕ) → length (cells_of old team) ≤ 4000000) → (team : ℕ) → length (cells_of new team) ≤ 4000000
  few_placed few = λ team.
      each_placed (λ (cs : List Cell). length cs ≤ 4000000) team
      (λ long. subst (λ (n : ℕ). n ≤ 4000000) (sym (cells_many (cells_of old team) (saved_at saved team).cells long)) (few team)) (few team)

-- ---- a team

-- a team whose cells are at saved places, and that has no undo entry
pub team_placed : (f : Frame) (s : TeamState) (saved : List SavedCell) → IsTeamOf f s → length saved ≡ length s.cells
    → IsTeamOf f record { cells = map_two restored_cell s.cells saved; revision = s.revision; entries = []; slots = s.slots; padding = s.padding }
team_placed f s saved is many = record {
  sized = cells_sized f s.cells saved is.sized;
  printed = cells_printed s.cells saved is.printed;
  names_differ = subst (λ (names : List (List ℕ)). AllPairs (λ a b. a ≢ b) names) (sym (cells_names s.cells saved many)) is.names_differ;
  few_cells = subst (λ (n : ℕ). n ≤ 4000000) (sym (cells_many s.cells saved many)) is.few_cells;
  all_slots = is.all_slots;
  whole_entries = All-nil (λ (ps : Places). length ps ≡ length (map_two restored_cell s.cells saved));
  few_entries = omega arith;
  few_revisions = is.few_revisions;
  seen_past = is.seen_past;
}

pub team_restored : (f : Frame) (s : TeamState) (t : SavedTeam) → IsTeamOf f s → IsSavedTeamOf f.limits (named_team [] s) t → IsTeamOf f (restored_team s t)
team_restored f s t is of =
    let many : length t.cells ≡ length s.cells = of.cells ∙ length-map s.cells (λ (c : Cell). c.name) in
    let long : length (map_two restored_cell s.cells t.cells) ≡ length s.cells = cells_many s.cells t.cells many in
    let places : Places = map (λ (c : SavedCell). c.working) t.cells in
    let whole : length places ≡ length (map_two restored_cell s.cells t.cells) = length-map t.cells (λ (c : SavedCell). c.working) ∙ many ∙ sym long in
    let few_cells = is.few_cells in
    let few_entries = of.entries in
    record {
      sized = cells_sized f s.cells t.cells is.sized;
      printed = cells_printed s.cells t.cells is.printed;
      names_differ = subst (λ (names : List (List ℕ)). AllPairs (λ a b. a ≢ b) names) (sym (cells_names s.cells t.cells many)) is.names_differ;
      few_cells = subst (λ (n : ℕ). n ≤ 4000000) (sym long) is.few_cells;
      all_slots = of.slots;
      whole_entries = subst (λ (n : ℕ). All (λ (ps : Places). length ps ≡ n) (entries_of places t.entries)) whole (whole_entries places t.entries);
      few_entries = subst (λ (n : ℕ). n ≤ f.limits.undo) (sym (count_entries places t.entries)) of.entries;
      few_revisions = of.revision;
      seen_past = All-from_recursion (λ (slot : Option ℕ). IfSome slot (λ seen. seen ≤ t.revision)) t.slots of.seen;
    }

-- ---- all teams

renamed : (limits : Limits) (name : List ℕ) (s : TeamState) (t : SavedTeam) → IsSavedTeamOf limits (named_team name s) t → IsSavedTeamOf limits (named_team [] s) t
renamed limits name s t of = record {
  revision = of.revision;
  padding = of.padding;
  slots = of.slots;
  seen = of.seen;
  cells = of.cells;
  entries = of.entries;
  own = of.own;
}

pub all_due : (limits : Limits) (names : List (List ℕ)) (teams : List TeamState) (saved : List SavedTeam) → length names ≡ length teams
    → Both (IsSavedTeamOf limits) (map_two named_team names teams) saved → MatchDesign limits teams saved
all_due limits [] [] [] many both = tt
all_due limits [] [] (t ∷ saved) many both = absurd both
all_due limits [] (s ∷ teams) saved many both = absurd (omega (arith, many))
all_due limits (n ∷ names) [] saved many both = absurd (omega (arith, many))
all_due limits (n ∷ names) (s ∷ teams) [] many both = absurd both
all_due limits (n ∷ names) (s ∷ teams) (t ∷ saved) many both = (renamed limits n s t both.0, all_due limits names teams saved (omega (arith, many)) both.1)

pub due_many : (limits : Limits) (teams : List TeamState) (saved : List SavedTeam) → MatchDesign limits teams saved → length saved ≡ length teams
due_many limits [] [] both = refl
due_many limits [] (t ∷ saved) both = absurd both
due_many limits (s ∷ teams) [] both = absurd both
due_many limits (s ∷ teams) (t ∷ saved) both = ap suc (due_many limits teams saved both.1)

-- each of the teams
pub due_at : (limits : Limits) (teams : List TeamState) (saved : List SavedTeam) (k : ℕ) (d : TeamState) → MatchDesign limits teams saved → k < length saved
    → IsSavedTeamOf limits (named_team [] (get_or teams k d)) (saved_at saved k)
due_at limits [] [] k d due less = absurd (omega (arith, less))
due_at limits [] (t ∷ saved) k d due less = absurd due
due_at limits (s ∷ teams) [] k d due less = absurd due
due_at limits (s ∷ teams) (t ∷ saved) zero d due less = due.0
due_at limits (s ∷ teams) (t ∷ saved) (suc k) d due less = due_at limits teams saved k d due.1 (omega (arith, less))

pub due_each : (limits : Limits) (teams : List TeamState) (saved : List SavedTeam) (d : TeamState) → length saved ≡ length teams
    → ((k : ℕ) → k < length saved → IsSavedTeamOf limits (named_team [] (get_or teams k d)) (saved_at saved k)) → MatchDesign limits teams saved
due_each limits [] [] d many each = tt
due_each limits [] (t ∷ saved) d many each = absurd (omega (arith, many))
due_each limits (s ∷ teams) [] d many each = absurd (omega (arith, many))
due_each limits (s ∷ teams) (t ∷ saved) d many each =
    (each zero (omega arith), due_each limits teams saved d (omega (arith, many)) (λ k less. each (suc k) (omega (arith, less))))

-- restored lists of teams are equal if each saved team restores the teams at its position to the
-- same team
pub restored_each : (teams others : List TeamState) (saved : List SavedTeam) (d : TeamState) → length teams ≡ length saved → length others ≡ length saved
    → ((k : ℕ) → k < length saved → restored_team (get_or teams k d) (saved_at saved k) ≡ restored_team (get_or others k d) (saved_at saved k))
    → map_two restored_team teams saved ≡ map_two restored_team others saved
restored_each [] [] saved d many as_many each = refl
restored_each [] (u ∷ others) [] d many as_many each = absurd (omega (arith, as_many))
restored_each [] (u ∷ others) (t ∷ saved) d many as_many each = absurd (omega (arith, many))
restored_each (s ∷ teams) others [] d many as_many each = absurd (omega (arith, many))
restored_each (s ∷ teams) [] (t ∷ saved) d many as_many each = absurd (omega (arith, as_many))
restored_each (s ∷ teams) (u ∷ others) (t ∷ saved) d many as_many each =
    ap (λ (x : TeamState). x ∷ map_two restored_team teams saved) (each zero (omega arith))
    ∙ ap (λ (xs : List TeamState). restored_team u t ∷ xs)
    (restored_each teams others saved d (omega (arith, many)) (omega (arith, as_many)) (λ k less. each (suc k) (omega (arith, less))))

-- the last saved team, and the others
pub last_due : (limits : Limits) (teams : List TeamState) (rest : List SavedTeam) (t : SavedTeam) (d : TeamState) → length rest < length teams
    → MatchDesign limits (take (length rest + 1) teams) (rest ++ t ∷ [])
    → IsSavedTeamOf limits (named_team [] (get_or teams (length rest) d)) t × MatchDesign limits (take (length rest) teams) rest
last_due limits [] rest t d less due = absurd (omega (arith, less))
last_due limits (s ∷ teams) [] t d less due = (due.0, tt)
last_due limits (s ∷ teams) (r ∷ rest) t d less due =
    let more : suc (length rest) + 1 ≡ suc (suc (length rest)) = omega arith in
    let one : length rest + 1 ≡ suc (length rest) = omega arith in
    let both : MatchDesign limits (s ∷ take (suc (length rest)) teams) (r ∷ (rest ++ t ∷ [])) =
    subst (λ (n : ℕ). MatchDesign limits (take n (s ∷ teams)) (r ∷ (rest ++ t ∷ []))) more due in
    let others = last_due limits teams rest t d (omega (arith, less)) (subst (λ (n : ℕ). MatchDesign limits (take n teams) (rest ++ t ∷ [])) (sym one) both.1) in
    (others.0, (both.0, others.1))

-- the last saved team is restored, and then the others
pub last_restored : (teams : List TeamState) (rest : List SavedTeam) (t : SavedTeam) (d : TeamState) → length rest < length teams
    → let after = set teams (length rest) (restored_team (get_or teams (length rest) d) t) in
    map_two restored_team after rest ++ drop (length rest) after ≡ map_two restored_team teams (rest ++ t ∷ []) ++ drop (length rest + 1) teams
last_restored [] rest t d less = absurd (omega (arith, less))
last_restored (s ∷ []) [] t d less = refl
last_restored (s ∷ u ∷ teams) [] t d less = refl
last_restored (s ∷ teams) (r ∷ rest) t d less =
    let more : suc (length rest) + 1 ≡ suc (length rest + 1) = omega arith in
    ap (λ (l : List TeamState). restored_team s r ∷ l) (last_restored teams rest t d (omega (arith, less)))
    ∙ ap (λ (n : ℕ). (restored_team s r ∷ map_two restored_team teams (rest ++ t ∷ [])) ++ drop n (s ∷ teams)) (sym more)

-- ---- the design

teams_fixed : (limits : Limits) (teams : List TeamState) (saved : List SavedTeam) → MatchDesign limits teams saved
    → map fixed_cells (map_two restored_team teams saved) ≡ map fixed_cells teams
teams_fixed limits [] saved due = refl
teams_fixed limits (s ∷ teams) [] due = absurd due
teams_fixed limits (s ∷ teams) (t ∷ saved) due =
    ap (λ (fs : List (List ℕ × ℕ)). fs ∷ map fixed_cells (map_two restored_team teams saved))
    (cells_fixed s.cells t.cells (due.0.cells ∙ length-map s.cells (λ (c : Cell). c.name)))
    ∙ ap (λ (l : List (List (List ℕ × ℕ))). fixed_cells s ∷ l) (teams_fixed limits teams saved due.1)

-- a restored floor has the design
pub still_of_design : (begin : FloorState) (saved : List SavedTeam) → MatchDesign begin.frame.limits begin.teams saved → ShareDesign begin (restored_floor begin saved)
still_of_design begin saved due = record { frame = refl; components = refl; cells = teams_fixed begin.frame.limits begin.teams saved due }
