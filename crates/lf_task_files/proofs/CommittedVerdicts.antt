-- Whether the committed places of each team are legal, by the verdicts of its listed cells.
use Rattle.std.proofs.Common.{◌≡◌, ◌⊎◌, inl, inr, ℕ, zero, suc, ◌+◌, ◌<◌, List, [], ◌∷◌, length, map, Option, Some, refl, ap, sym, ◌∙◌, subst, arith}
use Rattle.std.specs.Prelude.{◌↔◌, ◌≤◌, All, Bool, IfOk, IsTrue, Result, count_by, is_none, is_some, option_and_then, option_map, slice_get}
use Rattle.std.specs.declared.alloc.AllocError.{AllocError}
use Rattle.std.specs.Borrow.{Bor}
use Rattle.std.proofs.lemmas.Option.{slice_get_within}
use Rattle.std.proofs.lemmas.Result.{IfOk-weaker}
use Rattle.std.proofs.lemmas.List.Elements.{All-cons, All-nil, All-head, All-tail}
use Rattle.lf_floorplan.specs.declared.frame.Frame.{Frame}
use Rattle.lf_floorplan.specs.Bounds.{IsDesignName}
use Rattle.lf_rules.specs.declared.report_types.Listed.{Listed}
use Rattle.lf_rules.specs.declared.report_types.Violation.{Violation}
use Rattle.lf_rules.specs.declared.rule.Broken.{Broken}
use Rattle.lf_rules.specs.FullyLegal.{IsFullyLegal, DesignCell, design_cells_from, with_team}
use Rattle.lf_rules.specs.Legalizer.{Legalizer}
use Rattle.lf_rules.specs.Team.{Member, IsLegalCell}
use Rattle.lf_rules.specs.Choice.{spot_of}
use Rattle.lf_rules.proofs.DesignLemmas.{teams_legal}
use Rattle.lf_reports.specs.Reports.{AreVerdicts, IsListed, with_byte_name, design_cell_of, violations_in}
use Rattle.lf_reports.proofs.CleanLemmas.{all_named, clean_is_legal}
use Rattle.lf_reports.proofs.LegalVerdicts.{illegal_are}
use Rattle.lf_floorplan.specs.declared.place.Place.{Place}
use Rattle.lf_cells.specs.declared.cell.Cell.{Cell}
use Rattle.lf_cells.specs.declared.cell.CellId.{CellId}
use Rattle.lf_cells.specs.Cells.{Cells, cells_of, committed_at, id_of, working_at}
use Rattle.lf_legalize.specs.Members.{IsSizedCell, member_of}
use Rattle.lf_floor_model.specs.Committed.{AreCommittedLegal, committed_member, committed_members}
use Rattle.lf_floor_model.specs.States.{TeamState}
use Rattle.lf_floor_model.proofs.Parts.{legal_teams}
use Rattle.lf_floor_model.proofs.LegalPlaces.{some_one}
use Rattle.lf_task_files.specs.CommittedLegality.{AreAllLegal, committed_listed}

-- ---- the cells of a list

length_none : {Y : Type 0} (ys : List Y) → length ys ≡ 0 → ys ≡ []
length_none [] e = refl
length_none (y ∷ ys) e = absurd cc

-- The listed cells make a fully legal design if and only if no cell is unplaced and no verdict
-- names a broken rule.
pub legal_list : (l : Legalizer) (f : Frame) (cells : List (Listed (Bor (List ℕ)))) (verdicts : List (Option Broken))
    → All (λ c. IsListed f (with_byte_name c)) cells → AreVerdicts l f 0 (map with_byte_name cells) verdicts
    → ((count_by (λ c. is_none c.place) (map with_byte_name cells) ≡ 0) × (count_by is_some verdicts ≡ 0)) ↔ IsFullyLegal f (map design_cell_of (map with_byte_name cells))
legal_list l f cells verdicts known are =
    let listed = map with_byte_name cells in
    let illegal = illegal_are l f listed verdicts are in
    let law = clean_is_legal l f listed (all_named f cells known) in (
      λ none. law.0 (record { all_placed = none.0; none_broken = length_none (violations_in l f 0 listed) (sym illegal ∙ none.1) }),
      λ legal. (
        (law.1 legal).all_placed,
        illegal ∙ ap (λ (violations : List Violation). length violations) (law.1 legal).none_broken,
      ),
    )

-- ---- one team alone

-- A team after this number of teams without cells.
abbrev padded : ℕ → List Member → List (List Member)
padded zero members = members ∷ []
padded (suc before) members = [] ∷ padded before members

padded_cells : (before number : ℕ) (members : List Member) → design_cells_from number (padded before members) ≡ with_team (number + before) members []
padded_cells zero number members =
    let same : number ≡ number + 0 = omega arith in ap (λ (n : ℕ). with_team n members []) same
padded_cells (suc before) number members =
    let same : number + 1 + before ≡ number + suc before = omega arith in
    padded_cells before (number + 1) members ∙ ap (λ (n : ℕ). with_team n members []) same

there_padded : (before : ℕ) (members : List Member) → slice_get (padded before members) before ≡ Some members
there_padded zero members = refl
there_padded (suc before) members = there_padded before members

is_padded : (before : ℕ) (members : List Member) (k : ℕ) (cells : List Member) → slice_get (padded before members) k ≡ Some cells
    → (cells ≡ []) ⊎ ((k ≡ before) × (cells ≡ members))
is_padded zero members zero cells e = inr (refl, sym (some_one e))
is_padded zero members (suc k) cells e = absurd cc
is_padded (suc before) members zero cells e = inl (sym (some_one e))
is_padded (suc before) members (suc k) cells e = elim (is_padded before members k cells e) [
  | inl none ↦ inl none
  | inr same ↦ inr (ap suc same.0, same.1)
]

none_is_placed : (f : Frame) (team own : ℕ) → IsLegalCell f team 0 [] own
none_is_placed f team own m there = absurd cc

-- A team's cells make a fully legal design by themselves if and only if each is legal at its place.
team_alone : (f : Frame) (number : ℕ) (members : List Member)
    → IsFullyLegal f (with_team number members []) ↔ ((own : ℕ) → IsLegalCell f number 0 members own)
team_alone f number members =
    let same : with_team (0 + number) members [] ≡ with_team number members [] =
    ap (λ (n : ℕ). with_team n members []) (omega arith) in
    let is : design_cells_from 0 (padded number members) ≡ with_team number members [] = padded_cells number 0 members ∙ same in (
      λ legal. legal_teams f (padded number members) (subst (λ (cs : List DesignCell). IsFullyLegal f cs) (sym is) legal) number members (there_padded number members),
      λ are_placed. subst (λ (cs : List DesignCell). IsFullyLegal f cs) is (teams_legal f (padded number members) (λ team cells there own.
          by are_placed team cells own (is_padded number members team cells there))),
    ) where
      by : ((own : ℕ) → IsLegalCell f number 0 members own) → (team : ℕ) (cells : List Member) (own : ℕ) → (cells ≡ []) ⊎ ((team ≡ number) × (cells ≡ members))
          → IsLegalCell f team 0 cells own
      by are_placed team cells own (inl none) = subst (λ (ms : List Member). IsLegalCell f team 0 ms own) (sym none) (none_is_placed f team own)
      by are_placed team cells own (inr here) =
          subst (λ (n : ℕ). IsLegalCell f n 0 cells own) (sym here.0) (subst (λ (ms : List Member). IsLegalCell f number 0 ms own) (sym here.1) (are_placed own))

committed_cells : (number : ℕ) (cells : List Cell) → map design_cell_of (map (committed_listed number) cells) ≡ with_team number (map committed_member cells) []
committed_cells number [] = refl
committed_cells number (c ∷ cells) = ap (λ (rest : List DesignCell). design_cell_of (committed_listed number c) ∷ rest) (committed_cells number cells)

-- A team's cells, listed at their committed places, make a fully legal design if and only if these
-- places are legal.
pub team_checked : (f : Frame) (number : ℕ) (s : TeamState)
    → IsFullyLegal f (map design_cell_of (map (committed_listed number) s.cells)) ↔ AreCommittedLegal f number s
team_checked f number s =
    let is = committed_cells number s.cells in
    let alone = team_alone f number (committed_members s) in (
      λ legal. alone.0 (subst (λ (cs : List DesignCell). IsFullyLegal f cs) is legal),
      λ are_placed. subst (λ (cs : List DesignCell). IsFullyLegal f cs) (sym is) (alone.1 are_placed),
    )

-- ---- cells that are listed

-- The cells of a team of the frame are listed as reports need them.
pub committed_known : (f : Frame) (number : ℕ) (cells : List Cell) → All (λ c. IsSizedCell f c) cells → All (λ c. IsDesignName c.name) cells
    → All (IsListed f) (map (committed_listed number) cells)
committed_known f number [] sized printed = All-nil (IsListed f)
committed_known f number (c ∷ cells) sized printed =
    let size = All-head (λ (x : Cell). IsSizedCell f x) c cells sized in
    let name = All-head (λ (x : Cell). IsDesignName x.name) c cells printed in
    All-cons (IsListed f) (committed_listed number c) (map (committed_listed number) cells)
    (record { known = size.known; sized = size.sized; printed = name })
    (committed_known f number cells (All-tail (λ (x : Cell). IsSizedCell f x) c cells sized) (All-tail (λ (x : Cell). IsDesignName x.name) c cells printed))

-- The result for the listed cells of a team holds for its committed places.
pub checked_as : (f g : Frame) (number : ℕ) (s : TeamState) (cells : List (Listed (List ℕ))) (r : Result Bool AllocError) → g ≡ f
    → cells ≡ map (committed_listed number) s.cells → IfOk r (λ legal. IsTrue legal ↔ IsFullyLegal g (map design_cell_of cells))
    → IfOk r (λ legal. IsTrue legal ↔ AreCommittedLegal f number s)
checked_as f g number s cells r frame are found =
    IfOk-weaker r (λ legal. IsTrue legal ↔ IsFullyLegal g (map design_cell_of cells)) (λ legal. IsTrue legal ↔ AreCommittedLegal f number s) (λ legal is.
    let same : IsTrue legal ↔ IsFullyLegal f (map design_cell_of (map (committed_listed number) s.cells)) =
    subst (λ (h : Frame). IsTrue legal ↔ IsFullyLegal h (map design_cell_of (map (committed_listed number) s.cells))) frame
    (subst (λ (cs : List (Listed (List ℕ))). IsTrue legal ↔ IsFullyLegal g (map design_cell_of cs)) are is) in
    let committed_checked = team_checked f number s in (λ yes. committed_checked.0 (same.0 yes), λ legal_there. same.1 (committed_checked.1 legal_there)))
    found

pub there_is : {X : Type 0} (xs : List X) (k : ℕ) → k < length xs → (x : X) × (slice_get xs k ≡ Some x)
there_is [] k less = absurd (omega (arith, less))
there_is (x ∷ xs) zero less = (x, refl)
there_is (x ∷ xs) (suc k) less = there_is xs k (omega (arith, less))

-- ---- cells that work at their committed places

-- Cells with the same working and committed places are the same to the rules.
pub same_members : (cells : List Cell) → ((k : ℕ) (c : Cell) → slice_get cells k ≡ Some c → c.working ≡ c.committed)
    → map member_of cells ≡ map committed_member cells
same_members [] same = refl
same_members (c ∷ cells) same =
    let first : member_of c ≡ committed_member c =
    ap (λ (p : Option Place). let m : Member = record { mac = c.mac; place = option_map spot_of p } in m) (same 0 c refl) in
    ap (λ (m : Member). m ∷ map member_of cells) first
    ∙ ap (λ (ms : List Member). committed_member c ∷ ms) (same_members cells (λ k d there. same (suc k) d there))

-- One more cell works at its committed place.
pub same_so_far : (cells : List Cell) (n : ℕ) → ((k : ℕ) (c : Cell) → k < n → slice_get cells k ≡ Some c → c.working ≡ c.committed)
    → working_at cells n ≡ committed_at cells n → (k : ℕ) (c : Cell) → k < n + 1 → slice_get cells k ≡ Some c → c.working ≡ c.committed
same_so_far cells n before here k c less there = elim two [
  | inl below ↦ before k c below there
  | inr same ↦
      let at : slice_get cells n ≡ Some c = subst (λ (i : ℕ). slice_get cells i ≡ Some c) same there in
      ap (λ (o : Option Cell). option_and_then (λ x. x.working) o) (sym at) ∙ here ∙ ap (λ (o : Option Cell). option_and_then (λ x. x.committed) o) at
]
  where
    two : (k < n) ⊎ (k ≡ n)
    two = grind arith

-- One more cell is legal.
pub legal_so_far : (f : Frame) (team : ℕ) (cells : List Member) (n : ℕ) → ((own : ℕ) → own < n → IsLegalCell f team 0 cells own)
    → IsLegalCell f team 0 cells n → (own : ℕ) → own < n + 1 → IsLegalCell f team 0 cells own
legal_so_far f team cells n before here own less = elim two [
  | inl below ↦ before own below
  | inr same ↦ subst (λ (i : ℕ). IsLegalCell f team 0 cells i) (sym same) here
]
  where
    two : (own < n) ⊎ (own ≡ n)
    two = grind arith

-- The cell with this id is legal.
pub legal_at : (f : Frame) (table : Cells) (team k n : ℕ) (i : CellId) → i ≡ id_of team k → n ≡ 0
    → IsLegalCell f i.team n (map member_of (cells_of table i.team)) i.own → IsLegalCell f team 0 (map member_of (cells_of table team)) k
legal_at f table team k n i id none legal =
    subst (λ (m : ℕ). IsLegalCell f team m (map member_of (cells_of table team)) k) none
    (subst (λ (j : CellId). IsLegalCell f j.team n (map member_of (cells_of table j.team)) j.own) id legal)

-- What follows if the cell with this id is legal.
pub follows_at : (f : Frame) (table : Cells) (team k n : ℕ) (i : CellId) (Then : Type 0) → i ≡ id_of team k → n ≡ 0
    → (i.own < length (cells_of table i.team) → IsLegalCell f i.team n (map member_of (cells_of table i.team)) i.own → Then)
    → k < length (cells_of table team) → IsLegalCell f team 0 (map member_of (cells_of table team)) k → Then
follows_at f table team k n i Then id none follows within legal =
    follows (subst (λ (j : CellId). j.own < length (cells_of table j.team)) (sym id) within)
    (subst (λ (j : CellId). IsLegalCell f j.team n (map member_of (cells_of table j.team)) j.own) (sym id)
    (subst (λ (m : ℕ). IsLegalCell f team m (map member_of (cells_of table team)) k) (sym none) legal))

-- All cells are legal, since each in the list is.
pub legal_within : (f : Frame) (team : ℕ) (cells : List Member) (n : ℕ) → length cells ≤ n → ((own : ℕ) → own < n → IsLegalCell f team 0 cells own)
    → AreAllLegal f team cells
legal_within f team cells n long each own m there =
    let within = slice_get_within cells own m there in
    each own (omega (arith, long, within)) m there
