-- What holds for a team's cells through commands that leave them unchanged, and if all are
-- committed.
use Rattle.std.proofs.Common.{◌≡◌, ◌≢◌, ◌⊎◌, inl, inr, ℕ, ◌<◌, List, [], ◌∷◌, length, map, Option, Some, refl, ap, sym, ◌∙◌, subst}
use Rattle.std.specs.Prelude.{All, Contains, slice_get, option_and_then}
use Rattle.std.specs.Option.{option_map}
use Rattle.std.proofs.lemmas.List.Elements.{All-head, All-nil, All-same, All-weaker}
use Rattle.lf_floorplan.specs.declared.frame.Frame.{Frame}
use Rattle.lf_rules.specs.Legalizer.{Legalizer}
use Rattle.lf_rules.specs.Team.{IsLegalCell}
use Rattle.lf_cells.specs.declared.cell.Cell.{Cell}
use Rattle.lf_cells.specs.Cells.{working_at}
use Rattle.lf_legalize.specs.Members.{member_of}
use Rattle.lf_floor_model.specs.States.{FloorState, TeamState}
use Rattle.lf_floor_model.specs.Teams.{team_rules, state_of, team_number}
use Rattle.lf_floor_model.specs.Outcomes.{places_of}
use Rattle.lf_floor_model.specs.Steps.{AllCommittedIn}
use Rattle.lf_floor_model.specs.VerbLaws.{AreLegal, KeepsCells, committed_places}
use Rattle.lf_floor_model.proofs.Forms.{state_at}
use Rattle.lf_floor_model.proofs.LegalPlaces.{some_one}
use Rattle.lf_repair_team.specs.CellEdits.{KeepsCommittedPlaces, KeepsPlaces, SameCells}
use Rattle.lf_repair_team.specs.TeamRepairs.{AreLegalExcept, IsIllegalIn, IsLegalIn}

-- the state of the team with this number
pub state_there : (floor : FloorState) (team : List ℕ) (number : ℕ) (s : TeamState) → team_number floor.frame team ≡ Some number → state_of floor team ≡ Some s
    → slice_get floor.teams number ≡ Some s
state_there floor team number s named there = ap (λ (o : Option ℕ). state_at floor.teams o) (sym named) ∙ there

-- ---- through commands that leave the cells unchanged

is_placed_same : (f g : Frame) (number : ℕ) (s t : TeamState) (own : ℕ) → g ≡ f → KeepsCells s t
    → IsLegalCell f number s.padding (map member_of s.cells) own → IsLegalCell g number t.padding (map member_of t.cells) own
is_placed_same f g number s t own frame keeps legal =
    subst (λ (h : Frame). IsLegalCell h number t.padding (map member_of t.cells) own) (sym frame)
    (subst (λ (n : ℕ). IsLegalCell f number n (map member_of t.cells) own) (sym keeps.padding)
    (subst (λ (cells : List Cell). IsLegalCell f number s.padding (map member_of cells) own) (sym keeps.cells) legal))

-- a cell that is legal stays legal
pub legal_through : (team : List ℕ) (old new : FloorState) (own : ℕ) → new.frame ≡ old.frame → SameCells team old new → IsLegalIn old team own → IsLegalIn new team own
legal_through team old new own frame same legal = elim same [
  | inl state ↦ record {
    number = legal.number;
    state = legal.state;
    named = ap (λ (f : Frame). team_number f team) frame ∙ legal.named;
    there = state ∙ legal.there;
    within = legal.within;
    legal = subst (λ (f : Frame). IsLegalCell f legal.number legal.state.padding (map member_of legal.state.cells) own) (sym frame) legal.legal;
  }
  | inr has ↦
      let is : legal.state ≡ has.before = some_one (sym legal.there ∙ has.was) in
      record {
        number = legal.number;
        state = has.after;
        named = ap (λ (f : Frame). team_number f team) frame ∙ legal.named;
        there = has.is;
        within = subst (λ (cells : List Cell). own < length cells) (ap (λ (x : TeamState). x.cells) is ∙ sym has.keeps.cells) legal.within;
        legal = is_placed_same old.frame new.frame legal.number has.before has.after own frame has.keeps
            (subst (λ (x : TeamState). IsLegalCell old.frame legal.number x.padding (map member_of x.cells) own) is legal.legal);
      }
]

pub but_through : (team : List ℕ) (old new : FloorState) (left : List ℕ) → new.frame ≡ old.frame → SameCells team old new → AreLegalExcept team old left
    → AreLegalExcept team new left
but_through team old new left frame same all u there own within = go same where
  through : IsLegalIn old team own ⊎ Contains left own → IsLegalIn new team own ⊎ Contains left own
  through (inl legal) = inl (legal_through team old new own frame same legal)
  through (inr named) = inr named

  go : SameCells team old new → IsLegalIn new team own ⊎ Contains left own
  go (inl state) = through (all u (sym state ∙ there) own within)
  go (inr has) =
      let is : u ≡ has.after = some_one (sym there ∙ has.is) in
      through (all has.before has.was own (subst (λ (cells : List Cell). own < length cells) (ap (λ (x : TeamState). x.cells) is ∙ has.keeps.cells) within))

pub committed_through : (l : Legalizer) (team : List ℕ) (old new : FloorState) → new.frame ≡ old.frame → SameCells team old new → AllCommittedIn l old team
    → AllCommittedIn l new team
committed_through l team old new frame same all = elim same [
  | inl state ↦ record {
    number = all.number;
    state = all.state;
    named = ap (λ (f : Frame). team_number f team) frame ∙ all.named;
    there = state ∙ all.there;
    legal = subst (λ (f : Frame). AreLegal (team_rules l f all.number all.state.padding) all.state) (sym frame) all.legal;
    committed = all.committed;
  }
  | inr has ↦
      let s = has.before in
      let is : all.state ≡ s = some_one (sym all.there ∙ has.was) in
      let legal : AreLegal (team_rules l old.frame all.number s.padding) s = subst (λ (x : TeamState). AreLegal (team_rules l old.frame all.number x.padding) x) is all.legal in
      let committed : committed_places s ≡ places_of s.cells = subst (λ (x : TeamState). committed_places x ≡ places_of x.cells) is all.committed in
      record {
        number = all.number;
        state = has.after;
        named = ap (λ (f : Frame). team_number f team) frame ∙ all.named;
        there = has.is;
        legal = λ own. is_placed_same old.frame new.frame all.number s has.after own frame has.keeps (legal own);
        committed = ap (λ (cells : List Cell). map (λ (c : Cell). c.committed) cells) has.keeps.cells ∙ committed
            ∙ ap (λ (cells : List Cell). places_of cells) (sym has.keeps.cells);
      }
]

-- if all cells are committed, each is legal
pub committed_legal : (l : Legalizer) (team : List ℕ) (floor : FloorState) (left : List ℕ) → AllCommittedIn l floor team → AreLegalExcept team floor left
committed_legal l team floor left all s there own within =
    let is : all.state ≡ s = some_one (sym all.there ∙ there) in
    inl (record {
      number = all.number;
      state = s;
      named = all.named;
      there = there;
      within = within;
      legal = subst (λ (x : TeamState). IsLegalCell floor.frame all.number x.padding (map member_of x.cells) own) is (all.legal own);
    })

-- a cell that is not legal stays illegal
same_back : (team : List ℕ) (old new : FloorState) → SameCells team old new → SameCells team new old
same_back team old new (inl state) = inl (sym state)
same_back team old new (inr has) = inr (record {
  before = has.after;
  after = has.before;
  was = has.is;
  is = has.was;
  keeps = record { cells = sym has.keeps.cells; revision = sym has.keeps.revision; entries = sym has.keeps.entries; padding = sym has.keeps.padding };
})

pub left_through : (team : List ℕ) (old new : FloorState) (own : ℕ) → new.frame ≡ old.frame → SameCells team old new → IsIllegalIn old team own → IsIllegalIn new team own
left_through team old new own frame same left = record {
  within = λ u there. within same u there;
  illegal = λ legal. left.illegal (legal_through team new old own (sym frame) (same_back team old new same) legal);
} where
  within : SameCells team old new → (u : TeamState) → state_of new team ≡ Some u → own < length u.cells
  within (inl state) u there = left.within u (sym state ∙ there)
  within (inr has) u there =
      let is : has.after ≡ u = some_one (sym has.is ∙ there) in
      subst (λ (cells : List Cell). own < length cells) (sym has.keeps.cells ∙ ap (λ (x : TeamState). x.cells) is) (left.within has.before has.was)

pub all_left_through : (team : List ℕ) (old new : FloorState) (left : List ℕ) → new.frame ≡ old.frame → SameCells team old new
    → All (λ own. IsIllegalIn old team own) left → All (λ own. IsIllegalIn new team own) left
all_left_through team old new left frame same all =
    All-weaker (λ own. IsIllegalIn old team own) (λ own. IsIllegalIn new team own) (λ own is. left_through team old new own frame same is) left all

-- if the cells are the same, no cell moves and no committed place changes
pub same_places : (team : List ℕ) (old new : FloorState) → SameCells team old new → KeepsPlaces team old new
same_places team old new (inl state) own = ap (λ (o : Option TeamState). option_and_then (λ (s : TeamState). working_at s.cells own) o) state
same_places team old new (inr has) own =
    ap (λ (o : Option TeamState). option_and_then (λ (s : TeamState). working_at s.cells own) o) has.is
    ∙ ap (λ (cells : List Cell). working_at cells own) has.keeps.cells
    ∙ sym (ap (λ (o : Option TeamState). option_and_then (λ (s : TeamState). working_at s.cells own) o) has.was)

pub same_committed : (team : List ℕ) (old new : FloorState) → SameCells team old new → KeepsCommittedPlaces team old new
same_committed team old new (inl state) = ap (λ (o : Option TeamState). option_map committed_places o) state
same_committed team old new (inr has) =
    ap (λ (o : Option TeamState). option_map committed_places o) has.is
    ∙ ap (λ (cells : List Cell). Some (map (λ (c : Cell). c.committed) cells)) has.keeps.cells
    ∙ sym (ap (λ (o : Option TeamState). option_map committed_places o) has.was)

-- if all cells are committed, no cell is unrepaired
pub none_left : (l : Legalizer) (team : List ℕ) (floor : FloorState) (left : List ℕ) → All (λ own. IsIllegalIn floor team own) left → AllCommittedIn l floor team → left ≡ []
none_left l team floor [] all committed = refl
none_left l team floor (own ∷ others) all committed =
    let first : IsIllegalIn floor team own = All-head (λ own. IsIllegalIn floor team own) own others all in
    absurd (first.illegal (record {
      number = committed.number;
      state = committed.state;
      named = committed.named;
      there = committed.there;
      within = first.within committed.state committed.there;
      legal = committed.legal own;
    }))

-- a cell that the floor reports as legal is legal
pub reported_legal : (team : List ℕ) (floor : FloorState) (number own : ℕ) (s : TeamState) → team_number floor.frame team ≡ Some number → state_of floor team ≡ Some s
    → own < length s.cells → IsLegalCell floor.frame number s.padding (map member_of s.cells) own → IsLegalIn floor team own
reported_legal team floor number own s named there within legal =
    record { number = number; state = s; named = named; there = there; within = within; legal = legal }

-- a cell that the floor does not report as legal is not
pub legal_is_reported : (team : List ℕ) (floor : FloorState) (number own : ℕ) (Reported : Type 0) → team_number floor.frame team ≡ Some number
    → ((s : TeamState) → slice_get floor.teams number ≡ Some s → own < length s.cells → IsLegalCell floor.frame number s.padding (map member_of s.cells) own → Reported)
    → IsLegalIn floor team own → Reported
legal_is_reported team floor number own Reported named reported legal =
    let is : legal.number ≡ number = some_one (sym legal.named ∙ named) in
    reported legal.state (state_there floor team number legal.state named legal.there) legal.within
    (subst (λ (n : ℕ). IsLegalCell floor.frame n legal.state.padding (map member_of legal.state.cells) own) is legal.legal)

-- ---- a commit if no cell is unrepaired, and otherwise no command

module _ (team : List ℕ) (a b : FloorState) (given left : List ℕ) (same : given ≡ left) (kept : given ≢ [] → b ≡ a) where
  pub but_committed : (l : Legalizer) → (given ≡ [] → AllCommittedIn l b team) → AreLegalExcept team a left → AreLegalExcept team b left
  but_committed l committed before = subst (λ (xs : List ℕ). AreLegalExcept team b xs) same (go given refl) where
    go : (xs : List ℕ) → given ≡ xs → AreLegalExcept team b given
    go [] none = committed_legal l team b given (committed none)
    go (x ∷ xs) some = subst (λ (f : FloorState). AreLegalExcept team f given) (sym (kept (λ none. nil_cons (sym none ∙ some)))) (subst (λ (ys : List ℕ). AreLegalExcept team a ys) (sym same) before) where
      nil_cons : [] ≡ x ∷ xs → ⊥
      nil_cons e = cc

  pub left_committed : All (λ own. IsIllegalIn a team own) left → All (λ own. IsIllegalIn b team own) left
  left_committed before = go left refl where
    go : (xs : List ℕ) → left ≡ xs → All (λ own. IsIllegalIn b team own) left
    go [] none = All-same (λ own. IsIllegalIn b team own) left [] none (All-nil (λ own. IsIllegalIn b team own))
    go (x ∷ xs) some = subst (λ (f : FloorState). All (λ own. IsIllegalIn f team own) left) (sym (kept (λ none. nil_cons (sym none ∙ same ∙ some)))) before where
      nil_cons : [] ≡ x ∷ xs → ⊥
      nil_cons e = cc

  pub uncommitted : left ≢ [] → KeepsCommittedPlaces team a b
  uncommitted some = ap (λ (f : FloorState). option_map committed_places (state_of f team)) (kept (λ none. some (sym same ∙ none)))
