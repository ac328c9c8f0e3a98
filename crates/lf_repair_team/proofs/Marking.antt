-- The cells of a team at the start of its repair: flags for those that are legal.
use Rattle.std.proofs.Common.{◌≡◌, ◌≢◌, ⊎_elim, ℕ, ◌+◌, ◌<◌, List, [], ◌∷◌, ◌++◌, length, map, Bool, true, Some, None, ap, sym, ◌∙◌, subst, arith}
use Rattle.std.specs.Prelude.{◌≤◌, slice_get}
use Rattle.std.proofs.lemmas.Bool.{cases_eq, cases_lt}
use Rattle.std.proofs.lemmas.Option.{slice_get_past}
use Rattle.lf_rules.specs.Team.{IsLegalCell}
use Rattle.lf_cells.specs.declared.cell.CellId.{CellId}
use Rattle.lf_cells.specs.Cells.{id_of}
use Rattle.lf_legalize.specs.Members.{member_of}
use Rattle.lf_floor_model.specs.States.{FloorState, TeamState}
use Rattle.lf_floor_model.specs.Teams.{state_of, team_number}
use Rattle.lf_floor_model.proofs.LegalPlaces.{some_one}
use Rattle.lf_repair_team.specs.CellEdits.{AreLegalFlags, AddsLegalFlag}
use Rattle.lf_repair_team.specs.TeamRepairs.{IsLegalIn}
use Rattle.lf_repair_team.proofs.Legal.{state_there, reported_legal}
use Rattle.lf_repair_strategy.proofs.Lists.{before_last, last_is, one_longer}

-- the first `count` flags are right
pub record AreMarkedTo (team : List ℕ) (floor : FloorState) (count : ℕ) (marks : List Bool) : Type 0 where
  pub many : length marks ≡ count
  pub are : (own : ℕ) → own < count → IsLegalIn floor team own → slice_get marks own ≡ Some true
  pub only : (s : TeamState) → state_of floor team ≡ Some s → (own : ℕ) → slice_get marks own ≡ Some true → IsLegalIn floor team own

no_mark : None ≡ Some true → ⊥
no_mark e = cc

pub none_marked : (team : List ℕ) (floor : FloorState) (marks : List Bool) → marks ≡ [] → AreMarkedTo team floor 0 marks
none_marked team floor marks none = record {
  many = ap (λ (xs : List Bool). length xs) none;
  are = λ own within legal. absurd (omega (arith, within));
  only = λ s there own is. absurd (no_mark (sym (ap (λ (xs : List Bool). slice_get xs own) none) ∙ is));
}

pub one_more_marked : (team : List ℕ) (floor : FloorState) (number own : ℕ) (old new : List Bool) → team_number floor.frame team ≡ Some number
    → ((s : TeamState) → state_of floor team ≡ Some s → own < length s.cells)
    → AreMarkedTo team floor own old → AddsLegalFlag floor number own old new → AreMarkedTo team floor (own + 1) new
one_more_marked team floor number own old new named short marked more = record {
  many = ap (λ (xs : List Bool). length xs) more.more ∙ one_longer old more.mark ∙ ap (λ (n : ℕ). n + 1) marked.many;
  are = λ k within legal. ⊎_elim (λ (same : k ≡ own). here k same legal) (λ (differ : k ≢ own). before k (omega (arith, within, differ)) legal) (cases_eq k own);
  only = only;
} where
  by_more : (k : ℕ) → slice_get new k ≡ slice_get (old ++ more.mark ∷ []) k
  by_more k = ap (λ (xs : List Bool). slice_get xs k) more.more

  only : (s : TeamState) → state_of floor team ≡ Some s → (k : ℕ) → slice_get new k ≡ Some true → IsLegalIn floor team k
  only s there k is = ⊎_elim earlier others (cases_lt k own) where
    earlier : k < own → IsLegalIn floor team k
    earlier less = marked.only s there k (sym (before_last old more.mark k (omega (arith, less, marked.many))) ∙ sym (by_more k) ∙ is)

    others : own ≤ k → IsLegalIn floor team k
    others least = ⊎_elim last past (cases_eq k own) where
      last : k ≡ own → IsLegalIn floor team k
      last same =
          let mark : more.mark ≡ true =
          some_one (sym (last_is old more.mark) ∙ ap (λ (j : ℕ). slice_get (old ++ more.mark ∷ []) j) (marked.many ∙ sym same) ∙ sym (by_more k) ∙ is) in
          subst (λ (j : ℕ). IsLegalIn floor team j) (sym same)
          (reported_legal team floor number own s named there (short s there) (more.legal s (state_there floor team number s named there) mark))

      past : k ≢ own → IsLegalIn floor team k
      past differ =
          let many : length (old ++ more.mark ∷ []) ≡ own + 1 = one_longer old more.mark ∙ ap (λ (n : ℕ). n + 1) marked.many in
          absurd (no_mark (sym (slice_get_past (old ++ more.mark ∷ []) k (omega (arith, many, least, differ))) ∙ sym (by_more k) ∙ is))

  here : (k : ℕ) → k ≡ own → IsLegalIn floor team k → slice_get new k ≡ Some true
  here k same legal =
      let is : legal.number ≡ number = some_one (sym legal.named ∙ named) in
      let legal' : IsLegalCell floor.frame number legal.state.padding (map member_of legal.state.cells) own =
      subst (λ (n : ℕ). IsLegalCell floor.frame n legal.state.padding (map member_of legal.state.cells) own) is
      (subst (λ (j : ℕ). IsLegalCell floor.frame legal.number legal.state.padding (map member_of legal.state.cells) j) same legal.legal) in
      let mark : more.mark ≡ true = more.reported legal.state (state_there floor team number legal.state named legal.there)
      (subst (λ (j : ℕ). j < length legal.state.cells) same legal.within) legal' in
      ap (λ (xs : List Bool). slice_get xs k) more.more ∙ ap (λ (j : ℕ). slice_get (old ++ more.mark ∷ []) j) (same ∙ sym marked.many) ∙ last_is old more.mark
      ∙ ap (λ (b : Bool). Some b) mark

  before : (k : ℕ) → k < own → IsLegalIn floor team k → slice_get new k ≡ Some true
  before k less legal = ap (λ (xs : List Bool). slice_get xs k) more.more ∙ before_last old more.mark k (omega (arith, less, marked.many)) ∙ marked.are k less legal

-- all cells have their flags
pub all_marked : (team : List ℕ) (floor : FloorState) (number count : ℕ) (marks : List Bool) → team_number floor.frame team ≡ Some number
    → ((s : TeamState) → slice_get floor.teams number ≡ Some s → length s.cells ≤ count)
    → AreMarkedTo team floor count marks → AreLegalFlags team floor marks
all_marked team floor number count marks named many marked = record {
  legal = λ own legal. marked.are own (omega (arith, legal.within, many legal.state (state_there floor team number legal.state named legal.there))) legal;
  only = marked.only;
}

pub marked_at : (team : List ℕ) (floor : FloorState) (number k : ℕ) (id : CellId) (old new : List Bool) → id ≡ id_of number k → team_number floor.frame team ≡ Some number
    → ((s : TeamState) → state_of floor team ≡ Some s → k < length s.cells)
    → AreMarkedTo team floor k old → AddsLegalFlag floor number id.own old new → AreMarkedTo team floor (k + 1) new
marked_at team floor number k id old new is named short so_far more =
    one_more_marked team floor number k old new named short so_far (subst (λ (i : CellId). AddsLegalFlag floor number i.own old new) is more)
