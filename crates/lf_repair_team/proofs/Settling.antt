-- The end of a pass: which cells are where they were, and which are left.
use Rattle.std.proofs.Common.{◌≡◌, ◌∙◌, ℕ, List, Bool, None, Option, Some, refl, sym}
use Rattle.std.specs.Prelude.{All, slice_get}
use Rattle.std.proofs.lemmas.List.Elements.{All-weaker}
use Rattle.lf_floorplan.specs.declared.place.Place.{Place}
use Rattle.lf_floor_model.specs.States.{FloorState, TeamState}
use Rattle.lf_floor_model.specs.Teams.{state_of, team_number}
use Rattle.lf_floor_model.proofs.LegalPlaces.{none_some}
use Rattle.lf_repair_strategy.specs.Targets.{AreWorkingPlaces}
use Rattle.lf_repair_team.proofs.OffSoft.{locked_at_start}
use Rattle.lf_repair_team.specs.CellEdits.{AreFlaggedAtTargets, AreLegalFlags, AreLockedInPlace, IsFlagged, KeepsCellsAtTargets, KeepsLegalAtTargets, KeepsLegalCells, KeepsLockedLegal, KeepsLockedPlaces, NoneIsFlagged}
use Rattle.lf_repair_team.specs.TeamRepairs.{IsIllegalIn, IsLegalIn, WasIllegal}

-- ---- legal cells at their targets

pub targets_keep_legal : (team : List ℕ) (targets : List (Option Place)) (a b : FloorState) → KeepsCellsAtTargets team targets a b → KeepsLegalAtTargets team targets a b
targets_keep_legal team targets a b stay own legal at = let here = stay own at in (here.1 legal, here.0)

pub then_legal_stay : (team : List ℕ) (targets : List (Option Place)) (a b c : FloorState) → KeepsCellsAtTargets team targets a b → KeepsLegalCells team b c
    → KeepsLegalAtTargets team targets a c
then_legal_stay team targets a b c first last own legal at =
    let one = first own at in
    let two = last own (one.1 legal) in
    (two.0, two.1 ∙ one.0)

-- ---- locked cells

-- a pass in which they do not move
pub locked_pass : (team : List ℕ) (marks : List Bool) (targets : List (Option Place)) (a b : FloorState) → KeepsLockedPlaces team marks a b → KeepsLockedLegal team marks a b
    → AreLockedInPlace team marks targets a → AreLockedInPlace team marks targets b
locked_pass team marks targets a b places legal locked own mark =
    let here = locked own mark in
    (legal own mark here.0, places own mark ∙ here.1)

-- the end of a pass
pub locked_settle : (team : List ℕ) (marks : List Bool) (targets : List (Option Place)) (a b : FloorState) → KeepsLegalAtTargets team targets a b
    → AreLockedInPlace team marks targets a → AreLockedInPlace team marks targets b
locked_settle team marks targets a b stay locked own mark =
    let here = locked own mark in
    let there = stay own here.0 here.1 in
    (there.0, there.1 ∙ here.1)

-- the cells that are in place on both floors are at the same places
pub locked_places : (team : List ℕ) (marks : List Bool) (targets : List (Option Place)) (a b : FloorState)
    → (AreLockedInPlace team marks targets a → AreLockedInPlace team marks targets b) → AreLockedInPlace team marks targets a → KeepsLockedPlaces team marks a b
locked_places team marks targets a b stay locked own mark = (stay locked own mark).1 ∙ sym (locked own mark).1

-- none of them is left
pub none_left_locked : (team : List ℕ) (marks : List Bool) (targets : List (Option Place)) (floor : FloorState) (left : List ℕ) → AreLockedInPlace team marks targets floor
    → All (λ own. IsIllegalIn floor team own) left → NoneIsFlagged marks left
none_left_locked team marks targets floor left locked illegal =
    All-weaker (λ own. IsIllegalIn floor team own) (λ own. IsFlagged marks own → ⊥) (λ own is mark. is.illegal (locked own mark).0) left illegal

-- the cells that are left were not legal at the start, where the legal ones were locked
pub were_not_legal : (team : List ℕ) (floor : FloorState) (number : ℕ) (marks : List Bool) (targets : List (Option Place)) (left : List ℕ) → team_number floor.frame team ≡ Some number
    → ((s : TeamState) → slice_get floor.teams number ≡ Some s → AreWorkingPlaces s.cells targets) → AreLegalFlags team floor marks
    → (AreLockedInPlace team marks targets floor → NoneIsFlagged marks left) → All (λ own. WasIllegal floor team own) left
were_not_legal team floor number marks targets left named are flags free = go (state_of floor team) refl where
  go : (o : Option TeamState) → state_of floor team ≡ o → All (λ own. WasIllegal floor team own) left
  go None none = λ k d within legal. none_some (sym none ∙ legal.there)
  go (Some s) there =
      All-weaker (λ own. IsFlagged marks own → ⊥) (λ own. WasIllegal floor team own) (λ own not legal. not (flags.legal own legal)) left
      (free (locked_at_start team floor number marks targets named are (flags.only s there)))

-- ---- flagged cells

pub then_unmoved : (team : List ℕ) (flags : List Bool) (targets : List (Option Place)) (a b c : FloorState) → KeepsLockedPlaces team flags a b
    → (AreFlaggedAtTargets team flags targets b → KeepsLockedPlaces team flags b c) → AreFlaggedAtTargets team flags targets a → KeepsLockedPlaces team flags a c
then_unmoved team flags targets a b c first second at own flag = second (λ k mark. first k mark ∙ at k mark) own flag ∙ first own flag

pub both_unmoved : (team : List ℕ) (flags : List Bool) (targets : List (Option Place)) (a b c : FloorState)
    → (AreFlaggedAtTargets team flags targets a → KeepsLockedPlaces team flags a b) → (AreFlaggedAtTargets team flags targets b → KeepsLockedPlaces team flags b c)
    → AreFlaggedAtTargets team flags targets a → KeepsLockedPlaces team flags a c
both_unmoved team flags targets a b c first second at = then_unmoved team flags targets a b c (first at) second at
