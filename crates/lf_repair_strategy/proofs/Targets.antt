-- The places of the cells of a team, one after the other.
use Rattle.std.proofs.Common.{◌≡◌, ◌≢◌, ◌⊎◌, inl, inr, ⊎_elim, ℕ, ◌+◌, ◌<◌, List, [], ◌∷◌, ◌++◌, length, get_or, Option, Some, None, ap, sym, ◌∙◌, arith}
use Rattle.std.specs.Prelude.{◌≤◌, slice_get, option_and_then}
use Rattle.std.proofs.lemmas.Bool.{cases_eq}
use Rattle.std.proofs.lemmas.Option.{slice_get_cases}
use Rattle.lf_floorplan.specs.declared.place.Place.{Place}
use Rattle.lf_cells.specs.declared.cell.Cell.{Cell}
use Rattle.lf_cells.specs.Cells.{working_at}
use Rattle.lf_repair_strategy.specs.Targets.{AreWorkingPlaces, target_at}
use Rattle.lf_repair_strategy.proofs.Lists.{before_last, last_is, one_longer}

-- the first `count` places are those of the cells
pub record AreTargetsTo (cells : List Cell) (count : ℕ) (targets : List (Option Place)) : Type 0 where
  pub many : length targets ≡ count
  pub are : (own : ℕ) → own < count → target_at targets own ≡ working_at cells own

pub none_target : (cells : List Cell) (targets : List (Option Place)) → targets ≡ [] → AreTargetsTo cells 0 targets
none_target cells targets none = record { many = ap (λ (xs : List (Option Place)). length xs) none; are = λ own within. absurd (omega (arith, within)) }

pub one_more_target : (cells : List Cell) (own : ℕ) (old new : List (Option Place)) (place : Option Place) → place ≡ working_at cells own → new ≡ old ++ place ∷ []
    → AreTargetsTo cells own old → AreTargetsTo cells (own + 1) new
one_more_target cells own old new place is more targets = record {
  many = ap (λ (xs : List (Option Place)). length xs) more ∙ one_longer old place ∙ ap (λ (n : ℕ). n + 1) targets.many;
  are = λ k within. ⊎_elim (λ (same : k ≡ own). here k same) (λ (differ : k ≢ own). before k (omega (arith, within, differ))) (cases_eq k own);
} where
  by : Option (Option Place) → Option Place
  by o = option_and_then (λ (wanted_place : Option Place). wanted_place) o

  here : (k : ℕ) → k ≡ own → target_at new k ≡ working_at cells k
  here k same =
      ap (λ (xs : List (Option Place)). target_at xs k) more ∙ ap (λ (j : ℕ). target_at (old ++ place ∷ []) j) (same ∙ sym targets.many) ∙ ap by (last_is old place)
      ∙ is ∙ ap (λ (j : ℕ). working_at cells j) (sym same)

  before : (k : ℕ) → k < own → target_at new k ≡ working_at cells k
  before k less = ap (λ (xs : List (Option Place)). target_at xs k) more ∙ ap by (before_last old place k (omega (arith, less, targets.many))) ∙ targets.are k less

-- all places
pub all_at_target : (cells : List Cell) (count : ℕ) (targets : List (Option Place)) → length cells ≤ count → AreTargetsTo cells count targets → AreWorkingPlaces cells targets
all_at_target cells count targets many to own = by_cases (slice_get_cases cells own).1 where
  by_cases : ((c : Cell) × (own < length cells) × (slice_get cells own ≡ Some c) × (get_or cells own c ≡ c)) ⊎ ((length cells ≤ own) × (slice_get cells own ≡ None))
      → target_at targets own ≡ working_at cells own
  by_cases (inl (c, within, is, read)) = to.are own (omega (arith, within, many))
  by_cases (inr (past, none)) = after_it (slice_get_cases targets own).1 where
    after_it : ((p : Option Place) × (own < length targets) × (slice_get targets own ≡ Some p) × (get_or targets own p ≡ p)) ⊎ ((length targets ≤ own) × (slice_get targets own ≡ None))
        → target_at targets own ≡ working_at cells own
    after_it (inl (p, within, is, read)) = to.are own (omega (arith, within, to.many))
    after_it (inr (past, nothing)) =
        ap (λ (o : Option (Option Place)). option_and_then (λ (wanted_place : Option Place). wanted_place) o) nothing
        ∙ sym (ap (λ (o : Option Cell). option_and_then (λ (c : Cell). c.working) o) none)
