-- Which lines change the floor.
use Rattle.std.proofs.Common.{◌≡◌, ℕ, Bool, true, false, List, ◌⊎◌, inl, inr, refl, sym, ap, ◌∙◌}
use Rattle.lf_hub_clients.specs.declared.client.Access.{Access}
use Rattle.lf_hub_clients.specs.declared.client.Access.TheVariants.{Changes, Queries}
use Rattle.lf_hub_clients.specs.declared.floor.Outcome.{Outcome}
use Rattle.lf_hub_clients.specs.Turns.{Turn, FloorAnswers, IsRefused, IsAnswered, is_change}

module _ {S : Type 0} (answers : ℕ → List ℕ → S → List ℕ → Outcome → S → Type 0) (shows : ℕ → List ℕ → S → List ℕ → Type 0) where
  floor-keeps : (a : Access) (old new : S) (t : Turn) → FloorAnswers answers shows a old t new → is_change t.outcome ≡ false → new ≡ old
  floor-keeps Changes old new t f quiet = f.1 quiet
  floor-keeps Queries old new t f quiet = f.2

  pub others-keep : (old : S) (t : Turn) (new : S) → IsAnswered answers shows old t new → is_change t.outcome ≡ false → new ≡ old
  others-keep old t new is quiet = elim is as (λ _. new ≡ old) [ inl f ↦ floor-keeps t.access old new t f quiet | inr r ↦ r.2 ]

  query-floor : (a : Access) (old new : S) (t : Turn) → a ≡ Queries → FloorAnswers answers shows a old t new → (is_change t.outcome ≡ false) × (new ≡ old)
  query-floor Queries old new t only f = (ap is_change f.1, f.2)
  query-floor Changes old new t only f = absurd (cc)

  query-both : (old new : S) (t : Turn) → t.access ≡ Queries → IsAnswered answers shows old t new → (is_change t.outcome ≡ false) × (new ≡ old)
  query-both old new t only is = elim is as (λ _. (is_change t.outcome ≡ false) × (new ≡ old)) [ inl f ↦ query-floor t.access old new t only f | inr r ↦ (ap is_change r.1, r.2) ]

  pub query-keeps : (old new : S) (t : Turn) → t.access ≡ Queries → IsAnswered answers shows old t new → new ≡ old
  query-keeps old new t only is = (query-both old new t only is).1

  pub query-is-no-change : (old new : S) (t : Turn) → t.access ≡ Queries → IsAnswered answers shows old t new → is_change t.outcome ≡ false
  query-is-no-change old new t only is = (query-both old new t only is).0
