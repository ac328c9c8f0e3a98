-- Positions that are listed in lists that grow by one.
use Rattle.std.proofs.Common.{◌≡◌, ◌≢◌, ◌⊎◌, inl, inr, ⊎_elim, ℕ, ◌+◌, ◌<◌, List, [], ◌∷◌, ◌++◌, length, Option, ap, sym, ◌∙◌, subst, arith}
use Rattle.std.specs.Prelude.{All, AllPairs, Contains}
use Rattle.std.specs.Option.{unwrap_or}
use Rattle.std.proofs.lemmas.Bool.{cases_eq}
use Rattle.std.proofs.lemmas.List.Elements.{All-get_or, All-nil, All-push, All-same, All-weaker}
use Rattle.std.proofs.lemmas.List.Quantifiers.{all_pairs_push}
use Rattle.std.proofs.lemmas.Option.{get_or_from_slice_get, unwrap_or-slice_get}
use Rattle.lf_repair_strategy.proofs.Lists.{before_last, last_is, one_longer}
use Rattle.lf_repair_team.specs.CellEdits.{HoldsOrIsListed}

-- for each of the first `count` positions it is so, or it is listed
abbrev pub AreNamedTo : (ℕ → Type 0) → ℕ → List ℕ → Type 0
AreNamedTo So count named = (own : ℕ) → own < count → So own ⊎ Contains named own

pub none_named : (So : ℕ → Type 0) (named : List ℕ) → AreNamedTo So 0 named
none_named So named own within = absurd (omega (arith, within))

pub at_last : (xs : List ℕ) (x : ℕ) → Contains (xs ++ x ∷ []) x
at_last xs x = (length xs, omega (arith, one_longer xs x), get_or_from_slice_get (xs ++ x ∷ []) (length xs) x x (last_is xs x))

pub still_in : (xs : List ℕ) (x y : ℕ) → Contains xs y → Contains (xs ++ x ∷ []) y
still_in xs x y (k, within, is) = (
  k,
  omega (arith, within, one_longer xs x),
  sym (unwrap_or-slice_get (xs ++ x ∷ []) k y) ∙ ap (λ (o : Option ℕ). unwrap_or o y) (before_last xs x k within) ∙ unwrap_or-slice_get xs k y ∙ is,
)

pub one_more_named : (So : ℕ → Type 0) (Not : Type 0) (own : ℕ) (old new : List ℕ) → AreNamedTo So own old → HoldsOrIsListed (So own) Not own old new
    → AreNamedTo So (own + 1) new
one_more_named So Not own old new so_far (inl (same, is)) k within =
    subst (λ (xs : List ℕ). So k ⊎ Contains xs k) (sym same)
    (⊎_elim (λ (here : k ≡ own). inl (subst So (sym here) is)) (λ (differ : k ≢ own). so_far k (omega (arith, within, differ))) (cases_eq k own))
one_more_named So Not own old new so_far (inr (more, not)) k within =
    subst (λ (xs : List ℕ). So k ⊎ Contains xs k) (sym more)
    (⊎_elim (λ (here : k ≡ own). inr (subst (λ (j : ℕ). Contains (old ++ own ∷ []) j) (sym here) (at_last old own)))
    (λ (differ : k ≢ own). grown (so_far k (omega (arith, within, differ)))) (cases_eq k own))
  where
    grown : So k ⊎ Contains old k → So k ⊎ Contains (old ++ own ∷ []) k
    grown (inl is) = inl is
    grown (inr named) = inr (still_in old own k named)

-- each listed position has the property
pub one_more_not : (Such : ℕ → Type 0) (So Not : Type 0) (own : ℕ) (old new : List ℕ) → (Not → Such own) → All Such old → HoldsOrIsListed So Not own old new → All Such new
one_more_not Such So Not own old new such so_far (inl (same, is)) = All-same Such new old same so_far
one_more_not Such So Not own old new such so_far (inr (more, not)) = All-same Such new (old ++ own ∷ []) more (All-push Such old own so_far (such not))

-- the list rises, and its positions are below this one
pub record RisesTo (count : ℕ) (named : List ℕ) : Type 0 where
  pub rise : AllPairs (λ own later. own < later) named
  pub below : All (λ own. own < count) named

pub none_rise : (named : List ℕ) → named ≡ [] → RisesTo 0 named
none_rise named none = record {
  rise = subst (λ (xs : List ℕ). AllPairs (λ own later. own < later) xs) (sym none) (λ i j d less within. absurd (omega (arith, within)));
  below = All-same (λ own. own < 0) named [] none (All-nil (λ own. own < 0));
}

pub one_more_rises : (So Not : Type 0) (own : ℕ) (old new : List ℕ) → RisesTo own old → HoldsOrIsListed So Not own old new → RisesTo (own + 1) new
one_more_rises So Not own old new so_far listed = elim listed [
  | inl same ↦ record {
    rise = subst (λ (xs : List ℕ). AllPairs (λ own later. own < later) xs) (sym same.0) so_far.rise;
    below = All-same (λ k. k < own + 1) new old same.0 wider;
  }
  | inr more ↦ record {
    rise = subst (λ (xs : List ℕ). AllPairs (λ own later. own < later) xs) (sym more.0)
        (all_pairs_push (λ own later. own < later) old own so_far.rise (λ k d within. All-get_or (λ k. k < own) old k d within so_far.below));
    below = All-same (λ k. k < own + 1) new (old ++ own ∷ []) more.0 (All-push (λ k. k < own + 1) old own wider (omega arith));
  }
] where
  wider : All (λ k. k < own + 1) old
  wider = All-weaker (λ k. k < own) (λ k. k < own + 1) (λ k less. omega (arith, less)) old so_far.below
