-- Lists of values that have a span, by their spans.
use Rattle.std.proofs.Common.{◌≡◌, ℕ, ◌+◌, ◌<◌, ◌≤◌, List, length, get_or, map, sym, ◌∙◌, ap, subst, arith}
use Rattle.std.proofs.lemmas.List.{get_or-map, length-map}
use Rattle.lf_units.specs.declared.span.Span.{Span}
use Rattle.lf_units.specs.Spans.{IsFilled, IsFree, IsInOrder}
use Rattle.lf_units.specs.Steps.{AddsFilled, IsBefore, IsAfter}
use Rattle.lf_units.proofs.Frees.{Frees, frees_end, frees_more, frees_skip}

pub entry_at : {X : Type 0} (span : X → Span) (xs : List X) (k : ℕ) (x : X) (s : Span) → k < length xs → x ≡ get_or xs k x → s ≡ span x →
    get_or (map span xs) k s ≡ s
entry_at span xs k x s within is e = get_or-map span xs k x s within ∙ ap span (sym is) ∙ sym e

pub skips : {X : Type 0} (span : X → Span) (xs : List X) (range : Span) (free : List Span) (rest : Span) (k : ℕ) (x : X) (s : Span) → k < length xs →
    x ≡ get_or xs k x → s ≡ span x → Frees range (map span xs) free rest k → (IsFilled s → ⊥) → Frees range (map span xs) free rest (k + 1)
skips span xs range free rest k x s within is e f empty =
    let same : get_or (map span xs) k s ≡ s = entry_at span xs k x s within is e in
    frees_skip range (map span xs) free rest k s (omega (arith, within, length-map xs span)) f (λ filled. empty (subst IsFilled same filled))

pub frees_on : {X : Type 0} (span : X → Span) (xs : List X) (range : Span) (free new : List Span) (rest next z : Span) (k : ℕ) (x : X) (s : Span) →
    IsInOrder (map span xs) → k < length xs → x ≡ get_or xs k x → s ≡ span x → Frees range (map span xs) free rest k → IsFilled s → IsBefore rest s z →
    IsAfter rest s next → AddsFilled z free new → Frees range (map span xs) new next (k + 1)
frees_on span xs range free new rest next z k x s ordered within is e f filled before after_it adds =
    let same : s ≡ get_or (map span xs) k s = sym (entry_at span xs k x s within is e) in
    frees_more range (map span xs) free new rest next z k s ordered (omega (arith, within, length-map xs span)) f (subst IsFilled same filled)
    (subst (λ (u : Span). IsBefore rest u z) same before) (subst (λ (u : Span). IsAfter rest u next) same after_it) adds

pub frees_all : {X : Type 0} (span : X → Span) (xs : List X) (range : Span) (free new : List Span) (rest : Span) (k : ℕ) → length xs ≤ k →
    Frees range (map span xs) free rest k → AddsFilled rest free new → IsFree range (map span xs) new
frees_all span xs range free new rest k all f adds = frees_end range (map span xs) free new rest k (omega (arith, all, length-map xs span)) f adds
