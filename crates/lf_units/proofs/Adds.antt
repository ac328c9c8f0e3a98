-- A list to which a span is appended if it holds a number.
use Rattle.std.proofs.Common.{◌≤ℤ◌, inl, inr, List, [], ◌∷◌, arith, subst, sym}
use Rattle.std.specs.Prelude.{All, AllPairs}
use Rattle.std.proofs.lemmas.Int.{ints}
use Rattle.std.proofs.lemmas.List.Elements.{All-push}
use Rattle.std.proofs.lemmas.List.Quantifiers.{Any-push, all_pairs_push}
use Rattle.lf_units.specs.declared.span.Span.{Span}
use Rattle.lf_units.specs.Spans.{IsFilled, IsRising}
use Rattle.lf_units.specs.Steps.{ContainsSpan, AddsFilled}
use Rattle.lf_units.proofs.Anys.{any_left}
use Rattle.lf_units.proofs.SpanEdges.{InOne}

pub adds_keeps : (z : Span) (old new : List Span) → AddsFilled z old new → (s : Span) → InOne old s → InOne new s
adds_keeps z old new (inl (filled, is)) s a = subst (λ (xs : List Span). InOne xs s) (sym is) (any_left (λ t. ContainsSpan s t) old (z ∷ []) a)
adds_keeps z old new (inr (none, is)) s a = subst (λ (xs : List Span). InOne xs s) (sym is) a

pub adds_new : (z : Span) (old new : List Span) → AddsFilled z old new → (s : Span) → IsFilled s → ContainsSpan s z → InOne new s
adds_new z old new (inl (filled, is)) s f e = subst (λ (xs : List Span). InOne xs s) (sym is) (Any-push (λ t. ContainsSpan s t) old z e)
adds_new z old new (inr (none, is)) s f e = absurd (omega (arith, ints, e.low, e.high, f, none))

pub adds_all : (P : Span → Type 0) (z : Span) (old new : List Span) → AddsFilled z old new → All P old → (IsFilled z → P z) → All P new
adds_all P z old new (inl (filled, is)) all more = subst (λ (xs : List Span). All P xs) (sym is) (All-push P old z all (more filled))
adds_all P z old new (inr (none, is)) all more = subst (λ (xs : List Span). All P xs) (sym is) all

pub adds_pairs : (R : Span → Span → Type 0) (z : Span) (old new : List Span) → AddsFilled z old new → AllPairs R old → (IsFilled z → All (λ t. R t z) old) →
    AllPairs R new
adds_pairs R z old new (inl (filled, is)) pairs more = subst (λ (xs : List Span). AllPairs R xs) (sym is) (all_pairs_push R old z pairs (more filled))
adds_pairs R z old new (inr (none, is)) pairs more = subst (λ (xs : List Span). AllPairs R xs) (sym is) pairs

pub adds_rising : (z : Span) (old new : List Span) → AddsFilled z old new → IsRising old → (IsFilled z → All (λ t. t.hi ≤ℤ z.lo) old) → IsRising new
adds_rising z old new adds r before = record {
  filled = adds_all IsFilled z old new adds r.filled (λ f. f);
  apart = adds_pairs (λ s t. s.hi ≤ℤ t.lo) z old new adds r.apart before;
}
