use Rattle.std.proofs.Common.{◌≡◌, ◌⊎◌, ℕ, ◌<◌, List, length, get_or, take, Option, Some, None, inl, inr, refl, sym, ◌∙◌, ap, subst, arith}
use Rattle.std.specs.Prelude.{slice_get, MatchOption, ◌≢◌}
use Rattle.std.proofs.lemmas.Option.{slice_get_within, get_or_from_slice_get}
use Rattle.lf_units.specs.declared.geometry.Rect.{Rect}
use Rattle.lf_rules.specs.declared.rule.Rule.{Rule}
use Rattle.lf_rules.specs.declared.rule.Rule.TheVariants.{Overlap}
use Rattle.lf_rules.specs.declared.rule.Broken.{Broken}
use Rattle.lf_units.specs.Area.{SharesPoint}
use Rattle.std.proofs.lemmas.Grind.{common_steps}
use Rattle.lf_units.specs.declared.placed.Placed.{Placed}
use Rattle.lf_rules.specs.Legality.{IsFirstOverlapping, Candidate, IsFirstBroken, number_of, padded_box}
use Rattle.lf_rules.specs.Legalizer.{IsVerdict}
use Rattle.lf_rules.proofs.LegalParts.{rule_same}
use Rattle.lf_rules.proofs.laws.verdict_is_unique.Goals as goal

rule_one : (t : Candidate) (a b : Broken) → IsFirstBroken t a → IsFirstBroken t b → number_of a.rule ≡ number_of b.rule
rule_one t a b p q = elim order [
  | inl less ↦ absurd (p.broken (q.lesser a.rule less))
  | inr rest ↦ elim rest [ inl same ↦ same | inr more ↦ absurd (q.broken (p.lesser b.rule more)) ]
]
  where
    order : (number_of a.rule < number_of b.rule) ⊎ ((number_of a.rule ≡ number_of b.rule) ⊎ (number_of b.rule < number_of a.rule))
    order = grind arith

-- No overlapping cell precedes the first one.
earlier : (box : Rect) (others : List Placed) (own i : ℕ) (cell : Placed) (b : IsFirstOverlapping box others own) → i < b.place →
    slice_get others i ≡ Some cell → SharesPoint box cell.rect → ⊥
earlier box others own i cell b less there does_overlap =
    let within : b.place < length others = slice_get_within others b.place b.cell b.there in
    let len : length (take b.place others) ≡ b.place = grind (arith, common_steps) in
    let is : get_or others i cell ≡ cell = get_or_from_slice_get others i cell cell there in
    let early : i < length (take b.place others) = omega arith in
    let at : get_or (take b.place others) i cell ≡ get_or others i cell = grind (arith, common_steps) in
    b.first i cell early (rw (at, is) does_overlap)

-- The first overlapping cell is unique.
overlapped_one : (box : Rect) (others : List Placed) (m n : ℕ) → IsFirstOverlapping box others m → IsFirstOverlapping box others n → m ≡ n
overlapped_one box others m n a b = elim order [
  | inl less ↦ absurd (earlier box others n a.place a.cell b less a.there a.does_overlap)
  | inr rest ↦ elim rest [
    | inl same ↦
        let here : get_or others b.place a.cell ≡ a.cell = get_or_from_slice_get others b.place a.cell a.cell (subst (λ (k : ℕ). slice_get others k ≡ Some a.cell) same a.there) in
        let there : get_or others b.place a.cell ≡ b.cell = get_or_from_slice_get others b.place b.cell a.cell b.there in
        sym a.named ∙ ap (λ (p : Placed). p.own) (sym here ∙ there) ∙ b.named
    | inr more ↦ absurd (earlier box others m b.place b.cell a more b.there b.does_overlap)
  ]
]
  where
    order : (a.place < b.place) ⊎ ((a.place ≡ b.place) ⊎ (b.place < a.place))
    order = grind arith

other_one : (t : Candidate) (a b : Rule) (p q : Option ℕ) → a ≡ b →
    MatchOption p (a ≢ Overlap) (λ own. (a ≡ Overlap) × IsFirstOverlapping (padded_box t) t.others own) →
    MatchOption q (b ≢ Overlap) (λ own. (b ≡ Overlap) × IsFirstOverlapping (padded_box t) t.others own) → p ≡ q
other_one t a b None None e h k = refl
other_one t a b None (Some n) e h k = absurd (h (e ∙ k.0))
other_one t a b (Some m) None e h k = absurd (k (sym e ∙ h.0))
other_one t a b (Some m) (Some n) e h k = ap Some (overlapped_one (padded_box t) t.others m n h.1 k.1)

abbrev broken_of : Rule → Option ℕ → Broken
broken_of r o = record { rule = r; other = o }

same_broken : (a b : Broken) → a.rule ≡ b.rule → a.other ≡ b.other → a ≡ b
same_broken a b p q = let e : broken_of a.rule a.other ≡ broken_of b.rule b.other = cc in e

one : (t : Candidate) (a b : Option Broken) → IsVerdict t a → IsVerdict t b → a ≡ b
one t None None h k = refl
one t None (Some q) h k = absurd (k.broken (h q.rule))
one t (Some p) None h k = absurd (h.broken (k p.rule))
one t (Some p) (Some q) h k =
    let same = rule_same p.rule q.rule (rule_one t p q h k) in
    ap Some (same_broken p q same (other_one t p.rule q.rule p.other q.other same h.other k.other))

pub returns : goal.returns
returns c t a b h k = one t a b h k
