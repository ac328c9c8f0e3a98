-- Where two texts differ, and where a record is.
use Rattle.std.proofs.Common.{◌≡◌, ◌≢◌, ℕ, suc, ◌+◌, ◌-◌, ◌<◌, ◌≤◌, List, [], ◌∷◌, length, take, drop, slice_index, refl, sym, ◌∙◌, ap, arith}
use Rattle.std.proofs.lemmas.List.{drop_all, drop_more}
use Rattle.std.proofs.lemmas.Bool.{cond-true, cond-false, eq-eqb, ne_eqb}
use Rattle.lf_journal_run.specs.Texts.{same_lines}

-- The two texts from a byte on that both have.
step : (at : ℕ) (xs ys : List ℕ) → at < length xs → at < length ys
    → same_lines (drop at xs) (drop at ys) ≡ same_lines (slice_index xs at ∷ drop (at + 1) xs) (slice_index ys at ∷ drop (at + 1) ys)
step at xs ys low low' =
    ap (λ (l : List ℕ). same_lines l (drop at ys)) (drop_more xs at 0 low)
    ∙ ap (λ (l : List ℕ). same_lines (slice_index xs at ∷ drop (at + 1) xs) l) (drop_more ys at 0 low')

pub same_other : (at : ℕ) (xs ys : List ℕ) → at < length xs → at < length ys → slice_index xs at ≢ slice_index ys at
    → same_lines (drop at xs) (drop at ys) ≡ 0
unfolding same_lines
same_other at xs ys low low' other = step at xs ys low low' ∙ cond-false _ _ _ (ne_eqb _ _ other)

pub same_feed : (at : ℕ) (xs ys : List ℕ) → at < length xs → at < length ys → slice_index xs at ≡ slice_index ys at → slice_index xs at ≡ 10
    → same_lines (drop at xs) (drop at ys) ≡ suc (same_lines (drop (at + 1) xs) (drop (at + 1) ys))
unfolding same_lines
same_feed at xs ys low low' same feed = step at xs ys low low' ∙ cond-true _ _ _ (eq-eqb _ _ same) ∙ cond-true _ _ _ (eq-eqb _ _ feed)

pub same_byte : (at : ℕ) (xs ys : List ℕ) → at < length xs → at < length ys → slice_index xs at ≡ slice_index ys at → slice_index xs at ≢ 10
    → same_lines (drop at xs) (drop at ys) ≡ same_lines (drop (at + 1) xs) (drop (at + 1) ys)
unfolding same_lines
same_byte at xs ys low low' same other = step at xs ys low low' ∙ cond-true _ _ _ (eq-eqb _ _ same) ∙ cond-false _ _ _ (ne_eqb _ _ other)

first_empty : (ys : List ℕ) → same_lines [] ys ≡ 0
unfolding same_lines
first_empty ys = refl

second_empty : (xs : List ℕ) → same_lines xs [] ≡ 0
unfolding same_lines
second_empty [] = refl
second_empty (x ∷ xs) = refl

pub same_past : (at : ℕ) (xs ys : List ℕ) → length xs ≤ at → same_lines (drop at xs) (drop at ys) ≡ 0
same_past at xs ys past = ap (λ (l : List ℕ). same_lines l (drop at ys)) (drop_all at xs past) ∙ first_empty (drop at ys)

pub same_past_other : (at : ℕ) (xs ys : List ℕ) → length ys ≤ at → same_lines (drop at xs) (drop at ys) ≡ 0
same_past_other at xs ys past = ap (λ (l : List ℕ). same_lines (drop at xs) l) (drop_all at ys past) ∙ second_empty (drop at xs)
