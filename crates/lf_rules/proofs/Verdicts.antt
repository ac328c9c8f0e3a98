-- Each candidate of a cell of whole size has a verdict.
use Rattle.std.proofs.Common.{◌≡◌, ◌⊎◌, ℕ, zero, suc, ℤ, ◌%◌, ◌+ℤ◌, ◌<ℤ◌, pos, List, [], ◌∷◌, Option, Some, None, inl, inr, refl, sym, ◌∙◌, ap, arith, IsTrue, Bool, true, false}
use Rattle.std.specs.Prelude.{All, take}
use Rattle.std.proofs.lemmas.Int.{ints}
use Rattle.std.proofs.lemmas.List.Elements.{All-nil, All-cons}
use Rattle.lf_units.specs.declared.geometry.Rect.{Rect}
use Rattle.lf_units.specs.Area.{SharesPoint}
use Rattle.lf_orient.specs.declared.Orient.{Orient}
use Rattle.lf_orient.specs.declared.Orient.TheVariants.{N, W, S, E, FN, FW, FS, FE}
use Rattle.lf_orient.specs.declared.Symmetry.{Symmetry}
use Rattle.lf_orient.specs.Orientation.{is_allowed, EqualUnder, rail_below, flipped_over_x, flipped_over_y}
use Rattle.lf_floorplan.specs.declared.parts.Row.{Row}
use Rattle.lf_units.specs.declared.placed.Placed.{Placed}
use Rattle.lf_rules.specs.declared.rule.Broken.{Broken}
use Rattle.lf_rules.specs.Legality.{IsFirstOverlapping, Candidate, IsFirstBroken, box_of, padded_box}
use Rattle.lf_floorplan.specs.Boxes.{IsSized, size_of}
use Rattle.lf_floorplan.specs.Sizes.{turned}
use Rattle.lf_floorplan.specs.RowSupport.{Supports}
use Rattle.lf_rules.specs.Legalizer.{IsVerdict}
use Rattle.lf_floorplan.proofs.SizeBounds.{IsSmall, small_pitch, turned_small, sized_pitch}
use Rattle.lf_rules.proofs.RuleLemmas.{Found, OnRows, on_rows, frame_of, height_broken, row_broken, placed_and_broken, orient_broken, rail_broken, fence_broken, obstacle_broken, overlap_broken}
use Rattle.lf_rules.proofs.LegalParts.{legal_by_parts}
use Rattle.lf_rules.proofs.Deciding.{Settles, both, either, implied, turned_round, each, each_below, some_height, some_bottom, some_carrying, same_rail, shares, all_in_ground, same_count}

truth : (b : Bool) → Settles (IsTrue b)
truth true = inl refl
truth false = inr (λ e. cc)

abbrev count_of : Orient → ℕ
count_of N = 0
count_of S = 1
count_of FN = 2
count_of FS = 3
count_of W = 4
count_of E = 5
count_of FW = 6
count_of FE = 7

abbrev orient_at : ℕ → Orient
orient_at zero = N
orient_at (suc zero) = S
orient_at (suc (suc zero)) = FN
orient_at (suc (suc (suc zero))) = FS
orient_at (suc (suc (suc (suc zero)))) = W
orient_at (suc (suc (suc (suc (suc zero))))) = E
orient_at (suc (suc (suc (suc (suc (suc zero)))))) = FW
orient_at (suc (suc (suc (suc (suc (suc (suc zero))))))) = FE
orient_at (suc (suc (suc (suc (suc (suc (suc (suc n)))))))) = N

back : (o : Orient) → orient_at (count_of o) ≡ o
back N = refl
back S = refl
back FN = refl
back FS = refl
back W = refl
back E = refl
back FW = refl
back FE = refl

same_orient : (a b : Orient) → Settles (a ≡ b)
same_orient a b = turned_round (λ e. sym (back a) ∙ ap orient_at e ∙ back b) (λ e. ap count_of e) (same_count (count_of a) (count_of b))

equal_under : (s : Symmetry) (a b : Orient) → Settles (EqualUnder s a b)
equal_under s a b =
    either (same_orient a b) (either (both (truth s.x) (same_orient b (flipped_over_x a))) (either (both (truth s.y) (same_orient b (flipped_over_y a)))
    (turned_round (λ p. (p.0.0, p.0.1, p.1)) (λ p. ((p.0, p.1), p.2)) (both (both (truth s.x) (truth s.y)) (same_orient b (flipped_over_x (flipped_over_y a)))))))

-- There is a first box that overlaps, or no box overlaps.
first_or_none : (box : Rect) (others : List Placed) → ((own : ℕ) × IsFirstOverlapping box others own) ⊎ All (λ p. SharesPoint box p.rect → ⊥) others
first_or_none box [] = inr (All-nil (λ p. SharesPoint box p.rect → ⊥))
first_or_none box (p ∷ ps) = elim (shares box p.rect) [
  | inl does_overlap ↦ inl (p.own, record { place = 0; cell = p; there = refl; named = refl; does_overlap = does_overlap; first = All-nil (λ q. SharesPoint box q.rect → ⊥) })
  | inr clear ↦ elim (first_or_none box ps) [
    | inl f ↦ inl (f.0, record { place = suc f.1.place; cell = f.1.cell; there = f.1.there; named = f.1.named; does_overlap = f.1.does_overlap; first = All-cons (λ q. SharesPoint box q.rect → ⊥) p (take f.1.place ps) clear f.1.first })
    | inr n ↦ inr (All-cons (λ q. SharesPoint box q.rect → ⊥) p ps clear n)
  ]
]

abbrev Verdict : Candidate → Type 0
Verdict t = (v : Option Broken) × IsVerdict t v

-- The verdict that this rule is the first broken.
broke : {t : Candidate} {b : Broken} → IsFirstBroken t b → Verdict t
broke {b = b} is = (Some b, is)

on_areas : (t : Candidate) → OnRows t → Verdict t
on_areas t rows = elim (all_in_ground t.frame t.team (box_of t)) [
  | inr n ↦ broke (fence_broken t rows n)
  | inl g ↦ elim (each (λ o. SharesPoint (box_of t) o → ⊥) (λ o. elim (shares (box_of t) o) [ inl m ↦ inr (λ c. c m) | inr c ↦ inl c ]) t.frame.obstacles) [
    | inr n ↦ broke (obstacle_broken t rows g n)
    | inl o ↦ elim (first_or_none (padded_box t) t.others) [
      | inl m ↦ broke (overlap_broken t m.0 (frame_of t rows g o) m.1)
      | inr v ↦ (None, (legal_by_parts t).1 (frame_of t rows g o, v))
    ]
  ]
]

on_found : (t : Candidate) (k : ℕ) (r : Row) → Found t (box_of t) k r → Verdict t
on_found t k r found = elim (each_below (λ j. (s : Row) × Supports t.frame (box_of t) r j s) (λ j. some_carrying t.frame (box_of t) r j) k) [
  | inr n ↦ broke (placed_and_broken t (box_of t) k r found n)
  | inl s ↦ elim (both (truth (is_allowed t.mac.symmetry t.orient)) (implied (same_count (k % 2) 1) (equal_under t.frame.site.symmetry t.orient r.orient))) [
    | inr n ↦ broke (orient_broken t (box_of t) k r found s n)
    | inl o ↦ elim (implied (same_count (k % 2) 0) (same_rail (rail_below r.orient) (Some t.mac.rail))) [
      | inr n ↦ broke (rail_broken t (box_of t) k r found s o n)
      | inl p ↦ on_areas t (on_rows t (box_of t) k r found s o p)
    ]
  ]
]

pub verdict_there : (t : Candidate) → IsSized t.frame t.mac → Verdict t
verdict_there t sized =
    let small : IsSmall (turned (size_of t.frame t.mac) t.orient) = turned_small _ _ (small_pitch _ _ _ (sized_pitch _ _ sized)) in
    elim (some_height t.frame (box_of t)) [
      | inr n ↦ broke (height_broken t n)
      | inl h ↦ elim (some_bottom t.frame (box_of t)) [
        | inr n ↦ broke (row_broken t (box_of t) refl h.0 h.1 (λ r b. n (r, b)))
        | inl b ↦ on_found t h.0 b.0 record { box_is = refl; wide = wider t.x _ small.wide; tall = h.1; bottom = b.1 }
      ]
    ]
  where
    wider : (x w : ℤ) → pos 0 <ℤ w → x <ℤ (x +ℤ w)
    wider x w h = omega (arith, ints)
