-- The order of places by their keys.
use Rattle.std.proofs.Common.{◌≡◌, ◌⊎◌, ℕ, ℤ, ◌<◌, ◌<ℤ◌, inl, inr, sym, arith, IsTrue, ◌↔◌, nat_lt}
use Rattle.std.proofs.lemmas.Int.{ints}
use Rattle.lf_units.specs.declared.geometry.Point.{Point}
use Rattle.lf_orient.specs.declared.Orient.{Orient}
use Rattle.lf_rules.specs.Choice.{SpotPlace, Precedes, distance, rank}

abbrev spot_with : ℤ → ℤ → Orient → SpotPlace
spot_with x y o = record { x = x; y = y; orient = o }

pub same_spot : (p q : SpotPlace) → p.x ≡ q.x → p.y ≡ q.y → p.orient ≡ q.orient → p ≡ q
same_spot p q a b c = let e : spot_with p.x p.y p.orient ≡ spot_with q.x q.y q.orient = cc in e

pub ordered : (a b : ℤ) → (a <ℤ b) ⊎ ((a ≡ b) ⊎ (b <ℤ a))
ordered a b = grind (arith, ints)

pub through : (target : Point) (p q r : SpotPlace) → Precedes target p q → Precedes target q r → Precedes target p r
through target p q r (inl a) (inl b) = inl (omega arith)
through target p q r (inl a) (inr b) = inl (omega arith)
through target p q r (inr a) (inl b) = inl (omega arith)
through target p q r (inr (d, inl a)) (inr (e, inl b)) = inr (omega arith, inl (omega (arith, ints)))
through target p q r (inr (d, inl a)) (inr (e, inr (v, b))) = inr (omega arith, inl (omega (arith, ints)))
through target p q r (inr (d, inr (u, a))) (inr (e, inl b)) = inr (omega arith, inl (omega (arith, ints)))
through target p q r (inr (d, inr (u, inl a))) (inr (e, inr (v, inl b))) = inr (omega arith, inr (omega (arith, ints), inl (omega (arith, ints))))
through target p q r (inr (d, inr (u, inl a))) (inr (e, inr (v, inr (w, b)))) = inr (omega arith, inr (omega (arith, ints), inl (omega (arith, ints))))
through target p q r (inr (d, inr (u, inr (w, a)))) (inr (e, inr (v, inl b))) = inr (omega arith, inr (omega (arith, ints), inl (omega (arith, ints))))
through target p q r (inr (d, inr (u, inr (w, a)))) (inr (e, inr (v, inr (z, b)))) =
    inr (omega arith, inr (omega (arith, ints), inr (omega (arith, ints), omega arith)))

pub not_itself : (target : Point) (p : SpotPlace) → Precedes target p p → ⊥
not_itself target p (inl a) = omega arith
not_itself target p (inr (d, inl a)) = omega (arith, ints)
not_itself target p (inr (d, inr (u, inl a))) = omega (arith, ints)
not_itself target p (inr (d, inr (u, inr (w, a)))) = omega arith

-- At equal distance and y, and at different x, the lesser x comes first.
pub by_x : (target : Point) (p q : SpotPlace) → distance target p ≡ distance target q → p.y ≡ q.y → (p.x ≡ q.x → ⊥) → (p.x <ℤ q.x) ↔ Precedes target p q
by_x target p q d u differ = (λ less. inr (d, inr (u, inl less)), back)
  where
    back : Precedes target p q → p.x <ℤ q.x
    back (inl a) = absurd (omega arith)
    back (inr (_, inl a)) = absurd (omega (arith, ints))
    back (inr (_, inr (_, inl a))) = a
    back (inr (_, inr (_, inr (e, _)))) = absurd (differ e)

-- At the same corner the lesser rank comes first.
pub by_rank : (target : Point) (p q : SpotPlace) → distance target p ≡ distance target q → p.y ≡ q.y → p.x ≡ q.x → (rank p.orient < rank q.orient) ↔ Precedes target p q
by_rank target p q d u v = (λ less. inr (d, inr (u, inr (v, less))), back)
  where
    back : Precedes target p q → rank p.orient < rank q.orient
    back (inl a) = absurd (omega arith)
    back (inr (_, inl a)) = absurd (omega (arith, ints))
    back (inr (_, inr (_, inl a))) = absurd (omega (arith, ints))
    back (inr (_, inr (_, inr (_, a)))) = a

pub rank_test : (m n a b : ℕ) (P : Type 0) → m ≡ a → n ≡ b → (a < b) ↔ P → IsTrue (nat_lt m n) ↔ P
rank_test m n a b P e f both = (λ t. both.0 (grind arith), λ s. let less = both.1 s in grind arith)

-- Of two upright places one precedes the other, unless they are equal.
pub compared : (target : Point) (p q : SpotPlace) → (rank p.orient ≡ rank q.orient → p.orient ≡ q.orient) → (p ≡ q) ⊎ (Precedes target p q ⊎ Precedes target q p)
compared target p q injective = by_distance order
  where
    order : (distance target p < distance target q) ⊎ ((distance target p ≡ distance target q) ⊎ (distance target q < distance target p))
    order = grind arith

    rank_order : (rank p.orient < rank q.orient) ⊎ ((rank p.orient ≡ rank q.orient) ⊎ (rank q.orient < rank p.orient))
    rank_order = grind arith

    by_distance : (distance target p < distance target q) ⊎ ((distance target p ≡ distance target q) ⊎ (distance target q < distance target p)) →
        (p ≡ q) ⊎ (Precedes target p q ⊎ Precedes target q p)
    by_distance (inl less) = inr (inl (inl less))
    by_distance (inr (inr more)) = inr (inr (inl more))
    by_distance (inr (inl d)) = elim (ordered p.y q.y) [
      | inl less ↦ inr (inl (inr (d, inl less)))
      | inr rest ↦ elim rest [
        | inr more ↦ inr (inr (inr (sym d, inl more)))
        | inl u ↦ elim (ordered p.x q.x) [
          | inl less ↦ inr (inl (inr (d, inr (u, inl less))))
          | inr others ↦ elim others [
            | inr more ↦ inr (inr (inr (sym d, inr (sym u, inl more))))
            | inl v ↦ elim rank_order [
              | inl less ↦ inr (inl (inr (d, inr (u, inr (v, less)))))
              | inr last ↦ elim last [
                | inr more ↦ inr (inr (inr (sym d, inr (sym u, inr (sym v, more)))))
                | inl w ↦ inl (same_spot p q v u (injective w))
              ]
            ]
          ]
        ]
      ]
    ]
