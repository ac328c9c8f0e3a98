-- If it is decided for each place whether the cell may be put there, there is a choice.
use Rattle.std.proofs.Common.{◌≡◌, ◌⊎◌, ℕ, zero, suc, ◌<◌, ◌≤◌, List, [], ◌∷◌, length, Option, Some, None, inl, inr, refl, sym, subst, arith, slice_get}
use Rattle.lf_units.specs.declared.geometry.Point.{Point}
use Rattle.lf_orient.specs.declared.Orient.TheVariants.{N, S, FN, FS}
use Rattle.lf_floorplan.specs.declared.parts.Row.{Row}
use Rattle.lf_floorplan.specs.Boxes.{IsSized}
use Rattle.lf_rules.specs.Choice.{SpotPlace, PlacementQuery, IsAllowedPlace, IsChoice, Precedes, distance, rank}
use Rattle.lf_rules.specs.Scanning.{ScansPlaces, IsAtSite, IsOnSites, IsOnRows, spot_at}
use Rattle.lf_rules.proofs.Looking.{skipped_place, taken_first, taken, left, idle}
use Rattle.lf_rules.proofs.Order.{ordered, through, not_itself, by_rank}
use Rattle.lf_rules.proofs.SiteLemmas.{all_four, next_site, next_row, chosen}

never : (target : Point) (p q : SpotPlace) → Precedes target q p → Precedes target p q → ⊥
never target p q a b = not_itself target p (through target p q p b a)

decided : (target : Point) (p q : SpotPlace) → Precedes target p q ⊎ (Precedes target p q → ⊥)
decided target p q = by_distance order
  where
    order : (distance target p < distance target q) ⊎ ((distance target p ≡ distance target q) ⊎ (distance target q < distance target p))
    order = grind arith

    rank_order : (rank p.orient < rank q.orient) ⊎ (rank q.orient ≤ rank p.orient)
    rank_order = grind arith

    by_distance : (distance target p < distance target q) ⊎ ((distance target p ≡ distance target q) ⊎ (distance target q < distance target p)) →
        Precedes target p q ⊎ (Precedes target p q → ⊥)
    by_distance (inl less) = inl (inl less)
    by_distance (inr (inr more)) = inr (never target p q (inl more))
    by_distance (inr (inl d)) = elim (ordered p.y q.y) [
      | inl less ↦ inl (inr (d, inl less))
      | inr rest ↦ elim rest [
        | inr more ↦ inr (never target p q (inr (sym d, inl more)))
        | inl u ↦ elim (ordered p.x q.x) [
          | inl less ↦ inl (inr (d, inr (u, inl less)))
          | inr others ↦ elim others [
            | inr more ↦ inr (never target p q (inr (sym d, inr (sym u, inl more))))
            | inl v ↦ elim rank_order [
              | inl less ↦ inl (inr (d, inr (u, inr (v, less))))
              | inr most ↦ inr (λ b. let both = by_rank target p q d u v in let less = both.1 b in omega arith)
            ]
          ]
        ]
      ]
    ]

abbrev Settled : PlacementQuery → Type 0
Settled cell = (p : SpotPlace) → IsAllowedPlace cell p ⊎ (IsAllowedPlace cell p → ⊥)

one_more : (cell : PlacementQuery) (target : Point) (best : Option SpotPlace) (s : SpotPlace) → IsAllowedPlace cell s ⊎ (IsAllowedPlace cell s → ⊥) → (new : Option SpotPlace) × ScansPlaces (λ p. p ≡ s) cell target best new
one_more cell target best s (inr not_so) = (best, skipped_place cell target best s not_so)
one_more cell target None s (inl is) = (Some s, taken_first cell target s is)
one_more cell target (Some b) s (inl is) = elim (decided target s b) [
  | inl less ↦ (Some s, taken cell target b s is less)
  | inr more ↦ (Some b, left cell target b s more)
]

on_site : (cell : PlacementQuery) (target pitch : Point) (r : Row) (site : ℕ) (best : Option SpotPlace) → Settled cell → (new : Option SpotPlace) × ScansPlaces (IsAtSite pitch r site) cell target best new
on_site cell target pitch r site best settled =
    let a = one_more cell target best (spot_at pitch r site N) (settled (spot_at pitch r site N)) in
    let b = one_more cell target a.0 (spot_at pitch r site S) (settled (spot_at pitch r site S)) in
    let c = one_more cell target b.0 (spot_at pitch r site FN) (settled (spot_at pitch r site FN)) in
    let d = one_more cell target c.0 (spot_at pitch r site FS) (settled (spot_at pitch r site FS)) in
    (d.0, all_four cell target pitch r site best a.0 b.0 c.0 d.0 (spot_at pitch r site N) (spot_at pitch r site S) (spot_at pitch r site FN) (spot_at pitch r site FS) refl refl refl refl a.1 b.1 c.1 d.1)

on_sites : (cell : PlacementQuery) (target pitch : Point) (r : Row) (best : Option SpotPlace) → Settled cell → (n : ℕ) → (new : Option SpotPlace) × ScansPlaces (IsOnSites pitch r n) cell target best new
on_sites cell target pitch r best settled zero = (best, idle (IsOnSites pitch r 0) cell target best (λ p on. let w = on.within in omega arith))
on_sites cell target pitch r best settled (suc n) =
    let a = on_sites cell target pitch r best settled n in
    let b = on_site cell target pitch r n a.0 settled in
    (b.0, subst (λ (k : ℕ). ScansPlaces (IsOnSites pitch r k) cell target best b.0) (omega arith) (next_site cell target pitch r n best a.0 b.0 a.1 b.1))

row_there : (rows : List Row) (n : ℕ) → n < length rows → (r : Row) × (slice_get rows n ≡ Some r)
row_there [] n within = absurd (omega arith)
row_there (r ∷ rows) zero within = (r, refl)
row_there (r ∷ rows) (suc n) within = row_there rows n (omega arith)

on_rows : (cell : PlacementQuery) (target pitch : Point) (rows : List Row) → Settled cell → (n : ℕ) → n ≤ length rows → (new : Option SpotPlace) × ScansPlaces (IsOnRows pitch rows n) cell target None new
on_rows cell target pitch rows settled zero within = (None, idle (IsOnRows pitch rows 0) cell target None (λ p on. let w = on.within in omega arith))
on_rows cell target pitch rows settled (suc n) within =
    let a = on_rows cell target pitch rows settled n (omega arith) in
    let row = row_there rows n (omega arith) in
    let b = on_sites cell target pitch row.0 a.0 settled row.0.sites in
    (b.0, subst (λ (k : ℕ). ScansPlaces (IsOnRows pitch rows k) cell target None b.0) (omega arith) (next_row cell target pitch rows n row.0 None a.0 b.0 row.1 a.1 b.1))

pub choice_there : (cell : PlacementQuery) (target : Point) → IsSized cell.frame cell.mac → Settled cell → (found : Option SpotPlace) × IsChoice cell target found
choice_there cell target sized settled =
    let all = on_rows cell target cell.frame.pitch cell.frame.rows settled (length cell.frame.rows) (omega arith) in
    (all.0, chosen cell target all.0 sized all.1)
