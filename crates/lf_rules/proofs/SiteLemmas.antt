-- Every legal place is on a site of a row of the frame, in one of four orientations.
use Rattle.std.proofs.Common.{◌≡◌, ◌⊎◌, ℕ, ℤ, pos, negsuc, ◌+◌, ◌*◌, ◌<◌, ◌+ℤ◌, ◌-ℤ◌, ◌*ℤ◌, ◌≤ℤ◌, ◌<ℤ◌, List, length, Option, Some, None, inl, inr, refl, sym, ◌∙◌, ap, subst, arith, IsTrue, get_or, slice_get}
use Rattle.std.proofs.lemmas.Int.{ints}
use Rattle.std.proofs.lemmas.Option.{slice_get_read, get_or_from_slice_get}
use Rattle.std.proofs.Math.Nat.{lt_of_mul-lt-mul_right}
use Rattle.lf_units.specs.declared.geometry.Point.{Point}
use Rattle.lf_orient.specs.declared.Orient.{Orient}
use Rattle.lf_orient.specs.declared.Orient.TheVariants.{N, W, S, E, FN, FW, FS, FE}
use Rattle.lf_orient.specs.declared.Symmetry.{Symmetry}
use Rattle.lf_orient.specs.Orientation.{is_allowed}
use Rattle.lf_floorplan.specs.declared.parts.Row.{Row}
use Rattle.lf_rules.specs.declared.rule.Rule.TheVariants.{Row as RowRule, Orient as OrientRule}
use Rattle.lf_floorplan.specs.Boxes.{IsSized, size_of}
use Rattle.lf_floorplan.specs.Sizes.{turned}
use Rattle.lf_rules.specs.Legality.{Holds}
use Rattle.lf_rules.specs.Choice.{SpotPlace, PlacementQuery, IsLegalAt, IsAllowedPlace, IsChoice, IsUpright, candidate_at, rank}
use Rattle.lf_floorplan.proofs.SizeBounds.{IsSmall, small_pitch, turned_small, sized_pitch}
use Rattle.lf_rules.specs.Scanning.{ScansPlaces, IsAtSite, IsOnSites, IsOnRows, spot_at}
use Rattle.lf_rules.proofs.Looking.{onward}
use Rattle.lf_rules.proofs.Order.{same_spot, compared}

abbrev pub OneOfFour : Orient → Type 0
OneOfFour o = (o ≡ N) ⊎ ((o ≡ S) ⊎ ((o ≡ FN) ⊎ (o ≡ FS)))

-- Each of the four is upright.
pub upright_of_four : (o : Orient) → OneOfFour o → IsUpright o
upright_of_four o (inl n) = rw n refl
upright_of_four o (inr (inl s)) = rw s refl
upright_of_four o (inr (inr (inl fn))) = rw fn refl
upright_of_four o (inr (inr (inr fs))) = rw fs refl

pub four_of_upright : (o : Orient) → IsUpright o → OneOfFour o
four_of_upright N up = inl refl
four_of_upright S up = inr (inl refl)
four_of_upright FN up = inr (inr (inl refl))
four_of_upright FS up = inr (inr (inr refl))
four_of_upright W up = absurd cc
four_of_upright E up = absurd cc
four_of_upright FW up = absurd cc
four_of_upright FE up = absurd cc

pub one_of_four : (s : Symmetry) (o : Orient) → IsTrue (is_allowed s o) → OneOfFour o
one_of_four s N t = inl refl
one_of_four s S t = inr (inl refl)
one_of_four s FN t = inr (inr (inl refl))
one_of_four s FS t = inr (inr (inr refl))
one_of_four s W t = absurd cc
one_of_four s E t = absurd cc
one_of_four s FW t = absurd cc
one_of_four s FE t = absurd cc

pub legal_upright : (cell : PlacementQuery) (p : SpotPlace) → IsLegalAt cell p → OneOfFour p.orient
legal_upright cell p legal = let held : Holds (candidate_at cell p) OrientRule = legal OrientRule in one_of_four cell.mac.symmetry p.orient held.0

-- An allowed place on a site is one of the four there.
pub which : (cell : PlacementQuery) (pitch : Point) (r : Row) (site : ℕ) (p : SpotPlace) → IsAtSite pitch r site p → IsAllowedPlace cell p →
    (p ≡ spot_at pitch r site N) ⊎ ((p ≡ spot_at pitch r site S) ⊎ ((p ≡ spot_at pitch r site FN) ⊎ (p ≡ spot_at pitch r site FS)))
which cell pitch r site p at may = elim (legal_upright cell p may.legal) [
  | inl n ↦ inl (same_spot p (spot_at pitch r site N) at.x_is at.y_is n)
  | inr rest ↦ elim rest [
    | inl s ↦ inr (inl (same_spot p (spot_at pitch r site S) at.x_is at.y_is s))
    | inr others ↦ elim others [
      | inl fn ↦ inr (inr (inl (same_spot p (spot_at pitch r site FN) at.x_is at.y_is fn)))
      | inr fs ↦ inr (inr (inr (same_spot p (spot_at pitch r site FS) at.x_is at.y_is fs)))
    ]
  ]
]

-- A scan of the four places on a site.
pub all_four : (cell : PlacementQuery) (target pitch : Point) (r : Row) (site : ℕ) (a b c d e : Option SpotPlace) (n s fn fs : SpotPlace) →
    n ≡ spot_at pitch r site N → s ≡ spot_at pitch r site S → fn ≡ spot_at pitch r site FN → fs ≡ spot_at pitch r site FS →
    ScansPlaces (λ p. p ≡ n) cell target a b → ScansPlaces (λ p. p ≡ s) cell target b c →
    ScansPlaces (λ p. p ≡ fn) cell target c d → ScansPlaces (λ p. p ≡ fs) cell target d e →
    ScansPlaces (IsAtSite pitch r site) cell target a e
all_four cell target pitch r site a b c d e n s fn fs is_n is_s is_fn is_fs l1 l2 l3 l4 =
    let last = onward (λ p. p ≡ fn) (λ p. p ≡ fs) (λ p. (p ≡ fn) ⊎ (p ≡ fs)) cell target c d e (λ p h l. h) l3 l4 in
    let later = onward (λ p. p ≡ s) (λ p. (p ≡ fn) ⊎ (p ≡ fs)) (λ p. (p ≡ s) ⊎ ((p ≡ fn) ⊎ (p ≡ fs))) cell target b c e (λ p h l. h) l2 last in
    onward (λ p. p ≡ n) (λ p. (p ≡ s) ⊎ ((p ≡ fn) ⊎ (p ≡ fs))) (IsAtSite pitch r site) cell target a b e
    (λ p at may. rw (is_n, is_s, is_fn, is_fs) (which cell pitch r site p at may)) l1 later

-- One more site of a row.
pub next_site : (cell : PlacementQuery) (target pitch : Point) (r : Row) (site : ℕ) (a b c : Option SpotPlace) →
    ScansPlaces (IsOnSites pitch r site) cell target a b → ScansPlaces (IsAtSite pitch r site) cell target b c →
    ScansPlaces (IsOnSites pitch r (site + 1)) cell target a c
next_site cell target pitch r site a b c l1 l2 =
    onward (IsOnSites pitch r site) (IsAtSite pitch r site) (IsOnSites pitch r (site + 1)) cell target a b c split l1 l2
  where
    split : (p : SpotPlace) → IsOnSites pitch r (site + 1) p → IsAllowedPlace cell p → IsOnSites pitch r site p ⊎ IsAtSite pitch r site p
    split p on may =
        let within = on.within in
        let order : (on.site < site) ⊎ (on.site ≡ site) = grind arith in
        elim order [
          | inl less ↦ inl record { site = on.site; within = less; at_site = on.at_site }
          | inr same ↦ inr (subst (λ (k : ℕ). IsAtSite pitch r k p) same on.at_site)
        ]

-- One more row.
pub next_row : (cell : PlacementQuery) (target pitch : Point) (rows : List Row) (n : ℕ) (r : Row) (a b c : Option SpotPlace) → slice_get rows n ≡ Some r →
    ScansPlaces (IsOnRows pitch rows n) cell target a b → ScansPlaces (IsOnSites pitch r r.sites) cell target b c →
    ScansPlaces (IsOnRows pitch rows (n + 1)) cell target a c
next_row cell target pitch rows n r a b c there l1 l2 =
    onward (IsOnRows pitch rows n) (IsOnSites pitch r r.sites) (IsOnRows pitch rows (n + 1)) cell target a b c split l1 l2
  where
    split : (p : SpotPlace) → IsOnRows pitch rows (n + 1) p → IsAllowedPlace cell p → IsOnRows pitch rows n p ⊎ IsOnSites pitch r r.sites p
    split p on may =
        let within = on.within in
        let order : (on.number < n) ⊎ (on.number ≡ n) = grind arith in
        elim order [
          | inl less ↦ inl record { number = on.number; row = on.row; within = less; there = on.there; on_sites = on.on_sites }
          | inr same ↦
              let here : slice_get rows n ≡ Some on.row = subst (λ (k : ℕ). slice_get rows k ≡ Some on.row) same on.there in
              let is : get_or rows n r ≡ r = get_or_from_slice_get rows n r r there in
              let too : get_or rows n r ≡ on.row = get_or_from_slice_get rows n on.row r here in
              inr (subst (λ (s : Row). IsOnSites pitch s s.sites p) (sym too ∙ is) on.on_sites)
        ]

-- The site under a box that ends within the row.
site_within : (pitch x left width : ℤ) (site sites : ℕ) → pos 0 <ℤ pitch → pos 0 <ℤ width → (x -ℤ left) ≡ (pos site *ℤ pitch) →
    (x +ℤ width) ≤ℤ (left +ℤ (pos sites *ℤ pitch)) → site < sites
site_within (pos n) x left width site sites positive wide on_grid ends =
    let less : site * n < sites * n = omega (arith, ints) in
    lt_of_mul-lt-mul_right n less
site_within (negsuc n) x left width site sites positive wide on_grid ends = absurd (omega (arith, ints))

-- A legal place is on a site of a row of the frame.
pub is_in_place : (cell : PlacementQuery) (p : SpotPlace) → IsSized cell.frame cell.mac → IsLegalAt cell p → IsOnRows cell.frame.pitch cell.frame.rows (length cell.frame.rows) p
is_in_place cell p sized legal =
    let held : Holds (candidate_at cell p) RowRule = legal RowRule in
    let row = held.0 in
    let bottom = held.1 in
    let small : IsSmall (turned (size_of cell.frame cell.mac) p.orient) = turned_small _ _ (small_pitch _ _ _ (sized_pitch _ _ sized)) in
    let level = bottom.at_bottom.at_level in
    let grid = bottom.on_grid in
    record {
      number = bottom.core_ones.0;
      row = row;
      within = bottom.core_ones.1;
      there = slice_get_read cell.frame.rows (length cell.frame.rows) bottom.core_ones.0 row refl bottom.core_ones.1 (sym bottom.core_ones.2);
      on_sites = record {
        site = bottom.site;
        within = site_within cell.frame.pitch.x p.x row.x (turned (size_of cell.frame cell.mac) p.orient).x bottom.site row.sites cell.frame.pitch_whole.wide
            small.wide grid bottom.at_bottom.right;
        at_site = record { x_is = omega (arith, ints, grid); y_is = omega (arith, ints, level) };
      };
    }

clash : (a b c d : Orient) → a ≡ c → b ≡ d → rank a ≡ rank b → (rank c ≡ rank d → ⊥) → ⊥
clash a b c d p q e differ = differ (sym (ap rank p) ∙ e ∙ ap rank q)

-- The four orientations have different ranks.
pub rank_decides : (a b : Orient) → OneOfFour a → OneOfFour b → rank a ≡ rank b → a ≡ b
rank_decides a b (inl p) (inl q) e = p ∙ sym q
rank_decides a b (inr (inl p)) (inr (inl q)) e = p ∙ sym q
rank_decides a b (inr (inr (inl p))) (inr (inr (inl q))) e = p ∙ sym q
rank_decides a b (inr (inr (inr p))) (inr (inr (inr q))) e = p ∙ sym q
rank_decides a b (inl p) (inr (inl q)) e = absurd (clash a b _ _ p q e (omega arith))
rank_decides a b (inl p) (inr (inr (inl q))) e = absurd (clash a b _ _ p q e (omega arith))
rank_decides a b (inl p) (inr (inr (inr q))) e = absurd (clash a b _ _ p q e (omega arith))
rank_decides a b (inr (inl p)) (inl q) e = absurd (clash a b _ _ p q e (omega arith))
rank_decides a b (inr (inl p)) (inr (inr (inl q))) e = absurd (clash a b _ _ p q e (omega arith))
rank_decides a b (inr (inl p)) (inr (inr (inr q))) e = absurd (clash a b _ _ p q e (omega arith))
rank_decides a b (inr (inr (inl p))) (inl q) e = absurd (clash a b _ _ p q e (omega arith))
rank_decides a b (inr (inr (inl p))) (inr (inl q)) e = absurd (clash a b _ _ p q e (omega arith))
rank_decides a b (inr (inr (inl p))) (inr (inr (inr q))) e = absurd (clash a b _ _ p q e (omega arith))
rank_decides a b (inr (inr (inr p))) (inl q) e = absurd (clash a b _ _ p q e (omega arith))
rank_decides a b (inr (inr (inr p))) (inr (inl q)) e = absurd (clash a b _ _ p q e (omega arith))
rank_decides a b (inr (inr (inr p))) (inr (inr (inl q))) e = absurd (clash a b _ _ p q e (omega arith))

-- The places scanned include every place where the cell may be put, so the best of them is the
-- choice.
pub chosen : (cell : PlacementQuery) (target : Point) (found : Option SpotPlace) → IsSized cell.frame cell.mac →
    ScansPlaces (IsOnRows cell.frame.pitch cell.frame.rows (length cell.frame.rows)) cell target None found → IsChoice cell target found
chosen cell target None sized looked = λ p may. looked.seen p (is_in_place cell p sized may.legal) may
chosen cell target (Some b) sized looked =
    let may : IsAllowedPlace cell b = looked.may_go tt in
    record {
      may_go = may;
      least = λ p there. elim (compared target p b (rank_decides p.orient b.orient (legal_upright cell p there.legal) (legal_upright cell b may.legal))) [
        | inl same ↦ inl same
        | inr rest ↦ elim rest [ inl less ↦ absurd (looked.seen p (is_in_place cell p sized there.legal) there less) | inr more ↦ inr more ]
      ];
    }
