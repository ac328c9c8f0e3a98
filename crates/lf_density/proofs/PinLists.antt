-- Pins in bins, point by point.
use Rattle.std.proofs.Common.{◌≡◌, ◌≢◌, ◌∙◌, ℕ, ◌+◌, ◌*◌, ◌<◌, ◌==◌, List, Option, Some, None, length, set, get_or, take, false, refl, ap, sym, subst, arith, ⊎_elim}
use Rattle.std.specs.List.{count_by}
use Rattle.std.specs.Option.{option_map_or}
use Rattle.std.proofs.lemmas.Bool.{cases_eq, eq-eqb, ne_eqb}
use Rattle.std.proofs.lemmas.List.{get_or-set_same, get_or-set_other, length-set}
use Rattle.std.proofs.lemmas.List.FromFn.{fill_by_all}
use Rattle.std.proofs.lemmas.List.Sums.{count_by_more_no, count_by_more_yes}
use Rattle.lf_units.specs.declared.geometry.Point.{Point}
use Rattle.lf_density.specs.declared.grid.BinGrid.{BinGrid}
use Rattle.lf_density.specs.Bins.{capped}
use Rattle.lf_density.specs.Pins.{bin_at, bin_count, bin_counts, is_in_bin, with_point}

-- the bins have the numbers of these points
pub record ArePinCounts (g : BinGrid) (points : List Point) (counts : List ℕ) : Type 0 where
  pub many : length counts ≡ g.columns * g.rows
  pub each : (k : ℕ) → k < g.columns * g.rows → get_or counts k 0 ≡ bin_count g points k

pub counts_are : (g : BinGrid) (points : List Point) (counts : List ℕ) → ArePinCounts g points counts → counts ≡ bin_counts g points
counts_are g points counts are = fill_by_all (bin_count g points) counts (g.columns * g.rows) 0 are.many are.each

one_more : (old new counted : ℕ) → new ≡ capped (old + 1) → old ≡ capped counted → new ≡ capped (counted + 1)
one_more old new counted new_is old_is = omega arith

module _ (g : BinGrid) (points : List Point) (i : ℕ) (d : Point) (counts : List ℕ) (inside : i < length points) (are : ArePinCounts g (take i points) counts) where
  -- no bin contains the next point
  outside : bin_at g (get_or points i d) ≡ None → ArePinCounts g (take (i + 1) points) counts
  outside none = record {
    many = are.many;
    each = λ k less. are.each k less
        ∙ ap (λ (n : ℕ). capped n) (sym (count_by_more_no (is_in_bin g k) points i d inside (ap (λ (o : Option ℕ). option_map_or (λ bin. bin == k) o false) none)));
  }

  module _ (bin : ℕ) (is : bin_at g (get_or points i d) ≡ Some bin) where
    abbrev value : ℕ
    value = capped (get_or counts bin 0 + 1)

    here : bin < g.columns * g.rows → get_or (set counts bin value) bin 0 ≡ bin_count g (take (i + 1) points) bin
    here less =
        let within : bin < length counts = subst (λ (n : ℕ). bin < n) (sym are.many) less in
        one_more (get_or counts bin 0) (get_or (set counts bin value) bin 0) (count_by (is_in_bin g bin) (take i points)) (get_or-set_same counts bin value 0 within) (are.each bin less)
        ∙ ap (λ (n : ℕ). capped n)
        (sym (count_by_more_yes (is_in_bin g bin) points i d inside (ap (λ (o : Option ℕ). option_map_or (λ b. b == bin) o false) is ∙ eq-eqb bin bin refl)))

    other : (k : ℕ) → k < g.columns * g.rows → k ≢ bin → get_or (set counts bin value) k 0 ≡ bin_count g (take (i + 1) points) k
    other k less differ =
        get_or-set_other counts bin k value 0 differ ∙ are.each k less
        ∙ ap (λ (n : ℕ). capped n)
        (sym (count_by_more_no (is_in_bin g k) points i d inside
        (ap (λ (o : Option ℕ). option_map_or (λ b. b == k) o false) is ∙ ne_eqb bin k (λ same. differ (sym same)))))

    -- this bin contains the next point
    within_bin : ArePinCounts g (take (i + 1) points) (set counts bin value)
    within_bin = record {
      many = length-set counts bin value ∙ are.many;
      each = λ k less.
          ⊎_elim (λ (same : k ≡ bin). subst (λ (n : ℕ). get_or (set counts bin value) n 0 ≡ bin_count g (take (i + 1) points) n) (sym same) (here (subst (λ (n : ℕ). n < g.columns * g.rows) same less)))
          (λ (differ : k ≢ bin). other k less differ) (cases_eq k bin);
    }

  counted_in : (bin : Option ℕ) → bin_at g (get_or points i d) ≡ bin → ArePinCounts g (take (i + 1) points) (with_point bin counts)
  counted_in None is = outside is
  counted_in (Some bin) is = within_bin bin is

-- the numbers with one point more
pub next_point : (g : BinGrid) (points : List Point) (i : ℕ) (d : Point) (counts new : List ℕ) → i < length points → ArePinCounts g (take i points) counts
    → new ≡ with_point (bin_at g (get_or points i d)) counts → ArePinCounts g (take (i + 1) points) new
next_point g points i d counts new inside are is =
    subst (λ (cs : List ℕ). ArePinCounts g (take (i + 1) points) cs) (sym is) (counted_in g points i d counts inside are (bin_at g (get_or points i d)) refl)
