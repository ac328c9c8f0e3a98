-- Widened strips.
use Rattle.std.proofs.Common.{◌≡◌, ℕ, ◌<◌, ℤ, pos, negsuc, ◌+ℤ◌, ◌-ℤ◌, ◌*ℤ◌, ◌≤ℤ◌, List, length, get_or, sym, subst, arith}
use Rattle.std.specs.Prelude.{All, Any}
use Rattle.std.specs.Int.{int_max, int_min}
use Rattle.std.proofs.lemmas.Int.{ints, clamps}
use Rattle.std.proofs.lemmas.List.{get_or-map, length-map}
use Rattle.std.proofs.lemmas.List.Elements.{All-map}
use Rattle.lf_segments.specs.declared.rows_by_y.RowEntry.{RowEntry}
use Rattle.lf_segments.specs.declared.strip.Strip.{Strip}
use Rattle.lf_segments.specs.Indexes.{FrameIndexView}
use Rattle.lf_segments.specs.Strips.{AreNear, AreStrips, IsNear, IsPlaced}
use Rattle.lf_rules.specs.Padding.{IsShort}
use Rattle.lf_rules.proofs.PaddingLemmas.{short_sites}
use Rattle.lf_occupancy.specs.MarkLists.{IsNearZero}
use Rattle.lf_occupancy.specs.Views.{widened}
use Rattle.lf_occupancy.specs.Strips.{IsSiteWidth, widened_strips}

-- the strip lies near 0, is as high as a row, and its row has an entry
pub record IsInWidened (rows : List RowEntry) (height : ℤ) (g : Strip) : Type 0 where
  pub near : IsNearZero g.area
  pub y_low : negsuc 2147483647 ≤ℤ g.area.y1
  pub high : g.area.y2 ≡ g.area.y1 +ℤ height
  pub found : Any (λ e. (e.row ≡ g.row) × (e.y ≡ g.area.y1)) rows

-- the frame's index, with the strips widened
abbrev pub around : ℤ → FrameIndexView → FrameIndexView
around site s = record {
  rows = s.rows;
  segments = s.segments;
  land = s.land;
  strips = widened_strips site s.strips;
  soft = s.soft;
  extent = s.extent;
  height = s.height;
}

-- the greatest padding is short
pub site_short : (site : ℤ) → IsSiteWidth site → IsShort (pos 16 *ℤ site)
site_short site is = short_sites site 16 is.wide is.small (omega arith)

pub widened_many : (site : ℤ) (xs : List Strip) → length (widened_strips site xs) ≡ length xs
widened_many site xs = length-map xs (widened (pos 16 *ℤ site))

pub widened_at : (site : ℤ) (xs : List Strip) (n : ℕ) (d e : Strip) → n < length xs → get_or (widened_strips site xs) n d ≡ widened (pos 16 *ℤ site) (get_or xs n e)
widened_at site xs n d e within = get_or-map (widened (pos 16 *ℤ site)) xs n e d within

near_zero : (by : ℤ) (rows : List RowEntry) (height : ℤ) (g : Strip) → IsShort by → IsPlaced rows height g → IsNearZero (widened by g).area
near_zero by rows height g short placed =
    let a = short.most in
    let b = short.least in
    let l = placed.x_low in
    let h = placed.x_high in
    let w = placed.wide in
    record { low = omega (arith, ints, a, b, l); high = omega (arith, ints, a, b, h); begins = omega (arith, ints, b, w, h) }

-- strips that are placed lie near 0 when widened
pub strips_widened : (site : ℤ) (s : FrameIndexView) → IsSiteWidth site → AreStrips s.rows s.height s.strips → All (IsInWidened s.rows s.height) (widened_strips site s.strips)
strips_widened site s is strips = All-map (IsInWidened s.rows s.height) (widened (pos 16 *ℤ site)) s.strips each
  where
    each : All (λ g. IsInWidened s.rows s.height (widened (pos 16 *ℤ site) g)) s.strips
    each k d within =
        let p = strips.placed k d within in
        record {
          near = near_zero (pos 16 *ℤ site) s.rows s.height (get_or s.strips k d) (site_short site is) p;
          y_low = p.y_low;
          high = p.high;
          found = p.found;
        }

near_to : (by : ℤ) (rows : List RowEntry) (height : ℤ) (row team : ℕ) (lo hi low high : ℤ) (g : Strip) → IsShort by → IsPlaced rows height g →
    low ≡ int_max lo (negsuc 1099511627775) -ℤ by → high ≡ int_min hi (pos 1099511627776) +ℤ by → IsNear row team low high g →
    IsNear row team lo hi (widened by g)
near_to by rows height row team lo hi low high g short placed from to near =
    let r = near.right in
    let l = near.left in
    record { in_row = near.in_row; of_team = near.of_team; right = omega (arith, ints, clamps, from, r); left = omega (arith, ints, clamps, to, l) }

near_back : (by : ℤ) (rows : List RowEntry) (height : ℤ) (row team : ℕ) (lo hi low high : ℤ) (g : Strip) → IsShort by → IsPlaced rows height g →
    low ≡ int_max lo (negsuc 1099511627775) -ℤ by → high ≡ int_min hi (pos 1099511627776) +ℤ by → IsNear row team lo hi (widened by g) →
    IsNear row team low high g
near_back by rows height row team lo hi low high g short placed from to near =
    let r = near.right in
    let l = near.left in
    let a = short.most in
    let b = short.least in
    let p = placed.x_low in
    let q = placed.x_high in
    let w = placed.wide in
    record {
      in_row = near.in_row;
      of_team = near.of_team;
      right = omega (arith, ints, clamps, from, r, a, b, p, w);
      left = omega (arith, ints, clamps, to, l, a, b, q, w);
    }

-- the strips near a range that is wider by the reach are those that, widened, are near the range
pub near_is_widened : (site : ℤ) (s : FrameIndexView) (row team : ℕ) (lo hi low high : ℤ) (start end : ℕ) → IsSiteWidth site → AreStrips s.rows s.height s.strips →
    low ≡ int_max lo (negsuc 1099511627775) -ℤ (pos 16 *ℤ site) → high ≡ int_min hi (pos 1099511627776) +ℤ (pos 16 *ℤ site) →
    AreNear s.strips row team low high start end → AreNear (widened_strips site s.strips) row team lo hi start end
near_is_widened site s row team lo hi low high start end is strips from to near = record {
  within = let h = near.within in let m = widened_many site s.strips in omega (arith, h, m);
  exact = λ n d within.
      let m = widened_many site s.strips in
      let inner : n < length s.strips = omega (arith, within, m) in
      let at = widened_at site s.strips n d d inner in
      let g : Strip = get_or s.strips n d in
      let placed = strips.placed n d inner in
      let by : ℤ = pos 16 *ℤ site in
      let short = site_short site is in (
        λ both. subst (IsNear row team lo hi) (sym at)
            (near_to by s.rows s.height row team lo hi low high g short placed from to ((near.exact n d inner).0 both)),
        λ there. (near.exact n d inner).1
            (near_back by s.rows s.height row team lo hi low high g short placed from to (subst (IsNear row team lo hi) at there)),
      );
}
