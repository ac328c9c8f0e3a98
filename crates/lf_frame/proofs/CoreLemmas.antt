-- The core site has a size, and its size in database units fits the rows of a frame.
use Rattle.std.proofs.Common.{◌≡◌, ℕ, ℤ, pos, negsuc, ◌*◌, ◌*ℤ◌, ◌≤◌, ◌<◌, ◌<ℤ◌, Bool, true, false, List, [], ◌∷◌, length, map, get_or, Option, Some, None, refl, sym, ap, ◌∙◌, arith}
use Rattle.std.specs.Prelude.{filter, slice_get, unwrap_or}
use Rattle.std.specs.Str.{bytes_eq}
use Rattle.std.proofs.lemmas.List.{get_or-map}
use Rattle.std.proofs.lemmas.List.Quantifiers.{position-Some}
use Rattle.std.proofs.lemmas.Option.{none-some, slice_get_within, unwrap_or-slice_get}
use Rattle.std.proofs.lemmas.Slice.Eq.{bytes_eq-Decides}
use Rattle.lf_names.specs.Names.{position_of}
use Rattle.std.specs.Prelude.{IfSome, int_lt}
use Rattle.std.specs.Option.{option_copied}
use Rattle.std.proofs.Common.{Bor}
use Rattle.std.proofs.lemmas.Bool.{and_parts}
use Rattle.std.proofs.lemmas.Int.{ints}
use Rattle.std.proofs.lemmas.Nat.{mul-le}
use Rattle.lf_units.specs.declared.geometry.Point.{Point}
use Rattle.lf_units.specs.Length.{IsLength, in_dbu}
use Rattle.lf_floorplan.specs.declared.sites.Site.{Site}
use Rattle.lf_lef.specs.Contents.{Contents, site_names}
use Rattle.lf_lef.specs.Lengths.{HasRange}
use Rattle.lf_def.specs.declared.rows.RowStatement.{RowStatement}
use Rattle.lf_frame.specs.Loading.{at_place, is_core_row, frame_row, site_named, has_size, is_core, core_site, IsWholeSize}
use Rattle.lf_floorplan.specs.Sizes.{size_in_dbu}
use Rattle.lf_floorplan.specs.Rows.{IsPitch}
use Rattle.lf_floorplan.proofs.LengthLemmas.{small_length}

sized : (found : Option Site) → is_core found ≡ true → IfSome found (λ s. has_size s.size ≡ true)
sized None is = tt
sized (Some s) is = (and_parts s.core (has_size s.size) is).1

-- The site of the first core row has a size.
pub core_sized : (library : Contents) (rows : List RowStatement) → IfSome (core_site library rows) (λ s. has_size s.size ≡ true)
core_sized library [] = tt
core_sized library (r ∷ rs) = by (is_core (site_named library r.site)) refl (core_sized library rs)
  where
    by : (t : Bool) → is_core (site_named library r.site) ≡ t → IfSome (core_site library rs) (λ s. has_size s.size ≡ true) →
        IfSome (core_site library (r ∷ rs)) (λ s. has_size s.size ≡ true)
    by true is rest = rw is (sized (site_named library r.site) is)
    by false is rest = rw is rest

pub above : (x : ℤ) → int_lt (pos 0) x ≡ true → pos 0 <ℤ x
above x is = grind (arith, ints)

-- A length above 0 is above 0 in database units.
positive_length : (units : ℕ) (micros dbu : ℤ) → 1 ≤ units → pos 0 <ℤ micros → IsLength units micros dbu → pos 0 <ℤ dbu
positive_length units (pos m) dbu some more e =
    let least : 1 * 1 ≤ m * units = mul-le 1 1 m units (omega (arith, ints)) some in
    let is : dbu *ℤ pos 1000000 ≡ pos (m * units) = e in
    omega (arith, ints)
positive_length units (negsuc m) dbu some more e = grind (arith, ints)

pub pitch_of_core : (units : ℕ) (size : Point) → 1 ≤ units → units ≤ 20000 → HasRange size → has_size size ≡ true → IsWholeSize units size →
    IsPitch units size (size_in_dbu units size)
pitch_of_core units size some few range is whole =
    let parts = and_parts (int_lt (pos 0) size.x) (int_lt (pos 0) size.y) is in
    record {
      across = whole.across;
      up = whole.up;
      wide = positive_length units size.x (in_dbu units size.x) some (above size.x parts.0) whole.across;
      high = positive_length units size.y (in_dbu units size.y) some (above size.y parts.1) whole.up;
      x_small = small_length units size.x (in_dbu units size.x) few range.x.high whole.across;
      y_small = small_length units size.y (in_dbu units size.y) few range.y.high whole.up;
    }

-- A fact about a site holds of the site that is borrowed.
pub of_borrowed : (borrowed_view : Option (Bor Site)) {found : Option Site} → IfSome found (λ s. has_size s.size ≡ true) → option_copied borrowed_view ≡ found →
    IfSome borrowed_view (λ s. has_size s.now.size ≡ true)
of_borrowed None {found} is same = tt
of_borrowed (Some s) {found} is same = rw (← same) at is

-- The site that is found has the name.
site_bears : (sites : List Site) (name : List ℕ) (place : Option ℕ) (s : Site) → place ≡ position_of (site_names sites) name → at_place sites place ≡ Some s →
    s.name ≡ name
site_bears sites name None s is found = absurd (none-some s found)
site_bears sites name (Some k) s is found =
    let within : k < length sites = slice_get_within sites k s found in
    let there = position-Some (bytes_eq name) (site_names sites) k s.name (sym is) in
    let at : get_or (site_names sites) k s.name ≡ s.name = get_or-map (λ (t : Site). t.name) sites k s s.name within ∙ ap (λ (t : Site). t.name) (read_at sites k s found) in
    sym ((bytes_eq-Decides name (get_or (site_names sites) k s.name)).0 there.1 ∙ at)
  where
    read_at : (xs : List Site) (k : ℕ) (x : Site) → slice_get xs k ≡ Some x → get_or xs k x ≡ x
    read_at xs k x e = sym (unwrap_or-slice_get xs k x) ∙ ap (λ o. unwrap_or o x) e

-- The row of the core site is a core row, so there is a core row.
pub core_row_is_core : (library : Contents) (rows : List RowStatement) (core : Site) → core_site library rows ≡ Some core →
    0 < length (map frame_row (filter (is_core_row core) rows))
core_row_is_core library [] core is = absurd (none-some core is)
core_row_is_core library (r ∷ rs) core is = by (is_core (site_named library r.site)) refl is (core_row_is_core library rs core)
  where
    more : (t : Bool) → is_core_row core r ≡ t → 0 < length (map frame_row (filter (is_core_row core) rs)) →
        0 < length (map frame_row (filter (is_core_row core) (r ∷ rs)))
    more true e rest = rw e (omega arith)
    more false e rest = rw e rest

    by : (t : Bool) → is_core (site_named library r.site) ≡ t → core_site library (r ∷ rs) ≡ Some core →
        (core_site library rs ≡ Some core → 0 < length (map frame_row (filter (is_core_row core) rs))) →
        0 < length (map frame_row (filter (is_core_row core) (r ∷ rs)))
    by true e found rest =
        let same : core.name ≡ r.site = site_bears library.sites r.site (position_of (site_names library.sites) r.site) core refl (rw e at found) in
        let core_ones : is_core_row core r ≡ true = (bytes_eq-Decides r.site core.name).1 (sym same) in
        rw core_ones (omega arith)
    by false e found rest = more (is_core_row core r) refl (rest (rw e at found))
