-- The search over the rows of a run, farther from the target in each round.
use Rattle.std.proofs.Common.{◌≡◌, ◌⊎◌, inl, inr, ℕ, ℤ, pos, ◌+◌, ◌≤◌, ◌<◌, ◌+ℤ◌, ◌-ℤ◌, ◌≤ℤ◌, ◌<ℤ◌, arith}
use Rattle.std.proofs.Common.{refl, sym, ap, ◌∙◌, subst, Option, Some, None, true, slice_get, length, List, ◌++◌, get_or, length-append}
use Rattle.std.specs.Prelude.{unsigned_abs, All, Any}
use Rattle.std.specs.Option.{option_map, is_some}
use Rattle.std.proofs.lemmas.Int.{ints}
use Rattle.std.proofs.lemmas.Option.{slice_get_read}
use Rattle.std.proofs.lemmas.List.{get_or-append-add}
use Rattle.std.proofs.Math.ListN.{get_or-append}
use Rattle.lf_units.specs.declared.geometry.Point.{Point}
use Rattle.lf_orient.specs.declared.Orient.{Orient}
use Rattle.lf_floorplan.specs.declared.frame.Frame.{Frame}
use Rattle.lf_floorplan.specs.declared.place.Place.{Place}
use Rattle.lf_floorplan.specs.Boxes.{macro_of, size_of}
use Rattle.lf_floorplan.specs.Sizes.{box_at, turned}
use Rattle.lf_floorplan.specs.RowSupport.{IsBottomRow}
use Rattle.lf_rules.specs.declared.rule.Rule.TheVariants.{Row as RowRule}
use Rattle.lf_rules.specs.Legality.{Holds}
use Rattle.lf_rules.specs.Choice.{SpotPlace, PlacementQuery, IsLegalAt, IsAllowedPlace, IsChoice, IsBest, distance, spot_of, candidate_at}
use Rattle.lf_rules.proofs.Looking.{onward}
use Rattle.lf_rules.proofs.Order.{compared}
use Rattle.lf_rules.proofs.SiteLemmas.{OneOfFour, legal_upright, rank_decides}
use Rattle.lf_segments.specs.declared.rows_by_y.RowEntry.{RowEntry}
use Rattle.lf_segments.specs.RowsByY.{IsRowsByY, IsRunBetween, RunBetweenHasRows}
use Rattle.lf_legalize.specs.Extents.{IsWithin, IsOnEntries, IsOnRow, ScansPlacesWithin}
use Rattle.lf_legalize.specs.RowSearches.{IsBestAmong, IsChoiceAmong, query_of_search}
use Rattle.lf_legalize.specs.declared.row_search.RowSearch.{RowSearch}
use Rattle.lf_legalize.proofs.Reaches.{abs_above, abs_below, row_level}

-- at this place a box of that size has the row of one of the entries from one position on and before
-- another as its bottom row
pub record IsOnPart (f : Frame) (size : Point) (run : List RowEntry) (from to : ℕ) (p : SpotPlace) : Type 0 where
  pub place : ℕ
  pub entry : RowEntry
  pub low : from ≤ place
  pub within : place < to
  pub there : slice_get run place ≡ Some entry
  pub on : IsOnRow f size entry.row p

-- no entry was searched so far
pub no_entry : (f : Frame) (size : Point) (run : List RowEntry) (n : ℕ) (cell : PlacementQuery) (target : Point) (reach : ℕ) (best : Option SpotPlace) →
    ScansPlacesWithin (IsOnPart f size run n n) cell target reach best best
no_entry f size run n cell target reach best = record {
  looked = record {
    may_go = λ h. h;
    kept = λ p h. h;
    seen = λ p s l. let low = s.1.low in let within = s.1.within in absurd (omega arith);
  };
  near = λ h. h;
}

-- a second search after a first
pub searched_both : (First Second Both : SpotPlace → Type 0) (cell : PlacementQuery) (target : Point) (reach : ℕ) (a b c : Option SpotPlace) →
    ((p : SpotPlace) → Both p → First p ⊎ Second p) → ScansPlacesWithin First cell target reach a b → ScansPlacesWithin Second cell target reach b c →
    ScansPlacesWithin Both cell target reach a c
searched_both First Second Both cell target reach a b c split first second = record {
  looked = onward (λ p. IsWithin target reach p × First p) (λ p. IsWithin target reach p × Second p) (λ p. IsWithin target reach p × Both p)
      cell target a b c apart first.looked second.looked;
  near = λ h. second.near (first.near h);
}
  where
    apart : (p : SpotPlace) → (IsWithin target reach p × Both p) → IsAllowedPlace cell p → (IsWithin target reach p × First p) ⊎ (IsWithin target reach p × Second p)
    apart p s may = elim (split p s.1) [ inl one ↦ inl (s.0, one) | inr other ↦ inr (s.0, other) ]

-- the same two sides in the other order
pub other_side : (A B : Type 0) → A ⊎ B → B ⊎ A
other_side A B (inl a) = inr a
other_side A B (inr b) = inl b

-- the place on this entry, or on one of the others of the part
of_entry : (f : Frame) (size : Point) (run : List RowEntry) (n : ℕ) (e : RowEntry) (p : SpotPlace) → slice_get run n ≡ Some e →
    (from to : ℕ) → (s : IsOnPart f size run from to p) → s.place ≡ n → IsOnRow f size e.row p
of_entry f size run n e p there from to s same =
    let is : s.entry ≡ e = same_entry (sym s.there ∙ ap (slice_get run) same ∙ there) in
    subst (λ (x : RowEntry). IsOnRow f size x.row p) is s.on
  where
    same_entry : {x y : RowEntry} → Some x ≡ Some y → x ≡ y
    same_entry is = cc

-- one more entry after those
pub next_entry : (f : Frame) (size : Point) (run : List RowEntry) (n : ℕ) (e : RowEntry) (cell : PlacementQuery) (target : Point) (reach : ℕ) (a b c : Option SpotPlace) →
    slice_get run n ≡ Some e → ScansPlacesWithin (IsOnPart f size run 0 n) cell target reach a b → ScansPlacesWithin (IsOnRow f size e.row) cell target reach b c →
    ScansPlacesWithin (IsOnPart f size run 0 (n + 1)) cell target reach a c
next_entry f size run n e cell target reach a b c there first second =
    searched_both (IsOnPart f size run 0 n) (IsOnRow f size e.row) (IsOnPart f size run 0 (n + 1)) cell target reach a b c split first second
  where
    split : (p : SpotPlace) → IsOnPart f size run 0 (n + 1) p → IsOnPart f size run 0 n p ⊎ IsOnRow f size e.row p
    split p s =
        let within = s.within in
        let order : (s.place < n) ⊎ (s.place ≡ n) = grind arith in
        elim order [
          | inl less ↦ inl (record { place = s.place; entry = s.entry; low = s.low; within = less; there = s.there; on = s.on })
          | inr same ↦ inr (of_entry f size run n e p there 0 (n + 1) s same)
        ]

-- one more entry before those
pub entry_before : (f : Frame) (size : Point) (run : List RowEntry) (n m to : ℕ) (e : RowEntry) (cell : PlacementQuery) (target : Point) (reach : ℕ) (a b c : Option SpotPlace) →
    n + 1 ≡ m → slice_get run n ≡ Some e → ScansPlacesWithin (IsOnPart f size run m to) cell target reach a b →
    ScansPlacesWithin (IsOnRow f size e.row) cell target reach b c → ScansPlacesWithin (IsOnPart f size run n to) cell target reach a c
entry_before f size run n m to e cell target reach a b c next there first second =
    searched_both (IsOnPart f size run m to) (IsOnRow f size e.row) (IsOnPart f size run n to) cell target reach a b c split first second
  where
    split : (p : SpotPlace) → IsOnPart f size run n to p → IsOnPart f size run m to p ⊎ IsOnRow f size e.row p
    split p s =
        let low = s.low in
        let order : (m ≤ s.place) ⊎ (s.place ≡ n) = grind arith in
        elim order [
          | inl more ↦ inl (record { place = s.place; entry = s.entry; low = more; within = s.within; there = s.there; on = s.on })
          | inr same ↦ inr (of_entry f size run n e p there n to s same)
        ]

-- after all entries, the search has been over their rows
pub all_entries : (f : Frame) (size : Point) (run : List RowEntry) (cell : PlacementQuery) (target : Point) (reach : ℕ) (a b : Option SpotPlace) →
    ScansPlacesWithin (IsOnPart f size run 0 (length run)) cell target reach a b → ScansPlacesWithin (IsOnEntries f size run) cell target reach a b
all_entries f size run cell target reach a b all = record {
  looked = record {
    may_go = all.looked.may_go;
    kept = all.looked.kept;
    seen = λ p s may. all.looked.seen p (s.0, part p s.1) may;
  };
  near = all.near;
}
  where
    part : (p : SpotPlace) → IsOnEntries f size run p → IsOnPart f size run 0 (length run) p
    part p any = record {
      place = any.0;
      entry = any.1;
      low = omega arith;
      within = any.2;
      there = slice_get_read run (length run) any.0 any.1 refl any.2 (sym any.3);
      on = any.4;
    }

-- what holds for all entries holds for those of a run
pub run_holds : (P : RowEntry → Type 0) (entries before run after_it : List RowEntry) → entries ≡ before ++ (run ++ after_it) → All P entries →
    (k : ℕ) (d : RowEntry) → k < length run → P (get_or run k d)
run_holds P entries before run after_it parts all k d less =
    let whole : All P (before ++ (run ++ after_it)) = subst (λ (xs : List RowEntry). All P xs) parts all in
    let within : length before + k < length (before ++ (run ++ after_it)) = rw (length-append before (run ++ after_it), length-append run after_it) (omega arith) in
    subst P (get_or-append-add before (run ++ after_it) k d ∙ get_or-append run after_it d k less) (whole (length before + k) d within)

-- an upright box is as wide and as high as its macro
pub upright_size : (size : Point) (o : Orient) → OneOfFour o → turned size o ≡ size
upright_size size o (inl n) = rw n refl
upright_size size o (inr (inl s)) = rw s refl
upright_size size o (inr (inr (inl fn))) = rw fn refl
upright_size size o (inr (inr (inr fs))) = rw fs refl

-- a legal place has a row of the frame as its bottom row
pub is_placed_on_row : (s : RowSearch) (p : SpotPlace) → IsLegalAt (query_of_search s) p → (n : ℕ) × IsOnRow s.frame.now s.size n p
is_placed_on_row s p legal =
    let held : Holds (candidate_at (query_of_search s) p) RowRule = legal RowRule in
    let size : turned (size_of s.frame.now (macro_of s.frame.now s.mac)) p.orient ≡ s.size =
    upright_size _ p.orient (legal_upright (query_of_search s) p legal) ∙ sym s.size_is in
    let bottom : IsBottomRow s.frame.now (box_at s.size p.x p.y) held.0 =
    subst (λ (z : Point). IsBottomRow s.frame.now (box_at z p.x p.y) held.0) size held.1 in (
      bottom.core_ones.0,
      record {
        row = held.0;
        there = slice_get_read s.frame.now.rows (length s.frame.now.rows) bottom.core_ones.0 held.0 refl bottom.core_ones.1 (sym bottom.core_ones.2);
        bottom = bottom;
      },
    )

-- a place on the row of some entry
on_any : (f : Frame) (size : Point) (run : List RowEntry) (n : ℕ) (p : SpotPlace) → Any (λ e. e.row ≡ n) run → IsOnRow f size n p → IsOnEntries f size run p
on_any f size run n p any on = (any.0, any.1, any.2, any.3, subst (λ (k : ℕ). IsOnRow f size k p) (sym any.4) on)

-- a legal place within the reach is on a row of the run below the target or of the run from it up
pub all_seen : (s : RowSearch) (below above : List RowEntry) (reach : ℕ) (from end start to : ℤ) → RunBetweenHasRows →
    IsRowsByY s.frame.now s.occupancy.now.index.rows →
    IsRunBetween s.occupancy.now.index.rows from end below → IsRunBetween s.occupancy.now.index.rows start to above →
    from ≤ℤ (s.target.now.y -ℤ pos reach) → s.target.now.y ≤ℤ end → start ≤ℤ s.target.now.y → (s.target.now.y +ℤ pos reach) <ℤ to →
    (p : SpotPlace) → IsLegalAt (query_of_search s) p → IsWithin s.target.now reach p →
    IsOnEntries s.frame.now s.size below p ⊎ IsOnEntries s.frame.now s.size above p
all_seen s below above reach from end start to law rows under over low last first high p legal within =
    let is_in_place = is_placed_on_row s p legal in
    let on = is_in_place.1 in
    let level : p.y ≡ on.row.y = row_level s.frame.now s.size on.row p on.bottom in
    let near : unsigned_abs (p.y -ℤ s.target.now.y) ≤ reach = omega (arith, within) in
    let up = abs_above (p.y -ℤ s.target.now.y) reach near in
    let down = abs_below (p.y -ℤ s.target.now.y) reach near in
    let order : (on.row.y <ℤ s.target.now.y) ⊎ (s.target.now.y ≤ℤ on.row.y) = grind (arith, ints) in
    elim order [
      | inl less ↦
          let both = law s.frame.now s.occupancy.now.index.rows below from end is_in_place.0 on.row rows under on.there in
          inl (on_any s.frame.now s.size below is_in_place.0 p (both.1 (omega (arith, ints, level, down, low), omega (arith, ints, less, last))) on)
      | inr more ↦
          let both = law s.frame.now s.occupancy.now.index.rows above start to is_in_place.0 on.row rows over on.there in
          inr (on_any s.frame.now s.size above is_in_place.0 p (both.1 (omega (arith, ints, more, first), omega (arith, ints, level, up, high))) on)
    ]

-- a search over all allowed places within the reach finds the best of them
pub chosen_near : (Seen : SpotPlace → Type 0) (cell : PlacementQuery) (target : Point) (reach : ℕ) (found : Option SpotPlace) →
    ((p : SpotPlace) → IsAllowedPlace cell p → IsWithin target reach p → Seen p) → ScansPlacesWithin Seen cell target reach None found →
    IsChoiceAmong (IsWithin target reach) cell target found
chosen_near Seen cell target reach None all looks = λ p within may. looks.looked.seen p (within, all p may within) may
chosen_near Seen cell target reach (Some b) all looks =
    let may : IsAllowedPlace cell b = looks.looked.may_go tt in
    record {
      seen = looks.near tt;
      may_go = may;
      least = λ p within there. elim (compared target p b (rank_decides p.orient b.orient (legal_upright cell p there.legal) (legal_upright cell b may.legal))) [
        | inl same ↦ inl same
        | inr rest ↦ elim rest [ inl less ↦ absurd (looks.looked.seen p (within, all p there within) there less) | inr more ↦ inr more ]
      ];
    }

near_or_far : (m n : ℕ) → (m ≤ n) ⊎ (n < m)
near_or_far m n = grind arith

-- the best of the places within a reach is the best of all, because the others are farther away
pub best_of_all : (cell : PlacementQuery) (target : Point) (reach : ℕ) (b : SpotPlace) → IsBestAmong (IsWithin target reach) cell target b → IsBest cell target b
best_of_all cell target reach b best = record {
  may_go = best.may_go;
  least = λ p may.
      let within = best.seen in
      elim (near_or_far (distance target p) reach) [
        | inl near ↦ best.least p near may
        | inr far ↦ inr (inl (omega (arith, within, far)))
      ];
}

-- if all allowed places are within the reach, the choice among those within it is the choice
pub choice_of_all : (cell : PlacementQuery) (target : Point) (reach : ℕ) (found : Option SpotPlace) → ((p : SpotPlace) → IsAllowedPlace cell p → IsWithin target reach p) →
    IsChoiceAmong (IsWithin target reach) cell target found → IsChoice cell target found
choice_of_all cell target reach None all choice = λ p may. choice p (all p may) may
choice_of_all cell target reach (Some b) all choice = best_of_all cell target reach b choice

-- a place found within a reach is the choice
pub choice_if_some : (cell : PlacementQuery) (target : Point) (reach : ℕ) (found : Option Place) → is_some found ≡ true →
    IsChoiceAmong (IsWithin target reach) cell target (option_map spot_of found) → IsChoice cell target (option_map spot_of found)
choice_if_some cell target reach None some choice = absurd cc
choice_if_some cell target reach (Some b) some choice = best_of_all cell target reach (spot_of b) choice
