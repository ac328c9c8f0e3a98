-- The gap near a point, from the widest runs of the team's strips.
use Rattle.std.proofs.Common.{◌≡◌, ◌∙◌, ◌⊎◌, inl, inr, ℕ, zero, suc, ◌+◌, ◌*◌, ◌<◌, ◌≤◌, ℤ, pos, ◌-ℤ◌, ◌*ℤ◌, ◌≤ℤ◌, List, [], ◌∷◌, ◌++◌, length, get_or, take, Option, None, Some, refl, ap, sym, subst, arith}
use Rattle.std.specs.Prelude.{Any, MatchOption, option_map, slice_get}
use Rattle.std.specs.Int.RustNames.{unsigned_abs}
use Rattle.std.specs.Option.{option_map_or}
use Rattle.std.proofs.lemmas.Int.{ints}
use Rattle.std.proofs.lemmas.List.{take_more}
use Rattle.std.proofs.lemmas.List.Elements.{AllZip-push}
use Rattle.std.proofs.Math.IntN.{zero-*ℤ}
use Rattle.lf_units.specs.declared.geometry.Point.{Point}
use Rattle.lf_floorplan.specs.declared.frame.Frame.{Frame}
use Rattle.lf_floorplan.specs.declared.parts.Row.{Row}
use Rattle.lf_floorplan.specs.declared.place.Place.{Place}
use Rattle.lf_rules.specs.Choice.{anchor}
use Rattle.lf_cells.specs.declared.cell.Cell.{Cell}
use Rattle.lf_cells.specs.declared.cell.CellId.{CellId}
use Rattle.lf_cells.specs.Cells.{Cells, cells_of, id_in, id_of}
use Rattle.lf_repair_bounds.specs.declared.near_runs.RowRun.{RowRun}
use Rattle.lf_repair_bounds.specs.FreeRuns.{AreRunsOfTeam, IsRunInRow}
use Rattle.lf_repair_bounds.specs.Gaps.{AreGaps, HasFreeRun, IsFreeRun, IsGapAt, IsGapOf, IsNearRow, IsRowOfTeam, PlacedTeam, gap_target, place_at, placed_team, row_distance}
use Rattle.lf_repair_bounds.specs.MinDisplacements.{corner}
use Rattle.lf_repair_bounds.specs.NearRuns.{IsNearRowRun, IsWidestNear, run_distance}

abbrev pub far_of : PlacedTeam → ℕ
far_of t = 8 * unsigned_abs t.frame.pitch.y

module _ (t : PlacedTeam) (target : Point) (runs : List RowRun) (of : AreRunsOfTeam t runs) where
  -- a run is as far as its row
  as_far : (run : RowRun) (r : Row) → run.y ≡ r.y → run_distance target run ≡ row_distance target r
  as_far run r y = ap (λ (z : ℤ). unsigned_abs (z -ℤ target.y)) y

  row_near : (run : RowRun) (r : Row) → run.y ≡ r.y → IsNearRowRun target (far_of t) runs run → IsNearRow t target r
  row_near run r y near n d within own =
      let s : Row = get_or t.frame.rows n d in
      let any = of.each n d within own in
      let other : run_distance target run ≤ (run_distance target any.1 + far_of t) =
      subst (λ (q : RowRun). run_distance target run ≤ (run_distance target q + far_of t)) any.3 (near any.0 any.1 any.2) in
      let here = as_far run r y in
      let there = as_far any.1 s any.4 in
      omega (arith, other, here, there)

  run_near : (run : RowRun) (r : Row) → run.y ≡ r.y → IsNearRow t target r → IsNearRowRun target (far_of t) runs run
  run_near run r y near k d within =
      let other : RowRun = get_or runs k d in
      let any = of.are k d within in
      let s : Row = any.1 in
      let farther : row_distance target r ≤ (row_distance target s + far_of t) =
      subst (λ (q : Row). IsRowOfTeam t.frame t.team q → row_distance target r ≤ (row_distance target q + far_of t)) any.3 (near any.0 any.1 any.2) any.4.of_team in
      let here = as_far run r y in
      let there = as_far other s any.4.y in
      omega (arith, farther, here, there)

  pub gap_at : (far width : ℕ) → far ≡ far_of t → IsWidestNear target far runs width → IsGapAt t target width
  gap_at far width is widest = at (subst (λ (n : ℕ). IsWidestNear target n runs width) is widest) where
    at : IsWidestNear target (far_of t) runs width → IsGapAt t target width
    at w = record { is_one = one w.is_one; no_wider = no_wider } where
      one : (width ≡ 0) ⊎ Any (λ run. IsNearRowRun target (far_of t) runs run × (run.width ≡ width)) runs → (width ≡ 0) ⊎ HasFreeRun t target width
      one (inl none) = inl none
      one (inr any) =
          let row = subst (λ (q : RowRun). Any (IsRunInRow t q) t.frame.rows) any.3 (of.are any.0 any.1 any.2) in
          elim row.4.is [
            | inl none ↦ inl (sym any.4.1 ∙ none)
            | inr free ↦ inr record {
              row = row.1;
              first = free.0;
              count = free.1;
              of_frame = (row.0, row.2, row.3);
              near = row_near any.1 row.1 row.4.y any.4.0;
              free = free.2;
              is = subst (λ (n : ℕ). pos n ≡ pos free.1 *ℤ t.frame.pitch.x) any.4.1 free.3;
            }
          ]

      no_wider : (other : ℕ) → HasFreeRun t target other → other ≤ width
      no_wider other h = wider_than h.count h.is h.free where
        wider_than : (count : ℕ) → pos other ≡ pos count *ℤ t.frame.pitch.x → IsFreeRun t h.row h.first count → other ≤ width
        wider_than zero product free = let none : pos other ≡ pos 0 = product ∙ zero-*ℤ t.frame.pitch.x in omega (arith, ints, none)
        wider_than (suc n) product free =
            let found = subst (λ (q : Row). (first count : ℕ) → 0 < count → IsFreeRun t q first count
            → Any (λ run. (run.y ≡ q.y) × ((pos count *ℤ t.frame.pitch.x) ≤ℤ pos run.width)) runs)
            h.of_frame.2 (of.widest h.of_frame.0 h.row h.of_frame.1) h.first (suc n) (omega arith) free in
            let near : IsNearRowRun target (far_of t) runs found.1 = run_near found.1 h.row found.4.0 h.near in
            let fits = w.no_wider found.0 found.1 found.2 in
            let bound : found.1.width ≤ width = subst (λ (q : RowRun). IsNearRowRun target (far_of t) runs q → q.width ≤ width) found.3 fits near in
            let at_least = found.4.1 in
            omega (arith, ints, product, at_least, bound)

-- the gap of a cell, near its place in a list
pub gap_of_cell : (f : Frame) (team padding : ℕ) (table : Cells) (runs : List RowRun) → AreRunsOfTeam (placed_team f team padding (cells_of table team)) runs
    → (places : List (Option Place)) (own width far : ℕ) (id : CellId) (target : Point) → id_in (cells_of table team) team own ≡ Some id
    → target ≡ option_map_or corner (place_at places id.own) (anchor f team) → far ≡ 8 * unsigned_abs f.pitch.y
    → IsWidestNear target far runs width → IsGapOf (placed_team f team padding (cells_of table team)) (place_at places) own width
gap_of_cell f team padding table runs of places own width far id target known is_there is near = go (slice_get (cells_of table team) own) refl where
  go : (o : Option Cell) → slice_get (cells_of table team) own ≡ o
      → MatchOption o (width ≡ 0) (λ c. IsGapAt (placed_team f team padding (cells_of table team)) (gap_target (placed_team f team padding (cells_of table team)) (place_at places own)) width)
  go None none = absurd (no_id (ap (option_map (λ (c : Cell). id_of team own)) (sym none) ∙ known)) where
    no_id : None ≡ Some id → ⊥
    no_id e = cc
  go (Some c) some =
      let same : id ≡ id_of team own = the_id (sym known ∙ ap (option_map (λ (x : Cell). id_of team own)) some) in
      let there : target ≡ option_map_or corner (place_at places own) (anchor f team) = is_there
      ∙ ap (λ (i : CellId). option_map_or corner (place_at places i.own) (anchor f team)) same in
      subst (λ (p : Point). IsGapAt (placed_team f team padding (cells_of table team)) p width) there
      (gap_at (placed_team f team padding (cells_of table team)) target runs of far width is near) where
        the_id : Some id ≡ Some (id_of team own) → id ≡ id_of team own
        the_id e = cc

-- one more cell
pub gaps_more : (t : PlacedTeam) (place_of : ℕ → Option Place) (owns : List ℕ) (k : ℕ) (d : ℕ) (gaps new : List ℕ) (gap : ℕ) → IsGapOf t place_of (get_or owns k d) gap
    → k < length owns → new ≡ gaps ++ gap ∷ [] → AreGaps t place_of (take k owns) gaps → AreGaps t place_of (take (k + 1) owns) new
gaps_more t place_of owns k d gaps new gap is within grown so =
    subst (λ (list : List ℕ). AreGaps t place_of (take (k + 1) owns) list) (sym grown)
    (subst (λ (list : List ℕ). AreGaps t place_of list (gaps ++ gap ∷ [])) (sym (take_more owns k d within))
    (AllZip-push (IsGapOf t place_of) (take k owns) gaps (get_or owns k d) gap so is))
