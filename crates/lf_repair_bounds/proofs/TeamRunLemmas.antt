-- The runs of a team's strips as free runs of its rows.
use Rattle.std.proofs.Common.{◌≡◌, ◌∙◌, ◌⊎◌, inl, inr, ℕ, ◌+◌, ◌<◌, ◌≤◌, ℤ, pos, negsuc, ◌+ℤ◌, ◌-ℤ◌, ◌*ℤ◌, ◌≤ℤ◌, ◌<ℤ◌, List, [], ◌∷◌, ◌++◌, length, get_or, map, Option, Some, refl, ap, sym, subst, arith}
use Rattle.std.specs.Prelude.{All, Any, slice_get}
use Rattle.std.specs.Option.{option_map_or}
use Rattle.std.proofs.lemmas.Int.{ints}
use Rattle.std.proofs.lemmas.List.{get_or_default, get_or-map, length-map}
use Rattle.std.proofs.lemmas.List.Elements.{All-map, All-push, All-same}
use Rattle.std.proofs.lemmas.List.Quantifiers.{Any-push}
use Rattle.std.proofs.lemmas.Nat.{mul-le}
use Rattle.std.proofs.lemmas.Option.{get_or_from_slice_get, slice_get-get_or, slice_get_within}
use Rattle.lf_units.specs.declared.geometry.Rect.{Rect}
use Rattle.lf_units.specs.Area.{Covers}
use Rattle.lf_floorplan.specs.declared.frame.Frame.{Frame}
use Rattle.lf_floorplan.specs.declared.parts.Row.{Row}
use Rattle.lf_floorplan.specs.Ground.{InGround}
use Rattle.lf_floorplan.specs.Rows.{IsCoreRow, row_area}
use Rattle.lf_segments.specs.declared.strip.Strip.{Strip}
use Rattle.lf_segments.specs.Indexes.{FrameIndexView, IsIndexOf}
use Rattle.lf_segments.specs.Strips.{row_y, strip_of}
use Rattle.lf_units.specs.declared.placed.Placed.{Placed}
use Rattle.lf_repair_bounds.specs.declared.near_runs.RowRun.{RowRun}
use Rattle.lf_repair_bounds.specs.FreeRuns.{AreBlockedOf, AreRunsOfStrips, AreRunsOfTeam, IsInRow, IsRunInRow, IsRunOfStrip, IsStripRun, IsUnblocked, LiesOnRow}
use Rattle.lf_repair_bounds.specs.Gaps.{IsFreeRun, IsRowOfTeam, PlacedTeam, sites_area}
use Rattle.lf_repair_bounds.specs.ImpossibleMacros.{IsUsableAt}
use Rattle.lf_repair_bounds.proofs.ReasonLemmas.{row_there}
use Rattle.lf_repair_bounds.proofs.StripRunLemmas.{any_left}
use Rattle.lf_repair_bounds.proofs.SiteLemmas.{begins, ends, fewer, is_wide, times}

natural : (z : ℤ) → pos 0 <ℤ z → (n : ℕ) × (pos n ≡ z) × (0 < n)
natural (pos n) h = (n, refl, omega (arith, ints, h))
natural (negsuc n) h = absurd (omega (arith, ints, h))

y_of : (y : ℤ) (a b : Row) → y ≡ a.y → a ≡ b → y ≡ b.y
y_of y a b is same = is ∙ ap (λ (r : Row). r.y) same

pub same_row : (a b : Row) (o : Option Row) → o ≡ Some a → o ≡ Some b → a ≡ b
same_row a b o first second = cc

-- ---- strips on their rows

in_row : (f : Frame) (number team : ℕ) (lo hi : ℤ) → number < length f.rows → lo <ℤ hi
    → ((r : Row) → slice_get f.rows number ≡ Some r → (x : ℤ) → lo ≤ℤ x → x <ℤ hi → IsUsableAt f r team x)
    → IsInRow f record { row = number; team = team; area = record { x1 = lo; y1 = row_y f number; x2 = hi; y2 = row_y f number +ℤ f.pitch.y } }
in_row f number team lo hi known filled opens =
    let there = row_there f.rows number known in
    let r : Row = there.0 in
    let core : IsCoreRow f.pitch r = subst (IsCoreRow f.pitch) (get_or_from_slice_get f.rows number r r there.1) (f.rows_are_core number r known) in
    let first = (opens r there.1 lo (omega (arith, ints)) filled).left in
    let last = (opens r there.1 (hi -ℤ pos 1) (omega (arith, ints, filled)) (omega (arith, ints))).right in
    let above = core.x_in_def.above in
    let stops = core.ends in
    let y : row_y f number ≡ r.y = ap (λ (o : Option Row). option_map_or (λ q. q.y) o (pos 0)) there.1 in
    record {
      row = r;
      is_in_place = there.1;
      lies = record {
        left = first;
        wide = filled;
        right = omega (arith, ints, last);
        from = omega (arith, ints, above);
        to = omega (arith, ints, last, stops);
        bottom = y;
        top = ap (λ (z : ℤ). z +ℤ f.pitch.y) y;
      };
    }

-- the strip's team may use the strip's row at each number of the strip
abbrev IsOpenStrip : Frame → Strip → Type 0
IsOpenStrip f s = (r : Row) → slice_get f.rows s.row ≡ Some r → (x : ℤ) → s.area.x1 ≤ℤ x → x <ℤ s.area.x2 → IsUsableAt f r s.team x

-- the strip is of this row and team, and its x range holds this one
record IsStripOver (n team : ℕ) (lo hi : ℤ) (s : Strip) : Type 0 where
  in_row : s.row ≡ n
  of_team : s.team ≡ team
  left : s.area.x1 ≤ℤ lo
  right : hi ≤ℤ s.area.x2

module _ (f : Frame) (g : FrameIndexView) (index : IsIndexOf f g) where
  strips_open : All (IsOpenStrip f) g.strips
  strips_open = All-same (IsOpenStrip f) g.strips (map (strip_of f) g.segments) index.strips
      (All-map (IsOpenStrip f) (strip_of f) g.segments
      (λ k e within r there x low high.
      let s = get_or g.segments k e in
      let known = index.segments.known k e within in
      let at = (index.segments.exact s.row r s.team s.span there known.filled).0
      (k, s, within, get_or_default g.segments k s e within, (record { in_row = refl; of_team = refl }, λ y h. h)) x record { low = low; high = high } in
      record { left = at.clear.left; right = at.clear.right; clear = at.clear.clear; in_ground = at.ground }))

  pub strips_in_rows : All (IsInRow f) g.strips
  strips_in_rows = All-same (IsInRow f) g.strips (map (strip_of f) g.segments) index.strips
      (All-map (IsInRow f) (strip_of f) g.segments
      (λ k e within.
      let s = get_or g.segments k e in
      let known = index.segments.known k e within in
      in_row f s.row s.team s.span.lo s.span.hi known.row_known known.filled
      (λ r there x low high.
      let at = (index.segments.exact s.row r s.team s.span there known.filled).0
      (k, s, within, get_or_default g.segments k s e within, (record { in_row = refl; of_team = refl }, λ y h. h)) x record { low = low; high = high } in
      record { left = at.clear.left; right = at.clear.right; clear = at.clear.clear; in_ground = at.ground })))

  -- a range of a row that the team may use lies over one of its strips
  strip_over : (n team : ℕ) (r : Row) (lo hi : ℤ) → slice_get f.rows n ≡ Some r → lo <ℤ hi → ((x : ℤ) → lo ≤ℤ x → x <ℤ hi → IsUsableAt f r team x)
      → Any (IsStripOver n team lo hi) g.strips
  strip_over n team r lo hi there filled opens =
      let in_one = (index.segments.exact n r team record { lo = lo; hi = hi } there filled).1
      (λ x h. let at = opens x h.low h.high in record { clear = record { left = at.left; right = at.right; clear = at.clear }; ground = at.in_ground }) in
      let s = in_one.1 in
      let first = (in_one.4.1 lo record { low = omega (arith, ints); high = filled }).low in
      let last = (in_one.4.1 (hi -ℤ pos 1) record { low = omega (arith, ints, filled); high = omega (arith, ints) }).high in
      let many = length-map g.segments (strip_of f) in
      let inside = in_one.2 in
      subst (λ (strips : List Strip). Any (IsStripOver n team lo hi) strips) (sym index.strips) (
        in_one.0,
        strip_of f s,
        omega (arith, many, inside),
        get_or-map (strip_of f) g.segments in_one.0 s (strip_of f s) in_one.2 ∙ ap (strip_of f) in_one.3,
        record { in_row = in_one.4.0.in_row; of_team = in_one.4.0.of_team; left = first; right = omega (arith, ints, last) },
      )

-- ---- free runs

module _ (t : PlacedTeam) (tree : List Placed) (blocked : AreBlockedOf t tree) where
  free_of_strip : (s : Strip) (r : Row) (first count : ℕ) → s.team ≡ t.team → slice_get t.frame.rows s.row ≡ Some r → IsOpenStrip t.frame s → LiesOnRow t.frame r s.area
      → IsStripRun t.frame r s.area tree first count → IsFreeRun t r first count
  free_of_strip s r first count own there opens lies strip = record {
    within = within (natural t.frame.pitch.x t.frame.pitch_whole.wide);
    in_ground = λ x y c. subst (λ (team : ℕ). InGround t.frame team x y) own ((usable x c.left c.right).in_ground y (on_row x y c));
    clear = λ k d inside o. (usable o.x o.in_first.left o.in_first.right).clear o.y (on_row o.x o.y o.in_first) k d inside o.in_second;
    off_soft = free.off_soft;
    apart = free.apart;
  }
    where
      run : Rect
      run = sites_area t.frame r first count

      free : IsUnblocked t run
      free = (blocked run).0 strip.off

      usable : (x : ℤ) → run.x1 ≤ℤ x → x <ℤ run.x2 → IsUsableAt t.frame r s.team x
      usable x low high = let left = strip.left in let right = strip.right in opens r there x (omega (arith, ints, left, low)) (omega (arith, ints, right, high))

      on_row : (x y : ℤ) → Covers run x y → Covers (row_area t.frame.pitch r) x y
      on_row x y c = let at = usable x c.left c.right in record { left = at.left; right = at.right; bottom = c.bottom; top = c.top }

      within : ((n : ℕ) × (pos n ≡ t.frame.pitch.x) × (0 < n)) → (first + count) ≤ r.sites
      within (step, is, some) =
          let right = strip.right in
          let over = lies.right in
          let last = ends t.frame r step first count is in
          let whole = times t.frame step r.sites is in
          fewer (first + count) r.sites step some (omega (arith, ints, right, over, last, whole))

  -- the x range of a free run is usable
  run_usable : (r : Row) (first count : ℕ) → IsFreeRun t r first count → (x : ℤ) → (sites_area t.frame r first count).x1 ≤ℤ x
      → x <ℤ (sites_area t.frame r first count).x2 → IsUsableAt t.frame r t.team x
  run_usable r first count free x low high = record {
    left = left (natural t.frame.pitch.x t.frame.pitch_whole.wide);
    right = right (natural t.frame.pitch.x t.frame.pitch_whole.wide);
    clear = λ y c k d inside o. free.clear k d inside record { x = x; y = y; in_first = in_run y c; in_second = o };
    in_ground = λ y c. free.in_ground x y (in_run y c);
  }
    where
      in_run : (y : ℤ) → Covers (row_area t.frame.pitch r) x y → Covers (sites_area t.frame r first count) x y
      in_run y c = record { left = low; right = high; bottom = c.bottom; top = c.top }

      left : ((n : ℕ) × (pos n ≡ t.frame.pitch.x) × (0 < n)) → r.x ≤ℤ x
      left (step, is, some) = let start = begins t.frame r step first count is in omega (arith, ints, start, low)

      right : ((n : ℕ) × (pos n ≡ t.frame.pitch.x) × (0 < n)) → x <ℤ (row_area t.frame.pitch r).x2
      right (step, is, some) =
          let last = ends t.frame r step first count is in
          let whole = times t.frame step r.sites is in
          let fits = mul-le (first + count) step r.sites step free.within (omega arith) in
          omega (arith, ints, last, whole, fits, high)

  run_wide : (r : Row) (first count : ℕ) → 0 < count → ((n : ℕ) × (pos n ≡ t.frame.pitch.x) × (0 < n))
      → (sites_area t.frame r first count).x1 <ℤ (sites_area t.frame r first count).x2
  run_wide r first count more (step, is, some) = is_wide t.frame r step first count is some more

  module _ (g : FrameIndexView) (index : IsIndexOf t.frame g) (runs : List RowRun) (of : AreRunsOfStrips t.frame t.team tree g.strips runs) where
    -- the run of a strip of the team
    run_of : (k : ℕ) (s : Strip) → k < length g.strips → get_or g.strips k s ≡ s → s.team ≡ t.team → Any (IsRunOfStrip t.frame tree s) runs
    run_of k s within is own =
        subst (λ (q : Strip). q.team ≡ t.team → Any (IsRunOfStrip t.frame tree q) runs) is (of.each k s within) own

    are : All (λ run. Any (IsRunInRow t run) t.frame.rows) runs
    are k d within =
        let any = of.are k d within in
        let s : Strip = any.1 in
        let is = any.4.1 in
        let r : Row = is.row in
        let there = is.is_in_place in
        let inside : IsInRow t.frame s = subst (IsInRow t.frame) any.3 (strips_in_rows t.frame g index any.0 any.1 any.2) in
        let opens : IsOpenStrip t.frame s = subst (IsOpenStrip t.frame) any.3 (strips_open t.frame g index any.0 any.1 any.2) in
        let same : inside.row ≡ r = same_row inside.row r (slice_get t.frame.rows s.row) inside.is_in_place there in
        let lies : LiesOnRow t.frame r s.area = subst (λ (q : Row). LiesOnRow t.frame q s.area) same inside.lies in
        let at : IsUsableAt t.frame r s.team s.area.x1 = opens r there s.area.x1 (omega (arith, ints)) lies.wide in (
          s.row,
          r,
          slice_get_within t.frame.rows s.row r there,
          get_or_from_slice_get t.frame.rows s.row r r there,
          record {
            y = is.y;
            of_team = (s.area.x1, subst (λ (team : ℕ). IsUsableAt t.frame r team s.area.x1) any.4.0 at);
            is = elim is.widest.is_one [
              | inl none ↦ inl none
              | inr one ↦ inr (one.0, one.1, free_of_strip s r one.0 one.1 any.4.0 there opens lies one.2, one.3)
            ];
          },
        )

    each : All (λ r. IsRowOfTeam t.frame t.team r → Any (λ run. run.y ≡ r.y) runs) t.frame.rows
    each n d within own =
        let r : Row = get_or t.frame.rows n d in
        let there : slice_get t.frame.rows n ≡ Some r = slice_get-get_or t.frame.rows n d within in
        let x : ℤ = own.0 in
        let any = strip_over t.frame g index n t.team r x (x +ℤ pos 1) there (omega (arith, ints))
        (λ z low high. let same : x ≡ z = omega (arith, ints, low, high) in subst (IsUsableAt t.frame r t.team) same own.1) in
        let got = run_of any.0 any.1 any.2 any.3 any.4.of_team in
        let is = got.4 in
        let placed : slice_get t.frame.rows n ≡ Some is.row = subst (λ (m : ℕ). slice_get t.frame.rows m ≡ Some is.row) any.4.in_row is.is_in_place in
        (got.0, got.1, got.2, got.3, y_of got.1.y is.row r is.y (same_row is.row r (slice_get t.frame.rows n) placed there))

    widest : All (λ r. (first count : ℕ) → 0 < count → IsFreeRun t r first count
        → Any (λ run. (run.y ≡ r.y) × ((pos count *ℤ t.frame.pitch.x) ≤ℤ pos run.width)) runs) t.frame.rows
    widest n d within first count more free =
        let r : Row = get_or t.frame.rows n d in
        let there : slice_get t.frame.rows n ≡ Some r = slice_get-get_or t.frame.rows n d within in
        let run : Rect = sites_area t.frame r first count in
        let any = strip_over t.frame g index n t.team r run.x1 run.x2 there (run_wide r first count more (natural t.frame.pitch.x t.frame.pitch_whole.wide))
        (run_usable r first count free) in
        let s : Strip = any.1 in
        let strip : IsStripRun t.frame r s.area tree first count = record {
          left = any.4.left;
          right = any.4.right;
          off = (blocked run).1 record { apart = free.apart; off_soft = free.off_soft };
        } in
        let got = run_of any.0 any.1 any.2 any.3 any.4.of_team in
        let is = got.4 in
        let placed : slice_get t.frame.rows n ≡ Some is.row = subst (λ (m : ℕ). slice_get t.frame.rows m ≡ Some is.row) any.4.in_row is.is_in_place in
        let same : is.row ≡ r = same_row is.row r (slice_get t.frame.rows n) placed there in
        let strip_here : IsStripRun t.frame is.row s.area tree first count = subst (λ (q : Row). IsStripRun t.frame q s.area tree first count) (sym same) strip in
        (got.0, got.1, got.2, got.3, (y_of got.1.y is.row r is.y same, is.widest.no_wider first count more strip_here))

    pub team_runs : AreRunsOfTeam t runs
    team_runs = record { are = are; each = each; widest = widest }

-- ---- the runs of strips, one by one

below_or_at : (m k : ℕ) → m < k + 1 → (m < k) ⊎ (m ≡ k)
below_or_at m k less = grind arith

-- the runs of the first n strips
pub record AreRunsSo (f : Frame) (team : ℕ) (tree : List Placed) (strips : List Strip) (n : ℕ) (runs : List RowRun) : Type 0 where
  pub are : All (λ run. Any (λ g. (g.team ≡ team) × IsRunOfStrip f tree g run) strips) runs
  pub each : (k : ℕ) (d : Strip) → k < n → (get_or strips k d).team ≡ team → Any (IsRunOfStrip f tree (get_or strips k d)) runs

module _ (f : Frame) (team : ℕ) (tree : List Placed) (strips : List Strip) where
  pub runs_more : (n : ℕ) (d : Strip) (runs new : List RowRun) (run : RowRun) → IsRunOfStrip f tree (get_or strips n d) run → n < length strips
      → (get_or strips n d).team ≡ team → new ≡ runs ++ run ∷ [] → AreRunsSo f team tree strips n runs → AreRunsSo f team tree strips (n + 1) new
  runs_more n d runs new run is_run within own is c = subst (AreRunsSo f team tree strips (n + 1)) (sym is) record {
    are = All-push (λ (r : RowRun). Any (λ g. (g.team ≡ team) × IsRunOfStrip f tree g r) strips) runs run c.are
        (n, get_or strips n d, within, get_or_default strips n (get_or strips n d) d within, (own, is_run));
    each = λ k e below mine. elim (below_or_at k n below) [
      | inl h ↦ any_left (IsRunOfStrip f tree (get_or strips k e)) runs (run ∷ []) (c.each k e h mine)
      | inr h ↦
          let Has : Strip → Type 0 = λ s. Any (IsRunOfStrip f tree s) (runs ++ run ∷ []) in
          let here : Has (get_or strips n d) = Any-push (IsRunOfStrip f tree (get_or strips n d)) runs run is_run in
          let At : ℕ → Type 0 = λ m. Has (get_or strips m e) in
          subst At (sym h) (subst Has (get_or_default strips n d e within) here)
    ];
  }

  pub runs_skip : (n : ℕ) (d : Strip) (runs : List RowRun) → ((get_or strips n d).team ≡ team → ⊥) → n < length strips
      → AreRunsSo f team tree strips n runs → AreRunsSo f team tree strips (n + 1) runs
  runs_skip n d runs other within c = record {
    are = c.are;
    each = λ k e below mine. elim (below_or_at k n below) [
      | inl h ↦ c.each k e h mine
      | inr h ↦
          let Own : ℕ → Type 0 = λ m. (get_or strips m e).team ≡ team in
          absurd (other (subst (λ (s : Strip). s.team ≡ team) (get_or_default strips n e d within) (subst Own h mine)))
    ];
  }
