-- A slice of a loaded design.
use Rattle.std.proofs.Common.{◌≡◌, ◌≢◌, ℕ, zero, suc, ◌+◌, ◌<◌, ◌≤◌, ◌⊎◌, inl, inr, List, [], ◌∷◌, ◌++◌, length, map, filter, eqb, Bool, true, false, cond, Option, Some, refl, ap, sym, ◌∙◌, subst, arith, length-append}
use Rattle.std.specs.Prelude.{All, slice_get, unwrap_or}
use Rattle.std.specs.List.{AllZip}
use Rattle.std.proofs.lemmas.Bool.{eqb-true}
use Rattle.std.proofs.lemmas.List.{length-map}
use Rattle.std.proofs.lemmas.List.Elements.{All-append, All-filter, All-map, All-weaker, Contains-append_right, filter_passes}
use Rattle.std.proofs.lemmas.List.Kept.{AllPairs-filter}
use Rattle.std.proofs.lemmas.List.Sums.{length-filter, count_by-le-length}
use Rattle.lf_units.specs.declared.geometry.Rect.{Rect}
use Rattle.lf_floorplan.specs.declared.frame.Frame.{Frame}
use Rattle.lf_floorplan.specs.declared.loaded.LoadedCell.{LoadedCell}
use Rattle.lf_floorplan.specs.declared.loaded.Loaded.{Loaded}
use Rattle.lf_floorplan.specs.declared.macros.Macro.{Macro}
use Rattle.lf_floorplan.specs.Bounds.{IsDefRect}
use Rattle.lf_floorplan.specs.Boxes.{macro_of, no_macro}
use Rattle.lf_floorplan.specs.Design.{IsCell, CellsNamed, ComponentsRise}
use Rattle.lf_floorplan.specs.Obstacles.{IsMacroBox, IsObstacle}
use Rattle.lf_cells.specs.Initial.{initial_cell}
use Rattle.lf_floor_model.specs.Teams.{team_number}
use Rattle.lf_floor_model.proofs.Openings.{pairs_map}
use Rattle.lf_laws_slices.specs.Alike.{AreSameRects, AreFramesAlike, AreCellsAlike, AreDesignsAlike}
use Rattle.lf_laws_slices.specs.Slices.{IsInLef, IsSlice}
use Rattle.lf_laws_slices.proofs.Rules.{all_of_same, sized_on}
use mathlib.Core.Logic.{∥∥₁_map}

-- ---- a frame with macros in front, and its obstacles in another order

module _ (f : Frame) (more : List Macro) (obstacles soft : List Rect) (in_lef : All IsInLef more) (same : AreSameRects f.obstacles obstacles) (same_soft : AreSameRects f.soft soft) where
  box_after : (r : Rect) → IsMacroBox f.header.units f.macros r → IsMacroBox f.header.units (more ++ f.macros) r
  box_after r b = record {
    mac = b.mac;
    known = Contains-append_right more f.macros b.mac b.known;
    whole = b.whole;
    orient = b.orient;
    x_in_def = b.x_in_def;
    y_in_def = b.y_in_def;
    box = b.box;
  }

  either_after : (r : Rect) → IsDefRect r ⊎ IsMacroBox f.header.units f.macros r → IsDefRect r ⊎ IsMacroBox f.header.units (more ++ f.macros) r
  either_after r (inl rect) = inl rect
  either_after r (inr box) = inr (box_after r box)

  obstacle_after : (r : Rect) → IsObstacle f.header.units f.macros r → IsObstacle f.header.units (more ++ f.macros) r
  obstacle_after r obstacle = ∥∥₁_map obstacle (either_after r)

  abbrev frame_after : Frame
  frame_after = record {
    site = f.site;
    pitch = f.pitch;
    rows = f.rows;
    teams = f.teams;
    obstacles = obstacles;
    soft = soft;
    macros = more ++ f.macros;
    header = f.header;
    limits = f.limits;
    units_in_range = f.units_in_range;
    site_in_lef = f.site_in_lef;
    pitch_whole = f.pitch_whole;
    has_row = f.has_row;
    few_rows = f.few_rows;
    rows_are_core = f.rows_are_core;
    rows_apart = f.rows_apart;
    few_fences = f.few_fences;
    fences_whole = f.fences_whole;
    fences_named = f.fences_named;
    fences_apart = f.fences_apart;
    obstacles_in_range =
        All-weaker (IsObstacle f.header.units f.macros) (IsObstacle f.header.units (more ++ f.macros)) obstacle_after obstacles
        (all_of_same (IsObstacle f.header.units f.macros) f.obstacles obstacles (λ r. (same r).1) f.obstacles_in_range);
    soft_in_def = all_of_same IsDefRect f.soft soft (λ r. (same_soft r).1) f.soft_in_def;
    macros_in_lef = All-append IsInLef more f.macros in_lef f.macros_in_lef;
  }

  frames_alike : AreFramesAlike f frame_after
  frames_alike = record {
    header = refl;
    site = refl;
    pitch = refl;
    rows = refl;
    fences = refl;
    limits = refl;
    obstacles = same;
    soft = same_soft;
  }

-- ---- numbers of macros after others

after_it : {X : Type 0} (more xs : List X) (n : ℕ) → slice_get (more ++ xs) (length more + n) ≡ slice_get xs n
after_it [] xs n =
    let at : zero + n ≡ n = omega arith in
    ap (λ (k : ℕ). slice_get xs k) at
after_it (x ∷ more) xs n =
    let at : suc (length more) + n ≡ suc (length more + n) = omega arith in
    ap (λ (k : ℕ). slice_get (x ∷ (more ++ xs)) k) at ∙ after_it more xs n

-- ---- the cells of the team

module _ (whole : Loaded) (number : ℕ) (more : List Macro) (g : Frame) (alike : AreFramesAlike whole.frame g) (teams_are : g.teams ≡ whole.frame.teams) (macros_are : g.macros ≡ more ++ whole.frame.macros) where
  abbrev is_own : LoadedCell → Bool
  is_own c = eqb c.team number

  -- the cell, with the number of its macro after the others
  abbrev renumbered : LoadedCell → LoadedCell
  renumbered c = record { name = c.name; team = c.team; mac = length more + c.mac; place = c.place; component = c.component }

  abbrev cells_after : List LoadedCell
  cells_after = map renumbered (filter is_own whole.cells)

  macro_there : (n : ℕ) → slice_get g.macros (length more + n) ≡ slice_get whole.frame.macros n
  macro_there n = ap (λ (ms : List Macro). slice_get ms (length more + n)) macros_are ∙ after_it more whole.frame.macros n

  macro_same : (n : ℕ) → macro_of whole.frame n ≡ macro_of g (length more + n)
  macro_same n = ap (λ (o : Option Macro). unwrap_or o no_macro) (sym (macro_there n))

  cell_after : (c : LoadedCell) → IsCell whole.frame c → IsCell g (renumbered c)
  cell_after c known =
      let long : length g.macros ≡ length more + length whole.frame.macros =
      ap (λ (ms : List Macro). length ms) macros_are ∙ length-append more whole.frame.macros in
      record {
        team_known = rw teams_are known.team_known;
        mac_known = omega (arith, long, known.mac_known);
        mac_sized = λ m there. sized_on whole.frame g alike m (known.mac_sized m (sym (macro_there c.mac) ∙ there));
        name_printed = known.name_printed;
      }

  abbrev slice_with : Loaded
  slice_with = record {
    frame = g;
    cells = cells_after;
    few_cells = few;
    cells_known = known;
    names_differ = named;
    components_rise = rise;
  } where
    few : length cells_after ≤ 4000000
    few = rw (length-map (filter is_own whole.cells) renumbered, length-filter is_own whole.cells) (omega (arith, count_by-le-length is_own whole.cells, whole.few_cells))

    known : All (IsCell g) cells_after
    known =
        All-map (IsCell g) renumbered (filter is_own whole.cells)
        (All-filter is_own (λ c. IsCell g (renumbered c)) whole.cells (All-weaker (IsCell whole.frame) (λ c. IsCell g (renumbered c)) cell_after whole.cells whole.cells_known))

    named : CellsNamed cells_after
    named =
        pairs_map renumbered (λ (a : LoadedCell) (b : LoadedCell). a.name ≢ b.name) (filter is_own whole.cells)
        (AllPairs-filter (λ (a : LoadedCell) (b : LoadedCell). a.name ≢ b.name) is_own whole.cells whole.names_differ)

    rise : ComponentsRise cells_after
    rise =
        pairs_map renumbered (λ (a : LoadedCell) (b : LoadedCell). a.component < b.component) (filter is_own whole.cells)
        (AllPairs-filter (λ (a : LoadedCell) (b : LoadedCell). a.component < b.component) is_own whole.cells whole.components_rise)

  slice_own : All (λ c. c.team ≡ number) cells_after
  slice_own =
      All-map (λ (c : LoadedCell). c.team ≡ number) renumbered (filter is_own whole.cells)
      (All-weaker (λ c. is_own c ≡ true) (λ (c : LoadedCell). c.team ≡ number) (λ c own. eqb-true c.team number own) (filter is_own whole.cells) (filter_passes is_own whole.cells))

  one_after : (c : LoadedCell) → AreCellsAlike whole.frame g (initial_cell c) (initial_cell (renumbered c))
  one_after c = record { name = refl; working = refl; committed = refl; same_macro = macro_same c.mac }

  own_after : (cs : List LoadedCell)
      → AllZip (AreCellsAlike whole.frame g) (map initial_cell (filter is_own cs)) (map initial_cell (filter is_own (map renumbered (filter is_own cs))))
  own_after [] = tt
  own_after (c ∷ cs) = by (is_own c) refl (own_after cs) where
    same_team : is_own (renumbered c) ≡ is_own c
    same_team = refl

    later : List LoadedCell
    later = filter is_own (map renumbered (filter is_own cs))

    by : (b : Bool) → is_own c ≡ b
        → AllZip (AreCellsAlike whole.frame g) (map initial_cell (filter is_own cs)) (map initial_cell (filter is_own (map renumbered (filter is_own cs))))
        → AllZip (AreCellsAlike whole.frame g) (map initial_cell (cond b (c ∷ filter is_own cs) (filter is_own cs)))
        (map initial_cell (filter is_own (map renumbered (cond b (c ∷ filter is_own cs) (filter is_own cs)))))
    by false is rest = rest
    by true is rest =
        subst (λ (b : Bool). AllZip (AreCellsAlike whole.frame g) (initial_cell c ∷ map initial_cell (filter is_own cs)) (map initial_cell (cond b (renumbered c ∷ filter is_own (map renumbered (filter is_own cs))) (filter is_own (map renumbered (filter is_own cs))))))
        (sym (same_team ∙ is)) (one_after c, rest)

  slice_alike : (team : List ℕ) → team_number whole.frame team ≡ Some number → AreDesignsAlike team whole slice_with
  slice_alike team named = record { frames = alike; number = number; named = named; cells = own_after whole.cells }

pub slice_there : (whole : Loaded) (team : List ℕ) (number : ℕ) (more : List Macro) (obstacles soft : List Rect)
    → team_number whole.frame team ≡ Some number
    → All IsInLef more → AreSameRects whole.frame.obstacles obstacles → AreSameRects whole.frame.soft soft
    → (slice : Loaded) × IsSlice number more obstacles soft whole slice × AreDesignsAlike team whole slice
slice_there whole team number more obstacles soft named in_lef same same_soft =
    let g = frame_after whole.frame more obstacles soft in_lef same same_soft in
    let alike = frames_alike whole.frame more obstacles soft in_lef same same_soft in (
      slice_with whole number more g alike refl refl,
      record { own = slice_own whole number more g alike refl refl; macros_are = refl; obstacles_are = refl; soft_are = refl },
      slice_alike whole number more g alike refl refl team named,
    )
