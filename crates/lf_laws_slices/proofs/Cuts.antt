-- The whole design and its slice load as designs that are alike.
use Rattle.std.proofs.Common.{◌≡◌, ℕ, ℤ, pos, negsuc, ◌+◌, ◌*ℤ◌, ◌<ℤ◌, inl, inr, List, [], ◌∷◌, Bool, true, false, cond, eqb, map, filter, Option, Some, None, refl, ap, sym, ◌∙◌, subst, arith}
use Rattle.std.specs.Prelude.{All, Decides, option_map, slice_get, unwrap_or}
use Rattle.std.specs.List.{AllZip}
use Rattle.std.proofs.Props.{props}
use Rattle.std.proofs.Math.Path.{Σ_path, to_path_p}
use Rattle.std.proofs.lemmas.Bool.{eq-eqb}
use Rattle.std.proofs.lemmas.Int.{ints}
use Rattle.std.proofs.lemmas.List.Elements.{All-head, All-tail}
use Rattle.std.proofs.lemmas.Option.{same_Some}
use Rattle.lf_units.specs.declared.geometry.Point.{Point}
use Rattle.lf_units.specs.declared.geometry.Rect.{Rect}
use Rattle.lf_names.specs.Names.{position_of}
use Rattle.lf_lef.specs.Contents.{macro_names}
use Rattle.lf_def.specs.declared.regions.Region.{Region}
use Rattle.lf_def.specs.declared.groups.Group.{Group}
use Rattle.lf_def.specs.declared.components.Component.{Component}
use Rattle.lf_def.specs.declared.components.Location.{Location}
use Rattle.lf_def.specs.declared.rows.RowStatement.{RowStatement as DefRow}
use Rattle.lf_def.specs.Kinds.{is_movable}
use Rattle.lf_frame.specs.Teams.{IsTeamOfComponent}
use Rattle.lf_floorplan.specs.declared.frame.Frame.{Frame}
use Rattle.lf_floorplan.specs.declared.loaded.LoadedCell.{LoadedCell}
use Rattle.lf_floorplan.specs.declared.loaded.Loaded.{Loaded}
use Rattle.lf_floorplan.specs.declared.macros.Macro.{Macro}
use Rattle.lf_floorplan.specs.declared.parts.Header.{Header}
use Rattle.lf_floorplan.specs.declared.place.Place.{Place}
use Rattle.lf_floorplan.specs.declared.sites.Site.{Site}
use Rattle.lf_floorplan.specs.Boxes.{macro_of, no_macro}
use Rattle.lf_floorplan.specs.Rows.{IsPitch}
use Rattle.lf_frame.specs.Loading.{at_place, macro_named, is_core_row, frame_row}
use Rattle.lf_frame.specs.Findings.{LoadInputs}
use Rattle.lf_frame.specs.Loads.{location, as_location, movables_from, IsFrameOf, IsCellOf, IsLoadedFrom, obstacles_in, soft_in}
use Rattle.lf_cells.specs.Initial.{initial_cell, own_cells}
use Rattle.lf_floor_model.specs.Teams.{team_number}
use Rattle.lf_floor_model.proofs.Parts.{taken, passed, not_equal}
use Rattle.lf_laws_slices.specs.Alike.{AreSameRects, AreFramesAlike, AreCellsAlike, AreDesignsAlike}
use Rattle.lf_laws_slices.specs.Cuts.{IsOwn, AreSameComponents, IsCutFrom}

-- ---- frames

length_is_one : (a b t : ℤ) → a *ℤ pos 1000000 ≡ t → b *ℤ pos 1000000 ≡ t → a ≡ b
length_is_one a b t e h = omega (arith, ints)

pitch_is_one : (units : ℕ) (size p q : Point) → IsPitch units size p → IsPitch units size q → p ≡ q
pitch_is_one units size p q h k =
    let x : p.x ≡ q.x = length_is_one p.x q.x (size.x *ℤ pos units) h.across k.across in
    let y : p.y ≡ q.y = length_is_one p.y q.y (size.y *ℤ pos units) h.up k.up in
    λ d. record { x = x d; y = y d }

rects_same : (xs ys these those : List Rect) → xs ≡ these → ys ≡ those → AreSameRects these those → AreSameRects xs ys
rects_same xs ys these those x y same =
    subst (λ (zs : List Rect). AreSameRects zs ys) (sym x) (subst (λ (zs : List Rect). AreSameRects these zs) (sym y) same)

frames_alike : (number : ℕ) (i j : LoadInputs) (f g : Frame) → IsCutFrom number i j → IsFrameOf i f → IsFrameOf j g → AreFramesAlike f g
frames_alike number i j f g cut a b =
    let site : f.site ≡ g.site = same_Some f.site g.site (sym a.site ∙ cut.core ∙ b.site) in
    let header : f.header ≡ g.header = a.header ∙ cut.header ∙ sym b.header in
    let whole : IsPitch g.header.units g.site.size f.pitch =
    subst (λ (h : Header). IsPitch h.units g.site.size f.pitch) header (subst (λ (s : Site). IsPitch f.header.units s.size f.pitch) site f.pitch_whole) in
    record {
      header = header;
      site = site;
      pitch = pitch_is_one g.header.units g.site.size f.pitch g.pitch whole g.pitch_whole;
      rows =
          a.rows
          ∙ ap (λ (s : Site). map frame_row (filter (is_core_row s) i.document.rows)) site
          ∙ ap (λ (rows : List DefRow). map frame_row (filter (is_core_row g.site) rows)) cut.rows
          ∙ sym b.rows;
      fences = a.teams ∙ cut.fences_are ∙ sym b.teams;
      limits = a.limits ∙ cut.limits ∙ sym b.limits;
      obstacles = rects_same f.obstacles g.obstacles (obstacles_in i) (obstacles_in j) a.obstacles b.obstacles cut.obstacles;
      soft = rects_same f.soft g.soft (soft_in i) (soft_in j) a.soft b.soft cut.soft;
    }

-- ---- places

abbrev Kept : Location → Type 0
Kept l = (negsuc 2147483647 <ℤ l.x) × (negsuc 2147483647 <ℤ l.y)

abbrev place_with : ((l : Location) × Kept l) → Place
place_with (l, k) = record { x = l.x; y = l.y; orient = l.orient; x_in_def = k.0; y_in_def = k.1 }

abbrev kept_of : (p : Place) → Kept (as_location p)
kept_of p = (p.x_in_def, p.y_in_def)

kept_is_one : (l : Location) (k h : Kept l) → k ≡ h
kept_is_one l = hlevel props

one_place : (p q : Place) → as_location p ≡ as_location q → p ≡ q
one_place p q e =
    ap place_with (Σ_path {u = (as_location p, kept_of p)} {v = (as_location q, kept_of q)} e
    (to_path_p (λ i. Kept (e i)) (kept_is_one (as_location q) _ (kept_of q))))

same_location : (a b : Location) → ◌≡◌ {A = Option Location} (Some a) (Some b) → a ≡ b
same_location a b e = cc

places_same : (p q : Option Place) → option_map as_location p ≡ option_map as_location q → p ≡ q
places_same None None e = refl
places_same None (Some q) e = absurd cc
places_same (Some p) None e = absurd cc
places_same (Some p) (Some q) e = ap (λ (z : Place). Some z) (one_place p q (same_location (as_location p) (as_location q) e))

-- ---- cells

pub team_is_one : (regions : List Region) (groups : List Group) (name : List ℕ) (s t : ℕ) → IsTeamOfComponent regions groups name s → IsTeamOfComponent regions groups name t → s ≡ t
team_is_one regions groups name s t (inl a) (inl b) = let fence : b.fence ≡ a.fence = a.only b.fence b.claimed in cc (a.place, b.place)
team_is_one regions groups name s t (inl a) (inr b) = absurd (b.0 a.fence a.claimed)
team_is_one regions groups name s t (inr a) (inl b) = absurd (a.0 b.fence b.claimed)
team_is_one regions groups name s t (inr a) (inr b) = a.1 ∙ sym b.1

-- the cell of a component, except its position among all components
pub record Makes (i : LoadInputs) (c : Component) (cell : LoadedCell) : Type 0 where
  pub name : cell.name ≡ c.name
  pub team : IsOwn i cell.team c
  pub mac : position_of (macro_names i.library.macros) c.mac ≡ Some cell.mac
  pub place : option_map as_location cell.place ≡ location c

pub without_positions : (i : LoadInputs) (n : ℕ) (cs : List Component) (cells : List LoadedCell) → AllZip (IsCellOf i) (movables_from n cs) cells
    → AllZip (Makes i) (filter is_movable cs) cells
without_positions i n [] [] z = tt
without_positions i n [] (cell ∷ cells) z = absurd z
without_positions i n (c ∷ cs) cells z = by (is_movable c) cells z (λ others rest. without_positions i (n + 1) cs others rest) where
  by : (b : Bool) (cells : List LoadedCell) → AllZip (IsCellOf i) (cond b ((n, c) ∷ movables_from (n + 1) cs) (movables_from (n + 1) cs)) cells
      → ((others : List LoadedCell) → AllZip (IsCellOf i) (movables_from (n + 1) cs) others → AllZip (Makes i) (filter is_movable cs) others)
      → AllZip (Makes i) (cond b (c ∷ filter is_movable cs) (filter is_movable cs)) cells
  by false cells z rest = rest cells z
  by true [] z rest = absurd z
  by true (cell ∷ cells) z rest = (record { name = z.0.name; team = z.0.team; mac = z.0.mac; place = z.0.place }, rest cells z.1)

-- the macro of a cell is the one that its component names
macro_is : (i : LoadInputs) (f : Frame) (c : Component) (cell : LoadedCell) → IsFrameOf i f → Makes i c cell
    → macro_of f cell.mac ≡ unwrap_or (macro_named i.library c.mac) no_macro
macro_is i f c cell frame makes =
    ap (λ (macros : List Macro). unwrap_or (slice_get macros cell.mac) no_macro) frame.macros
    ∙ ap (λ (at : Option ℕ). unwrap_or (at_place i.library.macros at) no_macro) (sym makes.mac)

abbrev is_own : ℕ → LoadedCell → Bool
is_own number cell = eqb cell.team number

module _ (number : ℕ) (i j : LoadInputs) (f g : Frame) (frame : IsFrameOf i f) (frame' : IsFrameOf j g) where
  cell_alike : (c d : Component) (x y : LoadedCell) → Makes i c x → Makes j d y → AreSameComponents i j c d
      → AreCellsAlike f g (initial_cell x) (initial_cell y)
  cell_alike c d x y here there same =
      let place : x.place ≡ y.place = places_same x.place y.place (here.place ∙ same.location_is ∙ sym there.place) in
      record {
        name = here.name ∙ same.name ∙ sym there.name;
        working = place;
        committed = place;
        same_macro =
            macro_is i f c x frame here
            ∙ ap (λ (m : Option Macro). unwrap_or m no_macro) same.same_macro
            ∙ sym (macro_is j g d y frame' there);
      }

  own_team : (k : LoadInputs) (c : Component) (x : LoadedCell) → Makes k c x → IsOwn k number c → is_own number x ≡ true
  own_team k c x makes own =
      eq-eqb x.team number (team_is_one k.document.regions k.document.groups c.name x.team number makes.team own)

  other_team : (k : LoadInputs) (c : Component) (x : LoadedCell) → Makes k c x → (IsOwn k number c → ⊥) → is_own number x ≡ false
  other_team k c x makes other = not_equal x.team number (λ e. other (subst (λ (n : ℕ). IsOwn k n c) e makes.team))

  -- all cells of a slice are the team's
  all_own : (ds : List Component) (ys : List LoadedCell) → AllZip (Makes j) ds ys → All (IsOwn j number) ds → filter (is_own number) ys ≡ ys
  all_own [] [] z own = refl
  all_own [] (y ∷ ys) z own = absurd z
  all_own (d ∷ ds) [] z own = absurd z
  all_own (d ∷ ds) (y ∷ ys) z own =
      taken (is_own number) y ys (own_team j d y z.0 (All-head (IsOwn j number) d ds own))
      ∙ ap (λ (xs : List LoadedCell). y ∷ xs) (all_own ds ys z.1 (All-tail (IsOwn j number) d ds own))

  none_alike : (ds : List Component) (ys : List LoadedCell) → AllZip (AreSameComponents i j) [] ds → AllZip (Makes j) ds ys
      → AllZip (AreCellsAlike f g) [] (map initial_cell ys)
  none_alike [] [] same z = tt
  none_alike [] (y ∷ ys) same z = absurd z
  none_alike (d ∷ ds) ys same z = absurd same

  module _ (own : Component → Bool) where
    abbrev DecidesOwn : Component → Type 0
    DecidesOwn c = Decides (own c) (IsOwn i number c)

    own_alike : (cs : List Component) (xs : List LoadedCell) (ds : List Component) (ys : List LoadedCell) → All DecidesOwn cs → AllZip (Makes i) cs xs
        → AllZip (AreSameComponents i j) (filter own cs) ds → AllZip (Makes j) ds ys
        → AllZip (AreCellsAlike f g) (map initial_cell (filter (is_own number) xs)) (map initial_cell ys)
    own_alike [] [] ds ys decides z same w = none_alike ds ys same w
    own_alike [] (x ∷ xs) ds ys decides z same w = absurd z
    own_alike (c ∷ cs) [] ds ys decides z same w = absurd z
    own_alike (c ∷ cs) (x ∷ xs) ds ys decides z same w =
        by (own c) refl ds ys same w (λ ds ys same w. own_alike cs xs ds ys (All-tail DecidesOwn c cs decides) z.1 same w)
      where
        reported : DecidesOwn c
        reported = All-head DecidesOwn c cs decides

        by : (b : Bool) → own c ≡ b → (ds : List Component) (ys : List LoadedCell)
            → AllZip (AreSameComponents i j) (cond b (c ∷ filter own cs) (filter own cs)) ds → AllZip (Makes j) ds ys
            → ((ds : List Component) (ys : List LoadedCell) → AllZip (AreSameComponents i j) (filter own cs) ds → AllZip (Makes j) ds ys
            → AllZip (AreCellsAlike f g) (map initial_cell (filter (is_own number) xs)) (map initial_cell ys))
            → AllZip (AreCellsAlike f g) (map initial_cell (filter (is_own number) (x ∷ xs))) (map initial_cell ys)
        by false is ds ys same w rest =
            subst (λ (ks : List LoadedCell). AllZip (AreCellsAlike f g) (map initial_cell ks) (map initial_cell ys))
            (sym (passed (is_own number) x xs (other_team i c x z.0 (λ mine. differ (sym is ∙ reported.1 mine))))) (rest ds ys same w)
          where
            differ : false ≡ true → ⊥
            differ e = cc
        by true is [] ys same w rest = absurd same
        by true is (d ∷ ds) [] same w rest = absurd w
        by true is (d ∷ ds) (y ∷ ys) same w rest =
            subst (λ (ks : List LoadedCell). AllZip (AreCellsAlike f g) (map initial_cell ks) (map initial_cell (y ∷ ys)))
            (sym (taken (is_own number) x xs (own_team i c x z.0 (reported.0 is))))
            (cell_alike c d x y z.0 w.0 same.0, rest ds ys same.1 w.1)

pub loads_alike : (team : List ℕ) (number : ℕ) (i j : LoadInputs) (a b : Loaded) → IsCutFrom number i j → IsLoadedFrom i a → IsLoadedFrom j b
    → team_number a.frame team ≡ Some number → AreDesignsAlike team a b
loads_alike team number i j a b cut here there named =
    let makes = without_positions i 0 i.document.components a.cells here.cells in
    let makes' = without_positions j 0 j.document.components b.cells there.cells in
    let whole = filter is_movable i.document.components in
    let slice = filter is_movable j.document.components in
    record {
      frames = frames_alike number i j a.frame b.frame cut here.frame there.frame;
      number = number;
      named = named;
      cells =
          subst (λ (ys : List LoadedCell). AllZip (AreCellsAlike a.frame b.frame) (own_cells number a.cells) (map initial_cell ys))
          (sym (all_own number i j a.frame b.frame here.frame there.frame slice b.cells makes' cut.cells.no_others))
          (own_alike number i j a.frame b.frame here.frame there.frame cut.cells.own whole a.cells slice b.cells cut.cells.decides makes cut.cells.kept makes');
    }
