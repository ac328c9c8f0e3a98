-- Loading returns the same for inputs that differ only in the places of movable components.
use Rattle.std.proofs.Common.{◌≡◌, ℕ, ◌+◌, inl, inr, Bool, true, false, List, [], ◌∷◌, ◌++◌, map, Option, None, Some, refl, sym, ◌∙◌, ap, subst}
use Rattle.std.specs.Prelude.{filter_map, flat_map, MatchOption, option_map}
use Rattle.std.specs.Option.{option_and_then}
use Rattle.std.specs.List.{AllZip}
use Rattle.lf_units.specs.declared.geometry.Point.{Point}
use Rattle.lf_units.specs.declared.geometry.Rect.{Rect}
use Rattle.lf_lex.specs.declared.fault.FaultNumber.{FaultNumber}
use Rattle.lf_lex.specs.declared.fault.FaultNumber.TheVariants.{BadToken, UnexpectedEnd, Unexpected, BadNumber, WrongEnd, UnknownStatement, NoUnits, NoSite}
use Rattle.lf_lex.specs.declared.fault.FaultNumber.TheVariants.{NoRows, VerticalRow, BadStep, RowOrient, RowsOverlap, NoMacro, NoSize, NotWhole, SecondName}
use Rattle.lf_lex.specs.declared.fault.FaultNumber.TheVariants.{SecondRegion, NoRegion, TeamName, FencesOverlap, TwoFences, TooMany, OutOfMemory}
use Rattle.lf_floorplan.specs.declared.sites.Site.{Site}
use Rattle.lf_lef.specs.Contents.{Contents, macro_names}
use Rattle.lf_names.specs.Names.{position_of}
use Rattle.lf_def.specs.declared.components.Component.{Component}
use Rattle.lf_def.specs.declared.components.PlacementClause.{PlacementClause}
use Rattle.lf_def.specs.declared.components.Location.{Location}
use Rattle.lf_def.specs.declared.components.PlacementKind.{PlacementKind}
use Rattle.lf_def.specs.declared.components.PlacementKind.TheVariants.{Fixed, Cover, Placed, Unplaced}
use Rattle.lf_def.specs.Laws.{placement_without_places, without_places}
use Rattle.lf_floorplan.specs.declared.frame.Frame.{Frame}
use Rattle.lf_floorplan.specs.declared.loaded.LoadedCell.{LoadedCell}
use Rattle.lf_floorplan.specs.declared.loaded.Loaded.{Loaded}
use Rattle.lf_def.specs.Kinds.{is_movable}
use Rattle.lf_frame.specs.Teams.{IsTeamOfComponent}
use Rattle.lf_floorplan.specs.Sizes.{size_in_dbu}
use Rattle.lf_frame.specs.ClaimRefusals.{HasEarlierName, IsClaimedTwice}
use Rattle.lf_frame.specs.Refusals.{HasBadStep, OverlapsEarlierRow, HasNoMacro, HasNoSize, HasPartUnits, IsComponentTooMany, EndsTooFar}
use Rattle.lf_frame.specs.Findings.{LoadInputs, units_in, core_in, Finding, NameOfFirst, FirstOf, OfCore, WhereWhole, OfPitch, CoreHasPartUnits, Finds}
use Rattle.lf_frame.specs.Loads.{location, fixed_box, blocked, obstacles_in, movables_from, IsFrameOf, IsCellOf, IsLoadedFrom}
use Rattle.lf_frame.specs.Alike.{without_movable_place, AreAlike, FindAlike, AcceptedAlike, RefusedAlike, LoadedAlike}
use Rattle.lf_frame.proofs.AlikeEntries.{Same, SameAll, settled_without, name_same, mac_same, movable_same, name_alike, no_macro_respects, no_size_respects}
use Rattle.lf_frame.proofs.AlikeEntries.{part_units_respects, earlier_name_respects, claimed_twice_respects, too_many_respects}

-- The inputs with these components.
abbrev pub with_components : LoadInputs → List Component → LoadInputs
with_components i cs = record i { document = record i.document { components = cs } }

-- Inputs that are alike differ only in their components.
but_components : (i j : LoadInputs) → AreAlike i j → i ≡ with_components j i.document.components
but_components i j alike = λ d. record {
  library = alike.library d;
  document = record {
    header = (alike.document d).header;
    rows = (alike.document d).rows;
    regions = (alike.document d).regions;
    groups = (alike.document d).groups;
    components = i.document.components;
    blockages = (alike.document d).blockages;
  };
  limits = alike.limits d;
}

components_alike : (i j : LoadInputs) → AreAlike i j → map without_places i.document.components ≡ map without_places j.document.components
components_alike i j alike = ap (λ d. d.components) alike.document

-- Components that differ only in their positions are the same.
pub same_without : (xs ys : List Component) → map without_places xs ≡ map without_places ys → SameAll xs ys
same_without xs ys same = sym (of_map xs) ∙ ap (map without_movable_place) same ∙ of_map ys
  where
    of_map : (cs : List Component) → map without_movable_place (map without_places cs) ≡ map without_movable_place cs
    of_map [] = refl
    of_map (c ∷ cs) = rw (settled_without c, of_map cs)

-- Holds if whatever the first finding is, the second is too.
abbrev Carries : Finding → Finding → Type 0
Carries one other = (found : Option (List ℕ)) → one found → other found

turn_carries : (first first' second second' : Finding) → Carries first first' → Carries second second' → Carries (FirstOf first second) (FirstOf first' second')
turn_carries first first' second second' one two found (inl h) = inl (one None h.0, two found h.1)
turn_carries first first' second second' one two found (inr h) = inr (h.0, one found h.1)

pitch_same : (i : LoadInputs) (xs ys : List Component) (finds : Site → Point → Finding) →
    Carries (OfPitch (with_components i xs) finds) (OfPitch (with_components i ys) finds)
pitch_same i xs ys finds found = by (core_in i)
  where
    of : List Component → Site → Type 0
    of cs core = WhereWhole (with_components i cs) core (finds core (size_in_dbu (units_in i) core.size)) found

    by : (core : Option Site) → MatchOption core (found ≡ None) (of xs) → MatchOption core (found ≡ None) (of ys)
    by None h = h
    by (Some core) h = record { whole = h.whole; part = h.part }

core_units_same : (i : LoadInputs) (xs ys : List Component) →
    Carries (OfCore (with_components i xs) (CoreHasPartUnits (with_components i xs))) (OfCore (with_components i ys) (CoreHasPartUnits (with_components i ys)))
core_units_same i xs ys found = by (core_in i)
  where
    by : (core : Option Site) → MatchOption core (found ≡ None) (λ s. CoreHasPartUnits (with_components i xs) s found) →
        MatchOption core (found ≡ None) (λ s. CoreHasPartUnits (with_components i ys) s found)
    by None h = h
    by (Some core) h = record { whole = h.whole; part = h.part }

-- What a refusal finds does not depend on the places of movable components.
pub finds_same : (i : LoadInputs) (xs ys : List Component) → SameAll xs ys → (n : FaultNumber) →
    Carries (Finds (with_components i xs) n) (Finds (with_components i ys) n)
finds_same i xs ys same NoUnits = λ found h. h
finds_same i xs ys same NoSite = λ found h. h
finds_same i xs ys same NoRows = λ found h. h
finds_same i xs ys same VerticalRow = λ found h. h
finds_same i xs ys same BadStep = pitch_same i xs ys (λ core pitch. NameOfFirst (λ r. r.name) (HasBadStep core pitch) i.document.rows)
finds_same i xs ys same RowOrient = λ found h. h
finds_same i xs ys same RowsOverlap = pitch_same i xs ys (λ core pitch. NameOfFirst (λ r. r.name) (OverlapsEarlierRow core pitch) i.document.rows)
finds_same i xs ys same NoMacro = name_alike (λ c. c.mac) (λ c. refl) (HasNoMacro i.library) (no_macro_respects i.library) xs ys same
finds_same i xs ys same NoSize = name_alike (λ c. c.mac) (λ c. refl) (HasNoSize i.library) (no_size_respects i.library) xs ys same
finds_same i xs ys same NotWhole =
    turn_carries _ _ _ _ (core_units_same i xs ys)
    (name_alike (λ c. c.mac) (λ c. refl) (HasPartUnits i.library (units_in i)) (part_units_respects i.library (units_in i)) xs ys same)
finds_same i xs ys same SecondName = name_alike (λ c. c.name) (λ c. refl) HasEarlierName earlier_name_respects xs ys same
finds_same i xs ys same SecondRegion = λ found h. h
finds_same i xs ys same NoRegion = λ found h. h
finds_same i xs ys same TeamName = λ found h. h
finds_same i xs ys same FencesOverlap = λ found h. h
finds_same i xs ys same TwoFences =
    name_alike (λ c. c.name) (λ c. refl) (IsClaimedTwice i.document.regions i.document.groups)
    (claimed_twice_respects i.document.regions i.document.groups) xs ys same
finds_same i xs ys same TooMany =
    turn_carries _ _ _ _ (λ found h. h) (
    turn_carries _ _ _ _ (λ found h. h) (
    turn_carries _ _ _ _ (name_alike (λ c. c.name) (λ c. refl) (IsComponentTooMany i.limits.components) (too_many_respects i.limits.components) xs ys same) (
    pitch_same i xs ys (λ core pitch. NameOfFirst (λ r. r.name) (EndsTooFar core pitch) i.document.rows)
    )))
finds_same i xs ys same BadToken = λ found h. h
finds_same i xs ys same UnexpectedEnd = λ found h. h
finds_same i xs ys same Unexpected = λ found h. h
finds_same i xs ys same BadNumber = λ found h. h
finds_same i xs ys same WrongEnd = λ found h. h
finds_same i xs ys same UnknownStatement = λ found h. h
finds_same i xs ys same OutOfMemory = λ found h. h

pub find_alike : FindAlike
find_alike i j alike n found h =
    finds_same j i.document.components j.document.components (same_without i.document.components j.document.components (components_alike i j alike)) n found
    (subst (λ k. Finds k n found) (but_components i j alike) h)

pub accepted_alike : AcceptedAlike
accepted_alike i j alike h n = find_alike i j alike n None (h n)

pub refused_alike : RefusedAlike
refused_alike i j alike fault h = record {
  name = h.name;
  named = h.named;
  no_line = h.no_line;
  refused = record {
    finds = find_alike i j alike fault.number (Some h.name) h.refused.finds;
    least = λ n less. find_alike i j alike n None (h.refused.least n less);
  };
}

-- A frame and cells.

box_settled : (library : Contents) (units : ℕ) (c : Component) → fixed_box library units (without_movable_place c) ≡ fixed_box library units c
box_settled library units c = by c.placement
  where
    by : (p : Option PlacementClause) → fixed_box library units (without_movable_place (record c { placement = p })) ≡ fixed_box library units (record c { placement = p })
    by None = refl
    by (Some p) = kinds p.kind p.place p.start p.stop
      where
        kinds : (kind : PlacementKind) (place : Option Location) (start stop : ℕ) →
            fixed_box library units (without_movable_place (record c { placement = Some (record { kind = kind; place = place; start = start; stop = stop }) }))
            ≡ fixed_box library units (record c { placement = Some (record { kind = kind; place = place; start = start; stop = stop }) })
        kinds Fixed place start stop = refl
        kinds Cover place start stop = refl
        kinds Placed place start stop = refl
        kinds Unplaced place start stop = refl

boxes_settled : (library : Contents) (units : ℕ) (cs : List Component) →
    filter_map (fixed_box library units) (map without_movable_place cs) ≡ filter_map (fixed_box library units) cs
boxes_settled library units [] = refl
boxes_settled library units (c ∷ cs) = rw (box_settled library units c, boxes_settled library units cs)

obstacles_same : (i : LoadInputs) (xs ys : List Component) → SameAll xs ys → obstacles_in (with_components i xs) ≡ obstacles_in (with_components i ys)
obstacles_same i xs ys same =
    let box : Component → Option Rect = fixed_box i.library (units_in i) in
    let boxes : filter_map box xs ≡ filter_map box ys = sym (boxes_settled i.library (units_in i) xs) ∙ ap (filter_map box) same
    ∙ boxes_settled i.library (units_in i) ys in
    ap (λ l. l ++ flat_map blocked i.document.blockages) boxes

pub frame_same : (i : LoadInputs) (xs ys : List Component) → SameAll xs ys → (f : Frame) → IsFrameOf (with_components i xs) f → IsFrameOf (with_components i ys) f
frame_same i xs ys same f is = record {
  site = is.site;
  rows = is.rows;
  teams = is.teams;
  obstacles = is.obstacles ∙ obstacles_same i xs ys same;
  soft = is.soft;
  macros = is.macros;
  header = is.header;
  limits = is.limits;
}

-- Cells that fit the movable ones of some components fit those of the same components.
pub cells_same : (kept : Component → Component) → ((a b : Component) → kept a ≡ kept b → Same a b) → (P Q : ℕ × Component → LoadedCell → Type 0) →
    ((k : ℕ) (a b : Component) (c : LoadedCell) → kept a ≡ kept b → P (k, a) c → Q (k, b) c) →
    (k : ℕ) (xs ys : List Component) → map kept xs ≡ map kept ys → (cells : List LoadedCell) → AllZip P (movables_from k xs) cells
    → AllZip Q (movables_from k ys) cells
cells_same kept alike P Q made k [] [] same cells zip = by cells zip
  where
    by : (cells : List LoadedCell) → AllZip P [] cells → AllZip Q [] cells
    by [] none = none
    by (c ∷ cs) none = none
cells_same kept alike P Q made k [] (b ∷ ys) same cells zip = absurd (cc)
cells_same kept alike P Q made k (a ∷ xs) [] same cells zip = absurd (cc)
cells_same kept alike P Q made k (a ∷ xs) (b ∷ ys) same cells zip =
    let one : kept a ≡ kept b = cc in
    let others : map kept xs ≡ map kept ys = cc in
    by (is_movable a) refl (sym (movable_same a b (alike a b one))) one cells zip (cells_same kept alike P Q made (k + 1) xs ys others)
  where
    by : (t : Bool) → is_movable a ≡ t → is_movable b ≡ is_movable a → kept a ≡ kept b → (cells : List LoadedCell) → AllZip P (movables_from k (a ∷ xs)) cells →
        ((rest : List LoadedCell) → AllZip P (movables_from (k + 1) xs) rest → AllZip Q (movables_from (k + 1) ys) rest) → AllZip Q (movables_from k (b ∷ ys)) cells
    by true is movable one [] zip rest = absurd (rw is at zip)
    by true is movable one (c ∷ cs) zip rest = let pair = rw is at zip in rw (movable, is) (made k a b c one pair.0, rest cs pair.1)
    by false is movable one cells zip rest = rw (movable, is) (rest cells (rw is at zip))

-- Only positions.

one_without : (a b : Component) → without_places a ≡ without_places b → Same a b
one_without a b same = sym (settled_without a) ∙ ap without_movable_place same ∙ settled_without b

place_without : (p : Option PlacementClause) → option_and_then (λ q. q.place) (option_map placement_without_places p) ≡ option_and_then (λ q. q.place) p
place_without None = refl
place_without (Some p) = refl

location_without : (a b : Component) → without_places a ≡ without_places b → location a ≡ location b
location_without a b same = sym (place_without a.placement) ∙ ap location same ∙ place_without b.placement

cell_without : (i : LoadInputs) (xs ys : List Component) (k : ℕ) (a b : Component) (c : LoadedCell) → without_places a ≡ without_places b →
    IsCellOf (with_components i xs) (k, a) c → IsCellOf (with_components i ys) (k, b) c
cell_without i xs ys k a b c same is =
    let alike : Same a b = one_without a b same in
    record {
      name = is.name ∙ name_same a b alike;
      team = subst (λ name. IsTeamOfComponent i.document.regions i.document.groups name c.team) (name_same a b alike) is.team;
      mac = subst (λ name. position_of (macro_names i.library.macros) name ≡ Some c.mac) (mac_same a b alike) is.mac;
      place = is.place ∙ location_without a b same;
      component = is.component;
    }

loaded_same : (i : LoadInputs) (xs ys : List Component) → map without_places xs ≡ map without_places ys → (l : Loaded) → IsLoadedFrom (with_components i xs) l →
    IsLoadedFrom (with_components i ys) l
loaded_same i xs ys same l h = record {
  accepted = λ n. finds_same i xs ys (same_without xs ys same) n None (h.accepted n);
  frame = frame_same i xs ys (same_without xs ys same) l.frame h.frame;
  cells =
      cells_same without_places one_without (IsCellOf (with_components i xs)) (IsCellOf (with_components i ys))
      (cell_without i xs ys) 0 xs ys same l.cells h.cells;
}

pub loaded_alike : LoadedAlike
loaded_alike i j alike l h = loaded_same j i.document.components j.document.components (components_alike i j alike) l
    (subst (λ k. IsLoadedFrom k l) (but_components i j alike) h)
