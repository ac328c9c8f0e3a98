-- Places for the cells of a loaded design, and the components that are given them.
use Rattle.std.proofs.Common.{◌≡◌, ℕ, ◌+◌, ◌≤◌, suc, Bool, true, false, List, [], ◌∷◌, map, length, Option, Some, None, All, refl, ap, ◌∙◌, arith}
use Rattle.std.specs.Prelude.{IfSome, slice_get}
use Rattle.std.specs.List.{AllZip}
use Rattle.std.proofs.lemmas.List.Elements.{All-nil, All-cons}
use Rattle.lf_floorplan.specs.declared.place.Place.{Place}
use Rattle.lf_floorplan.specs.declared.loaded.LoadedCell.{LoadedCell}
use Rattle.lf_floorplan.specs.declared.loaded.Loaded.{Loaded}
use Rattle.lf_def.specs.declared.components.Component.{Component}
use Rattle.lf_def.specs.declared.components.Location.{Location}
use Rattle.lf_def.specs.declared.components.PlacementClause.{PlacementClause}
use Rattle.lf_def.specs.declared.components.PlacementKind.{PlacementKind}
use Rattle.lf_def.specs.declared.components.PlacementKind.TheVariants.{Fixed, Cover, Placed, Unplaced}
use Rattle.lf_def.specs.Kinds.{is_movable}
use Rattle.lf_frame.specs.Findings.{LoadInputs}
use Rattle.lf_frame.specs.Loads.{movables, movables_from, IsCellOf, IsLoadedFrom}
use Rattle.lf_write.specs.Export.{IsMovable, PositionsRise}
use Rattle.lf_laws_roundtrip.specs.Exports.{AreForCells, LoadedIsExportable}

abbrev pub Given : Type 0
Given = List (ℕ × Option Place)

-- Holds if there is a place for each movable one of these components. The first component has this
-- position.
abbrev pub AreForMovables : ℕ → List Component → Given → Type 0
AreForMovables n cs places = map (λ g. g.0) places ≡ map (λ e. e.0) (movables_from n cs)

-- Movable components.

neither : (c : Component) → is_movable c ≡ true → IsMovable c
neither c = by c.placement
  where
    by : (p : Option PlacementClause) → is_movable (record c { placement = p }) ≡ true → IsMovable (record c { placement = p })
    by None = λ is. tt
    by (Some p) = kinds p.kind p.place p.start p.stop
      where
        kinds : (kind : PlacementKind) (place : Option Location) (start stop : ℕ) →
            is_movable (record c { placement = Some (record { kind = kind; place = place; start = start; stop = stop }) }) ≡ true →
            IsMovable (record c { placement = Some (record { kind = kind; place = place; start = start; stop = stop }) })
        kinds Fixed place start stop is = absurd cc
        kinds Cover place start stop is = absurd cc
        kinds Placed place start stop is = ((λ e. absurd cc), (λ e. absurd cc))
        kinds Unplaced place start stop is = ((λ e. absurd cc), (λ e. absurd cc))

-- The first of some components is movable and has the first place, or it is not movable and has no
-- place.

first_cases : (n : ℕ) (c : Component) (cs : List Component) (P : Given → Type 0)
    → (is_movable c ≡ false → (places : Given) → AreForMovables (n + 1) cs places → P places)
    → (is_movable c ≡ true → (g : ℕ × Option Place) (places : Given) → g.0 ≡ n → AreForMovables (n + 1) cs places → P (g ∷ places))
    → (places : Given) (test : Bool) → is_movable c ≡ test → AreForMovables n (c ∷ cs) places → P places
first_cases n c cs P stays moves places false is same = stays is places (rw is at same)
first_cases n c cs P stays moves [] true is same =
    let both : [] ≡ n ∷ map (λ (e : ℕ × Component). e.0) (movables_from (n + 1) cs) = rw is at same in
    absurd cc
first_cases n c cs P stays moves (g ∷ places) true is same =
    let both : g.0 ∷ map (λ (x : ℕ × Option Place). x.0) places ≡ n ∷ map (λ (e : ℕ × Component). e.0) (movables_from (n + 1) cs) = rw is at same in
    moves is g places (cc) (cc)

pub by_first : (n : ℕ) (c : Component) (cs : List Component) (P : Given → Type 0)
    → (is_movable c ≡ false → (places : Given) → AreForMovables (n + 1) cs places → P places)
    → (is_movable c ≡ true → (g : ℕ × Option Place) (places : Given) → g.0 ≡ n → AreForMovables (n + 1) cs places → P (g ∷ places))
    → (places : Given) → AreForMovables n (c ∷ cs) places → P places
by_first n c cs P stays moves places same = first_cases n c cs P stays moves places (is_movable c) refl same

-- Positions rise.

later : (from more to : ℕ) (places : Given) → more ≤ from → PositionsRise from to places → PositionsRise more to places
later from more to [] le h = tt
later from more to (g ∷ places) le h = (omega (arith, le, h.0), h.1, h.2)

pub rising : (n to : ℕ) (cs : List Component) (places : Given) → to ≡ n + length cs → AreForMovables n cs places → PositionsRise n to places
rising n to [] [] long same = tt
rising n to [] (g ∷ places) long same = absurd cc
rising n to (c ∷ cs) places long same =
    by_first n c cs (λ q. PositionsRise n to q)
    (λ is q others. later (n + 1) n to q (omega arith) (rising (n + 1) to cs q (omega (arith, long)) others))
    (λ is g q first others. (omega (arith, first), omega (arith, first, long), next g q first (rising (n + 1) to cs q (omega (arith, long)) others)))
    places same
  where
    next : (g : ℕ × Option Place) (q : Given) → g.0 ≡ n → PositionsRise (n + 1) to q → PositionsRise (g.0 + 1) to q
    next g q first h = rw first h

-- The components are movable.

-- Holds if the component at this position is movable.
abbrev IsMovableAt : List Component → ℕ × Option Place → Type 0
IsMovableAt whole g = IfSome (slice_get whole g.0) (λ c. IsMovable c)

all_movable : (whole : List Component) (n : ℕ) (cs : List Component) (places : Given) → ((k : ℕ) → slice_get whole (n + k) ≡ slice_get cs k)
    → AreForMovables n cs places → All (IsMovableAt whole) places
all_movable whole n [] [] there same = All-nil (IsMovableAt whole)
all_movable whole n [] (g ∷ places) there same = absurd cc
all_movable whole n (c ∷ cs) places there same =
    by_first n c cs (All (IsMovableAt whole)) (λ is q others. all_movable whole (n + 1) cs q next others)
    (λ is g q first others. All-cons (IsMovableAt whole) g q (it g first is) (all_movable whole (n + 1) cs q next others)) places same
  where
    next : (k : ℕ) → slice_get whole (n + 1 + k) ≡ slice_get cs k
    next k = let e : n + 1 + k ≡ n + suc k = omega arith in ap (slice_get whole) e ∙ there (suc k)

    found : slice_get whole n ≡ Some c
    found = let e : n ≡ n + 0 = omega arith in ap (slice_get whole) e ∙ there 0

    it : (g : ℕ × Option Place) → g.0 ≡ n → is_movable c ≡ true → IsMovableAt whole g
    it g first is = rw (first, found) (neither c is)

-- Cells.

positions_of_cells : (i : LoadInputs) (entries : List (ℕ × Component)) (cells : List LoadedCell) → AllZip (IsCellOf i) entries cells
    → map (λ c. c.component) cells ≡ map (λ e. e.0) entries
positions_of_cells i [] [] h = refl
positions_of_cells i [] (c ∷ cs) h = absurd h
positions_of_cells i (e ∷ es) [] h = absurd h
positions_of_cells i (e ∷ es) (c ∷ cs) h =
    ap (λ (k : ℕ). k ∷ map (λ (d : LoadedCell). d.component) cs) h.0.component ∙ ap (λ (ks : List ℕ). e.0 ∷ ks) (positions_of_cells i es cs h.1)

-- Places for the cells of a design are places for the movable components.
pub for_movables : (i : LoadInputs) (l : Loaded) (places : Given) → IsLoadedFrom i l → AreForCells l places → AreForMovables 0 i.document.components places
for_movables i l places loaded same = same ∙ positions_of_cells i (movables i.document.components) l.cells loaded.cells

pub loaded_can_be_given : LoadedIsExportable
loaded_can_be_given i l places loaded same =
    let positions = for_movables i l places loaded same in
    let cs = i.document.components in
    record {
      rise = rising 0 (length cs) cs places (omega arith) positions;
      movable = all_movable cs 0 cs places (λ k. let e : 0 + k ≡ k = omega arith in ap (slice_get cs) e) positions;
    }
