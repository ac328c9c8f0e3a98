-- Being alike is symmetric.
use Rattle.std.proofs.Common.{◌≡◌, ℕ, ℤ, pos, ◌*ℤ◌, ◌<ℤ◌, ◌<◌, List, [], ◌∷◌, length, Option, Some, None, refl, sym, ◌∙◌, subst, arith}
use Rattle.std.specs.Prelude.{All, slice_get, unwrap_or}
use Rattle.std.specs.List.{AllZip}
use Rattle.std.proofs.lemmas.Int.{ints}
use Rattle.std.proofs.lemmas.List.Elements.{All-nil, All-cons, All-head, All-tail}
use Rattle.std.proofs.lemmas.Option.{slice_get_within}
use Rattle.lf_floorplan.specs.declared.frame.Frame.{Frame}
use Rattle.lf_floorplan.specs.declared.loaded.Loaded.{Loaded}
use Rattle.lf_floorplan.specs.declared.macros.Macro.{Macro}
use Rattle.lf_floorplan.specs.Boxes.{IsSized, macro_of, no_macro}
use Rattle.lf_cells.specs.declared.cell.Cell.{Cell}
use Rattle.lf_cells.specs.Initial.{own_cells}
use Rattle.lf_legalize.specs.Members.{IsSizedCell}
use Rattle.lf_floor_model.specs.States.{TeamState, FloorState}
use Rattle.lf_laws_slices.specs.Alike.{AreFramesAlike, AreCellsAlike, AreTeamsAlike, AreFloorsAlike, AreDesignsAlike}
use Rattle.lf_laws_slices.proofs.Rules.{turned_round, sized_on}
use Rattle.lf_laws_slices.proofs.Runs.{number_same}

no_length : (x : ℤ) (units : ℕ) → x *ℤ pos 1000000 ≡ pos 0 *ℤ pos units → pos 0 <ℤ x → ⊥
no_length x units is wide = omega (arith, ints)

-- a missing macro has no size
not_sized : (f : Frame) → IsSized f no_macro → ⊥
not_sized f sized = no_length _ f.header.units sized.across sized.wide

-- the number of a macro with a size is in the frame
known_by : (f : Frame) (mac : ℕ) → IsSized f (macro_of f mac) → mac < length f.macros
known_by f mac sized = by (slice_get f.macros mac) refl where
  by : (o : Option Macro) → slice_get f.macros mac ≡ o → mac < length f.macros
  by None is = absurd (not_sized f (subst (λ (o : Option Macro). IsSized f (unwrap_or o no_macro)) is sized))
  by (Some m) is = slice_get_within f.macros mac m is

cell_round : (f g : Frame) (c d : Cell) → AreCellsAlike f g c d → AreCellsAlike g f d c
cell_round f g c d r = record { name = sym r.name; working = sym r.working; committed = sym r.committed; same_macro = sym r.same_macro }

cells_round : (f g : Frame) (cs ds : List Cell) → AllZip (AreCellsAlike f g) cs ds → AllZip (AreCellsAlike g f) ds cs
cells_round f g [] [] z = tt
cells_round f g [] (d ∷ ds) z = absurd z
cells_round f g (c ∷ cs) [] z = absurd z
cells_round f g (c ∷ cs) (d ∷ ds) z = (cell_round f g c d z.0, cells_round f g cs ds z.1)

sized_there : (f g : Frame) → AreFramesAlike f g → (cs ds : List Cell) → AllZip (AreCellsAlike f g) cs ds → All (λ c. IsSizedCell f c) cs
    → All (λ d. IsSizedCell g d) ds
sized_there f g a [] [] z sized = All-nil (λ d. IsSizedCell g d)
sized_there f g a [] (d ∷ ds) z sized = absurd z
sized_there f g a (c ∷ cs) [] z sized = absurd z
sized_there f g a (c ∷ cs) (d ∷ ds) z sized =
    let here : IsSizedCell f c = All-head (λ c. IsSizedCell f c) c cs sized in
    let there : IsSized g (macro_of g d.mac) = subst (λ (m : Macro). IsSized g m) z.0.same_macro (sized_on f g a (macro_of f c.mac) here.sized) in
    All-cons (λ d. IsSizedCell g d) d ds (record { known = known_by g d.mac there; sized = there })
    (sized_there f g a cs ds z.1 (All-tail (λ c. IsSizedCell f c) c cs sized))

teams_round : (f g : Frame) → AreFramesAlike f g → (s t : TeamState) → AreTeamsAlike f g s t → AreTeamsAlike g f t s
teams_round f g a s t r = record {
  cells = cells_round f g s.cells t.cells r.cells;
  sized = sized_there f g a s.cells t.cells r.cells r.sized;
  revision = sym r.revision;
  entries = sym r.entries;
  slots = sym r.slots;
  padding = sym r.padding;
}

pub floors_round : (team : List ℕ) (a b : FloorState) → AreFloorsAlike team a b → AreFloorsAlike team b a
floors_round team a b r = record {
  frames = turned_round a.frame b.frame r.frames;
  here = r.there;
  there = r.here;
  is_here = r.is_there;
  is_there = r.is_here;
  teams = teams_round a.frame b.frame r.frames r.here r.there r.teams;
}

pub designs_round : (team : List ℕ) (a b : Loaded) → AreDesignsAlike team a b → AreDesignsAlike team b a
designs_round team a b r = record {
  frames = turned_round a.frame b.frame r.frames;
  number = r.number;
  named = sym (number_same a.frame b.frame r.frames team) ∙ r.named;
  cells = cells_round a.frame b.frame (own_cells r.number a.cells) (own_cells r.number b.cells) r.cells;
}
