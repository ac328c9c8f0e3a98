-- The ranges of macros, boxes and points.
use Rattle.std.proofs.Common.{◌≡◌, ℕ, ◌<◌, List, length, All, IfSome, Option, Some, None, get_or, slice_get, refl, sym, ap, ◌∙◌}
use Rattle.std.specs.Prelude.{find, option_map}
use Rattle.std.specs.Option.{option_and_then}
use Rattle.std.proofs.lemmas.Option.{get_or_from_slice_get, unwrap_or-slice_get}
use Rattle.lf_units.specs.declared.geometry.Rect.{Rect}
use Rattle.lf_floorplan.specs.declared.frame.Frame.{Frame}
use Rattle.lf_floorplan.specs.declared.loaded.Loaded.{Loaded}
use Rattle.lf_floorplan.specs.declared.cells.CellRef.{CellRef}
use Rattle.lf_floorplan.specs.Boxes.{macro_of, no_macro}
use Rattle.lf_floorplan.specs.LoadedCells.{borrowed_cell}
use Rattle.lf_wire_length.specs.Bounds.{IsPinBox}
use Rattle.lf_wire_nets.specs.declared.pins.MacroPin.{MacroPin}
use Rattle.lf_wire_nets.specs.Boxes.{IsShapeBoxIfAny}
use Rattle.lf_wire_nets.specs.MacroPins.{IsMacroPin}
use Rattle.lf_wire_nets.specs.Binding.{is_pin_named, macro_of_cell, pin_box_in}
use Rattle.lf_wire_nets.specs.BoundRanges.{IsLefMacro}
use Rattle.lf_wire_nets.proofs.FirstLemmas.{found_keeps}

shape_range : (box : Option Rect) → IsShapeBoxIfAny box → IfSome box IsPinBox
shape_range None is = tt
shape_range (Some b) is = record {
  left = record { least = is.x1.low; most = is.x1.high };
  bottom = record { least = is.y1.low; most = is.y1.high };
  right = record { least = is.x2.low; most = is.x2.high };
  top = record { least = is.y2.low; most = is.y2.high };
}

pub box_range : (pins : List MacroPin) (name : List ℕ) → All IsMacroPin pins → IfSome (pin_box_in pins name) IsPinBox
box_range pins name all = by (find (is_pin_named name) pins) refl
  where
    by : (o : Option MacroPin) → find (is_pin_named name) pins ≡ o → IfSome (option_and_then (λ p. p.box) o) IsPinBox
    by None e = tt
    by (Some p) e =
        let its : IsMacroPin p = found_keeps IsMacroPin (is_pin_named name) pins p all e in
        shape_range p.box its.box

-- All macros of a frame are in the range of LEF.
pub lef_macros : (f : Frame) → All IsLefMacro f.macros
lef_macros f k d within =
    let both = f.macros_in_lef k d within in
    record { size = both.0; origin = both.1 }

pub lef_macro : (f : Frame) (number : ℕ) → number < length f.macros → IsLefMacro (macro_of f number)
lef_macro f number within = rw (unwrap_or-slice_get f.macros number no_macro) (lef_macros f number no_macro within)

-- The cell that is borrowed is that of the list.
pub cell_there : (l : Loaded) (k : ℕ) (o : Option CellRef) (v : CellRef) → option_map borrowed_cell o ≡ slice_get l.cells k → o ≡ Some v → slice_get l.cells k ≡ Some (borrowed_cell v)
cell_there l k o v e is = sym e ∙ ap (option_map borrowed_cell) is

-- Its macro is one of the frame.
pub macro_known : (l : Loaded) (k : ℕ) (v : CellRef) → slice_get l.cells k ≡ Some (borrowed_cell v) → k < length l.cells → v.mac < length l.frame.macros
macro_known l k v there within =
    let same : get_or l.cells k (borrowed_cell v) ≡ borrowed_cell v = get_or_from_slice_get l.cells k (borrowed_cell v) (borrowed_cell v) there in
    (rw same at (l.cells_known k (borrowed_cell v) within)).mac_known

pub macro_there : (l : Loaded) (k : ℕ) (v : CellRef) → slice_get l.cells k ≡ Some (borrowed_cell v) → macro_of l.frame v.mac ≡ macro_of_cell l (slice_get l.cells k)
macro_there l k v there = ap (macro_of_cell l) (sym there)
