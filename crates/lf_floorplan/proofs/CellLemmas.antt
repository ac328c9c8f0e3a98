-- The macro of a cell.
use Rattle.std.proofs.Common.{◌≡◌, ◌<◌, ℕ, length, get_or, Some, refl, sym, ◌∙◌, slice_get}
use Rattle.std.proofs.lemmas.List.{get_or_default}
use Rattle.std.proofs.lemmas.Option.{unwrap_or-slice_get, slice_get_read}
use Rattle.lf_floorplan.specs.declared.frame.Frame.{Frame}
use Rattle.lf_floorplan.specs.declared.loaded.LoadedCell.{LoadedCell}
use Rattle.lf_floorplan.specs.declared.macros.Macro.{Macro}
use Rattle.lf_floorplan.specs.Boxes.{IsSized, macro_of, no_macro}
use Rattle.lf_floorplan.specs.Design.{IsCell}

-- The entry of the list at the number is the number's macro.
pub macro_there : (f : Frame) (number : ℕ) (m : Macro) → number < length f.macros → m ≡ get_or f.macros number m → m ≡ macro_of f number
macro_there f number m within is = is ∙ get_or_default f.macros number m no_macro within ∙ sym (unwrap_or-slice_get f.macros number no_macro)

-- A cell's macro is whole in database units.
pub cell_sized : (f : Frame) (c : LoadedCell) → IsCell f c → IsSized f (macro_of f c.mac)
cell_sized f c cell =
    let at : macro_of f c.mac ≡ get_or f.macros c.mac no_macro = unwrap_or-slice_get f.macros c.mac no_macro in
    let there : slice_get f.macros c.mac ≡ Some (macro_of f c.mac) =
    slice_get_read f.macros (length f.macros) c.mac (macro_of f c.mac) refl cell.mac_known (at ∙ get_or_default f.macros c.mac no_macro (macro_of f c.mac) cell.mac_known) in
    cell.mac_sized (macro_of f c.mac) there
