-- Cells that have an element among the boxes, when one of them gets another box.
use Rattle.std.proofs.Common.{◌≡◌, inl, inr, ℕ, ◌<◌, List, [], Option, None, length, get_or, set, sym, ap, subst, ◌∙◌, arith}
use Rattle.std.proofs.lemmas.Bool.Decides.{eqb_tells}
use Rattle.std.proofs.lemmas.List.{get_or-set_same, get_or-set_other, length-set}
use Rattle.lf_units.specs.declared.geometry.Rect.{Rect}
use Rattle.lf_cells.specs.declared.cell.CellId.{CellId}
use Rattle.lf_occupancy.specs.Views.{cell_box}
use Rattle.lf_occupancy.specs.Strips.{HasCell}
use Rattle.lf_occupancy.proofs.Laning.{box_same}

-- after a cell gets another box, each cell still has an element
pub known_still : (boxes : List (List (Option Rect))) (id other : CellId) (box : Option Rect) → HasCell boxes id → HasCell boxes other →
    HasCell (set boxes id.team (set (get_or boxes id.team []) id.own box)) other
known_still boxes id other box this known = record {
  team = let many = length-set boxes id.team changed in let inside = known.team in omega (arith, many, inside);
  own = elim (eqb_tells other.team id.team) [
    | inl same ↦
        let there = ap (λ (xs : List (Option Rect)). length xs) (get_or-set_same boxes id.team changed [] this.team) ∙ length-set (get_or boxes id.team []) id.own box in
        let At : ℕ → Type 0 = λ t. other.own < length (get_or (set boxes id.team changed) t []) in
        let here : other.own < length (get_or boxes id.team []) = subst (λ (t : ℕ). other.own < length (get_or boxes t [])) same.1 known.own in
        subst At (sym same.1) (omega (arith, there, here))
    | inr apart ↦
        let there = ap (λ (xs : List (Option Rect)). length xs) (get_or-set_other boxes id.team other.team changed [] apart.1) in
        let here = known.own in
        omega (arith, there, here)
  ];
}
  where
    changed : List (Option Rect)
    changed = set (get_or boxes id.team []) id.own box

-- a cell whose box is removed has no box
pub has_no_place : (boxes : List (List (Option Rect))) (id : CellId) → HasCell boxes id →
    cell_box (get_or (set boxes id.team (set (get_or boxes id.team []) id.own None)) id.team []) id.own ≡ None
has_no_place boxes id known =
    ap (λ (xs : List (Option Rect)). cell_box xs id.own) (get_or-set_same boxes id.team (set (get_or boxes id.team []) id.own None) [] known.team)
    ∙ box_same (get_or boxes id.team []) id.own None known.own
