-- The cells of a loaded design, as the program lists them.
use Rattle.std.proofs.Common.{◌≡◌, ◌∙◌, ℕ, List, Bool, ◌≤◌, ap, sym, subst, arith, length, map, Result}
use Rattle.std.specs.Prelude.{All, IfOk, IsTrue, ◌↔◌}
use Rattle.std.specs.Borrow.{Bor}
use Rattle.std.proofs.Math.ListN.{length-map}
use Rattle.std.proofs.lemmas.Result.{IfOk-weaker}
use Rattle.lf_floorplan.specs.declared.loaded.LoadedCell.{LoadedCell}
use Rattle.lf_floorplan.specs.declared.loaded.Loaded.{Loaded}
use Rattle.lf_floorplan.specs.Design.{CellIsSized}
use Rattle.lf_rules.specs.declared.report_types.Listed.{Listed}
use Rattle.lf_rules.specs.FullyLegal.{DesignCell, IsFullyLegal, design_cells_at}
use Rattle.lf_rules.specs.Legalizer.{Legalizer}
use Rattle.lf_rules.specs.Reports.{IsClean}
use Rattle.lf_reports.specs.Reports.{IsListed, listed_at, with_byte_name, report_of, design_cell_of}
use Rattle.lf_reports.proofs.CleanLemmas.{all_listed, clean_is_legal, each_named, length_listed, design_cells_listed}
use Rattle.lf_describe.specs.Description.{listed_movables, places_in_text}

pub are_cells : (cells : List LoadedCell) (slice items : List (Listed (Bor (List ℕ)))) → slice ≡ items → map with_byte_name items ≡ listed_at cells (places_in_text cells) →
    map with_byte_name slice ≡ listed_at cells (places_in_text cells)
are_cells cells slice items is_items is_listed = ap (λ (cs : List (Listed (Bor (List ℕ)))). map with_byte_name cs) is_items ∙ is_listed

all_are : CellIsSized → (loaded : Loaded) (slice : List (Listed (Bor (List ℕ)))) → map with_byte_name slice ≡ listed_movables loaded → All (IsListed loaded.frame) (map with_byte_name slice)
all_are sized loaded slice are = subst (All (IsListed loaded.frame)) (sym are) (all_listed loaded.frame sized loaded.cells (places_in_text loaded.cells) loaded.cells_known)

pub each_is_listed : CellIsSized → (loaded : Loaded) (slice : List (Listed (Bor (List ℕ)))) → map with_byte_name slice ≡ listed_movables loaded → All (λ c. IsListed loaded.frame (with_byte_name c)) slice
each_is_listed sized loaded slice are = each_named loaded.frame slice (all_are sized loaded slice are)

pub few_are : (loaded : Loaded) (slice : List (Listed (Bor (List ℕ)))) → map with_byte_name slice ≡ listed_movables loaded → length slice ≤ 4000000
few_are loaded slice are =
    let count : length slice ≡ length loaded.cells = sym (length-map slice with_byte_name) ∙ ap (λ (cs : List (Listed (List ℕ))). length cs) are ∙ length_listed loaded.cells (places_in_text loaded.cells) in
    let few = loaded.few_cells in
    omega (arith, count, few)

pub legal_is : {E : Type 0} → CellIsSized → (l : Legalizer) (loaded : Loaded) (slice : List (Listed (Bor (List ℕ)))) (r : Result Bool E) → map with_byte_name slice ≡ listed_movables loaded →
    IfOk r (λ clean. IsTrue clean ↔ IsClean (report_of l loaded.frame 0 (map with_byte_name slice))) → IfOk r (λ legal. IsTrue legal ↔ IsFullyLegal loaded.frame (design_cells_at loaded.cells (places_in_text loaded.cells)))
legal_is sized l loaded slice r are said =
    let both : IsClean (report_of l loaded.frame 0 (map with_byte_name slice)) ↔ IsFullyLegal loaded.frame (design_cells_at loaded.cells (places_in_text loaded.cells)) =
    subst (λ (cells : List DesignCell). IsClean (report_of l loaded.frame 0 (map with_byte_name slice)) ↔ IsFullyLegal loaded.frame cells)
    (ap (λ (cs : List (Listed (List ℕ))). map design_cell_of cs) are ∙ design_cells_listed loaded.cells (places_in_text loaded.cells)) (clean_is_legal l loaded.frame (map with_byte_name slice) (all_are sized loaded slice are)) in
    IfOk-weaker r _ _ (λ b is. (λ yes. both.0 (is.0 yes), λ legal. is.1 (both.1 legal))) said
