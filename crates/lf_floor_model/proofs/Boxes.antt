-- The boxes of a team's placed cells, and the first rule broken among them.
use Rattle.std.proofs.Common.{◌≡◌, ℕ, List, map, Option, Some, ap, sym, ◌∙◌}
use Rattle.std.specs.Prelude.{slice_get}
use Rattle.lf_floorplan.specs.declared.frame.Frame.{Frame}
use Rattle.lf_floorplan.specs.declared.macros.Macro.{Macro}
use Rattle.lf_floorplan.specs.declared.place.Place.{Place}
use Rattle.lf_rules.specs.declared.rule.Broken.{Broken}
use Rattle.lf_units.specs.declared.placed.Placed.{Placed}
use Rattle.lf_floorplan.specs.Boxes.{IsSized, macro_of}
use Rattle.lf_rules.specs.Legality.{candidate_of}
use Rattle.lf_rules.specs.Legalizer.{Legalizer, IsVerdict, VerdictIsUnique}
use Rattle.lf_rules.specs.Team.{boxes_beside}
use Rattle.lf_cells.specs.declared.cell.Cell.{Cell}
use Rattle.lf_floor_model.specs.Teams.{team_rules, broken_at}
use Rattle.lf_floor_model.proofs.Forms.{broken_by}
use Rattle.lf_legalize.specs.Members.{member_of}

-- a verdict on the cell's candidate is the result of every legalizer
pub broken_is : (l : Legalizer) (f : Frame) (team padding : ℕ) (cells : List Cell) (own : ℕ) (c : Cell) (mac : Macro) (place : Place) (others : List Placed) (found : Option Broken)
    → VerdictIsUnique → slice_get cells own ≡ Some c → mac ≡ macro_of f c.mac → others ≡ boxes_beside f (map member_of cells) own → IsSized f mac
    → IsVerdict (candidate_of f team padding mac place others) found → found ≡ broken_at (team_rules l f team padding) cells own place
broken_is l f team padding cells own c mac place others found one there is beside sized verdict =
    let same : found ≡ l.first_broken (candidate_of f team padding mac place others) =
    one (candidate_of f team padding mac place others) found (l.first_broken (candidate_of f team padding mac place others)) verdict (l.finds_first_broken (candidate_of f team padding mac place others) sized) in
    same
    ∙ ap (λ (m : Macro). l.first_broken (candidate_of f team padding m place others)) is
    ∙ ap (λ (os : List Placed). l.first_broken (candidate_of f team padding (macro_of f c.mac) place os)) beside
    ∙ ap (λ (o : Option Cell). broken_by o (team_rules l f team padding) cells own place) (sym there)
