-- Cells that are not legal: unplaced cells, and cells that break a rule.
use Rattle.std.proofs.Common.{◌≡◌, ◌∙◌, ◌<◌, ℕ, zero, suc, List, [], ◌∷◌, length, map, true, false, Option, Some, None, refl, sym, ap, subst, arith}
use Rattle.std.specs.Prelude.{All, MatchOption, is_none, slice_get, option_map, option_and_then}
use Rattle.std.proofs.lemmas.Option.{slice_get-map}
use Rattle.lf_floorplan.specs.declared.place.Place.{Place}
use Rattle.lf_rules.specs.declared.rule.Broken.{Broken}
use Rattle.lf_rules.specs.Choice.{IsLegalAt, spot_of}
use Rattle.lf_rules.specs.Legalizer.{VerdictIsUnique}
use Rattle.lf_rules.specs.Team.{IsLegalCell}
use Rattle.lf_cells.specs.declared.cell.Cell.{Cell}
use Rattle.lf_cells.specs.Cells.{working_at}
use Rattle.lf_legalize.specs.Members.{IsSizedCell, member_of}
use Rattle.lf_floor_model.specs.Teams.{TeamRules, query_of_cell}
use Rattle.lf_floor_model.specs.Changes.{broken_where}
use Rattle.lf_floor_verbs.proofs.Marking.{legal_breaks_none}

pub cell_there : (cells : List Cell) (own : ℕ) → own < length cells → (c : Cell) × (slice_get cells own ≡ Some c)
cell_there [] own within = absurd (omega arith)
cell_there (c ∷ cs) zero within = (c, refl)
cell_there (c ∷ cs) (suc own) within = cell_there cs own (omega arith)

-- an unplaced cell is not legal
pub unplaced_is_not : (t : TeamRules) (cells : List Cell) (own : ℕ) → own < length cells → IsLegalCell t.frame t.number t.padding (map member_of cells) own
    → true ≡ is_none (working_at cells own) → ⊥
unplaced_is_not t cells own within is_in_place none = by found.0.working refl where
  found : (c : Cell) × (slice_get cells own ≡ Some c)
  found = cell_there cells own within

  placed : MatchOption (option_map spot_of found.0.working) ⊥ (λ p. IsLegalAt (query_of_cell t cells own found.0) p)
  placed = is_in_place (member_of found.0) (slice_get-map member_of cells own ∙ ap (option_map member_of) found.1)

  by : (o : Option Place) → found.0.working ≡ o → ⊥
  by None is = subst (λ (o : Option Place). MatchOption (option_map spot_of o) ⊥ (λ p. IsLegalAt (query_of_cell t cells own found.0) p)) is placed
  by (Some place) is = false_true (sym (none ∙ ap (λ (o : Option Cell). is_none (option_and_then (λ (c : Cell). c.working) o)) found.1
      ∙ ap (λ (o : Option Place). is_none o) is)) where
        false_true : false ≡ true → ⊥
        false_true e = cc

-- a cell that breaks a rule at its working place is not legal
pub broken_is_not : (t : TeamRules) (cells : List Cell) (own : ℕ) (broken : Broken) → VerdictIsUnique → All (IsSizedCell t.frame) cells
    → IsLegalCell t.frame t.number t.padding (map member_of cells) own → Some broken ≡ broken_where t cells own → ⊥
broken_is_not t cells own broken one all is_in_place is = none_some (legal_breaks_none t cells own one all is_in_place ∙ sym is) where
  none_some : None ≡ Some broken → ⊥
  none_some e = cc
