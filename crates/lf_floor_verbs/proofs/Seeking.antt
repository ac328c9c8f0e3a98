-- The result of a seeker is the one in the rules of find, legalize and tidy.
use Rattle.std.proofs.Common.{◌≡◌, ℕ, List, get_or, Option, Some, None, refl, ap, sym, ◌∙◌, subst}
use Rattle.std.specs.Prelude.{All, slice_get, option_map, option_and_then}
use Rattle.std.proofs.lemmas.Option.{slice_get_within, get_or_from_slice_get}
use Rattle.lf_units.specs.declared.geometry.Point.{Point}
use Rattle.lf_floorplan.specs.declared.place.Place.{Place}
use Rattle.lf_rules.specs.Choice.{SpotPlace, spot_of}
use Rattle.lf_proto.specs.Numbers.{◌>>=◌}
use Rattle.lf_proto.proofs.Places.{place_at-some}
use Rattle.lf_cells.specs.declared.cell.Cell.{Cell}
use Rattle.lf_cells.specs.declared.cell.CellId.{CellId}
use Rattle.lf_cells.specs.declared.cell.CellFacts.{CellFacts}
use Rattle.lf_cells.specs.Cells.{Cells, cell_at, cells_of, id_in, id_of}
use Rattle.lf_legalize.specs.Members.{best_of}
use Rattle.lf_placement.proofs.Moves.{id_there}
use Rattle.lf_floorplan.specs.Bounds.{IsDesignName}
use Rattle.lf_floor_model.specs.Outcomes.{name_at}
use Rattle.lf_floor_model.specs.Teams.{TeamRules, query_of_cell}
use Rattle.lf_floor_model.proofs.LegalPlaces.{some_one}
use Rattle.lf_floor_model.specs.Queries.{place_of_spot, best_at}

pub back : (q : Place) → place_of_spot (spot_of q) ≡ Some q
back q = place_at-some q

found_back : (found : Option Place) → option_and_then place_of_spot (option_map spot_of found) ≡ found
found_back None = refl
found_back (Some q) = back q

none_found : (found : Option Place) → option_map spot_of found ≡ None → found ≡ None
none_found None e = refl
none_found (Some q) e = absurd cc

pub sought : (t : TeamRules) (cells : List Cell) (own : ℕ) (target : Point) (found : Option Place)
    → option_map spot_of found ≡ best_of t.legalizer t.frame t.number t.padding cells own target → best_at t cells own target ≡ found
sought t cells own target found is = go (slice_get cells own) is where
  go : (o : Option Cell) → option_map spot_of found ≡ option_and_then (λ c. t.legalizer.best_place (query_of_cell t cells own c) target) o
      → (do
        c ← o
        best ← t.legalizer.best_place (query_of_cell t cells own c) target
        place_of_spot best) ≡ found
  go None e = sym (none_found found e)
  go (Some c) e = ap (λ (p : Option SpotPlace). option_and_then place_of_spot p) (sym e) ∙ found_back found

-- ---- the place of a cell

pub names_none : (cells : List Cell) (number own : ℕ) → id_in cells number own ≡ None → name_at cells own ≡ None
names_none cells number own none = go (slice_get cells own) none where
  go : (o : Option Cell) → option_map (λ (c : Cell). id_of number own) o ≡ None → option_map (λ (c : Cell). c.name) o ≡ None
  go None e = refl
  go (Some c) e = absurd cc

-- a name that is returned is that of an existing cell
pub name_printed : (cells : List Cell) (own : ℕ) (name : List ℕ) → All (λ c. IsDesignName c.name) cells → Some name ≡ name_at cells own → IsDesignName name
name_printed cells own name printed is = go (slice_get cells own) refl is where
  go : (o : Option Cell) → slice_get cells own ≡ o → Some name ≡ option_map (λ (c : Cell). c.name) o → IsDesignName name
  go None there e = absurd cc
  go (Some c) there e =
      let at : get_or cells own c ≡ c = get_or_from_slice_get cells own c c there in
      let same : name ≡ c.name = some_one e in
      subst IsDesignName (ap (λ (x : Cell). x.name) at ∙ sym same) (printed own c (slice_get_within cells own c there))

-- the name that is returned for the cell of this id
pub name_reported : (table : Cells) (number own : ℕ) (id : CellId) (facts : CellFacts) → id_in (cells_of table number) number own ≡ Some id
    → option_map (λ (f : CellFacts). f.name.now) (Some facts) ≡ option_map (λ (c : Cell). c.name) (cell_at table id)
    → Some facts.name.now ≡ name_at (cells_of table number) own
name_reported table number own id facts is reported =
    reported ∙ ap (λ (i : CellId). option_map (λ (x : Cell). x.name) (cell_at table i)) (id_there (cells_of table number) number own id is)

-- ---- one cell after the other
