-- The best place of a cell of a table is the choice for it.
use Rattle.std.proofs.Common.{◌≡◌, ℕ, List, Option, Some, None, map, refl, subst, slice_get}
use Rattle.std.specs.Prelude.{All, option_and_then}
use Rattle.std.specs.Option.{option_map}
use Rattle.std.proofs.lemmas.Option.{slice_get_within, get_or_from_slice_get}
use Rattle.lf_units.specs.declared.geometry.Point.{Point}
use Rattle.lf_floorplan.specs.declared.frame.Frame.{Frame}
use Rattle.lf_rules.specs.Choice.{SpotPlace, IsChoice}
use Rattle.lf_rules.specs.Legalizer.{Legalizer}
use Rattle.lf_rules.specs.Team.{query_from}
use Rattle.lf_rules.proofs.ChoiceLemmas.{choice_one}
use Rattle.lf_cells.specs.declared.cell.Cell.{Cell}
use Rattle.lf_cells.specs.declared.cell.CellPlacement.{CellPlacement}
use Rattle.lf_cells.specs.Cells.{placement_of}
use Rattle.lf_legalize.specs.Members.{IsSizedCell, member_of, best_of}

-- the choice for a cell with this macro and working place is its best place
pub best_is : (l : Legalizer) (f : Frame) (team padding own : ℕ) (cells : List Cell) (target : Point) (s : CellPlacement) (found : Option SpotPlace) →
    All (IsSizedCell f) cells → option_map placement_of (slice_get cells own) ≡ Some s →
    IsChoice (query_from f team padding (map member_of cells) own s.mac) target found → found ≡ best_of l f team padding cells own target
best_is l f team padding own cells target s found all is_in_place choice = go (slice_get cells own) refl is_in_place
  where
    sized : (x : Cell) → slice_get cells own ≡ Some x → IsSizedCell f x
    sized x is = rw (get_or_from_slice_get cells own x x is) at (all own x (slice_get_within cells own x is))

    same_mac : (x : Cell) → Some (placement_of x) ≡ Some s → s.mac ≡ x.mac
    same_mac x e = cc

    go : (o : Option Cell) → slice_get cells own ≡ o → option_map placement_of o ≡ Some s →
        found ≡ option_and_then (λ c. l.best_place (query_from f team padding (map member_of cells) own c.mac) target) o
    go None is e = absurd cc
    go (Some x) is e =
        choice_one (query_from f team padding (map member_of cells) own x.mac) target found
        (l.best_place (query_from f team padding (map member_of cells) own x.mac) target)
        (subst (λ (n : ℕ). IsChoice (query_from f team padding (map member_of cells) own n) target found) (same_mac x e) choice)
        (l.finds_best_place (query_from f team padding (map member_of cells) own x.mac) target (sized x is).sized)
