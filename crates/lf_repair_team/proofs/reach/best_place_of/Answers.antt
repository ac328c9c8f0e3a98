use Rattle.std.proofs.Common.{◌≡◌, ◌∙◌, List, Option, Some, ap, map, subst, sym}
use Rattle.std.specs.Option.{option_map}
use Rattle.lf_rules.specs.Choice.{IsChoice, spot_of}
use Rattle.lf_rules.specs.Team.{query_from}
use Rattle.lf_cells.specs.declared.cell.Cell.{Cell}
use Rattle.lf_cells.specs.declared.cell.CellId.{CellId}
use Rattle.lf_cells.specs.Cells.{Cells, cells_of, id_in, id_of}
use Rattle.lf_legalize.specs.Members.{best_of, member_of}
use Rattle.lf_floor_model.proofs.LegalPlaces.{none_some, some_one}
use Rattle.lf_repair_team.proofs.ReachLemmas.{choice_of_best, team_of_floor}
use Rattle.lf_repair_team.proofs.Results.{ok_weaker}
use Rattle.lf_repair_team.proofs.reach.best_place_of.Goals as goal

pub returns-in_default : goal.returns-in_default
returns-in_default g c = λ s cell at is.
    let number = c.args.number in
    let own = c.args.own in
    let same : cells_of c.cells.result.now number ≡ s.cells = ap (λ (t : Cells). cells_of t number) c.cells.ensures ∙ c.placement-placement.ensures.cells number s at in
    let there : id_in (cells_of c.cells.result.now number) number own ≡ Some (id_of number own) =
    ap (λ (cs : List Cell). id_in cs number own) same ∙ ap (λ (o : Option Cell). option_map (λ (d : Cell). id_of number own) o) is in
    absurd (none_some (sym (sym c.cell_of.ensures ∙ c.in_default.is) ∙ there))

pub returns : goal.returns
returns g c = λ s cell at is.
    let number = c.args.number in
    let own = c.args.own in
    let l = c.legalizer_exists.ensures in
    let floor = c.args.floor.now in
    let target = c.args.target.now in
    let placement = c.placement-placement.result.now in
    let id = c.in-Some.id in
    let padding = c.padding_of.result in
    let same : cells_of c.cells.result.now number ≡ s.cells = ap (λ (t : Cells). cells_of t number) c.cells.ensures ∙ c.placement-placement.ensures.cells number s at in
    let there : id_in (cells_of c.cells.result.now number) number own ≡ Some (id_of number own) =
    ap (λ (cs : List Cell). id_in cs number own) same ∙ ap (λ (o : Option Cell). option_map (λ (d : Cell). id_of number own) o) is in
    let id_is : id ≡ id_of number own = some_one (sym (sym c.cell_of.ensures ∙ c.in-Some.is) ∙ there) in
    ok_weaker c.best_place.result (λ found. option_map spot_of found ≡ best_of l placement.frame id.team padding.sites (cells_of placement.cells id.team) id.own target)
    (λ found. IsChoice (query_from floor.frame number s.padding (map member_of s.cells) own cell.mac) target (option_map spot_of found))
    (λ found found_is. choice_of_best l floor.frame placement.frame number own padding.sites s cell (cells_of placement.cells number) target found c.placement-placement.ensures.frame
    (c.placement-placement.ensures.cells number s at) (c.padding_of.ensures s at) is (team_of_floor floor number s c.teams_match_frame.ensures at)
    (subst (λ (i : CellId). option_map spot_of found ≡ best_of l placement.frame i.team padding.sites (cells_of placement.cells i.team) i.own target) id_is found_is))
    (c.best_place.ensures l)
