-- Designs with nets, step by step.
use Rattle.std.proofs.Common.{◌≡◌, ◌∙◌, ◌+◌, ◌<◌, ◌^◌, ℕ, List, [], ◌∷◌, ◌++◌, Bool, Option, Some, Ok, length, take, get_or, ap, subst, sym, arith, zero-add}
use Rattle.std.specs.Prelude.{option_map, slice_get}
use Rattle.std.proofs.lemmas.List.{take_more}
use Rattle.std.proofs.lemmas.List.FromFn.{get_or-map-range_with_len, length-map-range_with_len}
use Rattle.std.proofs.lemmas.Option.{get_or_from_slice_get, slice_get-map, slice_get_within}
use Rattle.lf_floorplan.specs.declared.limits.Limits.{Limits}
use Rattle.lf_floorplan.specs.declared.cells.CellRef.{CellRef}
use Rattle.lf_floorplan.specs.declared.loaded.Loaded.{Loaded}
use Rattle.lf_floorplan.specs.declared.loaded.LoadedCell.{LoadedCell}
use Rattle.lf_floorplan.specs.Ground.{IsTeam}
use Rattle.lf_floorplan.specs.LoadedCells.{borrowed_cell}
use Rattle.lf_wire_length.specs.declared.pins.NetPin.{NetPin}
use Rattle.lf_wire_length.specs.Stored.{NetlistView}
use Rattle.lf_wire_length.specs.TeamNets.{nets_of_team, nets_of_teams}
use Rattle.lf_improve_team.specs.FloorLengths.{AreNetsOfFloor}
use Rattle.lf_floor_model.specs.Designs.{initial_floor}
use Rattle.lf_floor_model.specs.States.{FloorState}
use Rattle.lf_floor_model.proofs.Openings.{opening_whole}
use Rattle.lf_task_designs.specs.Designs.{ReadsFile}
use Rattle.lf_task_wires.specs.Netted.{IsNettedDesign}
use Rattle.lf_task_wires.specs.declared.netted.NettedDesign.{NettedDesign}
use Rattle.lf_task_improve.specs.Openings.{IsOpenedWithNets, teams_of_cells}

-- a design whose nets are there is opened with them
pub opened_with_nets : (limits : Limits) (gives : ReadsFile) (def : List ℕ) (lefs : List (List ℕ)) (kept : Bool) (design : NettedDesign) (netlist : NetlistView)
    (netted : IsNettedDesign limits gives def lefs kept design) → design.netlist ≡ Ok netlist → IsOpenedWithNets limits gives def lefs netted.text netted.is.document design.loaded netlist.nets
opened_with_nets limits gives def lefs kept design netlist netted there = record {
  texts = netted.texts;
  library = netted.library;
  lefs_are = netted.lefs_are;
  given = netted.given;
  read = netted.is.read;
  loads = netted.is.loads;
  nets_are = rw there at netted.is.nets_are;
}

-- a floor as loaded has as many teams as its frame
pub begun_many : (loaded : Loaded) (floor : FloorState) → floor ≡ initial_floor loaded → length floor.teams ≡ length floor.frame.teams + 1
begun_many loaded floor is = subst (λ (f : FloorState). length f.teams ≡ length f.frame.teams + 1) (sym is) (opening_whole loaded).0

-- ---- the teams of cells

module _ (l : Loaded) (k : ℕ) (o : Option CellRef) (v : CellRef) (read : option_map borrowed_cell o ≡ slice_get l.cells k) (is : o ≡ Some v) where
  there : slice_get l.cells k ≡ Some (borrowed_cell v)
  there = sym read ∙ ap (option_map borrowed_cell) is

  -- a team's number has 32 bits
  pub team_few : k < length l.cells → v.team < 2 ^ 32
  team_few within =
      let same : get_or l.cells k (borrowed_cell v) ≡ borrowed_cell v = get_or_from_slice_get l.cells k (borrowed_cell v) (borrowed_cell v) there in
      let known : IsTeam l.frame v.team = (rw same at (l.cells_known k (borrowed_cell v) within)).team_known in
      omega (arith, known, l.frame.few_fences, l.frame.limits.allowed.fences_within.most)

  pub team_there : slice_get (teams_of_cells l) k ≡ Some v.team
  team_there = slice_get-map (λ (c : LoadedCell). c.team) l.cells k ∙ ap (option_map (λ (c : LoadedCell). c.team)) there

-- the teams of one cell more
pub one_team_more : (teams : List ℕ) (k team : ℕ) → slice_get teams k ≡ Some team → take k teams ++ team ∷ [] ≡ take (k + 1) teams
one_team_more teams k team is =
    ap (λ (t : ℕ). take k teams ++ t ∷ []) (sym (get_or_from_slice_get teams k team team is)) ∙ sym (take_more teams k team (slice_get_within teams k team is))

-- the nets of the teams on the floor as loaded
pub nets_begin : (loaded : Loaded) (floor : FloorState) (nets : List (List NetPin)) (lists : List (List ℕ)) (count : ℕ) → floor ≡ initial_floor loaded
    → lists ≡ nets_of_teams (teams_of_cells loaded) nets count → AreNetsOfFloor lists nets floor
nets_begin loaded floor nets lists count begins is = record {
  design = loaded;
  entries = ap (λ (f : FloorState). f.components) begins;
  listed = λ number within.
      let many : length lists ≡ count = ap length is ∙ length-map-range_with_len (nets_of_team (teams_of_cells loaded) nets) 0 count in
      ap (λ (ls : List (List ℕ)). get_or ls number []) is
      ∙ get_or-map-range_with_len (nets_of_team (teams_of_cells loaded) nets) 0 count number number [] (omega (arith, many, within)) (zero-add number);
}
