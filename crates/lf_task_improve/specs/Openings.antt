-- A design that is opened with its nets.
use Rattle.std.specs.Prelude.{◌≡◌, ℕ, List, Ok, Some, map}
use Rattle.lf_lef.specs.Contents.{Contents}
use Rattle.lf_def.specs.Document.{Document, document_of}
use Rattle.lf_floorplan.specs.declared.limits.Limits.{Limits}
use Rattle.lf_floorplan.specs.declared.loaded.Loaded.{Loaded}
use Rattle.lf_wire_length.specs.declared.pins.NetPin.{NetPin}
use Rattle.lf_floor_model.specs.Designs.{initial_floor}
use Rattle.lf_task_designs.specs.Designs.{IsLoadedIn, ReadsFile, no_library}
use Rattle.lf_task_wires.specs.Readings.{IsKeptLibrary}
use Rattle.lf_task_wires.specs.Wirelengths.{AreNetsOfTexts}
use Rattle.lf_floor_model.specs.States.{FloorState}
use Rattle.lf_task_run.specs.Tasks.{Opens, Request}
use Rattle.lf_task_improve.specs.declared.opening.DesignWires.{DesignWires}

-- the design of a DEF file over LEF files, with the DEF text, its document and its nets
pub record IsOpenedWithNets (limits : Limits) (gives : ReadsFile) (def : List ℕ) (lefs : List (List ℕ))
    (text : List ℕ) (document : Document) (loaded : Loaded) (nets : List (List NetPin)) : Type 0 where
  pub texts : List (List ℕ)
  pub library : Contents
  pub lefs_are : IsKeptLibrary gives no_library lefs texts library
  pub given : gives def (Some text)
  pub read : document_of text ≡ Ok document
  pub loads : IsLoadedIn limits library document loaded
  pub nets_are : AreNetsOfTexts texts text document loaded nets

-- the number of each cell's team
abbrev pub teams_of_cells : Loaded → List ℕ
teams_of_cells loaded = map (λ c. c.team) loaded.cells

-- the design is opened with its nets, its floor is as loaded, and the number of each cell's team is
-- listed
pub record IsOpenedAsLoaded (gives : ReadsFile) (job : Request) (text : List ℕ) (document : Document) (loaded : Loaded)
    (begin : FloorState) (wires : DesignWires) : Type 0 where
  pub opened : IsOpenedWithNets job.limits gives job.def job.lefs text document loaded wires.netlist.nets
  pub begins : begin ≡ initial_floor loaded
  pub teams : wires.teams.items ≡ teams_of_cells loaded

abbrev pub OpensWithNets : Opens DesignWires
OpensWithNets = IsOpenedAsLoaded
