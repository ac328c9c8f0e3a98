-- The report of the wire lengths of a design of files.
use Rattle.std.specs.Prelude.{◌≡◌, ◌⊎◌, ◌+◌, ℕ, false, List, [], Option, Some, Ok, count_by, length, take}
use Rattle.std.specs.Io.KnownBytes.{Appends}
use Rattle.lf_lef.specs.Contents.{Contents}
use Rattle.lf_def.specs.Document.{Document, document_of}
use Rattle.lf_floorplan.specs.declared.limits.Limits.{Limits}
use Rattle.lf_floorplan.specs.declared.loaded.Loaded.{Loaded}
use Rattle.lf_wire_length.specs.declared.pins.NetPin.{NetPin}
use Rattle.lf_wire_length.specs.declared.netlist.WireLengths.{WireLengths}
use Rattle.lf_wire_length.specs.Counts.{net_counts}
use Rattle.lf_wire_length.specs.Length.{length_of_nets}
use Rattle.lf_wire_length.specs.Placed.{loaded_place, loaded_team}
use Rattle.lf_wire_length.specs.Teams.{lengths_of_teams}
use Rattle.lf_wire_nets.specs.declared.macros.MacroPins.{MacroPins}
use Rattle.lf_wire_nets.specs.declared.design_nets.DesignNets.{DesignNets}
use Rattle.lf_wire_nets.specs.NetTexts.{nets_of}
use Rattle.lf_wire_nets.specs.Binding.{bound_nets, is_supply}
use Rattle.lf_wire_nets.specs.Texts.{DesignFacts}
use Rattle.lf_task_reports.specs.WireReports.{wire_report}
use Rattle.lf_task_faults.specs.declared.faults.Fault.{Fault}
use Rattle.lf_task_faults.specs.declared.faults.Fault.TheVariants.{Output, SetupOutOfMemory}
use Rattle.lf_task_faults.specs.declared.faults.TextKind.TheVariants.{Def}
use Rattle.lf_task_designs.specs.Designs.{IsLoadedIn, IsRefusedText, ReadsFile, no_library}
use Rattle.lf_task_files.specs.States.{IsFloorFault, IsViewedDesign}
use Rattle.lf_task_wires.specs.Readings.{AddPins, IsKeptLibrary, IsNetsRefusal, IsPinsFault}

-- Holds for the lengths of these nets, with the cells of the design at their places: of all nets,
-- and of each team of the frame.
pub record AreLengthsOfNets (seen : Loaded) (nets : List (List NetPin)) (lengths : WireLengths) : Type 0 where
  pub nets_are : lengths.nets ≡ length nets
  pub length_is : lengths.length ≡ length_of_nets (loaded_place seen.cells) nets
  pub counts_are : lengths.counts ≡ net_counts (loaded_place seen.cells) (loaded_team seen.cells) nets
  pub teams_are : lengths.teams.items
      ≡ lengths_of_teams (loaded_place seen.cells) (loaded_team seen.cells) nets (length seen.frame.teams + 1)

-- The text is the report of these nets of a design.
pub record IsReportOfNets (d : DesignFacts) (nets : DesignNets) (text : List ℕ) : Type 0 where
  pub lengths : WireLengths
  pub measured : AreLengthsOfNets d.loaded (bound_nets d nets.nets) lengths
  pub text_is : text ≡ wire_report d.loaded.frame lengths (count_by is_supply nets.nets)

abbrev pub facts_in : Loaded → List MacroPins → Document → DesignNets → DesignFacts
facts_in seen macros document nets =
    record { loaded = seen; macros = macros; components = document.components; pins = nets.pins }

-- The text is the report of the nets of a DEF text over these macros, with the cells at the places of
-- `seen`.
pub record IsReportOverPins (macros : List MacroPins) (text : List ℕ) (document : Document) (seen : Loaded)
    (report : List ℕ) : Type 0 where
  pub nets : DesignNets
  pub nets_are : nets_of text ≡ Ok nets
  pub reported : IsReportOfNets (facts_in seen macros document nets) nets report

-- The text is the report of the nets of a DEF text over LEF texts, with the cells at these places.
pub record IsReportOfTexts (lefs : List (List ℕ)) (text : List ℕ) (document : Document) (seen : Loaded)
    (report : List ℕ) : Type 0 where
  pub macros : List MacroPins
  pub macros_are : AddPins [] lefs macros
  pub over_pins : IsReportOverPins macros text document seen report

-- Holds for the nets of a DEF text over LEF texts that are no supplies, bound to the cells of the
-- design.
pub record AreNetsOfTexts (lefs : List (List ℕ)) (text : List ℕ) (document : Document) (loaded : Loaded)
    (nets : List (List NetPin)) : Type 0 where
  pub macros : List MacroPins
  pub macros_are : AddPins [] lefs macros
  pub found : DesignNets
  pub found_are : nets_of text ≡ Ok found
  pub bound : nets ≡ bound_nets (facts_in loaded macros document found) found.nets

-- The text is the report of the nets of a design of files, with the cells at the places of its DEF
-- text or of the given state.
pub record IsReportOfFiles (limits : Limits) (gives : ReadsFile) (def : List ℕ) (lefs : List (List ℕ))
    (state : Option (List ℕ))
    (report : List ℕ) : Type 0 where
  pub texts : List (List ℕ)
  pub library : Contents
  pub text : List ℕ
  pub document : Document
  pub loaded : Loaded
  pub seen : Loaded
  pub lefs_are : IsKeptLibrary gives no_library lefs texts library
  pub given : gives def (Some text)
  pub read : document_of text ≡ Ok document
  pub loads : IsLoadedIn limits library document loaded
  pub shown : IsViewedDesign false gives state loaded seen
  pub reported : IsReportOfTexts texts text document seen report

-- The report of the wire lengths is appended to the output.
abbrev pub IsMeasured : Limits → ReadsFile → List ℕ → List (List ℕ) → Option (List ℕ) → Option (List ℕ)
    → Option (List ℕ) → ℕ → Type 0
IsMeasured limits gives def lefs state before after status =
    (report : List ℕ) × IsReportOfFiles limits gives def lefs state report × Appends before after report
    × (status ≡ 0)

-- ---- faults

-- Why the nets of texts are not measured: the fault of the pins of LEF texts or, if they have none,
-- of the nets of the DEF text; or a failed allocation.
abbrev pub IsWireFault : List (List ℕ) → List (List ℕ) → List ℕ → List ℕ → Fault → Type 0
IsWireFault lefs texts def text fault =
    IsPinsFault [] lefs texts fault
    ⊎ (IsRefusedText Def def text (IsNetsRefusal text) fault ⊎ (fault ≡ SetupOutOfMemory))

-- Why there is no report: there is no design, or no floor in the requested state; or its nets are
-- not measured.
abbrev pub IsFilesFault : Limits → ReadsFile → List ℕ → List (List ℕ) → Option (List ℕ) → Fault → Type 0
IsFilesFault limits gives def lefs state fault =
    IsFloorFault limits gives def lefs state fault
    ⊎ ((texts : List (List ℕ)) × (library : Contents) × (text : List ℕ)
    × IsKeptLibrary gives no_library lefs texts library × gives def (Some text) × IsWireFault lefs texts def text fault)

-- Why the report is not written: there is none, and nothing is written; or the writer failed, and at
-- most a front of the report is written.
abbrev pub IsNotMeasured : Limits → ReadsFile → List ℕ → List (List ℕ) → Option (List ℕ) → Option (List ℕ)
    → Option (List ℕ) → Fault → Type 0
IsNotMeasured limits gives def lefs state before after fault =
    (IsFilesFault limits gives def lefs state fault × (after ≡ before))
    ⊎ ((fault ≡ Output) × ((report : List ℕ) × (n : ℕ) × IsReportOfFiles limits gives def lefs state report
    × Appends before after (take n report)))
