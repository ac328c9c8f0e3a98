-- The report of a design, step by step.
use Rattle.std.proofs.Common.{◌≡◌, ◌⊎◌, inl, inr, ℕ, List, [], ◌∷◌, Option, Some, Ok, subst, sym}
use Rattle.lf_lef.specs.Contents.{Contents}
use Rattle.lf_def.specs.Document.{Document, document_of}
use Rattle.lf_floorplan.specs.declared.limits.Limits.{Limits}
use Rattle.lf_floorplan.specs.declared.loaded.Loaded.{Loaded}
use Rattle.lf_wire_nets.specs.declared.macros.MacroPins.{MacroPins}
use Rattle.lf_task_faults.specs.Faults.{IsEarly}
use Rattle.lf_task_faults.specs.declared.faults.Fault.{Fault}
use Rattle.lf_task_faults.specs.declared.faults.TextKind.TheVariants.{Def, Lef}
use Rattle.lf_task_designs.specs.Designs.{IsDefRefusal, IsDesignIn, IsFileFault, IsLibraryOf, IsLoadRefusal, IsLoadedIn, IsRefusedText, ReadsFile, no_library}
use Rattle.lf_task_designs.proofs.DesignSteps.{text_refused}
use Rattle.lf_task_files.specs.States.{IsNotOpened}
use Rattle.lf_task_files.proofs.WorkSteps.{floor_early, refused_early}
use Rattle.lf_task_wires.specs.Readings.{IsKeptLibrary, IsNetsRefusal, IsPinsFault, IsPinsRefusal}
use Rattle.lf_task_wires.specs.Wirelengths.{IsFilesFault, IsWireFault}

-- A library whose texts are kept is that of the files.
pub library_of_kept : (gives : ReadsFile) (old new : Contents) (paths texts : List (List ℕ)) → IsKeptLibrary gives old paths texts new → IsLibraryOf gives old paths new
library_of_kept gives old new [] texts is = is.1
library_of_kept gives old new (path ∷ paths) texts is = (is.2, record { text = is.0; given = is.4; read = is.5 }, library_of_kept gives is.2 new paths is.1 is.6)

pins_early : (old : List MacroPins) (paths texts : List (List ℕ)) (fault : Fault) → IsPinsFault old paths texts fault → IsEarly fault
pins_early old [] texts fault is = absurd is
pins_early old (path ∷ paths) [] fault is = absurd is
pins_early old (path ∷ paths) (text ∷ texts) fault (inl refused) = refused_early Lef path text (IsPinsRefusal old text) fault refused
pins_early old (path ∷ paths) (text ∷ texts) fault (inr later) = pins_early later.0 paths texts fault later.2

wire_early : (lefs texts : List (List ℕ)) (def text : List ℕ) (fault : Fault) → IsWireFault lefs texts def text fault → IsEarly fault
wire_early lefs texts def text fault (inl pins) = pins_early [] lefs texts fault pins
wire_early lefs texts def text fault (inr (inl refused)) = refused_early Def def text (IsNetsRefusal text) fault refused
wire_early lefs texts def text fault (inr (inr memory)) = subst IsEarly (sym memory) tt

-- Each fault of the report is reported before anything is written.
pub files_early : (limits : Limits) (gives : ReadsFile) (def : List ℕ) (lefs : List (List ℕ)) (state : Option (List ℕ)) (fault : Fault) → IsFilesFault limits gives def lefs state fault
    → IsEarly fault
files_early limits gives def lefs state fault (inl floor) = floor_early limits gives def lefs state fault floor
files_early limits gives def lefs state fault (inr (texts, library, text, kept, given, wire)) = wire_early lefs texts def text fault wire

-- Why a text has no report.
abbrev pub TextFails : Limits → ReadsFile → List ℕ → List (List ℕ) → List (List ℕ) → Option (List ℕ) → Contents → List ℕ → Fault → Type 0
TextFails limits gives def lefs texts state library text fault =
    IsRefusedText Def def text (IsDefRefusal limits library text) fault
    ⊎ (((loaded : Loaded) × IsDesignIn limits library text loaded × IsNotOpened gives state loaded fault)
    ⊎ IsWireFault lefs texts def text fault)

pub unseen_fails : (limits : Limits) (gives : ReadsFile) (def : List ℕ) (lefs texts : List (List ℕ)) (state : Option (List ℕ)) (library : Contents) (text : List ℕ) (document : Document) (fault : Fault)
    → document_of text ≡ Ok document
    → IsRefusedText Def def text (IsLoadRefusal limits library document) fault
    ⊎ ((loaded : Loaded) × IsLoadedIn limits library document loaded × IsNotOpened gives state loaded fault)
    → TextFails limits gives def lefs texts state library text fault
unseen_fails limits gives def lefs texts state library text document fault is (inl refused) = inl (text_refused limits library def text document fault is refused)
unseen_fails limits gives def lefs texts state library text document fault is (inr (loaded, loads, unbegun)) = inr (inl (loaded, (document, is, loads), unbegun))

-- Why a file has none.
abbrev pub FileFails : Limits → ReadsFile → List ℕ → List (List ℕ) → List (List ℕ) → Option (List ℕ) → Contents → Fault → Type 0
FileFails limits gives def lefs texts state library fault =
    IsFileFault gives Def def (IsDefRefusal limits library) fault
    ⊎ ((text : List ℕ) × gives def (Some text)
    × (((loaded : Loaded) × IsDesignIn limits library text loaded × IsNotOpened gives state loaded fault)
    ⊎ IsWireFault lefs texts def text fault))

pub text_fails : (limits : Limits) (gives : ReadsFile) (def : List ℕ) (lefs texts : List (List ℕ)) (state : Option (List ℕ)) (library : Contents) (text : List ℕ) (fault : Fault)
    → gives def (Some text) → TextFails limits gives def lefs texts state library text fault → FileFails limits gives def lefs texts state library fault
text_fails limits gives def lefs texts state library text fault given (inl refused) = inl (inr (text, given, refused))
text_fails limits gives def lefs texts state library text fault given (inr later) = inr (text, given, later)

pub file_fails : (limits : Limits) (gives : ReadsFile) (def : List ℕ) (lefs texts : List (List ℕ)) (state : Option (List ℕ)) (library : Contents) (fault : Fault)
    → IsKeptLibrary gives no_library lefs texts library → FileFails limits gives def lefs texts state library fault → IsFilesFault limits gives def lefs state fault
file_fails limits gives def lefs texts state library fault kept (inl file) = inl (inl (inr (library, library_of_kept gives no_library library lefs texts kept, file)))
file_fails limits gives def lefs texts state library fault kept (inr (text, given, inl (loaded, design, unbegun))) =
    inl (inr (loaded, (library, library_of_kept gives no_library library lefs texts kept, record { text = text; given = given; design = design }), unbegun))
file_fails limits gives def lefs texts state library fault kept (inr (text, given, inr wire)) = inr (texts, library, text, kept, given, wire)
