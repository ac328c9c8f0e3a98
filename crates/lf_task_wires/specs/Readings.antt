-- The LEF texts of files, which are read twice: for the library, and for the pins of macros.
use Rattle.std.specs.Prelude.{◌≡◌, ◌⊎◌, ℕ, List, [], ◌∷◌, Some, Ok}
use Rattle.lf_lef.specs.Contents.{Contents}
use Rattle.lf_lef.specs.Library.{library_after}
use Rattle.lf_wire_nets.specs.declared.macros.MacroPins.{MacroPins}
use Rattle.lf_wire_nets.specs.LibraryPins.{RefusesPins, pins_after}
use Rattle.lf_wire_nets.specs.NetTexts.{RefusesNets, nets_of}
use Rattle.lf_task_faults.specs.declared.faults.Fault.{Fault}
use Rattle.lf_task_faults.specs.declared.faults.TextKind.TheVariants.{Lef}
use Rattle.lf_task_designs.specs.Designs.{IsRefusedText, ReadsFile, RefusalCause, RefusedFor}

-- The files of these paths are read, and have these texts, which extend the old library to the new
-- one.
abbrev pub IsKeptLibrary : ReadsFile → Contents → List (List ℕ) → List (List ℕ) → Contents → Type 0
IsKeptLibrary gives old [] texts new = (texts ≡ []) × (new ≡ old)
IsKeptLibrary gives old (path ∷ paths) texts new =
    (text : List ℕ) × (later : List (List ℕ)) × (next : Contents) × (texts ≡ text ∷ later) × gives path (Some text)
    × (library_after old text ≡ Ok next) × IsKeptLibrary gives next paths later new

-- The texts extend these macros to those ones.
abbrev pub AddPins : List MacroPins → List (List ℕ) → List MacroPins → Type 0
AddPins old [] new = new ≡ old
AddPins old (text ∷ texts) new = (next : List MacroPins) × (pins_after old text ≡ Ok next) × AddPins next texts new

-- Why the pins of a LEF text are not read: its first fault with its line, or a failed allocation.
abbrev pub IsPinsRefusal : List MacroPins → List ℕ → RefusalCause
IsPinsRefusal macros text = RefusedFor (λ refusal. RefusesPins refusal (pins_after macros text))

-- Why the pins of LEF texts are not read: the fault of the first faulty text.
abbrev pub IsPinsFault : List MacroPins → List (List ℕ) → List (List ℕ) → Fault → Type 0
IsPinsFault old [] texts fault = ⊥
IsPinsFault old (path ∷ paths) [] fault = ⊥
IsPinsFault old (path ∷ paths) (text ∷ texts) fault =
    IsRefusedText Lef path text (IsPinsRefusal old text) fault
    ⊎ ((next : List MacroPins) × (pins_after old text ≡ Ok next) × IsPinsFault next paths texts fault)

-- Why the nets of a DEF text are not read: its first fault with its line, or a failed allocation.
abbrev pub IsNetsRefusal : List ℕ → RefusalCause
IsNetsRefusal text = RefusedFor (λ refusal. RefusesNets refusal (nets_of text))
