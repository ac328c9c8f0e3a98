-- The design of files: what is loaded from their texts, and why loading fails.
use Rattle.std.specs.Prelude.{◌≡◌, ◌⊎◌, ℕ, List, [], ◌∷◌, Bool, IfSome, Option, Some, None, Ok, is_some, map}
use Rattle.lf_lex.specs.declared.fault.LoadFault.{LoadFault}
use Rattle.lf_lex.specs.declared.fault.ReadError.TheVariants.{Memory}
use Rattle.lf_lex.specs.Faults.{load_fault_of}
use Rattle.lf_lef.specs.Contents.{Contents}
use Rattle.lf_lef.specs.Library as lef
use Rattle.lf_def.specs.Document as def
use Rattle.lf_floorplan.specs.declared.limits.Limits.{Limits}
use Rattle.lf_floorplan.specs.declared.loaded.Loaded.{Loaded}
use Rattle.lf_frame.specs.Findings.{IsLoadFault}
use Rattle.lf_frame.specs.Conflicts.{ConflictsWith, Conflict, no_fence}
use Rattle.lf_frame.specs.Loads.{IsLoadedFrom}
use Rattle.lf_write.specs.Export.{ClauseFacts, clause_of}
use Rattle.lf_task_designs.specs.declared.loading.TheConstants.{BUILT_IN}
use Rattle.lf_task_faults.specs.declared.faults.Fault.{Fault}
use Rattle.lf_task_faults.specs.declared.faults.Fault.TheVariants.{Refused, File, SetupOutOfMemory}
use Rattle.lf_task_faults.specs.declared.faults.TextKind.{TextKind}
use Rattle.lf_task_faults.specs.declared.faults.TextKind.TheVariants.{Lef, Def}
use Rattle.lf_task_designs.specs.declared.opening.DesignWithText.{DesignWithText}
use Rattle.lf_task_designs.specs.declared.opening.OpenedDesign.{OpenedDesign}
use Rattle.lf_task_designs.specs.declared.opening.SourceText.{SourceText}
use Rattle.lf_task_faults.specs.Faults.{IsFile}
use Rattle.lf_task_faults.specs.Refusals.{ReportsFault}

-- What reading the file of a path may return: its text, or `None` if it cannot be read.
abbrev pub ReadsFile : Type 1
ReadsFile = List ℕ → Option (List ℕ) → Type 0

-- The library without sites and macros.
abbrev pub no_library : Contents
no_library = record { sites = []; macros = [] }

-- The file of the path is read, and its LEF text extends the old library to the new one.
pub record AddsFile (gives : ReadsFile) (path : List ℕ) (old new : Contents) : Type 0 where
  pub text : List ℕ
  pub given : gives path (Some text)
  pub read : lef.library_after old text ≡ Ok new

-- The LEF texts of these files, read in the order of the paths, extend the old library to the new
-- one.
abbrev pub IsLibraryOf : ReadsFile → Contents → List (List ℕ) → Contents → Type 0
IsLibraryOf gives old [] new = new ≡ old
IsLibraryOf gives old (path ∷ paths) new = (next : Contents) × AddsFile gives path old next
    × IsLibraryOf gives next paths new

-- The limits of a design whose teams have `slots` session slots. The other limits have their
-- defaults.
pub record AreWithSlots (slots : ℕ) (limits : Limits) : Type 0 where
  pub rows : limits.rows ≡ 65535
  pub fences : limits.fences ≡ 1024
  pub components : limits.components ≡ 4000000
  pub sessions : limits.sessions ≡ slots
  pub undo : limits.undo ≡ 64
  pub revisions : limits.revisions ≡ 4000000000

-- The design is loaded from the library and the document within these limits.
abbrev pub IsLoadedIn : Limits → Contents → def.Document → Loaded → Type 0
IsLoadedIn limits library document loaded =
    IsLoadedFrom (record { library = library; document = document; limits = limits }) loaded

-- The fault for which no design is loaded from them.
abbrev pub IsFaultIn : Limits → Contents → def.Document → LoadFault → Type 0
IsFaultIn limits library document refusal =
    IsLoadFault (record { library = library; document = document; limits = limits }) refusal

-- Why a text is refused: the fault, and the fences in conflict.
abbrev pub RefusalCause : Type 1
RefusalCause = LoadFault → Conflict → Type 0

-- A fault of loading the document has these fences in conflict.
abbrev pub ConflictsIn : def.Document → RefusalCause
ConflictsIn document = ConflictsWith document.regions document.groups

-- Why loading is refused: a fault that it finds, with the fences in conflict, or a failed
-- allocation.
abbrev pub IsLoadRefusal : Limits → Contents → def.Document → RefusalCause
IsLoadRefusal limits library document refusal overlapping_one =
    ((refusal ≡ load_fault_of Memory) ⊎ IsFaultIn limits library document refusal)
    × ConflictsIn document refusal overlapping_one

-- The design of a DEF text over the library.
abbrev pub IsDesignIn : Limits → Contents → List ℕ → Loaded → Type 0
IsDesignIn limits library text loaded = (document : def.Document) × (def.document_of text ≡ Ok document)
    × IsLoadedIn limits library document loaded

-- What is kept of a DEF text besides its bytes: the design of its document over the library, and
-- the clauses of its components.
pub record IsLoadedText (limits : Limits) (text : List ℕ) (library : Contents) (document : def.Document)
    (clauses : List ClauseFacts) (loaded : Loaded) : Type 0 where
  pub read : def.document_of text ≡ Ok document
  pub clauses_are : clauses ≡ map (clause_of text) document.components
  pub loads : IsLoadedIn limits library document loaded

-- The file of the path is read, and the design is that of its DEF text over the library.
pub record IsFileDesign (limits : Limits) (gives : ReadsFile) (path : List ℕ) (library : Contents)
    (loaded : Loaded) : Type 0 where
  pub text : List ℕ
  pub given : gives path (Some text)
  pub design : IsDesignIn limits library text loaded

-- The design of a DEF file over the library of LEF files.
abbrev pub IsDesignOf : Limits → ReadsFile → List ℕ → List (List ℕ) → Loaded → Type 0
IsDesignOf limits gives path lefs loaded = (library : Contents) × IsLibraryOf gives no_library lefs library
    × IsFileDesign limits gives path library loaded

-- The design of a DEF file over LEF files, with the DEF text and its document.
pub record IsOpened (limits : Limits) (gives : ReadsFile) (path : List ℕ) (lefs : List (List ℕ)) (text : List ℕ)
    (document : def.Document)
    (loaded : Loaded) : Type 0 where
  pub library : Contents
  pub lefs_are : IsLibraryOf gives no_library lefs library
  pub given : gives path (Some text)
  pub read : def.document_of text ≡ Ok document
  pub loads : IsLoadedIn limits library document loaded

-- The design of a DEF file over LEF files is opened with its DEF text and the clauses of its
-- components.
abbrev pub IsOpenedWithText : Limits → ReadsFile → List ℕ → List (List ℕ) → DesignWithText → Type 0
IsOpenedWithText limits gives path lefs opened =
    (document : def.Document) × IsOpened limits gives path lefs opened.original.text.items document opened.loaded
    × (opened.original.clauses ≡ map (clause_of opened.original.text.items) document.components)

-- If a DEF text is kept, it has these bytes and this document.
abbrev pub AreKept : Option SourceText → List ℕ → def.Document → Type 0
AreKept original text document =
    IfSome original
    (λ original. (original.text.items ≡ text) × (original.clauses ≡ map (clause_of text) document.components))

-- The design of a DEF file over LEF files is opened, and its DEF text is kept if this is requested.
pub record IsOpenedOf (limits : Limits) (gives : ReadsFile) (path : List ℕ) (lefs : List (List ℕ))
    (is_text_kept : Bool) (design : OpenedDesign) : Type 0 where
  pub text : List ℕ
  pub document : def.Document
  pub opened : IsOpened limits gives path lefs text document design.loaded
  pub are : AreKept design.original text document
  pub kept : is_some design.original ≡ is_text_kept

-- The design of a DEF text over a LEF text.
abbrev pub IsTextDesign : Limits → List ℕ → List ℕ → Loaded → Type 0
IsTextDesign limits text lef_text loaded = (library : Contents) × (lef.library_after no_library lef_text ≡ Ok library)
    × IsDesignIn limits library text loaded

-- A cause that names no fences.
abbrev pub RefusedFor : (LoadFault → Type 0) → RefusalCause
RefusedFor Why refusal overlapping_one = Why refusal × (overlapping_one ≡ no_fence)

-- Why a LEF text is refused over the library: its first fault with its line, or a failed
-- allocation.
abbrev pub IsLefRefusal : Contents → List ℕ → RefusalCause
IsLefRefusal library text = RefusedFor (λ refusal. lef.RefusesLef refusal (lef.library_after library text))

-- Why a DEF text is not read: its first fault with its line, or a failed allocation.
abbrev pub IsReadRefusal : List ℕ → RefusalCause
IsReadRefusal text = RefusedFor (λ refusal. def.RefusesDef refusal (def.document_of text))

-- Why a DEF text has no design over the library: it is not read, or the document is not loaded.
abbrev pub IsDefRefusal : Limits → Contents → List ℕ → RefusalCause
IsDefRefusal limits library text refusal overlapping_one =
    IsReadRefusal text refusal overlapping_one
    ⊎ ((document : def.Document) × (def.document_of text ≡ Ok document) × IsFaultIn limits library document refusal
    × ConflictsIn document refusal overlapping_one)

-- The fault reports a refusal for this cause, of the text that was read as this kind from the file
-- of the path.
abbrev pub IsRefusedText : TextKind → List ℕ → List ℕ → RefusalCause → Fault → Type 0
IsRefusedText kind path text why (Refused file its) =
    IsFile kind path file × ((refusal : LoadFault) × (overlapping_one : Conflict) × why refusal overlapping_one
    × ReportsFault kind text refusal overlapping_one its)
IsRefusedText kind path text why _ = ⊥

-- Why the text of a file was not read: an allocation failed, or the file cannot be read.
abbrev pub IsUnread : ReadsFile → TextKind → List ℕ → Fault → Type 0
IsUnread gives kind path SetupOutOfMemory = Unit {0}
IsUnread gives kind path (File file why) = IsFile kind path file × gives path None
IsUnread gives kind path _ = ⊥

-- Why a file cannot be used: its text was not read, or is refused for this cause.
abbrev pub IsFileFault : ReadsFile → TextKind → List ℕ → (List ℕ → RefusalCause) → Fault → Type 0
IsFileFault gives kind path why fault =
    IsUnread gives kind path fault
    ⊎ ((text : List ℕ) × gives path (Some text) × IsRefusedText kind path text (why text) fault)

-- Why these LEF files have no library: the fault of the first faulty file, over the library of the
-- earlier files.
abbrev pub IsLibraryFault : ReadsFile → Contents → List (List ℕ) → Fault → Type 0
IsLibraryFault gives old [] fault = ⊥
IsLibraryFault gives old (path ∷ paths) fault =
    IsFileFault gives Lef path (IsLefRefusal old) fault
    ⊎ ((next : Contents) × AddsFile gives path old next × IsLibraryFault gives next paths fault)

-- Why a DEF file has no design over LEF files: the fault of the LEF files or, if they have no
-- fault, that of the DEF file.
abbrev pub IsDesignFault : Limits → ReadsFile → List ℕ → List (List ℕ) → Fault → Type 0
IsDesignFault limits gives path lefs fault =
    IsLibraryFault gives no_library lefs fault
    ⊎ ((library : Contents) × IsLibraryOf gives no_library lefs library
    × IsFileFault gives Def path (IsDefRefusal limits library) fault)

-- Why a built-in DEF text has no design over a built-in LEF text: the refusal of the LEF text or,
-- if it is accepted, of the DEF text.
abbrev pub IsTextFault : Limits → List ℕ → List ℕ → Fault → Type 0
IsTextFault limits text lef_text fault =
    IsRefusedText Lef BUILT_IN.now lef_text (IsLefRefusal no_library lef_text) fault
    ⊎ ((library : Contents) × (lef.library_after no_library lef_text ≡ Ok library)
    × IsRefusedText Def BUILT_IN.now text (IsDefRefusal limits library text) fault)
