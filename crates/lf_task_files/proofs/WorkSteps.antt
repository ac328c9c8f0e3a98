-- Work on a design, step by step: the result of the steps after one is the result of the whole.
use Rattle.std.proofs.Common.{◌≡◌, ◌⊎◌, inl, inr, subst, sym, true, Bool, ℕ, List, [], ◌∷◌, None, Ok, Option, Some}
use Rattle.std.specs.Prelude.{Err, IfErr, IfOk, OnErr, Result}
use Rattle.std.proofs.lemmas.Result.{IfErr-weaker, IfOk-weaker}
use Rattle.lf_lef.specs.Contents.{Contents}
use Rattle.lf_def.specs.Document.{Document, document_of}
use Rattle.lf_floorplan.specs.declared.limits.Limits.{Limits}
use Rattle.lf_floorplan.specs.declared.loaded.Loaded.{Loaded}
use Rattle.lf_task_faults.specs.declared.faults.Fault.{Fault}
use Rattle.lf_task_faults.specs.declared.faults.Fault.TheVariants.{Refused, File, RefusedState, RefusedJournal, NoTeam, RefusedTeam, TeamDiffers, SliceDiffers, ReadFault, WriteFault, TooManyLines, OutOfMemory, Output, Bind, Accept, Hub, NotWritten, SetupOutOfMemory, OutputOutOfMemory}
use Rattle.lf_task_faults.specs.declared.faults.TextKind.{TextKind}
use Rattle.lf_task_faults.specs.declared.faults.TextKind.TheVariants.{Lef, Def, State}
use Rattle.lf_task_designs.specs.Designs.{RefusalCause, ReadsFile, IsDefRefusal, IsDesignFault, IsDesignOf, IsFileFault, IsLefRefusal, IsLibraryFault, IsLibraryOf}
use Rattle.lf_task_designs.specs.Designs.{IsLoadRefusal, IsLoadedIn, IsOpened, IsRefusedText, IsUnread, no_library}
use Rattle.lf_task_designs.proofs.DesignSteps.{text_refused}
use Rattle.lf_task_faults.specs.Faults.{BlamesDevices, BlamesWriter, IsEarly}
use Rattle.lf_task_files.specs.Exits.{IsOpenUndescribed, IsViewNotDescribed}
use Rattle.lf_task_files.specs.Faults.{ExportFails}
use Rattle.lf_task_files.specs.States.{IsFloorFault, IsStateFault, IsStateRefused, IsStateTextFault, IsNotOpened}
use Rattle.lf_state_text.specs.declared.fault.StateFault.{StateFault}
use Rattle.lf_floor_model.specs.States.{FloorState}
use Rattle.lf_floor_model.specs.Designs.{initial_floor}

-- What holds of a status implies a weaker claim.
pub weaker_ok : (r : Result ℕ Fault) (P Q : ℕ → Type 0) → IfOk r P → ((status : ℕ) → P status → Q status) → IfOk r Q
weaker_ok r P Q is gives = IfOk-weaker r P Q gives is

-- A fault of a step is a fault of the whole.
pub step_fails : (r : Result ℕ Fault) (why all also : Fault → Type 0) → IfErr r (λ fault. why fault × also fault)
    → ((fault : Fault) → why fault → all fault) → IfErr r (λ fault. all fault × also fault)
step_fails r why all also is gives =
    IfErr-weaker r (λ fault. why fault × also fault) (λ fault. all fault × also fault) (λ fault both. (gives fault both.0, both.1)) is

abbrev IsRoom : Fault → Type 0
IsRoom OutputOutOfMemory = Unit {0}
IsRoom _ = ⊥

abbrev IsPath : Fault → Type 0
IsPath (NotWritten its_kind path why) = Unit {0}
IsPath _ = ⊥

-- A further claim about the same fault.
pub also_fails : (r : Result ℕ Fault) (why also more : Fault → Type 0) → IfErr r (λ fault. why fault × also fault)
    → ((fault : Fault) → also fault → more fault) → IfErr r (λ fault. why fault × more fault)
also_fails r why also more is gives =
    IfErr-weaker r (λ fault. why fault × also fault) (λ fault. why fault × more fault) (λ fault both. (both.0, gives fault both.1)) is

-- The devices that are blamed, with equivalent conditions.
pub blames_as : (fault : Fault) (kept kept' reader reader' writer writer' export export' service service' sound sound' : Type 0)
    → BlamesDevices fault kept reader writer export service sound
    → (kept → kept') → (reader → reader') → (writer → writer') → (export → export') → (service → service') → (sound → sound')
    → BlamesDevices fault kept' reader' writer' export' service' sound'
blames_as fault kept kept' reader reader' writer writer' export export' service service' sound sound' blames k r w e s n = record {
  early = λ is. k (blames.early is);
  reading = λ is. r (blames.reading is);
  writing = λ is. w (blames.writing is);
  exporting = λ is. e (blames.exporting is);
  serving = λ is. s (blames.serving is);
  sparing = λ is. n (blames.sparing is);
}

-- If a task has only a writer, any claim holds of a fault of another device.
pub writer_blames : (fault : Fault) (kept kept' reader export service sound : Type 0) (before now : Bool) → BlamesWriter fault kept before now
    → (kept → kept') → (now ≡ before → sound) → BlamesDevices fault kept' reader (now ≡ true) export service sound
writer_blames fault kept kept' reader export service sound before now blames keeps sounds =
    blames_as fault _ _ _ _ _ _ _ _ _ _ _ _ blames keeps (λ none. absurd none) (λ is. is) (λ none. absurd none) (λ none. absurd none) sounds

-- An early fault blames no device.
pub early_blames : (kept reader writer export service sound : Type 0) (fault : Fault) → kept → sound → IsEarly fault
    → BlamesDevices fault kept reader writer export service sound
early_blames kept reader writer export service sound (Refused file its) keeps sounds early =
    record { early = λ _. keeps; reading = λ same. absurd (subst IsEarly same tt); writing = λ of. absurd of; exporting = λ of. absurd of; serving = λ of. absurd of; sparing = λ _. sounds }
early_blames kept reader writer export service sound (File file why) keeps sounds early =
    record { early = λ _. keeps; reading = λ same. absurd (subst IsEarly same tt); writing = λ of. absurd of; exporting = λ of. absurd of; serving = λ of. absurd of; sparing = λ _. sounds }
early_blames kept reader writer export service sound (RefusedState path its) keeps sounds early =
    record { early = λ _. keeps; reading = λ same. absurd (subst IsEarly same tt); writing = λ of. absurd of; exporting = λ of. absurd of; serving = λ of. absurd of; sparing = λ _. sounds }
early_blames kept reader writer export service sound (RefusedJournal path its) keeps sounds early =
    record { early = λ _. keeps; reading = λ same. absurd (subst IsEarly same tt); writing = λ of. absurd of; exporting = λ of. absurd of; serving = λ of. absurd of; sparing = λ _. sounds }
early_blames kept reader writer export service sound (NoTeam name) keeps sounds early =
    record { early = λ _. keeps; reading = λ same. absurd (subst IsEarly same tt); writing = λ of. absurd of; exporting = λ of. absurd of; serving = λ of. absurd of; sparing = λ _. sounds }
early_blames kept reader writer export service sound (RefusedTeam name cause) keeps sounds early =
    record { early = λ _. keeps; reading = λ same. absurd (subst IsEarly same tt); writing = λ of. absurd of; exporting = λ of. absurd of; serving = λ of. absurd of; sparing = λ _. sounds }
early_blames kept reader writer export service sound (TeamDiffers differing team) keeps sounds early =
    record { early = λ _. keeps; reading = λ same. absurd (subst IsEarly same tt); writing = λ of. absurd of; exporting = λ of. absurd of; serving = λ of. absurd of; sparing = λ _. sounds }
early_blames kept reader writer export service sound SliceDiffers keeps sounds early =
    record { early = λ _. keeps; reading = λ same. absurd (subst IsEarly same tt); writing = λ of. absurd of; exporting = λ of. absurd of; serving = λ of. absurd of; sparing = λ _. sounds }
early_blames kept reader writer export service sound ReadFault keeps sounds early = absurd early
early_blames kept reader writer export service sound WriteFault keeps sounds early = absurd early
early_blames kept reader writer export service sound TooManyLines keeps sounds early = absurd early
early_blames kept reader writer export service sound OutOfMemory keeps sounds early = absurd early
early_blames kept reader writer export service sound Output keeps sounds early = absurd early
early_blames kept reader writer export service sound (Bind port why) keeps sounds early = absurd early
early_blames kept reader writer export service sound Accept keeps sounds early = absurd early
early_blames kept reader writer export service sound (Hub folder failure) keeps sounds early = absurd early
early_blames kept reader writer export service sound (NotWritten its_kind path why) keeps sounds early = absurd early
early_blames kept reader writer export service sound SetupOutOfMemory keeps sounds early =
    record { early = λ _. keeps; reading = λ same. absurd (subst IsEarly same tt); writing = λ of. absurd of; exporting = λ of. absurd of; serving = λ of. absurd of; sparing = λ _. sounds }
early_blames kept reader writer export service sound OutputOutOfMemory keeps sounds early = absurd early

-- A fault of the export blames its file, or no device.
pub export_blames : (kept reader writer export service sound : Type 0) (fault : Fault) (before now : Bool) → ExportFails fault before now
    → (now ≡ true → export) → (now ≡ before → sound) → BlamesDevices fault kept reader writer export service sound
export_blames kept reader writer export service sound (Refused file its) before now is fails sounds = absurd is
export_blames kept reader writer export service sound (File file why) before now is fails sounds = absurd is
export_blames kept reader writer export service sound (RefusedState path its) before now is fails sounds = absurd is
export_blames kept reader writer export service sound (RefusedJournal path its) before now is fails sounds = absurd is
export_blames kept reader writer export service sound (NoTeam name) before now is fails sounds = absurd is
export_blames kept reader writer export service sound (RefusedTeam name cause) before now is fails sounds = absurd is
export_blames kept reader writer export service sound (TeamDiffers differing team) before now is fails sounds = absurd is
export_blames kept reader writer export service sound SliceDiffers before now is fails sounds = absurd is
export_blames kept reader writer export service sound ReadFault before now is fails sounds = absurd is
export_blames kept reader writer export service sound WriteFault before now is fails sounds = absurd is
export_blames kept reader writer export service sound TooManyLines before now is fails sounds = absurd is
export_blames kept reader writer export service sound OutOfMemory before now is fails sounds = absurd is
export_blames kept reader writer export service sound Output before now is fails sounds = absurd is
export_blames kept reader writer export service sound (Bind port why) before now is fails sounds = absurd is
export_blames kept reader writer export service sound Accept before now is fails sounds = absurd is
export_blames kept reader writer export service sound (Hub folder failure) before now is fails sounds = absurd is
export_blames kept reader writer export service sound (NotWritten its_kind path why) before now is fails sounds =
    record { early = λ of. absurd of; reading = λ same. absurd (subst IsPath same tt); writing = λ of. absurd of; exporting = λ _. fails is; serving = λ of. absurd of; sparing = λ of. absurd of }
export_blames kept reader writer export service sound SetupOutOfMemory before now is fails sounds = absurd is
export_blames kept reader writer export service sound OutputOutOfMemory before now is fails sounds =
    record { early = λ of. absurd of; reading = λ same. absurd (subst IsRoom same tt); writing = λ of. absurd of; exporting = λ of. absurd of; serving = λ of. absurd of; sparing = λ _. sounds is }

-- A refusal of a text is early.
pub refused_early : (kind : TextKind) (path text : List ℕ) (why : RefusalCause) (fault : Fault) → IsRefusedText kind path text why fault → IsEarly fault
refused_early kind path text why (Refused file its) is = tt
refused_early kind path text why (File file cause) is = absurd is
refused_early kind path text why (RefusedState its_path its) is = absurd is
refused_early kind path text why (RefusedJournal its_path its) is = absurd is
refused_early kind path text why (NoTeam name) is = absurd is
refused_early kind path text why (RefusedTeam name cause) is = absurd is
refused_early kind path text why (TeamDiffers differing team) is = absurd is
refused_early kind path text why SliceDiffers is = absurd is
refused_early kind path text why ReadFault is = absurd is
refused_early kind path text why WriteFault is = absurd is
refused_early kind path text why TooManyLines is = absurd is
refused_early kind path text why OutOfMemory is = absurd is
refused_early kind path text why Output is = absurd is
refused_early kind path text why (Bind port cause) is = absurd is
refused_early kind path text why Accept is = absurd is
refused_early kind path text why (Hub folder failure) is = absurd is
refused_early kind path text why (NotWritten its_kind its_path its_why) is = absurd is
refused_early kind path text why SetupOutOfMemory is = absurd is
refused_early kind path text why OutputOutOfMemory is = absurd is

-- A text that was not read is early too.
pub unread_early : (gives : ReadsFile) (kind : TextKind) (path : List ℕ) (fault : Fault) → IsUnread gives kind path fault → IsEarly fault
unread_early gives kind path (Refused file its) is = absurd is
unread_early gives kind path (File file why) is = tt
unread_early gives kind path (RefusedState its_path its) is = absurd is
unread_early gives kind path (RefusedJournal its_path its) is = absurd is
unread_early gives kind path (NoTeam name) is = absurd is
unread_early gives kind path (RefusedTeam name cause) is = absurd is
unread_early gives kind path (TeamDiffers differing team) is = absurd is
unread_early gives kind path SliceDiffers is = absurd is
unread_early gives kind path ReadFault is = absurd is
unread_early gives kind path WriteFault is = absurd is
unread_early gives kind path TooManyLines is = absurd is
unread_early gives kind path OutOfMemory is = absurd is
unread_early gives kind path Output is = absurd is
unread_early gives kind path (Bind port why) is = absurd is
unread_early gives kind path Accept is = absurd is
unread_early gives kind path (Hub folder failure) is = absurd is
unread_early gives kind path (NotWritten its_kind its_path its_why) is = absurd is
unread_early gives kind path SetupOutOfMemory is = tt
unread_early gives kind path OutputOutOfMemory is = absurd is

-- Each fault of a file is early too.
pub file_early : (gives : ReadsFile) (kind : TextKind) (path : List ℕ) (why : List ℕ → RefusalCause) (fault : Fault) → IsFileFault gives kind path why fault
    → IsEarly fault
file_early gives kind path why fault (inl unread) = unread_early gives kind path fault unread
file_early gives kind path why fault (inr refused) = refused_early kind path refused.0 (why refused.0) fault refused.2

-- The same for LEF files.
pub library_early : (gives : ReadsFile) (old : Contents) (lefs : List (List ℕ)) (fault : Fault) → IsLibraryFault gives old lefs fault → IsEarly fault
library_early gives old [] fault is = absurd is
library_early gives old (path ∷ paths) fault (inl file) = file_early gives Lef path (IsLefRefusal old) fault file
library_early gives old (path ∷ paths) fault (inr later) = library_early gives later.0 paths fault later.2

-- The same for a design.
pub design_early : (limits : Limits) (gives : ReadsFile) (path : List ℕ) (lefs : List (List ℕ)) (fault : Fault) → IsDesignFault limits gives path lefs fault → IsEarly fault
design_early limits gives path lefs fault (inl library) = library_early gives no_library lefs fault library
design_early limits gives path lefs fault (inr file) = file_early gives Def path (IsDefRefusal limits file.0) fault file.2

-- A fault before anything is written is a fault of the whole.
pub first_fails : (why all : Fault → Type 0) (kept reader writer export service sound : Type 0) (fault : Fault) → kept → sound → why fault
    → ((fault : Fault) → why fault → IsEarly fault) → ((fault : Fault) → why fault → all fault)
    → all fault × BlamesDevices fault kept reader writer export service sound
first_fails why all kept reader writer export service sound fault keeps sounds is early gives =
    (gives fault is, early_blames kept reader writer export service sound fault keeps sounds (early fault is))

-- Why the design of a text is not described is why that of a file with this text is not.
pub file_fails : (limits : Limits) (gives : ReadsFile) (path : List ℕ) (library : Contents) (text : List ℕ) (why : Document → Loaded → Type 0) (fault : Fault) → gives path (Some text)
    → IsRefusedText Def path text (IsDefRefusal limits library text) fault
    ⊎ ((d : Document) × (document_of text ≡ Ok d) × ((loaded : Loaded) × IsLoadedIn limits library d loaded × why d loaded))
    → IsFileFault gives Def path (IsDefRefusal limits library) fault
    ⊎ ((t : List ℕ) × gives path (Some t) × ((d : Document) × (document_of t ≡ Ok d) × ((loaded : Loaded) × IsLoadedIn limits library d loaded × why d loaded)))
file_fails limits gives path library text why fault given (inl refused) = inl (inr (text, given, refused))
file_fails limits gives path library text why fault given (inr work) = inr (text, given, work)

-- The same for a file over LEF files that make this library.
pub files_fail : (limits : Limits) (gives : ReadsFile) (path : List ℕ) (lefs : List (List ℕ)) (state : Option (List ℕ)) (library : Contents) (before after : Option (List ℕ))
    (fault : Fault) → IsLibraryOf gives no_library lefs library
    → IsFileFault gives Def path (IsDefRefusal limits library) fault
    ⊎ ((t : List ℕ) × gives path (Some t) × ((d : Document) × (document_of t ≡ Ok d)
    × ((loaded : Loaded) × IsLoadedIn limits library d loaded × IsViewNotDescribed gives state d loaded before after fault)))
    → IsDesignFault limits gives path lefs fault ⊎ IsOpenUndescribed limits gives path lefs state before after fault
files_fail limits gives path lefs state library before after fault is (inl file) = inl (inr (library, is, file))
files_fail limits gives path lefs state library before after fault is (inr work) = inr record {
  text = work.0;
  document = work.2.0;
  loaded = work.2.2.0;
  opened = record { library = library; lefs_are = is; given = work.1; read = work.2.1; loads = work.2.2.1 };
  unshown = work.2.2.2;
}

-- What holds of a fault, together with what holds if there is one, implies the claim.
pub fails_and : {A : Type 0} (r : Result A Fault) (P R : Fault → Type 0) (Q : Type 0) → IfErr r P → OnErr r Q → ((fault : Fault) → P fault → Q → R fault)
    → IfErr r R
fails_and (Ok value) P R Q is also gives = tt
fails_and (Err fault) P R Q is also gives = gives fault is also

-- If no fault is possible, there is no fault.
pub never_fails : {A : Type 0} (r : Result A Fault) (P : Fault → Type 0) (Q : Type 0) → IfErr r P → ((fault : Fault) → P fault → ⊥) → OnErr r Q
never_fails (Ok value) P Q is none = tt
never_fails (Err fault) P Q is none = absurd (none fault is)

-- A text without a state is refused before anything is written.
refused_state_early : (path text : List ℕ) (why : StateFault) (fault : Fault) → IsStateRefused path text why fault → IsEarly fault
refused_state_early path text why (Refused file its) is = absurd is
refused_state_early path text why (File file cause) is = absurd is
refused_state_early path text why (RefusedState its_path its) is = tt
refused_state_early path text why (RefusedJournal its_path its) is = tt
refused_state_early path text why (NoTeam name) is = absurd is
refused_state_early path text why (RefusedTeam name cause) is = absurd is
refused_state_early path text why (TeamDiffers differing team) is = absurd is
refused_state_early path text why SliceDiffers is = absurd is
refused_state_early path text why ReadFault is = absurd is
refused_state_early path text why WriteFault is = absurd is
refused_state_early path text why TooManyLines is = absurd is
refused_state_early path text why OutOfMemory is = absurd is
refused_state_early path text why Output is = absurd is
refused_state_early path text why (Bind port cause) is = absurd is
refused_state_early path text why Accept is = absurd is
refused_state_early path text why (Hub folder failure) is = absurd is
refused_state_early path text why (NotWritten its_kind its_path its_why) is = absurd is
refused_state_early path text why SetupOutOfMemory is = tt
refused_state_early path text why OutputOutOfMemory is = absurd is

-- The same for each fault of its text.
state_text_early : (opened : FloorState) (path text : List ℕ) (fault : Fault) → IsStateTextFault opened path text fault → IsEarly fault
state_text_early opened path text fault (inl memory) = subst IsEarly (sym memory) tt
state_text_early opened path text fault (inr refused) = refused_state_early path text refused.0 fault refused.2

-- The same for each fault of its file.
state_early : (gives : ReadsFile) (state : Option (List ℕ)) (opened : FloorState) (fault : Fault) → IsStateFault gives state opened fault → IsEarly fault
state_early gives None opened fault is = absurd is
state_early gives (Some path) opened fault (inl unread) = unread_early gives State path fault unread
state_early gives (Some path) opened fault (inr refused) = state_text_early opened path refused.0 fault refused.2

-- The same for each fault of the floor with which work begins.
pub unbegun_early : (gives : ReadsFile) (state : Option (List ℕ)) (loaded : Loaded) (fault : Fault) → IsNotOpened gives state loaded fault → IsEarly fault
unbegun_early gives state loaded fault (inl memory) = subst IsEarly (sym memory) tt
unbegun_early gives state loaded fault (inr state_fault) = state_early gives state (initial_floor loaded) fault state_fault

-- An opened design is that of its files.
pub design_opened : (limits : Limits) (gives : ReadsFile) (def : List ℕ) (lefs : List (List ℕ)) (text : List ℕ) (document : Document) (loaded : Loaded)
    → IsOpened limits gives def lefs text document loaded → IsDesignOf limits gives def lefs loaded
design_opened limits gives def lefs text document loaded is =
    (is.library, is.lefs_are, record { text = text; given = is.given; design = (document, is.read, is.loads) })

-- A design that cannot be brought into the requested state is reported before anything is written.
pub unseen_early : (limits : Limits) (gives : ReadsFile) (path : List ℕ) (library : Contents) (text : List ℕ) (document : Document) (state : Option (List ℕ)) (fault : Fault)
    → IsRefusedText Def path text (IsLoadRefusal limits library document) fault
    ⊎ ((loaded : Loaded) × IsLoadedIn limits library document loaded × IsNotOpened gives state loaded fault) → IsEarly fault
unseen_early limits gives path library text document state fault (inl refused) = refused_early Def path text (IsLoadRefusal limits library document) fault refused
unseen_early limits gives path library text document state fault (inr (loaded, loads, unbegun)) = unbegun_early gives state loaded fault unbegun

-- It is also why its document is not described.
pub unseen_fails : (limits : Limits) (gives : ReadsFile) (path : List ℕ) (library : Contents) (text : List ℕ) (document : Document) (state before after : Option (List ℕ))
    (fault : Fault) → document_of text ≡ Ok document
    → IsRefusedText Def path text (IsLoadRefusal limits library document) fault
    ⊎ ((loaded : Loaded) × IsLoadedIn limits library document loaded × IsNotOpened gives state loaded fault)
    → IsRefusedText Def path text (IsDefRefusal limits library text) fault
    ⊎ ((d : Document) × (document_of text ≡ Ok d) × ((loaded : Loaded) × IsLoadedIn limits library d loaded × IsViewNotDescribed gives state d loaded before after fault))
unseen_fails limits gives path library text document state before after fault is (inl refused) = inl (text_refused limits library path text document fault is refused)
unseen_fails limits gives path library text document state before after fault is (inr (loaded, loads, unbegun)) = inr (document, is, (loaded, loads, inl unbegun))

-- Why there is no floor with which work begins is reported before anything is written.
pub floor_early : (limits : Limits) (gives : ReadsFile) (def : List ℕ) (lefs : List (List ℕ)) (state : Option (List ℕ)) (fault : Fault) → IsFloorFault limits gives def lefs state fault
    → IsEarly fault
floor_early limits gives def lefs state fault (inl design) = design_early limits gives def lefs fault design
floor_early limits gives def lefs state fault (inr (loaded, is, unbegun)) = unbegun_early gives state loaded fault unbegun
