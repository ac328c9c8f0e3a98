-- What is written of a design, or why it is not written.
use Rattle.std.specs.Prelude.{◌≡◌, ◌⊎◌, ℕ, false, List, Option, Some, None, IfSome}
use Rattle.std.specs.Io.KnownBytes.{Appends}
use Rattle.lf_floorplan.specs.declared.limits.Limits.{Limits}
use Rattle.lf_floorplan.specs.declared.loaded.Loaded.{Loaded}
use Rattle.lf_floorplan.specs.declared.place.Place.{Place}
use Rattle.lf_rules.specs.Legalizer.{Legalizer}
use Rattle.lf_def.specs.Document.{Document}
use Rattle.lf_write.specs.Export.{CanBeRenewed, exported}
use Rattle.lf_io.specs.Shelf.{Put, PutsFile}
use Rattle.lf_describe.specs.Description.{AppendsDescription, AppendsDescriptionFirst}
use Rattle.lf_floor_model.specs.States.{FloorState}
use Rattle.lf_floor_model.specs.Places.{AreCommittedPlaces}
use Rattle.lf_task_faults.specs.declared.faults.Fault.{Fault}
use Rattle.lf_task_designs.specs.declared.opening.SourceText.{SourceText}
use Rattle.lf_task_designs.specs.Checks.{IsLegalDesign, report_line}
use Rattle.lf_task_designs.specs.Designs.{ReadsFile, IsOpened}
use Rattle.lf_task_files.specs.Faults.{IsDescriptionFault, IsDone}
use Rattle.lf_task_files.specs.States.{IsViewedDesign, IsNotOpened}

-- The report of the design and a line feed are appended to the output. The status says whether the
-- design is fully legal.
pub record IsReported (loaded : Loaded) (old new : Option (List ℕ)) (status : ℕ) : Type 0 where
  pub done : IsDone status
  pub text : (l : Legalizer) → Appends old new (report_line l loaded)
  pub legal : status ≡ 0 → IsLegalDesign loaded
  pub illegal : status ≡ 4 → ¬ IsLegalDesign loaded

-- If a DEF text is kept, these places can be written into it.
abbrev pub CanBePut : Option SourceText → List (ℕ × Option Place) → Type 0
CanBePut original places = IfSome original (λ original. CanBeRenewed original.text.items original.clauses places)

-- The document's text with the committed places of the floor is written to the file of this path.
-- Without a path, no file is written.
abbrev pub IsExported : Option (List ℕ) → List ℕ → Document → FloorState → Option (List Put)
    → Option (List Put) → Type 0
IsExported None text document floor old new = new ≡ old
IsExported (Some path) text document floor old new =
    (places : List (ℕ × Option Place)) × AreCommittedPlaces floor places
    × PutsFile old new path (exported text document.components places)

-- The description of the design is appended to the output. The status says whether the design is
-- fully legal.
pub record IsDescribed (document : Document) (loaded : Loaded) (old new : Option (List ℕ)) (status : ℕ) : Type 0 where
  pub done : IsDone status
  pub text : (l : Legalizer) → AppendsDescription l loaded document old new
  pub legal : status ≡ 0 → IsLegalDesign loaded
  pub illegal : status ≡ 4 → ¬ IsLegalDesign loaded

-- The loaded design of the document is described, with the places of the state if one is given.
abbrev pub IsViewDescribed : ReadsFile → Option (List ℕ) → Document → Loaded → Option (List ℕ)
    → Option (List ℕ) → ℕ → Type 0
IsViewDescribed gives state document loaded before after status =
    (seen : Loaded) × IsViewedDesign false gives state loaded seen × IsDescribed document seen before after status

-- The design was opened and its description written, at the places of its DEF text or of the given
-- state.
pub record IsOpenDescribed (limits : Limits) (gives : ReadsFile) (def : List ℕ) (lefs : List (List ℕ))
    (state before after : Option (List ℕ))
    (status : ℕ) : Type 0 where
  pub text : List ℕ
  pub document : Document
  pub loaded : Loaded
  pub opened : IsOpened limits gives def lefs text document loaded
  pub shown : IsViewDescribed gives state document loaded before after status

-- ---- faults

-- The description of the design is not written, or only a front of it.
pub record IsUndescribed (document : Document) (loaded : Loaded) (before after : Option (List ℕ))
    (fault : Fault) : Type 0 where
  pub why : IsDescriptionFault fault
  pub front : (l : Legalizer) → AppendsDescriptionFirst l loaded document before after

-- Why the loaded design of the document is not described: it could not be brought into the given
-- state; or the description is not written, or only a front of it.
abbrev pub IsViewNotDescribed : ReadsFile → Option (List ℕ) → Document → Loaded → Option (List ℕ)
    → Option (List ℕ) → Fault → Type 0
IsViewNotDescribed gives state document loaded before after fault =
    IsNotOpened gives state loaded fault
    ⊎ ((seen : Loaded) × IsViewedDesign false gives state loaded seen × IsUndescribed document seen before after fault)

-- The design was opened, and is not described for this reason.
pub record IsOpenUndescribed (limits : Limits) (gives : ReadsFile) (def : List ℕ) (lefs : List (List ℕ))
    (state before after : Option (List ℕ))
    (fault : Fault) : Type 0 where
  pub text : List ℕ
  pub document : Document
  pub loaded : Loaded
  pub opened : IsOpened limits gives def lefs text document loaded
  pub unshown : IsViewNotDescribed gives state document loaded before after fault
