-- Work on a design: lines that are answered, or connections that are served.
use Rattle.std.specs.Prelude.{◌≡◌, ◌⊎◌, ℕ, Bool, List, None, Ok, OnErr, OnOk, Option, Result, true}
use Rattle.lf_lef.specs.Contents.{Contents}
use Rattle.lf_def.specs.Document.{Document, document_of}
use Rattle.lf_floorplan.specs.declared.limits.Limits.{Limits}
use Rattle.lf_floorplan.specs.declared.loaded.Loaded.{Loaded}
use Rattle.lf_server.specs.declared.acceptor.ServiceConfig.{ServiceConfig}
use Rattle.lf_floor_model.specs.States.{FloorState}
use Rattle.lf_task_faults.specs.declared.faults.Fault.{Fault}
use Rattle.lf_task_designs.specs.declared.opening.SourceText.{SourceText}
use Rattle.lf_task_designs.specs.Designs.{AreKept, ReadsFile, IsLoadedIn}
use Rattle.lf_task_faults.specs.Faults.{BlamesDevices}
use Rattle.lf_task_faults.specs.declared.faults.OutputKind.TheVariants.{Save}
use Rattle.lf_task_files.specs.Faults.{IsOutputFault}
use Rattle.lf_task_journal.specs.Begun.{IsBegunFloor, IsNotBegun}
use Rattle.lf_task_serve.specs.declared.line_source.LineSource.{LineSource}
use Rattle.lf_task_serve.specs.declared.line_source.LineSource.TheVariants.{Reader, Port}
use Rattle.lf_task_serve.specs.Exits.{AnswersInput, EndsWithFault, IsFinished, IsOffered, IsServiceFault, IsServeFault, IsUntouched, Streams}
use Rattle.lf_task_serve.specs.Lines.{ReadsFail}
use Rattle.lf_task_serve.specs.Services.{OffersLocal}
use Rattle.lf_task_serve.specs.Surroundings.{Io, IsSound}

-- The lines were answered to their end, on the floor with which they began.
abbrev pub AreAnswered : LineSource → FloorState → FloorState → Streams → Type 0
AreAnswered (Reader limit) begin floor io = AnswersInput limit begin floor io.input io.left io.before io.after
AreAnswered (Port port connections) begin floor io =
    IsOffered begin floor connections io.before io.after io.old_accepted io.new_accepted

-- Why the lines were not answered to their end.
abbrev pub IsServingFault : LineSource → FloorState → Fault → Streams → Type 0
IsServingFault (Reader limit) begin fault io = EndsWithFault limit begin fault io.input io.left io.before io.after
IsServingFault (Port port connections) begin fault io =
    IsServiceFault port connections begin fault io.before io.after io.old_accepted io.new_accepted

-- The design was loaded from a DEF text. If a text is kept, it is this one.
pub record IsOfOriginal (original : Option SourceText) (loaded : Loaded) : Type 0 where
  pub limits : Limits
  pub library : Contents
  pub text : List ℕ
  pub document : Document
  pub are : AreKept original text document
  pub read : document_of text ≡ Ok document
  pub loads : IsLoadedIn limits library document loaded

-- Why the work on a floor is not finished: it stopped, and no file is written; or everything is
-- done except that the state is not saved.
abbrev pub IsUnfinished : Option (List ℕ) → Option (List ℕ) → LineSource → FloorState → List ℕ → Document
    → Fault → Streams → Type 0
IsUnfinished save export lines begin text document fault io =
    (IsServeFault save export (IsServingFault lines begin) (AreAnswered lines begin) fault io
    × (io.new_puts ≡ io.old_puts))
    ⊎ (IsOutputFault Save save fault × IsFinished (AreAnswered lines begin) None export text document io)

-- Why the work on the design of a text is not finished: there is no floor with which to begin, and
-- nothing is touched; or the work on its floor is not finished.
abbrev pub IsNotServedDesign : Limits → ReadsFile → List ℕ → List (List ℕ) → Option (List ℕ) → Option (List ℕ)
    → Option (List ℕ) → Option (List ℕ) → LineSource → Loaded → List ℕ → Document → Fault → Streams → Type 0
IsNotServedDesign limits gives def lefs state journal save export lines loaded text document fault io =
    (IsNotBegun limits gives def lefs state journal loaded fault × IsUntouched io)
    ⊎ ((begin : FloorState) × IsBegunFloor limits gives def lefs state journal loaded begin
    × IsUnfinished save export lines begin text document fault io)

-- The reader has failed, or the limit on reads was reached. A service does not read from it.
abbrev pub IsReaderSpent : LineSource → Bool → ℕ → ℕ → Type 0
IsReaderSpent (Reader limit) failed old new = ReadsFail limit failed old new
IsReaderSpent (Port port connections) failed old new = ⊥

-- Which device is to blame for a fault of the lines. `kept` says that the writer is unchanged.
abbrev pub BlamesIn : LineSource → Type 0 → Io → Io → Fault → Type 0
BlamesIn lines kept old new fault =
    BlamesDevices fault kept (IsReaderSpent lines new.read_failed old.reads new.reads) (new.write_failed ≡ true)
    (new.put_failed ≡ true) (new.service_failed ≡ true) (IsSound old new)

-- What was offered for the lines: a service, or nothing for lines of the reader.
abbrev pub IsOfferFor : LineSource → Option (List ServiceConfig) → Option (List ServiceConfig) → Type 0
IsOfferFor (Reader limit) old new = new ≡ old
IsOfferFor (Port port connections) old new = OffersLocal port connections old new

-- The reader is unchanged by a service.
abbrev pub LeavesReader : {R : Type 0} → LineSource → R → R → Type 0
LeavesReader (Reader limit) old new = Unit {0}
LeavesReader (Port port connections) old new = new ≡ old

-- What the work on a design changes besides its lines. Files are written, services offered and the
-- reader read only as requested. After a fault, no file is written if no state was requested.
pub record LeavesDevices {E R : Type 0} (lines : LineSource) (save export : Option (List ℕ))
    (result : Result ℕ Fault) (old_exports new_exports : E) (old_reader new_reader : R) (old new : Io) : Type 0 where
  pub unput : save ≡ None → OnErr result (new.puts ≡ old.puts)
  pub unasked : save ≡ None → export ≡ None → new_exports ≡ old_exports
  pub offered : OnOk result (IsOfferFor lines old.offers new.offers)
  pub unoffered : (new.offers ≡ old.offers) ⊎ IsOfferFor lines old.offers new.offers
  pub unread : LeavesReader lines old_reader new_reader
