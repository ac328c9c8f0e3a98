-- Texts that are not read.
use Rattle.std.specs.declared.io.ErrorKind.{ErrorKind}
use Rattle.std.specs.declared.io.ErrorKind.TheVariants as kind
use Rattle.lf_task_faults.specs.declared.read_failure.ReadFailure.{ReadFailure}
use Rattle.lf_task_faults.specs.declared.read_failure.ReadFailure.TheVariants.{File, OutOfMemory}
use Rattle.lf_task_faults.specs.declared.read_failure.ReadFailureKind.TheVariants.{Missing, Folder, Denied, Other}

-- Holds if the file cannot be read.
abbrev pub IsOfFile : ReadFailure → Type 0
IsOfFile (File why) = Unit {0}
IsOfFile OutOfMemory = ⊥

-- Why a file was not read, by the kind of the error.
abbrev pub unread_of : ErrorKind → ReadFailure
unread_of kind.OutOfMemory = OutOfMemory
unread_of kind.NotFound = File Missing
unread_of kind.IsADirectory = File Folder
unread_of kind.PermissionDenied = File Denied
unread_of _ = File Other
