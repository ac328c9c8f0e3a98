-- Texts that were written to files.
use Rattle.std.specs.Prelude.{◌≡◌, ℕ, Bool, List, ◌∷◌, Option, Some, None, Result, Ok, Err, false, true}
use Rattle.std.specs.IoError.{error_kind}
use Rattle.std.specs.declared.io.Error.{Error}
use Rattle.std.specs.declared.io.ErrorKind.{ErrorKind}
use Rattle.std.specs.declared.io.ErrorKind.TheVariants as kind
use Rattle.lf_io.specs.declared.output_files.WriteFailure.{WriteFailure}
use Rattle.lf_io.specs.declared.output_files.WriteFailure.TheVariants.{File, OutOfMemory}
use Rattle.lf_io.specs.declared.output_files.WriteFailureKind.TheVariants.{NoFolder, Folder, Denied, ReadOnly, Full, Other}

-- A path, and the text that was written there.
pub record Put : Type 0 where
  pub path : List ℕ
  pub text : List ℕ

-- Holds if the text was written to the file of this path and nothing else was written, if what is
-- written is known.
abbrev pub PutsFile : Option (List Put) → Option (List Put) → List ℕ → List ℕ → Type 0
PutsFile None new path text = Unit {0}
PutsFile (Some old) new path text = new ≡ Some (record { path = path; text = text } ∷ old)

-- True if the file cannot be written.
abbrev pub is_file : WriteFailure → Bool
is_file (File why) = true
is_file OutOfMemory = false

-- True if the result is an error because the file cannot be written.
abbrev pub is_of_file : {T : Type 0} → Result T WriteFailure → Bool
is_of_file (Ok value) = false
is_of_file (Err why) = is_file why

-- The reason why a file was not written, by the kind of the error.
abbrev pub unwritten_of : ErrorKind → WriteFailure
unwritten_of kind.OutOfMemory = OutOfMemory
unwritten_of kind.NotFound = File NoFolder
unwritten_of kind.IsADirectory = File Folder
unwritten_of kind.PermissionDenied = File Denied
unwritten_of kind.ReadOnlyFilesystem = File ReadOnly
unwritten_of kind.StorageFull = File Full
unwritten_of _ = File Other

-- The result of writing a text, or of trying a path.
abbrev pub result_of_write : Result (Unit {0}) Error → Result (Unit {0}) WriteFailure
result_of_write (Ok value) = Ok value
result_of_write (Err error) = Err (unwritten_of (error_kind error))
