-- The message and the exit status of a task that failed.
use Rattle.std.specs.Prelude.{◌≡◌, ◌⊎◌, ◌&&◌, ◌/◌, ◌%◌, ℕ, Bool, true, false, List, [], ◌∷◌, ◌++◌, Option, Some, None, flat_map, option_map}
use Rattle.std.specs.Prelude.{IsTrue, codes, decimal, if◌then◌else◌, nat_le}
use Rattle.std.specs.Char.{digit_char}
use Rattle.std.specs.Io.KnownBytes.{Appends}
use Rattle.lf_lex.specs.declared.fault.FaultNumber.{FaultNumber}
use Rattle.lf_lex.specs.declared.fault.FaultNumber.TheVariants as number
use Rattle.lf_state_text.specs.declared.fault.StateFaultNumber.{StateFaultNumber as StateNumber}
use Rattle.lf_state_text.specs.declared.fault.StateFaultNumber.TheVariants as state
use Rattle.lf_journal_text.specs.declared.damage.DamageKind.{DamageKind}
use Rattle.lf_journal_text.specs.declared.damage.DamageKind.TheVariants as damage
use Rattle.lf_journal_text.specs.declared.refusal.Refusal.{Refusal}
use Rattle.lf_journal_text.specs.declared.refusal.RefusalKind.{RefusalKind}
use Rattle.lf_journal_text.specs.declared.refusal.RefusalKind.TheVariants as journal
use Rattle.lf_task_faults.specs.declared.faults.TaskExit.{TaskExit}
use Rattle.lf_task_faults.specs.declared.faults.Fault.{Fault}
use Rattle.lf_task_faults.specs.declared.faults.Fault.TheVariants.{Refused, File, RefusedState, RefusedJournal, NoTeam, RefusedTeam, ReadFault, WriteFault, TooManyLines, OutOfMemory}
use Rattle.lf_task_faults.specs.declared.faults.Fault.TheVariants.{Output, Bind, Accept, Hub, NotWritten, SetupOutOfMemory, OutputOutOfMemory, TeamDiffers, SliceDiffers}
use Rattle.lf_task_faults.specs.declared.faults.TextFile.{TextFile}
use Rattle.lf_task_faults.specs.declared.faults.TextKind.{TextKind}
use Rattle.lf_task_faults.specs.declared.faults.TextKind.TheVariants.{Lef, Def, State, Journal}
use Rattle.lf_task_faults.specs.declared.faults.OutputKind.{OutputKind}
use Rattle.lf_task_faults.specs.declared.faults.OutputKind.TheVariants.{Export, Save, Lines, Working, Slice}
use Rattle.lf_task_faults.specs.declared.faults.TeamRefusal.{TeamRefusal}
use Rattle.lf_task_faults.specs.declared.faults.TeamRefusal.TheVariants as unserved
use Rattle.lf_task_faults.specs.declared.faults.BindFailure.{BindFailure}
use Rattle.lf_task_faults.specs.declared.faults.BindFailure.TheVariants as unbound
use Rattle.lf_task_faults.specs.declared.faults.HubFailure.{HubFailure}
use Rattle.lf_task_faults.specs.declared.faults.HubFailure.TheVariants as hub
use Rattle.lf_task_faults.specs.declared.hints.Compression.{Compression}
use Rattle.lf_task_faults.specs.declared.hints.Compression.TheVariants as compression
use Rattle.lf_task_faults.specs.declared.hints.Remark.{Remark}
use Rattle.lf_task_faults.specs.declared.hints.Remark.TheVariants as remark
use Rattle.lf_task_faults.specs.declared.hints.Hint.{Hint}
use Rattle.lf_task_faults.specs.declared.hints.Hint.TheVariants.{Compressed, OtherKind}
use Rattle.lf_task_faults.specs.declared.text_refusal.FenceLine.{FenceLine}
use Rattle.lf_task_faults.specs.declared.text_refusal.TextRefusal.{TextRefusal}
use Rattle.lf_task_faults.specs.declared.text_refusal.StateRefusal.{StateRefusal}
use Rattle.lf_task_faults.specs.declared.read_failure.ReadFailureKind.{ReadFailureKind}
use Rattle.lf_task_faults.specs.declared.read_failure.ReadFailureKind.TheVariants as unreadable
use Rattle.lf_io.specs.declared.output_files.WriteFailureKind.{WriteFailureKind}
use Rattle.lf_io.specs.declared.output_files.WriteFailureKind.TheVariants as unwritable
use Rattle.lf_task_faults.specs.declared.read_failure.ReadFailure.{ReadFailure}
use Rattle.lf_task_faults.specs.declared.read_failure.ReadFailure.TheVariants as unread

-- The number and the name of a refusal of reading or loading.
abbrev pub numbered_refusal : FaultNumber → List ℕ
numbered_refusal number.BadToken = codes "1 BadToken"
numbered_refusal number.UnexpectedEnd = codes "2 UnexpectedEnd"
numbered_refusal number.Unexpected = codes "3 Unexpected"
numbered_refusal number.BadNumber = codes "4 BadNumber"
numbered_refusal number.WrongEnd = codes "5 WrongEnd"
numbered_refusal number.UnknownStatement = codes "6 UnknownStatement"
numbered_refusal number.NoUnits = codes "7 NoUnits"
numbered_refusal number.NoSite = codes "8 NoSite"
numbered_refusal number.NoRows = codes "9 NoRows"
numbered_refusal number.VerticalRow = codes "10 VerticalRow"
numbered_refusal number.BadStep = codes "11 BadStep"
numbered_refusal number.RowOrient = codes "12 RowOrient"
numbered_refusal number.RowsOverlap = codes "13 RowsOverlap"
numbered_refusal number.NoMacro = codes "14 NoMacro"
numbered_refusal number.NoSize = codes "15 NoSize"
numbered_refusal number.NotWhole = codes "16 NotWhole"
numbered_refusal number.SecondName = codes "17 SecondName"
numbered_refusal number.SecondRegion = codes "18 SecondRegion"
numbered_refusal number.NoRegion = codes "19 NoRegion"
numbered_refusal number.TeamName = codes "20 TeamName"
numbered_refusal number.FencesOverlap = codes "21 FencesOverlap"
numbered_refusal number.TwoFences = codes "22 TwoFences"
numbered_refusal number.TooMany = codes "23 TooMany"
numbered_refusal number.OutOfMemory = codes "24 OutOfMemory"

-- The number and the name of a refusal of a state text.
abbrev pub state_numbered : StateNumber → List ℕ
state_numbered state.UnexpectedEnd = codes "2 UnexpectedEnd"
state_numbered state.Unexpected = codes "3 Unexpected"
state_numbered state.BadNumber = codes "4 BadNumber"
state_numbered state.OtherVersion = codes "25 OtherVersion"
state_numbered state.OtherDesign = codes "26 OtherDesign"
state_numbered state.OutOfRange = codes "27 OutOfRange"

-- The number and the name of the damage of a journal.
abbrev pub damage_numbered : DamageKind → List ℕ
damage_numbered damage.OtherVersion = codes "25 OtherVersion"
damage_numbered damage.BadGate = codes "28 BadGate"
damage_numbered damage.BadLength = codes "29 BadLength"
damage_numbered damage.BadTime = codes "30 BadTime"
damage_numbered damage.BadSum = codes "31 BadSum"
damage_numbered damage.BadRecord = codes "32 BadRecord"

-- The number and the name of a refusal of a journal.
abbrev pub journal_numbered : RefusalKind → List ℕ
journal_numbered (journal.Damaged kind) = damage_numbered kind
journal_numbered journal.OtherTexts = codes "36 OtherTexts"
journal_numbered journal.OtherSessions = codes "37 OtherSessions"
journal_numbered journal.OtherState = codes "38 OtherState"
journal_numbered journal.OtherReply = codes "39 OtherReply"

-- A byte of a journal.
abbrev pub byte_words : ℕ → List ℕ
byte_words at = codes " byte " ++ decimal at

-- The line of a refusal.
abbrev pub line_words : Option ℕ → List ℕ
line_words None = []
line_words (Some line) = codes " line " ++ decimal line

-- The name in a refusal.
abbrev pub name_words : Option (List ℕ) → List ℕ
name_words None = []
name_words (Some name) = codes " " ++ name

-- The text of a refusal: its number, its name, and its line and name if it has them.
abbrev pub refusal_text : TextRefusal → List ℕ
refusal_text refusal = numbered_refusal refusal.number ++ line_words refusal.line
    ++ name_words (option_map (λ name. name.items) refusal.name)

-- The text of a refusal of a state text: its number, its name and its line.
abbrev pub state_refusal_text : StateRefusal → List ℕ
state_refusal_text refusal = state_numbered refusal.number ++ line_words (Some refusal.line)

-- The number and the name of the refusal of a team.
abbrev pub team_numbered : TeamRefusal → List ℕ
team_numbered unserved.SessionsFull = codes "33 SessionsFull"
team_numbered unserved.RevisionsSpent = codes "34 RevisionsSpent"
team_numbered unserved.Other = codes "35 CommandRefused"

-- The text of the refusal of a team: its number, its name and the name of the team.
abbrev pub team_refusal_text : List ℕ → TeamRefusal → List ℕ
team_refusal_text name why = team_numbered why ++ codes " " ++ name

-- The text of a refusal of a journal: its number, its name and its byte.
abbrev pub journal_refusal_text : Refusal → List ℕ
journal_refusal_text refusal = journal_numbered refusal.kind ++ byte_words refusal.at

-- The text of a fault: a refusal's own, or one word.
abbrev pub fault_text : Fault → List ℕ
fault_text (Refused file refusal) = refusal_text refusal
fault_text (File file why) = codes "File"
fault_text (RefusedState path refusal) = state_refusal_text refusal
fault_text (RefusedJournal path refusal) = journal_refusal_text refusal
fault_text (NoTeam name) = codes "NoTeam"
fault_text (RefusedTeam name why) = team_refusal_text name.items why
fault_text (TeamDiffers path team) = codes "TeamDiffers"
fault_text SliceDiffers = codes "SliceDiffers"
fault_text ReadFault = codes "ReadFault"
fault_text WriteFault = codes "WriteFault"
fault_text TooManyLines = codes "TooManyLines"
fault_text OutOfMemory = codes "OutOfMemory"
fault_text Output = codes "Output"
fault_text (Bind port why) = codes "Bind"
fault_text Accept = codes "Accept"
fault_text (Hub folder why) = codes "Hub"
fault_text (NotWritten kind path why) = codes "File"
fault_text SetupOutOfMemory = codes "24 OutOfMemory"
fault_text OutputOutOfMemory = codes "24 OutOfMemory"

-- The line of a fault on standard error.
abbrev pub fault_line : Fault → List ℕ
fault_line fault = codes "lefence: " ++ fault_text fault ++ 10 ∷ []

-- ---- the second line: what is at fault

-- A byte as shown: unchanged if it is printable, otherwise '\x' and its two hex digits.
abbrev pub shown_byte : ℕ → List ℕ
shown_byte byte =
    if nat_le 32 byte && nat_le byte 126 then byte ∷ []
    else 92 ∷ 120 ∷ digit_char (byte / 16) ∷ digit_char (byte % 16) ∷ []

abbrev pub shown_bytes : List ℕ → List ℕ
shown_bytes bytes = flat_map shown_byte bytes

abbrev pub text_kind_words : TextKind → List ℕ
text_kind_words Lef = codes "LEF file "
text_kind_words Def = codes "DEF file "
text_kind_words State = codes "state file "
text_kind_words Journal = codes "journal file "

-- The kind of a file, and its path.
abbrev pub file_words : TextFile → List ℕ
file_words file = text_kind_words file.kind ++ shown_bytes file.path.now

-- The line of an earlier entry of the same name.
abbrev pub first_words : ℕ → List ℕ
first_words number = codes " (the first is in line " ++ decimal number ++ codes ")"

abbrev pub earlier_words : Option ℕ → List ℕ
earlier_words None = []
earlier_words (Some number) = first_words number

-- The line of a fence.
abbrev pub fence_line_words : Option ℕ → List ℕ
fence_line_words None = []
fence_line_words (Some number) = codes " of line " ++ decimal number

-- A fence and its line.
abbrev pub fence_words : FenceLine → List ℕ
fence_words fence = codes "fence " ++ shown_bytes fence.name.items ++ fence_line_words fence.line

-- The fence that overlaps the refused one.
abbrev pub overlapped_fence_words : FenceLine → List ℕ
overlapped_fence_words fence = codes " (overlaps " ++ fence_words fence ++ codes ")"

-- The two fences that claim a component.
abbrev pub claiming_fences_words : FenceLine → FenceLine → List ℕ
claiming_fences_words first second =
    codes " (claimed by " ++ fence_words first ++ codes " and " ++ fence_words second ++ codes ")"

abbrev pub conflict_words : Option FenceLine → Option FenceLine → List ℕ
conflict_words None second = []
conflict_words (Some first) None = overlapped_fence_words first
conflict_words (Some first) (Some second) = claiming_fences_words first second

-- The number of a line.
abbrev pub number_words : ℕ → List ℕ
number_words number = codes ", line " ++ decimal number

-- The bytes of a line, after its number.
abbrev pub bytes_words : List ℕ → List ℕ
bytes_words bytes = codes ": " ++ shown_bytes bytes

-- The number of the line for which a text is refused, the remark `beside`, and the line's first
-- bytes.
abbrev pub line_shown : Option ℕ → List ℕ → List ℕ → List ℕ
line_shown None beside bytes = []
line_shown (Some number) beside bytes = number_words number ++ beside ++ bytes_words bytes

-- What a refused design lacks.
abbrev pub remark_words : Option Remark → List ℕ
remark_words None = []
remark_words (Some remark.NoRow) = codes " (there is no ROW: lefence-prepare makes rows)"
remark_words (Some remark.NoCoreRow) = codes " (no ROW has a site of CLASS CORE, in capitals, with a SIZE)"
remark_words (Some remark.Step) = codes " (its STEP is not the width of the core site)"
remark_words (Some remark.NoMacro) = codes " (no LEF file has this MACRO in front of its END LIBRARY)"
remark_words (Some remark.Size) = codes " (a length is not whole in the units of the design)"

-- The remark about that line: the line of an earlier entry, the fences in conflict, and what the
-- design lacks.
abbrev pub beside_words : TextRefusal → List ℕ
beside_words refusal = earlier_words refusal.earlier
    ++ conflict_words refusal.first_overlapped refusal.second_overlapped ++ remark_words refusal.remark

abbrev pub shown_line : TextRefusal → List ℕ
shown_line refusal = line_shown refusal.at (beside_words refusal) refusal.shown.items

abbrev pub output_kind_words : OutputKind → List ℕ
output_kind_words Export = codes "export file "
output_kind_words Save = codes "state file "
output_kind_words Lines = codes "lines file "
output_kind_words Working = codes "working export file "
output_kind_words Slice = codes "slice file "

-- The kind of a written file, and its path.
abbrev pub output_words : OutputKind → List ℕ → List ℕ
output_words kind path = output_kind_words kind ++ shown_bytes path

-- The name of a team.
abbrev pub team_words : List ℕ → List ℕ
team_words name = codes "team " ++ shown_bytes name

-- A state file, and a team of it.
abbrev pub state_team_words : List ℕ → List ℕ → List ℕ
state_team_words path team = text_kind_words State ++ shown_bytes path ++ codes ": team " ++ shown_bytes team

-- The line of a refused state text.
abbrev pub state_line : List ℕ → StateRefusal → List ℕ
state_line path refusal = codes "lefence: " ++ text_kind_words State ++ shown_bytes path ++ number_words refusal.line
    ++ bytes_words refusal.shown.items ++ 10 ∷ []

-- The line of a refused journal.
abbrev pub journal_line : List ℕ → Refusal → List ℕ
journal_line path refusal =
    codes "lefence: " ++ text_kind_words Journal ++ shown_bytes path ++ codes ":" ++ byte_words refusal.at ++ 10 ∷ []

-- A port of this machine.
abbrev pub port_text : ℕ → List ℕ
port_text port = codes "port " ++ decimal port ++ codes " of 127.0.0.1"

-- True if the refusal is a failed allocation.
abbrev pub is_memory : FaultNumber → Bool
is_memory number.OutOfMemory = true
is_memory _ = false

-- The hint at what a refused text of this kind may be instead.
abbrev pub hint_words : TextKind → Option Hint → List ℕ
hint_words kind None = []
hint_words kind (Some (Compressed its)) = []
hint_words Lef (Some OtherKind) = codes " (read as LEF: is the DEF text first?)"
hint_words Def (Some OtherKind) = codes " (read as DEF: is the DEF text first?)"
hint_words State (Some OtherKind) = []
hint_words Journal (Some OtherKind) = []

-- The command that writes the text of a file of this compression.
abbrev pub unpack_words : Compression → List ℕ
unpack_words compression.Gzip = codes "zcat "
unpack_words compression.Bzip2 = codes "bzcat "
unpack_words compression.Xz = codes "xzcat "
unpack_words compression.Zstd = codes "zstdcat "
unpack_words compression.Zip = codes "unzip -p "

-- How the text of a compressed file is read.
abbrev pub compressed_words : Compression → List ℕ → List ℕ
compressed_words compression path =
    codes ": the text is compressed: read it as <(" ++ unpack_words compression ++ shown_bytes path ++ codes ")"

-- What is said of a refused text after its path: how it is read if it is compressed, otherwise what
-- it may be instead, and the line for which it is refused.
abbrev pub refused_words : TextFile → TextRefusal → Option Hint → List ℕ
refused_words file refusal (Some (Compressed its)) = compressed_words its file.path.now
refused_words file refusal hint = hint_words file.kind hint ++ shown_line refusal

-- The line of a refused text. It is empty if the refusal is a failed allocation.
abbrev pub text_refusal_words : TextFile → TextRefusal → List ℕ
text_refusal_words file refusal =
    if is_memory refusal.number then []
    else codes "lefence: " ++ file_words file ++ refused_words file refusal refusal.hint ++ 10 ∷ []

-- Which part of a hub fails, and its folder.
abbrev pub hub_part : HubFailure → List ℕ
hub_part (hub.Journal why) = codes "the journal in "
hub_part hub.InUse = codes "the journal in "
hub_part (hub.Socket why) = codes "a socket in "

abbrev pub hub_part_words : List ℕ → HubFailure → List ℕ
hub_part_words folder why = hub_part why ++ shown_bytes folder

-- The file, path, port or team at fault.
abbrev pub subject_words : Fault → List ℕ
subject_words (File file why) = file_words file
subject_words (NotWritten kind path why) = output_words kind path.now
subject_words (NoTeam name) = team_words name.now
subject_words (RefusedTeam name why) = team_words name.items
subject_words (TeamDiffers path team) = state_team_words path.now team.items
subject_words SliceDiffers = codes "the slice"
subject_words (Bind port why) = port_text port
subject_words (Hub folder why) = hub_part_words folder.now why
subject_words _ = []

-- Why a team cannot be repaired.
abbrev pub team_complaint : TeamRefusal → List ℕ
team_complaint unserved.SessionsFull = codes " has no free session slot"
team_complaint unserved.RevisionsSpent = codes " is at the last revision"
team_complaint unserved.Other = codes " cannot be repaired: the floor refused a command"

-- What is wrong with it.
abbrev pub complaint_words : Fault → List ℕ
complaint_words (File file why) = codes " cannot be read"
complaint_words (NotWritten kind path why) = codes " cannot be written"
complaint_words (NoTeam name) = codes " is not in the design"
complaint_words (RefusedTeam name why) = team_complaint why
complaint_words (TeamDiffers path team) = codes " differs from that of an earlier state file, and both have changed it"
complaint_words SliceDiffers = codes " has another frame or other cells of the team than the design"
complaint_words (Bind port why) = codes " is not available"
complaint_words (Hub folder why) = codes " fails"
complaint_words _ = []

-- Why a file cannot be read.
abbrev pub unreadable_words : ReadFailureKind → List ℕ
unreadable_words unreadable.Missing = codes ": there is no such file"
unreadable_words unreadable.Folder = codes ": it is a folder"
unreadable_words unreadable.Denied = codes ": permission denied"
unreadable_words unreadable.Other = []

-- Why the program cannot listen on a port.
abbrev pub unbound_words : BindFailure → List ℕ
unbound_words unbound.InUse = codes ": it is in use"
unbound_words unbound.Denied = codes ": permission denied"
unbound_words unbound.Other = []

-- Why a file cannot be written.
abbrev pub unwritable_words : WriteFailureKind → List ℕ
unwritable_words unwritable.NoFolder = codes ": there is no such folder"
unwritable_words unwritable.Folder = codes ": it is a folder"
unwritable_words unwritable.Denied = codes ": permission denied"
unwritable_words unwritable.ReadOnly = codes ": its file system is read-only"
unwritable_words unwritable.Full = codes ": the disk is full"
unwritable_words unwritable.Other = []

-- Why a part of a hub fails.
abbrev pub hub_failure_words : HubFailure → List ℕ
hub_failure_words (hub.Journal why) = unwritable_words why
hub_failure_words hub.InUse = codes ": another hub uses it"
hub_failure_words (hub.Socket why) = unbound_words why

-- The reason of the fault, if the system reports it.
abbrev pub reason_words : Fault → List ℕ
reason_words (File file why) = unreadable_words why
reason_words (NotWritten kind path why) = unwritable_words why
reason_words (Bind port why) = unbound_words why
reason_words (Hub folder why) = hub_failure_words why
reason_words _ = []

-- The line of the subject, what is wrong with it, and the reason.
abbrev pub complaint_line : Fault → List ℕ
complaint_line fault =
    codes "lefence: " ++ subject_words fault ++ complaint_words fault ++ reason_words fault ++ 10 ∷ []

-- The second line on standard error: the line of a text, or the file, path, port or team at fault.
-- Empty for other faults.
abbrev pub second_line : Fault → List ℕ
second_line (Refused file refusal) = text_refusal_words file refusal
second_line (File file why) = complaint_line (File file why)
second_line (RefusedState path refusal) = state_line path.now refusal
second_line (RefusedJournal path refusal) = journal_line path.now refusal
second_line (NotWritten kind path why) = complaint_line (NotWritten kind path why)
second_line (NoTeam name) = complaint_line (NoTeam name)
second_line (RefusedTeam name why) = complaint_line (RefusedTeam name why)
second_line (TeamDiffers path team) = complaint_line (TeamDiffers path team)
second_line SliceDiffers = complaint_line SliceDiffers
second_line (Bind port why) = complaint_line (Bind port why)
second_line (Hub folder why) = complaint_line (Hub folder why)
second_line _ = []

-- Everything that is printed about a fault.
abbrev pub fault_lines_text : Fault → List ℕ
fault_lines_text fault = fault_line fault ++ second_line fault

-- ---- the exit status

-- The exit status of a fault.
abbrev pub status_of : Fault → ℕ
status_of (Refused file refusal) = 1
status_of (RefusedState path refusal) = 1
status_of (RefusedJournal path refusal) = 1
status_of (NoTeam name) = 1
status_of (RefusedTeam name why) = 1
status_of (TeamDiffers path team) = 1
status_of SliceDiffers = 1
status_of SetupOutOfMemory = 1
status_of OutputOutOfMemory = 1
status_of _ = 3

-- ---- how a task ends

-- A task ends with the fault: it has the fault's status, and the fault's lines are appended to the
-- faults unless writing them failed.
pub record EndsWith (fault : Fault) (old new : Option (List ℕ)) (failed : Bool) (exit : TaskExit) : Type 0 where
  pub status : exit.status ≡ status_of fault
  pub reported : IsTrue exit.is_printed → Appends old new (fault_lines_text fault)
  pub unreported : exit.is_printed ≡ false → failed ≡ true

-- ---- kinds of faults

-- The fault of a file that was not read.
abbrev pub unread_fault : TextFile → ReadFailure → Fault
unread_fault file (unread.File why) = File file why
unread_fault file unread.OutOfMemory = SetupOutOfMemory

-- The file is read as this kind, and has this path.
pub record IsFile (kind : TextKind) (path : List ℕ) (file : TextFile) : Type 0 where
  pub kind_is : file.kind ≡ kind
  pub path_is : file.path.now ≡ path

-- A report was not written: an allocation for its text failed, or the writer failed.
abbrev pub IsReportFault : Fault → Type 0
IsReportFault fault = (fault ≡ SetupOutOfMemory) ⊎ (fault ≡ Output)

-- ---- which device is to blame

-- The faults that occur before anything is written.
abbrev pub IsEarly : Fault → Type 0
IsEarly (Refused file refusal) = Unit {0}
IsEarly (File file why) = Unit {0}
IsEarly (RefusedState path refusal) = Unit {0}
IsEarly (RefusedJournal path refusal) = Unit {0}
IsEarly (NoTeam name) = Unit {0}
IsEarly (RefusedTeam name why) = Unit {0}
IsEarly (TeamDiffers path team) = Unit {0}
IsEarly SliceDiffers = Unit {0}
IsEarly SetupOutOfMemory = Unit {0}
IsEarly _ = ⊥

-- The faults of the writer.
abbrev pub IsOfWriter : Fault → Type 0
IsOfWriter WriteFault = Unit {0}
IsOfWriter Output = Unit {0}
IsOfWriter _ = ⊥

-- The faults of the files that a task writes.
abbrev pub IsOfExport : Fault → Type 0
IsOfExport (NotWritten kind path why) = Unit {0}
IsOfExport _ = ⊥

-- The faults of a service.
abbrev pub IsOfService : Fault → Type 0
IsOfService (Bind port why) = Unit {0}
IsOfService Accept = Unit {0}
IsOfService _ = ⊥

-- The faults that are of no device: of a text, of a team, of memory, or of too many lines.
abbrev pub IsOfNone : Fault → Type 0
IsOfNone (Refused file refusal) = Unit {0}
IsOfNone (File file why) = Unit {0}
IsOfNone (RefusedState path refusal) = Unit {0}
IsOfNone (RefusedJournal path refusal) = Unit {0}
IsOfNone (NoTeam name) = Unit {0}
IsOfNone (RefusedTeam name why) = Unit {0}
IsOfNone (TeamDiffers path team) = Unit {0}
IsOfNone SliceDiffers = Unit {0}
IsOfNone TooManyLines = Unit {0}
IsOfNone OutOfMemory = Unit {0}
IsOfNone SetupOutOfMemory = Unit {0}
IsOfNone OutputOutOfMemory = Unit {0}
IsOfNone _ = ⊥

-- What a fault implies about the devices of a task.
-- - At an early fault the writer is unchanged.
-- - At a fault of the reader it has failed, or the limit on reads was reached.
-- - At a fault of the writer it has failed.
-- - At a fault of a written file, that file has failed.
-- - At a fault of the service, the service has failed.
-- - At a fault of no device, no device has failed during the task.
pub record BlamesDevices (fault : Fault) (kept reader writer export service sound : Type 0) : Type 0 where
  pub early : IsEarly fault → kept
  pub reading : fault ≡ ReadFault → reader
  pub writing : IsOfWriter fault → writer
  pub exporting : IsOfExport fault → export
  pub serving : IsOfService fault → service
  pub sparing : IsOfNone fault → sound

-- The same for a task with only a writer. The last arguments say whether it has failed, `before`
-- and `now`.
abbrev pub BlamesWriter : Fault → Type 0 → Bool → Bool → Type 0
BlamesWriter fault kept before now = BlamesDevices fault kept ⊥ (now ≡ true) ⊥ ⊥ (now ≡ before)
