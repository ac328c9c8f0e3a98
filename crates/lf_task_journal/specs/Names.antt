-- The names of the texts of files.
use Rattle.std.specs.Prelude.{◌≡◌, ◌⊎◌, ℕ, List, [], ◌∷◌, ◌++◌, Option, Some, None}
use Rattle.lf_journal_text.specs.Records.{design_line, state_name}
use Rattle.lf_task_faults.specs.declared.faults.Fault.{Fault}
use Rattle.lf_task_faults.specs.declared.faults.Fault.TheVariants.{SetupOutOfMemory}
use Rattle.lf_task_faults.specs.declared.faults.TextKind.TheVariants.{Lef, Def, State}
use Rattle.lf_task_designs.specs.Designs.{ReadsFile, IsUnread}

-- The file of the path is read, and its text has this name.
abbrev pub HasName : ReadsFile → List ℕ → List ℕ → Type 0
HasName gives path name = (text : List ℕ) × gives path (Some text) × (name ≡ state_name text)

-- The name of the text of the file was added to others.
abbrev pub AddsName : ReadsFile → List ℕ → List (List ℕ) → List (List ℕ) → Type 0
AddsName gives path old new = (name : List ℕ) × HasName gives path name × (new ≡ old ++ name ∷ [])

-- The names of the texts of the files, in order.
abbrev pub AreNames : ReadsFile → List (List ℕ) → List (List ℕ) → Type 0
AreNames gives [] [] = Unit {0}
AreNames gives (path ∷ paths) (name ∷ names) = HasName gives path name × AreNames gives paths names
AreNames gives _ _ = ⊥

-- The names of the texts of the files were added to others.
pub record AreAdded (gives : ReadsFile) (paths old new : List (List ℕ)) : Type 0 where
  pub names : List (List ℕ)
  pub are : AreNames gives paths names
  pub all : new ≡ old ++ names

-- The line of the design of these files, with so many session slots.
pub record IsLineOf (gives : ReadsFile) (def : List ℕ) (lefs : List (List ℕ)) (sessions : ℕ) (line : List ℕ) : Type 0 where
  pub names : List (List ℕ)
  pub are : AreNames gives (def ∷ lefs) names
  pub line_is : line ≡ design_line sessions names

-- The name of the state of the path. Without a path, that of the empty text.
abbrev pub IsStateNamed : ReadsFile → Option (List ℕ) → List ℕ → Type 0
IsStateNamed gives None name = name ≡ state_name []
IsStateNamed gives (Some path) name = HasName gives path name

-- ---- why a name is not known

-- One of the LEF files was not read.
abbrev pub IsLefUnread : ReadsFile → List (List ℕ) → Fault → Type 0
IsLefUnread gives [] fault = ⊥
IsLefUnread gives (path ∷ paths) fault = IsUnread gives Lef path fault ⊎ IsLefUnread gives paths fault

-- One of the files of the design was not read.
abbrev pub IsLineUnread : ReadsFile → List ℕ → List (List ℕ) → Fault → Type 0
IsLineUnread gives def lefs fault = IsUnread gives Def def fault ⊎ IsLefUnread gives lefs fault

-- The state was not read, or memory did not suffice for its name.
abbrev pub IsStateUnread : ReadsFile → Option (List ℕ) → Fault → Type 0
IsStateUnread gives None fault = fault ≡ SetupOutOfMemory
IsStateUnread gives (Some path) fault = IsUnread gives State path fault
