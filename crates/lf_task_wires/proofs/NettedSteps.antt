-- Designs with nets, step by step.
use Rattle.std.proofs.Common.{◌≡◌, ◌⊎◌, inl, inr, ℕ, List, Bool, false, true, Option, None, Some, Ok, Err, is_some, refl, subst, sym}
use Rattle.std.specs.Prelude.{IfSome, option_map}
use Rattle.lf_lef.specs.Contents.{Contents}
use Rattle.lf_def.specs.Document.{Document, document_of}
use Rattle.lf_floorplan.specs.declared.limits.Limits.{Limits}
use Rattle.lf_write.specs.Export.{ClauseFacts}
use Rattle.lf_task_faults.specs.declared.faults.Fault.{Fault}
use Rattle.lf_task_faults.specs.declared.faults.Fault.TheVariants.{SetupOutOfMemory}
use Rattle.lf_task_faults.specs.declared.faults.TextKind.TheVariants.{Def}
use Rattle.lf_task_designs.specs.declared.opening.SourceText.{SourceText}
use Rattle.lf_task_designs.specs.Designs.{AreKept, IsDefRefusal, IsDesignFault, IsFileFault, IsLoadRefusal, IsOpened, IsRefusedText, IsUnread, ReadsFile, no_library}
use Rattle.lf_task_designs.proofs.DesignSteps.{text_refused}
use Rattle.lf_task_wires.specs.Netted.{IsNettedDesign, kept_clauses}
use Rattle.lf_task_wires.specs.Readings.{IsKeptLibrary}
use Rattle.lf_task_wires.specs.Wirelengths.{IsFilesFault}
use Rattle.lf_task_wires.specs.declared.netted.NettedDesign.{NettedDesign}
use Rattle.lf_task_wires.proofs.Steps.{library_of_kept}

-- Why a document has no design with nets is why its text has none.
pub document_fails : (limits : Limits) (library : Contents) (path text : List ℕ) (document : Document) (fault : Fault) → document_of text ≡ Ok document
    → IsRefusedText Def path text (IsLoadRefusal limits library document) fault ⊎ (fault ≡ SetupOutOfMemory)
    → IsRefusedText Def path text (IsDefRefusal limits library text) fault ⊎ (fault ≡ SetupOutOfMemory)
document_fails limits library path text document fault is (inl refused) = inl (text_refused limits library path text document fault is refused)
document_fails limits library path text document fault is (inr memory) = inr memory

-- Why a text has none is why its file has none.
pub netted_text_fails : (limits : Limits) (gives : ReadsFile) (library : Contents) (path text : List ℕ) (fault : Fault) → gives path (Some text)
    → IsRefusedText Def path text (IsDefRefusal limits library text) fault ⊎ (fault ≡ SetupOutOfMemory)
    → IsFileFault gives Def path (IsDefRefusal limits library) fault
netted_text_fails limits gives library path text fault given (inl refused) = inr (text, given, refused)
netted_text_fails limits gives library path text fault given (inr memory) = inl (subst (IsUnread gives Def path) (sym memory) tt)

-- Why a file has none is why the files have none.
pub netted_file_fails : (limits : Limits) (gives : ReadsFile) (library : Contents) (def : List ℕ) (lefs texts : List (List ℕ)) (fault : Fault) → IsKeptLibrary gives no_library lefs texts library
    → IsFileFault gives Def def (IsDefRefusal limits library) fault → IsDesignFault limits gives def lefs fault
netted_file_fails limits gives library def lefs texts fault kept file = inr (library, library_of_kept gives no_library library lefs texts kept, file)

-- A text with the requested clauses is kept as requested.
pub text_kept : (original : Option SourceText) (is_text_kept : Bool) (text : List ℕ) (document : Document) → IfSome original (λ original. original.text.items ≡ text)
    → option_map (λ original. original.clauses) original ≡ kept_clauses is_text_kept text document
    → AreKept original text document × (is_some original ≡ is_text_kept)
text_kept None false text document same are = (tt, refl)
text_kept None true text document same are = absurd (clash are) where
  clash : {A : Type 0} {x : A} → None ≡ Some x → ⊥
  clash e = cc
text_kept (Some o) false text document same are = absurd (clash are) where
  clash : {A : Type 0} {x : A} → Some x ≡ None → ⊥
  clash e = cc
text_kept (Some o) true text document same are = ((same, some_one _ _ are), refl) where
  some_one : (a b : List ClauseFacts) → Some a ≡ Some b → a ≡ b
  some_one a b is = cc

-- After the design is opened, its nets can be at fault.
pub nets_fail : (limits : Limits) (gives : ReadsFile) (def : List ℕ) (lefs : List (List ℕ)) (state : Option (List ℕ)) (kept : Bool) (design : NettedDesign) (fault : Fault)
    (netted : IsNettedDesign limits gives def lefs kept design) → design.netlist ≡ Err fault → IsFilesFault limits gives def lefs state fault
nets_fail limits gives def lefs state kept design fault netted there = inr (netted.texts, netted.library, netted.text, netted.lefs_are, netted.given, rw there at netted.is.refused)

-- After the design is opened, memory can run out.
pub memory_fails : (limits : Limits) (gives : ReadsFile) (def : List ℕ) (lefs : List (List ℕ)) (state : Option (List ℕ)) (kept : Bool) (design : NettedDesign) (fault : Fault)
    (netted : IsNettedDesign limits gives def lefs kept design) → fault ≡ SetupOutOfMemory → IsFilesFault limits gives def lefs state fault
memory_fails limits gives def lefs state kept design fault netted none =
    inr (netted.texts, netted.library, netted.text, netted.lefs_are, netted.given, inr (inr none))

-- A design with its nets is one of the files.
pub netted_opened : (limits : Limits) (gives : ReadsFile) (def : List ℕ) (lefs : List (List ℕ)) (kept : Bool) (design : NettedDesign)
    (netted : IsNettedDesign limits gives def lefs kept design) → IsOpened limits gives def lefs netted.text netted.is.document design.loaded
netted_opened limits gives def lefs kept design netted = record {
  library = netted.library;
  lefs_are = library_of_kept gives no_library netted.library lefs netted.texts netted.lefs_are;
  given = netted.given;
  read = netted.is.read;
  loads = netted.is.loads;
}
