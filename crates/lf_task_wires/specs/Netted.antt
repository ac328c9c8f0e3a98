-- A design that is opened with its nets.
use Rattle.std.specs.Prelude.{◌≡◌, ℕ, Bool, List, None, Ok, Option, Some, IfErr, IfOk, cond, is_some, map}
use Rattle.lf_lef.specs.Contents.{Contents}
use Rattle.lf_def.specs.Document.{Document, document_of}
use Rattle.lf_floorplan.specs.declared.limits.Limits.{Limits}
use Rattle.lf_write.specs.Export.{ClauseFacts, clause_of}
use Rattle.lf_task_designs.specs.Designs.{AreKept, IsLoadedIn, ReadsFile, no_library}
use Rattle.lf_task_wires.specs.Readings.{IsKeptLibrary}
use Rattle.lf_task_wires.specs.Wirelengths.{AreNetsOfTexts, IsWireFault}
use Rattle.lf_task_wires.specs.declared.netted.DesignParts.{DesignParts}
use Rattle.lf_task_wires.specs.declared.netted.NettedDesign.{NettedDesign}

-- The clauses of the document's components, if its text is kept.
abbrev pub kept_clauses : Bool → List ℕ → Document → Option (List ClauseFacts)
kept_clauses is_text_kept text document = cond is_text_kept (Some (map (clause_of text) document.components)) None

-- The design and its nets, or the fault of the nets, of a DEF text over the library and its LEF texts,
-- and the clauses of its components, if the text is kept.
pub record HasDesignParts (limits : Limits) (is_text_kept : Bool) (library : Contents) (paths lefs : List (List ℕ))
    (def text : List ℕ) (document : Document) (parts : DesignParts) : Type 0 where
  pub loads : IsLoadedIn limits library document parts.loaded
  pub nets_are : IfOk parts.netlist (λ netlist. AreNetsOfTexts lefs text document parts.loaded netlist.nets)
  pub refused : IfErr parts.netlist (IsWireFault paths lefs def text)
  pub clauses_are : parts.clauses ≡ kept_clauses is_text_kept text document

-- The design and its nets, or the fault of the nets, of a DEF text over the library and its LEF texts.
pub record IsNettedText (limits : Limits) (is_text_kept : Bool) (library : Contents) (paths lefs : List (List ℕ))
    (def text : List ℕ) (design : NettedDesign) : Type 0 where
  pub document : Document
  pub read : document_of text ≡ Ok document
  pub loads : IsLoadedIn limits library document design.loaded
  pub nets_are : IfOk design.netlist (λ netlist. AreNetsOfTexts lefs text document design.loaded netlist.nets)
  pub refused : IfErr design.netlist (IsWireFault paths lefs def text)
  pub are : AreKept design.original text document
  pub kept : is_some design.original ≡ is_text_kept

-- The design of a DEF file over LEF files is opened with its nets, or the fault of the nets.
pub record IsNettedDesign (limits : Limits) (gives : ReadsFile) (def : List ℕ) (lefs : List (List ℕ))
    (is_text_kept : Bool) (design : NettedDesign) : Type 0 where
  pub texts : List (List ℕ)
  pub library : Contents
  pub text : List ℕ
  pub lefs_are : IsKeptLibrary gives no_library lefs texts library
  pub given : gives def (Some text)
  pub is : IsNettedText limits is_text_kept library lefs texts def text design
