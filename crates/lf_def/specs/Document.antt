-- DEF texts: statements in any order, up to END DESIGN.
use Rattle.std.specs.Prelude.{◌≡◌, ◌⊎◌, ℕ, Bool, ◌||◌, not, List, [], Result, Ok, Err, codes, is_some, if◌then◌else◌}
use Rattle.lf_lex.specs.declared.fault.FaultNumber.TheVariants.{Unexpected, WrongEnd, UnknownStatement}
use Rattle.lf_lex.specs.declared.fault.ReadFault.{ReadFault}
use Rattle.lf_lex.specs.declared.fault.LoadFault.{LoadFault}
use Rattle.lf_lex.specs.declared.fault.ReadError.TheVariants.{Memory, Fault}
use Rattle.lf_lex.specs.Faults.{load_fault_of}
use Rattle.lf_lex.specs.Tokens.{Lexeme, tokens_of}
use Rattle.lf_lex.specs.Reading.{◌>>=◌, Reader, Statement, Turn, taken, continues, finishes, fault_at, token, is, kind_is_word, to_semicolon, to_end, to_word, block}
use Rattle.lf_lex.specs.Reading.{value_of}
use Rattle.lf_def.specs.declared.header.DocumentHeader.{DocumentHeader}
use Rattle.lf_def.specs.declared.rows.RowStatement.{RowStatement}
use Rattle.lf_def.specs.declared.regions.Region.{Region}
use Rattle.lf_def.specs.declared.groups.Group.{Group}
use Rattle.lf_def.specs.declared.components.Component.{Component}
use Rattle.lf_def.specs.declared.blockages.Blockage.{Blockage}
use Rattle.lf_def.specs.declared.doc_parts.DocParts.{DocParts}
use Rattle.lf_def.specs.Header.{is_header, header_statement, no_header, header_of}
use Rattle.lf_def.specs.Rows.{with_row}
use Rattle.lf_def.specs.Regions.{regions}
use Rattle.lf_def.specs.Groups.{groups}
use Rattle.lf_def.specs.Components.{components}
use Rattle.lf_def.specs.Blockages.{blockages}

-- The contents of a text, each list in the order of the text.
pub record Document : Type 0 where
  pub header : DocumentHeader
  pub rows : List RowStatement
  pub regions : List Region
  pub groups : List Group
  pub components : List Component
  pub blockages : List Blockage

-- True for sections that are skipped up to END and their keyword (DEF PROPERTYDEFINITIONS, VIAS,
-- STYLES, NONDEFAULTRULES, PINS, PINPROPERTIES, SLOTS, FILLS, SPECIALNETS, NETS, SCANCHAINS).
abbrev pub is_skipped_section : Lexeme → Bool
is_skipped_section t =
    is (codes "PROPERTYDEFINITIONS") t || is (codes "VIAS") t || is (codes "STYLES") t || is (codes "NONDEFAULTRULES") t
    || is (codes "PINS") t
    || is (codes "PINPROPERTIES") t
    || is (codes "SLOTS") t || is (codes "FILLS") t || is (codes "SPECIALNETS") t || is (codes "NETS") t
    || is (codes "SCANCHAINS") t

-- True for statements that are skipped up to their semicolon (DEF TRACKS, GCELLGRID, HISTORY,
-- TECHNOLOGY, DIEAREA, COMPONENTMASKSHIFT, NAMESCASESENSITIVE).
abbrev pub is_skipped_statement : Lexeme → Bool
is_skipped_statement t =
    is (codes "TRACKS") t || is (codes "GCELLGRID") t || is (codes "HISTORY") t || is (codes "TECHNOLOGY") t
    || is (codes "DIEAREA") t
    || is (codes "COMPONENTMASKSHIFT") t || is (codes "NAMESCASESENSITIVE") t

-- Skips a statement, after its first token. Any other word begins no statement.
unfoldable pub skip_from : Lexeme → Reader (Unit {0})
skip_from t l =
    if is_skipped_section t then to_end t.text l
    else if is (codes "BEGINEXT") t then to_word (codes "ENDEXT") l
    else if is_skipped_statement t then to_semicolon l
    else if kind_is_word t.kind then fault_at UnknownStatement t.line
    else fault_at Unexpected t.line

-- DESIGN after an END (DEF END DESIGN). A DESIGN statement must precede it.
unfoldable pub end_design : DocParts → Reader (Unit {0})
end_design parts l = do
  t ← token l
  if not (kind_is_word t.value.kind) then fault_at Unexpected t.value.line
      else if not (is (codes "DESIGN") t.value) then fault_at WrongEnd t.value.line
      else if is_some parts.header.design then taken tt t.rest
      else fault_at Unexpected t.value.line

-- A row or a section, after its keyword, or a skipped statement.
unfoldable pub body_statement : DocParts → Lexeme → Reader DocParts
body_statement parts t l =
    if is (codes "ROW") t then (with_row parts.rows l >>= λ s. taken (record parts { rows = s.value }) s.rest)
    else if is (codes "REGIONS") t then
    (regions parts.regions l >>= λ s. taken (record parts { regions = s.value }) s.rest)
    else if is (codes "GROUPS") t then (groups parts.groups l >>= λ s. taken (record parts { groups = s.value }) s.rest)
    else if is (codes "COMPONENTS") t then
    (components parts.components l >>= λ s. taken (record parts { components = s.value }) s.rest)
    else if is (codes "BLOCKAGES") t then
    (blockages parts.blockages l >>= λ s. taken (record parts { blockages = s.value }) s.rest)
    else (skip_from t l >>= λ stop. taken parts stop.rest)

-- A statement of the text, after its first token.
unfoldable pub def_statement_from : DocParts → Lexeme → Reader (Turn DocParts)
def_statement_from parts t l =
    if is (codes "END") t then (end_design parts l >>= λ stop. finishes parts stop.rest)
    else if is_header t then
    (header_statement parts.header t l >>= λ h. continues (record parts { header = h.value }) h.rest)
    else (body_statement parts t l >>= λ new. continues new.value new.rest)

unfoldable pub def_statement : Statement DocParts
def_statement parts l = do
  t ← token l
  def_statement_from parts t.value t.rest

abbrev pub no_parts : DocParts
no_parts = record { header = no_header; rows = []; regions = []; groups = []; components = []; blockages = [] }

-- The statements of a text up to END DESIGN, or the first fault.
abbrev pub doc_parts_of : List ℕ → Result DocParts ReadFault
doc_parts_of text = value_of (block def_statement no_parts (tokens_of text))

abbrev pub document_from : Result DocParts ReadFault → Result Document ReadFault
document_from (Ok parts) =
    Ok (record {
      header = header_of parts.header;
      rows = parts.rows;
      regions = parts.regions;
      groups = parts.groups;
      components = parts.components;
      blockages =
          parts.blockages;
    })
document_from (Err e) = Err e

-- The document of a text, or the text's first fault.
abbrev pub document_of : List ℕ → Result Document ReadFault
document_of text = document_from (doc_parts_of text)

-- Holds if the document is what its text says.
abbrev pub IsReadFrom : List ℕ → DocumentHeader → List RowStatement → List Region → List Group → List Component
    → List Blockage → Type 0
IsReadFrom text header rows regions groups components blockages =
    document_of text ≡ Ok (record {
      header = header;
      rows = rows;
      regions = regions;
      groups = groups;
      components = components;
      blockages = blockages;
    })

-- Holds if the fault is that of the text, with its line, or a failed allocation.
abbrev pub RefusesDef : LoadFault → Result Document ReadFault → Type 0
RefusesDef fault reading = (fault ≡ load_fault_of Memory)
    ⊎ ((first : ReadFault) × (reading ≡ Err first) × (fault ≡ load_fault_of (Fault first)))
