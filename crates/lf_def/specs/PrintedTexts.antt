-- Printed DEF texts: statements and sections in any order, and END DESIGN.
use Rattle.std.specs.Prelude.{◌≡◌, ◌≢◌, ℕ, List, [], ◌∷◌, ◌++◌, All, Contains, IsSome, map, ℤ, pos, Some, Ok, codes}
use Rattle.lf_lex.specs.declared.tokens.TokenKind.TheVariants.{Quoted}
use Rattle.lf_lex.specs.Tokens.{PlainToken, plain, tokens_of}
use Rattle.lf_lex.specs.Passing.{OccurNowhere}
use Rattle.lf_lex.specs.Reading.{first_counts}
use Rattle.lf_lex.specs.Splices.{plain_word}
use Rattle.lf_def.specs.declared.rows.RowStatement.{RowStatement}
use Rattle.lf_def.specs.declared.regions.Region.{Region}
use Rattle.lf_def.specs.declared.groups.Group.{Group}
use Rattle.lf_def.specs.declared.components.Component.{Component}
use Rattle.lf_def.specs.declared.blockages.Blockage.{Blockage}
use Rattle.lf_def.specs.declared.doc_parts.DocParts.{DocParts}
use Rattle.lf_def.specs.Header.{no_header, header_of}
use Rattle.lf_def.specs.Document.{Document, document_of, no_parts}
use Rattle.lf_def.specs.Laws.{without_places}
use Rattle.lf_def.specs.Ranges.{IsCount}
use Rattle.lf_def.specs.Printed.{IsWord, row_words, IsPrintedRow, region_words, IsPrintedRegion, group_words, IsPrintedGroup, component_words}
use Rattle.lf_def.specs.Printed.{IsPrintedComponent, blockage_words, IsPrintedBlockage, section_words}
use Rattle.lf_def.specs.PrintedComponents.{PrintedComponent, IsPrintedEntry, components_tokens, printed_component}

-- Skipped statements.

-- The keywords of statements that are skipped up to their semicolon.
abbrev pub statement_keywords : List (List ℕ)
statement_keywords = codes "TRACKS" ∷ codes "GCELLGRID" ∷ codes "HISTORY" ∷ codes "TECHNOLOGY" ∷ codes "DIEAREA"
    ∷ codes "COMPONENTMASKSHIFT"
    ∷ codes "NAMESCASESENSITIVE" ∷ []

-- The keywords of sections that are skipped up to END and their keyword.
abbrev pub section_keywords : List (List ℕ)
section_keywords =
    codes "PROPERTYDEFINITIONS" ∷ codes "VIAS" ∷ codes "STYLES" ∷ codes "NONDEFAULTRULES" ∷ codes "PINS"
    ∷ codes "PINPROPERTIES" ∷ codes "SLOTS"
    ∷ codes "FILLS" ∷ codes "SPECIALNETS" ∷ codes "NETS" ∷ codes "SCANCHAINS" ∷ []

-- A skipped statement: its keyword, and the words and quoted texts up to its end.
pub data Skipped : Type 0 where
  -- keyword .. ;
  to_its_semicolon : List ℕ → List PlainToken → Skipped
  -- keyword .. END keyword
  to_its_end : List ℕ → List PlainToken → Skipped
  -- BEGINEXT .. ENDEXT
  extension : List PlainToken → Skipped

abbrev pub skipped_tokens : Skipped → List PlainToken
skipped_tokens (to_its_semicolon keyword between) = plain_word keyword ∷ (between ++ plain_word (codes ";") ∷ [])
skipped_tokens (to_its_end keyword between) =
    plain_word keyword ∷ (between ++ plain_word (codes "END") ∷ plain_word keyword ∷ [])
skipped_tokens (extension between) = plain_word (codes "BEGINEXT") ∷ (between ++ plain_word (codes "ENDEXT") ∷ [])

-- Holds if the keyword is that of a skipped statement, and the statement has no earlier end.
abbrev pub IsSkipped : Skipped → Type 0
IsSkipped (to_its_semicolon keyword between) = Contains statement_keywords keyword
    × OccurNowhere (codes ";" ∷ []) between
IsSkipped (to_its_end keyword between) = Contains section_keywords keyword
    × OccurNowhere (codes "END" ∷ keyword ∷ []) between
IsSkipped (extension between) = OccurNowhere (codes "ENDEXT" ∷ []) between

-- Parts of a text.

-- A statement or a section of a text. Each section has a count, which is ignored.
pub data TextPart : Type 0 where
  skipped_part : Skipped → TextPart
  version_is : List ℕ → TextPart
  divider_is : List ℕ → TextPart
  brackets_are : List ℕ → TextPart
  design_is : List ℕ → TextPart
  units_are : ℕ → TextPart
  one_row : RowStatement → TextPart
  regions_section : List ℕ → List Region → TextPart
  groups_section : List ℕ → List Group → TextPart
  components_section : List ℕ → List Component → TextPart
  components_with_others : List ℕ → List PrintedComponent → TextPart
  blockages_section : List ℕ → List Blockage → TextPart

-- A quoted text, with its marks.
abbrev pub quoted_of : List ℕ → PlainToken
quoted_of text = record { text = text; kind = Quoted }

-- keyword "text" ;
abbrev pub quoted_tokens : List ℕ → List ℕ → List PlainToken
quoted_tokens keyword text = plain_word keyword ∷ quoted_of text ∷ plain_word (codes ";") ∷ []

abbrev pub part_tokens : (ℤ → List ℕ) → TextPart → List PlainToken
part_tokens print (skipped_part p) = skipped_tokens p
part_tokens print (version_is v) = map plain_word (codes "VERSION" ∷ v ∷ codes ";" ∷ [])
part_tokens print (divider_is text) = quoted_tokens (codes "DIVIDERCHAR") text
part_tokens print (brackets_are text) = quoted_tokens (codes "BUSBITCHARS") text
part_tokens print (design_is n) = map plain_word (codes "DESIGN" ∷ n ∷ codes ";" ∷ [])
part_tokens print (units_are n) =
    map plain_word (codes "UNITS" ∷ codes "DISTANCE" ∷ codes "MICRONS" ∷ print (pos n) ∷ codes ";" ∷ [])
part_tokens print (one_row r) = map plain_word (codes "ROW" ∷ row_words print r)
part_tokens print (regions_section count rs) =
    map plain_word (codes "REGIONS" ∷ section_words (codes "REGIONS") count (region_words print) rs)
part_tokens print (groups_section count gs) =
    map plain_word (codes "GROUPS" ∷ section_words (codes "GROUPS") count group_words gs)
part_tokens print (components_section count cs) =
    map plain_word (codes "COMPONENTS" ∷ section_words (codes "COMPONENTS") count (component_words print) cs)
part_tokens print (components_with_others count ps) = plain_word (codes "COMPONENTS") ∷ components_tokens print count ps
part_tokens print (blockages_section count bs) =
    map plain_word (codes "BLOCKAGES" ∷ section_words (codes "BLOCKAGES") count (blockage_words print) bs)

-- The parts in order, and END DESIGN.
abbrev pub text_tokens : (ℤ → List ℕ) → List TextPart → List PlainToken
text_tokens print [] = map plain_word (codes "END" ∷ codes "DESIGN" ∷ [])
text_tokens print (p ∷ ps) = part_tokens print p ++ text_tokens print ps

-- Holds if the part can be printed.
abbrev pub IsPrintedPart : TextPart → Type 0
IsPrintedPart (skipped_part p) = IsSkipped p
IsPrintedPart (version_is v) = v ≢ codes ";"
IsPrintedPart (divider_is text) = Unit {0}
IsPrintedPart (brackets_are text) = Unit {0}
IsPrintedPart (design_is n) = IsWord n
IsPrintedPart (units_are n) = IsCount 20000 n
IsPrintedPart (one_row r) = IsPrintedRow r
IsPrintedPart (regions_section count rs) = (count ≢ codes ";") × All IsPrintedRegion rs
IsPrintedPart (groups_section count gs) = (count ≢ codes ";") × All IsPrintedGroup gs
IsPrintedPart (components_section count cs) = (count ≢ codes ";") × All IsPrintedComponent cs
IsPrintedPart (components_with_others count ps) = (count ≢ codes ";") × All IsPrintedEntry ps
IsPrintedPart (blockages_section count bs) = (count ≢ codes ";") × All IsPrintedBlockage bs

-- Adds the contents of a part. The first of each statement of the header counts, and lists are
-- appended.
abbrev pub with_part : DocParts → TextPart → DocParts
with_part d (skipped_part p) = d
with_part d (version_is v) = record d { header = record d.header { version = first_counts d.header.version v } }
with_part d (divider_is text) = record d { header = record d.header { divider = first_counts d.header.divider text } }
with_part d (brackets_are text) = record d {
  header = record d.header { brackets = first_counts d.header.brackets text };
}
with_part d (design_is n) = record d { header = record d.header { design = first_counts d.header.design n } }
with_part d (units_are n) = record d { header = record d.header { units = first_counts d.header.units n } }
with_part d (one_row r) = record d { rows = d.rows ++ r ∷ [] }
with_part d (regions_section count rs) = record d { regions = d.regions ++ rs }
with_part d (groups_section count gs) = record d { groups = d.groups ++ gs }
with_part d (components_section count cs) = record d { components = d.components ++ cs }
with_part d (components_with_others count ps) = record d { components = d.components ++ map printed_component ps }
with_part d (blockages_section count bs) = record d { blockages = d.blockages ++ bs }

abbrev pub with_parts : DocParts → List TextPart → DocParts
with_parts d [] = d
with_parts d (p ∷ ps) = with_parts (with_part d p) ps

-- The document of these parts.
abbrev pub document_with : DocParts → Document
document_with d = record {
  header = header_of d.header;
  rows = d.rows;
  regions = d.regions;
  groups = d.groups;
  components = d.components;
  blockages =
      d.blockages;
}

abbrev pub printed_document : List TextPart → Document
printed_document parts = document_with (with_parts no_parts parts)

-- Reading printed texts back.

-- Holds if these are the first tokens of the text, with any white space and comments between them
-- and anything after.
abbrev pub BeginsWith : List ℕ → List PlainToken → Type 0
BeginsWith text tokens = (rest : List PlainToken) × (map plain (tokens_of text).tokens ≡ tokens ++ rest)

-- Holds if this is the document of the text, except for the offsets of its components.
abbrev pub ReadsApartFromOffsets : List ℕ → Document → Type 0
ReadsApartFromOffsets text d = (read : List Component) × (document_of text ≡ Ok (record d { components = read }))
    × (map without_places read ≡ map without_places d.components)

-- Holds if any text that begins with these parts, DESIGN among them, and END DESIGN gives the
-- document of these parts.
abbrev pub PartsReadBack : (ℤ → List ℕ) → List TextPart → Type 0
PartsReadBack print parts = All IsPrintedPart parts → IsSome (with_parts no_parts parts).header.design → (text : List ℕ)
    → BeginsWith text (text_tokens print parts) → ReadsApartFromOffsets text (printed_document parts)

-- The document of a design with this name, and nothing else.
abbrev pub design_named : List ℕ → Document
design_named n = record {
  header = header_of (record no_header { design = Some n });
  rows = [];
  regions = [];
  groups = [];
  components = [];
  blockages = [];
}

-- DESIGN, with skipped statements in front of it and after it, and then these parts.
abbrev pub after_skipped : List Skipped → List ℕ → List Skipped → List TextPart → List TextPart
after_skipped before n between parts = map skipped_part before ++ design_is n ∷ (map skipped_part between ++ parts)

-- Holds if these parts give this document of the design, after any skipped statements and with
-- anything after END DESIGN.
abbrev pub ReadsBackInTexts : (ℤ → List ℕ) → List TextPart → (Document → Document) → Type 0
ReadsBackInTexts print parts said = (before between : List Skipped) (n : List ℕ) → All IsSkipped before
    → All IsSkipped between → IsWord n
    → (text : List ℕ) → BeginsWith text (text_tokens print (after_skipped before n between parts))
    → document_of text ≡ Ok (said (design_named n))

-- The same for components, except for their offsets.
abbrev pub ComponentsReadBackInTexts : (ℤ → List ℕ) → List ℕ → List Component → Type 0
ComponentsReadBackInTexts print count cs = (before between : List Skipped) (n : List ℕ) → All IsSkipped before
    → All IsSkipped between → IsWord n
    → (text : List ℕ)
    → BeginsWith text (text_tokens print (after_skipped before n between (components_section count cs ∷ [])))
    → ReadsApartFromOffsets text (record (design_named n) { components = cs })
