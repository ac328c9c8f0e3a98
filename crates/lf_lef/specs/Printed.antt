-- LEF statements as printed, word by word. Any white space and comments may be between the words.
use Rattle.std.specs.Prelude.{◌≡◌, ◌≢◌, ℕ, ◌^◌, ◌≤◌, ◌<◌, List, [], ◌∷◌, ◌++◌, length, map, All, ℤ, None, Some, Ok, codes, if◌then◌else◌}
use Rattle.std.specs.Str.{bytes_eq}
use Rattle.lf_units.specs.Number.{fixed_of}
use Rattle.lf_orient.specs.declared.Symmetry.{Symmetry}
use Rattle.lf_names.specs.Names.{position_of}
use Rattle.lf_lex.specs.Tokens.{Lexed, Lexeme, PlainToken, plain, with_tokens}
use Rattle.lf_lex.specs.Splices.{plain_word}
use Rattle.lf_lex.specs.Passing.{OccurNowhere}
use Rattle.lf_floorplan.specs.declared.sites.Site.{Site}
use Rattle.lf_floorplan.specs.declared.macros.Macro.{Macro}
use Rattle.lf_lef.specs.Contents.{Contents, site_names, macro_names}
use Rattle.lf_lef.specs.Pins.{rail_of, reach_of, use_named}
use Rattle.lf_lef.specs.Library.{library}

-- Holds if the tokens have these kinds and bytes, wherever they are.
abbrev pub Spells : List Lexeme → List PlainToken → Type 0
Spells tokens printed = map plain tokens ≡ printed

-- Holds if the word denotes the length.
abbrev pub Writes : List ℕ → ℤ → Type 0
Writes word length = fixed_of word 6 (10 ^ 12) ≡ Ok length

-- Holds if the name may be printed.
pub record IsPrintable (name : List ℕ) : Type 0 where
  pub word : name ≢ codes ";"
  pub short : length name ≤ 1024

-- Statements.

-- CLASS class ;
abbrev pub class_words : List ℕ → List (List ℕ)
class_words class = codes "CLASS" ∷ class ∷ codes ";" ∷ []

-- SYMMETRY {X | Y} .. ;
abbrev pub symmetry_words : Symmetry → List (List ℕ)
symmetry_words s = codes "SYMMETRY"
    ∷ ((if s.x then codes "X" ∷ [] else []) ++ ((if s.y then codes "Y" ∷ [] else []) ++ codes ";" ∷ []))

-- SIZE w BY h ;
abbrev pub size_words : List ℕ → List ℕ → List (List ℕ)
size_words w h = codes "SIZE" ∷ w ∷ codes "BY" ∷ h ∷ codes ";" ∷ []

-- ORIGIN x y ;
abbrev pub origin_words : List ℕ → List ℕ → List (List ℕ)
origin_words x y = codes "ORIGIN" ∷ x ∷ y ∷ codes ";" ∷ []

-- END name
abbrev pub end_words : List ℕ → List (List ℕ)
end_words name = codes "END" ∷ name ∷ []

-- SITE name, its CLASS, SYMMETRY and SIZE, END name.
abbrev pub site_words : List ℕ → List ℕ → Symmetry → List ℕ → List ℕ → List (List ℕ)
site_words name class symmetry w h =
    codes "SITE" ∷ name ∷ (class_words class ++ (symmetry_words symmetry ++ (size_words w h ++ end_words name)))

-- USE use ;
abbrev pub use_words : List ℕ → List (List ℕ)
use_words use_word = codes "USE" ∷ use_word ∷ codes ";" ∷ []

-- PORT RECT x y x y ; END
abbrev pub port_words : List ℕ → List ℕ → List ℕ → List ℕ → List (List ℕ)
port_words x1 y1 x2 y2 = codes "PORT" ∷ codes "RECT" ∷ x1 ∷ y1 ∷ x2 ∷ y2 ∷ codes ";" ∷ codes "END" ∷ []

-- PIN name, its USE, one PORT of one RECT, END name.
abbrev pub pin_words : List ℕ → List ℕ → List ℕ → List ℕ → List ℕ → List ℕ → List (List ℕ)
pin_words name use_word x1 y1 x2 y2 =
    codes "PIN" ∷ name ∷ (use_words use_word ++ (port_words x1 y1 x2 y2 ++ end_words name))

-- MACRO name, its ORIGIN, SIZE and SYMMETRY, one PIN, END name.
abbrev pub macro_words : List ℕ → List ℕ → List ℕ → List ℕ → List ℕ → Symmetry → List (List ℕ) → List (List ℕ)
macro_words name x y w h symmetry pin = codes "MACRO"
    ∷ name ∷ (origin_words x y ++ (size_words w h ++ (symmetry_words symmetry ++ (pin ++ end_words name))))

-- Statements that are skipped.

-- Statements that are skipped up to END and the name after the keyword.
pub data NamedGroup : Type 0 where
  layer : NamedGroup
  via : NamedGroup
  via_rule : NamedGroup
  rule : NamedGroup
  array : NamedGroup

abbrev pub named_word : NamedGroup → List ℕ
named_word layer = codes "LAYER"
named_word via = codes "VIA"
named_word via_rule = codes "VIARULE"
named_word rule = codes "NONDEFAULTRULE"
named_word array = codes "ARRAY"

-- Statements that are skipped up to END and the keyword.
pub data SkippedGroup : Type 0 where
  units : SkippedGroup
  property_definitions : SkippedGroup
  spacing : SkippedGroup
  ir_drop : SkippedGroup
  noise_table : SkippedGroup
  correction_table : SkippedGroup

abbrev pub group_word : SkippedGroup → List ℕ
group_word units = codes "UNITS"
group_word property_definitions = codes "PROPERTYDEFINITIONS"
group_word spacing = codes "SPACING"
group_word ir_drop = codes "IRDROP"
group_word noise_table = codes "NOISETABLE"
group_word correction_table = codes "CORRECTIONTABLE"

-- Words and quoted texts, followed by a semicolon.
abbrev pub with_semicolon : List PlainToken → List PlainToken
with_semicolon tokens = tokens ++ plain_word (codes ";") ∷ []

-- Holds if the statement is skipped up to its semicolon. It has no other semicolon, and begins with
-- no word of a statement that is read in another manner. A semicolon alone is such a statement too.
abbrev pub IsSkippedToSemicolon : List (List ℕ) → List PlainToken → Type 0
IsSkippedToSemicolon others [] = Unit {0}
IsSkippedToSemicolon others (t ∷ ts) = All (λ word. t.text ≢ word) others × OccurNowhere (codes ";" ∷ []) (t ∷ ts)

-- A statement other than SITE and MACRO, with any words and quoted texts.
pub data SkippedStatement : Type 0 where
  -- All tokens up to a semicolon.
  plain_statement : List PlainToken → SkippedStatement
  -- A keyword and a name, the tokens between, END and the name.
  named : NamedGroup → List ℕ → List PlainToken → SkippedStatement
  -- A keyword, the tokens between, END and the keyword.
  grouped : SkippedGroup → List PlainToken → SkippedStatement
  -- BEGINEXT, the tokens between, ENDEXT.
  extension : List PlainToken → SkippedStatement

abbrev pub skipped_statement_tokens : SkippedStatement → List PlainToken
skipped_statement_tokens (plain_statement tokens) = with_semicolon tokens
skipped_statement_tokens (named keyword name between) =
    plain_word (named_word keyword) ∷ plain_word name ∷ (between ++ map plain_word (end_words name))
skipped_statement_tokens (grouped keyword between) =
    plain_word (group_word keyword) ∷ (between ++ map plain_word (end_words (group_word keyword)))
skipped_statement_tokens (extension between) =
    plain_word (codes "BEGINEXT") ∷ (between ++ plain_word (codes "ENDEXT") ∷ [])

-- The words that begin a statement that is not skipped up to a semicolon.
abbrev pub other_statements : List (List ℕ)
other_statements =
    codes "END" ∷ codes "SITE" ∷ codes "MACRO" ∷ codes "LAYER" ∷ codes "VIA" ∷ codes "VIARULE"
    ∷ codes "NONDEFAULTRULE" ∷ codes "ARRAY"
    ∷ codes "UNITS" ∷ codes "PROPERTYDEFINITIONS" ∷ codes "SPACING" ∷ codes "IRDROP" ∷ codes "NOISETABLE"
    ∷ codes "CORRECTIONTABLE" ∷ codes "BEGINEXT" ∷ []

-- Holds if the statement ends with its last word and not earlier: nowhere earlier does the name
-- directly follow END.
abbrev pub IsWhole : SkippedStatement → Type 0
IsWhole (plain_statement tokens) = IsSkippedToSemicolon other_statements tokens
IsWhole (named keyword name between) = IsPrintable name
    × OccurNowhere (codes "END" ∷ name ∷ []) (between ++ plain_word (codes "END") ∷ [])
IsWhole (grouped keyword between) = OccurNowhere (codes "END" ∷ group_word keyword ∷ []) between
IsWhole (extension between) = OccurNowhere (codes "ENDEXT" ∷ []) between

-- The statements in order, and then these tokens.
abbrev pub tokens_after : List SkippedStatement → List PlainToken → List PlainToken
tokens_after [] tokens = tokens
tokens_after (p ∷ ps) tokens = skipped_statement_tokens p ++ tokens_after ps tokens

-- What reading returns.

-- Holds if skipped statements have no effect, whatever follows.
abbrev pub SkipsStatements : Contents → Type 0
SkipsStatements c = (passed : List SkippedStatement) (tokens : List Lexeme) (after_it : Lexed) → All IsWhole passed
    → Spells tokens (tokens_after passed [])
    → library c (with_tokens tokens after_it) ≡ library c after_it

-- Holds if a printed site with a new name reads back, after skipped statements and with anything
-- after it.
abbrev pub ReadsSite : Contents → Site → Type 0
ReadsSite c s = (passed : List SkippedStatement) (class w h : List ℕ) (tokens : List Lexeme) (after_it : Lexed)
    → All IsWhole passed → IsPrintable s.name → class ≢ codes ";" → bytes_eq class (codes "CORE") ≡ s.core
    → Writes w s.size.x → Writes h s.size.y
    → position_of (site_names c.sites) s.name ≡ None → length c.sites < 1000000
    → Spells tokens (tokens_after passed (map plain_word (site_words s.name class s.symmetry w h)))
    → library c (with_tokens tokens after_it) ≡ library (record c { sites = c.sites ++ s ∷ [] }) after_it

-- Holds if a printed macro with a new name reads back with the rail of its pin, after skipped
-- statements and with anything after it.
abbrev pub ReadsMacro : Contents → Macro → Type 0
ReadsMacro c m = (passed : List SkippedStatement) (x y w h pin use_word x1 y1 x2 y2 : List ℕ) (low high left right : ℤ)
    (tokens : List Lexeme) (after_it : Lexed)
    → All IsWhole passed → IsPrintable m.name → IsPrintable pin → use_word ≢ codes ";" → Writes x m.origin.x
    → Writes y m.origin.y → Writes w m.size.x
    → Writes h m.size.y
    → Writes x1 left → Writes y1 low → Writes x2 right → Writes y2 high
    → m.rail ≡ rail_of m.origin.y (record { supply = Some (use_named use_word); reaches = reach_of low high ∷ [] } ∷ [])
    → position_of (macro_names c.macros) m.name ≡ None → length c.macros < 1000000
    → Spells tokens
    (tokens_after passed (map plain_word (macro_words m.name x y w h m.symmetry (pin_words pin use_word x1 y1 x2 y2))))
    → library c (with_tokens tokens after_it) ≡ library (record c { macros = c.macros ++ m ∷ [] }) after_it
