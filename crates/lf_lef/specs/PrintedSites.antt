-- Printed LEF sites: statements in any order, with skipped ones among them.
use Rattle.std.specs.Prelude.{◌≡◌, ◌≢◌, ℕ, ◌<◌, List, [], ◌∷◌, ◌++◌, length, map, All, None, codes}
use Rattle.std.specs.Str.{bytes_eq}
use Rattle.lf_names.specs.Names.{position_of}
use Rattle.lf_lex.specs.Tokens.{Lexed, Lexeme, PlainToken, with_tokens}
use Rattle.lf_lex.specs.Reading.{first_counts}
use Rattle.lf_lex.specs.Splices.{plain_word}
use Rattle.lf_floorplan.specs.declared.sites.Site.{Site}
use Rattle.lf_lef.specs.declared.sites.SiteParts.{SiteParts}
use Rattle.lf_lef.specs.Contents.{Contents, site_names}
use Rattle.lf_lef.specs.Sites.{no_symmetry, no_site_parts, site_of}
use Rattle.lf_lef.specs.Library.{library}
use Rattle.lf_lef.specs.Printed.{Spells, IsPrintable, class_words, end_words, with_semicolon, IsSkippedToSemicolon, SkippedStatement, IsWhole, tokens_after}
use Rattle.lf_lef.specs.PrintedMacros.{PrintedLength, IsPrintedLength, SymmetryWord, symmetry_tokens, with_symmetries}

-- A statement of a SITE.
pub data SiteStatement : Type 0 where
  -- CLASS class ;
  site_class : List ℕ → SiteStatement
  -- SYMMETRY {X | Y | R90} .. ;
  site_symmetry : List SymmetryWord → SiteStatement
  -- SIZE w BY h ;
  site_size : PrintedLength → PrintedLength → SiteStatement
  -- Any other statement, up to its semicolon.
  site_passed : List PlainToken → SiteStatement

abbrev pub site_statement_tokens : SiteStatement → List PlainToken
site_statement_tokens (site_class class) = map plain_word (class_words class)
site_statement_tokens (site_symmetry words) = plain_word (codes "SYMMETRY") ∷ symmetry_tokens words
site_statement_tokens (site_size w h) = map plain_word (codes "SIZE" ∷ w.word ∷ codes "BY" ∷ h.word ∷ codes ";" ∷ [])
site_statement_tokens (site_passed tokens) = with_semicolon tokens

abbrev pub IsSiteStatement : SiteStatement → Type 0
IsSiteStatement (site_class class) = class ≢ codes ";"
IsSiteStatement (site_symmetry words) = Unit {0}
IsSiteStatement (site_size w h) = IsPrintedLength w × IsPrintedLength h
IsSiteStatement (site_passed tokens) =
    IsSkippedToSemicolon (codes "END" ∷ codes "CLASS" ∷ codes "SYMMETRY" ∷ codes "SIZE" ∷ []) tokens

-- The statements in order, and END name.
abbrev pub site_body_tokens : List ℕ → List SiteStatement → List PlainToken
site_body_tokens name [] = map plain_word (end_words name)
site_body_tokens name (s ∷ ss) = site_statement_tokens s ++ site_body_tokens name ss

-- SITE name, its statements, END name.
abbrev pub site_tokens : List ℕ → List SiteStatement → List PlainToken
site_tokens name statements = plain_word (codes "SITE") ∷ plain_word name ∷ site_body_tokens name statements

-- The first CLASS, SYMMETRY and SIZE count. Skipped statements are ignored.
abbrev pub with_site_statement : SiteParts → SiteStatement → SiteParts
with_site_statement parts (site_class class) = record parts {
  core = first_counts parts.core (bytes_eq class (codes "CORE"));
}
with_site_statement parts (site_symmetry words) = record parts {
  symmetry = first_counts parts.symmetry (with_symmetries no_symmetry words);
}
with_site_statement parts (site_size w h) = record parts {
  size = first_counts parts.size (record { x = w.length; y = h.length });
}
with_site_statement parts (site_passed tokens) = parts

abbrev pub with_site_statements : SiteParts → List SiteStatement → SiteParts
with_site_statements parts [] = parts
with_site_statements parts (s ∷ ss) = with_site_statements (with_site_statement parts s) ss

-- The site that the statements describe.
abbrev pub described_site : List ℕ → List SiteStatement → Site
described_site name statements = site_of name (with_site_statements no_site_parts statements)

-- Holds if a site with a new name, printed by any such statements, reads back, after skipped
-- statements and with anything after it.
abbrev pub ReadsSiteOf : Contents → Site → List SiteStatement → Type 0
ReadsSiteOf c s statements = (passed : List SkippedStatement) (tokens : List Lexeme) (after_it : Lexed)
    → All IsWhole passed → IsPrintable s.name → All IsSiteStatement statements → described_site s.name statements ≡ s
    → position_of (site_names c.sites) s.name ≡ None → length c.sites < 1000000
    → Spells tokens (tokens_after passed (site_tokens s.name statements))
    → library c (with_tokens tokens after_it) ≡ library (record c { sites = c.sites ++ s ∷ [] }) after_it
