-- Texts whose tokens have the same bytes give the same document, except for places.
use Rattle.std.proofs.Common.{◌≡◌, ℕ, List, map, Result, Ok, Err, refl, sym, ap, ◌∙◌}
use Rattle.lf_lex.specs.declared.fault.ReadFault.{ReadFault}
use Rattle.lf_lex.specs.Tokens.{Lexed, Lexeme, plain, with_tokens, tokens_of}
use Rattle.lf_lex.specs.Reading.{ReadValue, taken, lexed_after, block, value_of}
use Rattle.lf_lex.proofs.Runs.{split_alike}
use Rattle.lf_def.specs.declared.doc_parts.DocParts.{DocParts}
use Rattle.lf_def.specs.Header.{header_of}
use Rattle.lf_def.specs.Document.{Document, document_from, def_statement, no_parts}
use Rattle.lf_def.specs.Laws.{ReadsTheSame, document_without_places, ComponentReadsAlike}
use Rattle.lf_def.proofs.Places.{bare_doc, statements_follow, component_follows}

abbrev pub document_at : DocParts → Document
document_at s = record {
  header = header_of s.header;
  rows = s.rows;
  regions = s.regions;
  groups = s.groups;
  components = s.components;
  blockages =
      s.blockages;
}

-- If reading a text gives a document, its statements were read.
pub record Said (r : Result (ReadValue DocParts) ReadFault) (d : Document) : Type 0 where
  pub parts : DocParts
  pub rest : Lexed
  pub read : r ≡ taken parts rest
  pub gives : document_at parts ≡ d

pub said : (r : Result (ReadValue DocParts) ReadFault) (d : Document) → document_from (value_of r) ≡ Ok d → Said r d
said (Err f) d e = absurd cc
said (Ok t) d e = record { parts = t.value; rest = t.rest; read = refl; gives = ok_is (document_at t.value) d e }
  where
    ok_is : (x y : Document) → ◌≡◌ {A = Result Document ReadFault} (Ok x) (Ok y) → x ≡ y
    ok_is x y e = cc

bare_alike : (s s' : DocParts) → bare_doc s' ≡ bare_doc s → document_without_places (document_at s') ≡ document_without_places (document_at s)
bare_alike s s' e = ap (λ (z : DocParts). document_at z) e

pub says_the_same : (a b : List ℕ) → ReadsTheSame a b
says_the_same a b tokens d e =
    let s = said (block def_statement no_parts (tokens_of a)) d e in
    let r = statements_follow no_parts no_parts refl (tokens_of a) s.rest s.parts s.read in
    let whole = ap (λ (z : Lexed). map plain z.tokens) r.whole in
    let c = split_alike (tokens_of b).tokens r.run s.rest.tokens (sym tokens ∙ whole) in
    let again = r.again c.front c.front_alike in
    let rest = lexed_after c.back (tokens_of b) in
    let there : tokens_of b ≡ with_tokens c.front rest = ap (λ (z : List Lexeme). lexed_after z (tokens_of b)) c.whole in
    let one = ap (λ (z : Lexed). document_from (value_of (block def_statement no_parts z))) there
    ∙ ap (λ (z : Result (ReadValue DocParts) ReadFault). document_from (value_of z)) (again.takes rest) in
    (document_at again.value, one, bare_alike s.parts again.value again.alike ∙ ap document_without_places s.gives)

pub component_reads_alike : ComponentReadsAlike
component_reads_alike l m c e =
    let r = component_follows l m c e in
    (r.run, r.whole, λ p q k. let a = r.again p q in (a.value, a.takes k, a.alike))
