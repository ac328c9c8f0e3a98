-- The exported text reads as the document with the given places in it.
use Rattle.std.proofs.Common.{◌≡◌, ℕ, Bool, true, false, cond, List, [], ◌∷◌, ◌++◌, map, length, Option, Some, Result, Ok, refl, sym, ap, ◌∙◌}
use Rattle.std.specs.Prelude.{IfSome, All, ◌==◌}
use Rattle.std.proofs.lemmas.List.{append-nil}
use Rattle.std.proofs.lemmas.List.Elements.{All-head, All-tail}
use Rattle.lf_floorplan.specs.declared.place.Place.{Place}
use Rattle.lf_lex.specs.declared.fault.ReadFault.{ReadFault}
use Rattle.lf_lex.specs.Tokens.{Lexed, Lexeme, PlainToken, plain, with_tokens, tokens_of}
use Rattle.lf_lex.specs.Splices.{Splice, AreEdited, spliced}
use Rattle.lf_lex.specs.Reading.{ReadValue, lexed_after, block, value_of}
use Rattle.lf_lex.proofs.Splicing.{edited_tokens}
use Rattle.lf_lex.proofs.Back.{halves, at_block}
use Rattle.lf_def.specs.declared.doc_parts.DocParts.{DocParts}
use Rattle.lf_def.specs.Document.{Document, document_of, document_from, def_statement, no_parts}
use Rattle.lf_def.specs.Laws.{document_without_places}
use Rattle.lf_def.proofs.Places.{bare_doc}
use Rattle.lf_def.proofs.Same.{document_at, said}
use Rattle.lf_write.specs.Export.{PositionsRise, given_to, exported, given_places}
use Rattle.lf_write.proofs.Positions.{Given, changes_from, changes_are}
use Rattle.lf_write.proofs.Edits.{edited_both, all_made}
use Rattle.lf_write.proofs.Entries.{HavePlaces}
use Rattle.lf_write.proofs.Renewed.{HasPlace}
use Rattle.lf_write.proofs.Statements.{placed_doc, all_of, statement_made}

bare_alike : (s s' : DocParts) → bare_doc s' ≡ bare_doc s → document_without_places (document_at s') ≡ document_without_places (document_at s)
bare_alike s s' e = ap (λ (z : DocParts). document_at z) e

nothing_yet : (places : Given) → changes_from 0 places [] ≡ []
unfolding changes_from
nothing_yet places = refl

abbrev ReadsAs : List ℕ → Document → Type 0
ReadsAs text d = (again : Document) × (document_of text ≡ Ok again) × (document_without_places again ≡ document_without_places d)

-- The tokens after a run are unchanged.
whole_edits : (made : List Splice) (run rest whole : List Lexeme) (tokens : List PlainToken) → whole ≡ run ++ rest → AreEdited made run tokens
    → AreEdited made whole (tokens ++ map plain rest)
whole_edits made run rest whole tokens e edited =
    let both = edited_both made [] run rest tokens (map plain rest) edited refl in
    let none = append-nil made in
    rw e (rw none at both)

-- The splices of a document's components turn its text into one that reads as the document at the
-- places.
changes_read : (places : Given) → HavePlaces places → (text : List ℕ) (d : Document) → document_of text ≡ Ok d
    → ReadsAs (spliced 0 (changes_from 0 places d.components) text) (given_places places d)
changes_read places h text d e =
    let s = said (block def_statement no_parts (tokens_of text)) d e in
    let g = all_made bare_doc (placed_doc places) (all_of places) def_statement (λ s l m t x. statement_made places h s l m t x) _ no_parts s.parts
    (tokens_of text) s.rest s.read in
    let made_is : changes_from 0 places d.components ≡ g.made =
    ap (λ (z : Document). changes_from 0 places z.components) (sym s.gives) ∙ g.grown ∙ ap (λ (z : List Splice). z ++ g.made) (nothing_yet places) in
    let edits = whole_edits g.made g.run s.rest.tokens (tokens_of text).tokens g.tokens (ap (λ (z : Lexed). z.tokens) g.whole) g.edited in
    let spelled = edited_tokens g.made 0 1 text (tokens_of text).tokens (g.tokens ++ map plain s.rest.tokens) refl edits 0 1 in
    let c = halves (tokens_of (spliced 0 g.made text)).tokens g.tokens (map plain s.rest.tokens) spelled in
    let a = at_block bare_doc def_statement no_parts (placed_doc places s.parts) g.tokens (g.again no_parts refl) c.front c.front_is in
    let rest = lexed_after c.back (tokens_of (spliced 0 g.made text)) in
    let there : tokens_of (spliced 0 g.made text) ≡ with_tokens c.front rest = ap (λ (z : List Lexeme). lexed_after z (tokens_of (spliced 0 g.made text))) c.whole in
    let one = ap (λ (z : Lexed). document_from (value_of (block def_statement no_parts z))) there
    ∙ ap (λ (z : Result (ReadValue DocParts) ReadFault). document_from (value_of z)) (a.takes rest) in
    rw made_is (
      document_at a.value,
      one,
      bare_alike (placed_doc places s.parts) a.value a.alike
          ∙ ap (λ (z : Document). document_without_places (given_places places z)) s.gives,
    )

pub reads_back : (places : Given) → HavePlaces places → (text : List ℕ) (d : Document) → document_of text ≡ Ok d → PositionsRise 0 (length d.components) places
    → ReadsAs (exported text d.components places) (given_places places d)
reads_back places h text d e rise = rw (changes_are places d.components rise) (changes_read places h text d e)

-- Places whose coordinates fit have places in a text.
pub have_places : (places : Given) → All (λ g. HasPlace g.1) places → HavePlaces places
have_places [] fit n = tt
have_places (g ∷ places) fit n = by_test (g.0 == n) (have_places places (All-tail (λ (x : ℕ × Option Place). HasPlace x.1) g places fit) n)
  where
    by_test : (test : Bool) → IfSome (given_to places n) (λ given. HasPlace given) → IfSome (cond test (Some g.1) (given_to places n)) (λ given. HasPlace given)
    by_test true h = All-head (λ (x : ℕ × Option Place). HasPlace x.1) g places fit
    by_test false h = h
