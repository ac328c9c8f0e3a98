-- The effect of splices on the statements of a text.
use Rattle.std.proofs.Common.{◌≡◌, ℕ, ◌<◌, Bool, true, false, cond, List, [], ◌∷◌, map, length, Result, Ok, Err, refl, sym, ap, ◌∙◌, arith}
use Rattle.std.specs.Prelude.{codes}
use Rattle.std.proofs.lemmas.List.{append-nil}
use Rattle.std.proofs.lemmas.Slice.Eq.{bytes_eq-Decides}
use Rattle.lf_lex.specs.declared.fault.ReadFault.{ReadFault}
use Rattle.lf_lex.specs.Tokens.{Lexed, Lexeme, plain, with_token, with_tokens}
use Rattle.lf_lex.specs.Splices.{Splice}
use Rattle.lf_lex.specs.Reading.{◌>>=◌, ReadValue, Turn, taken, turn, is}
use Rattle.lf_lex.proofs.Runs.{same_run, turn_bare, ok_is}
use Rattle.lf_lex.proofs.Back.{at_map, at_same, at_first}
use Rattle.lf_lex.proofs.Following.{text_alike}
use Rattle.lf_def.specs.declared.components.Component.{Component}
use Rattle.lf_def.specs.declared.doc_parts.DocParts.{DocParts}
use Rattle.lf_def.specs.Header.{is_header, header_statement}
use Rattle.lf_def.specs.Rows.{with_row}
use Rattle.lf_def.specs.Regions.{regions}
use Rattle.lf_def.specs.Groups.{groups}
use Rattle.lf_def.specs.Components.{components}
use Rattle.lf_def.specs.Blockages.{blockages}
use Rattle.lf_def.specs.Document.{skip_from, end_design, body_statement, def_statement_from, def_statement}
use Rattle.lf_def.proofs.Clauses.{bind_ok, token_ok}
use Rattle.lf_def.proofs.Places.{bare_list, bare_doc, statement_follows, statement_goes}
use Rattle.lf_write.specs.Export.{with_places}
use Rattle.lf_write.proofs.Positions.{Given, changes_from}
use Rattle.lf_write.proofs.Edits.{MadeTurn, edited_after, same_turn}
use Rattle.lf_write.proofs.Entries.{HavePlaces, section_made}

-- Other statements do not depend on components.

abbrev with_components : List Component → DocParts → DocParts
with_components cs s = record s { components = cs }

abbrev Unread : List Component → DocParts → Result (ReadValue DocParts) ReadFault → DocParts → Lexed → Type 0
Unread cs s reading d m = (reading ≡ taken (with_components cs d) m) × (d.components ≡ s.components)

unread_by : {A : Type 0} (cs : List Component) (s d : DocParts) (m : Lexed) (k : A → DocParts) (r : Result (ReadValue A) ReadFault)
    → ((x : A) → (k x).components ≡ s.components) → (r >>= λ x. taken (k x.value) x.rest) ≡ taken d m
    → Unread cs s (r >>= λ x. taken (with_components cs (k x.value)) x.rest) d m
unread_by cs s d m k (Err q) kept e = absurd cc
unread_by cs s d m k (Ok x) kept e =
    let f = ok_is (k x.value) x.rest d m e in (
      ap (λ (z : DocParts). taken (with_components cs z) x.rest) f.0 ∙ ap (λ (z : Lexed). taken (with_components cs d) z) f.1,
      sym (ap (λ (z : DocParts). z.components) f.0) ∙ kept x.value,
    )

body_by : (a b c d e : Bool) (cs : List Component) (s : DocParts) (t : Lexeme) (l m : Lexed) (x : DocParts) → d ≡ false
    → cond {A = Result (ReadValue DocParts) ReadFault} a (with_row s.rows l >>= λ z. taken (record s { rows = z.value }) z.rest)
    (cond b (regions s.regions l >>= λ z. taken (record s { regions = z.value }) z.rest)
    (cond c (groups s.groups l >>= λ z. taken (record s { groups = z.value }) z.rest)
    (cond d (components s.components l >>= λ z. taken (record s { components = z.value }) z.rest)
    (cond e (blockages s.blockages l >>= λ z. taken (record s { blockages = z.value }) z.rest)
    (skip_from t l >>= λ z. taken s z.rest))))) ≡ taken x m
    → Unread cs s (cond {A = Result (ReadValue DocParts) ReadFault} a (with_row s.rows l >>= λ z. taken (with_components cs (record s { rows = z.value })) z.rest)
    (cond b (regions s.regions l >>= λ z. taken (with_components cs (record s { regions = z.value })) z.rest)
    (cond c (groups s.groups l >>= λ z. taken (with_components cs (record s { groups = z.value })) z.rest)
    (cond d (components cs l >>= λ z. taken (record s { components = z.value }) z.rest)
    (cond e (blockages s.blockages l >>= λ z. taken (with_components cs (record s { blockages = z.value })) z.rest)
    (skip_from t l >>= λ z. taken (with_components cs s) z.rest)))))) x m
body_by true b c d e cs s t l m x h f = unread_by cs s x m (λ z. record s { rows = z }) (with_row s.rows l) (λ z. refl) f
body_by false true c d e cs s t l m x h f = unread_by cs s x m (λ z. record s { regions = z }) (regions s.regions l) (λ z. refl) f
body_by false false true d e cs s t l m x h f = unread_by cs s x m (λ z. record s { groups = z }) (groups s.groups l) (λ z. refl) f
body_by false false false true e cs s t l m x h f = absurd cc
body_by false false false false true cs s t l m x h f = unread_by cs s x m (λ z. record s { blockages = z }) (blockages s.blockages l) (λ z. refl) f
body_by false false false false false cs s t l m x h f = unread_by cs s x m (λ z. s) (skip_from t l) (λ z. refl) f

body_unread : (cs : List Component) (s : DocParts) (t : Lexeme) (l m : Lexed) (x : DocParts) → is (codes "COMPONENTS") t ≡ false
    → body_statement s t l ≡ taken x m → Unread cs s (body_statement (with_components cs s) t l) x m
unfolding body_statement
body_unread cs s t l m x h e = body_by (is (codes "ROW") t) (is (codes "REGIONS") t) (is (codes "GROUPS") t) (is (codes "COMPONENTS") t)
    (is (codes "BLOCKAGES") t)
    cs s t l m x h e

abbrev TurnUnread : List Component → DocParts → Result (ReadValue (Turn DocParts)) ReadFault → Turn DocParts → Lexed → Type 0
TurnUnread cs s reading t m = (reading ≡ taken (turn (with_components cs t.state) t.more) m) × (t.state.components ≡ s.components)

turn_unread_by : {A : Type 0} (cs : List Component) (s : DocParts) (t : Turn DocParts) (m : Lexed) (more : Bool) (k : A → DocParts)
    (r : Result (ReadValue A) ReadFault)
    → ((x : A) → (k x).components ≡ s.components) → (r >>= λ x. taken (turn (k x.value) more) x.rest) ≡ taken t m
    → TurnUnread cs s (r >>= λ x. taken (turn (with_components cs (k x.value)) more) x.rest) t m
turn_unread_by cs s t m more k (Err q) kept e = absurd cc
turn_unread_by cs s t m more k (Ok x) kept e =
    let f = ok_is (turn (k x.value) more) x.rest t m e in (
      ap (λ (z : Turn DocParts). taken (turn (with_components cs z.state) z.more) x.rest) f.0
          ∙ ap (λ (z : Lexed). taken (turn (with_components cs t.state) t.more) z) f.1,
      sym (ap (λ (z : Turn DocParts). z.state.components) f.0) ∙ kept x.value,
    )

end_same : (cs : List Component) (s : DocParts) (l : Lexed) → end_design (with_components cs s) l ≡ end_design s l
unfolding end_design
end_same cs s l = refl

-- The body of a statement, read with other components.
body_turn : (cs : List Component) (s : DocParts) (l m : Lexed) (u : Lexeme) (t : Turn DocParts) → is (codes "COMPONENTS") u ≡ false
    → (body_statement s u l >>= λ x. taken (turn x.value true) x.rest) ≡ taken t m
    → TurnUnread cs s (body_statement (with_components cs s) u l >>= λ x. taken (turn x.value true) x.rest) t m
body_turn cs s l m u t h e =
    let a = bind_ok (body_statement s u l) _ _ e in
    let f = ok_is (turn a.0.value true) a.0.rest t m a.2 in
    let g = body_unread cs s u l a.0.rest a.0.value h a.1 in (
      ap (λ (z : Result (ReadValue DocParts) ReadFault). z >>= λ x. taken (turn x.value true) x.rest) g.0
          ∙ ap (λ (z : Turn DocParts). taken (turn (with_components cs z.state) z.more) a.0.rest) f.0
          ∙ ap (λ (z : Lexed). taken (turn (with_components cs t.state) t.more) z) f.1,
      sym (ap (λ (z : Turn DocParts). z.state.components) f.0) ∙ g.1,
    )

from_by : (a b : Bool) (cs : List Component) (s : DocParts) (l m : Lexed) (u : Lexeme) (t : Turn DocParts) → is (codes "COMPONENTS") u ≡ false
    → cond {A = Result (ReadValue (Turn DocParts)) ReadFault} a (end_design s l >>= λ x. taken (turn s false) x.rest)
    (cond b (header_statement s.header u l >>= λ x. taken (turn (record s { header = x.value }) true) x.rest)
    (body_statement s u l >>= λ x. taken (turn x.value true) x.rest)) ≡ taken t m
    → TurnUnread cs s (cond {A = Result (ReadValue (Turn DocParts)) ReadFault} a
    (end_design (with_components cs s) l >>= λ x. taken (turn (with_components cs s) false) x.rest)
    (cond b (header_statement s.header u l >>= λ x. taken (turn (with_components cs (record s { header = x.value })) true) x.rest)
    (body_statement (with_components cs s) u l >>= λ x. taken (turn x.value true) x.rest))) t m
from_by true b cs s l m u t h e = rw (end_same cs s l) (turn_unread_by cs s t m false (λ x. s) (end_design s l) (λ x. refl) e)
from_by false true cs s l m u t h e = turn_unread_by cs s t m true (λ x. record s { header = x }) (header_statement s.header u l) (λ x. refl) e
from_by false false cs s l m u t h e = body_turn cs s l m u t h e

from_unread : (cs : List Component) (s : DocParts) (l m : Lexed) (u : Lexeme) (t : Turn DocParts) → is (codes "COMPONENTS") u ≡ false
    → def_statement_from s u l ≡ taken t m → TurnUnread cs s (def_statement_from (with_components cs s) u l) t m
unfolding def_statement_from
from_unread cs s l m u t h e = from_by (is (codes "END") u) (is_header u) cs s l m u t h e

statement_unread : (cs : List Component) (s : DocParts) (l n m : Lexed) (u : Lexeme) (t : Turn DocParts) → l ≡ with_token u n
    → is (codes "COMPONENTS") u ≡ false
    → def_statement_from s u n ≡ taken t m → TurnUnread cs s (def_statement (with_components cs s) l) t m
unfolding def_statement
statement_unread cs s l n m u t w h e = rw w (from_unread cs s n m u t h e)

-- One statement.

-- The state of a text, with its components at their places.
abbrev pub placed_doc : Given → DocParts → DocParts
placed_doc places s = record s { components = with_places places s.components }

abbrev pub all_of : Given → DocParts → List Splice
all_of places s = changes_from 0 places s.components

abbrev OneMade : Given → Lexed → Lexed → DocParts → Turn DocParts → Type 0
OneMade places l m s t = MadeTurn bare_doc (placed_doc places) (all_of places) def_statement l m s t

other_made : (places : Given) (l m : Lexed) (s : DocParts) (t : Turn DocParts) → t.state.components ≡ s.components
    → def_statement (placed_doc places s) l ≡ taken (turn (placed_doc places t.state) t.more) m → OneMade places l m s t
other_made places l m s t kept e =
    let f = statement_follows (placed_doc places s) (placed_doc places s) refl l m (turn (placed_doc places t.state) t.more) e in
    record {
      made = [];
      grown = ap (λ (z : List Component). changes_from 0 places z) kept ∙ sym (append-nil (changes_from 0 places s.components));
      run = f.run;
      whole = f.whole;
      tokens = map plain f.run;
      edited = refl;
      some = λ more.
          let goes : def_statement (placed_doc places s) l ≡ taken (turn (placed_doc places t.state) true) m = e
          ∙ ap (λ (b : Bool). taken (turn (placed_doc places t.state) b) m) more in
          some_run f.run l m f.whole (statement_goes (placed_doc places s) (placed_doc places t.state) l m goes);
      again = λ s' a p x.
          let g = statement_follows (placed_doc places s) s' a l m (turn (placed_doc places t.state) t.more) e in
          g.again p (x ∙ ap (λ (z : List Lexeme). map plain z) (same_run f.run g.run l m f.whole g.whole));
    }
  where
    some_run : (run : List Lexeme) (l m : Lexed) → l ≡ with_tokens run m → length m.tokens < length l.tokens → 0 < length (map plain run)
    some_run [] l m w lt = absurd (omega (arith, ap (λ (z : Lexed). length z.tokens) w, lt))
    some_run (u ∷ run) l m w lt = omega arith

-- The components of a section, and the state after it.
abbrev section_read : DocParts → Lexed → Result (ReadValue DocParts) ReadFault
section_read s l = components s.components l >>= λ x. taken (record s { components = x.value }) x.rest

from_text : (s : DocParts) (u : Lexeme) (l : Lexed)
    → def_statement_from s (record u { text = codes "COMPONENTS" }) l ≡ (section_read s l >>= λ x. taken (turn x.value true) x.rest)
unfolding def_statement_from body_statement
from_text s u l = refl

section_statement : (s : DocParts) (u : Lexeme) (l : Lexed) → u.text ≡ codes "COMPONENTS"
    → def_statement_from s u l ≡ (section_read s l >>= λ x. taken (turn x.value true) x.rest)
section_statement s u l e = ap (λ (z : List ℕ). def_statement_from s (record u { text = z }) l) e ∙ from_text s u l

section_turn : (places : Given) → HavePlaces places → (l n m : Lexed) (s : DocParts) (cs : List Component) (u : Lexeme) → l ≡ with_token u n
    → u.text ≡ codes "COMPONENTS" → components s.components n ≡ taken cs m → OneMade places l m s (turn (record s { components = cs }) true)
unfolding def_statement
section_turn places h l n m s cs u w text e =
    let f = section_made places h n m s.components cs e in
    let d : DocParts = record s { components = with_places places cs } in
    record {
      made = f.made;
      grown = f.grown;
      run = u ∷ f.run;
      whole = w ∙ ap (λ (z : Lexed). with_token u z) f.whole;
      tokens = plain u ∷ f.tokens;
      edited = edited_after f.made (u ∷ []) f.run f.tokens f.edited;
      some = λ x. omega arith;
      again = λ s' a.
          at_first (turn_bare bare_doc) _ (plain u) f.tokens (turn d true) (λ t' e'.
          at_same (turn_bare bare_doc) (def_statement_from s' t') (λ k. section_read s' k >>= λ x. taken (turn x.value true) x.rest) f.tokens (turn d true)
          (λ k. section_statement s' t' k (text_alike u t' e' ∙ text))
          (at_map bare_doc (turn_bare bare_doc) (section_read s') (λ (x : DocParts). turn x true) f.tokens d (turn d true)
          (at_map bare_list bare_doc (components s'.components) (λ (x : List Component). record s' { components = x }) f.tokens (with_places places cs) d
          (f.again s'.components (ap (λ (z : DocParts). z.components) a)) (λ x ex.
          ap (λ (z : DocParts). record z { components = bare_list x }) a ∙ ap (λ (z : List Component). record (bare_doc s) { components = z }) ex))
          (λ x ex. ap (λ (z : DocParts). turn z true) ex)));
    }

by_keyword : (places : Given) → HavePlaces places → (l n m : Lexed) (s : DocParts) (t : Turn DocParts) (u : Lexeme) → l ≡ with_token u n
    → def_statement_from s u n ≡ taken t m → (test : Bool) → is (codes "COMPONENTS") u ≡ test → OneMade places l m s t
by_keyword places h l n m s t u w e true k =
    let text : u.text ≡ codes "COMPONENTS" = (bytes_eq-Decides u.text (codes "COMPONENTS")).0 k in
    let a = bind_ok (section_read s n) _ _ (sym (section_statement s u n text) ∙ e) in
    let b = bind_ok (components s.components n) _ _ a.1 in
    let f = ok_is (record s { components = b.0.value }) b.0.rest a.0.value a.0.rest b.2 in
    let g = ok_is (turn a.0.value true) a.0.rest t m a.2 in
    same_turn bare_doc (placed_doc places) (all_of places) def_statement l b.0.rest m s (turn (record s { components = b.0.value }) true) t
    (ap (λ (z : DocParts). turn z true) f.0 ∙ g.0) (f.1 ∙ g.1) (section_turn places h l n b.0.rest s b.0.value u w text b.1)
by_keyword places h l n m s t u w e false k =
    let f = statement_unread (with_places places s.components) s l n m u t w k e in
    other_made places l m s t f.1
    (f.0 ∙ ap (λ (z : List Component). taken (turn (with_components (with_places places z) t.state) t.more) m) (sym f.1))

pub statement_made : (places : Given) → HavePlaces places → (s : DocParts) (l m : Lexed) (t : Turn DocParts) → def_statement s l ≡ taken t m
    → OneMade places l m s t
unfolding def_statement
statement_made places h s l m t e =
    let a = token_ok l _ _ e in
    by_keyword places h l a.1 m s t a.0 a.2 a.3 (is (codes "COMPONENTS") a.0) refl
