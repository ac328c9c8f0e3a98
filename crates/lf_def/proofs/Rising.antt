-- The components of a document are in its text in order, without overlap.
use Rattle.std.proofs.Common.{◌≡◌, ℕ, zero, suc, ◌+◌, ◌-◌, ◌≤◌, ◌<◌, Bool, true, false, cond, List, [], ◌∷◌, ◌++◌, length, take, drop, Option, Some, None, Result, Err, refl, sym, ap, ◌∙◌, arith, min}
use Rattle.std.specs.Prelude.{codes}
use Rattle.std.proofs.lemmas.Slice.Eq.{bytes_eq-Decides}
use Rattle.std.proofs.lemmas.List.{append_assoc, length-take, length-drop}
use Rattle.lf_lex.specs.declared.fault.ReadFault.{ReadFault}
use Rattle.lf_lex.specs.Tokens.{Lexed, Lexeme, AreSlices, with_token, tokens_of}
use Rattle.lf_lex.specs.Reading.{◌>>=◌, Reader, ReadValue, Turn, taken, turn, is, end_name, to_semicolon, statements, block}
use Rattle.lf_lex.proofs.Runs.{ok_is}
use Rattle.lf_lex.proofs.Slices.{slices_from}
use Rattle.lf_lex.proofs.Following.{to_semicolon_follows, end_name_follows}
use Rattle.lf_def.specs.declared.components.Component.{Component}
use Rattle.lf_def.specs.declared.components.PlacementClause.{PlacementClause}
use Rattle.lf_def.specs.declared.doc_parts.DocParts.{DocParts}
use Rattle.lf_def.specs.Entries.{entry_or_end, section}
use Rattle.lf_def.specs.Header.{is_header, header_statement}
use Rattle.lf_def.specs.Rows.{with_row}
use Rattle.lf_def.specs.Regions.{regions}
use Rattle.lf_def.specs.Groups.{groups}
use Rattle.lf_def.specs.Blockages.{blockages}
use Rattle.lf_def.specs.Components.{component, components}
use Rattle.lf_def.specs.Document.{Document, skip_from, end_design, body_statement, def_statement_from, def_statement, no_parts}
use Rattle.lf_def.specs.Laws.{LastEnds, ClauseAmong, HasClause, IsComponentOf, ClauseWithin, AreInTextOrder, ComponentsAreInTextOrder}
use Rattle.lf_def.proofs.Following.{header_follows}
use Rattle.lf_def.proofs.Places.{with_row_follows, regions_alike, groups_alike, blockages_alike, passed_follows, end_design_follows}
use Rattle.lf_def.proofs.Local.{Local, local_of}
use Rattle.lf_def.proofs.Clauses.{bind_ok, token_ok, components_have_clauses}
use Rattle.lf_def.proofs.Same.{said}

-- The place after a run of tokens.
after_run : ℕ → List Lexeme → ℕ
after_run at [] = at
after_run at (t ∷ ts) = after_run t.stop ts

past : (text : List ℕ) (at : ℕ) (run ts : List Lexeme) → AreSlices text at (run ++ ts) → (at ≤ after_run at run) × AreSlices text (after_run at run) ts
unfolding after_run
past text at [] ts h = (omega arith, h)
past text at (t ∷ run) ts h = let r = past text t.stop run ts h.3 in (omega (arith, h.0, h.1, r.0), r.1)

last_after : (stop : ℕ) (t : Lexeme) (ts : List Lexeme) → LastEnds stop t ts → after_run t.stop ts ≡ stop
unfolding after_run
last_after stop t [] h = h
last_after stop t (u ∷ us) h = last_after stop u us h

-- A clause among the tokens lies between the offsets of these tokens.
clause_is_kept : (text : List ℕ) (at : ℕ) (tokens ts : List Lexeme) (p : PlacementClause) → ClauseAmong tokens p → AreSlices text at (tokens ++ ts) → (at ≤ p.start) × (p.start < p.stop) × (p.stop ≤ after_run at tokens)
unfolding after_run
clause_is_kept text at tokens ts p c h =
    let there : tokens ++ ts ≡ c.before ++ ((c.is.plus ∷ c.is.word ∷ c.is.more) ++ (c.after ++ ts)) =
    ap (λ (z : List Lexeme). z ++ ts) c.whole ∙ append_assoc c.before (c.clause ++ c.after) ts ∙ ap (λ (z : List Lexeme). c.before ++ z) (append_assoc c.clause c.after ts) ∙ ap (λ (z : List Lexeme). c.before ++ (z ++ (c.after ++ ts))) c.is.tokens in
    let a = past text at c.before ((c.is.plus ∷ c.is.word ∷ c.is.more) ++ (c.after ++ ts)) (rw there at h) in
    let b = past text (after_run at c.before) (c.is.plus ∷ c.is.word ∷ c.is.more) (c.after ++ ts) a.1 in
    let d = past text (after_run (after_run at c.before) (c.is.plus ∷ c.is.word ∷ c.is.more)) c.after ts b.1 in
    let stop-is : after_run (after_run at c.before) (c.is.plus ∷ c.is.word ∷ c.is.more) ≡ p.stop = last_after p.stop c.is.word c.is.more c.is.stop in
    let m = past text c.is.word.stop c.is.more (c.after ++ ts) a.1.3.3 in
    let end-is : after_run at tokens ≡ after_run (after_run (after_run at c.before) (c.is.plus ∷ c.is.word ∷ c.is.more)) c.after =
    ap (λ (z : List Lexeme). after_run at z) (c.whole ∙ ap (λ (z : List Lexeme). c.before ++ (z ++ c.after)) c.is.tokens) ∙ both at c.before ((c.is.plus ∷ c.is.word ∷ c.is.more) ++ c.after) ∙ both (after_run at c.before) (c.is.plus ∷ c.is.word ∷ c.is.more) c.after in
    (omega (arith, a.0, a.1.0, c.is.start), omega (arith, c.is.start, a.1.1, a.1.3.0, a.1.3.1, m.0, last_after p.stop c.is.word c.is.more c.is.stop), omega (arith, end-is, stop-is, d.0))
  where
    both : (at : ℕ) (a b : List Lexeme) → after_run at (a ++ b) ≡ after_run (after_run at a) b
    both at [] b = refl
    both at (t ∷ a) b = both t.stop a b

clause_within : (text : List ℕ) (at to : ℕ) (tokens ts : List Lexeme) (p : Option PlacementClause) → HasClause tokens p → AreSlices text at (tokens ++ ts) → after_run at tokens ≤ to → ClauseWithin at to p
clause_within text at to tokens ts None c h le = tt
clause_within text at to tokens ts (Some p) c h le = let r = clause_is_kept text at tokens ts p c h in (r.0, r.1, omega (arith, r.2, le))

-- A semicolon lies within the text.
semicolon_within : (text : List ℕ) (t : Lexeme) → is (codes ";") t ≡ true → t.text ≡ take (t.stop - t.start) (drop t.start text) → t.start < length text
semicolon_within text t e h =
    let one : t.text ≡ codes ";" = (bytes_eq-Decides t.text (codes ";")).0 e in
    let len : length (codes ";") ≡ min (t.stop - t.start) (length (drop t.start text)) = ap (λ (z : List ℕ). length z) (sym one ∙ h) ∙ length-take (t.stop - t.start) (drop t.start text) in
    omega (arith, len, length-drop t.start text)

record IsInPlace (text : List ℕ) (at : ℕ) (m : Lexed) (c : Component) : Type 0 where
  pub from : at ≤ c.semicolon
  pub clause : ClauseWithin at c.semicolon c.placement
  pub within : c.semicolon < length text
  pub stop : ℕ
  pub past_it : c.semicolon < stop
  pub rest : AreSlices text stop m.tokens

component_at : (text : List ℕ) (at : ℕ) (run : List Lexeme) (m : Lexed) (c : Component) → IsComponentOf run c → AreSlices text at (run ++ m.tokens) → IsInPlace text at m c
component_at text at run m c k h =
    let there : run ++ m.tokens ≡ k.front ++ (k.last ∷ m.tokens) = ap (λ (z : List Lexeme). z ++ m.tokens) k.whole ∙ append_assoc k.front (k.last ∷ []) m.tokens in
    let slices = rw there at h in
    let a = past text at k.front (k.last ∷ m.tokens) slices in
    record {
      from = omega (arith, a.0, a.1.0, k.semicolon);
      clause = clause_within text at c.semicolon k.front (k.last ∷ m.tokens) c.placement k.clause slices (omega (arith, a.1.0, k.semicolon));
      within = omega (arith, k.semicolon, semicolon_within text k.last k.last_is a.1.2);
      stop = k.last.stop;
      past_it = omega (arith, k.semicolon, a.1.1);
      rest = a.1.3;
    }

read_component_at : (text : List ℕ) (at : ℕ) (l m : Lexed) (c : Component) → component l ≡ taken c m → AreSlices text at l.tokens → IsInPlace text at m c
read_component_at text at l m c e h =
    let s = components_have_clauses l m c e in
    let there = ap (λ (z : Lexed). z.tokens) s.1 in
    component_at text at s.0 m c s.2 (rw there at h)

-- Lists of components.

wider : (from mid to : ℕ) (cs : List Component) → AreInTextOrder from mid cs → mid ≤ to → AreInTextOrder from to cs
wider from mid to [] h le = omega (arith, h, le)
wider from mid to (c ∷ cs) h le = (h.0, h.1, wider (c.semicolon + 1) mid to cs h.2 le)

later_clause : (from at to : ℕ) (p : Option PlacementClause) → from ≤ at → ClauseWithin at to p → ClauseWithin from to p
later_clause from at to None le h = tt
later_clause from at to (Some p) le h = (omega (arith, le, h.0), h.1, h.2)

one_more : (from high at to : ℕ) (cs : List Component) (c : Component) → AreInTextOrder from high cs → high ≤ at → at ≤ c.semicolon → ClauseWithin at c.semicolon c.placement → c.semicolon + 1 ≤ to → AreInTextOrder from to (cs ++ c ∷ [])
one_more from high at to [] c h le s k e = (omega (arith, h, le, s), later_clause from at c.semicolon c.placement (omega (arith, h, le)) k, e)
one_more from high at to (d ∷ cs) c h le s k e = (h.0, h.1, one_more (d.semicolon + 1) high at to cs c h.2 le s k e)

-- The fact while tokens are left: the components that were read lie in front of them.
record Read (text : List ℕ) (m : Lexed) (cs : List Component) : Type 0 where
  pub high : ℕ
  pub at : ℕ
  pub before : high ≤ at
  pub within : high ≤ length text
  pub rising : AreInTextOrder 0 high cs
  pub rest : AreSlices text at m.tokens

moved : {A : Type 0} (reader : Reader A) (text : List ℕ) (l m : Lexed) (x : A) (cs : List Component) → Local reader → reader l ≡ taken x m → Read text l cs → Read text m cs
moved reader text l m x cs local e k =
    let f = local l m x e in
    let there = ap (λ (z : Lexed). z.tokens) f.whole in
    let a = past text k.at f.run m.tokens (rw there at k.rest) in
    record { high = k.high; at = after_run k.at f.run; before = omega (arith, k.before, a.0); within = k.within; rising = k.rising; rest = a.1 }

with_component : (text : List ℕ) (l m : Lexed) (c : Component) (cs : List Component) → component l ≡ taken c m → Read text l cs → Read text m (cs ++ c ∷ [])
with_component text l m c cs e k =
    let s = read_component_at text k.at l m c e k.rest in
    record {
      high = c.semicolon + 1;
      at = s.stop;
      before = omega (arith, s.past_it);
      within = omega (arith, s.within);
      rising = one_more 0 k.high k.at (c.semicolon + 1) cs c k.rising k.before s.from s.clause (omega arith);
      rest = s.rest;
    }

same_components : (text : List ℕ) (m n : Lexed) (cs ds : List Component) → cs ≡ ds → n ≡ m → Read text n cs → Read text m ds
same_components text m n cs ds e f k = rw (sym e, sym f) k

entry_turn : (c d : Bool) (text : List ℕ) (n m : Lexed) (s : List Component) (t : Turn (List Component)) (q : ReadFault) → Read text n s
    → cond {A = Result (ReadValue (Turn (List Component))) ReadFault} c (component n >>= λ x. taken (turn (s ++ x.value ∷ []) true) x.rest) (cond d (end_name (codes "COMPONENTS") n >>= λ x. taken (turn s false) x.rest) (Err q)) ≡ taken t m → Read text m t.state
entry_turn true d text n m s t q k e =
    let a = bind_ok (component n) _ _ e in
    let f = ok_is (turn (s ++ a.0.value ∷ []) true) a.0.rest t m a.2 in
    same_components text m a.0.rest (s ++ a.0.value ∷ []) t.state (ap (λ (z : Turn (List Component)). z.state) f.0) f.1 (with_component text n a.0.rest a.0.value s a.1 k)
entry_turn false true text n m s t q k e =
    let a = bind_ok (end_name (codes "COMPONENTS") n) _ _ e in
    let f = ok_is (turn s false) a.0.rest t m a.2 in
    same_components text m a.0.rest s t.state (ap (λ (z : Turn (List Component)). z.state) f.0) f.1 (moved (end_name (codes "COMPONENTS")) text n a.0.rest a.0.value s (local_of (end_name (codes "COMPONENTS")) (end_name_follows (codes "COMPONENTS"))) a.1 k)
entry_turn false false text n m s t q k e = absurd cc

token_moved : (text : List ℕ) (l n : Lexed) (u : Lexeme) (cs : List Component) → l ≡ with_token u n → Read text l cs → Read text n cs
token_moved text l n u cs e k =
    let there = ap (λ (z : Lexed). z.tokens) e in
    let h = rw there at k.rest in
    record { high = k.high; at = u.stop; before = omega (arith, k.before, h.0, h.1); within = k.within; rising = k.rising; rest = h.3 }

entries_turn : (text : List ℕ) (l m : Lexed) (s : List Component) (t : Turn (List Component)) → Read text l s → entry_or_end (codes "COMPONENTS") component s l ≡ taken t m → Read text m t.state
unfolding entry_or_end
entries_turn text l m s t k e =
    let a = token_ok l _ _ e in
    entry_turn (is (codes "-") a.0) (is (codes "END") a.0) text a.1 m s t _ (token_moved text l a.1 a.0 s a.2 k) a.3

entries_by : (n : ℕ) (text : List ℕ) (m : Lexed) (y : List Component) (t : Turn (List Component)) (rest : Lexed) → Read text rest t.state
    → (statements (entry_or_end (codes "COMPONENTS") component) n t.state rest ≡ taken y m → Read text m y)
    → (more : Bool) → cond more (statements (entry_or_end (codes "COMPONENTS") component) n t.state rest) (taken t.state rest) ≡ taken y m → Read text m y
entries_by n text m y t rest k next true e = next e
entries_by n text m y t rest k next false e = let d = ok_is t.state rest y m e in same_components text m rest t.state y d.0 d.1 k

all_entries : (n : ℕ) (text : List ℕ) (l m : Lexed) (s y : List Component) → Read text l s → statements (entry_or_end (codes "COMPONENTS") component) n s l ≡ taken y m → Read text m y
unfolding statements
all_entries zero text l m s y k e = absurd cc
all_entries (suc n) text l m s y k e =
    let a = bind_ok (entry_or_end (codes "COMPONENTS") component s l) _ _ e in
    let k' = entries_turn text l a.0.rest s a.0.value k a.1 in
    entries_by n text m y a.0.value a.0.rest k' (λ f. all_entries n text a.0.rest m a.0.value.state y k' f) a.0.value.more a.2

components_read : (text : List ℕ) (l m : Lexed) (s y : List Component) → Read text l s → components s l ≡ taken y m → Read text m y
unfolding section
components_read text l m s y k e =
    let a = bind_ok (to_semicolon l) _ _ e in
    all_entries _ text a.0.rest m s y (moved to_semicolon text l a.0.rest a.0.value s (local_of to_semicolon to_semicolon_follows) a.1 k) a.2

-- The statements of a text.

-- A statement that adds no component.
other : {A : Type 0} (reader : Reader A) (text : List ℕ) (l m : Lexed) (s s' : DocParts) (k : A → DocParts) → Local reader → ((x : A) → (k x).components ≡ s.components) → Read text l s.components
    → (reader l >>= λ x. taken (k x.value) x.rest) ≡ taken s' m → Read text m s'.components
other reader text l m s s' k local kept r e =
    let a = bind_ok (reader l) _ _ e in
    let f = ok_is (k a.0.value) a.0.rest s' m a.2 in
    same_components text m a.0.rest s.components s'.components (sym (kept a.0.value) ∙ ap (λ (z : DocParts). z.components) f.0) f.1 (moved reader text l a.0.rest a.0.value s.components local a.1 r)

section_case : (text : List ℕ) (l m : Lexed) (s s' : DocParts) → Read text l s.components → (components s.components l >>= λ x. taken (record s { components = x.value }) x.rest) ≡ taken s' m → Read text m s'.components
section_case text l m s s' r e =
    let a = bind_ok (components s.components l) _ _ e in
    let f = ok_is (record s { components = a.0.value }) a.0.rest s' m a.2 in
    same_components text m a.0.rest a.0.value s'.components (ap (λ (z : DocParts). z.components) f.0) f.1 (components_read text l a.0.rest s.components a.0.value r a.1)

body_case : (a b c d e : Bool) (text : List ℕ) (l m : Lexed) (s s' : DocParts) (t : Lexeme) → Read text l s.components
    → cond {A = Result (ReadValue DocParts) ReadFault} a (with_row s.rows l >>= λ x. taken (record s { rows = x.value }) x.rest) (cond b (regions s.regions l >>= λ x. taken (record s { regions = x.value }) x.rest) (cond c (groups s.groups l >>= λ x. taken (record s { groups = x.value }) x.rest)
    (cond d (components s.components l >>= λ x. taken (record s { components = x.value }) x.rest) (cond e (blockages s.blockages l >>= λ x. taken (record s { blockages = x.value }) x.rest) (skip_from t l >>= λ x. taken s x.rest))))) ≡ taken s' m → Read text m s'.components
body_case true b c d e text l m s s' t r h = other (with_row s.rows) text l m s s' (λ x. record s { rows = x }) (local_of (with_row s.rows) (with_row_follows s.rows)) (λ x. refl) r h
body_case false true c d e text l m s s' t r h = other (regions s.regions) text l m s s' (λ x. record s { regions = x }) (local_of (regions s.regions) (regions_alike s.regions s.regions refl)) (λ x. refl) r h
body_case false false true d e text l m s s' t r h = other (groups s.groups) text l m s s' (λ x. record s { groups = x }) (local_of (groups s.groups) (groups_alike s.groups s.groups refl)) (λ x. refl) r h
body_case false false false true e text l m s s' t r h = section_case text l m s s' r h
body_case false false false false true text l m s s' t r h = other (blockages s.blockages) text l m s s' (λ x. record s { blockages = x }) (local_of (blockages s.blockages) (blockages_alike s.blockages s.blockages refl)) (λ x. refl) r h
body_case false false false false false text l m s s' t r h = other (skip_from t) text l m s s' (λ x. s) (local_of (skip_from t) (passed_follows t t refl)) (λ x. refl) r h

body_read : (text : List ℕ) (l m : Lexed) (s s' : DocParts) (t : Lexeme) → Read text l s.components → body_statement s t l ≡ taken s' m → Read text m s'.components
unfolding body_statement
body_read text l m s s' t r h = body_case (is (codes "ROW") t) (is (codes "REGIONS") t) (is (codes "GROUPS") t) (is (codes "COMPONENTS") t) (is (codes "BLOCKAGES") t) text l m s s' t r h

from_case : (a b : Bool) (text : List ℕ) (l m : Lexed) (s : DocParts) (v : Turn DocParts) (t : Lexeme) → Read text l s.components
    → cond {A = Result (ReadValue (Turn DocParts)) ReadFault} a (end_design s l >>= λ x. taken (turn s false) x.rest) (cond b (header_statement s.header t l >>= λ x. taken (turn (record s { header = x.value }) true) x.rest) (body_statement s t l >>= λ x. taken (turn x.value true) x.rest)) ≡ taken v m
    → Read text m v.state.components
from_case true b text l m s v t r h =
    let a = bind_ok (end_design s l) _ _ h in
    let f = ok_is (turn s false) a.0.rest v m a.2 in
    same_components text m a.0.rest s.components v.state.components (ap (λ (z : Turn DocParts). z.state.components) f.0) f.1 (moved (end_design s) text l a.0.rest a.0.value s.components (local_of (end_design s) (end_design_follows s)) a.1 r)
from_case false true text l m s v t r h =
    let a = bind_ok (header_statement s.header t l) _ _ h in
    let f = ok_is (turn (record s { header = a.0.value }) true) a.0.rest v m a.2 in
    same_components text m a.0.rest s.components v.state.components (ap (λ (z : Turn DocParts). z.state.components) f.0) f.1 (moved (header_statement s.header t) text l a.0.rest a.0.value s.components (local_of (header_statement s.header t) (header_follows s.header t t refl)) a.1 r)
from_case false false text l m s v t r h =
    let a = bind_ok (body_statement s t l) _ _ h in
    let f = ok_is (turn a.0.value true) a.0.rest v m a.2 in
    same_components text m a.0.rest a.0.value.components v.state.components (ap (λ (z : Turn DocParts). z.state.components) f.0) f.1 (body_read text l a.0.rest s a.0.value t r a.1)

statement_read : (text : List ℕ) (l m : Lexed) (s : DocParts) (v : Turn DocParts) → Read text l s.components → def_statement s l ≡ taken v m → Read text m v.state.components
unfolding def_statement def_statement_from
statement_read text l m s v r e =
    let a = token_ok l _ _ e in
    from_case (is (codes "END") a.0) (is_header a.0) text a.1 m s v a.0 (token_moved text l a.1 a.0 s.components a.2 r) a.3

statements_by : (n : ℕ) (text : List ℕ) (m : Lexed) (y : DocParts) (v : Turn DocParts) (rest : Lexed) → Read text rest v.state.components → (statements def_statement n v.state rest ≡ taken y m → Read text m y.components)
    → (more : Bool) → cond more (statements def_statement n v.state rest) (taken v.state rest) ≡ taken y m → Read text m y.components
statements_by n text m y v rest k next true e = next e
statements_by n text m y v rest k next false e = let d = ok_is v.state rest y m e in same_components text m rest v.state.components y.components (ap (λ (z : DocParts). z.components) d.0) d.1 k

all_statements : (n : ℕ) (text : List ℕ) (l m : Lexed) (s y : DocParts) → Read text l s.components → statements def_statement n s l ≡ taken y m → Read text m y.components
unfolding statements
all_statements zero text l m s y k e = absurd cc
all_statements (suc n) text l m s y k e =
    let a = bind_ok (def_statement s l) _ _ e in
    let k' = statement_read text l a.0.rest s a.0.value k a.1 in
    statements_by n text m y a.0.value a.0.rest k' (λ f. all_statements n text a.0.rest m a.0.value.state y k' f) a.0.value.more a.2

pub components_rise : (text : List ℕ) → ComponentsAreInTextOrder text
components_rise text d e =
    let s = said (block def_statement no_parts (tokens_of text)) d e in
    let start : Read text (tokens_of text) [] = record { high = 0; at = 0; before = omega arith; within = omega arith; rising = omega arith; rest = slices_from text 0 0 0 1 text refl (omega arith) } in
    let r = all_statements _ text (tokens_of text) s.rest no_parts s.parts start s.read in
    rw (ap (λ (z : Document). z.components) s.gives) at (wider 0 r.high (length text) s.parts.components r.rising r.within)
