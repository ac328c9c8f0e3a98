-- The statements of a text take a run of tokens, and read alike from tokens that differ only in
-- their places. They leave what follows END LIBRARY.
use Rattle.std.proofs.Common.{◌≡◌, ℕ, zero, suc, ◌<◌, Bool, true, false, ◌||◌, cond, List, [], ◌∷◌, length, map, Option, Some, None, Result, Ok, Err, refl, ap}
use Rattle.std.proofs.Common.{sym, ◌∙◌}
use Rattle.std.specs.Prelude.{codes, nat_le}
use Rattle.std.specs.Str.{bytes_eq}
use Rattle.lf_names.specs.Names.{position_of}
use Rattle.lf_lex.specs.declared.tokens.LexFault.{LexFault}
use Rattle.lf_lex.specs.declared.fault.FaultNumber.TheVariants.{TooMany}
use Rattle.lf_lex.specs.declared.fault.ReadFault.{ReadFault}
use Rattle.lf_lex.specs.Tokens.{Lexed, Lexeme, plain, with_tokens, tokens_of, tokens_from}
use Rattle.lf_lex.specs.Reading.{◌>>=◌, ReadValue, Turn, Statement, taken, turn, fault_at, token, first_token, next_of, end_or_fault, lexed_after, is, name, end_name}
use Rattle.lf_lex.specs.Reading.{statements, block, value_of}
use Rattle.lf_lex.proofs.Runs.{Follows, Goes, same, bind, choose, given, pure, token_follows, takes_one, block_follows, same_run, ok_is, alike_states}
use Rattle.lf_lex.proofs.Following.{text_alike, is_alike, name_follows, end_name_follows, to_semicolon_follows, to_word_follows, named_end}
use Rattle.lf_lef.specs.declared.sites.SiteParts.{SiteParts}
use Rattle.lf_lef.specs.declared.macros.MacroParts.{MacroParts}
use Rattle.lf_lef.specs.Contents.{Contents, site_names, macro_names}
use Rattle.lf_lef.specs.Sites.{site_parts, no_site_parts, site_of}
use Rattle.lf_lef.specs.Macros.{macro_parts, no_macro_parts, macro_from_parts}
use Rattle.lf_lef.specs.Library.{room_for, with_first, with_site, with_macro, is_named, is_group, to_named_end, skip_lef_from, lef_statement_from, statement_or_end}
use Rattle.lf_lef.specs.Library.{lef_statement, library}
use Rattle.lf_lef.specs.Laws.{UnreadLefBytesDoNotMatter}
use Rattle.lf_lef.proofs.Following.{site_statements_follow, macro_statements_follow}
use Rattle.lf_lex.proofs.Cutting.{cut_tokens, split_tokens}

room_test : (full : Bool) (line line' : ℕ) (v : Unit {0}) → ◌≡◌ {A = Result (Unit {0}) ReadFault} (cond full (fault_at TooMany line) (Ok tt)) (Ok v)
    → ◌≡◌ {A = Result (Unit {0}) ReadFault} (cond full (fault_at TooMany line') (Ok tt)) (Ok v)
room_test true line line' v e = absurd cc
room_test false line line' v e = e

room_of : (known : Option ℕ) (count : ℕ) (t t' : Lexeme) (v : Unit {0}) → room_for known count t ≡ Ok v → room_for known count t' ≡ Ok v
room_of (Some at) count t t' v e = e
room_of None count t t' v e = room_test (nat_le 1000000 count) t.line t'.line v e

room_moved : (known known' : Option ℕ) (count : ℕ) (t t' : Lexeme) (v : Unit {0}) → known' ≡ known → room_for known count t ≡ Ok v
    → room_for known' count t' ≡ Ok v
room_moved known known' count t t' v e h = rw e (room_of known count t t' v h)

room_again : (names : List (List ℕ)) (count : ℕ) (t t' : Lexeme) → plain t' ≡ plain t → (v : Unit {0}) → room_for (position_of names t.text) count t ≡ Ok v
    → room_for (position_of names t'.text) count t' ≡ Ok v
room_again names count t t' e v h = room_moved (position_of names t.text) (position_of names t'.text) count t t' v
    (ap (λ (x : List ℕ). position_of names x) (text_alike t t' e)) h

-- The library with one more site, or one more macro.
abbrev pub site_added : Contents → List ℕ → SiteParts → Contents
site_added c n parts = record c { sites = with_first (position_of (site_names c.sites) n) c.sites (site_of n parts) }

abbrev pub macro_added : Contents → List ℕ → MacroParts → Contents
macro_added c n parts = record c { macros = with_first (position_of (macro_names c.macros) n) c.macros (macro_from_parts n parts) }

site_alike : (c : Contents) (n n' : List ℕ) (p p' : SiteParts) → n' ≡ n → p' ≡ p → site_added c n' p' ≡ site_added c n p
site_alike c n n' p p' e f = ap (λ (x : List ℕ). site_added c x p') e ∙ ap (λ (x : SiteParts). site_added c n x) f

macro_alike : (c : Contents) (n n' : List ℕ) (p p' : MacroParts) → n' ≡ n → p' ≡ p → macro_added c n' p' ≡ macro_added c n p
macro_alike c n n' p p' e f = ap (λ (x : List ℕ). macro_added c x p') e ∙ ap (λ (x : MacroParts). macro_added c n x) f

named_site : (n n' : List ℕ) → n' ≡ n → Follows same (site_parts n) (site_parts n')
named_site n n' e = rw e (site_statements_follow n no_site_parts)

named_macro : (n n' : List ℕ) → n' ≡ n → Follows same (macro_parts n) (macro_parts n')
named_macro n n' e = rw e (macro_statements_follow n no_macro_parts)

with_site_follows : (c : Contents) → Follows same (with_site c) (with_site c)
unfolding with_site
with_site_follows c =
    bind plain same name name _ _ name_follows (λ n n' e.
    given same (room_for (position_of (site_names c.sites) n.text) (length c.sites) n)
    (room_for (position_of (site_names c.sites) n'.text) (length c.sites) n') _ _ (room_again (site_names c.sites) (length c.sites) n n' e) (λ v.
    bind same same (site_parts n.text) (site_parts n'.text) _ _ (named_site n.text n'.text (text_alike n n' e))
    (λ p p' ep. pure same (site_added c n.text p) (site_added c n'.text p') (site_alike c n.text n'.text p p' (text_alike n n' e) ep))))

with_macro_follows : (c : Contents) → Follows same (with_macro c) (with_macro c)
unfolding with_macro
with_macro_follows c =
    bind plain same name name _ _ name_follows (λ n n' e.
    given same (room_for (position_of (macro_names c.macros) n.text) (length c.macros) n)
    (room_for (position_of (macro_names c.macros) n'.text) (length c.macros) n') _ _ (room_again (macro_names c.macros) (length c.macros) n n' e) (λ v.
    bind same same (macro_parts n.text) (macro_parts n'.text) _ _ (named_macro n.text n'.text (text_alike n n' e))
    (λ p p' ep. pure same (macro_added c n.text p) (macro_added c n'.text p') (macro_alike c n.text n'.text p p' (text_alike n n' e) ep))))

to_named_end_follows : Follows same to_named_end to_named_end
unfolding to_named_end
to_named_end_follows = bind plain same name name _ _ name_follows (λ n n' e. named_end n.text n'.text (text_alike n n' e))

abbrev named_text : List ℕ → Bool
named_text x = bytes_eq x (codes "LAYER") || bytes_eq x (codes "VIA") || bytes_eq x (codes "VIARULE") || bytes_eq x (codes "NONDEFAULTRULE") || bytes_eq x
    (codes "ARRAY")

abbrev group_text : List ℕ → Bool
group_text x = bytes_eq x (codes "UNITS") || bytes_eq x (codes "PROPERTYDEFINITIONS") || bytes_eq x (codes "SPACING") || bytes_eq x
    (codes "IRDROP") || bytes_eq x (codes "NOISETABLE") || bytes_eq x (codes "CORRECTIONTABLE")

passed_from_follows : (t t' : Lexeme) → plain t' ≡ plain t → Follows same (skip_lef_from t) (skip_lef_from t')
unfolding skip_lef_from
passed_from_follows t t' e =
    choose same (is_named t) (is_named t') _ _ _ _ (ap (λ (x : List ℕ). named_text x) (text_alike t t' e)) to_named_end_follows
    (choose same (is_group t) (is_group t') _ _ _ _ (ap (λ (x : List ℕ). group_text x) (text_alike t t' e)) (named_end t.text t'.text (text_alike t t' e))
    (choose same (is (codes "BEGINEXT") t) (is (codes "BEGINEXT") t') _ _ _ _ (is_alike (codes "BEGINEXT") t t' e) (to_word_follows (codes "ENDEXT"))
    (choose same (is (codes ";") t) (is (codes ";") t') _ _ _ _ (is_alike (codes ";") t t' e) (pure same _ _ refl)
    to_semicolon_follows)))

pub statement_from_follows : (c : Contents) (t t' : Lexeme) → plain t' ≡ plain t → Follows same (lef_statement_from c t) (lef_statement_from c t')
unfolding lef_statement_from
statement_from_follows c t t' e =
    choose same (is (codes "END") t) (is (codes "END") t') _ _ _ _ (is_alike (codes "END") t t' e)
    (bind same same (end_name (codes "LIBRARY")) (end_name (codes "LIBRARY")) _ _ (end_name_follows (codes "LIBRARY"))
    (λ x x' ex. pure same (turn c false) (turn c false) refl))
    (choose same (is (codes "SITE") t) (is (codes "SITE") t') _ _ _ _ (is_alike (codes "SITE") t t' e)
    (bind same same (with_site c) (with_site c) _ _ (with_site_follows c)
    (λ x x' ex. pure same (turn x true) (turn x' true) (ap (λ (z : Contents). turn z true) ex)))
    (choose same (is (codes "MACRO") t) (is (codes "MACRO") t') _ _ _ _ (is_alike (codes "MACRO") t t' e)
    (bind same same (with_macro c) (with_macro c) _ _ (with_macro_follows c)
    (λ x x' ex. pure same (turn x true) (turn x' true) (ap (λ (z : Contents). turn z true) ex)))
    (bind same same (skip_lef_from t) (skip_lef_from t') _ _ (passed_from_follows t t' e) (λ x x' ex. pure same (turn c true) (turn c true) refl))))

-- A statement that is due.

-- A statement, in a text that may not end here.
unfoldable pub due_statement : Statement Contents
due_statement c l = do
  t ← token l
  lef_statement_from c t.value t.rest

pub due_statement_follows : (c : Contents) → Follows same (due_statement c) (due_statement c)
unfolding due_statement
due_statement_follows c = bind plain same token token _ _ token_follows (λ t t' e. statement_from_follows c t t' e)

due_statement_goes : Goes due_statement
unfolding due_statement
due_statement_goes c c1 l m e = takes_one same _ _ l m (turn c1 true) (λ t. statement_from_follows c t t refl) e

pub due_statements_follow : (c : Contents) → Follows same (block due_statement c) (block due_statement c)
due_statements_follow c = block_follows same due_statement (alike_states due_statement due_statement_follows) due_statement_goes c c refl

-- If a token is left, the two statements are the same.
pub with_token_left : (c : Contents) (l : Lexed) (t : Lexeme) (ts : List Lexeme) → l.tokens ≡ t ∷ ts → lef_statement c l ≡ due_statement c l
unfolding lef_statement due_statement
with_token_left c l t ts e = rw e refl

at_end : (c : Contents) (l m : Lexed) (x : Turn Contents) (f : Option LexFault) → (end_or_fault f l >>= λ t. statement_or_end c t.value t.rest) ≡ taken x m
    → (x ≡ turn c false) × (m ≡ l)
at_end c l m x None e = let r = ok_is (turn c false) l x m e in (sym r.0, sym r.1)
at_end c l m x (Some f) e = absurd cc

none_of : (c : Contents) (l m : Lexed) (x : Turn Contents) (ts : List Lexeme) → ts ≡ [] → (next_of ts l >>= λ t. statement_or_end c t.value t.rest) ≡ taken x m
    → (x ≡ turn c false) × (m ≡ l)
none_of c l m x [] e h = at_end c l m x l.fault h
none_of c l m x (t ∷ ts) e h = absurd cc

-- If no token is left, the library ends.
no_token_left : (c : Contents) (l m : Lexed) (x : Turn Contents) → l.tokens ≡ [] → lef_statement c l ≡ taken x m → (x ≡ turn c false) × (m ≡ l)
unfolding lef_statement
no_token_left c l m x e h = none_of c l m x l.tokens e h

not_last : true ≡ false → ⊥
not_last e = cc

goes_with : (c c1 : Contents) (l m : Lexed) (ts : List Lexeme) → l.tokens ≡ ts → lef_statement c l ≡ taken (turn c1 true) m → length m.tokens < length l.tokens
goes_with c c1 l m [] e h = let r = no_token_left c l m (turn c1 true) e h in absurd (not_last (ap (λ (x : Turn Contents). x.more) r.0))
goes_with c c1 l m (t ∷ ts) e h = due_statement_goes c c1 l m (sym (with_token_left c l t ts e) ∙ h)

pub statement_goes : Goes lef_statement
statement_goes c c1 l m h = goes_with c c1 l m l.tokens refl h

-- The tokens after END LIBRARY.

nothing_left : (l m : Lexed) → l.tokens ≡ [] → m ≡ l → m.tokens ≡ []
nothing_left l m e f = ap (λ (x : Lexed). x.tokens) f ∙ e

ended : (t : Turn Contents) → t.more ≡ false → (a b v : Result (ReadValue Contents) ReadFault) → cond t.more a b ≡ v → b ≡ v
ended t e a b v h = rw e at h

due_rest : (n : ℕ) (c' : Contents) (m : Lexed) → (m.tokens ≡ [] → ⊥)
    → ((s : Contents) (k : Lexed) → statements lef_statement n s k ≡ taken c' m → statements due_statement n s k ≡ taken c' m)
    → (more : Bool) (s : Contents) (k : Lexed) → cond more (statements lef_statement n s k) (taken s k) ≡ taken c' m
    → cond more (statements due_statement n s k) (taken s k) ≡ taken c' m
due_rest n c' m left later true s k f = later s k f
due_rest n c' m left later false s k f = f

due_turn : (n : ℕ) (c c' : Contents) (l m : Lexed) → (m.tokens ≡ [] → ⊥)
    → ((s : Contents) (k : Lexed) → statements lef_statement n s k ≡ taken c' m → statements due_statement n s k ≡ taken c' m)
    → (ts : List Lexeme) → l.tokens ≡ ts → (o : Result (ReadValue (Turn Contents)) ReadFault) → lef_statement c l ≡ o
    → (o >>= λ t. cond t.value.more (statements lef_statement n t.value.state t.rest) (taken t.value.state t.rest)) ≡ taken c' m
    → (due_statement c l >>= λ t. cond t.value.more (statements due_statement n t.value.state t.rest) (taken t.value.state t.rest)) ≡ taken c' m
due_turn n c c' l m left later ts e (Err q) h f = absurd cc
due_turn n c c' l m left later [] e (Ok t) h f =
    let r = no_token_left c l t.rest t.value e h in
    let last = ok_is t.value.state t.rest c' m (ended t.value (ap (λ (x : Turn Contents). x.more) r.0) (statements lef_statement n t.value.state t.rest)
    (taken t.value.state t.rest) (taken c' m) f) in
    absurd (left (nothing_left l m e (sym last.1 ∙ r.1)))
due_turn n c c' l m left later (u ∷ us) e (Ok t) h f = rw (sym (with_token_left c l u us e) ∙ h)
    (due_rest n c' m left later t.value.more t.value.state t.rest f)

-- If tokens are left at the end, each statement was due.
all_due : (n : ℕ) (c c' : Contents) (l m : Lexed) → (m.tokens ≡ [] → ⊥) → statements lef_statement n c l ≡ taken c' m → statements due_statement n c l ≡ taken c' m
unfolding statements
all_due zero c c' l m left h = absurd cc
all_due (suc n) c c' l m left h = due_turn n c c' l m left (λ s k f. all_due n s c' k m left f) l.tokens refl (lef_statement c l) refl h

short_of_token : (c : Contents) (l m : Lexed) (x : Turn Contents) (ts : List Lexeme) → ts ≡ []
    → (first_token ts l >>= λ t. lef_statement_from c t.value t.rest) ≡ taken x m → ⊥
short_of_token c l m x [] e h = absurd cc
short_of_token c l m x (t ∷ ts) e h = absurd cc

pub due_token : (c : Contents) (l m : Lexed) (x : Turn Contents) → l.tokens ≡ [] → due_statement c l ≡ taken x m → ⊥
unfolding due_statement
due_token c l m x e h = short_of_token c l m x l.tokens e h

plain_rest : (n : ℕ) (c' : Contents) (m : Lexed) → ((s : Contents) (k : Lexed) → statements due_statement n s k ≡ taken c' m
    → statements lef_statement n s k ≡ taken c' m)
    → (more : Bool) (s : Contents) (k : Lexed) → cond more (statements due_statement n s k) (taken s k) ≡ taken c' m
    → cond more (statements lef_statement n s k) (taken s k) ≡ taken c' m
plain_rest n c' m later true s k f = later s k f
plain_rest n c' m later false s k f = f

plain_turn : (n : ℕ) (c c' : Contents) (l m : Lexed) → ((s : Contents) (k : Lexed) → statements due_statement n s k ≡ taken c' m
    → statements lef_statement n s k ≡ taken c' m)
    → (ts : List Lexeme) → l.tokens ≡ ts → (o : Result (ReadValue (Turn Contents)) ReadFault) → due_statement c l ≡ o
    → (o >>= λ t. cond t.value.more (statements due_statement n t.value.state t.rest) (taken t.value.state t.rest)) ≡ taken c' m
    → (lef_statement c l >>= λ t. cond t.value.more (statements lef_statement n t.value.state t.rest) (taken t.value.state t.rest)) ≡ taken c' m
plain_turn n c c' l m later ts e (Err q) h f = absurd cc
plain_turn n c c' l m later [] e (Ok t) h f = absurd (due_token c l t.rest t.value e h)
plain_turn n c c' l m later (u ∷ us) e (Ok t) h f = rw (with_token_left c l u us e ∙ h) (plain_rest n c' m later t.value.more t.value.state t.rest f)

any_due : (n : ℕ) (c c' : Contents) (l m : Lexed) → statements due_statement n c l ≡ taken c' m → statements lef_statement n c l ≡ taken c' m
unfolding statements
any_due zero c c' l m h = absurd cc
any_due (suc n) c c' l m h = plain_turn n c c' l m (λ s k f. any_due n s c' k m f) l.tokens refl (due_statement c l) refl h

-- If tokens are left unread, any others may replace them.
pub unread : (c c' : Contents) (front : List Lexeme) (k k' : Lexed) → (k.tokens ≡ [] → ⊥) → library c (with_tokens front k) ≡ taken c' k
    → library c (with_tokens front k') ≡ taken c' k'
unread c c' front k k' left h =
    let due = all_due (suc (length (with_tokens front k).tokens)) c c' (with_tokens front k) k left h in
    let r = due_statements_follow c (with_tokens front k) k c' due in
    let a = r.again front (ap (λ (z : List Lexeme). map plain z) (same_run front r.run (with_tokens front k) k refl r.whole)) in
    any_due (suc (length (with_tokens front k').tokens)) c c' (with_tokens front k') k' (a.takes k' ∙ ap (λ (z : Contents). taken z k') a.alike)

not_empty : (t : Lexeme) (ts : List Lexeme) → ◌≡◌ {A = List Lexeme} (t ∷ ts) [] → ⊥
not_empty t ts e = cc

pub ends_before : (old new : Contents) (text : List ℕ) → UnreadLefBytesDoNotMatter old new text
ends_before old new text read t after e h bytes =
    let whole = split_tokens (tokens_of text) read (t ∷ after) e in
    let cut = cut_tokens text bytes read t after e in
    let r = unread old new read (lexed_after (t ∷ after) (tokens_of text)) (tokens_from 0 t.start t.line bytes) (not_empty t after)
    (sym (ap (λ (z : Lexed). library old z) whole) ∙ h) in
    ap (λ (z : Lexed). value_of (library old z)) cut ∙ ap (λ (z : Result (ReadValue Contents) ReadFault). value_of z) r
