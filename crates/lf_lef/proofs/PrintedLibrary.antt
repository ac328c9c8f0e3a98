-- Printed sites and macros are read back in texts, and skipped statements are ignored.
use Rattle.std.proofs.Common.{◌≡◌, ◌≢◌, ℕ, zero, suc, ◌<◌, Bool, true, false, cond, List, [], ◌∷◌, ◌++◌, All, map, length, ℤ, None, Result, Ok, Err, refl, sym}
use Rattle.std.proofs.Common.{ap, ◌∙◌, arith}
use Rattle.std.specs.Prelude.{codes, nat_le}
use Rattle.std.specs.Str.{bytes_eq}
use Rattle.std.proofs.lemmas.Bool.Decides.{nat_tests}
use Rattle.std.proofs.lemmas.List.Elements.{All-head, All-tail, All-from_recursion, recursion_from_All}
use Rattle.lf_orient.specs.declared.Symmetry.{Symmetry}
use Rattle.lf_orient.specs.declared.Rail.{Rail}
use Rattle.lf_names.specs.Names.{position_of}
use Rattle.lf_lex.specs.declared.tokens.TokenKind.TheVariants.{Word}
use Rattle.lf_lex.specs.declared.fault.ReadFault.{ReadFault}
use Rattle.lf_lex.specs.Tokens.{Lexed, Lexeme, PlainToken, plain, with_tokens}
use Rattle.lf_lex.specs.Splices.{plain_word}
use Rattle.lf_lex.specs.Passing.{OccurNowhere}
use Rattle.lf_lex.specs.Reading.{◌>>=◌, Reader, ReadValue, Turn, Statement, taken, turn, continues, name, to_end, to_word, statements}
use Rattle.lf_lex.proofs.Runs.{Goes, same, with_both}
use Rattle.lf_lex.proofs.Back.{BackAt, halves, token_with, at_bind, at_map, at_known}
use Rattle.lf_lex.proofs.BackWords.{text_is, not_eq, same_bytes, short_name_back, to_end_at, to_end_before, to_word_at}
use Rattle.lf_floorplan.specs.declared.sites.Site.{Site}
use Rattle.lf_floorplan.specs.declared.macros.Macro.{Macro}
use Rattle.lf_lef.specs.declared.sites.SiteParts.{SiteParts}
use Rattle.lf_lef.specs.declared.macros.MacroParts.{MacroParts}
use Rattle.lf_lef.specs.Contents.{Contents, site_names, macro_names}
use Rattle.lf_lef.specs.Sites.{site_parts, site_of, no_symmetry, no_site_parts}
use Rattle.lf_lef.specs.Macros.{no_macro_parts, macro_parts, macro_from_parts}
use Rattle.lf_lef.specs.Library.{with_site, with_macro, to_named_end, skip_lef_from, lef_statement_from, lef_statement, library}
use Rattle.lf_lef.specs.Printed.{Spells, IsPrintable, end_words, macro_words, pin_words, NamedGroup, layer, via, via_rule, rule, array, SkipsStatements}
use Rattle.lf_lef.specs.Printed.{site_words}
use Rattle.lf_lef.specs.Printed.{ReadsSite, ReadsMacro}
use Rattle.lf_lef.specs.Printed.{SkippedGroup, group_word, units, property_definitions, spacing, ir_drop, noise_table, correction_table, SkippedStatement, plain_statement}
use Rattle.lf_lef.specs.Printed.{named, grouped, extension, skipped_statement_tokens}
use Rattle.lf_lef.specs.Printed.{with_semicolon, IsSkippedToSemicolon, other_statements, IsWhole, tokens_after}
use Rattle.lf_lef.specs.PrintedMacros.{PrintedLength, PrintedPoint, IsPrintedPoint, PrintedRect, IsPrintedRect, port_rect, pin_use, pin_port, MacroStatement}
use Rattle.lf_lef.specs.PrintedMacros.{macro_origin, macro_size, macro_symmetry, macro_pin}
use Rattle.lf_lef.specs.PrintedMacros.{IsPortStatement, IsPinStatement, IsMacroStatement, macro_body_tokens, macro_tokens, with_statements, described_macro}
use Rattle.lf_lef.specs.PrintedMacros.{ReadsMacroOf}
use Rattle.lf_lef.specs.PrintedMacros.{SymmetryWord, about_x, about_y, with_symmetries}
use Rattle.lf_lef.specs.PrintedSites.{SiteStatement, site_class, site_symmetry, site_size, IsSiteStatement, site_body_tokens, site_tokens, with_site_statements}
use Rattle.lf_lef.specs.PrintedSites.{described_site, ReadsSiteOf}
use Rattle.lf_lef.proofs.Whole.{due_statement, due_token, with_token_left, statement_goes}
use Rattle.lf_lef.proofs.PrintedLengths.{passed_back}
use Rattle.lf_lef.proofs.PrintedSites.{site_parts_back}
use Rattle.lf_lef.proofs.PrintedMacros.{macro_parts_back}

has_room : (n : ℕ) → n < 1000000 → nat_le 1000000 n ≡ false
has_room n lt = grind (arith, nat_tests)

-- Skipped statements.

plain_due : (c : Contents) (ts : List PlainToken) → IsSkippedToSemicolon other_statements ts → BackAt same (due_statement c) (with_semicolon ts) (turn c true)
unfolding due_statement lef_statement_from skip_lef_from
plain_due c ts h =
    passed_back (lef_statement_from c) c other_statements ts h (λ t l. refl) (λ u d o t l.
    let w = recursion_from_All (λ w. u.text ≢ w) other_statements d in
    let sections = w.1.1.1.1.1.1.1.1 in
    rw (
      not_eq u.text (codes "END") w.0,
      not_eq u.text (codes "SITE") w.1.0,
      not_eq u.text (codes "MACRO") w.1.1.0,
      not_eq u.text (codes "LAYER") w.1.1.1.0,
      not_eq u.text (codes "VIA") w.1.1.1.1.0,
      not_eq u.text (codes "VIARULE") w.1.1.1.1.1.0,
      not_eq u.text (codes "NONDEFAULTRULE") w.1.1.1.1.1.1.0,
      not_eq u.text (codes "ARRAY") w.1.1.1.1.1.1.1.0,
      not_eq u.text (codes "UNITS") sections.0,
      not_eq u.text (codes "PROPERTYDEFINITIONS") sections.1.0,
      not_eq u.text (codes "SPACING") sections.1.1.0,
      not_eq u.text (codes "IRDROP") sections.1.1.1.0,
      not_eq u.text (codes "NOISETABLE") sections.1.1.1.1.0,
      not_eq u.text (codes "CORRECTIONTABLE") sections.1.1.1.1.1.0,
      not_eq u.text (codes "BEGINEXT") sections.1.1.1.1.1.1.0,
      not_eq u.text (codes ";") o,
    ) refl)

abbrev ToEndOf : List ℕ → List PlainToken → Type 0
ToEndOf name between = OccurNowhere (codes "END" ∷ name ∷ []) (between ++ plain_word (codes "END") ∷ [])

named_back : (n : List ℕ) (between : List PlainToken) → IsPrintable n → ToEndOf n between
    → BackAt same to_named_end (plain_word n ∷ (between ++ map plain_word (end_words n))) tt
unfolding to_named_end
named_back n between p h =
    at_bind plain same name _ (plain_word n ∷ []) (between ++ map plain_word (end_words n)) (token_with n) tt (short_name_back n p.word p.short) (λ t e.
    rw (text_is n t e) (to_end_before n (same_bytes n) between h))

-- A keyword after which tokens are skipped.
keyword_due : (c : Contents) (w : List ℕ) (r : Reader (Unit {0})) (vs : List PlainToken)
    → ((t : Lexeme) (l : Lexed) → lef_statement_from c (record t { text = w; kind = Word }) l ≡ (r l >>= λ stop. continues c stop.rest)) → BackAt same r vs tt
    → BackAt same (due_statement c) (plain_word w ∷ vs) (turn c true)
unfolding due_statement
keyword_due c w r vs is_read back =
    at_known same (lef_statement_from c) (λ l. r l >>= λ stop. continues c stop.rest) (plain_word w) vs (turn c true) is_read
    (at_map same same r (λ (z : Unit {0}). turn c true) vs tt (turn c true) back (λ z e. refl))

named_due : (c : Contents) (keyword : NamedGroup) (n : List ℕ) (between : List PlainToken) → IsPrintable n → ToEndOf n between
    → BackAt same (due_statement c) (skipped_statement_tokens (named keyword n between)) (turn c true)
unfolding lef_statement_from skip_lef_from
named_due c layer n between p h = keyword_due c (codes "LAYER") to_named_end (plain_word n ∷ (between ++ map plain_word (end_words n))) (λ t l. refl)
    (named_back n between p h)
named_due c via n between p h = keyword_due c (codes "VIA") to_named_end (plain_word n ∷ (between ++ map plain_word (end_words n))) (λ t l. refl)
    (named_back n between p h)
named_due c via_rule n between p h = keyword_due c (codes "VIARULE") to_named_end (plain_word n ∷ (between ++ map plain_word (end_words n))) (λ t l. refl)
    (named_back n between p h)
named_due c rule n between p h = keyword_due c (codes "NONDEFAULTRULE") to_named_end (plain_word n ∷ (between ++ map plain_word (end_words n))) (λ t l. refl)
    (named_back n between p h)
named_due c array n between p h = keyword_due c (codes "ARRAY") to_named_end (plain_word n ∷ (between ++ map plain_word (end_words n))) (λ t l. refl)
    (named_back n between p h)

group_by : (c : Contents) (w : List ℕ) (between : List PlainToken) → bytes_eq (codes "END") w ≡ false → OccurNowhere (codes "END" ∷ w ∷ []) between
    → ((t : Lexeme) (l : Lexed) → lef_statement_from c (record t { text = w; kind = Word }) l ≡ (to_end w l >>= λ stop. continues c stop.rest))
    → BackAt same (due_statement c) (plain_word w ∷ (between ++ map plain_word (end_words w))) (turn c true)
group_by c w between other h is_read = keyword_due c w (to_end w) (between ++ map plain_word (end_words w)) is_read (to_end_at w (same_bytes w) other between h)

group_due : (c : Contents) (keyword : SkippedGroup) (between : List PlainToken) → OccurNowhere (codes "END" ∷ group_word keyword ∷ []) between
    → BackAt same (due_statement c) (skipped_statement_tokens (grouped keyword between)) (turn c true)
unfolding lef_statement_from skip_lef_from
group_due c units between h = group_by c (codes "UNITS") between refl h (λ t l. refl)
group_due c property_definitions between h = group_by c (codes "PROPERTYDEFINITIONS") between refl h (λ t l. refl)
group_due c spacing between h = group_by c (codes "SPACING") between refl h (λ t l. refl)
group_due c ir_drop between h = group_by c (codes "IRDROP") between refl h (λ t l. refl)
group_due c noise_table between h = group_by c (codes "NOISETABLE") between refl h (λ t l. refl)
group_due c correction_table between h = group_by c (codes "CORRECTIONTABLE") between refl h (λ t l. refl)

extension_due : (c : Contents) (between : List PlainToken) → OccurNowhere (codes "ENDEXT" ∷ []) between
    → BackAt same (due_statement c) (skipped_statement_tokens (extension between)) (turn c true)
unfolding lef_statement_from skip_lef_from
extension_due c between h =
    keyword_due c (codes "BEGINEXT") (to_word (codes "ENDEXT")) (between ++ plain_word (codes "ENDEXT") ∷ []) (λ t l. refl)
    (to_word_at (codes "ENDEXT") refl between h)

whole_due : (c : Contents) (p : SkippedStatement) → IsWhole p → BackAt same (due_statement c) (skipped_statement_tokens p) (turn c true)
whole_due c (plain_statement tokens) h = plain_due c tokens h
whole_due c (named keyword n between) h = named_due c keyword n between h.0 h.1
whole_due c (grouped keyword between) h = group_due c keyword between h
whole_due c (extension between) h = extension_due c between h

-- Whole texts.

when_due : (c : Contents) (l m : Lexed) (x : Turn Contents) (ts : List Lexeme) → l.tokens ≡ ts → due_statement c l ≡ taken x m → lef_statement c l ≡ taken x m
when_due c l m x [] e h = absurd (due_token c l m x e h)
when_due c l m x (t ∷ ts) e h = with_token_left c l t ts e ∙ h

same_rest : {S : Type 0} (one : Statement S) (n n' : ℕ) (more : Bool) (s : S) (k : Lexed) → (more ≡ true → statements one n s k ≡ statements one n' s k)
    → cond more (statements one n s k) (taken s k) ≡ cond more (statements one n' s k) (taken s k)
same_rest one n n' true s k later = later refl
same_rest one n n' false s k later = refl

same_from : {S : Type 0} (one : Statement S) → Goes one → (n n' : ℕ) (s : S) (l : Lexed) → length l.tokens < suc n → length l.tokens < suc n'
    → ((s : S) (k : Lexed) → length k.tokens < n → length k.tokens < n' → statements one n s k ≡ statements one n' s k)
    → (o : Result (ReadValue (Turn S)) ReadFault) → one s l ≡ o
    → (o >>= λ t. cond t.value.more (statements one n t.value.state t.rest) (taken t.value.state t.rest)) ≡ (o >>= λ t.
    cond t.value.more (statements one n' t.value.state t.rest) (taken t.value.state t.rest))
same_from one goes n n' s l lt lt' later (Err e) h = refl
same_from one goes n n' s l lt lt' later (Ok t) h =
    same_rest one n n' t.value.more t.value.state t.rest (λ more.
    let shorter = goes s t.value.state l t.rest (h ∙ ap (λ (b : Bool). taken (turn t.value.state b) t.rest) more) in
    later t.value.state t.rest (omega (arith, shorter, lt)) (omega (arith, shorter, lt')))

-- The bound on turns does not matter if it is large enough.
same_turns : {S : Type 0} (one : Statement S) → Goes one → (n n' : ℕ) (s : S) (l : Lexed) → length l.tokens < n → length l.tokens < n'
    → statements one n s l ≡ statements one n' s l
unfolding statements
same_turns one goes zero n' s l lt lt' = absurd (omega arith)
same_turns one goes (suc n) zero s l lt lt' = absurd (omega arith)
same_turns one goes (suc n) (suc n') s l lt lt' = same_from one goes n n' s l lt lt' (λ s k. same_turns one goes n n' s k) (one s l) refl

library_turn : (c c' : Contents) (l k : Lexed) → lef_statement c l ≡ taken (turn c' true) k → library c l ≡ library c' k
unfolding statements
library_turn c c' l k h =
    let shorter = statement_goes c c' l k h in
    rw h (same_turns lef_statement statement_goes (length l.tokens) (suc (length k.tokens)) c' k shorter (omega arith))

-- A statement with these tokens is read, whatever follows.
library_step : (c c' : Contents) (ts : List PlainToken) (p : List Lexeme) (k : Lexed) → BackAt same (due_statement c) ts (turn c' true) → Spells p ts
    → library c (with_tokens p k) ≡ library c' k
library_step c c' ts p k back e =
    let a = back p e in
    library_turn c c' (with_tokens p k) k (when_due c (with_tokens p k) k (turn c' true) (with_tokens p k).tokens refl
    (a.takes k ∙ ap (λ (z : Turn Contents). taken z k) a.alike))

pass_all : (ps : List SkippedStatement) (c : Contents) (ts : List PlainToken) (p : List Lexeme) (k : Lexed) (r : Result (ReadValue Contents) ReadFault) → All IsWhole ps
    → Spells p (tokens_after ps ts)
    → ((q : List Lexeme) → Spells q ts → library c (with_tokens q k) ≡ r) → library c (with_tokens p k) ≡ r
pass_all [] c ts p k r h e final = final p e
pass_all (first ∷ ps) c ts p k r h e final =
    let cut = halves p (skipped_statement_tokens first) (tokens_after ps ts) e in
    ap (λ (z : List Lexeme). library c (with_tokens z k)) cut.whole ∙ ap (λ (z : Lexed). library c z) (with_both cut.front cut.back k)
    ∙ library_step c c (skipped_statement_tokens first) cut.front (with_tokens cut.back k) (whole_due c first (All-head IsWhole first ps h)) cut.front_is
    ∙ pass_all ps c ts cut.back k r (All-tail IsWhole first ps h) cut.back_is final

nothing_spelled : (q : List Lexeme) (k : Lexed) → Spells q [] → with_tokens q k ≡ k
nothing_spelled [] k e = refl
nothing_spelled (t ∷ q) k e = absurd cc

pub skips_statements : (c : Contents) → SkipsStatements c
skips_statements c ps p k h e = pass_all ps c [] p k (library c k) h e (λ q eq. ap (λ (z : Lexed). library c z) (nothing_spelled q k eq))

-- X and Y, if the symmetry has them.
abbrev said_words : Symmetry → List SymmetryWord
said_words s = cond s.x (about_x ∷ []) [] ++ cond s.y (about_y ∷ []) []

words_say : (a b : Bool) → ◌≡◌ {A = Symmetry} (with_symmetries no_symmetry (said_words (record { x = a; y = b }))) (record { x = a; y = b })
words_say true true = refl
words_say true false = refl
words_say false true = refl
words_say false false = refl

-- Sites.

abbrev with_one : Contents → Site → Contents
with_one c s = record c { sites = c.sites ++ s ∷ [] }

with_site_back : (c : Contents) (n : List ℕ) (xs : List SiteStatement) → IsPrintable n → All IsSiteStatement xs → position_of (site_names c.sites) n ≡ None
    → length c.sites < 1000000
    → BackAt same (with_site c) (plain_word n ∷ site_body_tokens n xs) (with_one c (described_site n xs))
unfolding with_site
with_site_back c n xs h hs fresh room =
    let v = with_one c (described_site n xs) in
    at_bind plain same name _ (plain_word n ∷ []) (site_body_tokens n xs) (token_with n) v (short_name_back n h.word h.short) (λ t e.
    rw (text_is n t e, fresh, has_room (length c.sites) room)
    (at_map same same (site_parts n) (λ (z : SiteParts). with_one c (site_of n z)) (site_body_tokens n xs) (with_site_statements no_site_parts xs) v
    (site_parts_back n xs hs)
    (λ z e. ap (λ (x : SiteParts). with_one c (site_of n x)) e)))

site_due : (c : Contents) (n : List ℕ) (xs : List SiteStatement) → IsPrintable n → All IsSiteStatement xs → position_of (site_names c.sites) n ≡ None
    → length c.sites < 1000000
    → BackAt same (due_statement c) (site_tokens n xs) (turn (with_one c (described_site n xs)) true)
unfolding due_statement lef_statement_from
site_due c n xs h hs fresh room =
    let v = with_one c (described_site n xs) in
    let after_it = plain_word n ∷ site_body_tokens n xs in
    at_known same (lef_statement_from c) (λ l. with_site c l >>= λ new. continues new.value new.rest) (plain_word (codes "SITE")) after_it (turn v true) (λ t l. refl)
    (at_map same same (with_site c) (λ (z : Contents). turn z true) after_it v (turn v true) (with_site_back c n xs h hs fresh room)
    (λ z e. ap (λ (x : Contents). turn x true) e))

-- A site that is printed by any statements is read back.
pub reads_site_of : (c : Contents) (s : Site) (xs : List SiteStatement) → ReadsSiteOf c s xs
reads_site_of c s xs ps p k hp hn hs said fresh room e =
    pass_all ps c (site_tokens s.name xs) p k (library (with_one c s) k) hp e (λ q eq.
    library_step c (with_one c (described_site s.name xs)) (site_tokens s.name xs) q k (site_due c s.name xs hn hs fresh room) eq
    ∙ ap (λ (z : Site). library (with_one c z) k) said)

-- CLASS, SYMMETRY and SIZE.

abbrev one_site : List ℕ → Symmetry → PrintedLength → PrintedLength → List SiteStatement
one_site class y w h = site_class class ∷ site_symmetry (said_words y) ∷ site_size w h ∷ []

site_words_are : (n class w h : List ℕ) (sx sy : ℤ) (a b : Bool)
    → map plain_word (site_words n class (record { x = a; y = b }) w h)
    ≡ site_tokens n (one_site class (record { x = a; y = b }) (record { word = w; length = sx }) (record { word = h; length = sy }))
site_words_are n class w h sx sy true true = refl
site_words_are n class w h sx sy true false = refl
site_words_are n class w h sx sy false true = refl
site_words_are n class w h sx sy false false = refl

site_is : (s : Site) (core : Bool) (y : Symmetry) → core ≡ s.core → y ≡ s.symmetry → record s { core = core; symmetry = y } ≡ s
site_is s core y e f = ap (λ (b : Bool). record s { core = b; symmetry = y }) e ∙ ap (λ (z : Symmetry). record s { symmetry = z }) f

pub reads_site : (c : Contents) (s : Site) → ReadsSite c s
reads_site c s ps class w h p k hp hn hc core hw hh fresh room e =
    let width : PrintedLength = record { word = w; length = s.size.x } in
    let height : PrintedLength = record { word = h; length = s.size.y } in
    let xs = one_site class s.symmetry width height in
    let all : All IsSiteStatement xs = All-from_recursion IsSiteStatement xs (hc, (tt, ((hw, hh), tt))) in
    reads_site_of c s xs ps p k hp hn all (site_is s _ _ core (words_say s.symmetry.x s.symmetry.y)) fresh room
    (e ∙ ap (λ (z : List PlainToken). tokens_after ps z) (site_words_are s.name class w h s.size.x s.size.y s.symmetry.x s.symmetry.y))

-- Macros.

abbrev with_said : Contents → Macro → Contents
with_said c m = record c { macros = c.macros ++ m ∷ [] }

with_macro_back : (c : Contents) (n : List ℕ) (xs : List MacroStatement) → IsPrintable n → All IsMacroStatement xs → position_of (macro_names c.macros) n ≡ None
    → length c.macros < 1000000
    → BackAt same (with_macro c) (plain_word n ∷ macro_body_tokens n xs) (with_said c (described_macro n xs))
unfolding with_macro
with_macro_back c n xs h hs fresh room =
    let v = with_said c (described_macro n xs) in
    at_bind plain same name _ (plain_word n ∷ []) (macro_body_tokens n xs) (token_with n) v (short_name_back n h.word h.short) (λ t e.
    rw (text_is n t e, fresh, has_room (length c.macros) room)
    (at_map same same (macro_parts n) (λ (z : MacroParts). with_said c (macro_from_parts n z)) (macro_body_tokens n xs) (with_statements no_macro_parts xs) v
    (macro_parts_back n xs hs)
    (λ z e. ap (λ (y : MacroParts). with_said c (macro_from_parts n y)) e)))

macro_due : (c : Contents) (n : List ℕ) (xs : List MacroStatement) → IsPrintable n → All IsMacroStatement xs → position_of (macro_names c.macros) n ≡ None
    → length c.macros < 1000000
    → BackAt same (due_statement c) (macro_tokens n xs) (turn (with_said c (described_macro n xs)) true)
unfolding due_statement lef_statement_from
macro_due c n xs h hs fresh room =
    let v = with_said c (described_macro n xs) in
    at_known same (lef_statement_from c) (λ l. with_macro c l >>= λ new. continues new.value new.rest) (plain_word (codes "MACRO")) (plain_word n ∷ macro_body_tokens n xs)
    (turn v true) (λ t l. refl)
    (at_map same same (with_macro c) (λ (z : Contents). turn z true) (plain_word n ∷ macro_body_tokens n xs) v (turn v true)
    (with_macro_back c n xs h hs fresh room)
    (λ z e. ap (λ (y : Contents). turn y true) e))

-- A macro that is printed by any statements is read back.
pub reads_macro_of : (c : Contents) (m : Macro) (xs : List MacroStatement) → ReadsMacroOf c m xs
reads_macro_of c m xs ps p k hp hn hs said fresh room e =
    pass_all ps c (macro_tokens m.name xs) p k (library (with_said c m) k) hp e (λ q eq.
    library_step c (with_said c (described_macro m.name xs)) (macro_tokens m.name xs) q k (macro_due c m.name xs hn hs fresh room) eq
    ∙ ap (λ (z : Macro). library (with_said c z) k) said)

-- One PIN of one PORT of one RECT.

abbrev bare_point : List ℕ → List ℕ → ℤ → ℤ → PrintedPoint
bare_point v w x y = record { x = record { word = v; length = x }; y = record { word = w; length = y }; in_parentheses = false }

abbrev one_rect : PrintedPoint → PrintedPoint → PrintedRect
one_rect a b = record { mask = None; iterate = false; corner = a; opposite = b; more = [] }

abbrev one_pin : List ℕ → List ℕ → PrintedRect → MacroStatement
one_pin v u r = macro_pin v (pin_use u ∷ pin_port (port_rect r ∷ []) ∷ [])

abbrev one_macro : PrintedPoint → PrintedLength → PrintedLength → Symmetry → MacroStatement → List MacroStatement
one_macro o w h s pin = macro_origin o ∷ macro_size w h ∷ macro_symmetry (said_words s) ∷ pin ∷ []

same_words : (n x y w h v u x1 y1 x2 y2 : List ℕ) (ox oy sx sy left low right high : ℤ) (a b : Bool)
    → map plain_word (macro_words n x y w h (record { x = a; y = b }) (pin_words v u x1 y1 x2 y2))
    ≡ macro_tokens n (one_macro (bare_point x y ox oy) (record { word = w; length = sx }) (record { word = h; length = sy }) (record { x = a; y = b })
    (one_pin v u (one_rect (bare_point x1 y1 left low) (bare_point x2 y2 right high))))
same_words n x y w h v u x1 y1 x2 y2 ox oy sx sy left low right high true true = refl
same_words n x y w h v u x1 y1 x2 y2 ox oy sx sy left low right high true false = refl
same_words n x y w h v u x1 y1 x2 y2 ox oy sx sy left low right high false true = refl
same_words n x y w h v u x1 y1 x2 y2 ox oy sx sy left low right high false false = refl

nothing_nowhere : (word : List ℕ) → OccurNowhere (word ∷ []) []
nothing_nowhere word [] after e = absurd cc
nothing_nowhere word (w ∷ before) after e = absurd cc

macro_is : (m : Macro) (r : Rail) (y : Symmetry) → m.rail ≡ r → y ≡ m.symmetry → record m { rail = r; symmetry = y } ≡ m
macro_is m r y e f = ap (λ (z : Rail). record m { rail = z; symmetry = y }) (sym e) ∙ ap (λ (z : Symmetry). record m { symmetry = z }) f

pub reads_macro : (c : Contents) (m : Macro) → ReadsMacro c m
reads_macro c m ps x y w h v u x1 y1 x2 y2 low high left right p k hp hn hv hu hx hy hw hh h1 h2 h3 h4 rail fresh room e =
    let r = one_rect (bare_point x1 y1 left low) (bare_point x2 y2 right high) in
    let port = port_rect r ∷ [] in
    let pin = pin_use u ∷ pin_port port ∷ [] in
    let width : PrintedLength = record { word = w; length = m.size.x } in
    let height : PrintedLength = record { word = h; length = m.size.y } in
    let xs = one_macro (bare_point x y m.origin.x m.origin.y) width height m.symmetry (one_pin v u r) in
    let rect : IsPrintedRect r = record {
      mask = tt;
      corner = record { x = h1; y = h2 };
      opposite = record { x = h3; y = h4 };
      more =
          nothing_nowhere (codes ";");
    } in
    let origin : IsPrintedPoint (bare_point x y m.origin.x m.origin.y) = record { x = hx; y = hy } in
    let port_is : All IsPortStatement port = All-from_recursion IsPortStatement port (rect, tt) in
    let pin_is : All IsPinStatement pin = All-from_recursion IsPinStatement pin (hu, (port_is, tt)) in
    let all : All IsMacroStatement xs = All-from_recursion IsMacroStatement xs (origin, ((hw, hh), (tt, ((hv, pin_is), tt)))) in
    reads_macro_of c m xs ps p k hp hn all (macro_is m _ _ rail (words_say m.symmetry.x m.symmetry.y)) fresh room
    (e ∙ ap (λ (z : List PlainToken). tokens_after ps z)
    (same_words m.name x y w h v u x1 y1 x2 y2 m.origin.x m.origin.y m.size.x m.size.y left low right high m.symmetry.x m.symmetry.y))
