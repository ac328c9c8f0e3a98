-- The first of several statements of one kind counts.
use Rattle.std.proofs.Common.{◌≡◌, ℕ, zero, suc, Bool, true, false, cond, List, [], ◌∷◌, ◌++◌, length, Option, Some, None, Result, Ok, Err, refl}
use Rattle.std.specs.Prelude.{codes}
use Rattle.std.specs.Str.{bytes_eq}
use Rattle.std.proofs.Math.Seq.{take-length, take-append_seam}
use Rattle.lf_names.specs.Names.{position_of}
use Rattle.lf_lex.specs.declared.fault.ReadFault.{ReadFault}
use Rattle.lf_lex.specs.Tokens.{Lexed, Lexeme}
use Rattle.lf_lex.specs.Reading.{◌>>=◌, ReadValue, Turn, Statement, taken, turn, token, next, name, is, statements, block, first_counts}
use Rattle.lf_lex.proofs.Runs.{ok_is}
use Rattle.lf_lef.specs.declared.sites.SiteParts.{SiteParts}
use Rattle.lf_lef.specs.declared.pins.Reach.{Reach}
use Rattle.lf_lef.specs.declared.pins.Pin.{Pin}
use Rattle.lf_lef.specs.declared.macros.MacroParts.{MacroParts}
use Rattle.lf_lef.specs.Contents.{Contents, ExtendsLibrary, site_names, macro_names}
use Rattle.lf_lef.specs.Sites.{site_statement_from, site_statement, site_parts, site_of}
use Rattle.lf_lef.specs.Pins.{port_statement_from, port_statement, pin_statement_from, pin_statement}
use Rattle.lf_lef.specs.Macros.{macro_statement_from, macro_statement, macro_parts, macro_from_parts}
use Rattle.lf_lef.specs.Library.{room_for, with_first, with_site, with_macro, lef_statement_from, statement_or_end, lef_statement, library}
use Rattle.lf_lef.specs.Laws.{IsKept, StaysInFront, FirstSiteStatementsCount, FirstPinUseCounts, FirstMacroStatementsCount}
use Rattle.lf_lef.proofs.Growing.{same_contents, grown_twice, through}

-- Holds if whatever is read has the property.
abbrev Gives : {A : Type 0} → (A → Type 0) → Result (ReadValue A) ReadFault → Type 0
Gives P r = (x : _) (m : Lexed) → r ≡ taken x m → P x

gives : {A : Type 0} (P : A → Type 0) (x : A) (l : Lexed) → P x → Gives P (taken x l)
gives P x l p y m h = rw (ok_is x l y m h).0 at p

gives_bind : {A B : Type 0} (P : B → Type 0) (r : Result (ReadValue A) ReadFault) (k : ReadValue A → Result (ReadValue B) ReadFault) → ((t : ReadValue A) → Gives P (k t)) → Gives P (r >>= k)
gives_bind P (Err e) k f x m h = absurd cc
gives_bind P (Ok t) k f x m h = f t x m h

gives_given : {A B : Type 0} (P : B → Type 0) (r : Result A ReadFault) (k : A → Result (ReadValue B) ReadFault) → ((v : A) → Gives P (k v)) → Gives P (r >>= k)
gives_given P (Err e) k f x m h = absurd cc
gives_given P (Ok v) k f x m h = f v x m h

gives_then : {A B : Type 0} (Q : A → Type 0) (P : B → Type 0) (r : Result (ReadValue A) ReadFault) (k : ReadValue A → Result (ReadValue B) ReadFault) → Gives Q r → ((t : ReadValue A) → Q t.value → Gives P (k t)) → Gives P (r >>= k)
gives_then Q P (Err e) k q f x m h = absurd cc
gives_then Q P (Ok t) k q f x m h = f t (q t.value t.rest refl) x m h

gives_choose : {A : Type 0} (P : A → Type 0) (c : Bool) (a b : Result (ReadValue A) ReadFault) → Gives P a → Gives P b → Gives P (cond c a b)
gives_choose P true a b p q = p
gives_choose P false a b p q = q

turn_then : {S : Type 0} (R : S → S → Type 0) → ((a b c : S) → R a b → R b c → R a c) → (s : S) (t : Turn S) (rest : Lexed) (all : Result (ReadValue S) ReadFault)
    → R s t.state → Gives (R t.state) all → (more : Bool) → Gives (R s) (cond more all (taken t.state rest))
turn_then R trans s t rest all p q true x m h = trans s t.state x p (q x m h)
turn_then R trans s t rest all p q false x m h = gives (R s) t.state rest p x m h

gives_statements : {S : Type 0} (R : S → S → Type 0) → ((a b c : S) → R a b → R b c → R a c) → (one : Statement S) → ((s : S) (l : Lexed) → Gives (λ (t : Turn S). R s t.state) (one s l))
    → (n : ℕ) (s : S) (l : Lexed) → Gives (R s) (statements one n s l)
unfolding statements
gives_statements R trans one each zero s l x m h = absurd cc
gives_statements R trans one each (suc n) s l x m h =
    gives_then (λ (t : Turn _). R s t.state) (R s) (one s l) _ (each s l)
    (λ t p. turn_then R trans s t.value t.rest (statements one n t.value.state t.rest) p (gives_statements R trans one each n t.value.state t.rest) t.value.more) x m h

-- A known value stays.

same_said : {A : Type 0} (o : Option A) → IsKept o o
same_said o x e = e

first_said : {A : Type 0} (o : Option A) (y : A) → IsKept o (first_counts o y)
first_said None y x e = absurd cc
first_said (Some a) y x e = e

in_front : {A : Type 0} (xs : List A) → StaysInFront xs xs
in_front xs = take-length xs

one_after_it : {A : Type 0} (xs : List A) (y : A) → StaysInFront xs (xs ++ y ∷ [])
one_after_it xs y = take-append_seam xs (y ∷ [])

-- Sites.

same_site : (s : SiteParts) → FirstSiteStatementsCount s s
same_site s = record { core = same_said s.core; symmetry = same_said s.symmetry; size = same_said s.size }

site_through : (a b c : SiteParts) → FirstSiteStatementsCount a b → FirstSiteStatementsCount b c → FirstSiteStatementsCount a c
site_through a b c p q = record { core = λ x e. q.core x (p.core x e); symmetry = λ x e. q.symmetry x (p.symmetry x e); size = λ x e. q.size x (p.size x e) }

site_from_is_kept : (n : List ℕ) (s : SiteParts) (t : Lexeme) (l : Lexed) → Gives (λ (u : Turn SiteParts). FirstSiteStatementsCount s u.state) (site_statement_from n s t l)
unfolding site_statement_from
site_from_is_kept n s t l =
    let P : Turn SiteParts → Type 0 = λ u. FirstSiteStatementsCount s u.state in
    gives_choose P (is (codes "END") t) _ _ (gives_bind P _ _ (λ x. gives P (turn s false) x.rest (same_site s)))
    (gives_choose P (is (codes "CLASS") t) _ _
    (gives_bind P _ _ (λ x. gives P _ x.rest (record { core = first_said s.core (bytes_eq x.value (codes "CORE")); symmetry = same_said s.symmetry; size = same_said s.size })))
    (gives_choose P (is (codes "SYMMETRY") t) _ _ (gives_bind P _ _ (λ x. gives P _ x.rest (record { core = same_said s.core; symmetry = first_said s.symmetry x.value; size = same_said s.size })))
    (gives_choose P (is (codes "SIZE") t) _ _ (gives_bind P _ _ (λ x. gives P _ x.rest (record { core = same_said s.core; symmetry = same_said s.symmetry; size = first_said s.size x.value })))
    (gives_choose P (is (codes ";") t) _ _ (gives P (turn s true) l (same_site s)) (gives_bind P _ _ (λ x. gives P (turn s true) x.rest (same_site s)))))))

site_is_kept : (n : List ℕ) (s : SiteParts) (l : Lexed) → Gives (λ (u : Turn SiteParts). FirstSiteStatementsCount s u.state) (site_statement n s l)
unfolding site_statement
site_is_kept n s l = gives_bind (λ (u : Turn SiteParts). FirstSiteStatementsCount s u.state) (token l) _ (λ t. site_from_is_kept n s t.value t.rest)

pub sites_are_kept : (n : List ℕ) (s : SiteParts) (l : Lexed) → Gives (λ (u : SiteParts). FirstSiteStatementsCount s u) (block (site_statement n) s l)
sites_are_kept n s l = gives_statements FirstSiteStatementsCount site_through (site_statement n) (site_is_kept n) (suc (length l.tokens)) s l

-- Pins.

reaches_from : (s : List Reach) (t : Lexeme) (l : Lexed) → Gives (λ (u : Turn (List Reach)). StaysInFront s u.state) (port_statement_from s t l)
unfolding port_statement_from
reaches_from s t l =
    let P : Turn (List Reach) → Type 0 = λ u. StaysInFront s u.state in
    gives_choose P (is (codes "END") t) _ _ (gives P (turn s false) l (in_front s))
    (gives_choose P (is (codes "RECT") t) _ _ (gives_bind P _ _ (λ x. gives P _ x.rest (one_after_it s x.value)))
    (gives_choose P (is (codes ";") t) _ _ (gives P (turn s true) l (in_front s)) (gives_bind P _ _ (λ x. gives P (turn s true) x.rest (in_front s)))))

reaches_stay : (s : List Reach) (l : Lexed) → Gives (λ (u : Turn (List Reach)). StaysInFront s u.state) (port_statement s l)
unfolding port_statement
reaches_stay s l = gives_bind (λ (u : Turn (List Reach)). StaysInFront s u.state) (token l) _ (λ t. reaches_from s t.value t.rest)

port_stays : (s : List Reach) (l : Lexed) → Gives (λ (u : List Reach). StaysInFront s u) (block port_statement s l)
port_stays s l = gives_statements (λ (a b : List Reach). StaysInFront a b) (λ a b c p q. through a b c p q) port_statement reaches_stay (suc (length l.tokens)) s l

same_pin : (s : Pin) → FirstPinUseCounts s s
same_pin s = record { supply = same_said s.supply; reaches = in_front s.reaches }

pin_through : (a b c : Pin) → FirstPinUseCounts a b → FirstPinUseCounts b c → FirstPinUseCounts a c
pin_through a b c p q = record { supply = λ x e. q.supply x (p.supply x e); reaches = through a.reaches b.reaches c.reaches p.reaches q.reaches }

pin_from_is_kept : (n : List ℕ) (s : Pin) (t : Lexeme) (l : Lexed) → Gives (λ (u : Turn Pin). FirstPinUseCounts s u.state) (pin_statement_from n s t l)
unfolding pin_statement_from
pin_from_is_kept n s t l =
    let P : Turn Pin → Type 0 = λ u. FirstPinUseCounts s u.state in
    gives_choose P (is (codes "END") t) _ _ (gives_bind P _ _ (λ x. gives P (turn s false) x.rest (same_pin s)))
    (gives_choose P (is (codes "USE") t) _ _ (gives_bind P _ _ (λ x. gives P _ x.rest (record { supply = first_said s.supply _; reaches = in_front s.reaches })))
    (gives_choose P (is (codes "PORT") t) _ _ (gives_then (λ (u : List Reach). StaysInFront s.reaches u) P (block port_statement s.reaches l) _ (port_stays s.reaches l) (λ x p. gives P _ x.rest (record { supply = same_said s.supply; reaches = p })))
    (gives_choose P (is (codes ";") t) _ _ (gives P (turn s true) l (same_pin s)) (gives_bind P _ _ (λ x. gives P (turn s true) x.rest (same_pin s))))))

pin_is_kept : (n : List ℕ) (s : Pin) (l : Lexed) → Gives (λ (u : Turn Pin). FirstPinUseCounts s u.state) (pin_statement n s l)
unfolding pin_statement
pin_is_kept n s l = gives_bind (λ (u : Turn Pin). FirstPinUseCounts s u.state) (token l) _ (λ t. pin_from_is_kept n s t.value t.rest)

pub pins_are_kept : (n : List ℕ) (s : Pin) (l : Lexed) → Gives (λ (u : Pin). FirstPinUseCounts s u) (block (pin_statement n) s l)
pins_are_kept n s l = gives_statements FirstPinUseCounts pin_through (pin_statement n) (pin_is_kept n) (suc (length l.tokens)) s l

-- Macros.

same_macro : (s : MacroParts) → FirstMacroStatementsCount s s
same_macro s = record { size = same_said s.size; origin = same_said s.origin; symmetry = same_said s.symmetry; pins = in_front s.pins }

macro_through : (a b c : MacroParts) → FirstMacroStatementsCount a b → FirstMacroStatementsCount b c → FirstMacroStatementsCount a c
macro_through a b c p q = record {
  size = λ x e. q.size x (p.size x e);
  origin = λ x e. q.origin x (p.origin x e);
  symmetry = λ x e. q.symmetry x (p.symmetry x e);
  pins = through a.pins b.pins c.pins p.pins q.pins;
}

macro_from_is_kept : (n : List ℕ) (s : MacroParts) (t : Lexeme) (l : Lexed) → Gives (λ (u : Turn MacroParts). FirstMacroStatementsCount s u.state) (macro_statement_from n s t l)
unfolding macro_statement_from
macro_from_is_kept n s t l =
    let P : Turn MacroParts → Type 0 = λ u. FirstMacroStatementsCount s u.state in
    let said = same_macro s in
    gives_choose P (is (codes "END") t) _ _ (gives_bind P _ _ (λ x. gives P (turn s false) x.rest said))
    (gives_choose P (is (codes "ORIGIN") t) _ _ (gives_bind P _ _ (λ x. gives P _ x.rest (record { size = same_said s.size; origin = first_said s.origin x.value; symmetry = same_said s.symmetry; pins = in_front s.pins })))
    (gives_choose P (is (codes "SIZE") t) _ _ (gives_bind P _ _ (λ x. gives P _ x.rest (record { size = first_said s.size x.value; origin = same_said s.origin; symmetry = same_said s.symmetry; pins = in_front s.pins })))
    (gives_choose P (is (codes "SYMMETRY") t) _ _ (gives_bind P _ _ (λ x. gives P _ x.rest (record { size = same_said s.size; origin = same_said s.origin; symmetry = first_said s.symmetry x.value; pins = in_front s.pins })))
    (gives_choose P (is (codes "PIN") t) _ _ (gives_bind P _ _ (λ x. gives P _ x.rest (record { size = same_said s.size; origin = same_said s.origin; symmetry = same_said s.symmetry; pins = one_after_it s.pins x.value })))
    (gives_bind P _ _ (λ x. gives P (turn s true) x.rest said))))))

macro_is_kept : (n : List ℕ) (s : MacroParts) (l : Lexed) → Gives (λ (u : Turn MacroParts). FirstMacroStatementsCount s u.state) (macro_statement n s l)
unfolding macro_statement
macro_is_kept n s l = gives_bind (λ (u : Turn MacroParts). FirstMacroStatementsCount s u.state) (token l) _ (λ t. macro_from_is_kept n s t.value t.rest)

pub macros_are_kept : (n : List ℕ) (s : MacroParts) (l : Lexed) → Gives (λ (u : MacroParts). FirstMacroStatementsCount s u) (block (macro_statement n) s l)
macros_are_kept n s l = gives_statements FirstMacroStatementsCount macro_through (macro_statement n) (macro_is_kept n) (suc (length l.tokens)) s l

-- Texts.

first_in_front : {A : Type 0} (known : Option ℕ) (xs : List A) (y : A) → StaysInFront xs (with_first known xs y)
first_in_front (Some at) xs y = in_front xs
first_in_front None xs y = one_after_it xs y

site_grows : (c : Contents) (l : Lexed) → Gives (λ (u : Contents). ExtendsLibrary c u) (with_site c l)
unfolding with_site
site_grows c l =
    let P : Contents → Type 0 = λ u. ExtendsLibrary c u in
    gives_bind P (name l) _ (λ n. gives_given P (room_for (position_of (site_names c.sites) n.value.text) (length c.sites) n.value) _ (λ v. gives_bind P (site_parts n.value.text n.rest) _ (λ p.
    gives P _ p.rest (record { sites = first_in_front (position_of (site_names c.sites) n.value.text) c.sites (site_of n.value.text p.value); macros = in_front c.macros }))))

macro_grows : (c : Contents) (l : Lexed) → Gives (λ (u : Contents). ExtendsLibrary c u) (with_macro c l)
unfolding with_macro
macro_grows c l =
    let P : Contents → Type 0 = λ u. ExtendsLibrary c u in
    gives_bind P (name l) _ (λ n. gives_given P (room_for (position_of (macro_names c.macros) n.value.text) (length c.macros) n.value) _ (λ v. gives_bind P (macro_parts n.value.text n.rest) _ (λ p.
    gives P _ p.rest (record { sites = in_front c.sites; macros = first_in_front (position_of (macro_names c.macros) n.value.text) c.macros (macro_from_parts n.value.text p.value) }))))

from_grows : (c : Contents) (t : Lexeme) (l : Lexed) → Gives (λ (u : Turn Contents). ExtendsLibrary c u.state) (lef_statement_from c t l)
unfolding lef_statement_from
from_grows c t l =
    let P : Turn Contents → Type 0 = λ u. ExtendsLibrary c u.state in
    gives_choose P (is (codes "END") t) _ _ (gives_bind P _ _ (λ x. gives P (turn c false) x.rest (same_contents c)))
    (gives_choose P (is (codes "SITE") t) _ _ (gives_then (λ (u : Contents). ExtendsLibrary c u) P (with_site c l) _ (site_grows c l) (λ x p. gives P (turn x.value true) x.rest p))
    (gives_choose P (is (codes "MACRO") t) _ _ (gives_then (λ (u : Contents). ExtendsLibrary c u) P (with_macro c l) _ (macro_grows c l) (λ x p. gives P (turn x.value true) x.rest p))
    (gives_bind P _ _ (λ x. gives P (turn c true) x.rest (same_contents c)))))

or_end_grows : (c : Contents) (o : Option Lexeme) (l : Lexed) → Gives (λ (u : Turn Contents). ExtendsLibrary c u.state) (statement_or_end c o l)
or_end_grows c None l = gives (λ (u : Turn Contents). ExtendsLibrary c u.state) (turn c false) l (same_contents c)
or_end_grows c (Some t) l = from_grows c t l

grows : (c : Contents) (l : Lexed) → Gives (λ (u : Turn Contents). ExtendsLibrary c u.state) (lef_statement c l)
unfolding lef_statement
grows c l = gives_bind (λ (u : Turn Contents). ExtendsLibrary c u.state) (next l) _ (λ t. or_end_grows c t.value t.rest)

pub library_grows : (c : Contents) (l : Lexed) → Gives (λ (u : Contents). ExtendsLibrary c u) (library c l)
library_grows c l = gives_statements ExtendsLibrary grown_twice lef_statement grows (suc (length l.tokens)) c l
