-- The effect of splices on a COMPONENTS section.
use Rattle.std.proofs.Common.{◌≡◌, ℕ, ◌+◌, Bool, true, false, cond, List, [], ◌∷◌, ◌++◌, map, length, Option, Some, None, Result, Err, refl, sym, ap}
use Rattle.std.proofs.Common.{◌∙◌, arith}
use Rattle.std.specs.Prelude.{codes, IfSome}
use Rattle.std.specs.List.{cons_option, enumerate_from}
use Rattle.std.proofs.lemmas.List.{append-nil}
use Rattle.lf_lex.specs.declared.fault.ReadFault.{ReadFault}
use Rattle.lf_lex.specs.Tokens.{Lexed, Lexeme, PlainToken, plain, with_token, with_tokens}
use Rattle.lf_lex.specs.Splices.{Splice, AreEdited}
use Rattle.lf_lex.specs.Reading.{◌>>=◌, ReadValue, Turn, taken, turn, is, end_name, to_semicolon}
use Rattle.lf_lex.proofs.Runs.{same, turn_bare, ok_is, with_both}
use Rattle.lf_lex.proofs.Back.{BackAt, at_bind, at_map, at_first, at_yes, at_no, at_block}
use Rattle.lf_lex.proofs.Following.{is_alike, to_semicolon_follows, end_name_follows}
use Rattle.lf_def.specs.declared.components.Component.{Component}
use Rattle.lf_def.specs.Entries.{entry_or_end, section}
use Rattle.lf_def.specs.Components.{component, components}
use Rattle.lf_def.specs.Laws.{without_places}
use Rattle.lf_def.proofs.Clauses.{bind_ok, token_ok}
use Rattle.lf_def.proofs.Places.{bare_list, components_grow}
use Rattle.lf_write.specs.Export.{given_to, perhaps_with_place, with_places}
use Rattle.lf_write.proofs.Positions.{Given, change_of, changes_from}
use Rattle.lf_write.proofs.Renewed.{HasPlace, changed}
use Rattle.lf_write.proofs.Edits.{MadeTurn, edited_after, all_made, same_turn}

-- Holds if a text can hold the coordinates of every given place.
abbrev pub HavePlaces : Given → Type 0
HavePlaces places = (n : ℕ) → IfSome (given_to places n) (λ given. HasPlace given)

-- These components at their places. The first component has this position.
abbrev placed_from : ℕ → Given → List Component → List Component
placed_from n places cs = map (λ e. perhaps_with_place (given_to places e.0) e.1) (enumerate_from n cs)

placed_end : (n k : ℕ) (places : Given) (cs : List Component) (c : Component) → k ≡ n + length cs
    → placed_from n places (cs ++ c ∷ []) ≡ placed_from n places cs ++ perhaps_with_place (given_to places k) c ∷ []
placed_end n k places [] c e = let f : k ≡ n = omega (arith, e) in rw f refl
placed_end n k places (d ∷ cs) c e =
    ap (λ (z : List Component). perhaps_with_place (given_to places n) d ∷ z) (placed_end (n + 1) k places cs c (omega (arith, e)))

cons_end : (o : Option Splice) (xs ys : List Splice) → cons_option o (xs ++ ys) ≡ cons_option o xs ++ ys
cons_end None xs ys = refl
cons_end (Some x) xs ys = refl

changes_end : (n k : ℕ) (places : Given) (cs : List Component) (c : Component) → k ≡ n + length cs
    → changes_from n places (cs ++ c ∷ []) ≡ changes_from n places cs ++ cons_option (change_of (given_to places k) c) []
unfolding changes_from
changes_end n k places [] c e = let f : k ≡ n = omega (arith, e) in rw f refl
changes_end n k places (d ∷ cs) c e =
    ap (λ (z : List Splice). cons_option (change_of (given_to places n) d) z) (changes_end (n + 1) k places cs c (omega (arith, e)))
    ∙ cons_end (change_of (given_to places n) d) (changes_from (n + 1) places cs) (cons_option (change_of (given_to places k) c) [])

abbrev keyword : List ℕ
keyword = codes "COMPONENTS"

abbrev Entry : Given → Lexed → Lexed → List Component → Turn (List Component) → Type 0
Entry places l m s t = MadeTurn bare_list (with_places places) (changes_from 0 places) (entry_or_end keyword component) l m s t

one_entry : (places : Given) → HavePlaces places → (l n m : Lexed) (s : List Component) (c : Component) (u : Lexeme) → l ≡ with_token u n
    → is (codes "-") u ≡ true
    → component n ≡ taken c m → Entry places l m s (turn (s ++ c ∷ []) true)
unfolding entry_or_end
one_entry places h l n m s c u w minus e =
    let o = given_to places (length s) in
    let f = changed (given_to places (length s)) (h (length s)) n m c e in
    let y = turn (with_places places (s ++ c ∷ [])) true in
    record {
      made = cons_option (change_of (given_to places (length s)) c) [];
      grown = changes_end 0 (length s) places s c (omega arith);
      run = u ∷ f.run;
      whole = w ∙ ap (λ (z : Lexed). with_token u z) f.whole;
      tokens = plain u ∷ f.tokens;
      edited = edited_after (cons_option (change_of (given_to places (length s)) c) []) (u ∷ []) f.run f.tokens f.edited;
      some = λ x. omega arith;
      again = λ s' a.
          at_first (turn_bare bare_list) _ (plain u) f.tokens (turn (with_places places (s ++ c ∷ [])) true) (λ t' e'.
          at_yes (turn_bare bare_list) (is (codes "-") t') _ _ f.tokens (turn (with_places places (s ++ c ∷ [])) true) (is_alike (codes "-") u t' e' ∙ minus)
          (at_map without_places (turn_bare bare_list) component (λ (x : Component). turn (s' ++ x ∷ []) true) f.tokens
          (perhaps_with_place (given_to places (length s)) c) (turn (with_places places (s ++ c ∷ [])) true) f.read (λ x ex.
          ap (λ (z : List Component). turn z true)
          (components_grow (with_places places s) s' (perhaps_with_place (given_to places (length s)) c) x a ex
          ∙ ap bare_list (sym (placed_end 0 (length s) places s c (omega arith)))))));
    }

last_entry : (places : Given) (l n m : Lexed) (s : List Component) (u : Lexeme) (x : Unit {0}) → l ≡ with_token u n → is (codes "-") u ≡ false
    → is (codes "END") u ≡ true
    → end_name keyword n ≡ taken x m → Entry places l m s (turn s false)
unfolding entry_or_end
last_entry places l n m s u x w minus end e =
    let f = end_name_follows keyword n m x e in
    let y = turn (with_places places s) false in
    record {
      made = [];
      grown = sym (append-nil (changes_from 0 places s));
      run = u ∷ f.run;
      whole = w ∙ ap (λ (z : Lexed). with_token u z) f.whole;
      tokens = plain u ∷ map plain f.run;
      edited = refl;
      some = λ z. omega arith;
      again = λ s' a.
          at_first (turn_bare bare_list) _ (plain u) (map plain f.run) (turn (with_places places s) false) (λ t' e'.
          at_no (turn_bare bare_list) (is (codes "-") t') _ _ (map plain f.run) (turn (with_places places s) false) (is_alike (codes "-") u t' e' ∙ minus)
          (at_yes (turn_bare bare_list) (is (codes "END") t') _ _ (map plain f.run) (turn (with_places places s) false) (is_alike (codes "END") u t' e' ∙ end)
          (at_map same (turn_bare bare_list) (end_name keyword) (λ (z : Unit {0}). turn s' false) (map plain f.run) x
          (turn (with_places places s) false) f.again
          (λ z ez. ap (λ (v : List Component). turn v false) a))));
    }

entry_by : (c d : Bool) (places : Given) → HavePlaces places → (l n m : Lexed) (s : List Component) (u : Lexeme) (t : Turn (List Component)) (q : ReadFault)
    → l ≡ with_token u n → is (codes "-") u ≡ c → is (codes "END") u ≡ d
    → cond {A = Result (ReadValue (Turn (List Component))) ReadFault} c (component n >>= λ x. taken (turn (s ++ x.value ∷ []) true) x.rest)
    (cond d (end_name keyword n >>= λ x. taken (turn s false) x.rest) (Err q)) ≡ taken t m → Entry places l m s t
entry_by true d places h l n m s u t q w x y e =
    let a = bind_ok (component n) _ _ e in
    let f = ok_is (turn (s ++ a.0.value ∷ []) true) a.0.rest t m a.2 in
    same_turn bare_list (with_places places) (changes_from 0 places) (entry_or_end keyword component) l a.0.rest m s (turn (s ++ a.0.value ∷ []) true) t f.0 f.1
    (one_entry places h l n a.0.rest s a.0.value u w x a.1)
entry_by false true places h l n m s u t q w x y e =
    let a = bind_ok (end_name keyword n) _ _ e in
    let f = ok_is (turn s false) a.0.rest t m a.2 in
    same_turn bare_list (with_places places) (changes_from 0 places) (entry_or_end keyword component) l a.0.rest m s (turn s false) t f.0 f.1
    (last_entry places l n a.0.rest s u a.0.value w x y a.1)
entry_by false false places h l n m s u t q w x y e = absurd cc

entry_made : (places : Given) → HavePlaces places → (s : List Component) (l m : Lexed) (t : Turn (List Component))
    → entry_or_end keyword component s l ≡ taken t m → Entry places l m s t
unfolding entry_or_end
entry_made places h s l m t e =
    let a = token_ok l _ _ e in
    entry_by (is (codes "-") a.0) (is (codes "END") a.0) places h l a.1 m s a.0 t _ a.2 refl refl a.3

-- A whole section.
pub record SectionMade (places : Given) (l m : Lexed) (s y : List Component) : Type 0 where
  pub made : List Splice
  pub grown : changes_from 0 places y ≡ changes_from 0 places s ++ made
  pub run : List Lexeme
  pub whole : l ≡ with_tokens run m
  pub tokens : List PlainToken
  pub edited : AreEdited made run tokens
  pub again : (s' : List Component) → bare_list s' ≡ bare_list (with_places places s) → BackAt bare_list (components s') tokens (with_places places y)

pub section_made : (places : Given) → HavePlaces places → (l m : Lexed) (s y : List Component) → components s l ≡ taken y m → SectionMade places l m s y
unfolding section
section_made places h l m s y e =
    let a = bind_ok (to_semicolon l) _ _ e in
    let f = to_semicolon_follows l a.0.rest a.0.value a.1 in
    let g = all_made bare_list (with_places places) (changes_from 0 places) (entry_or_end keyword component)
    (λ s l m t x. entry_made places h s l m t x) _ s y a.0.rest m a.2 in
    record {
      made = g.made;
      grown = g.grown;
      run = f.run ++ g.run;
      whole = f.whole ∙ ap (λ (z : Lexed). with_tokens f.run z) g.whole ∙ sym (with_both f.run g.run m);
      tokens = map plain f.run ++ g.tokens;
      edited = edited_after g.made f.run g.run g.tokens g.edited;
      again = λ s' b.
          at_bind same bare_list to_semicolon _ (map plain f.run) g.tokens a.0.value (with_places places y) f.again (λ x ex.
          at_block bare_list (entry_or_end keyword component) s' (with_places places y) g.tokens (g.again s' b));
    }
