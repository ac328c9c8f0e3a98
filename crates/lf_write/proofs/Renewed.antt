-- A component whose placement clause is replaced reads as the component at its new place.
use Rattle.std.proofs.Common.{◌≡◌, ℕ, Bool, true, false, List, [], ◌∷◌, ◌++◌, map, Option, Some, None, inl, inr, refl, sym, ap, ◌∙◌, arith}
use Rattle.std.specs.Prelude.{codes, IfSome}
use Rattle.std.specs.List.{list_all, cons_option}
use Rattle.std.specs.Option.{option_map}
use Rattle.std.specs.Fmt.{signed_decimal}
use Rattle.std.proofs.lemmas.List.{append_assoc, map-append}
use Rattle.lf_orient.specs.declared.Orient.{Orient}
use Rattle.lf_orient.specs.declared.Orient.TheVariants.{N, W, S, E, FN, FW, FS, FE}
use Rattle.lf_orient.specs.Words.{orient_word}
use Rattle.lf_lex.specs.Tokens.{Lexed, Lexeme, PlainToken, plain, with_tokens}
use Rattle.lf_lex.specs.Splices.{ReplacesTokens, AreEdited, is_word_text, plain_word}
use Rattle.lf_lex.specs.Reading.{taken, turn, is, name, block}
use Rattle.lf_lex.proofs.Runs.{turn_bare, ok_is, with_both}
use Rattle.lf_lex.proofs.Back.{BackAt, TurnsAt, back_pure, at_bind, at_map, at_first, at_yes, at_no, at_last, at_more, at_block}
use Rattle.lf_lex.proofs.BackWords.{is_at}
use Rattle.lf_lex.proofs.Following.{is_alike, text_alike, name_follows}
use Rattle.lf_floorplan.specs.declared.place.Place.{Place}
use Rattle.lf_def.specs.declared.section.Due.{Due}
use Rattle.lf_def.specs.declared.section.Due.TheVariants.{Keyword, Separator}
use Rattle.lf_def.specs.declared.components.Component.{Component}
use Rattle.lf_def.specs.declared.components.ComponentParts.{ComponentParts}
use Rattle.lf_def.specs.declared.components.PlacementClause.{PlacementClause}
use Rattle.lf_def.specs.declared.components.PlacementKind.{PlacementKind}
use Rattle.lf_def.specs.declared.components.PlacementKind.TheVariants.{Placed, Unplaced}
use Rattle.lf_def.specs.Components.{component_from, component_token, no_component, component}
use Rattle.lf_def.specs.Laws.{placement_without_places, without_places}
use Rattle.lf_def.specs.Ranges.{IsLocation}
use Rattle.lf_def.specs.Printed.{kind_word}
use Rattle.lf_def.specs.PrintedComponents.{place_words}
use Rattle.lf_def.proofs.Clauses.{bind_ok}
use Rattle.lf_def.proofs.Places.{bare_parts, parts_at, component_at, component_follows}
use Rattle.lf_def.proofs.PrintedNumbers.{decimals_are_read, decimals_are_words}
use Rattle.lf_def.proofs.PrintedPlaces.{is_unplaced, clause_at, none_is}
use Rattle.lf_team_def.specs.Clauses.{clause_words}
use Rattle.lf_write.specs.Export.{place_location, placement_at, is_placed_at, clause_splice, perhaps_with_place}
use Rattle.lf_write.proofs.FollowsBytes.{swap}
use Rattle.lf_write.proofs.Before.{Bare, Found, Outcome, parts_found}
use Rattle.lf_write.proofs.Positions.{change_of}

-- Holds if a text can hold the coordinates of the place.
abbrev pub HasPlace : Option Place → Type 0
HasPlace given = IfSome given (λ p. IsLocation (place_location p))

-- The new clause.

orient_spelled : (o : Orient) → is_word_text (orient_word o) ≡ true
orient_spelled N = refl
orient_spelled W = refl
orient_spelled S = refl
orient_spelled E = refl
orient_spelled FN = refl
orient_spelled FW = refl
orient_spelled FS = refl
orient_spelled FE = refl

words_spelled : (given : Option Place) → HasPlace given → list_all is_word_text (clause_words given) ≡ true
words_spelled None h = refl
words_spelled (Some p) h = rw (decimals_are_words p.x h.0, decimals_are_words p.y h.1, orient_spelled p.orient) refl

abbrev kind_of : Option Place → PlacementKind
kind_of None = Unplaced
kind_of (Some p) = Placed

-- The state after the new clause.
abbrev after_new : Option Place → ComponentParts
after_new given = parts_at (Some (placement_at given)) Separator (is_unplaced (kind_of given))

abbrev Alike : ComponentParts → ComponentParts → Type 0
Alike s s' = bare_parts s' ≡ bare_parts s

plus_back : (s s' : ComponentParts) → Alike s s' → BackAt (turn_bare bare_parts) (component_token s') (plain_word (codes "+") ∷ [])
    (turn (record s { due = Keyword }) true)
unfolding component_token component_from
plus_back s s' a =
    let y = turn (record s { due = Keyword }) true in
    at_first (turn_bare bare_parts) _ (plain_word (codes "+")) [] y
    (λ t e. at_no (turn_bare bare_parts) (is (codes ";") t) _ _ [] y (is_at (codes ";") (codes "+") t e)
    (at_yes (turn_bare bare_parts) (is (codes "+") t) _ _ [] y (is_at (codes "+") (codes "+") t e)
    (back_pure (turn_bare bare_parts) y (turn (record s' { due = Keyword; plus = t.start }) true)
    (ap (λ (z : ComponentParts). turn (record z { due = Keyword }) true) a))))

none_alike : (s s' : ComponentParts) → s.placement ≡ None → Alike s s' → s'.placement ≡ None
none_alike s s' e a = none_is s'.placement (ap (λ (z : ComponentParts). z.placement) a ∙ ap (λ (p : Option PlacementClause). option_map placement_without_places p) e)

due_alike : (s s' : ComponentParts) (due : Due) → s.due ≡ due → Alike s s' → s'.due ≡ due
due_alike s s' due e a = ap (λ (z : ComponentParts). z.due) a ∙ e

-- The tokens of the new clause, if no earlier clause was read.
new_clause : (given : Option Place) → HasPlace given → (s y : ComponentParts) → s.placement ≡ None → (rest : List PlainToken)
    → ((s' : ComponentParts) → Alike (after_new given) s' → TurnsAt bare_parts component_token s' rest y)
    → (s' : ComponentParts) → Alike s s' → TurnsAt bare_parts component_token s' (map plain_word (clause_words given) ++ rest) y
new_clause None h s y none rest next s' a =
    let due_word : ComponentParts = record s { due = Keyword } in
    let words = map plain_word (kind_word Unplaced ∷ place_words signed_decimal None) in
    at_more bare_parts component_token s' due_word y (plain_word (codes "+") ∷ []) (words ++ rest) (omega arith) (plus_back s s' a) (λ s1 a1.
    at_more bare_parts component_token s1 (after_new None) y words rest (omega arith)
    (clause_at signed_decimal decimals_are_read Unplaced None tt s1 (none_alike due_word s1 none a1) (due_alike due_word s1 Keyword refl a1)) next)
new_clause (Some p) h s y none rest next s' a =
    let due_word : ComponentParts = record s { due = Keyword } in
    let words = map plain_word (kind_word Placed ∷ place_words signed_decimal (Some (place_location p))) in
    at_more bare_parts component_token s' due_word y (plain_word (codes "+") ∷ []) (words ++ rest) (omega arith) (plus_back s s' a) (λ s1 a1.
    at_more bare_parts component_token s1 (after_new (Some p)) y words rest (omega arith)
    (clause_at signed_decimal decimals_are_read Placed (Some (place_location p)) h s1 (none_alike due_word s1 none a1)
    (due_alike due_word s1 Keyword refl a1)) next)

-- The semicolon.
stop_back : (s' y : ComponentParts) (u : Lexeme) → is (codes ";") u ≡ true → Alike y s'
    → BackAt (turn_bare bare_parts) (component_token s') (plain u ∷ []) (turn y false)
unfolding component_token component_from
stop_back s' y u h a =
    at_first (turn_bare bare_parts) _ (plain u) [] (turn y false)
    (λ t e. at_yes (turn_bare bare_parts) (is (codes ";") t) _ _ [] (turn y false) (is_alike (codes ";") u t e ∙ h)
    (back_pure (turn_bare bare_parts) (turn y false) (turn (record s' { semicolon = t.start }) false) (ap (λ (z : ComponentParts). turn z false) a)))

-- A whole component.

component_is : (c : Component) (q : PlacementClause) (n k na nb : Lexeme) (p : Option PlacementClause) → n.text ≡ c.name → k.text ≡ c.mac
    → option_map placement_without_places p ≡ Some (placement_without_places q)
    → component_at n.text k.text (option_map placement_without_places p) ≡ component_at c.name c.mac (Some (placement_without_places q))
component_is c q n k na nb p e f g = rw (e, f, g) refl

with_names : (c : Component) (q : PlacementClause) (na nb : Lexeme) (us vs ps : List PlainToken) (z : ComponentParts) → BackAt plain name us na → BackAt plain name vs nb
    → na.text ≡ c.name → nb.text ≡ c.mac → TurnsAt bare_parts component_token no_component ps z
    → option_map placement_without_places z.placement ≡ Some (placement_without_places q)
    → BackAt without_places component (us ++ (vs ++ ps)) (record c { placement = Some q })
unfolding component
with_names c q na nb us vs ps z fa fb ea eb turns there =
    let y : Component = record c { placement = Some q } in
    at_bind plain without_places name _ us (vs ++ ps) na y fa (λ n en.
    at_bind plain without_places name _ vs ps nb y fb (λ k ek.
    at_map bare_parts without_places (block component_token no_component)
    (λ (s : ComponentParts). record { name = n.text; mac = k.text; placement = s.placement; semicolon = s.semicolon }) ps z y
    (at_block bare_parts component_token no_component z ps turns) (λ s es.
    component_is c q n k na nb s.placement (text_alike na n en ∙ ea) (text_alike nb k ek ∙ eb) (ap (λ (x : ComponentParts). x.placement) es ∙ there))))

-- The tokens of a component with its clause replaced.
pub record Renewed (l m : Lexed) (c : Component) (given : Option Place) : Type 0 where
  pub before : List Lexeme
  pub middle : List Lexeme
  pub after : List Lexeme
  pub whole : l ≡ with_tokens (before ++ (middle ++ after)) m
  pub makes : ReplacesTokens (clause_splice c.placement c.semicolon given) (clause_words given) middle after
  pub read : BackAt without_places component (map plain before ++ (map plain_word (clause_words given) ++ map plain after))
      (record c { placement = Some (placement_at given) })

makes_new : (p : Option PlacementClause) (semicolon : ℕ) (given : Option Place) (last : Lexeme) → p ≡ None → semicolon ≡ last.start
    → ReplacesTokens (clause_splice p semicolon given) (clause_words given) [] (last ∷ [])
makes_new None semicolon given last e f = (f, f, refl)
makes_new (Some p) semicolon given last e f = absurd cc

makes_other : (p : Option PlacementClause) (semicolon : ℕ) (given : Option Place) (q : PlacementClause) (plus : Lexeme) (middle after : List Lexeme) → p ≡ Some q
    → ReplacesTokens (clause_splice (Some q) semicolon given) (clause_words given) (plus ∷ middle) after
    → ReplacesTokens (clause_splice p semicolon given) (clause_words given) (plus ∷ middle) after
makes_other p semicolon given q plus middle after e f = rw e f

-- The tokens of three runs and what follows them.
three_runs : (a b front : List Lexeme) (rest : List PlainToken) → map plain (a ++ (b ++ front)) ++ rest ≡ map plain a ++ (map plain b ++ (map plain front ++ rest))
three_runs a b front rest =
    ap (λ (z : List PlainToken). z ++ rest) (map-append plain a (b ++ front) ∙ ap (λ (z : List PlainToken). map plain a ++ z) (map-append plain b front))
    ∙ append_assoc (map plain a) (map plain b ++ map plain front) rest
    ∙ ap (λ (z : List PlainToken). map plain a ++ z) (append_assoc (map plain b) (map plain front) rest)

three_wholes : (a b front back : List Lexeme) (l1 l2 l3 m : Lexed) → l1 ≡ with_tokens a l2 → l2 ≡ with_tokens b l3 → l3 ≡ with_tokens (front ++ back) m
    → l1 ≡ with_tokens ((a ++ (b ++ front)) ++ back) m
three_wholes a b front back l1 l2 l3 m e f g =
    e ∙ ap (λ (z : Lexed). with_tokens a z) (f ∙ ap (λ (z : Lexed). with_tokens b z) g ∙ sym (with_both b (front ++ back) m))
    ∙ sym (with_both a (b ++ (front ++ back)) m)
    ∙ ap (λ (z : List Lexeme). with_tokens z m)
    (ap (λ (z : List Lexeme). a ++ z) (sym (append_assoc b front back)) ∙ sym (append_assoc a (b ++ front) back))

-- A component without a clause.
new_one : (given : Option Place) → HasPlace given → (l1 l2 l3 m : Lexed) (c : Component) (na nb : Lexeme) (a b : List Lexeme) (y : ComponentParts)
    → l1 ≡ with_tokens a l2 → l2 ≡ with_tokens b l3 → BackAt plain name (map plain a) na → BackAt plain name (map plain b) nb
    → na.text ≡ c.name → nb.text ≡ c.mac → c.placement ≡ y.placement → c.semicolon ≡ y.semicolon → y.placement ≡ None → Bare [] l3 m y → Renewed l1 m c given
new_one given h l1 l2 l3 m c na nb a b y wa wb fa fb ea eb placement semicolon none f =
    let rest = map plain_word (clause_words given) ++ (plain f.last ∷ []) in
    let turns = f.reached (after_new given) rest (new_clause given h f.old (after_new given) f.none (plain f.last ∷ []) (λ s' e.
    at_last bare_parts component_token s' (after_new given) (plain f.last ∷ []) (stop_back s' (after_new given) f.last f.last_is e))) in
    record {
      before = a ++ (b ++ f.front);
      middle = [];
      after = f.last ∷ [];
      whole = three_wholes a b f.front (f.last ∷ []) l1 l2 l3 m wa wb f.whole;
      makes = makes_new c.placement c.semicolon given f.last (placement ∙ none) (semicolon ∙ f.semicolon);
      read = rw (three_runs a b f.front rest)
          (with_names c (placement_at given) na nb (map plain a) (map plain b) (map plain f.front ++ rest) (after_new given) fa fb ea eb turns refl);
    }

swap_is : (q : PlacementClause) (b : Bool) (s : ComponentParts) → s.due ≡ Separator → bare_parts (parts_at (Some q) Separator b) ≡ bare_parts (swap q b s)
swap_is q b s e = rw e refl

-- A component with a clause.
other_one : (given : Option Place) → HasPlace given → (l1 l2 l3 m : Lexed) (c : Component) (na nb : Lexeme) (a b : List Lexeme) (y : ComponentParts)
    (p : PlacementClause)
    → l1 ≡ with_tokens a l2 → l2 ≡ with_tokens b l3 → BackAt plain name (map plain a) na → BackAt plain name (map plain b) nb
    → na.text ≡ c.name → nb.text ≡ c.mac → c.placement ≡ y.placement → y.placement ≡ Some p → Found [] l3 m y p → Renewed l1 m c given
other_one given h l1 l2 l3 m c na nb a b y p wa wb fa fb ea eb placement is_placed f =
    let q = placement_at given in
    let u = is_unplaced (kind_of given) in
    let rest = map plain_word (clause_words given) ++ map plain f.after in
    let turns = f.reached (swap (placement_at given) (is_unplaced (kind_of given)) y) rest
    (new_clause given h f.old (swap (placement_at given) (is_unplaced (kind_of given)) y) f.none (map plain f.after) (λ s' e.
    f.after_it (placement_at given) (is_unplaced (kind_of given)) s' (e ∙ swap_is (placement_at given) (is_unplaced (kind_of given)) f.state f.due))) in
    let middle = f.plus ∷ f.word ∷ f.more in
    record {
      before = a ++ (b ++ f.front);
      middle = f.plus ∷ f.word ∷ f.more;
      after = f.after;
      whole = three_wholes a b f.front ((f.plus ∷ f.word ∷ f.more) ++ f.after) l1 l2 l3 m wa wb (f.whole ∙ ap (λ (z : List Lexeme). with_tokens z m) f.tokens);
      makes = makes_other c.placement c.semicolon given p f.plus (f.word ∷ f.more) f.after (placement ∙ is_placed) (f.start, f.last, refl);
      read = rw (three_runs a b f.front rest)
          (with_names c (placement_at given) na nb (map plain a) (map plain b) (map plain f.front ++ rest)
          (swap (placement_at given) (is_unplaced (kind_of given)) y) fa fb ea eb turns refl);
    }

by_outcome : (given : Option Place) → HasPlace given → (l1 l2 l3 m : Lexed) (c : Component) (na nb : Lexeme) (a b : List Lexeme) (y : ComponentParts)
    → l1 ≡ with_tokens a l2 → l2 ≡ with_tokens b l3 → BackAt plain name (map plain a) na → BackAt plain name (map plain b) nb
    → na.text ≡ c.name → nb.text ≡ c.mac → c.placement ≡ y.placement → c.semicolon ≡ y.semicolon → Outcome [] l3 m y → Renewed l1 m c given
by_outcome given h l1 l2 l3 m c na nb a b y wa wb fa fb ea eb placement semicolon (inl o) =
    new_one given h l1 l2 l3 m c na nb a b y wa wb fa fb ea eb placement semicolon o.0 o.1
by_outcome given h l1 l2 l3 m c na nb a b y wa wb fa fb ea eb placement semicolon (inr o) =
    other_one given h l1 l2 l3 m c na nb a b y o.0 wa wb fa fb ea eb placement o.1 o.2

pub renewed : (given : Option Place) → HasPlace given → (l m : Lexed) (c : Component) → component l ≡ taken c m → Renewed l m c given
unfolding component
renewed given h l m c e =
    let a = bind_ok (name l) _ _ e in
    let b = bind_ok (name a.0.rest) _ _ a.2 in
    let d = bind_ok (block component_token no_component b.0.rest) _ _ b.2 in
    let g = ok_is (record { name = a.0.value.text; mac = b.0.value.text; placement = d.0.value.placement; semicolon = d.0.value.semicolon }) d.0.rest c m d.2 in
    let fa = name_follows l a.0.rest a.0.value a.1 in
    let fb = name_follows a.0.rest b.0.rest b.0.value b.1 in
    let o = parts_found _ b.0.rest d.0.rest d.0.value d.1 in
    by_outcome given h l a.0.rest b.0.rest m c a.0.value b.0.value fa.run fb.run d.0.value fa.whole fb.whole fa.again fb.again
    (ap (λ (z : Component). z.name) g.0) (ap (λ (z : Component). z.mac) g.0) (sym (ap (λ (z : Component). z.placement) g.0))
    (sym (ap (λ (z : Component). z.semicolon) g.0))
    (rw g.1 at o)

-- A component that may be given a place: its tokens after the splices, and what is read from them.
pub record Changed (l m : Lexed) (c : Component) (o : Option (Option Place)) : Type 0 where
  pub run : List Lexeme
  pub whole : l ≡ with_tokens run m
  pub tokens : List PlainToken
  pub edited : AreEdited (cons_option (change_of o c) []) run tokens
  pub read : BackAt without_places component tokens (perhaps_with_place o c)

unchanged : (l m : Lexed) (c : Component) → component l ≡ taken c m → Changed l m c None
unchanged l m c e =
    let f = component_follows l m c e in
    record { run = f.run; whole = f.whole; tokens = map plain f.run; edited = refl; read = f.again }

changed_by : (given : Option Place) → HasPlace given → (l m : Lexed) (c : Component) → component l ≡ taken c m → (test : Bool) → is_placed_at c given ≡ test
    → Changed l m c (Some given)
changed_by given h l m c e true s =
    let f = component_follows l m c e in
    record { run = f.run; whole = f.whole; tokens = map plain f.run; edited = rw s refl; read = rw s f.again }
changed_by given h l m c e false s =
    let f = renewed given h l m c e in
    let tokens = map plain f.before ++ (map plain_word (clause_words given) ++ map plain f.after) in
    record {
      run = f.before ++ (f.middle ++ f.after);
      whole = f.whole;
      tokens = map plain f.before ++ (map plain_word (clause_words given) ++ map plain f.after);
      edited = rw s (record {
        before = f.before;
        middle = f.middle;
        after = f.after;
        words = clause_words given;
        later = map plain f.after;
        tokens = refl;
        makes = f.makes;
        spelled = words_spelled given h;
        new = refl;
        next = refl;
      });
      read = rw s f.read;
    }

pub changed : (o : Option (Option Place)) → IfSome o (λ given. HasPlace given) → (l m : Lexed) (c : Component) → component l ≡ taken c m → Changed l m c o
changed None h l m c e = unchanged l m c e
changed (Some given) h l m c e = changed_by given h l m c e (is_placed_at c given) refl
