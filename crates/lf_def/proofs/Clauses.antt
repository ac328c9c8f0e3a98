-- The tokens of a component, and the tokens of its placement clause among them.
use Rattle.std.proofs.Common.{◌≡◌, ◌⊎◌, ℕ, zero, suc, Bool, true, false, ◌&&◌, ◌||◌, cond, List, [], ◌∷◌, ◌++◌, ℤ, Option, Some, None, Result, Ok, Err, inl}
use Rattle.std.proofs.Common.{inr, refl, sym, ap, ◌∙◌}
use Rattle.std.specs.Prelude.{codes}
use Rattle.std.specs.Str.{bytes_eq}
use Rattle.std.proofs.lemmas.Slice.Eq.{bytes_eq-Decides}
use Rattle.std.specs.Option.{option_map}
use Rattle.std.proofs.lemmas.List.{append_assoc, append-nil}
use Rattle.lf_units.specs.declared.geometry.Point.{Point}
use Rattle.lf_orient.specs.declared.Orient.{Orient}
use Rattle.lf_lex.specs.declared.fault.ReadFault.{ReadFault}
use Rattle.lf_lex.specs.Tokens.{Lexed, Lexeme, with_token, with_tokens}
use Rattle.lf_lex.specs.Reading.{◌>>=◌, ReadValue, Turn, taken, turn, token, first_token, lexed_after, is, name, keyword, statements, block}
use Rattle.lf_lex.proofs.Runs.{left, ok_is, with_both}
use Rattle.lf_def.specs.declared.section.Due.{Due}
use Rattle.lf_def.specs.declared.section.Due.TheVariants.{Item, Keyword, Rest, Separator}
use Rattle.lf_def.specs.declared.components.Component.{Component}
use Rattle.lf_def.specs.declared.components.ComponentParts.{ComponentParts}
use Rattle.lf_def.specs.declared.components.LocatedPlace.{LocatedPlace}
use Rattle.lf_def.specs.declared.components.PlacementClause.{PlacementClause}
use Rattle.lf_def.specs.declared.components.PlacementKind.{PlacementKind}
use Rattle.lf_def.specs.declared.components.PlacementKind.TheVariants.{Fixed, Cover, Placed}
use Rattle.lf_def.specs.Coordinates.{dbu_of, dbu, point_rest, orient_of}
use Rattle.lf_def.specs.Components.{located_rest, placed_clause, unplaced_clause, is_placement_word, placement, only_placement, clause, up_to_stop, unplaced_point}
use Rattle.lf_def.specs.Components.{component_part, component_from, component_token, no_component, component}
use Rattle.lf_def.specs.Laws.{IsPlace, LastEnds, ClauseAmong, HasClause, ComponentsHaveClauses}
use Rattle.lf_def.proofs.Kept.{name_local}
use Rattle.lf_lex.proofs.Splicing.{and_true}

not_both : true ≡ false → ⊥
not_both e = cc

-- The steps of a chain of readers that gave a value.
pub bind_ok : {A B : Type 0} (o : Result A ReadFault) (k : A → Result B ReadFault) (y : B) → (o >>= k) ≡ Ok y → (x : A) × (o ≡ Ok x) × (k x ≡ Ok y)
bind_ok (Ok x) k y e = (x, refl, e)
bind_ok (Err q) k y e = absurd cc

first_ok : {B : Type 0} (ts : List Lexeme) (l : Lexed) (k : ReadValue Lexeme → Result B ReadFault) (y : B) → l ≡ lexed_after ts l → (first_token ts l >>= k) ≡ Ok y
    → (t : Lexeme) × (n : Lexed) × (l ≡ with_token t n) × (k (left t n) ≡ Ok y)
first_ok [] l k y w e = absurd cc
first_ok (t ∷ ts) l k y w e = (t, lexed_after ts l, w, e)

pub token_ok : {B : Type 0} (l : Lexed) (k : ReadValue Lexeme → Result B ReadFault) (y : B) → (token l >>= k) ≡ Ok y
    → (t : Lexeme) × (n : Lexed) × (l ≡ with_token t n) × (k (left t n) ≡ Ok y)
token_ok l k y e = first_ok l.tokens l k y refl e

pub if_ok : {B : Type 0} (c : Bool) (x : Result B ReadFault) (q : ReadFault) (y : B) → cond c x (Err q) ≡ Ok y → (c ≡ true) × (x ≡ Ok y)
if_ok true x q y e = (refl, e)
if_ok false x q y e = absurd cc

keyword_ok : (w : List ℕ) (l m : Lexed) (u : Unit {0}) → keyword w l ≡ taken u m → (t : Lexeme) × (l ≡ with_token t m) × (is w t ≡ true)
unfolding keyword
keyword_ok w l m u e =
    let a = token_ok l _ _ e in
    let b = if_ok _ _ _ _ a.3 in
    let c = ok_is tt a.1 u m b.1 in
    (a.0, a.2 ∙ ap (λ (z : Lexed). with_token a.0 z) c.1, b.0)

dbu_ok : (l m : Lexed) (v : ℤ) → dbu l ≡ taken v m → (t : Lexeme) × (l ≡ with_token t m)
unfolding dbu
dbu_ok l m v e =
    let a = token_ok l _ _ e in
    let b = bind_ok (dbu_of a.0) _ _ a.3 in
    let c = ok_is b.0 a.1 v m b.2 in
    (a.0, a.2 ∙ ap (λ (z : Lexed). with_token a.0 z) c.1)

point_ok : (l m : Lexed) (p : Point) → point_rest l ≡ taken p m → (x : Lexeme) × (y : Lexeme) × (t : Lexeme) × (l ≡ with_tokens (x ∷ y ∷ t ∷ []) m)
    × (is (codes ")") t ≡ true)
unfolding point_rest
point_ok l m p e =
    let a = bind_ok (dbu l) _ _ e in
    let a1 = dbu_ok l a.0.rest a.0.value a.1 in
    let b = bind_ok (dbu a.0.rest) _ _ a.2 in
    let b1 = dbu_ok a.0.rest b.0.rest b.0.value b.1 in
    let c = bind_ok (keyword (codes ")") b.0.rest) _ _ b.2 in
    let c1 = keyword_ok (codes ")") b.0.rest c.0.rest c.0.value c.1 in
    let d = ok_is (record { x = a.0.value; y = b.0.value }) c.0.rest p m c.2 in (
      a1.0,
      b1.0,
      c1.0,
      a1.1 ∙ ap (λ (z : Lexed). with_token a1.0 z)
          (b1.1 ∙ ap (λ (z : Lexed). with_token b1.0 z) (c1.1 ∙ ap (λ (z : Lexed). with_token c1.0 z) d.1)),
      c1.2,
    )

-- The tokens of a place after its first parenthesis.
pub record PlaceRun (l m : Lexed) (p : LocatedPlace) : Type 0 where
  pub x : Lexeme
  pub y : Lexeme
  pub closing : Lexeme
  pub orient : Lexeme
  pub whole : l ≡ with_tokens (x ∷ y ∷ closing ∷ orient ∷ []) m
  pub closing_is : is (codes ")") closing ≡ true
  pub named : (o : Orient) × (orient_of orient ≡ Ok o)
  pub stop : orient.stop ≡ p.stop

pub located_ok : (l m : Lexed) (p : LocatedPlace) → located_rest l ≡ taken p m → PlaceRun l m p
unfolding located_rest
located_ok l m p e =
    let a = bind_ok (point_rest l) _ _ e in
    let a1 = point_ok l a.0.rest a.0.value a.1 in
    let b = token_ok a.0.rest _ _ a.2 in
    let c = bind_ok (orient_of b.0) _ _ b.3 in
    let d = ok_is (record { location = record { x = a.0.value.x; y = a.0.value.y; orient = c.0 }; stop = b.0.stop }) b.1 p m c.2 in
    record {
      x = a1.0;
      y = a1.1;
      closing = a1.2;
      orient = b.0;
      whole = a1.3 ∙ ap (λ (z : Lexed). with_tokens (a1.0 ∷ a1.1 ∷ a1.2 ∷ []) z) (b.2 ∙ ap (λ (z : Lexed). with_token b.0 z) d.1);
      closing_is = a1.4;
      named = (c.0, c.1);
      stop = ap (λ (z : LocatedPlace). z.stop) d.0;
    }

-- The tokens of a placement after its word.
pub record MoreRun (plus : ℕ) (t : Lexeme) (l m : Lexed) (p : PlacementClause) : Type 0 where
  pub more : List Lexeme
  pub whole : l ≡ with_tokens more m
  pub more_is : ((is (codes "UNPLACED") t ≡ true) × (more ≡ [])) ⊎ IsPlace more
  pub bare : is (codes "UNPLACED") t ≡ true → more ≡ []
  pub start : p.start ≡ plus
  pub stop : LastEnds p.stop t more

placed_ok : (kind : PlacementKind) (plus : ℕ) (t : Lexeme) (l m : Lexed) (p : PlacementClause) → (is (codes "UNPLACED") t ≡ true → ⊥) → placed_clause kind plus l ≡ taken p m
    → MoreRun plus t l m p
unfolding placed_clause
placed_ok kind plus t l m p u e =
    let a = bind_ok (keyword (codes "(") l) _ _ e in
    let a1 = keyword_ok (codes "(") l a.0.rest a.0.value a.1 in
    let b = bind_ok (located_rest a.0.rest) _ _ a.2 in
    let r = located_ok a.0.rest b.0.rest b.0.value b.1 in
    let d = ok_is (record { kind = kind; place = Some b.0.value.location; start = plus; stop = b.0.value.stop }) b.0.rest p m b.2 in
    record {
      more = a1.0 ∷ r.x ∷ r.y ∷ r.closing ∷ r.orient ∷ [];
      whole = a1.1 ∙ ap (λ (z : Lexed). with_token a1.0 z) (r.whole ∙ ap (λ (z : Lexed). with_tokens (r.x ∷ r.y ∷ r.closing ∷ r.orient ∷ []) z) d.1);
      more_is = inr (a1.2, r.closing_is, r.named);
      bare = λ h. absurd (u h);
      start = sym (ap (λ (z : PlacementClause). z.start) d.0);
      stop = r.stop ∙ ap (λ (z : PlacementClause). z.stop) d.0;
    }

unplaced_ok : (plus : ℕ) (t : Lexeme) (l m : Lexed) (p : PlacementClause) → is (codes "UNPLACED") t ≡ true
    → ◌≡◌ {A = Result (ReadValue PlacementClause) ReadFault} (taken (unplaced_clause plus t) l) (taken p m) → MoreRun plus t l m p
unplaced_ok plus t l m p u e =
    let d = ok_is (unplaced_clause plus t) l p m e in
    record {
      more = [];
      whole = d.1;
      more_is = inl (u, refl);
      bare = λ h. refl;
      start = sym (ap (λ (z : PlacementClause). z.start) d.0);
      stop =
          ap (λ (z : PlacementClause). z.stop) d.0;
    }

text_is : (w : List ℕ) (t : Lexeme) → is w t ≡ true → t.text ≡ w
text_is w t h = (bytes_eq-Decides t.text w).0 h

-- A token does not have the bytes of two different words.
not_two : (v w : List ℕ) (t : Lexeme) → bytes_eq v w ≡ false → is v t ≡ true → is w t ≡ true → ⊥
not_two v w t other h k = let e : bytes_eq v w ≡ true = rw (text_is v t h) at k in absurd (not_both (sym e ∙ other))

kind_ok : (a b c d : Bool) (plus : ℕ) (t : Lexeme) (l m : Lexed) (p : PlacementClause) → is (codes "FIXED") t ≡ a → is (codes "COVER") t ≡ b
    → is (codes "PLACED") t ≡ c → is (codes "UNPLACED") t ≡ d → (a || b || c || d) ≡ true
    → cond a (placed_clause Fixed plus l) (cond b (placed_clause Cover plus l) (cond c (placed_clause Placed plus l) (taken (unplaced_clause plus t) l))) ≡ taken p m → MoreRun plus t l m p
kind_ok true b c d plus t l m p x y z u w e = placed_ok Fixed plus t l m p (not_two (codes "FIXED") (codes "UNPLACED") t refl x) e
kind_ok false true c d plus t l m p x y z u w e = placed_ok Cover plus t l m p (not_two (codes "COVER") (codes "UNPLACED") t refl y) e
kind_ok false false true d plus t l m p x y z u w e = placed_ok Placed plus t l m p (not_two (codes "PLACED") (codes "UNPLACED") t refl z) e
kind_ok false false false true plus t l m p x y z u w e = unplaced_ok plus t l m p u e
kind_ok false false false false plus t l m p x y z u w e = absurd cc

placement_ok : (plus : ℕ) (t : Lexeme) (l m : Lexed) (p : PlacementClause) → is_placement_word t ≡ true → placement plus t l ≡ taken p m → MoreRun plus t l m p
unfolding placement
placement_ok plus t l m p w e = kind_ok (is (codes "FIXED") t) (is (codes "COVER") t) (is (codes "PLACED") t)
    (is (codes "UNPLACED") t) plus t l m p refl refl refl refl w e

only_ok : (first : Option PlacementClause) (plus : ℕ) (t : Lexeme) (l m : Lexed) (p : PlacementClause) → is_placement_word t ≡ true
    → only_placement first plus t l ≡ taken p m → MoreRun plus t l m p
unfolding only_placement
only_ok None plus t l m p w e = placement_ok plus t l m p w e
only_ok (Some first) plus t l m p w e = absurd cc

-- Facts about the tokens of a component that were read so far.

-- The tokens end with a plus.
pub record EndsPlus (r : List Lexeme) (plus : ℕ) : Type 0 where
  pub front : List Lexeme
  pub last : Lexeme
  pub whole : r ≡ front ++ last ∷ []
  pub last_is : is (codes "+") last ≡ true
  pub start : plus ≡ last.start

-- The tokens end with a placement clause that has no place so far.
pub record EndsBare (r : List Lexeme) (placement : Option PlacementClause) : Type 0 where
  pub front : List Lexeme
  pub plus : Lexeme
  pub word : Lexeme
  pub p : PlacementClause
  pub whole : r ≡ front ++ plus ∷ word ∷ []
  pub plus_is : is (codes "+") plus ≡ true
  pub word_is : is_placement_word word ≡ true
  pub placement_is : placement ≡ Some p
  pub start : p.start ≡ plus.start

pub record Known (r : List Lexeme) (s : ComponentParts) : Type 0 where
  pub clause : HasClause r s.placement
  pub plus : s.due ≡ Keyword → EndsPlus r s.plus
  pub bare : s.due ≡ Separator → s.point ≡ true → EndsBare r s.placement

-- The clause is also among more tokens at the end.
wider : (r : List Lexeme) (more : List Lexeme) (p : Option PlacementClause) → HasClause r p → HasClause (r ++ more) p
wider r more None h = tt
wider r more (Some p) h =
    record {
      before = h.before;
      clause = h.clause;
      after = h.after ++ more;
      whole = ap (λ (z : List Lexeme). z ++ more) h.whole ∙ append_assoc h.before (h.clause ++ h.after) more
          ∙ ap (λ (z : List Lexeme). h.before ++ z) (append_assoc h.clause h.after more);
      is = h.is;
    }

-- One turn: the tokens that it takes, and the facts after it.
pub record Step (r : List Lexeme) (l m : Lexed) (s : ComponentParts) : Type 0 where
  pub run : List Lexeme
  pub whole : l ≡ with_tokens run m
  pub known : Known (r ++ run) s

pub record Last (r : List Lexeme) (l m : Lexed) (s : ComponentParts) : Type 0 where
  pub run : List Lexeme
  pub whole : l ≡ with_tokens run m
  pub last : Lexeme
  pub run_is : run ≡ last ∷ []
  pub last_is : is (codes ";") last ≡ true
  pub semicolon : s.semicolon ≡ last.start
  pub clause : HasClause r s.placement

abbrev Turned : List Lexeme → Lexed → Lexed → Turn ComponentParts → Type 0
Turned r l m t = (t.more ≡ true → Step r l m t.state) × (t.more ≡ false → Last r l m t.state)

not_either : false ≡ true → ⊥
not_either e = cc

goes : (r : List Lexeme) (l m : Lexed) (s : ComponentParts) (t : Turn ComponentParts) → turn s true ≡ t → Step r l m s → Turned r l m t
goes r l m s t e f = rw (sym e) ((λ h. f), (λ h. absurd (not_both h)))

ended : (r : List Lexeme) (l m : Lexed) (s : ComponentParts) (t : Turn ComponentParts) → turn s false ≡ t → Last r l m s → Turned r l m t
ended r l m s t e f = rw (sym e) ((λ h. absurd (not_either h)), (λ h. f))

item_not_keyword : Item ≡ Keyword → ⊥
item_not_keyword e = cc

item_not_separator : Item ≡ Separator → ⊥
item_not_separator e = cc

rest_not_keyword : Rest ≡ Keyword → ⊥
rest_not_keyword e = cc

rest_not_separator : Rest ≡ Separator → ⊥
rest_not_separator e = cc

keyword_not_separator : Keyword ≡ Separator → ⊥
keyword_not_separator e = cc

separator_not_keyword : Separator ≡ Keyword → ⊥
separator_not_keyword e = cc

-- A token that is skipped.
passed : (r : List Lexeme) (l m n : Lexed) (s : ComponentParts) (u : Lexeme) → Known r s → (s.due ≡ Keyword → ⊥) → (s.due ≡ Separator → ⊥) → l ≡ with_token u n
    → n ≡ m → Step r l m s
passed r l m n s u k no_keyword no_separator w e =
    record {
      run = u ∷ [];
      whole = w ∙ ap (λ (z : Lexed). with_token u z) e;
      known = record { clause = wider r (u ∷ []) s.placement k.clause; plus = λ h. absurd (no_keyword h); bare = λ h x. absurd (no_separator h) };
    }

abbrev placed_state : ComponentParts → Lexeme → PlacementClause → ComponentParts
placed_state s u p = record s { placement = Some p; due = Separator; point = is (codes "UNPLACED") u }

clause_whole : (r front : List Lexeme) (last u : Lexeme) (more : List Lexeme) → r ≡ front ++ last ∷ [] → r ++ u ∷ more ≡ front ++ (last ∷ u ∷ more)
clause_whole r front last u more e = ap (λ (z : List Lexeme). z ++ u ∷ more) e ∙ append_assoc front (last ∷ []) (u ∷ more)

with_nil : (front back : List Lexeme) → front ++ back ≡ front ++ (back ++ [])
with_nil front back = ap (λ (z : List Lexeme). front ++ z) (sym (append-nil back))

placed_step : (r : List Lexeme) (l m n rest : Lexed) (s : ComponentParts) (u : Lexeme) (p : PlacementClause) → EndsPlus r s.plus → is_placement_word u ≡ true
    → l ≡ with_token u n → MoreRun s.plus u n rest p → rest ≡ m → Step r l m (placed_state s u p)
placed_step r l m n rest s u p ends w whole f e =
    let all = clause_whole r ends.front ends.last u f.more ends.whole in
    record {
      run = u ∷ f.more;
      whole = whole ∙ ap (λ (z : Lexed). with_token u z) (f.whole ∙ ap (λ (z : Lexed). with_tokens f.more z) e);
      known = record {
        clause = record {
          before = ends.front;
          clause = ends.last ∷ u ∷ f.more;
          after = [];
          whole = all ∙ with_nil ends.front (ends.last ∷ u ∷ f.more);
          is = record {
            plus = ends.last;
            word = u;
            more = f.more;
            tokens = refl;
            plus_is = ends.last_is;
            word_is = w;
            more_is = f.more_is;
            start = f.start
                ∙ ends.start;
            stop = f.stop;
          };
        };
        plus = λ h. absurd (separator_not_keyword h);
        bare = λ h x. record {
          front = ends.front;
          plus = ends.last;
          word = u;
          p = p;
          whole = all
              ∙ ap (λ (z : List Lexeme). ends.front ++ ends.last ∷ u ∷ z) (f.bare x);
          plus_is = ends.last_is;
          word_is = w;
          placement_is = refl;
          start = f.start
              ∙ ends.start;
        };
      };
    }

clause_turn : (c : Bool) (r : List Lexeme) (l m n : Lexed) (s : ComponentParts) (u : Lexeme) (t : Turn ComponentParts) → Known r s → s.due ≡ Keyword
    → l ≡ with_token u n → is_placement_word u ≡ c
    → cond {A = Result (ReadValue (Turn ComponentParts)) ReadFault} c
    (only_placement s.placement s.plus u n >>= λ p. taken (turn (placed_state s u p.value) true) p.rest)
    (taken (turn (record s { due = Rest }) true) n) ≡ taken t m → Turned r l m t
clause_turn true r l m n s u t k due w h e =
    let a = bind_ok (only_placement s.placement s.plus u n) _ _ e in
    let f = only_ok s.placement s.plus u n a.0.rest a.0.value h a.1 in
    let d = ok_is (turn (placed_state s u a.0.value) true) a.0.rest t m a.2 in
    goes r l m (placed_state s u a.0.value) t d.0 (placed_step r l m n a.0.rest s u a.0.value (k.plus due) h w f d.1)
clause_turn false r l m n s u t k due w h e =
    let d = ok_is (turn (record s { due = Rest }) true) n t m e in
    goes r l m (record s { due = Rest }) t d.0 (record {
      run = u ∷ [];
      whole = w ∙ ap (λ (z : Lexed). with_token u z) d.1;
      known = record { clause = wider r (u ∷ []) s.placement k.clause; plus = λ h. absurd (rest_not_keyword h); bare = λ h x. absurd (rest_not_separator h) };
    })

abbrev point_state : ComponentParts → ℕ → ComponentParts
point_state s stop = record s { placement = option_map (up_to_stop stop) s.placement; point = false }

longer : (tokens : List Lexeme) (p : Option PlacementClause) (q : PlacementClause) (stop : ℕ) → p ≡ Some q → ClauseAmong tokens (record q { stop = stop })
    → HasClause tokens (option_map (up_to_stop stop) p)
longer tokens p q stop e c = rw e c

point_step : (r : List Lexeme) (l m n rest : Lexed) (s : ComponentParts) (u : Lexeme) (q : LocatedPlace) → EndsBare r s.placement → s.due ≡ Separator
    → is (codes "(") u ≡ true → l ≡ with_token u n → PlaceRun n rest q → rest ≡ m → Step r l m (point_state s q.stop)
point_step r l m n rest s u q b due o w f e =
    let run = u ∷ f.x ∷ f.y ∷ f.closing ∷ f.orient ∷ [] in
    let all = ap (λ (z : List Lexeme). z ++ u ∷ f.x ∷ f.y ∷ f.closing ∷ f.orient ∷ []) b.whole
    ∙ append_assoc b.front (b.plus ∷ b.word ∷ []) (u ∷ f.x ∷ f.y ∷ f.closing ∷ f.orient ∷ []) in
    record {
      run = u ∷ f.x ∷ f.y ∷ f.closing ∷ f.orient ∷ [];
      whole = w ∙ ap (λ (z : Lexed). with_token u z) (f.whole ∙ ap (λ (z : Lexed). with_tokens (f.x ∷ f.y ∷ f.closing ∷ f.orient ∷ []) z) e);
      known = record {
        clause = longer _ s.placement b.p q.stop b.placement_is (record {
          before = b.front;
          clause = b.plus ∷ b.word ∷ u ∷ f.x ∷ f.y ∷ f.closing ∷ f.orient ∷ [];
          after = [];
          whole = all ∙ with_nil b.front (b.plus ∷ b.word ∷ u ∷ f.x ∷ f.y ∷ f.closing ∷ f.orient ∷ []);
          is = record {
            plus = b.plus;
            word = b.word;
            more = u ∷ f.x ∷ f.y ∷ f.closing ∷ f.orient ∷ [];
            tokens = refl;
            plus_is = b.plus_is;
            word_is =
                b.word_is;
            more_is = inr (o, f.closing_is, f.named);
            start = b.start;
            stop = f.stop;
          };
        });
        plus = λ h. absurd (separator_not_keyword (sym due ∙ h));
        bare = λ h x. absurd (not_either x);
      };
    }

point_turn : (r : List Lexeme) (l m n : Lexed) (s : ComponentParts) (u : Lexeme) (t : Turn ComponentParts) → Known r s → s.due ≡ Separator → l ≡ with_token u n
    → (s.point && is (codes "(") u) ≡ true → unplaced_point s n ≡ taken t m → Turned r l m t
unfolding unplaced_point
point_turn r l m n s u t k due w h e =
    let b = and_true s.point (is (codes "(") u) h in
    let a = bind_ok (located_rest n) _ _ e in
    let f = located_ok n a.0.rest a.0.value a.1 in
    let d = ok_is (turn (point_state s a.0.value.stop) true) a.0.rest t m a.2 in
    goes r l m (point_state s a.0.value.stop) t d.0 (point_step r l m n a.0.rest s u a.0.value (k.bare due b.0) due b.1 w f d.1)

part_turn : (due : Due) (r : List Lexeme) (l m n : Lexed) (s : ComponentParts) (u : Lexeme) (t : Turn ComponentParts) → Known r s → s.due ≡ due
    → l ≡ with_token u n → component_part due s u n ≡ taken t m → Turned r l m t
unfolding component_part clause
part_turn Item r l m n s u t k due w e =
    let d = ok_is (turn s true) n t m e in
    goes r l m s t d.0 (passed r l m n s u k (λ h. item_not_keyword (sym due ∙ h)) (λ h. item_not_separator (sym due ∙ h)) w d.1)
part_turn Keyword r l m n s u t k due w e = clause_turn (is_placement_word u) r l m n s u t k due w refl e
part_turn Rest r l m n s u t k due w e =
    let d = ok_is (turn s true) n t m e in
    goes r l m s t d.0 (passed r l m n s u k (λ h. rest_not_keyword (sym due ∙ h)) (λ h. rest_not_separator (sym due ∙ h)) w d.1)
part_turn Separator r l m n s u t k due w e =
    let a = if_ok (s.point && is (codes "(") u) _ _ _ e in
    point_turn r l m n s u t k due w a.0 a.1

from_turn : (c d : Bool) (r : List Lexeme) (l m n : Lexed) (s : ComponentParts) (u : Lexeme) (t : Turn ComponentParts) → Known r s → l ≡ with_token u n
    → is (codes ";") u ≡ c → is (codes "+") u ≡ d
    → cond {A = Result (ReadValue (Turn ComponentParts)) ReadFault} c (taken (turn (record s { semicolon = u.start }) false) n)
    (cond d (taken (turn (record s { due = Keyword; plus = u.start }) true) n) (component_part s.due s u n)) ≡ taken t m → Turned r l m t
from_turn true d r l m n s u t k w x y e =
    let g = ok_is (turn (record s { semicolon = u.start }) false) n t m e in
    ended r l m (record s { semicolon = u.start }) t g.0 (record {
      run = u ∷ [];
      whole = w ∙ ap (λ (z : Lexed). with_token u z) g.1;
      last = u;
      run_is =
          refl;
      last_is = x;
      semicolon = refl;
      clause = k.clause;
    })
from_turn false true r l m n s u t k w x y e =
    let g = ok_is (turn (record s { due = Keyword; plus = u.start }) true) n t m e in
    goes r l m (record s { due = Keyword; plus = u.start }) t g.0 (record {
      run = u ∷ [];
      whole = w ∙ ap (λ (z : Lexed). with_token u z) g.1;
      known = record {
        clause = wider r (u ∷ []) s.placement k.clause;
        plus =
            λ h. record { front = r; last = u; whole = refl; last_is = y; start = refl };
        bare = λ h z. absurd (keyword_not_separator h);
      };
    })
from_turn false false r l m n s u t k w x y e = part_turn s.due r l m n s u t k refl w e

token_turn : (r : List Lexeme) (l m : Lexed) (s : ComponentParts) (t : Turn ComponentParts) → Known r s → component_token s l ≡ taken t m → Turned r l m t
unfolding component_token component_from
token_turn r l m s t k e =
    let a = token_ok l _ _ e in
    from_turn (is (codes ";") a.0) (is (codes "+") a.0) r l m a.1 s a.0 t k a.2 refl refl a.3

-- The tokens up to the semicolon.
record Ended (r : List Lexeme) (l m : Lexed) (s : ComponentParts) : Type 0 where
  pub front : List Lexeme
  pub last : Lexeme
  pub whole : l ≡ with_tokens (front ++ last ∷ []) m
  pub last_is : is (codes ";") last ≡ true
  pub semicolon : s.semicolon ≡ last.start
  pub clause : HasClause (r ++ front) s.placement

last_turn : (r : List Lexeme) (l m n : Lexed) (s y : ComponentParts) → Last r l n s → s ≡ y → n ≡ m → Ended r l m y
last_turn r l m n s y f e g =
    rw (sym e) (record {
      front = [];
      last = f.last;
      whole = f.whole ∙ ap (λ (z : List Lexeme). with_tokens z n) f.run_is
          ∙ ap (λ (z : Lexed). with_token f.last z) g;
      last_is = f.last_is;
      semicolon = f.semicolon;
      clause = wider r [] s.placement f.clause;
    })

more_turns : (r : List Lexeme) (l m n : Lexed) (s y : ComponentParts) → (f : Step r l n s) → Ended (r ++ f.run) n m y → Ended r l m y
more_turns r l m n s y f g =
    let there = append_assoc r f.run g.front in
    record {
      front = f.run ++ g.front;
      last = g.last;
      whole = f.whole ∙ ap (λ (z : Lexed). with_tokens f.run z) g.whole ∙ sym (with_both f.run (g.front ++ g.last ∷ []) m)
          ∙ ap (λ (z : List Lexeme). with_tokens z m) (sym (append_assoc f.run g.front (g.last ∷ [])));
      last_is = g.last_is;
      semicolon = g.semicolon;
      clause = rw there at g.clause;
    }

turns_by : (n : ℕ) (r : List Lexeme) (l m : Lexed) (y : ComponentParts) (t : Turn ComponentParts) (rest : Lexed) → Turned r l rest t
    → ((r' : List Lexeme) → Known r' t.state → statements component_token n t.state rest ≡ taken y m → Ended r' rest m y)
    → (more : Bool) → t.more ≡ more → cond more (statements component_token n t.state rest) (taken t.state rest) ≡ taken y m → Ended r l m y
turns_by n r l m y t rest f next true h e = let g = f.0 h in more_turns r l m rest t.state y g (next (r ++ g.run) g.known e)
turns_by n r l m y t rest f next false h e = let d = ok_is t.state rest y m e in last_turn r l m rest t.state y (f.1 h) d.0 d.1

all_turns : (n : ℕ) (r : List Lexeme) (l m : Lexed) (s y : ComponentParts) → Known r s → statements component_token n s l ≡ taken y m → Ended r l m y
unfolding statements
all_turns zero r l m s y k e = absurd cc
all_turns (suc n) r l m s y k e =
    let a = bind_ok (component_token s l) _ _ e in
    turns_by n r l m y a.0.value a.0.rest (token_turn r l a.0.rest s a.0.value k a.1)
    (λ r' k' f. all_turns n r' a.0.rest m a.0.value.state y k' f) a.0.value.more refl a.2

-- The clause is also among more tokens at the front.
deeper : (more r : List Lexeme) (p : Option PlacementClause) → HasClause r p → HasClause (more ++ r) p
deeper more r None h = tt
deeper more r (Some p) h = record {
  before = more ++ h.before;
  clause = h.clause;
  after = h.after;
  whole = ap (λ (z : List Lexeme). more ++ z) h.whole
      ∙ sym (append_assoc more h.before (h.clause ++ h.after));
  is = h.is;
}

same_clause : (tokens : List Lexeme) (p q : Option PlacementClause) → p ≡ q → HasClause tokens p → HasClause tokens q
same_clause tokens p q h x = rw h at x

nothing_known : Known [] no_component
nothing_known = record { clause = tt; plus = λ h. absurd (item_not_keyword h); bare = λ h x. absurd (item_not_separator h) }

pub components_have_clauses : ComponentsHaveClauses
unfolding component
components_have_clauses l m c e =
    let a = bind_ok (name l) _ _ e in
    let a1 = name_local l a.0.rest a.0.value a.1 in
    let b = bind_ok (name a.0.rest) _ _ a.2 in
    let b1 = name_local a.0.rest b.0.rest b.0.value b.1 in
    let d = bind_ok (block component_token no_component b.0.rest) _ _ b.2 in
    let f = all_turns _ [] b.0.rest d.0.rest no_component d.0.value nothing_known d.1 in
    let g = ok_is (record { name = a.0.value.text; mac = b.0.value.text; placement = d.0.value.placement; semicolon = d.0.value.semicolon }) d.0.rest c m d.2 in
    let front = a1.run ++ (b1.run ++ f.front) in
    let one = f.whole ∙ ap (λ (z : Lexed). with_tokens (f.front ++ f.last ∷ []) z) g.1 in
    let two = b1.whole ∙ ap (λ (z : Lexed). with_tokens b1.run z) one ∙ sym (with_both b1.run (f.front ++ f.last ∷ []) m) in
    let three = a1.whole ∙ ap (λ (z : Lexed). with_tokens a1.run z) two ∙ sym (with_both a1.run (b1.run ++ (f.front ++ f.last ∷ [])) m) in (
      a1.run ++ (b1.run ++ (f.front ++ f.last ∷ [])),
      three,
      record {
        front = a1.run ++ (b1.run ++ f.front);
        last = f.last;
        whole = sym (append_assoc a1.run (b1.run ++ f.front) (f.last ∷ []) ∙ ap (λ (z : List Lexeme). a1.run ++ z) (append_assoc b1.run f.front (f.last ∷ [])));
        last_is = f.last_is;
        semicolon = sym (ap (λ (z : Component). z.semicolon) g.0) ∙ f.semicolon;
        clause = same_clause _ _ _ (ap (λ (z : Component). z.placement) g.0)
            (deeper a1.run (b1.run ++ f.front) d.0.value.placement (deeper b1.run f.front d.0.value.placement f.clause));
      },
    )
