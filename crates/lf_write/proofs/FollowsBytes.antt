-- The tokens after the placement clause of a component are read alike, whatever the clause is.
use Rattle.std.proofs.Common.{◌≡◌, ◌⊎◌, ℕ, zero, suc, Bool, true, false, ◌&&◌, cond, List, [], ◌∷◌, Option, Some, None, Result, Ok, inl, inr, refl}
use Rattle.std.proofs.Common.{sym, ap, ◌∙◌}
use Rattle.std.specs.Prelude.{codes}
use Rattle.std.specs.Str.{bytes_eq}
use Rattle.std.specs.Option.{option_map}
use Rattle.std.proofs.lemmas.Slice.Eq.{bytes_eq-Decides}
use Rattle.lf_lex.specs.declared.fault.ReadFault.{ReadFault}
use Rattle.lf_lex.specs.Tokens.{Lexed, Lexeme, with_token, with_tokens}
use Rattle.lf_lex.specs.Reading.{◌>>=◌, ReadValue, Turn, taken, turn, is, statements}
use Rattle.lf_lex.proofs.Runs.{ok_is}
use Rattle.lf_lex.proofs.Splicing.{and_true}
use Rattle.lf_def.specs.declared.section.Due.{Due}
use Rattle.lf_def.specs.declared.section.Due.TheVariants.{Item, Keyword, Rest, Separator}
use Rattle.lf_def.specs.declared.components.ComponentParts.{ComponentParts}
use Rattle.lf_def.specs.declared.components.PlacementClause.{PlacementClause}
use Rattle.lf_def.specs.Components.{is_placement_word, only_placement, clause, up_to_stop, unplaced_point, component_part, component_from, component_token}
use Rattle.lf_def.specs.Laws.{IsPlace, LastEnds}
use Rattle.lf_def.proofs.Clauses.{bind_ok, token_ok, if_ok, located_ok}

-- The state of a component, with another clause.
abbrev pub swap : PlacementClause → Bool → ComponentParts → ComponentParts
swap q b s = record s { placement = Some q; point = b }

-- The state after the word and the place of the clause.
abbrev pub placed_state : ComponentParts → Lexeme → PlacementClause → ComponentParts
placed_state s u p = record s { placement = Some p; due = Separator; point = is (codes "UNPLACED") u }

-- One turn after the clause: with another clause the turn is the same.
pub record Swaps (q : PlacementClause) (b : Bool) (s : ComponentParts) (t : Turn ComponentParts) : Type 0 where
  pub kept : t.state.placement ≡ s.placement
  pub due : t.more ≡ true → t.state.due ≡ Separator → ⊥

abbrev Same : PlacementClause → Bool → Result (ReadValue (Turn ComponentParts)) ReadFault → ComponentParts → Turn ComponentParts → Lexed → Type 0
Same q b reading s t m = (reading ≡ taken (turn (swap q b t.state) t.more) m) × Swaps q b s t

-- A turn whose new state does not depend on the clause.
same : (q : PlacementClause) (b : Bool) (s s1 : ComponentParts) (more : Bool) (n m : Lexed) (t : Turn ComponentParts) → s1.placement ≡ s.placement
    → (more ≡ true → s1.due ≡ Separator → ⊥) → ◌≡◌ {A = Result (ReadValue (Turn ComponentParts)) ReadFault} (taken (turn s1 more) n) (taken t m)
    → Same q b (taken (turn (swap q b s1) more) n) s t m
same q b s s1 more n m t kept due e =
    let d = ok_is (turn s1 more) n t m e in (
      ap (λ (z : Turn ComponentParts). taken (turn (swap q b z.state) z.more) n) d.0 ∙ ap (λ (z : Lexed). taken (turn (swap q b t.state) t.more) z) d.1,
      record {
        kept = sym (ap (λ (z : Turn ComponentParts). z.state.placement) d.0) ∙ kept;
        due = λ more_is due_is. due (ap (λ (z : Turn ComponentParts). z.more) d.0 ∙ more_is) (ap (λ (z : Turn ComponentParts). z.state.due) d.0 ∙ due_is);
      },
    )

not_either : false ≡ true → ⊥
not_either e = cc

item_not : Item ≡ Separator → ⊥
item_not e = cc

rest_not : Rest ≡ Separator → ⊥
rest_not e = cc

keyword_not : Keyword ≡ Separator → ⊥
keyword_not e = cc

-- A second placement clause is a fault.
no_second : (first : Option PlacementClause) (p : PlacementClause) (plus : ℕ) (u : Lexeme) (l : Lexed) (x : ReadValue PlacementClause) → first ≡ Some p
    → only_placement first plus u l ≡ Ok x → ⊥
unfolding only_placement
no_second None p plus u l x e h = cc
no_second (Some first) p plus u l x e h = cc

swap_clause : (c : Bool) (q : PlacementClause) (b : Bool) (n m : Lexed) (s : ComponentParts) (u : Lexeme) (t : Turn ComponentParts) (p : PlacementClause)
    → s.placement ≡ Some p
    → cond {A = Result (ReadValue (Turn ComponentParts)) ReadFault} c
    (only_placement s.placement s.plus u n >>= λ x. taken (turn (placed_state s u x.value) true) x.rest)
    (taken (turn (record s { due = Rest }) true) n) ≡ taken t m
    → Same q b (cond {A = Result (ReadValue (Turn ComponentParts)) ReadFault} c
    (only_placement (Some q) s.plus u n >>= λ x. taken (turn (placed_state (swap q b s) u x.value) true) x.rest)
    (taken (turn (record (swap q b s) { due = Rest }) true) n)) s t m
swap_clause true q b n m s u t p has e = let a = bind_ok (only_placement s.placement s.plus u n) _ _ e in absurd
    (no_second s.placement p s.plus u n a.0 has a.1)
swap_clause false q b n m s u t p has e = same q b s (record s { due = Rest }) true n m t refl (λ x y. rest_not y) e

swap_part : (due : Due) (q : PlacementClause) (b : Bool) (n m : Lexed) (s : ComponentParts) (u : Lexeme) (t : Turn ComponentParts) (p : PlacementClause)
    → s.placement ≡ Some p
    → (due ≡ Separator → (s.point && is (codes "(") u) ≡ false) → s.due ≡ due → component_part due s u n ≡ taken t m
    → Same q b (component_part due (swap q b s) u n) s t m
unfolding component_part clause
swap_part Item q b n m s u t p has point d e = same q b s s true n m t refl (λ x y. item_not (sym d ∙ y)) e
swap_part Keyword q b n m s u t p has point d e = swap_clause (is_placement_word u) q b n m s u t p has e
swap_part Rest q b n m s u t p has point d e = same q b s s true n m t refl (λ x y. rest_not (sym d ∙ y)) e
swap_part Separator q b n m s u t p has point d e = let a = if_ok (s.point && is (codes "(") u) _ _ _ e in absurd (not_either (sym (point refl) ∙ a.0))

swap_from : (c d : Bool) (q : PlacementClause) (b : Bool) (n m : Lexed) (s : ComponentParts) (u : Lexeme) (t : Turn ComponentParts) (p : PlacementClause)
    → s.placement ≡ Some p
    → (s.due ≡ Separator → (s.point && is (codes "(") u) ≡ false)
    → cond {A = Result (ReadValue (Turn ComponentParts)) ReadFault} c (taken (turn (record s { semicolon = u.start }) false) n)
    (cond d (taken (turn (record s { due = Keyword; plus = u.start }) true) n) (component_part s.due s u n)) ≡ taken t m
    → Same q b (cond {A = Result (ReadValue (Turn ComponentParts)) ReadFault} c (taken (turn (record (swap q b s) { semicolon = u.start }) false) n)
    (cond d (taken (turn (record (swap q b s) { due = Keyword; plus = u.start }) true) n) (component_part s.due (swap q b s) u n))) s t m
swap_from true d q b n m s u t p has point e = same q b s (record s { semicolon = u.start }) false n m t refl (λ x y. not_either x) e
swap_from false true q b n m s u t p has point e = same q b s (record s { due = Keyword; plus = u.start }) true n m t refl (λ x y. keyword_not y) e
swap_from false false q b n m s u t p has point e = swap_part s.due q b n m s u t p has point refl e

swap_first : (q : PlacementClause) (b : Bool) (n m : Lexed) (s : ComponentParts) (u : Lexeme) (t : Turn ComponentParts) (p : PlacementClause) → s.placement ≡ Some p
    → (s.due ≡ Separator → (s.point && is (codes "(") u) ≡ false) → component_from s u n ≡ taken t m
    → Same q b (component_from (swap q b s) u n) s t m
unfolding component_from
swap_first q b n m s u t p has point e = swap_from (is (codes ";") u) (is (codes "+") u) q b n m s u t p has point e

-- All turns after the clause.
abbrev SameTurns : PlacementClause → Bool → ℕ → Lexed → Lexed → ComponentParts → ComponentParts → PlacementClause → Type 0
SameTurns q b n l m s y p = (statements component_token n (swap q b s) l ≡ taken (swap q b y) m) × (y.placement ≡ Some p)

swap_next : (n : ℕ) (q : PlacementClause) (b : Bool) (m rest : Lexed) (s y : ComponentParts) (p : PlacementClause) (t : Turn ComponentParts) → Swaps q b s t
    → s.placement ≡ Some p
    → (t.state.placement ≡ Some p → (t.state.due ≡ Separator → ⊥) → statements component_token n t.state rest ≡ taken y m → SameTurns q b n rest m t.state y p)
    → (more : Bool) → t.more ≡ more → cond more (statements component_token n t.state rest) (taken t.state rest) ≡ taken y m
    → (cond more (statements component_token n (swap q b t.state) rest) (taken (swap q b t.state) rest) ≡ taken (swap q b y) m) × (y.placement ≡ Some p)
swap_next n q b m rest s y p t f has next true more_is e = next (f.kept ∙ has) (f.due more_is) e
swap_next n q b m rest s y p t f has next false more_is e =
    let d = ok_is t.state rest y m e in (
      ap (λ (z : ComponentParts). taken (swap q b z) rest) d.0 ∙ ap (λ (z : Lexed). taken (swap q b y) z) d.1,
      sym (ap (λ (z : ComponentParts). z.placement) d.0) ∙ f.kept ∙ has,
    )

-- A turn, and what is read after it.
turn_then : (n : ℕ) (s s1 : ComponentParts) (l rest : Lexed) (more : Bool) (r : Result (ReadValue ComponentParts) ReadFault)
    → component_token s l ≡ taken (turn s1 more) rest
    → cond more (statements component_token n s1 rest) (taken s1 rest) ≡ r → statements component_token (suc n) s l ≡ r
unfolding statements
turn_then n s s1 l rest more r e f = rw e f

first_turn : (s : ComponentParts) (l n m : Lexed) (u : Lexeme) (t : Turn ComponentParts) → l ≡ with_token u n → component_from s u n ≡ taken t m
    → component_token s l ≡ taken t m
unfolding component_token
first_turn s l n m u t w e = rw w e

swap_all : (n : ℕ) (q : PlacementClause) (b : Bool) (l m : Lexed) (s y : ComponentParts) (p : PlacementClause) → s.placement ≡ Some p
    → (s.due ≡ Separator → s.point ≡ false)
    → statements component_token n s l ≡ taken y m → SameTurns q b n l m s y p
unfolding statements component_token
swap_all zero q b l m s y p has point e = absurd cc
swap_all (suc n) q b l m s y p has point e =
    let a = bind_ok (component_token s l) _ _ e in
    let u = token_ok l _ _ a.1 in
    let f = swap_first q b u.1 a.0.rest s u.0 a.0.value p has (λ h. no_point s.point (is (codes "(") u.0) (point h)) u.3 in
    let g = swap_next n q b m a.0.rest s y p a.0.value f.1 has (λ h k x. swap_all n q b a.0.rest m a.0.value.state y p h
    (λ z. absurd (k z)) x) a.0.value.more refl a.2 in
    (turn_then n (swap q b s) (swap q b a.0.value.state) l a.0.rest a.0.value.more _ (first_turn (swap q b s) l u.1 a.0.rest u.0 _ u.2 f.0) g.0, g.1)
  where
    no_point : (x y : Bool) → x ≡ false → (x && y) ≡ false
    no_point x y e = rw e refl

-- The tokens directly after the clause: perhaps the point of UNPLACED, and then other clauses up to
-- the semicolon.

pub record FollowsBytes (l m : Lexed) (s y : ComponentParts) (p : PlacementClause) : Type 0 where
  pub point : List Lexeme
  pub rest : Lexed
  pub whole : l ≡ with_tokens point rest
  pub placed : PlacementClause
  pub point_is : ((point ≡ []) × (placed ≡ p)) ⊎ ((s.point ≡ true) × IsPlace point × (placed ≡ up_to_stop placed.stop p)
      × ((u : Lexeme) → LastEnds placed.stop u point))
  pub placement : y.placement ≡ Some placed
  pub turns : ℕ
  pub same : (q : PlacementClause) (b : Bool) → statements component_token turns (swap q b s) rest ≡ taken (swap q b y) m

abbrev after_point : ComponentParts → ℕ → ComponentParts
after_point s stop = record s { placement = option_map (up_to_stop stop) s.placement; point = false }

point_stops : (stop : ℕ) (p : PlacementClause) (o : Option PlacementClause) → o ≡ Some p → option_map (up_to_stop stop) o ≡ Some (up_to_stop stop p)
point_stops stop p o e = rw e refl

not_both : (v w : List ℕ) (u : Lexeme) → bytes_eq v w ≡ false → is v u ≡ true → is w u ≡ false
not_both v w u other h = let e : u.text ≡ v = (bytes_eq-Decides u.text v).0 h in rw e other

point_due : (due : Due) (s : ComponentParts) (u : Lexeme) (n m : Lexed) (t : Turn ComponentParts) → due ≡ Separator → (s.point && is (codes "(") u) ≡ true
    → component_part due s u n ≡ taken t m → unplaced_point s n ≡ taken t m
unfolding component_part
point_due Item s u n m t d h e = absurd (item_not d)
point_due Keyword s u n m t d h e = absurd (keyword_not d)
point_due Rest s u n m t d h e = absurd (rest_not d)
point_due Separator s u n m t d h e = rw h at e

point_from : (s : ComponentParts) (u : Lexeme) (n m : Lexed) (t : Turn ComponentParts) → s.due ≡ Separator → (s.point && is (codes "(") u) ≡ true
    → component_from s u n ≡ taken t m → unplaced_point s n ≡ taken t m
unfolding component_from
point_from s u n m t d h e =
    let b = and_true s.point (is (codes "(") u) h in
    let x = not_both (codes "(") (codes ";") u refl b.1 in
    let y = not_both (codes "(") (codes "+") u refl b.1 in
    point_due s.due s u n m t d h (rw (x, y) at e)

-- The turn that reads the point.
pub record PointTurn (s : ComponentParts) (n m : Lexed) (t : Turn ComponentParts) : Type 0 where
  pub stop : ℕ
  pub x : Lexeme
  pub y : Lexeme
  pub closing : Lexeme
  pub orient : Lexeme
  pub whole : n ≡ with_tokens (x ∷ y ∷ closing ∷ orient ∷ []) m
  pub state : turn (after_point s stop) true ≡ t
  pub is_place : (u : Lexeme) → is (codes "(") u ≡ true → IsPlace (u ∷ x ∷ y ∷ closing ∷ orient ∷ [])
  pub ends : orient.stop ≡ stop

point_turn : (s : ComponentParts) (n m : Lexed) (t : Turn ComponentParts) → unplaced_point s n ≡ taken t m → PointTurn s n m t
unfolding unplaced_point
point_turn s n m t e =
    let a = bind_ok _ _ _ e in
    let f = located_ok n a.0.rest a.0.value a.1 in
    let d = ok_is (turn (after_point s a.0.value.stop) true) a.0.rest t m a.2 in
    record {
      stop = a.0.value.stop;
      x = f.x;
      y = f.y;
      closing = f.closing;
      orient = f.orient;
      whole = f.whole ∙ ap (λ (z : Lexed). with_tokens (f.x ∷ f.y ∷ f.closing ∷ f.orient ∷ []) z) d.1;
      state = d.0;
      is_place = λ u h. (h, f.closing_is, f.named);
      ends = f.stop;
    }

with_point : (n : ℕ) (l n1 m : Lexed) (s y : ComponentParts) (p : PlacementClause) (u : Lexeme) (rest : Lexed) (t : Turn ComponentParts) → s.placement ≡ Some p
    → s.due ≡ Separator → l ≡ with_token u n1 → (s.point && is (codes "(") u) ≡ true → PointTurn s n1 rest t
    → cond t.more (statements component_token n t.state rest) (taken t.state rest) ≡ taken y m → FollowsBytes l m s y p
with_point n l n1 m s y p u rest t has due w h f e =
    let b = and_true s.point (is (codes "(") u) h in
    let e' : statements component_token n (after_point s f.stop) rest ≡ taken y m =
    ap (λ (z : Turn ComponentParts). cond z.more (statements component_token n z.state rest) (taken z.state rest)) f.state ∙ e in
    let has' = point_stops f.stop p s.placement has in
    let g = swap_all n p false rest m (after_point s f.stop) y (up_to_stop f.stop p) has' (λ z. refl) e' in
    record {
      point = u ∷ f.x ∷ f.y ∷ f.closing ∷ f.orient ∷ [];
      rest = rest;
      whole = w ∙ ap (λ (z : Lexed). with_token u z) f.whole;
      placed = up_to_stop f.stop p;
      point_is = inr (b.0, f.is_place u b.1, refl, λ v. f.ends);
      placement = g.1;
      turns = n;
      same = λ q c. (swap_all n q c rest m (after_point s f.stop) y (up_to_stop f.stop p) has' (λ z. refl) e').0;
    }

no_point_here : (n : ℕ) (l n1 m : Lexed) (s y : ComponentParts) (p : PlacementClause) (u : Lexeme) (rest : Lexed) (t : Turn ComponentParts) → s.placement ≡ Some p
    → l ≡ with_token u n1 → (s.point && is (codes "(") u) ≡ false → component_from s u n1 ≡ taken t rest
    → cond t.more (statements component_token n t.state rest) (taken t.state rest) ≡ taken y m → (q : PlacementClause) (b : Bool) → SameTurns q b (suc n) l m s y p
no_point_here n l n1 m s y p u rest t has w h e k q b =
    let f = swap_first q b n1 rest s u t p has (λ z. h) e in
    let g = swap_next n q b m rest s y p t f.1 has (λ h d x. swap_all n q b rest m t.state y p h (λ z. absurd (d z)) x) t.more refl k in
    (turn_then n (swap q b s) (swap q b t.state) l rest t.more _ (first_turn (swap q b s) l n1 rest u _ w f.0) g.0, g.1)

after_by : (n : ℕ) (l n1 m : Lexed) (s y : ComponentParts) (p : PlacementClause) (u : Lexeme) (rest : Lexed) (t : Turn ComponentParts) → s.placement ≡ Some p
    → s.due ≡ Separator → l ≡ with_token u n1 → component_from s u n1 ≡ taken t rest
    → cond t.more (statements component_token n t.state rest) (taken t.state rest) ≡ taken y m
    → (test : Bool) → (s.point && is (codes "(") u) ≡ test → FollowsBytes l m s y p
after_by n l n1 m s y p u rest t has due w e k true h = with_point n l n1 m s y p u rest t has due w h
    (point_turn s n1 rest t (point_from s u n1 rest t due h e)) k
after_by n l n1 m s y p u rest t has due w e k false h = record {
  point = [];
  rest = l;
  whole = refl;
  placed = p;
  point_is = inl (refl, refl);
  placement = (no_point_here n l n1 m s y p u rest t has w h e k p false).1;
  turns = suc n;
  same = λ q b. (no_point_here n l n1 m s y p u rest t has w h e k q b).0;
}

pub after_clause : (n : ℕ) (l m : Lexed) (s y : ComponentParts) (p : PlacementClause) → s.placement ≡ Some p → s.due ≡ Separator
    → statements component_token n s l ≡ taken y m → FollowsBytes l m s y p
unfolding statements component_token
after_clause zero l m s y p has due e = absurd cc
after_clause (suc n) l m s y p has due e =
    let a = bind_ok (component_token s l) _ _ e in
    let u = token_ok l _ _ a.1 in
    after_by n l u.1 m s y p u.0 a.0.rest a.0.value has due u.2 u.3 a.2 (s.point && is (codes "(") u.0) refl
