-- The tokens up to the placement clause of a component, or up to its semicolon if it has no clause,
-- may be followed by any clause.
use Rattle.std.proofs.Common.{◌≡◌, ◌⊎◌, ℕ, zero, suc, Bool, true, false, ◌||◌, cond, List, [], ◌∷◌, ◌++◌, map, Option, Some, None, Result, Ok, inl}
use Rattle.std.proofs.Common.{inr, refl, sym, ap, ◌∙◌, arith}
use Rattle.std.specs.Prelude.{codes}
use Rattle.std.specs.Str.{bytes_eq}
use Rattle.std.proofs.lemmas.Slice.Eq.{bytes_eq-Decides}
use Rattle.std.proofs.lemmas.List.{append_assoc, append-nil, map-append}
use Rattle.lf_orient.specs.declared.Orient.{Orient}
use Rattle.lf_orient.specs.declared.Orient.TheVariants.{N, W, S, E, FN, FW, FS, FE}
use Rattle.lf_lex.specs.declared.fault.FaultNumber.TheVariants.{Unexpected}
use Rattle.lf_lex.specs.declared.fault.ReadFault.{ReadFault}
use Rattle.lf_lex.specs.Tokens.{Lexed, Lexeme, PlainToken, plain, with_token, with_tokens}
use Rattle.lf_lex.specs.Splices.{LastIs, is_word_text}
use Rattle.lf_lex.specs.Reading.{◌>>=◌, ReadValue, Turn, taken, turn, fault_at, is, keyword, statements}
use Rattle.lf_lex.proofs.Runs.{turn_bare, ok_is, with_both, same_run, turns_follow}
use Rattle.lf_lex.proofs.Back.{BackAt, TurnsAt, at_more}
use Rattle.lf_def.specs.declared.section.Due.{Due}
use Rattle.lf_def.specs.declared.section.Due.TheVariants.{Item, Keyword, Rest, Separator}
use Rattle.lf_def.specs.declared.components.ComponentParts.{ComponentParts}
use Rattle.lf_def.specs.declared.components.PlacementClause.{PlacementClause}
use Rattle.lf_def.specs.declared.components.PlacementKind.{PlacementKind}
use Rattle.lf_def.specs.declared.components.PlacementKind.TheVariants.{Fixed, Cover, Placed}
use Rattle.lf_def.specs.Coordinates.{orient_of}
use Rattle.lf_def.specs.Components.{located_rest, placed_clause, unplaced_clause, is_placement_word, placement, only_placement, clause, up_to_stop, component_part}
use Rattle.lf_def.specs.Components.{component_from}
use Rattle.lf_def.specs.Components.{component_token, no_component}
use Rattle.lf_def.specs.Laws.{IsPlace, LastEnds}
use Rattle.lf_def.proofs.Clauses.{bind_ok, token_ok, if_ok, located_ok, MoreRun}
use Rattle.lf_def.proofs.Places.{bare_parts, component_token_follows, component_token_goes}
use Rattle.lf_write.proofs.FollowsBytes.{placed_state, swap, after_clause}

-- The placement clause that was read.

keyword_ok : (w : List ℕ) (l m : Lexed) (u : Unit {0}) → keyword w l ≡ taken u m → (t : Lexeme) × (l ≡ with_token t m) × (is w t ≡ true)
unfolding keyword
keyword_ok w l m u e =
    let a = token_ok l _ _ e in
    let b = if_ok _ _ _ _ a.3 in
    let c = ok_is tt a.1 u m b.1 in
    (a.0, a.2 ∙ ap (λ (z : Lexed). with_token a.0 z) c.1, b.0)

placed_ok : (kind : PlacementKind) (plus : ℕ) (t : Lexeme) (l m : Lexed) (p : PlacementClause) → (is (codes "UNPLACED") t ≡ true → ⊥) → placed_clause kind plus l ≡ taken p m
    → MoreRun plus t l m p
unfolding placed_clause
placed_ok kind plus t l m p u e =
    let a = bind_ok (keyword (codes "(") l) _ _ e in
    let a1 = keyword_ok (codes "(") l a.0.rest a.0.value a.1 in
    let b = bind_ok (located_rest a.0.rest) _ _ a.2 in
    let r = located_ok a.0.rest b.0.rest b.0.value b.1 in
    let d = ok_is (record { kind = kind; place = Some b.0.value.location; start = plus; stop = b.0.value.stop }) b.0.rest p m b.2 in
    record {
      more = a1.0 ∷ r.x ∷ r.y ∷ r.closing ∷ r.orient ∷ [];
      whole = a1.1 ∙ ap (λ (z : Lexed). with_token a1.0 z) (r.whole ∙ ap (λ (z : Lexed). with_tokens (r.x ∷ r.y ∷ r.closing ∷ r.orient ∷ []) z) d.1);
      more_is = inr (a1.2, r.closing_is, r.named);
      bare = λ h. absurd (u h);
      start = sym (ap (λ (z : PlacementClause). z.start) d.0);
      stop = r.stop ∙ ap (λ (z : PlacementClause). z.stop) d.0;
    }

unplaced_ok : (plus : ℕ) (t : Lexeme) (l m : Lexed) (p : PlacementClause) → is (codes "UNPLACED") t ≡ true
    → ◌≡◌ {A = Result (ReadValue PlacementClause) ReadFault} (taken (unplaced_clause plus t) l) (taken p m) → MoreRun plus t l m p
unplaced_ok plus t l m p u e =
    let d = ok_is (unplaced_clause plus t) l p m e in
    record {
      more = [];
      whole = d.1;
      more_is = inl (u, refl);
      bare = λ h. refl;
      start = sym (ap (λ (z : PlacementClause). z.start) d.0);
      stop = ap (λ (z : PlacementClause). z.stop) d.0;
    }

text_is : (w : List ℕ) (t : Lexeme) → is w t ≡ true → t.text ≡ w
text_is w t h = (bytes_eq-Decides t.text w).0 h

not_both : true ≡ false → ⊥
not_both e = cc

not_either : false ≡ true → ⊥
not_either e = cc

not_two : (v w : List ℕ) (t : Lexeme) → bytes_eq v w ≡ false → is v t ≡ true → is w t ≡ true → ⊥
not_two v w t other h k = let e : bytes_eq v w ≡ true = rw (text_is v t h) at k in absurd (not_both (sym e ∙ other))

kind_ok : (a b c d : Bool) (plus : ℕ) (t : Lexeme) (l m : Lexed) (p : PlacementClause) → is (codes "FIXED") t ≡ a → is (codes "COVER") t ≡ b
    → is (codes "PLACED") t ≡ c → is (codes "UNPLACED") t ≡ d → (a || b || c || d) ≡ true
    → cond a (placed_clause Fixed plus l) (cond b (placed_clause Cover plus l) (cond c (placed_clause Placed plus l) (taken (unplaced_clause plus t) l))) ≡ taken p m → MoreRun plus t l m p
kind_ok true b c d plus t l m p x y z u w e = placed_ok Fixed plus t l m p (not_two (codes "FIXED") (codes "UNPLACED") t refl x) e
kind_ok false true c d plus t l m p x y z u w e = placed_ok Cover plus t l m p (not_two (codes "COVER") (codes "UNPLACED") t refl y) e
kind_ok false false true d plus t l m p x y z u w e = placed_ok Placed plus t l m p (not_two (codes "PLACED") (codes "UNPLACED") t refl z) e
kind_ok false false false true plus t l m p x y z u w e = unplaced_ok plus t l m p u e
kind_ok false false false false plus t l m p x y z u w e = absurd cc

only_ok : (first : Option PlacementClause) (plus : ℕ) (t : Lexeme) (l m : Lexed) (p : PlacementClause) → is_placement_word t ≡ true
    → only_placement first plus t l ≡ taken p m → MoreRun plus t l m p
unfolding only_placement placement
only_ok None plus t l m p w e = kind_ok (is (codes "FIXED") t) (is (codes "COVER") t) (is (codes "PLACED") t)
    (is (codes "UNPLACED") t) plus t l m p refl refl refl refl w e
only_ok (Some first) plus t l m p w e = absurd cc

-- Its last token is a word.

spelled : (w : List ℕ) (t : Lexeme) → is_word_text w ≡ true → is w t ≡ true → is_word_text t.text ≡ true
spelled w t h e = rw (text_is w t e) h

orient_spelled : (a b c d e f g h : Bool) (t : Lexeme) (v : Orient) → is (codes "N") t ≡ a → is (codes "W") t ≡ b → is (codes "S") t ≡ c → is (codes "E") t ≡ d
    → is (codes "FN") t ≡ e → is (codes "FW") t ≡ f → is (codes "FS") t ≡ g → is (codes "FE") t ≡ h
    → ◌≡◌ {A = Result Orient ReadFault} (cond a (Ok N) (cond b (Ok W)
    (cond c (Ok S) (cond d (Ok E) (cond e (Ok FN) (cond f (Ok FW) (cond g (Ok FS) (cond h (Ok FE) (fault_at Unexpected t.line))))))))) (Ok v)
    → is_word_text t.text ≡ true
orient_spelled true b c d e f g h t v p q r s k l m n x = spelled (codes "N") t refl p
orient_spelled false true c d e f g h t v p q r s k l m n x = spelled (codes "W") t refl q
orient_spelled false false true d e f g h t v p q r s k l m n x = spelled (codes "S") t refl r
orient_spelled false false false true e f g h t v p q r s k l m n x = spelled (codes "E") t refl s
orient_spelled false false false false true f g h t v p q r s k l m n x = spelled (codes "FN") t refl k
orient_spelled false false false false false true g h t v p q r s k l m n x = spelled (codes "FW") t refl l
orient_spelled false false false false false false true h t v p q r s k l m n x = spelled (codes "FS") t refl m
orient_spelled false false false false false false false true t v p q r s k l m n x = spelled (codes "FE") t refl n
orient_spelled false false false false false false false false t v p q r s k l m n x = absurd cc

orient_is_word : (t : Lexeme) (v : Orient) → orient_of t ≡ Ok v → is_word_text t.text ≡ true
orient_is_word t v e = orient_spelled (is (codes "N") t) (is (codes "W") t) (is (codes "S") t) (is (codes "E") t) (is (codes "FN") t) (is (codes "FW") t)
    (is (codes "FS") t) (is (codes "FE") t) t v refl refl refl refl refl refl refl refl e

place_ends : (stop : ℕ) (word : Lexeme) (more : List Lexeme) → IsPlace more → LastEnds stop word more → LastIs stop word more
place_ends stop word [] h e = absurd h
place_ends stop word (a ∷ []) h e = absurd h
place_ends stop word (a ∷ b ∷ []) h e = absurd h
place_ends stop word (a ∷ b ∷ c ∷ []) h e = absurd h
place_ends stop word (a ∷ b ∷ c ∷ d ∷ []) h e = absurd h
place_ends stop word (a ∷ b ∷ c ∷ d ∷ o ∷ []) h e = (e, orient_is_word o h.2.0 h.2.1)
place_ends stop word (a ∷ b ∷ c ∷ d ∷ o ∷ f ∷ g) h e = absurd h

clause_ends : (stop : ℕ) (word : Lexeme) (more : List Lexeme) → ((is (codes "UNPLACED") word ≡ true) × (more ≡ [])) ⊎ IsPlace more → LastEnds stop word more
    → LastIs stop word more
clause_ends stop word [] (inl h) e = (e, spelled (codes "UNPLACED") word refl h.0)
clause_ends stop word (t ∷ more) (inl h) e = absurd cc
clause_ends stop word more (inr h) e = place_ends stop word more h e

-- Tokens like those that were read lead to the same state.

-- Holds if tokens like these lead from the start to this state.
abbrev pub Reaches : List Lexeme → ComponentParts → Type 0
Reaches r s = (y : ComponentParts) (rest : List PlainToken)
    → ((s' : ComponentParts) → bare_parts s' ≡ bare_parts s → TurnsAt bare_parts component_token s' rest y)
    → TurnsAt bare_parts component_token no_component (map plain r ++ rest) y

nothing_read : Reaches [] no_component
nothing_read y rest next = next no_component refl

-- Tokens like those of a turn that continues make the same turn.
turn_again : (s s' : ComponentParts) (l m : Lexed) (t : Turn ComponentParts) (run : List Lexeme) → component_token s l ≡ taken t m → l ≡ with_tokens run m
    → bare_parts s' ≡ bare_parts s → BackAt (turn_bare bare_parts) (component_token s') (map plain run) t
turn_again s s' l m t run h w a p e =
    let f = component_token_follows s s' a l m t h in
    f.again p (e ∙ ap (λ (z : List Lexeme). map plain z) (same_run run f.run l m w f.whole))

one_more : (r : List Lexeme) (s : ComponentParts) (l m : Lexed) (t : Turn ComponentParts) (u : Lexeme) (more : List Lexeme) → Reaches r s
    → component_token s l ≡ taken t m → l ≡ with_tokens (u ∷ more) m → t.more ≡ true → Reaches (r ++ u ∷ more) t.state
one_more r s l m t u more reached h w goes y rest next =
    let run = u ∷ more in
    let split : map plain (r ++ u ∷ more) ++ rest ≡ map plain r ++ (map plain (u ∷ more) ++ rest) =
    ap (λ (z : List PlainToken). z ++ rest) (map-append plain r (u ∷ more)) ∙ append_assoc (map plain r) (map plain (u ∷ more)) rest in
    let goes_on : t ≡ turn t.state true = ap (λ (b : Bool). turn t.state b) goes in
    rw split (reached y (map plain (u ∷ more) ++ rest) (λ s' a.
    at_more bare_parts component_token s' t.state y (map plain (u ∷ more)) rest (omega arith)
    (λ p e. rw (sym goes_on) (turn_again s s' l m t (u ∷ more) h w a p e)) next))

-- The tokens in front of the clause.

-- The last token is a plus.
pub record EndsPlus (r : List Lexeme) (plus : ℕ) : Type 0 where
  pub front : List Lexeme
  pub last : Lexeme
  pub whole : r ≡ front ++ last ∷ []
  pub start : plus ≡ last.start
  pub old : ComponentParts
  pub none : old.placement ≡ None
  pub reached : Reaches front old

pub record Before (r : List Lexeme) (s : ComponentParts) : Type 0 where
  pub none : s.placement ≡ None
  pub reached : Reaches r s
  pub plus : s.due ≡ Keyword → EndsPlus r s.plus
  pub due : s.due ≡ Separator → ⊥

-- A turn in front of the clause: it continues, or it reads the semicolon or the clause.

record GoesOn (r : List Lexeme) (l m : Lexed) (t : Turn ComponentParts) : Type 0 where
  pub run : List Lexeme
  pub whole : l ≡ with_tokens run m
  pub more : t.more ≡ true
  pub before : Before (r ++ run) t.state

record StopsAt (l m : Lexed) (s : ComponentParts) (t : Turn ComponentParts) : Type 0 where
  pub last : Lexeme
  pub whole : l ≡ with_token last m
  pub last_is : is (codes ";") last ≡ true
  pub more : t.more ≡ false
  pub semicolon : t.state.semicolon ≡ last.start
  pub none : t.state.placement ≡ None

record PlacesAt (r : List Lexeme) (l m : Lexed) (s : ComponentParts) (t : Turn ComponentParts) : Type 0 where
  pub word : Lexeme
  pub next : Lexed
  pub p : PlacementClause
  pub whole : l ≡ with_token word next
  pub read : MoreRun s.plus word next m p
  pub plus : EndsPlus r s.plus
  pub more : t.more ≡ true
  pub placement : t.state.placement ≡ Some p
  pub due : t.state.due ≡ Separator
  pub point : t.state.point ≡ true → is (codes "UNPLACED") word ≡ true

abbrev TurnBefore : List Lexeme → Lexed → Lexed → ComponentParts → Turn ComponentParts → Type 0
TurnBefore r l m s t = GoesOn r l m t ⊎ (StopsAt l m s t ⊎ PlacesAt r l m s t)

item_not_keyword : Item ≡ Keyword → ⊥
item_not_keyword e = cc

rest_not_keyword : Rest ≡ Keyword → ⊥
rest_not_keyword e = cc

rest_not_separator : Rest ≡ Separator → ⊥
rest_not_separator e = cc

keyword_not_separator : Keyword ≡ Separator → ⊥
keyword_not_separator e = cc

-- A turn that takes one token and continues.
passes : (r : List Lexeme) (l m n : Lexed) (s s1 : ComponentParts) (u : Lexeme) (t : Turn ComponentParts) → Before r s → component_token s l ≡ taken t m
    → l ≡ with_token u n → s1.placement ≡ None → (s1.due ≡ Keyword → EndsPlus (r ++ u ∷ []) s1.plus) → (s1.due ≡ Separator → ⊥)
    → ◌≡◌ {A = Result (ReadValue (Turn ComponentParts)) ReadFault} (taken (turn s1 true) n) (taken t m) → TurnBefore r l m s t
passes r l m n s s1 u t b h w none plus due e =
    let d = ok_is (turn s1 true) n t m e in
    let whole : l ≡ with_tokens (u ∷ []) m = w ∙ ap (λ (z : Lexed). with_token u z) d.1 in
    let more = sym (ap (λ (z : Turn ComponentParts). z.more) d.0) in
    let state : s1 ≡ t.state = ap (λ (z : Turn ComponentParts). z.state) d.0 in
    inl (record {
      run = u ∷ [];
      whole = whole;
      more = more;
      before = record {
        none = rw state at none;
        reached = one_more r s l m t u [] b.reached h whole more;
        plus = rw state at plus;
        due = rw state at due;
      };
    })

at_clause : (c : Bool) (r : List Lexeme) (l m n : Lexed) (s : ComponentParts) (u : Lexeme) (t : Turn ComponentParts) → Before r s
    → component_token s l ≡ taken t m
    → l ≡ with_token u n → s.due ≡ Keyword → is_placement_word u ≡ c
    → cond {A = Result (ReadValue (Turn ComponentParts)) ReadFault} c
    (only_placement s.placement s.plus u n >>= λ x. taken (turn (placed_state s u x.value) true) x.rest)
    (taken (turn (record s { due = Rest }) true) n) ≡ taken t m
    → TurnBefore r l m s t
at_clause true r l m n s u t b h w due is_word e =
    let a = bind_ok (only_placement s.placement s.plus u n) _ _ e in
    let f = only_ok s.placement s.plus u n a.0.rest a.0.value is_word a.1 in
    let d = ok_is (turn (placed_state s u a.0.value) true) a.0.rest t m a.2 in
    inr (inr (record {
      word = u;
      next = n;
      p = a.0.value;
      whole = w;
      read = rw d.1 at f;
      plus = b.plus due;
      more = sym (ap (λ (z : Turn ComponentParts). z.more) d.0);
      placement = sym (ap (λ (z : Turn ComponentParts). z.state.placement) d.0);
      due = sym (ap (λ (z : Turn ComponentParts). z.state.due) d.0);
      point = λ k. ap (λ (z : Turn ComponentParts). z.state.point) d.0 ∙ k;
    }))
at_clause false r l m n s u t b h w due is_word e =
    passes r l m n s (record s { due = Rest }) u t b h w b.none (λ z. absurd (rest_not_keyword z)) (λ z. rest_not_separator z) e

at_part : (due : Due) (r : List Lexeme) (l m n : Lexed) (s : ComponentParts) (u : Lexeme) (t : Turn ComponentParts) → Before r s
    → component_token s l ≡ taken t m
    → l ≡ with_token u n → s.due ≡ due → component_part due s u n ≡ taken t m → TurnBefore r l m s t
unfolding component_part clause
at_part Item r l m n s u t b h w due e = passes r l m n s s u t b h w b.none (λ z. absurd (item_not_keyword (sym due ∙ z))) b.due e
at_part Keyword r l m n s u t b h w due e = at_clause (is_placement_word u) r l m n s u t b h w due refl e
at_part Rest r l m n s u t b h w due e = passes r l m n s s u t b h w b.none (λ z. absurd (rest_not_keyword (sym due ∙ z))) b.due e
at_part Separator r l m n s u t b h w due e = absurd (b.due due)

at_from : (c d : Bool) (r : List Lexeme) (l m n : Lexed) (s : ComponentParts) (u : Lexeme) (t : Turn ComponentParts) → Before r s
    → component_token s l ≡ taken t m
    → l ≡ with_token u n → is (codes ";") u ≡ c
    → cond {A = Result (ReadValue (Turn ComponentParts)) ReadFault} c (taken (turn (record s { semicolon = u.start }) false) n)
    (cond d (taken (turn (record s { due = Keyword; plus = u.start }) true) n) (component_part s.due s u n)) ≡ taken t m → TurnBefore r l m s t
at_from true d r l m n s u t b h w last e =
    let g = ok_is (turn (record s { semicolon = u.start }) false) n t m e in
    inr (inl (record {
      last = u;
      whole = w ∙ ap (λ (z : Lexed). with_token u z) g.1;
      last_is = last;
      more = sym (ap (λ (z : Turn ComponentParts). z.more) g.0);
      semicolon = sym (ap (λ (z : Turn ComponentParts). z.state.semicolon) g.0);
      none = sym (ap (λ (z : Turn ComponentParts). z.state.placement) g.0) ∙ b.none;
    }))
at_from false true r l m n s u t b h w last e =
    passes r l m n s (record s { due = Keyword; plus = u.start }) u t b h w b.none
    (λ z. record { front = r; last = u; whole = refl; start = refl; old = s; none = b.none; reached = b.reached }) (λ z. keyword_not_separator z) e
at_from false false r l m n s u t b h w last e = at_part s.due r l m n s u t b h w refl e

turn_before : (r : List Lexeme) (l m : Lexed) (s : ComponentParts) (t : Turn ComponentParts) → Before r s → component_token s l ≡ taken t m
    → TurnBefore r l m s t
unfolding component_token component_from
turn_before r l m s t b h =
    let a = token_ok l _ _ h in
    at_from (is (codes ";") a.0) (is (codes "+") a.0) r l m a.1 s a.0 t b h a.2 refl a.3

-- All turns.

-- There is no clause: the tokens lead on from the place in front of the semicolon.
pub record Bare (r : List Lexeme) (l m : Lexed) (y : ComponentParts) : Type 0 where
  pub front : List Lexeme
  pub last : Lexeme
  pub whole : l ≡ with_tokens (front ++ last ∷ []) m
  pub last_is : is (codes ";") last ≡ true
  pub semicolon : y.semicolon ≡ last.start
  pub old : ComponentParts
  pub none : old.placement ≡ None
  pub reached : Reaches (r ++ front) old

-- There is a clause: the tokens lead on from the place in front of its plus, and what follows it is
-- read after any clause.
pub record Found (r : List Lexeme) (l m : Lexed) (y : ComponentParts) (p : PlacementClause) : Type 0 where
  pub run : List Lexeme
  pub whole : l ≡ with_tokens run m
  pub front : List Lexeme
  pub plus : Lexeme
  pub word : Lexeme
  pub more : List Lexeme
  pub after : List Lexeme
  pub tokens : r ++ run ≡ front ++ (plus ∷ word ∷ (more ++ after))
  pub start : p.start ≡ plus.start
  pub last : LastIs p.stop word more
  pub old : ComponentParts
  pub none : old.placement ≡ None
  pub reached : Reaches front old
  pub state : ComponentParts
  pub due : state.due ≡ Separator
  pub after_it : (q : PlacementClause) (b : Bool) (s' : ComponentParts) → bare_parts s' ≡ bare_parts (swap q b state)
      → TurnsAt bare_parts component_token s' (map plain after) (swap q b y)

abbrev pub Outcome : List Lexeme → Lexed → Lexed → ComponentParts → Type 0
Outcome r l m y = ((y.placement ≡ None) × Bare r l m y) ⊎ ((p : PlacementClause) × (y.placement ≡ Some p) × Found r l m y p)

outcome_after : (r run : List Lexeme) (l n m : Lexed) (y : ComponentParts) → l ≡ with_tokens run n → Outcome (r ++ run) n m y → Outcome r l m y
outcome_after r run l n m y w (inl o) =
    let f = o.1 in
    inl (
      o.0,
      record {
        front = run ++ f.front;
        last = f.last;
        whole = w ∙ ap (λ (z : Lexed). with_tokens run z) f.whole ∙ sym (with_both run (f.front ++ f.last ∷ []) m)
            ∙ ap (λ (z : List Lexeme). with_tokens z m) (sym (append_assoc run f.front (f.last ∷ [])));
        last_is = f.last_is;
        semicolon = f.semicolon;
        old = f.old;
        none = f.none;
        reached = let e = append_assoc r run f.front in rw e at f.reached;
      },
    )
outcome_after r run l n m y w (inr o) =
    let f = o.2 in
    inr (
      o.0,
      o.1,
      record {
        run = run ++ f.run;
        whole = w ∙ ap (λ (z : Lexed). with_tokens run z) f.whole ∙ sym (with_both run f.run m);
        front = f.front;
        plus = f.plus;
        word = f.word;
        more = f.more;
        after = f.after;
        tokens = sym (append_assoc r run f.run) ∙ f.tokens;
        start = f.start;
        last = f.last;
        old = f.old;
        none = f.none;
        reached = f.reached;
        state = f.state;
        due = f.due;
        after_it = f.after_it;
      },
    )

nil_after : (more point : List Lexeme) → point ≡ [] → more ++ point ≡ more
nil_after more point e = rw e (append-nil more)

nil_before : (more point : List Lexeme) → more ≡ [] → more ++ point ≡ point
nil_before more point e = rw e refl

all_ends : (word : Lexeme) (more point : List Lexeme) (p placed_clause : PlacementClause) (unplaced_word : Bool)
    → ((is (codes "UNPLACED") word ≡ true) × (more ≡ [])) ⊎ IsPlace more
    → LastEnds p.stop word more → (unplaced_word ≡ true → more ≡ [])
    → ((point ≡ []) × (placed_clause ≡ p)) ⊎ ((unplaced_word ≡ true) × IsPlace point × (placed_clause ≡ up_to_stop placed_clause.stop p)
    × ((u : Lexeme) → LastEnds placed_clause.stop u point))
    → (LastIs placed_clause.stop word (more ++ point)) × (placed_clause.start ≡ p.start)
all_ends word more point p placed_clause unplaced_word is_more ends bare (inl h) =
    (rw (h.1, nil_after more point h.0) (clause_ends p.stop word more is_more ends), ap (λ (z : PlacementClause). z.start) h.1)
all_ends word more point p placed_clause unplaced_word is_more ends bare (inr h) =
    (rw (nil_before more point (bare h.0)) (place_ends placed_clause.stop word point h.1 (h.3 word)), ap (λ (z : PlacementClause). z.start) h.2)

found : (n : ℕ) (r : List Lexeme) (l rest m : Lexed) (s y : ComponentParts) (t : Turn ComponentParts) → PlacesAt r l rest s t
    → statements component_token n t.state rest ≡ taken y m → Outcome r l m y
found n r l rest m s y t f e =
    let b = after_clause n rest m t.state y f.p f.placement f.due e in
    let g = turns_follow bare_parts component_token component_token_follows component_token_goes b.turns (swap f.p false t.state) (swap f.p false t.state)
    (swap f.p false y) b.rest m refl (b.same f.p false) in
    let more = f.read.more in
    let k = all_ends f.word f.read.more b.point f.p b.placed t.state.point f.read.more_is f.read.stop (λ z. f.read.bare (f.point z)) b.point_is in
    let e1 : l ≡ with_token f.word (with_tokens f.read.more (with_tokens b.point (with_tokens g.run m))) =
    f.whole ∙ ap (λ (z : Lexed). with_token f.word z) (f.read.whole ∙ ap (λ (z : Lexed). with_tokens f.read.more z)
    (b.whole ∙ ap (λ (z : Lexed). with_tokens b.point z) g.whole)) in
    let e2 : with_tokens f.read.more (with_tokens b.point (with_tokens g.run m)) ≡ with_tokens ((f.read.more ++ b.point) ++ g.run) m =
    sym (with_both f.read.more b.point (with_tokens g.run m)) ∙ sym (with_both (f.read.more ++ b.point) g.run m) in
    inr (
      b.placed,
      b.placement,
      record {
        run = f.word ∷ ((f.read.more ++ b.point) ++ g.run);
        whole = e1 ∙ ap (λ (z : Lexed). with_token f.word z) e2;
        front = f.plus.front;
        plus = f.plus.last;
        word = f.word;
        more = f.read.more ++ b.point;
        after = g.run;
        tokens = ap (λ (z : List Lexeme). z ++ f.word ∷ ((f.read.more ++ b.point) ++ g.run)) f.plus.whole
            ∙ append_assoc f.plus.front (f.plus.last ∷ []) (f.word ∷ ((f.read.more ++ b.point) ++ g.run));
        start = k.1 ∙ f.read.start ∙ f.plus.start;
        last = k.0;
        old = f.plus.old;
        none = f.plus.none;
        reached = f.plus.reached;
        state = t.state;
        due = f.due;
        after_it = λ q c s' a p x.
            let h = turns_follow bare_parts component_token component_token_follows component_token_goes b.turns (swap q c t.state) s' (swap q c y) b.rest m a
            (b.same q c) in
            h.again p (x ∙ ap (λ (z : List Lexeme). map plain z) (same_run g.run h.run b.rest m g.whole h.whole));
      },
    )

stopped_at : (r : List Lexeme) (l rest m : Lexed) (s y : ComponentParts) (t : Turn ComponentParts) → Before r s → StopsAt l rest s t → t.state ≡ y → rest ≡ m
    → Outcome r l m y
stopped_at r l rest m s y t b f e g =
    inl (
      sym (ap (λ (z : ComponentParts). z.placement) e) ∙ f.none,
      record {
        front = [];
        last = f.last;
        whole = f.whole ∙ ap (λ (z : Lexed). with_token f.last z) g;
        last_is = f.last_is;
        semicolon = sym (ap (λ (z : ComponentParts). z.semicolon) e) ∙ f.semicolon;
        old = s;
        none = b.none;
        reached = let k = append-nil r in rw (sym k) at b.reached;
      },
    )

taken_end : (n : ℕ) (t : Turn ComponentParts) (rest m : Lexed) (y : ComponentParts) → t.more ≡ false
    → cond t.more (statements component_token n t.state rest) (taken t.state rest) ≡ taken y m → (t.state ≡ y) × (rest ≡ m)
taken_end n t rest m y h e = ok_is t.state rest y m (rw h at e)

taken_more : (n : ℕ) (t : Turn ComponentParts) (rest m : Lexed) (y : ComponentParts) → t.more ≡ true
    → cond t.more (statements component_token n t.state rest) (taken t.state rest) ≡ taken y m → statements component_token n t.state rest ≡ taken y m
taken_more n t rest m y h e = rw h at e

by_turn : (n : ℕ) (r : List Lexeme) (l rest m : Lexed) (s y : ComponentParts) (t : Turn ComponentParts) → Before r s
    → ((r' : List Lexeme) → Before r' t.state → statements component_token n t.state rest ≡ taken y m → Outcome r' rest m y)
    → TurnBefore r l rest s t → cond t.more (statements component_token n t.state rest) (taken t.state rest) ≡ taken y m → Outcome r l m y
by_turn n r l rest m s y t b next (inl f) e = outcome_after r f.run l rest m y f.whole (next (r ++ f.run) f.before (taken_more n t rest m y f.more e))
by_turn n r l rest m s y t b next (inr (inl f)) e = let d = taken_end n t rest m y f.more e in stopped_at r l rest m s y t b f d.0 d.1
by_turn n r l rest m s y t b next (inr (inr f)) e = found n r l rest m s y t f (taken_more n t rest m y f.more e)

all_turns : (n : ℕ) (r : List Lexeme) (l m : Lexed) (s y : ComponentParts) → Before r s → statements component_token n s l ≡ taken y m → Outcome r l m y
unfolding statements
all_turns zero r l m s y b e = absurd cc
all_turns (suc n) r l m s y b e =
    let a = bind_ok (component_token s l) _ _ e in
    by_turn n r l a.0.rest m s y a.0.value b (λ r' k x. all_turns n r' a.0.rest m a.0.value.state y k x) (turn_before r l a.0.rest s a.0.value b a.1) a.2

item_not_separator : Item ≡ Separator → ⊥
item_not_separator e = cc

-- The tokens of a component after its macro.
pub parts_found : (n : ℕ) (l m : Lexed) (y : ComponentParts) → statements component_token n no_component l ≡ taken y m → Outcome [] l m y
parts_found n l m y e =
    all_turns n [] l m no_component y
    (record { none = refl; reached = nothing_read; plus = λ h. absurd (item_not_keyword h); due = λ h. item_not_separator h }) e
