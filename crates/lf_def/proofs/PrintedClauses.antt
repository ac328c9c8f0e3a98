-- Printed components read back, with anything that is skipped in their entries.
use Rattle.std.proofs.Common.{◌≡◌, ◌≢◌, ℕ, Bool, true, false, ◌&&◌, ◌||◌, List, [], ◌∷◌, ◌++◌, All, map, ℤ, Option, Some, None, refl, ap, ◌∙◌, arith}
use Rattle.std.specs.Prelude.{codes, IfSome}
use Rattle.std.specs.Option.{option_map}
use Rattle.std.proofs.lemmas.List.Elements.{All-head, All-tail}
use Rattle.lf_lex.specs.Tokens.{Lexed, Lexeme, PlainToken, plain}
use Rattle.lf_lex.specs.Splices.{plain_word}
use Rattle.lf_lex.specs.Reading.{turn, continues, is, name, block}
use Rattle.lf_lex.proofs.Runs.{turn_bare}
use Rattle.lf_lex.proofs.Back.{BackAt, TurnsAt, token_with, back_pure, at_bind, at_map, at_same, at_first, at_yes, at_no, at_last, at_more, at_block}
use Rattle.lf_lex.proofs.BackWords.{is_of, is_at, not_eq}
use Rattle.lf_def.specs.declared.section.Due.{Due}
use Rattle.lf_def.specs.declared.section.Due.TheVariants.{Item, Keyword, Rest, Separator}
use Rattle.lf_def.specs.declared.components.ComponentParts.{ComponentParts}
use Rattle.lf_def.specs.declared.components.LocatedPlace.{LocatedPlace}
use Rattle.lf_def.specs.declared.components.Location.{Location}
use Rattle.lf_def.specs.declared.components.PlacementClause.{PlacementClause}
use Rattle.lf_def.specs.declared.components.PlacementKind.{PlacementKind}
use Rattle.lf_def.specs.declared.components.PlacementKind.TheVariants.{Fixed, Cover, Placed, Unplaced}
use Rattle.lf_def.specs.Components.{located_rest, is_placement_word, clause, up_to_stop, unplaced_point, component_part, component_from, component_token}
use Rattle.lf_def.specs.Components.{no_component, component}
use Rattle.lf_def.specs.Laws.{placement_without_places, without_places}
use Rattle.lf_def.specs.Ranges.{IsLocation}
use Rattle.lf_orient.specs.Words.{orient_word}
use Rattle.lf_def.specs.Printed.{WritesNumbers, kind_word, HasPlace}
use Rattle.lf_def.specs.PrintedComponents.{PrintedComponent, IsInner, IsOtherClause, IsPrintedEntry, clauses_tokens, printed_place, place_words}
use Rattle.lf_def.specs.PrintedComponents.{placement_tokens, entry_tokens, EntryReadsBack}
use Rattle.lf_def.proofs.Places.{located_bare, bare_parts, parts_at, component_at, stop_plays_no_part}
use Rattle.lf_def.proofs.PrintedEntries.{name_back}
use Rattle.lf_def.proofs.PrintedPlaces.{located_at, located_back, placement_at, is_unplaced, clause_at, stops, none_is}

-- Holds if the states differ only in places.
abbrev Alike : ComponentParts → ComponentParts → Type 0
Alike s s' = bare_parts s' ≡ bare_parts s

-- Holds if the tokens lead from each state like the first to a state like the second.
abbrev Leads : ComponentParts → List PlainToken → ComponentParts → Type 0
Leads s ps y = (s' : ComponentParts) → Alike s s' → TurnsAt bare_parts component_token s' ps y

due_alike : (s s' : ComponentParts) (due : Due) → s.due ≡ due → Alike s s' → s'.due ≡ due
due_alike s s' due e a = ap (λ (z : ComponentParts). z.due) a ∙ e

-- A token that neither ends the entry nor begins a clause.

no_stop : (u : PlainToken) (t : Lexeme) → IsInner u → plain t ≡ u → is (codes ";") t ≡ false
no_stop u t h e = is_of (codes ";") u t e ∙ not_eq u.text (codes ";") h.stop

no_plus : (u : PlainToken) (t : Lexeme) → IsInner u → plain t ≡ u → is (codes "+") t ≡ false
no_plus u t h e = is_of (codes "+") u t e ∙ not_eq u.text (codes "+") h.plus

-- Holds if tokens like these are skipped.
abbrev Passes : Due → Type 0
Passes due = (parts : ComponentParts) (t : Lexeme) (l : Lexed) → component_part due parts t l ≡ continues parts l

part_by : (due due' : Due) → due' ≡ due → (parts : ComponentParts) (t : Lexeme) (l : Lexed) → component_part due' parts t l ≡ component_part due parts t l
part_by due due' e parts t l = ap (λ (z : Due). component_part z parts t l) e

item_passes : Passes Item
unfolding component_part
item_passes parts t l = refl

rest_passes : Passes Rest
unfolding component_part
rest_passes parts t l = refl

inner_back : (s s' : ComponentParts) → Passes s.due → Alike s s' → (u : PlainToken) → IsInner u
    → BackAt (turn_bare bare_parts) (component_token s') (u ∷ []) (turn s true)
unfolding component_token component_from
inner_back s s' passes a u h =
    at_first (turn_bare bare_parts) _ u [] (turn s true) (λ t e.
    at_no (turn_bare bare_parts) (is (codes ";") t) _ _ [] (turn s true) (no_stop u t h e)
    (at_no (turn_bare bare_parts) (is (codes "+") t) _ _ [] (turn s true) (no_plus u t h e)
    (at_same (turn_bare bare_parts) (component_part s'.due s' t) _ [] (turn s true) (λ l. part_by s.due s'.due (due_alike s s' s.due refl a) s' t l
    ∙ passes s' t l)
    (back_pure (turn_bare bare_parts) (turn s true) (turn s' true) (ap (λ (z : ComponentParts). turn z true) a)))))

inner_leads : (s y : ComponentParts) → Passes s.due → (us vs : List PlainToken) → All IsInner us → Leads s vs y → Leads s (us ++ vs) y
inner_leads s y passes [] vs h next s' a = next s' a
inner_leads s y passes (u ∷ us) vs h next s' a =
    at_more bare_parts component_token s' s y (u ∷ []) (us ++ vs) (omega arith) (inner_back s s' passes a u (All-head IsInner u us h)) (λ s1 a1.
    inner_leads s y passes us vs (All-tail IsInner u us h) next s1 a1)

-- Skipped clauses.

plus_back : (s s' : ComponentParts) → Alike s s' → BackAt (turn_bare bare_parts) (component_token s') (plain_word (codes "+") ∷ [])
    (turn (record s { due = Keyword }) true)
unfolding component_token component_from
plus_back s s' a =
    let y = turn (record s { due = Keyword }) true in
    at_first (turn_bare bare_parts) _ (plain_word (codes "+")) [] y
    (λ t e. at_no (turn_bare bare_parts) (is (codes ";") t) _ _ [] y (is_at (codes ";") (codes "+") t e)
    (at_yes (turn_bare bare_parts) (is (codes "+") t) _ _ [] y (is_at (codes "+") (codes "+") t e)
    (back_pure (turn_bare bare_parts) y (turn (record s' { due = Keyword; plus = t.start }) true)
    (ap (λ (z : ComponentParts). turn (record z { due = Keyword }) true) a))))

or_no : (a b c d : Bool) → a ≡ false → b ≡ false → c ≡ false → d ≡ false → (a || b || c || d) ≡ false
or_no a b c d e f g h = rw (e, f, g, h) refl

no_placement : (u : PlainToken) (t : Lexeme) → ((kind : PlacementKind) → u.text ≢ kind_word kind) → plain t ≡ u → is_placement_word t ≡ false
no_placement u t h e =
    or_no (is (codes "FIXED") t) (is (codes "COVER") t) (is (codes "PLACED") t) (is (codes "UNPLACED") t)
    (is_of (codes "FIXED") u t e ∙ not_eq u.text (codes "FIXED") (h Fixed)) (is_of (codes "COVER") u t e ∙ not_eq u.text (codes "COVER") (h Cover))
    (is_of (codes "PLACED") u t e ∙ not_eq u.text (codes "PLACED") (h Placed)) (is_of (codes "UNPLACED") u t e ∙ not_eq u.text (codes "UNPLACED") (h Unplaced))

-- The first word of a skipped clause.
word_back : (s s' : ComponentParts) → s.due ≡ Keyword → Alike s s' → (u : PlainToken) → IsInner u → ((kind : PlacementKind) → u.text ≢ kind_word kind)
    → BackAt (turn_bare bare_parts) (component_token s') (u ∷ []) (turn (record s { due = Rest }) true)
unfolding component_token component_from component_part clause
word_back s s' due a u h other =
    let y = turn (record s { due = Rest }) true in
    at_first (turn_bare bare_parts) _ u [] y (λ t e.
    at_no (turn_bare bare_parts) (is (codes ";") t) _ _ [] y (no_stop u t h e)
    (at_no (turn_bare bare_parts) (is (codes "+") t) _ _ [] y (no_plus u t h e)
    (rw (due_alike s s' Keyword due a)
    (at_no (turn_bare bare_parts) (is_placement_word t) _ _ [] y (no_placement u t other e)
    (back_pure (turn_bare bare_parts) y (turn (record s' { due = Rest }) true) (ap (λ (z : ComponentParts). turn (record z { due = Rest }) true) a))))))

-- The state after skipped clauses.
abbrev after_clauses : ComponentParts → List (List PlainToken) → ComponentParts
after_clauses s [] = s
after_clauses s ([] ∷ cs) = after_clauses (record s { due = Keyword }) cs
after_clauses s ((t ∷ ts) ∷ cs) = after_clauses (record s { due = Rest }) cs

clauses_lead : (cs : List (List PlainToken)) → All IsOtherClause cs → (s y : ComponentParts) (rest : List PlainToken) → Leads (after_clauses s cs) rest y
    → Leads s (clauses_tokens cs rest) y
clauses_lead [] h s y rest next s' a = next s' a
clauses_lead ([] ∷ cs) h s y rest next s' a =
    at_more bare_parts component_token s' (record s { due = Keyword }) y (plain_word (codes "+") ∷ []) (clauses_tokens cs rest) (omega arith) (plus_back s s' a)
    (λ s1 a1.
    clauses_lead cs (All-tail IsOtherClause [] cs h) (record s { due = Keyword }) y rest next s1 a1)
clauses_lead ((t ∷ ts) ∷ cs) h s y rest next s' a =
    let one = All-head IsOtherClause (t ∷ ts) cs h in
    let due_word : ComponentParts = record s { due = Keyword } in
    let in_clause : ComponentParts = record s { due = Rest } in
    at_more bare_parts component_token s' due_word y (plain_word (codes "+") ∷ []) (t ∷ (ts ++ clauses_tokens cs rest)) (omega arith) (plus_back s s' a) (λ s1 a1.
    at_more bare_parts component_token s1 in_clause y (t ∷ []) (ts ++ clauses_tokens cs rest) (omega arith)
    (word_back due_word s1 refl a1 t (All-head IsInner t ts one.1) one.0) (λ s2 a2.
    inner_leads in_clause y rest_passes ts (clauses_tokens cs rest) (All-tail IsInner t ts one.1) (λ s3 a3.
    clauses_lead cs (All-tail IsOtherClause (t ∷ ts) cs h) in_clause y rest next s3 a3) s2 a2))

-- Skipped clauses leave the placement unchanged.
same_after : (cs : List (List PlainToken)) (s : ComponentParts) → (after_clauses s cs).placement ≡ s.placement
same_after [] s = refl
same_after ([] ∷ cs) s = same_after cs (record s { due = Keyword })
same_after ((t ∷ ts) ∷ cs) s = same_after cs (record s { due = Rest })

-- The placement clause.

none_alike : (s s' : ComponentParts) → s.placement ≡ None → Alike s s' → s'.placement ≡ None
none_alike s s' e a = none_is s'.placement (ap (λ (z : ComponentParts). z.placement) a ∙ ap (λ (p : Option PlacementClause). option_map placement_without_places p) e)

abbrev placed_state : PlacementKind → Option Location → ComponentParts
placed_state kind p = parts_at (Some (placement_at kind p)) Separator (is_unplaced kind)

clause_leads : (print : ℤ → List ℕ) → WritesNumbers print → (kind : PlacementKind) (p : Option Location) → HasPlace kind p → (s y : ComponentParts)
    → s.placement ≡ None → (rest : List PlainToken)
    → Leads (placed_state kind p) rest y → Leads s (plain_word (codes "+") ∷ plain_word (kind_word kind) ∷ (map plain_word (place_words print p) ++ rest)) y
clause_leads print writes kind p h s y none rest next s' a =
    let due_word : ComponentParts = record s { due = Keyword } in
    let front = plain_word (kind_word kind) ∷ map plain_word (place_words print p) in
    at_more bare_parts component_token s' due_word y (plain_word (codes "+") ∷ []) (front ++ rest) (omega arith) (plus_back s s' a) (λ s1 a1.
    at_more bare_parts component_token s1 (placed_state kind p) y front rest (omega arith)
    (clause_at print writes kind p h s1 (none_alike due_word s1 none a1) (due_alike due_word s1 Keyword refl a1)) next)

-- The point of UNPLACED.

abbrev after_a_point : ComponentParts
after_a_point = parts_at (Some (placement_at Unplaced None)) Separator false

point_taken : (s : ComponentParts) (q : LocatedPlace) → Alike (placed_state Unplaced None) s
    → Alike after_a_point (record s { placement = option_map (up_to_stop q.stop) s.placement; point = false })
point_taken s q a =
    ap (λ (p : Option PlacementClause). bare_parts (record s { placement = p; point = false })) refl
    ∙ ap (λ (p : Option PlacementClause). parts_at p s.due false) (stop_plays_no_part q.stop s.placement) ∙ ap (λ (z : ComponentParts). record z { point = false }) a

point_back : (print : ℤ → List ℕ) → WritesNumbers print → (p : Location) → IsLocation p → (s : ComponentParts) → Alike (placed_state Unplaced None) s
    → BackAt (turn_bare bare_parts) (component_token s) (map plain_word (place_words print (Some p))) (turn after_a_point true)
unfolding component_token component_from component_part unplaced_point
point_back print writes p h s a =
    let y = turn after_a_point true in
    let after_it = map plain_word (print p.x ∷ print p.y ∷ codes ")" ∷ orient_word p.orient ∷ []) in
    let point : s.point ≡ true = ap (λ (z : ComponentParts). z.point) a in
    at_first (turn_bare bare_parts) _ (plain_word (codes "(")) after_it y (λ t e.
    at_no (turn_bare bare_parts) (is (codes ";") t) _ _ after_it y (is_at (codes ";") (codes "(") t e)
    (at_no (turn_bare bare_parts) (is (codes "+") t) _ _ after_it y (is_at (codes "+") (codes "(") t e)
    (at_same (turn_bare bare_parts) (component_part s.due s t) (component_part Separator s t) after_it y
    (part_by Separator s.due (due_alike (placed_state Unplaced None) s Separator refl a) s t)
    (at_yes (turn_bare bare_parts) (s.point && is (codes "(") t) _ _ after_it y (rw point (is_at (codes "(") (codes "(") t e))
    (at_map located_bare (turn_bare bare_parts) located_rest (λ (q : LocatedPlace).
    turn (record s { placement = option_map (up_to_stop q.stop) s.placement; point = false }) true)
    after_it (located_at p) y (located_back print writes p h) (λ q eq. ap (λ (z : ComponentParts). turn z true) (point_taken s q a)))))))

-- The state after the placement clause.
abbrev after_unplaced : Option Location → ComponentParts
after_unplaced None = placed_state Unplaced None
after_unplaced (Some p) = after_a_point

unplaced_leads : (print : ℤ → List ℕ) → WritesNumbers print → (point : Option Location) → IfSome point (λ p. IsLocation p) → (s y : ComponentParts)
    → s.placement ≡ None → (rest : List PlainToken)
    → Leads (after_unplaced point) rest y → Leads s (plain_word (codes "+") ∷ plain_word (codes "UNPLACED") ∷ (map plain_word (place_words print point) ++ rest)) y
unplaced_leads print writes None h s y none rest next = clause_leads print writes Unplaced None tt s y none rest next
unplaced_leads print writes (Some p) h s y none rest next =
    let point = map plain_word (place_words print (Some p)) in
    clause_leads print writes Unplaced None tt s y none (point ++ rest) (λ s1 a1.
    at_more bare_parts component_token s1 after_a_point y point rest (omega arith) (point_back print writes p h s1 a1) next)

abbrev after_kind : PlacementKind → Option Location → Option Location → ComponentParts
after_kind Unplaced place point = after_unplaced point
after_kind Fixed place point = placed_state Fixed place
after_kind Cover place point = placed_state Cover place
after_kind Placed place point = placed_state Placed place

kind_leads : (print : ℤ → List ℕ) → WritesNumbers print → (kind : PlacementKind) (place point : Option Location) → HasPlace kind place
    → IfSome point (λ p. IsLocation p)
    → (s y : ComponentParts) → s.placement ≡ None → (rest : List PlainToken) → Leads (after_kind kind place point) rest y
    → Leads s (plain_word (codes "+") ∷ plain_word (kind_word kind) ∷ (map plain_word (place_words print (printed_place kind place point)) ++ rest)) y
kind_leads print writes Unplaced place point h hp s y none rest next = unplaced_leads print writes point hp s y none rest next
kind_leads print writes Fixed place point h hp s y none rest next = clause_leads print writes Fixed place h s y none rest next
kind_leads print writes Cover place point h hp s y none rest next = clause_leads print writes Cover place h s y none rest next
kind_leads print writes Placed place point h hp s y none rest next = clause_leads print writes Placed place h s y none rest next

abbrev after_placement : ComponentParts → Option PlacementClause → Option Location → ComponentParts
after_placement s None point = s
after_placement s (Some p) point = after_kind p.kind p.place point

placement_leads : (print : ℤ → List ℕ) → WritesNumbers print → (p : Option PlacementClause) (point : Option Location) → IfSome p (λ q. HasPlace q.kind q.place)
    → IfSome point (λ q. IsLocation q)
    → (s y : ComponentParts) → s.placement ≡ None → (rest : List PlainToken) → Leads (after_placement s p point) rest y
    → Leads s (placement_tokens print p point rest) y
placement_leads print writes None point h hp s y none rest next = next
placement_leads print writes (Some p) point h hp s y none rest next = kind_leads print writes p.kind p.place point h hp s y none rest next

-- The placement in that state is that of the component.
unplaced_is : (place point : Option Location) → HasPlace Unplaced place
    → option_map placement_without_places (after_unplaced point).placement ≡ Some (placement_at Unplaced place)
unplaced_is None None h = refl
unplaced_is None (Some p) h = refl
unplaced_is (Some q) point h = absurd h

kind_placed : (kind : PlacementKind) (place point : Option Location) → HasPlace kind place
    → option_map placement_without_places (after_kind kind place point).placement ≡ Some (placement_at kind place)
kind_placed Unplaced place point h = unplaced_is place point h
kind_placed Fixed place point h = refl
kind_placed Cover place point h = refl
kind_placed Placed place point h = refl

placement_is : (s : ComponentParts) (p : Option PlacementClause) (point : Option Location) → IfSome p (λ q. HasPlace q.kind q.place) → s.placement ≡ None
    → option_map placement_without_places (after_placement s p point).placement ≡ option_map placement_without_places p
placement_is s None point h none = ap (λ (z : Option PlacementClause). option_map placement_without_places z) none
placement_is s (Some p) point h none = kind_placed p.kind p.place point h

-- Whole entries.

abbrev before_placement : PrintedComponent → ComponentParts
before_placement p = after_clauses no_component p.before

abbrev at_end : PrintedComponent → ComponentParts
at_end p = after_clauses (after_placement (before_placement p) p.component.placement p.point) p.after

abbrev after_mac : (ℤ → List ℕ) → PrintedComponent → List PlainToken
after_mac print p = p.items ++ clauses_tokens p.before (placement_tokens print p.component.placement p.point
    (clauses_tokens p.after (plain_word (codes ";") ∷ [])))

entry_leads : (print : ℤ → List ℕ) → WritesNumbers print → (p : PrintedComponent) → IsPrintedEntry p → Leads no_component (after_mac print p) (at_end p)
entry_leads print writes p h =
    let none = same_after p.before no_component in
    let s = before_placement p in
    let after = clauses_tokens p.after (plain_word (codes ";") ∷ []) in
    inner_leads no_component (at_end p) item_passes p.items (clauses_tokens p.before (placement_tokens print p.component.placement p.point after)) h.items
    (clauses_lead p.before h.before no_component (at_end p) (placement_tokens print p.component.placement p.point after)
    (placement_leads print writes p.component.placement p.point h.component.placement h.point s (at_end p) none after
    (clauses_lead p.after h.after (after_placement s p.component.placement p.point) (at_end p) (plain_word (codes ";") ∷ []) (λ s1 a1.
    at_last bare_parts component_token s1 (at_end p) (plain_word (codes ";") ∷ []) (stops s1 (at_end p) a1)))))

end_placement : (p : PrintedComponent) → IsPrintedEntry p → option_map placement_without_places
    (at_end p).placement ≡ option_map placement_without_places p.component.placement
end_placement p h =
    ap (λ (z : Option PlacementClause). option_map placement_without_places z)
    (same_after p.after (after_placement (before_placement p) p.component.placement p.point))
    ∙ placement_is (before_placement p) p.component.placement p.point h.component.placement (same_after p.before no_component)

component_is : (p : PrintedComponent) → IsPrintedEntry p → (n k : Lexeme) (s : ComponentParts) → plain n ≡ plain_word p.component.name
    → plain k ≡ plain_word p.component.mac → Alike (at_end p) s
    → component_at n.text k.text (option_map placement_without_places s.placement) ≡ component_at p.component.name p.component.mac
    (option_map placement_without_places p.component.placement)
component_is p h n k s e f g = rw (
  ap (λ (z : PlainToken). z.text) e,
  ap (λ (z : PlainToken). z.text) f,
  ap (λ (z : ComponentParts). z.placement) g
      ∙ end_placement p h,
) refl

pub entry_back : (print : ℤ → List ℕ) → WritesNumbers print → (p : PrintedComponent) → IsPrintedEntry p
    → BackAt without_places component (entry_tokens print p) p.component
unfolding component
entry_back print writes p h =
    let c = p.component in
    at_bind plain without_places name _ (plain_word c.name ∷ []) (plain_word c.mac ∷ after_mac print p) (token_with c.name) c (name_back c.name h.component.name)
    (λ n en.
    at_bind plain without_places name _ (plain_word c.mac ∷ []) (after_mac print p) (token_with c.mac) c (name_back c.mac h.component.mac) (λ k ek.
    at_map bare_parts without_places (block component_token no_component)
    (λ (s : ComponentParts). record { name = n.text; mac = k.text; placement = s.placement; semicolon = s.semicolon })
    (after_mac print p) (at_end p) c (at_block bare_parts component_token no_component (at_end p) (after_mac print p)
    (entry_leads print writes p h no_component refl)) (λ s es.
    component_is p h n k s en ek es)))

-- A printed component reads back, except for places.
pub entry_reads_back : (print : ℤ → List ℕ) → WritesNumbers print → (p : PrintedComponent) → IsPrintedEntry p
    → EntryReadsBack (entry_tokens print p) p.component
entry_reads_back print writes p h tokens e l = let a = entry_back print writes p h tokens e in (a.value, a.takes l, a.alike)
