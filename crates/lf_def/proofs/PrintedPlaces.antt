-- Printed components read back, except for their offsets. Printed blockages read back.
use Rattle.std.proofs.Common.{◌≡◌, ℕ, Bool, true, false, ◌||◌, List, [], ◌∷◌, ◌++◌, ℤ, Option, Some, None, refl, ap, sym, ◌∙◌, subst}
use Rattle.std.specs.Prelude.{codes, IfSome}
use Rattle.std.specs.Str.{bytes_eq}
use Rattle.std.specs.Option.{option_map}
use Rattle.lf_units.specs.declared.geometry.Point.{Point}
use Rattle.lf_lex.specs.Tokens.{Lexeme, PlainToken, plain}
use Rattle.lf_lex.specs.Splices.{plain_word}
use Rattle.lf_lex.specs.Reading.{Turn, turn, is, keyword, name, block}
use Rattle.lf_lex.proofs.Runs.{same, turn_bare}
use Rattle.lf_lex.proofs.BackWords.{is_at, keyword_back, no_more}
use Rattle.lf_def.specs.declared.section.Due.{Due}
use Rattle.lf_def.specs.declared.section.Due.TheVariants.{Keyword, Separator}
use Rattle.lf_def.specs.declared.components.Component.{Component}
use Rattle.lf_def.specs.declared.components.ComponentParts.{ComponentParts}
use Rattle.lf_def.specs.declared.components.LocatedPlace.{LocatedPlace}
use Rattle.lf_def.specs.declared.components.Location.{Location}
use Rattle.lf_def.specs.declared.components.PlacementClause.{PlacementClause}
use Rattle.lf_def.specs.declared.components.PlacementKind.{PlacementKind}
use Rattle.lf_def.specs.declared.components.PlacementKind.TheVariants.{Fixed, Cover, Placed, Unplaced}
use Rattle.lf_def.specs.Coordinates.{point_rest, orient_of}
use Rattle.lf_def.specs.Components.{located_rest, placed_clause, unplaced_clause, is_placement_word, placement, only_placement, clause, component_part, component_from}
use Rattle.lf_def.specs.Components.{component_token, no_component, component}
use Rattle.lf_def.specs.Laws.{placement_without_places, without_places}
use Rattle.lf_def.specs.Ranges.{IsLocation}
use Rattle.lf_orient.specs.Words.{orient_word}
use Rattle.lf_def.specs.Printed.{WritesNumbers, kind_word, location_words, placement_words, component_words, HasPlace, IsPrintedComponent}
use Rattle.lf_def.specs.Printed.{ComponentReadsBack}
use Rattle.lf_def.specs.PrintedComponents.{place_words}
use Rattle.lf_def.proofs.Places.{located_bare, bare_parts, component_at, parts_at}
use Rattle.lf_lex.proofs.Back.{Back, TurnsBack, back_pure, back_bind, back_first, back_yes, back_no, back_given, token_with, turns_last, turns_more, block_back}
use Rattle.lf_def.proofs.PrintedEntries.{name_back, point_rest_back, orient_at}

abbrev pub located_at : Location → LocatedPlace
located_at p = record { location = p; stop = 0 }

located_is : (p : Location) (q : Point) → q ≡ record { x = p.x; y = p.y } → ◌≡◌ {A = Location} (record { x = q.x; y = q.y; orient = p.orient }) p
located_is p q e = rw e refl

pub located_back : (print : ℤ → List ℕ) → WritesNumbers print → (p : Location) → IsLocation p
    → Back located_bare located_rest (print p.x ∷ print p.y ∷ codes ")" ∷ orient_word p.orient ∷ []) (located_at p)
unfolding located_rest
located_back print writes p h =
    back_bind same located_bare point_rest _ (print p.x ∷ print p.y ∷ codes ")" ∷ []) (orient_word p.orient ∷ []) (record { x = p.x; y = p.y }) (located_at p)
    (point_rest_back print writes p.x p.y h.0 h.1) (λ q eq.
    back_first located_bare _ (orient_word p.orient) [] (located_at p)
    (λ t e. back_given located_bare (orient_of t) _ p.orient [] (located_at p) (orient_at p.orient t e)
    (back_pure located_bare (located_at p) (record { location = record { x = q.x; y = q.y; orient = p.orient }; stop = t.stop }) (located_is p q eq))))

abbrev pub placement_at : PlacementKind → Option Location → PlacementClause
placement_at kind p = record { kind = kind; place = p; start = 0; stop = 0 }

placed_back : (print : ℤ → List ℕ) → WritesNumbers print → (kind : PlacementKind) (plus : ℕ) (p : Location) → IsLocation p
    → Back placement_without_places (placed_clause kind plus) (codes "(" ∷ print p.x ∷ print p.y ∷ codes ")" ∷ orient_word p.orient ∷ []) (placement_at kind (Some p))
unfolding placed_clause
placed_back print writes kind plus p h =
    back_bind same placement_without_places (keyword (codes "(")) _ (codes "(" ∷ []) (print p.x ∷ print p.y ∷ codes ")" ∷ orient_word p.orient ∷ []) tt
    (placement_at kind (Some p)) (keyword_back (codes "(") refl) (λ s es.
    back_bind located_bare placement_without_places located_rest _ (print p.x ∷ print p.y ∷ codes ")" ∷ orient_word p.orient ∷ []) [] (located_at p)
    (placement_at kind (Some p)) (located_back print writes p h) (λ q eq.
    back_pure placement_without_places (placement_at kind (Some p)) (record { kind = kind; place = Some q.location; start = plus; stop = q.stop })
    (ap (λ (z : Location). placement_at kind (Some z)) eq)))

placement_back : (print : ℤ → List ℕ) → WritesNumbers print → (kind : PlacementKind) (plus : ℕ) (p : Option Location) → HasPlace kind p → (t : Lexeme)
    → plain t ≡ plain_word (kind_word kind)
    → Back placement_without_places (placement plus t) (place_words print p) (placement_at kind p)
unfolding placement
placement_back print writes Fixed plus None h t e = absurd h
placement_back print writes Fixed plus (Some p) h t e =
    back_yes placement_without_places (is (codes "FIXED") t) _ _ (place_words print (Some p)) (placement_at Fixed (Some p))
    (is_at (codes "FIXED") (codes "FIXED") t e) (placed_back print writes Fixed plus p h)
placement_back print writes Cover plus None h t e = absurd h
placement_back print writes Cover plus (Some p) h t e =
    back_no placement_without_places (is (codes "FIXED") t) _ _ (place_words print (Some p)) (placement_at Cover (Some p))
    (is_at (codes "FIXED") (codes "COVER") t e)
    (back_yes placement_without_places (is (codes "COVER") t) _ _ (place_words print (Some p)) (placement_at Cover (Some p))
    (is_at (codes "COVER") (codes "COVER") t e) (placed_back print writes Cover plus p h))
placement_back print writes Placed plus None h t e = absurd h
placement_back print writes Placed plus (Some p) h t e =
    back_no placement_without_places (is (codes "FIXED") t) _ _ (place_words print (Some p)) (placement_at Placed (Some p))
    (is_at (codes "FIXED") (codes "PLACED") t e)
    (back_no placement_without_places (is (codes "COVER") t) _ _ (place_words print (Some p)) (placement_at Placed (Some p))
    (is_at (codes "COVER") (codes "PLACED") t e)
    (back_yes placement_without_places (is (codes "PLACED") t) _ _ (place_words print (Some p)) (placement_at Placed (Some p))
    (is_at (codes "PLACED") (codes "PLACED") t e) (placed_back print writes Placed plus p h)))
placement_back print writes Unplaced plus (Some p) h t e = absurd h
placement_back print writes Unplaced plus None h t e =
    back_no placement_without_places (is (codes "FIXED") t) _ _ [] (placement_at Unplaced None) (is_at (codes "FIXED") (codes "UNPLACED") t e)
    (back_no placement_without_places (is (codes "COVER") t) _ _ [] (placement_at Unplaced None) (is_at (codes "COVER") (codes "UNPLACED") t e)
    (back_no placement_without_places (is (codes "PLACED") t) _ _ [] (placement_at Unplaced None) (is_at (codes "PLACED") (codes "UNPLACED") t e)
    (back_pure placement_without_places (placement_at Unplaced None) (unplaced_clause plus t) refl)))

pub kind_is : (kind : PlacementKind) (t : Lexeme) → plain t ≡ plain_word (kind_word kind) → is_placement_word t ≡ true
kind_is Fixed t e = ap (λ (p : PlainToken). bytes_eq p.text (codes "FIXED") || bytes_eq p.text (codes "COVER") || bytes_eq p.text (codes "PLACED") || bytes_eq p.text
    (codes "UNPLACED")) e
kind_is Cover t e = ap (λ (p : PlainToken). bytes_eq p.text (codes "FIXED") || bytes_eq p.text (codes "COVER") || bytes_eq p.text (codes "PLACED") || bytes_eq p.text
    (codes "UNPLACED")) e
kind_is Placed t e = ap (λ (p : PlainToken). bytes_eq p.text (codes "FIXED") || bytes_eq p.text (codes "COVER") || bytes_eq p.text
    (codes "PLACED") || bytes_eq p.text (codes "UNPLACED")) e
kind_is Unplaced t e = ap (λ (p : PlainToken). bytes_eq p.text (codes "FIXED") || bytes_eq p.text (codes "COVER") || bytes_eq p.text
    (codes "PLACED") || bytes_eq p.text (codes "UNPLACED")) e

not_semicolon : (kind : PlacementKind) → bytes_eq (kind_word kind) (codes ";") ≡ false
not_semicolon Fixed = refl
not_semicolon Cover = refl
not_semicolon Placed = refl
not_semicolon Unplaced = refl

not_plus : (kind : PlacementKind) → bytes_eq (kind_word kind) (codes "+") ≡ false
not_plus Fixed = refl
not_plus Cover = refl
not_plus Placed = refl
not_plus Unplaced = refl

abbrev pub is_unplaced : PlacementKind → Bool
is_unplaced kind = bytes_eq (kind_word kind) (codes "UNPLACED")

stop_back : (s : ComponentParts) → Back (turn_bare bare_parts) (component_token s) (codes ";" ∷ []) (turn s false)
unfolding component_token component_from
stop_back s = back_first (turn_bare bare_parts) _ (codes ";") [] (turn s false)
    (λ t e. back_yes (turn_bare bare_parts) (is (codes ";") t) _ _ [] (turn s false) (is_at (codes ";") (codes ";") t e)
    (back_pure (turn_bare bare_parts) (turn s false) (turn (record s { semicolon = t.start }) false) refl))

plus_back : Back (turn_bare bare_parts) (component_token no_component) (codes "+" ∷ []) (turn (parts_at None Keyword false) true)
unfolding component_token component_from
plus_back =
    back_first (turn_bare bare_parts) _ (codes "+") [] (turn (parts_at None Keyword false) true)
    (λ t e. back_no (turn_bare bare_parts) (is (codes ";") t) _ _ [] (turn (parts_at None Keyword false) true) (is_at (codes ";") (codes "+") t e)
    (back_yes (turn_bare bare_parts) (is (codes "+") t) _ _ [] (turn (parts_at None Keyword false) true) (is_at (codes "+") (codes "+") t e)
    (back_pure (turn_bare bare_parts) (turn (parts_at None Keyword false) true) (turn (record no_component { due = Keyword; plus = t.start }) true) refl)))

placed_is : (p : PlacementClause) (q : Option Location) (kind : PlacementKind) (a b : Bool) → placement_without_places p ≡ placement_at kind q → a ≡ b
    → ◌≡◌ {A = Turn ComponentParts} (turn (parts_at (Some (placement_without_places p)) Separator a) true)
    (turn (parts_at (Some (placement_at kind q)) Separator b) true)
placed_is p q kind a b e f = rw (e, f) refl

pub clause_at : (print : ℤ → List ℕ) → WritesNumbers print → (kind : PlacementKind) (p : Option Location) → HasPlace kind p → (s : ComponentParts)
    → s.placement ≡ None → s.due ≡ Keyword
    → Back (turn_bare bare_parts) (component_token s) (kind_word kind ∷ place_words print p)
    (turn (parts_at (Some (placement_at kind p)) Separator (is_unplaced kind)) true)
unfolding component_token component_from component_part clause only_placement
clause_at print writes kind p h s none due =
    let y = turn (parts_at (Some (placement_at kind p)) Separator (is_unplaced kind)) true in
    back_first (turn_bare bare_parts) _ (kind_word kind) (place_words print p) (turn (parts_at (Some (placement_at kind p)) Separator (is_unplaced kind)) true)
    (λ t e.
    back_no (turn_bare bare_parts) (is (codes ";") t) _ _ (place_words print p) (turn (parts_at (Some (placement_at kind p)) Separator (is_unplaced kind)) true)
    (is_at (codes ";") (kind_word kind) t e ∙ not_semicolon kind)
    (back_no (turn_bare bare_parts) (is (codes "+") t) _ _ (place_words print p)
    (turn (parts_at (Some (placement_at kind p)) Separator (is_unplaced kind)) true) (is_at (codes "+") (kind_word kind) t e ∙ not_plus kind)
    (rw (due, none)
    (back_yes (turn_bare bare_parts) (is_placement_word t) _ _ (place_words print p)
    (turn (parts_at (Some (placement_at kind p)) Separator (is_unplaced kind)) true) (kind_is kind t e)
    (no_more (turn_bare bare_parts) _ (turn (parts_at (Some (placement_at kind p)) Separator (is_unplaced kind)) true) (place_words print p)
    (back_bind placement_without_places (turn_bare bare_parts) (placement s.plus t) _ (place_words print p) [] (placement_at kind p)
    (turn (parts_at (Some (placement_at kind p)) Separator (is_unplaced kind)) true) (placement_back print writes kind s.plus p h t e) (λ q eq.
    back_pure (turn_bare bare_parts) (turn (parts_at (Some (placement_at kind p)) Separator (is_unplaced kind)) true)
    (turn (record s { placement = Some q; due = Separator; point = is (codes "UNPLACED") t }) true)
    (placed_is q p kind (is (codes "UNPLACED") t) (is_unplaced kind) eq (is_at (codes "UNPLACED") (kind_word kind) t e)))))))))

pub stops : (s y : ComponentParts) → bare_parts s ≡ bare_parts y → Back (turn_bare bare_parts) (component_token s) (codes ";" ∷ []) (turn y false)
stops s y e p h = let a = stop_back s p h in record { value = a.value; alike = a.alike ∙ ap (λ (z : ComponentParts). turn z false) e; takes = a.takes }

pub none_is : (p : Option PlacementClause) → option_map placement_without_places p ≡ None → p ≡ None
none_is None e = refl
none_is (Some p) e = absurd cc

due_is : (s : ComponentParts) (p : Option PlacementClause) (due : Due) (b : Bool) → bare_parts s ≡ parts_at p due b → s.due ≡ due
due_is s p due b e = ap (λ (z : ComponentParts). z.due) e

clause_words : (print : ℤ → List ℕ) (kind : PlacementKind) (p : Option Location)
    → kind_word kind ∷ location_words print p ≡ kind_word kind ∷ (place_words print p ++ codes ";" ∷ [])
clause_words print kind None = refl
clause_words print kind (Some p) = refl

clause_turns : (print : ℤ → List ℕ) → WritesNumbers print → (kind : PlacementKind) (p : Option Location) → HasPlace kind p
    → TurnsBack bare_parts component_token no_component (codes "+" ∷ kind_word kind ∷ (place_words print p ++ codes ";" ∷ []))
    (parts_at (Some (placement_at kind p)) Separator (is_unplaced kind))
clause_turns print writes kind p h =
    turns_more bare_parts component_token no_component (parts_at None Keyword false) (parts_at (Some (placement_at kind p)) Separator (is_unplaced kind))
    (codes "+") [] (kind_word kind ∷ (place_words print p ++ codes ";" ∷ [])) plus_back (λ s e.
    turns_more bare_parts component_token s (parts_at (Some (placement_at kind p)) Separator (is_unplaced kind))
    (parts_at (Some (placement_at kind p)) Separator (is_unplaced kind)) (kind_word kind) (place_words print p) (codes ";" ∷ [])
    (clause_at print writes kind p h s (none_is s.placement (ap (λ (z : ComponentParts). z.placement) e)) (due_is s None Keyword false e)) (λ s2 e2.
    turns_last bare_parts component_token s2 (parts_at (Some (placement_at kind p)) Separator (is_unplaced kind)) (codes ";" ∷ [])
    (stops s2 (parts_at (Some (placement_at kind p)) Separator (is_unplaced kind)) e2)))

-- The state after the clause of a component.
abbrev known_of : Option PlacementClause → ComponentParts
known_of None = no_component
known_of (Some p) = parts_at (Some (placement_at p.kind p.place)) Separator (is_unplaced p.kind)

placement_turns : (print : ℤ → List ℕ) → WritesNumbers print → (p : Option PlacementClause) → IfSome p (λ q. HasPlace q.kind q.place)
    → TurnsBack bare_parts component_token no_component (placement_words print p) (known_of p)
placement_turns print writes None h = turns_last bare_parts component_token no_component no_component (codes ";" ∷ []) (stop_back no_component)
placement_turns print writes (Some p) h = subst (λ (z : List (List ℕ)). TurnsBack bare_parts component_token no_component (codes "+" ∷ z) (known_of (Some p)))
    (sym (clause_words print p.kind p.place)) (clause_turns print writes p.kind p.place h)

same_placement : (p : Option PlacementClause) → option_map placement_without_places (known_of p).placement ≡ option_map placement_without_places p
same_placement None = refl
same_placement (Some p) = refl

component_is : (c : Component) (n k : Lexeme) (s : ComponentParts) → plain n ≡ plain_word c.name → plain k ≡ plain_word c.mac
    → bare_parts s ≡ bare_parts (known_of c.placement)
    → component_at n.text k.text (option_map placement_without_places s.placement) ≡ component_at c.name c.mac (option_map placement_without_places c.placement)
component_is c n k s e f g = rw (
  ap (λ (z : PlainToken). z.text) e,
  ap (λ (z : PlainToken). z.text) f,
  ap (λ (z : ComponentParts). z.placement) g
      ∙ same_placement c.placement,
) refl

pub component_back : (print : ℤ → List ℕ) → WritesNumbers print → (c : Component) → IsPrintedComponent c
    → Back without_places component (component_words print c) c
unfolding component
component_back print writes c h =
    back_bind plain without_places name _ (c.name ∷ []) (c.mac ∷ placement_words print c.placement) (token_with c.name) c (name_back c.name h.name) (λ n en.
    back_bind plain without_places name _ (c.mac ∷ []) (placement_words print c.placement) (token_with c.mac) c (name_back c.mac h.mac) (λ k ek.
    no_more without_places _ c (placement_words print c.placement)
    (back_bind bare_parts without_places (block component_token no_component) _ (placement_words print c.placement) [] (known_of c.placement) c
    (block_back bare_parts component_token no_component (known_of c.placement) (placement_words print c.placement)
    (placement_turns print writes c.placement h.placement)) (λ s es.
    back_pure without_places c (record { name = n.text; mac = k.text; placement = s.placement; semicolon = s.semicolon }) (component_is c n k s en ek es)))))

-- A printed component reads back, except for places.
pub component_reads_back : (print : ℤ → List ℕ) → WritesNumbers print → (c : Component) → IsPrintedComponent c → ComponentReadsBack (component_words print c) c
component_reads_back print writes c h p e l = let a = component_back print writes c h p e in (a.value, a.takes l, a.alike)
