-- Components and whole texts read alike from tokens that differ only in their places, except for
-- the places of components.
use Rattle.std.proofs.Common.{◌≡◌, ℕ, Bool, true, false, ◌&&◌, ◌||◌, List, [], ◌∷◌, ◌++◌, map, Option, Some, None, refl, ap, sym, ◌∙◌}
use Rattle.std.specs.Prelude.{codes, not, is_some}
use Rattle.std.specs.Str.{bytes_eq}
use Rattle.std.specs.Option.{option_map}
use Rattle.std.proofs.lemmas.List.{map-append}
use Rattle.lf_units.specs.declared.geometry.Point.{Point}
use Rattle.lf_orient.specs.declared.Orient.{Orient}
use Rattle.lf_lex.specs.Tokens.{Lexed, Lexeme, PlainToken, plain}
use Rattle.lf_lex.specs.Reading.{turn, token, is, kind_is_word, keyword, name, block}
use Rattle.lf_lex.proofs.Runs.{Follows, Goes, same, turn_bare, bind, choose, given, pure, fault, token_follows, takes_one, block_follows}
use Rattle.lf_lex.proofs.Following.{text_alike, is_alike, keyword_follows, name_follows, to_semicolon_follows, to_word_follows, named_end, both_alike}
use Rattle.lf_def.specs.declared.section.Due.{Due}
use Rattle.lf_def.specs.declared.section.Due.TheVariants.{Item, Keyword, Rest, Separator}
use Rattle.lf_def.specs.declared.components.Component.{Component}
use Rattle.lf_def.specs.declared.components.ComponentParts.{ComponentParts}
use Rattle.lf_def.specs.declared.components.LocatedPlace.{LocatedPlace}
use Rattle.lf_def.specs.declared.components.Location.{Location}
use Rattle.lf_def.specs.declared.components.PlacementClause.{PlacementClause}
use Rattle.lf_def.specs.declared.components.PlacementKind.{PlacementKind}
use Rattle.lf_def.specs.declared.components.PlacementKind.TheVariants.{Fixed, Cover, Placed}
use Rattle.lf_def.specs.declared.header.HeaderParts.{HeaderParts}
use Rattle.lf_def.specs.declared.rows.RowStatement.{RowStatement}
use Rattle.lf_def.specs.declared.regions.Region.{Region}
use Rattle.lf_def.specs.declared.groups.Group.{Group}
use Rattle.lf_def.specs.declared.blockages.Blockage.{Blockage}
use Rattle.lf_def.specs.declared.doc_parts.DocParts.{DocParts}
use Rattle.lf_def.specs.Coordinates.{point_rest, orient_of}
use Rattle.lf_def.specs.Header.{is_header, header_statement}
use Rattle.lf_def.specs.Rows.{row, with_row}
use Rattle.lf_def.specs.Regions.{region, regions}
use Rattle.lf_def.specs.Groups.{group, groups}
use Rattle.lf_def.specs.Blockages.{blockages}
use Rattle.lf_def.specs.Components.{located_rest, placed_clause, unplaced_clause, is_placement_word, placement, only_placement, clause, up_to_stop, unplaced_point}
use Rattle.lf_def.specs.Components.{component_part, component_from, component_token, no_component, component, components}
use Rattle.lf_def.specs.Document.{is_skipped_section, is_skipped_statement, skip_from, end_design, body_statement, def_statement_from, def_statement}
use Rattle.lf_def.specs.Laws.{placement_without_places, without_places}
use Rattle.lf_def.proofs.Following.{Grows, same_grows, point_rest_follows, orient_again, row_follows, region_follows, group_follows, blockages_follow}
use Rattle.lf_def.proofs.Following.{header_follows, section_follows}

-- Components.

abbrev pub located_bare : LocatedPlace → Location
located_bare p = p.location

abbrev location_at : Point → Orient → Location
location_at p o = record { x = p.x; y = p.y; orient = o }

pub located_follows : Follows located_bare located_rest located_rest
unfolding located_rest
located_follows =
    bind same located_bare point_rest point_rest _ _ point_rest_follows (λ p p' ep. bind plain located_bare token token _ _ token_follows (λ t t' et.
    given located_bare (orient_of t) (orient_of t') _ _ (orient_again t t' et) (λ o.
    pure located_bare (record { location = location_at p o; stop = t.stop }) (record { location = location_at p' o; stop = t'.stop })
    (ap (λ (z : Point). location_at z o) ep))))

abbrev placed_at : PlacementKind → Location → PlacementClause
placed_at kind p = record { kind = kind; place = Some p; start = 0; stop = 0 }

pub placed_follows : (kind : PlacementKind) (plus plus' : ℕ) → Follows placement_without_places (placed_clause kind plus) (placed_clause kind plus')
unfolding placed_clause
placed_follows kind plus plus' =
    bind same placement_without_places (keyword (codes "(")) (keyword (codes "(")) _ _ (keyword_follows (codes "("))
    (λ u u' eu. bind located_bare placement_without_places located_rest located_rest _ _ located_follows (λ p p' ep.
    pure placement_without_places (record { kind = kind; place = Some p.location; start = plus; stop = p.stop })
    (record { kind = kind; place = Some p'.location; start = plus'; stop = p'.stop }) (ap (λ (z : Location). placed_at kind z) ep)))

placement_follows : (plus plus' : ℕ) (t t' : Lexeme) → plain t' ≡ plain t → Follows placement_without_places (placement plus t) (placement plus' t')
unfolding placement
placement_follows plus plus' t t' e =
    choose placement_without_places (is (codes "FIXED") t) (is (codes "FIXED") t') _ _ _ _ (is_alike (codes "FIXED") t t' e) (placed_follows Fixed plus plus')
    (choose placement_without_places (is (codes "COVER") t) (is (codes "COVER") t') _ _ _ _ (is_alike (codes "COVER") t t' e) (placed_follows Cover plus plus')
    (choose placement_without_places (is (codes "PLACED") t) (is (codes "PLACED") t') _ _ _ _ (is_alike (codes "PLACED") t t' e)
    (placed_follows Placed plus plus')
    (pure placement_without_places (unplaced_clause plus t) (unplaced_clause plus' t') refl)))

only_follows : (first first' : Option PlacementClause) (plus plus' : ℕ) (t t' : Lexeme)
    → option_map placement_without_places first' ≡ option_map placement_without_places first → plain t' ≡ plain t
    → Follows placement_without_places (only_placement first plus t) (only_placement first' plus' t')
unfolding only_placement
only_follows None None plus plus' t t' a e = placement_follows plus plus' t t' e
only_follows None (Some y) plus plus' t t' a e = absurd cc
only_follows (Some x) first' plus plus' t t' a e = fault placement_without_places _ _

-- The parts of a component so far, without places.
abbrev pub bare_parts : ComponentParts → ComponentParts
bare_parts s = record { placement = option_map placement_without_places s.placement; due = s.due; point = s.point; plus = 0; semicolon = 0 }

abbrev pub parts_at : Option PlacementClause → Due → Bool → ComponentParts
parts_at p due point = record { placement = p; due = due; point = point; plus = 0; semicolon = 0 }

parts_alike : (p p' : Option PlacementClause) (due due' : Due) (b b' : Bool) → p' ≡ p → due' ≡ due → b' ≡ b → parts_at p' due' b' ≡ parts_at p due b
parts_alike p p' due due' b b' e f g = rw (e, f, g) refl

placement_of : (s s' : ComponentParts) → bare_parts s' ≡ bare_parts s
    → option_map placement_without_places s'.placement ≡ option_map placement_without_places s.placement
placement_of s s' a = ap (λ (z : ComponentParts). z.placement) a

due_of : (s s' : ComponentParts) → bare_parts s' ≡ bare_parts s → s'.due ≡ s.due
due_of s s' a = ap (λ (z : ComponentParts). z.due) a

point_of : (s s' : ComponentParts) → bare_parts s' ≡ bare_parts s → s'.point ≡ s.point
point_of s s' a = ap (λ (z : ComponentParts). z.point) a

turn_alike : (s s' : ComponentParts) (more : Bool) → bare_parts s' ≡ bare_parts s → turn_bare bare_parts (turn s' more) ≡ turn_bare bare_parts (turn s more)
turn_alike s s' more a = ap (λ (z : ComponentParts). turn z more) a

placement_word_alike : (t t' : Lexeme) → plain t' ≡ plain t → is_placement_word t' ≡ is_placement_word t
placement_word_alike t t' e = ap (λ (x : List ℕ). bytes_eq x (codes "FIXED") || bytes_eq x (codes "COVER") || bytes_eq x (codes "PLACED") || bytes_eq x
    (codes "UNPLACED")) (text_alike t t' e)

clause_follows : (s s' : ComponentParts) (t t' : Lexeme) → bare_parts s' ≡ bare_parts s → plain t' ≡ plain t
    → Follows (turn_bare bare_parts) (clause s t) (clause s' t')
unfolding clause
clause_follows s s' t t' a e =
    choose (turn_bare bare_parts) (is_placement_word t) (is_placement_word t') _ _ _ _ (placement_word_alike t t' e)
    (bind placement_without_places (turn_bare bare_parts) (only_placement s.placement s.plus t) (only_placement s'.placement s'.plus t') _ _
    (only_follows s.placement s'.placement s.plus s'.plus t t' (placement_of s s' a) e) (λ p p' ep.
    pure (turn_bare bare_parts) (turn (record s { placement = Some p; due = Separator; point = is (codes "UNPLACED") t }) true)
    (turn (record s' { placement = Some p'; due = Separator; point = is (codes "UNPLACED") t' }) true)
    (ap (λ (z : ComponentParts). turn z true) (parts_alike (Some (placement_without_places p)) (Some (placement_without_places p')) Separator Separator
    (is (codes "UNPLACED") t) (is (codes "UNPLACED") t') (ap (λ (z : PlacementClause). Some z) ep) refl (is_alike (codes "UNPLACED") t t' e)))))
    (pure (turn_bare bare_parts) (turn (record s { due = Rest }) true) (turn (record s' { due = Rest }) true)
    (ap (λ (z : ComponentParts). turn z true) (parts_alike (option_map placement_without_places s.placement)
    (option_map placement_without_places s'.placement) Rest Rest s.point s'.point (placement_of s s' a) refl (point_of s s' a))))

pub stop_plays_no_part : (n : ℕ) (p : Option PlacementClause) → option_map placement_without_places
    (option_map (up_to_stop n) p) ≡ option_map placement_without_places p
stop_plays_no_part n None = refl
stop_plays_no_part n (Some p) = refl

unplaced_point_follows : (s s' : ComponentParts) → bare_parts s' ≡ bare_parts s → Follows (turn_bare bare_parts) (unplaced_point s) (unplaced_point s')
unfolding unplaced_point
unplaced_point_follows s s' a =
    bind located_bare (turn_bare bare_parts) located_rest located_rest _ _ located_follows (λ p p' ep.
    pure (turn_bare bare_parts) (turn (record s { placement = option_map (up_to_stop p.stop) s.placement; point = false }) true)
    (turn (record s' { placement = option_map (up_to_stop p'.stop) s'.placement; point = false }) true)
    (ap (λ (z : ComponentParts). turn z true) (parts_alike (option_map placement_without_places (option_map (up_to_stop p.stop) s.placement))
    (option_map placement_without_places (option_map (up_to_stop p'.stop) s'.placement)) s.due s'.due false false
    (stop_plays_no_part p'.stop s'.placement ∙ placement_of s s' a ∙ sym (stop_plays_no_part p.stop s.placement)) (due_of s s' a) refl)))

part_follows : (due : Due) (s s' : ComponentParts) (t t' : Lexeme) → bare_parts s' ≡ bare_parts s → plain t' ≡ plain t
    → Follows (turn_bare bare_parts) (component_part due s t) (component_part due s' t')
unfolding component_part
part_follows Item s s' t t' a e = pure (turn_bare bare_parts) (turn s true) (turn s' true) (turn_alike s s' true a)
part_follows Keyword s s' t t' a e = clause_follows s s' t t' a e
part_follows Rest s s' t t' a e = pure (turn_bare bare_parts) (turn s true) (turn s' true) (turn_alike s s' true a)
part_follows Separator s s' t t' a e =
    choose (turn_bare bare_parts) (s.point && is (codes "(") t) (s'.point && is (codes "(") t') _ _ _ _
    (both_alike s.point s'.point (is (codes "(") t) (is (codes "(") t') (point_of s s' a) (is_alike (codes "(") t t' e))
    (unplaced_point_follows s s' a) (fault (turn_bare bare_parts) _ _)

same_due : (due due' : Due) (s s' : ComponentParts) (t t' : Lexeme) → due' ≡ due → bare_parts s' ≡ bare_parts s → plain t' ≡ plain t
    → Follows (turn_bare bare_parts) (component_part due s t) (component_part due' s' t')
same_due due due' s s' t t' d a e = rw d (part_follows due s s' t t' a e)

from_follows : (s s' : ComponentParts) (t t' : Lexeme) → bare_parts s' ≡ bare_parts s → plain t' ≡ plain t
    → Follows (turn_bare bare_parts) (component_from s t) (component_from s' t')
unfolding component_from
from_follows s s' t t' a e =
    choose (turn_bare bare_parts) (is (codes ";") t) (is (codes ";") t') _ _ _ _ (is_alike (codes ";") t t' e)
    (pure (turn_bare bare_parts) (turn (record s { semicolon = t.start }) false) (turn (record s' { semicolon = t'.start }) false)
    (ap (λ (z : ComponentParts). turn z false) a))
    (choose (turn_bare bare_parts) (is (codes "+") t) (is (codes "+") t') _ _ _ _ (is_alike (codes "+") t t' e)
    (pure (turn_bare bare_parts) (turn (record s { due = Keyword; plus = t.start }) true) (turn (record s' { due = Keyword; plus = t'.start }) true)
    (ap (λ (z : ComponentParts). turn z true) (parts_alike (option_map placement_without_places s.placement)
    (option_map placement_without_places s'.placement) Keyword Keyword s.point s'.point (placement_of s s' a) refl (point_of s s' a))))
    (same_due s.due s'.due s s' t t' (due_of s s' a) a e))

pub component_token_follows : (s s' : ComponentParts) → bare_parts s' ≡ bare_parts s → Follows (turn_bare bare_parts) (component_token s) (component_token s')
unfolding component_token
component_token_follows s s' a = bind plain (turn_bare bare_parts) token token _ _ token_follows (λ t t' e. from_follows s s' t t' a e)

pub component_token_goes : Goes component_token
unfolding component_token
component_token_goes s s1 l m h = takes_one (turn_bare bare_parts) _ _ l m (turn s1 true) (λ t. from_follows s s t t refl refl) h

abbrev pub component_at : List ℕ → List ℕ → Option PlacementClause → Component
component_at n mac p = record { name = n; mac = mac; placement = p; semicolon = 0 }

component_alike : (n n' mac mac' : List ℕ) (p p' : Option PlacementClause) → n' ≡ n → mac' ≡ mac → p' ≡ p → component_at n' mac' p' ≡ component_at n mac p
component_alike n n' mac mac' p p' e f g = rw (e, f, g) refl

pub component_follows : Follows without_places component component
unfolding component
component_follows =
    bind plain without_places name name _ _ name_follows (λ n n' en. bind plain without_places name name _ _ name_follows (λ k k' ek.
    bind bare_parts without_places (block component_token no_component) (block component_token no_component) _ _
    (block_follows bare_parts component_token component_token_follows component_token_goes no_component no_component refl) (λ p p' ep.
    pure without_places (record { name = n.text; mac = k.text; placement = p.placement; semicolon = p.semicolon })
    (record { name = n'.text; mac = k'.text; placement = p'.placement; semicolon = p'.semicolon })
    (component_alike n.text n'.text k.text k'.text (option_map placement_without_places p.placement) (option_map placement_without_places p'.placement)
    (text_alike n n' en) (text_alike k k' ek) (placement_of p p' ep)))))

-- The statements of a text.

abbrev pub bare_list : List Component → List Component
bare_list cs = map without_places cs

pub components_grow : Grows without_places bare_list
components_grow xs xs' x x' e f =
    map-append without_places xs' (x' ∷ []) ∙ ap (λ (z : List Component). z ++ without_places x' ∷ []) e
    ∙ ap (λ (z : Component). map without_places xs ++ z ∷ []) f ∙ sym (map-append without_places xs (x ∷ []))

-- The parts of a text so far, without the places of its components.
abbrev pub bare_doc : DocParts → DocParts
bare_doc s = record s { components = bare_list s.components }

abbrev passed_section_text : List ℕ → Bool
passed_section_text x =
    bytes_eq x (codes "PROPERTYDEFINITIONS") || bytes_eq x (codes "VIAS") || bytes_eq x (codes "STYLES") || bytes_eq x (codes "NONDEFAULTRULES") || bytes_eq x
    (codes "PINS") || bytes_eq x (codes "PINPROPERTIES")
    || bytes_eq x (codes "SLOTS") || bytes_eq x (codes "FILLS") || bytes_eq x (codes "SPECIALNETS") || bytes_eq x (codes "NETS") || bytes_eq x
    (codes "SCANCHAINS")

abbrev passed_statement_text : List ℕ → Bool
passed_statement_text x =
    bytes_eq x (codes "TRACKS") || bytes_eq x (codes "GCELLGRID") || bytes_eq x (codes "HISTORY") || bytes_eq x (codes "TECHNOLOGY") || bytes_eq x
    (codes "DIEAREA") || bytes_eq x (codes "COMPONENTMASKSHIFT") || bytes_eq x (codes "NAMESCASESENSITIVE")

abbrev header_text : List ℕ → Bool
header_text x = bytes_eq x (codes "VERSION") || bytes_eq x (codes "DIVIDERCHAR") || bytes_eq x (codes "BUSBITCHARS") || bytes_eq x
    (codes "DESIGN") || bytes_eq x (codes "UNITS")

pub passed_follows : (t t' : Lexeme) → plain t' ≡ plain t → Follows same (skip_from t) (skip_from t')
unfolding skip_from
passed_follows t t' e =
    choose same (is_skipped_section t) (is_skipped_section t') _ _ _ _ (ap (λ (x : List ℕ). passed_section_text x) (text_alike t t' e))
    (named_end t.text t'.text (text_alike t t' e))
    (choose same (is (codes "BEGINEXT") t) (is (codes "BEGINEXT") t') _ _ _ _ (is_alike (codes "BEGINEXT") t t' e) (to_word_follows (codes "ENDEXT"))
    (choose same (is_skipped_statement t) (is_skipped_statement t') _ _ _ _
    (ap (λ (x : List ℕ). passed_statement_text x) (text_alike t t' e)) to_semicolon_follows
    (choose same (kind_is_word t.kind) (kind_is_word t'.kind) _ _ _ _ (ap (λ (p : PlainToken). kind_is_word p.kind) e) (fault same _ _) (fault same _ _))))

pub end_design_follows : (s : DocParts) → Follows same (end_design s) (end_design s)
unfolding end_design
end_design_follows s =
    bind plain same token token _ _ token_follows (λ t t' e.
    choose same (not (kind_is_word t.kind)) (not (kind_is_word t'.kind)) _ _ _ _ (ap (λ (p : PlainToken). not (kind_is_word p.kind)) e) (fault same _ _)
    (choose same (not (is (codes "DESIGN") t)) (not (is (codes "DESIGN") t')) _ _ _ _ (ap (λ (b : Bool). not b) (is_alike (codes "DESIGN") t t' e))
    (fault same _ _)
    (choose same (is_some s.header.design) (is_some s.header.design) _ _ _ _ refl (pure same tt tt refl) (fault same _ _))))

-- Only the header matters for the end of the design.
end_design_of : (s s' : DocParts) (l : Lexed) → s'.header ≡ s.header → end_design s' l ≡ end_design s l
unfolding end_design
end_design_of s s' l e = ap (λ (h : HeaderParts). end_design (record s { header = h }) l) e

header_of_same : (s s' : DocParts) → bare_doc s' ≡ bare_doc s → s'.header ≡ s.header
header_of_same s s' a = ap (λ (z : DocParts). z.header) a

ends_alike : (s s' : DocParts) → s'.header ≡ s.header → Follows same (end_design s) (end_design s')
ends_alike s s' e = ap-follows (λ l. end_design_of s s' l e) (end_design_follows s)
  where
    ap-follows : ((l : Lexed) → end_design s' l ≡ end_design s l) → Follows same (end_design s) (end_design s) → Follows same (end_design s) (end_design s')
    ap-follows h f l m x k =
        let r = f l m x k in
        record { run = r.run; whole = r.whole; again = λ p q. let b = r.again p q in record { value = b.value; alike = b.alike; takes = λ n. h _ ∙ b.takes n } }

headers_alike : (h h' : HeaderParts) (t t' : Lexeme) → h' ≡ h → plain t' ≡ plain t → Follows same (header_statement h t) (header_statement h' t')
headers_alike h h' t t' e f = rw e (header_follows h t t' f)

pub with_row_follows : (s : List RowStatement) → Follows same (with_row s) (with_row s)
unfolding with_row
with_row_follows s = bind same same row row _ _ row_follows (λ r r' e. pure same (s ++ r ∷ []) (s ++ r' ∷ []) (ap (λ (z : RowStatement). s ++ z ∷ []) e))

rows_alike : (s s' : List RowStatement) → s' ≡ s → Follows same (with_row s) (with_row s')
rows_alike s s' e = rw e (with_row_follows s)

pub regions_alike : (s s' : List Region) → s' ≡ s → Follows same (regions s) (regions s')
regions_alike s s' e = section_follows same same same_grows (codes "REGIONS") region region_follows s s' e

pub groups_alike : (s s' : List Group) → s' ≡ s → Follows same (groups s) (groups s')
groups_alike s s' e = section_follows same same same_grows (codes "GROUPS") group group_follows s s' e

components_alike : (s s' : List Component) → bare_list s' ≡ bare_list s → Follows bare_list (components s) (components s')
components_alike s s' e = section_follows without_places bare_list components_grow (codes "COMPONENTS") component component_follows s s' e

pub blockages_alike : (s s' : List Blockage) → s' ≡ s → Follows same (blockages s) (blockages s')
blockages_alike s s' e = rw e (blockages_follow s)

body_follows : (s s' : DocParts) (t t' : Lexeme) → bare_doc s' ≡ bare_doc s → plain t' ≡ plain t → Follows bare_doc (body_statement s t) (body_statement s' t')
unfolding body_statement
body_follows s s' t t' a e =
    choose bare_doc (is (codes "ROW") t) (is (codes "ROW") t') _ _ _ _ (is_alike (codes "ROW") t t' e)
    (bind same bare_doc (with_row s.rows) (with_row s'.rows) _ _ (rows_alike s.rows s'.rows (ap (λ (z : DocParts). z.rows) a))
    (λ x x' ex. pure bare_doc (record s { rows = x }) (record s' { rows = x' })
    (ap (λ (z : DocParts). record z { rows = x' }) a ∙ ap (λ (z : List RowStatement). record (bare_doc s) { rows = z }) ex)))
    (choose bare_doc (is (codes "REGIONS") t) (is (codes "REGIONS") t') _ _ _ _ (is_alike (codes "REGIONS") t t' e)
    (bind same bare_doc (regions s.regions) (regions s'.regions) _ _ (regions_alike s.regions s'.regions (ap (λ (z : DocParts). z.regions) a))
    (λ x x' ex. pure bare_doc (record s { regions = x }) (record s' { regions = x' })
    (ap (λ (z : DocParts). record z { regions = x' }) a ∙ ap (λ (z : List Region). record (bare_doc s) { regions = z }) ex)))
    (choose bare_doc (is (codes "GROUPS") t) (is (codes "GROUPS") t') _ _ _ _ (is_alike (codes "GROUPS") t t' e)
    (bind same bare_doc (groups s.groups) (groups s'.groups) _ _ (groups_alike s.groups s'.groups (ap (λ (z : DocParts). z.groups) a))
    (λ x x' ex. pure bare_doc (record s { groups = x }) (record s' { groups = x' })
    (ap (λ (z : DocParts). record z { groups = x' }) a ∙ ap (λ (z : List Group). record (bare_doc s) { groups = z }) ex)))
    (choose bare_doc (is (codes "COMPONENTS") t) (is (codes "COMPONENTS") t') _ _ _ _ (is_alike (codes "COMPONENTS") t t' e)
    (bind bare_list bare_doc (components s.components) (components s'.components) _ _
    (components_alike s.components s'.components (ap (λ (z : DocParts). z.components) a))
    (λ x x' ex. pure bare_doc (record s { components = x }) (record s' { components = x' })
    (ap (λ (z : DocParts). record z { components = bare_list x' }) a ∙ ap (λ (z : List Component). record (bare_doc s) { components = z }) ex)))
    (choose bare_doc (is (codes "BLOCKAGES") t) (is (codes "BLOCKAGES") t') _ _ _ _ (is_alike (codes "BLOCKAGES") t t' e)
    (bind same bare_doc (blockages s.blockages) (blockages s'.blockages) _ _ (blockages_alike s.blockages s'.blockages (ap (λ (z : DocParts). z.blockages) a))
    (λ x x' ex. pure bare_doc (record s { blockages = x }) (record s' { blockages = x' })
    (ap (λ (z : DocParts). record z { blockages = x' }) a ∙ ap (λ (z : List Blockage). record (bare_doc s) { blockages = z }) ex)))
    (bind same bare_doc (skip_from t) (skip_from t') _ _ (passed_follows t t' e) (λ x x' ex. pure bare_doc s s' a))))))

statement_from_follows : (s s' : DocParts) (t t' : Lexeme) → bare_doc s' ≡ bare_doc s → plain t' ≡ plain t
    → Follows (turn_bare bare_doc) (def_statement_from s t) (def_statement_from s' t')
unfolding def_statement_from
statement_from_follows s s' t t' a e =
    choose (turn_bare bare_doc) (is (codes "END") t) (is (codes "END") t') _ _ _ _ (is_alike (codes "END") t t' e)
    (bind same (turn_bare bare_doc) (end_design s) (end_design s') _ _ (ends_alike s s' (header_of_same s s' a))
    (λ x x' ex. pure (turn_bare bare_doc) (turn s false) (turn s' false) (ap (λ (z : DocParts). turn z false) a)))
    (choose (turn_bare bare_doc) (is_header t) (is_header t') _ _ _ _ (ap (λ (x : List ℕ). header_text x) (text_alike t t' e))
    (bind same (turn_bare bare_doc) (header_statement s.header t) (header_statement s'.header t') _ _
    (headers_alike s.header s'.header t t' (header_of_same s s' a) e)
    (λ x x' ex. pure (turn_bare bare_doc) (turn (record s { header = x }) true) (turn (record s' { header = x' }) true)
    (ap (λ (z : DocParts). turn z true) (ap (λ (z : DocParts). record z { header = x' }) a ∙ ap (λ (z : HeaderParts). record (bare_doc s) { header = z }) ex))))
    (bind bare_doc (turn_bare bare_doc) (body_statement s t) (body_statement s' t') _ _ (body_follows s s' t t' a e)
    (λ x x' ex. pure (turn_bare bare_doc) (turn x true) (turn x' true) (ap (λ (z : DocParts). turn z true) ex))))

pub statement_follows : (s s' : DocParts) → bare_doc s' ≡ bare_doc s → Follows (turn_bare bare_doc) (def_statement s) (def_statement s')
unfolding def_statement
statement_follows s s' a = bind plain (turn_bare bare_doc) token token _ _ token_follows (λ t t' e. statement_from_follows s s' t t' a e)

pub statement_goes : Goes def_statement
unfolding def_statement
statement_goes s s1 l m h = takes_one (turn_bare bare_doc) _ _ l m (turn s1 true) (λ t. statement_from_follows s s t t refl refl) h

pub statements_follow : (s s' : DocParts) → bare_doc s' ≡ bare_doc s → Follows bare_doc (block def_statement s) (block def_statement s')
statements_follow s s' a = block_follows bare_doc def_statement statement_follows statement_goes s s' a
