-- Each line of a team's text, except those with quoted texts, is a line of words.
use Rattle.std.proofs.Common.{◌≡◌, ℕ, ◌≤◌, true, List, [], ◌∷◌, ◌++◌, All, map, length, ℤ, Option, Some, None, refl, arith}
use Rattle.std.specs.Prelude.{codes, decimal, IfSome}
use Rattle.std.specs.List.{flat_map, list_all}
use Rattle.std.specs.Fmt.{signed_decimal}
use Rattle.std.proofs.lemmas.Int.{ints}
use Rattle.std.proofs.lemmas.List.Elements.{All-nil, All-cons, All-append, All-head, All-tail}
use Rattle.lf_units.specs.declared.geometry.Rect.{Rect}
use Rattle.lf_orient.specs.declared.Orient.{Orient}
use Rattle.lf_orient.specs.declared.Orient.TheVariants.{N, W, S, E, FN, FW, FS, FE}
use Rattle.lf_orient.specs.Words.{orient_word}
use Rattle.lf_lex.specs.Splices.{is_word_text}
use Rattle.lf_lex.proofs.Splicing.{and_true}
use Rattle.lf_def.specs.Ranges.{IsDefCoordinate, IsRect, IsLocation}
use Rattle.lf_def.proofs.PrintedNumbers.{decimals_are_words}
use Rattle.lf_floorplan.specs.declared.frame.Frame.{Frame}
use Rattle.lf_floorplan.specs.declared.parts.Team.{Team}
use Rattle.lf_floorplan.specs.declared.place.Place.{Place}
use Rattle.lf_floorplan.specs.Bounds.{IsDefNumber, IsDefRect}
use Rattle.lf_floorplan.specs.Boxes.{macro_of}
use Rattle.lf_cells.specs.declared.cell.Cell.{Cell}
use Rattle.lf_frame.specs.Loads.{as_location}
use Rattle.lf_team_def.specs.Clauses.{clause_words}
use Rattle.lf_team_def.specs.TeamText as text
use Rattle.lf_team_def.specs.TeamText.{section_lines}
use Rattle.lf_laws_roundtrip.specs.Spelled.{IsSpelledCell}
use Rattle.lf_laws_roundtrip.proofs.Fronts.{AreWords}
use Rattle.lf_laws_roundtrip.proofs.Lines.{count_is_word}

pub one_more : (w : List ℕ) (ws : List (List ℕ)) → is_word_text w ≡ true → AreWords ws → AreWords (w ∷ ws)
one_more w ws p q = rw p q

after_each_other : (xs ys : List (List ℕ)) → AreWords xs → AreWords ys → AreWords (xs ++ ys)
after_each_other [] ys p q = q
after_each_other (x ∷ xs) ys p q =
    let h = and_true (is_word_text x) (list_all is_word_text xs) p in
    one_more x (xs ++ ys) h.0 (after_each_other xs ys h.1 q)

orient_is_word : (o : Orient) → is_word_text (orient_word o) ≡ true
orient_is_word N = refl
orient_is_word W = refl
orient_is_word S = refl
orient_is_word E = refl
orient_is_word FN = refl
orient_is_word FW = refl
orient_is_word FS = refl
orient_is_word FE = refl

clause_are_words : (place : Option Place) → IfSome place (λ p. IsLocation (as_location p)) → AreWords (clause_words place ++ codes ";" ∷ [])
clause_are_words None h = refl
clause_are_words (Some p) h =
    one_more (signed_decimal p.x) (signed_decimal p.y ∷ codes ")" ∷ orient_word p.orient ∷ codes ";" ∷ []) (decimals_are_words p.x h.0)
    (one_more (signed_decimal p.y) (codes ")" ∷ orient_word p.orient ∷ codes ";" ∷ []) (decimals_are_words p.y h.1)
    (one_more (orient_word p.orient) (codes ";" ∷ []) (orient_is_word p.orient) refl))

component_is_words : (f : Frame) (c : Cell) → IsSpelledCell f c → AreWords (text.team_component_words f c)
component_is_words f c h =
    one_more c.name ((macro_of f c.mac).name ∷ (clause_words c.working ++ codes ";" ∷ [])) h.name.spelled
    (one_more (macro_of f c.mac).name (clause_words c.working ++ codes ";" ∷ []) h.mac.spelled (clause_are_words c.working h.place))

-- Coordinates.

pub coordinate : (x : ℤ) → IsDefNumber x → IsDefCoordinate x
coordinate x h = let above = h.above in let most = h.most in record { low = omega (arith, ints); high = most }

pub rect_in_range : (r : Rect) → IsDefRect r → IsRect r
rect_in_range r h = record {
  x1 = coordinate r.x1 h.across.from;
  y1 = coordinate r.y1 h.up.from;
  x2 = coordinate r.x2 h.across.to;
  y2 = coordinate r.y2 h.up.to;
  across = h.across.in_order;
  up = h.up.in_order;
}

rect_is_words : (r : Rect) → IsRect r → AreWords (text.team_rect_words r)
rect_is_words r h =
    one_more (signed_decimal r.x1) (signed_decimal r.y1 ∷ codes ")" ∷ codes "(" ∷ signed_decimal r.x2 ∷ signed_decimal r.y2 ∷ codes ")" ∷ [])
    (decimals_are_words r.x1 h.x1)
    (one_more (signed_decimal r.y1) (codes ")" ∷ codes "(" ∷ signed_decimal r.x2 ∷ signed_decimal r.y2 ∷ codes ")" ∷ []) (decimals_are_words r.y1 h.y1)
    (one_more (signed_decimal r.x2) (signed_decimal r.y2 ∷ codes ")" ∷ []) (decimals_are_words r.x2 h.x2)
    (one_more (signed_decimal r.y2) (codes ")" ∷ []) (decimals_are_words r.y2 h.y2) refl)))

rects_are_words : (rs : List Rect) → All IsRect rs → AreWords (flat_map text.team_rect_words rs)
rects_are_words [] h = refl
rects_are_words (r ∷ rs) h =
    after_each_other (text.team_rect_words r) (flat_map text.team_rect_words rs) (rect_is_words r (All-head IsRect r rs h)) (rects_are_words rs (All-tail IsRect r rs h))

region_is_words : (t : Team) → is_word_text t.name ≡ true → All IsRect t.rects → AreWords (text.team_region_words t)
region_is_words t name rects =
    one_more t.name (flat_map text.team_rect_words t.rects ++ codes "+" ∷ codes "TYPE" ∷ codes "FENCE" ∷ codes ";" ∷ []) name
    (after_each_other (flat_map text.team_rect_words t.rects) (codes "+" ∷ codes "TYPE" ∷ codes "FENCE" ∷ codes ";" ∷ []) (rects_are_words t.rects rects) refl)

names_are_words : (f : Frame) (cells : List Cell) → All (IsSpelledCell f) cells → AreWords (map (λ c. c.name) cells)
names_are_words f [] h = refl
names_are_words f (c ∷ cs) h =
    one_more c.name (map (λ (x : Cell). x.name) cs) (All-head (IsSpelledCell f) c cs h).name.spelled (names_are_words f cs (All-tail (IsSpelledCell f) c cs h))

group_is_words : (f : Frame) (t : Team) (cells : List Cell) → is_word_text t.name ≡ true → All (IsSpelledCell f) cells → AreWords (text.team_group_words t cells)
group_is_words f t cells name h =
    one_more t.name (map (λ (c : Cell). c.name) cells ++ codes "+" ∷ codes "REGION" ∷ t.name ∷ codes ";" ∷ []) name
    (after_each_other (map (λ (c : Cell). c.name) cells) (codes "+" ∷ codes "REGION" ∷ t.name ∷ codes ";" ∷ []) (names_are_words f cells h)
    (one_more t.name (codes ";" ∷ []) name refl))

-- Sections.

section_is_words : (keyword : List ℕ) (entries : List (List (List ℕ))) → is_word_text keyword ≡ true → length entries ≤ 4000000 → All AreWords entries
    → All AreWords (section_lines keyword entries)
section_is_words keyword entries word few each =
    All-cons AreWords (keyword ∷ decimal (length entries) ∷ codes ";" ∷ []) (entries ++ (codes "END" ∷ keyword ∷ []) ∷ [])
    (one_more keyword (decimal (length entries) ∷ codes ";" ∷ []) word
    (one_more (decimal (length entries)) (codes ";" ∷ []) (count_is_word (length entries) few) refl))
    (All-append AreWords entries ((codes "END" ∷ keyword ∷ []) ∷ []) each
    (All-cons AreWords (codes "END" ∷ keyword ∷ []) [] (one_more keyword [] word refl) (All-nil AreWords)))

pub region_lines_are_words : (fence : Option Team) → IfSome fence (λ t. (is_word_text t.name ≡ true) × All IsRect t.rects)
    → All AreWords (text.region_lines fence)
region_lines_are_words None h = All-nil AreWords
region_lines_are_words (Some t) h =
    section_is_words (codes "REGIONS") (text.team_region_words t ∷ []) refl (omega arith)
    (All-cons AreWords (text.team_region_words t) [] (region_is_words t h.0 h.1) (All-nil AreWords))

pub group_lines_are_words : (f : Frame) (fence : Option Team) (cells : List Cell) → IfSome fence (λ t. is_word_text t.name ≡ true) → All (IsSpelledCell f) cells
    → All AreWords (text.group_lines fence cells)
group_lines_are_words f None cells h each = All-nil AreWords
group_lines_are_words f (Some t) [] h each = All-nil AreWords
group_lines_are_words f (Some t) (c ∷ cs) h each =
    section_is_words (codes "GROUPS") (text.team_group_words t (c ∷ cs) ∷ []) refl (omega arith)
    (All-cons AreWords (text.team_group_words t (c ∷ cs)) [] (group_is_words f t (c ∷ cs) h each) (All-nil AreWords))

components_are_words : (f : Frame) (cells : List Cell) → All (IsSpelledCell f) cells → All AreWords (map (text.team_component_words f) cells)
components_are_words f [] h = All-nil AreWords
components_are_words f (c ∷ cs) h =
    All-cons AreWords (text.team_component_words f c) (map (text.team_component_words f) cs) (component_is_words f c (All-head (IsSpelledCell f) c cs h))
    (components_are_words f cs (All-tail (IsSpelledCell f) c cs h))

pub component_lines_are_words : (f : Frame) (cells : List Cell) → length (map (text.team_component_words f) cells) ≤ 4000000 → All (IsSpelledCell f) cells
    → All AreWords (section_lines (codes "COMPONENTS") (map (text.team_component_words f) cells))
component_lines_are_words f cells few h = section_is_words (codes "COMPONENTS") (map (text.team_component_words f) cells) refl few (components_are_words f cells h)
