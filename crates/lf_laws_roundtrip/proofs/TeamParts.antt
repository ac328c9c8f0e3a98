-- The text of a team as a printed text. Each of its parts can be printed.
use Rattle.std.proofs.Common.{◌≡◌, ◌≢◌, ℕ, ◌≤◌, true, List, [], ◌∷◌, ◌++◌, All, map, length, get_or, Option, Some, None, refl, ap, sym, ◌∙◌, append_assoc}
use Rattle.std.proofs.Common.{append-nil, subst, arith}
use Rattle.std.specs.Prelude.{codes, decimal, IfSome, IsSome, slice_get}
use Rattle.std.specs.List.{flat_map}
use Rattle.std.specs.Fmt.{signed_decimal}
use Rattle.std.proofs.lemmas.List.{length-map}
use Rattle.std.proofs.lemmas.List.Concat.{flat_map-append}
use Rattle.std.proofs.lemmas.Option.{get_or_from_slice_get, slice_get_within}
use Rattle.std.proofs.lemmas.List.Elements.{All-nil, All-cons, All-append, All-map, All-head}
use Rattle.lf_lex.specs.Tokens.{PlainToken}
use Rattle.lf_lex.specs.Splices.{is_word_text, plain_word}
use Rattle.lf_def.specs.Ranges.{IsRect, IsLocation}
use Rattle.lf_def.specs.Printed.{IsWord, IsPattern, IsRegionName, IsPrintedRegion, IsPrintedGroup, IsPrintedComponent, HasPlace}
use Rattle.lf_def.specs.Printed as print
use Rattle.lf_def.specs.Document.{Document, no_parts}
use Rattle.lf_def.specs.PrintedTexts.{with_parts, TextPart, version_is, divider_is, brackets_are, design_is, units_are, regions_section, groups_section}
use Rattle.lf_def.specs.PrintedTexts.{components_section, part_tokens, text_tokens, IsPrintedPart, printed_document, ReadsApartFromOffsets}
use Rattle.lf_def.proofs.PrintedNumbers.{decimals_are_read}
use Rattle.lf_def.proofs.PrintedTexts.{parts_read_back}
use Rattle.lf_floorplan.specs.declared.frame.Frame.{Frame}
use Rattle.lf_floorplan.specs.declared.parts.Header.{Header}
use Rattle.lf_floorplan.specs.declared.parts.Team.{Team}
use Rattle.lf_floorplan.specs.declared.place.Place.{Place}
use Rattle.lf_floorplan.specs.Bounds.{IsLimit}
use Rattle.lf_floorplan.specs.Fences.{IsFence}
use Rattle.lf_cells.specs.declared.cell.Cell.{Cell}
use Rattle.lf_frame.specs.Loads.{as_location}
use Rattle.lf_team_def.specs.TeamText as text
use Rattle.lf_team_def.specs.TeamText.{words_line, section_lines, team_lines, team_text}
use Rattle.lf_laws_roundtrip.specs.Spelled.{IsSpelledName, IsSpelledHeader, IsSpelledCell, CanBeBound}
use Rattle.lf_laws_roundtrip.specs.TeamDocument.{clause_of_place, component_of, region_of, regions_of, group_of, groups_of, TeamTextReadsBack}
use Rattle.lf_laws_roundtrip.proofs.Fronts.{read, read_nothing, AreWords, line_front, lines_front, quoted_line}
use Rattle.lf_laws_roundtrip.proofs.Words.{one_more, rect_in_range, region_lines_are_words, group_lines_are_words, component_lines_are_words}
use Rattle.lf_laws_roundtrip.proofs.Lines.{section_tokens, component_lines, region_lines, group_lines, count_is_word, count_is_other}

-- The parts.

abbrev region_parts : Option Team → List TextPart
region_parts None = []
region_parts (Some t) = regions_section (decimal 1) (region_of t ∷ []) ∷ []

abbrev group_parts : Option Team → List Cell → List TextPart
group_parts None cells = []
group_parts (Some t) [] = []
group_parts (Some t) (c ∷ cs) = groups_section (decimal 1) (group_of t (c ∷ cs) ∷ []) ∷ []

abbrev section_parts : Frame → Option Team → List Cell → List TextPart
section_parts f fence cells = region_parts fence
    ++ components_section (decimal (length (map (text.team_component_words f) cells))) (map (component_of f) cells) ∷ group_parts fence cells

-- The parts from one of the header's statements on.
abbrev from_units : Frame → Option Team → List Cell → List TextPart
from_units f fence cells = units_are f.header.units ∷ section_parts f fence cells

abbrev from_design : Frame → Option Team → List Cell → List TextPart
from_design f fence cells = design_is f.header.design ∷ from_units f fence cells

abbrev from_brackets : Frame → Option Team → List Cell → List TextPart
from_brackets f fence cells = brackets_are f.header.brackets ∷ from_design f fence cells

abbrev from_divider : Frame → Option Team → List Cell → List TextPart
from_divider f fence cells = divider_is f.header.divider ∷ from_brackets f fence cells

abbrev parts : Frame → Option Team → List Cell → List TextPart
parts f fence cells = version_is f.header.version ∷ from_divider f fence cells

-- The tokens.

abbrev tokens_of_parts : List TextPart → List PlainToken
tokens_of_parts ps = text_tokens signed_decimal ps

abbrev section_text : Frame → Option Team → List Cell → List (List (List ℕ))
section_text f fence cells =
    text.region_lines fence
    ++ (section_lines (codes "COMPONENTS") (map (text.team_component_words f) cells) ++ (text.group_lines fence cells ++ (codes "END" ∷ codes "DESIGN" ∷ []) ∷ []))

group_tokens : (fence : Option Team) (cells : List Cell)
    → flat_map (map plain_word) (text.group_lines fence cells ++ (codes "END" ∷ codes "DESIGN" ∷ []) ∷ []) ≡ tokens_of_parts (group_parts fence cells)
group_tokens None cells = refl
group_tokens (Some t) [] = refl
group_tokens (Some t) (c ∷ cs) =
    flat_map-append (map plain_word) (section_lines (codes "GROUPS") (text.team_group_words t (c ∷ cs) ∷ [])) ((codes "END" ∷ codes "DESIGN" ∷ []) ∷ [])
    ∙ ap (λ (y : List PlainToken). y ++ map plain_word (codes "END" ∷ codes "DESIGN" ∷ []))
    (section_tokens (codes "GROUPS") print.group_words (group_of t (c ∷ cs) ∷ []) (text.team_group_words t (c ∷ cs) ∷ []) (group_lines t (c ∷ cs)))

component_tokens : (f : Frame) (fence : Option Team) (cells : List Cell)
    → flat_map (map plain_word) (section_lines (codes "COMPONENTS") (map (text.team_component_words f) cells)
    ++ (text.group_lines fence cells ++ (codes "END" ∷ codes "DESIGN" ∷ []) ∷ []))
    ≡ tokens_of_parts (components_section (decimal (length (map (text.team_component_words f) cells))) (map (component_of f) cells) ∷ group_parts fence cells)
component_tokens f fence cells =
    let lines : List (List (List ℕ)) = map (text.team_component_words f) cells in
    flat_map-append (map plain_word) (section_lines (codes "COMPONENTS") lines) (text.group_lines fence cells ++ (codes "END" ∷ codes "DESIGN" ∷ []) ∷ [])
    ∙ ap (λ (y : List PlainToken). y ++ flat_map (map plain_word) (text.group_lines fence cells ++ (codes "END" ∷ codes "DESIGN" ∷ []) ∷ []))
    (section_tokens (codes "COMPONENTS") (print.component_words signed_decimal) (map (component_of f) cells) lines (component_lines f cells))
    ∙ ap (λ (y : List PlainToken). part_tokens signed_decimal (components_section (decimal (length lines)) (map (component_of f) cells)) ++ y)
    (group_tokens fence cells)

section_text_tokens : (f : Frame) (fence : Option Team) (cells : List Cell)
    → flat_map (map plain_word) (section_text f fence cells) ≡ tokens_of_parts (section_parts f fence cells)
section_text_tokens f None cells = component_tokens f None cells
section_text_tokens f (Some t) cells =
    let after_it : List (List (List ℕ)) =
    section_lines (codes "COMPONENTS") (map (text.team_component_words f) cells) ++ (text.group_lines (Some t) cells ++ (codes "END" ∷ codes "DESIGN" ∷ []) ∷ []) in
    flat_map-append (map plain_word) (section_lines (codes "REGIONS") (text.team_region_words t ∷ [])) after_it
    ∙ ap (λ (y : List PlainToken). y ++ flat_map (map plain_word) after_it)
    (section_tokens (codes "REGIONS") (print.region_words signed_decimal) (region_of t ∷ []) (text.team_region_words t ∷ []) (region_lines t))
    ∙ ap (λ (y : List PlainToken). part_tokens signed_decimal (regions_section (decimal 1) (region_of t ∷ [])) ++ y) (component_tokens f (Some t) cells)

section_text_are_words : (f : Frame) (fence : Option Team) (cells : List Cell) → IfSome fence (λ t. (is_word_text t.name ≡ true) × All IsRect t.rects)
    → length (map (text.team_component_words f) cells) ≤ 4000000 → All (IsSpelledCell f) cells → All AreWords (section_text f fence cells)
section_text_are_words f fence cells h few each =
    All-append AreWords (text.region_lines fence) _ (region_lines_are_words fence h)
    (All-append AreWords (section_lines (codes "COMPONENTS") (map (text.team_component_words f) cells)) _ (component_lines_are_words f cells few each)
    (All-append AreWords (text.group_lines fence cells) ((codes "END" ∷ codes "DESIGN" ∷ []) ∷ []) (group_lines_are_words f fence cells (named fence h) each)
    (All-cons AreWords (codes "END" ∷ codes "DESIGN" ∷ []) [] refl (All-nil AreWords))))
  where
    named : (fence : Option Team) → IfSome fence (λ t. (is_word_text t.name ≡ true) × All IsRect t.rects) → IfSome fence (λ t. is_word_text t.name ≡ true)
    named None h = tt
    named (Some t) h = h.0

-- The lines of a header from one of its statements on.
abbrev units_line : Header → List (List (List ℕ))
units_line h = (codes "UNITS" ∷ codes "DISTANCE" ∷ codes "MICRONS" ∷ decimal h.units ∷ codes ";" ∷ []) ∷ []

abbrev design_line : Header → List (List (List ℕ))
design_line h = (codes "DESIGN" ∷ h.design ∷ codes ";" ∷ []) ∷ units_line h

abbrev brackets_line : Header → List (List (List ℕ))
brackets_line h = (codes "BUSBITCHARS" ∷ h.brackets ∷ codes ";" ∷ []) ∷ design_line h

abbrev divider_line : Header → List (List (List ℕ))
divider_line h = (codes "DIVIDERCHAR" ∷ h.divider ∷ codes ";" ∷ []) ∷ brackets_line h

-- The tokens of the header's lines, and of what follows them.
header_tokens : (h : Header) (rest : List ℕ) → IsSpelledHeader h → IsLimit h.units 20000
    → read (flat_map words_line (text.header_lines h) ++ rest)
    ≡ part_tokens signed_decimal (version_is h.version)
    ++ (part_tokens signed_decimal (divider_is h.divider) ++ (part_tokens signed_decimal (brackets_are h.brackets)
    ++ (part_tokens signed_decimal (design_is h.design) ++ (part_tokens signed_decimal (units_are h.units) ++ read rest))))
header_tokens h rest spelled count =
    head (codes "VERSION" ∷ h.version ∷ codes ";" ∷ []) (divider_line h) rest (part_tokens signed_decimal (version_is h.version))
    (λ more. line_front (codes "VERSION" ∷ h.version ∷ codes ";" ∷ []) more
    (one_more h.version (codes ";" ∷ []) spelled.version.spelled refl))
    ∙ ap (λ (y : List PlainToken). part_tokens signed_decimal (version_is h.version) ++ y)
    (head (codes "DIVIDERCHAR" ∷ h.divider ∷ codes ";" ∷ []) (brackets_line h) rest (part_tokens signed_decimal (divider_is h.divider))
    (λ more. quoted_line (codes "DIVIDERCHAR") h.divider spelled.divider.more more refl spelled.divider.text spelled.divider.closed)
    ∙ ap (λ (y : List PlainToken). part_tokens signed_decimal (divider_is h.divider) ++ y)
    (head (codes "BUSBITCHARS" ∷ h.brackets ∷ codes ";" ∷ []) (design_line h) rest (part_tokens signed_decimal (brackets_are h.brackets))
    (λ more. quoted_line (codes "BUSBITCHARS") h.brackets spelled.brackets.more more refl spelled.brackets.text spelled.brackets.closed)
    ∙ ap (λ (y : List PlainToken). part_tokens signed_decimal (brackets_are h.brackets) ++ y)
    (head (codes "DESIGN" ∷ h.design ∷ codes ";" ∷ []) (units_line h) rest (part_tokens signed_decimal (design_is h.design))
    (λ more. line_front (codes "DESIGN" ∷ h.design ∷ codes ";" ∷ []) more (one_more h.design (codes ";" ∷ []) spelled.design.spelled refl))
    ∙ ap (λ (y : List PlainToken). part_tokens signed_decimal (design_is h.design) ++ y)
    (head (codes "UNITS" ∷ codes "DISTANCE" ∷ codes "MICRONS" ∷ decimal h.units ∷ codes ";" ∷ []) [] rest (part_tokens signed_decimal (units_are h.units))
    (λ more. line_front (codes "UNITS" ∷ codes "DISTANCE" ∷ codes "MICRONS" ∷ decimal h.units ∷ codes ";" ∷ []) more
    (one_more (decimal h.units) (codes ";" ∷ []) (count_is_word h.units (omega (arith, count.most))) refl))))))
  where
    head : (l : List (List ℕ)) (ls : List (List (List ℕ))) (rest : List ℕ) (tokens : List PlainToken)
        → ((more : List ℕ) → read (words_line l ++ more) ≡ tokens ++ read more)
        → read (flat_map words_line (l ∷ ls) ++ rest) ≡ tokens ++ read (flat_map words_line ls ++ rest)
    head l ls rest tokens each = ap read (append_assoc (words_line l) (flat_map words_line ls) rest) ∙ each (flat_map words_line ls ++ rest)

text_tokens_are : (f : Frame) (fence : Option Team) (cells : List Cell) → IsSpelledHeader f.header → IsLimit f.header.units 20000
    → IfSome fence (λ t. (is_word_text t.name ≡ true) × All IsRect t.rects) → length (map (text.team_component_words f) cells) ≤ 4000000
    → All (IsSpelledCell f) cells
    → read (flat_map words_line (team_lines f fence cells)) ≡ tokens_of_parts (parts f fence cells)
text_tokens_are f fence cells header count h few each =
    let sections : read (flat_map words_line (section_text f fence cells)) ≡ tokens_of_parts (section_parts f fence cells) =
    ap read (sym (append-nil (flat_map words_line (section_text f fence cells))))
    ∙ lines_front (section_text f fence cells) [] (section_text_are_words f fence cells h few each)
    ∙ ap (λ (y : List PlainToken). flat_map (map plain_word) (section_text f fence cells) ++ y) read_nothing
    ∙ append-nil (flat_map (map plain_word) (section_text f fence cells))
    ∙ section_text_tokens f fence cells in
    ap read (flat_map-append words_line (text.header_lines f.header) (section_text f fence cells))
    ∙ header_tokens f.header (flat_map words_line (section_text f fence cells)) header count
    ∙ ap (λ (y : List PlainToken). part_tokens signed_decimal (version_is f.header.version) ++ (part_tokens signed_decimal (divider_is f.header.divider)
    ++ (part_tokens signed_decimal (brackets_are f.header.brackets) ++ (part_tokens signed_decimal (design_is f.header.design)
    ++ (part_tokens signed_decimal (units_are f.header.units) ++ y))))) sections

-- The parts can be printed.

fence_of : {X : Type 0} (P : X → Type 0) (xs : List X) (n : ℕ) → All P xs → (o : Option X) → slice_get xs n ≡ o → IfSome o P
fence_of P xs n all None is = tt
fence_of P xs n all (Some x) is = subst P (get_or_from_slice_get xs n x x is) (all n x (slice_get_within xs n x is))

place_printed : (p : Option Place) → IfSome p (λ q. IsLocation (as_location q)) → HasPlace (clause_of_place p).kind (clause_of_place p).place
place_printed None h = tt
place_printed (Some q) h = h

components_printed : (f : Frame) (cells : List Cell) → All (IsSpelledCell f) cells → All IsPrintedComponent (map (component_of f) cells)
components_printed f cells each =
    All-map IsPrintedComponent (component_of f) cells (λ k d within. one (get_or cells k d) (each k d within))
  where
    one : (c : Cell) → IsSpelledCell f c → IsPrintedComponent (component_of f c)
    one c h = record { name = h.name.word; mac = h.mac.word; placement = place_printed c.working h.place }

patterns_printed : (f : Frame) (cells : List Cell) → All (IsSpelledCell f) cells → All (λ c. c.name ≢ codes "+") cells → All IsPattern (map (λ c. c.name) cells)
patterns_printed f cells each other =
    All-map IsPattern (λ (c : Cell). c.name) cells (λ k d within. record { word = (each k d within).name.word; other = other k d within })

region_printed : (t : Team) → IsSpelledName t.name → IsFence t → IsPrintedRegion (region_of t)
region_printed t name fence = record {
  name = name.word;
  rects = λ k d within. rect_in_range (get_or t.rects k d) (fence.rects_in_def k d within);
  some = λ e. let none : length t.rects ≡ 0 = ap length e in let some = fence.has_rect in absurd (omega arith);
}

group_printed : (f : Frame) (t : Team) (cells : List Cell) → IsSpelledName t.name → All (IsSpelledCell f) cells → CanBeBound t.name cells → t.name ≢ codes "("
    → IsPrintedGroup (group_of t cells)
group_printed f t cells name each bound other = record {
  name = name.word;
  patterns = patterns_printed f cells each bound.patterns;
  region = record { word = name.word; other = other };
}

one_part : (p : TextPart) → IsPrintedPart p → All IsPrintedPart (p ∷ [])
one_part p h = All-cons IsPrintedPart p [] h (All-nil IsPrintedPart)

abbrev FenceIsSpelled : List Cell → Team → Type 0
FenceIsSpelled cells t = IsSpelledName t.name × CanBeBound t.name cells

region_parts_printed : (fence : Option Team) (cells : List Cell) → IfSome fence (FenceIsSpelled cells) → IfSome fence IsFence
    → All IsPrintedPart (region_parts fence)
region_parts_printed None cells spelled whole = All-nil IsPrintedPart
region_parts_printed (Some t) cells spelled whole =
    one_part (regions_section (decimal 1) (region_of t ∷ []))
    (count_is_other 1 (omega arith), All-cons IsPrintedRegion (region_of t) [] (region_printed t spelled.0 whole) (All-nil IsPrintedRegion))

group_parts_printed : (f : Frame) (fence : Option Team) (cells : List Cell) → IfSome fence (FenceIsSpelled cells) → All (IsSpelledCell f) cells
    → All IsPrintedPart (group_parts fence cells)
group_parts_printed f None cells spelled each = All-nil IsPrintedPart
group_parts_printed f (Some t) [] spelled each = All-nil IsPrintedPart
group_parts_printed f (Some t) (c ∷ cs) spelled each =
    one_part (groups_section (decimal 1) (group_of t (c ∷ cs) ∷ [])) (
      count_is_other 1 (omega arith),
      All-cons IsPrintedGroup (group_of t (c ∷ cs)) []
          (group_printed f t (c ∷ cs) spelled.0 each spelled.1 (All-head (λ (x : Cell). t.name ≢ codes "(") c cs spelled.1.region)) (All-nil IsPrintedGroup),
    )

parts_printed : (f : Frame) (fence : Option Team) (cells : List Cell) → IsSpelledHeader f.header → IsLimit f.header.units 20000
    → IfSome fence (FenceIsSpelled cells) → IfSome fence IsFence → length (map (text.team_component_words f) cells) ≤ 4000000 → All (IsSpelledCell f) cells
    → All IsPrintedPart (parts f fence cells)
parts_printed f fence cells header count spelled whole few each =
    All-cons IsPrintedPart (version_is f.header.version) (from_divider f fence cells) header.version.other
    (All-cons IsPrintedPart (divider_is f.header.divider) (from_brackets f fence cells) tt
    (All-cons IsPrintedPart (brackets_are f.header.brackets) (from_design f fence cells) tt
    (All-cons IsPrintedPart (design_is f.header.design) (from_units f fence cells) header.design.word
    (All-cons IsPrintedPart (units_are f.header.units) (section_parts f fence cells) (record { some = count.least; few = count.most })
    (All-append IsPrintedPart (region_parts fence)
    (components_section (decimal (length (map (text.team_component_words f) cells))) (map (component_of f) cells) ∷ group_parts fence cells)
    (region_parts_printed fence cells spelled whole)
    (All-cons IsPrintedPart (components_section (decimal (length (map (text.team_component_words f) cells))) (map (component_of f) cells)) (group_parts fence cells)
    (count_is_other (length (map (text.team_component_words f) cells)) few, components_printed f cells each)
    (group_parts_printed f fence cells spelled each)))))))

-- The document of the parts.

abbrev document_by : Frame → Option Team → List Cell → Document
document_by f fence cells = record {
  header = record {
    version = f.header.version;
    divider = f.header.divider;
    brackets = f.header.brackets;
    design = f.header.design;
    units = Some f.header.units;
  };
  rows = [];
  regions = regions_of fence;
  groups = groups_of fence cells;
  components = map (component_of f) cells;
  blockages = [];
}

parts_say : (f : Frame) (fence : Option Team) (cells : List Cell) → printed_document (parts f fence cells) ≡ document_by f fence cells
parts_say f None cells = refl
parts_say f (Some t) [] = refl
parts_say f (Some t) (c ∷ cs) = refl

named : (f : Frame) (fence : Option Team) (cells : List Cell) → IsSome (with_parts no_parts (parts f fence cells)).header.design
named f None cells = refl
named f (Some t) [] = refl
named f (Some t) (c ∷ cs) = refl

says : (f : Frame) (fence : Option Team) (cells : List Cell) → IsSpelledHeader f.header → IfSome fence (FenceIsSpelled cells) → IfSome fence IsFence
    → length cells ≤ 4000000 → All (IsSpelledCell f) cells → ReadsApartFromOffsets (flat_map words_line (team_lines f fence cells)) (document_by f fence cells)
says f fence cells header spelled whole few each =
    let many : length (map (text.team_component_words f) cells) ≤ 4000000 = omega (arith, length-map cells (text.team_component_words f)) in
    subst (λ (d : Document). ReadsApartFromOffsets (flat_map words_line (team_lines f fence cells)) d) (parts_say f fence cells)
    (parts_read_back signed_decimal decimals_are_read (parts f fence cells) (parts_printed f fence cells header f.units_in_range spelled whole many each)
    (named f fence cells)
    (flat_map words_line (team_lines f fence cells)) (
      [],
      text_tokens_are f fence cells header f.units_in_range (words fence spelled whole) many each
          ∙ sym (append-nil (tokens_of_parts (parts f fence cells))),
    ))
  where
    words : (fence : Option Team) → IfSome fence (FenceIsSpelled cells) → IfSome fence IsFence
        → IfSome fence (λ t. (is_word_text t.name ≡ true) × All IsRect t.rects)
    words None h g = tt
    words (Some t) h g = (h.0.spelled, λ k d within. rect_in_range (get_or t.rects k d) (g.rects_in_def k d within))

pub team_reads_back : TeamTextReadsBack
unfolding team_text
team_reads_back f number cells h =
    says f (slice_get f.teams number) cells h.header h.fence (fence_of IsFence f.teams number f.fences_whole (slice_get f.teams number) refl) h.few h.each
