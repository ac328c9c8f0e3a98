-- The lines of a section are the section's words, as in a printed text.
use Rattle.std.proofs.Common.{◌≡◌, ◌≢◌, ℕ, ◌≤◌, true, List, [], ◌∷◌, ◌++◌, map, length, pos, Option, Some, None, Ok, refl, ap, sym, ◌∙◌, append-nil, arith}
use Rattle.std.specs.Prelude.{codes, decimal}
use Rattle.std.specs.List.{flat_map}
use Rattle.std.specs.Fmt.{signed_decimal}
use Rattle.std.proofs.lemmas.Int.{ints}
use Rattle.std.proofs.lemmas.List.{map-append}
use Rattle.lf_units.specs.declared.geometry.Rect.{Rect}
use Rattle.lf_units.specs.Number.{fixed_of}
use Rattle.lf_lex.specs.Tokens.{PlainToken}
use Rattle.lf_lex.specs.Splices.{is_word_text, plain_word}
use Rattle.lf_def.specs.declared.regions.RegionKind.TheVariants.{Fence}
use Rattle.lf_def.specs.Ranges.{IsDefCoordinate}
use Rattle.lf_def.specs.Printed as print
use Rattle.lf_def.specs.Printed.{entries_words, section_words, rects_words, region_kind_words}
use Rattle.lf_def.proofs.PrintedNumbers.{decimals_are_read, decimals_are_words}
use Rattle.lf_floorplan.specs.declared.frame.Frame.{Frame}
use Rattle.lf_floorplan.specs.declared.parts.Team.{Team}
use Rattle.lf_floorplan.specs.declared.place.Place.{Place}
use Rattle.lf_floorplan.specs.Boxes.{macro_of}
use Rattle.lf_cells.specs.declared.cell.Cell.{Cell}
use Rattle.lf_team_def.specs.Clauses.{clause_words}
use Rattle.lf_team_def.specs.TeamText as text
use Rattle.lf_team_def.specs.TeamText.{section_lines}
use Rattle.lf_laws_roundtrip.specs.TeamDocument.{clause_of_place, component_of, region_of, group_of}

-- The words of lines, in order.
words_of_lines : (lines : List (List (List ℕ))) → flat_map (map plain_word) lines ≡ map plain_word (flat_map (λ l. l) lines)
words_of_lines [] = refl
words_of_lines (l ∷ ls) = ap (λ (y : List PlainToken). map plain_word l ++ y) (words_of_lines ls) ∙ sym (map-append plain_word l (flat_map (λ (x : List (List ℕ)). x) ls))

entry_lines : {A : Type 0} (words : A → List (List ℕ)) (xs : List A) (last : List (List ℕ))
    → flat_map (λ l. l) (map (λ x. codes "-" ∷ words x) xs ++ last ∷ []) ≡ entries_words words xs last
entry_lines words [] last = append-nil last
entry_lines words (x ∷ xs) last = ap (λ (y : List (List ℕ)). codes "-" ∷ (words x ++ y)) (entry_lines words xs last)

-- The tokens of a section's lines.
pub section_tokens : {A : Type 0} (keyword : List ℕ) (words : A → List (List ℕ)) (xs : List A) (entries : List (List (List ℕ)))
    → entries ≡ map (λ x. codes "-" ∷ words x) xs
    → flat_map (map plain_word) (section_lines keyword entries) ≡ map plain_word (keyword ∷ section_words keyword (decimal (length entries)) words xs)
section_tokens keyword words xs entries is =
    words_of_lines (section_lines keyword entries)
    ∙ ap (λ (y : List (List ℕ)). map plain_word (keyword ∷ decimal (length entries) ∷ codes ";" ∷ y))
    (ap (λ (es : List (List (List ℕ))). flat_map (λ (l : List (List ℕ)). l) (es ++ (codes "END" ∷ keyword ∷ []) ∷ [])) is
    ∙ entry_lines words xs (codes "END" ∷ keyword ∷ []))

-- Entries.

clause_is : (name mac : List ℕ) (place : Option Place)
    → codes "-" ∷ name ∷ mac ∷ (clause_words place ++ codes ";" ∷ [])
    ≡ codes "-" ∷ name ∷ mac ∷ print.placement_words signed_decimal (Some (clause_of_place place))
clause_is name mac None = refl
clause_is name mac (Some p) = refl

pub component_lines : (f : Frame) (cells : List Cell)
    → map (text.team_component_words f) cells ≡ map (λ x. codes "-" ∷ print.component_words signed_decimal x) (map (component_of f) cells)
component_lines f [] = refl
component_lines f (c ∷ cs) =
    ap (λ (l : List (List ℕ)). l ∷ map (text.team_component_words f) cs) (clause_is c.name (macro_of f c.mac).name c.working)
    ∙ ap (λ (ls : List (List (List ℕ))). (codes "-" ∷ print.component_words signed_decimal (component_of f c)) ∷ ls) (component_lines f cs)

rects_are : (rs : List Rect) (rest : List (List ℕ)) → flat_map text.team_rect_words rs ++ rest ≡ rects_words signed_decimal rs rest
rects_are [] rest = refl
rects_are (r ∷ rs) rest =
    ap (λ (l : List (List ℕ)). codes "(" ∷ signed_decimal r.x1 ∷ signed_decimal r.y1 ∷ codes ")"
    ∷ codes "(" ∷ signed_decimal r.x2 ∷ signed_decimal r.y2 ∷ codes ")" ∷ l) (rects_are rs rest)

pub region_lines : (t : Team) → text.team_region_words t ∷ [] ≡ map (λ x. codes "-" ∷ print.region_words signed_decimal x) (region_of t ∷ [])
region_lines t = ap (λ (l : List (List ℕ)). (codes "-" ∷ t.name ∷ l) ∷ []) (rects_are t.rects (region_kind_words (Some Fence)))

pub group_lines : (t : Team) (cells : List Cell) → text.team_group_words t cells ∷ [] ≡ map (λ x. codes "-" ∷ print.group_words x) (group_of t cells ∷ [])
group_lines t cells = refl

-- Counts.

small : (n : ℕ) → n ≤ 4000000 → IsDefCoordinate (pos n)
small n le = record { low = omega (arith, ints); high = omega (arith, ints) }

pub count_is_word : (n : ℕ) → n ≤ 4000000 → is_word_text (decimal n) ≡ true
count_is_word n le = decimals_are_words (pos n) (small n le)

pub count_is_other : (n : ℕ) → n ≤ 4000000 → decimal n ≢ codes ";"
count_is_other n le e = let read : fixed_of (codes ";") 0 2147483647 ≡ Ok (pos n) = ap (λ (w : List ℕ). fixed_of w 0 2147483647) (sym e)
    ∙ decimals_are_read (pos n) (small n le) in cc
